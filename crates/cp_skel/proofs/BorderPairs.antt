-- The pairs of segments that meet at the borders, edge by edge, and which clusters some edge leaves.
use Rattle.std.proofs.Common.{◌≡◌, ℕ, ◌+◌, ◌*◌, ◌/◌, ◌<◌, Bool, true, false, List, [], ◌∷◌, ◌++◌, length, map, append_assoc, sym, refl, ap, ap₂, ◌∙◌, subst, inl, ⊎_elim, arith}
use Rattle.std.specs.Prelude.{cond, eqb, ltb, slice_index, slice_index_or, slice_set}
use Rattle.std.specs.List.{filter}
use Rattle.std.proofs.lemmas.Bool.{cases_Bool, cases_eq, cond-false, cond-true, eq-eqb, false≢true, lt-ltb, ne_eqb}
use Rattle.std.proofs.lemmas.List.{append-nil, get_or-set_other, get_or-set_same, length-map, length-set, map-append}
use Rattle.std.proofs.lemmas.List.Elements.{filter-append}
use Rattle.cp_lists.specs.CyclicLists.{Distinct, Has, Lacks}
use Rattle.cp_lists.proofs.DistinctLists.{Exactly-Distinct, Exactly-Has, Lacks-from, has_lacks}
use Rattle.cp_lists.proofs.FilteredLists.{Has-filter, filter-Has, filter_no, filter_yes}
use Rattle.cp_lists.specs.Count.{Exactly}
use Rattle.cp_cgraph.specs.Clustered.{Clustered, IsClustered, clusters, edges, source, target}
use Rattle.cp_cgraph.specs.Crossings.{contains, crossings, leaves}
use Rattle.cp_border.specs.Borders.{crossed, first_segment}
use Rattle.cp_border.proofs.Numbering.{sum_below-next}
use Rattle.cp_border.proofs.Rotation.{IsCrossing, crossing_of}
use Rattle.cp_skel.specs.SkeletonLists.{crossing_place, dart_before, dart_behind}
use Rattle.cp_skel.specs.Skeletons.{below, is_left, kept_segments, segment_name}
use Rattle.cp_skel.specs.SkeletonTables.{AreEmpty, ArePaired, border_pair_of, first_name, first_pairs, kept_count}
use Rattle.cp_skel.proofs.DartVertices.{leaves-no_loop}
use Rattle.cp_skel.proofs.GatheredLists.{kept_more}
use Rattle.cp_skel.proofs.Ranges.{Has-range, range-Has}
use Rattle.cp_skel.proofs.SegmentNames.{length-kept_segments, segment_name-is}
use Rattle.cp_skel.proofs.SkeletonPipes.{left-edge}
use Rattle.cp_skel.proofs.SkeletonVertices.{is_left-from}

-- no item is c
filter_lacking : (c : ℕ) (cs : List ℕ) → Lacks c cs → filter (λ x. eqb x c) cs ≡ []
filter_lacking c [] lacks = refl
filter_lacking c (x ∷ cs) lacks =
    filter_no (λ y. eqb y c) x cs (ne_eqb x c lacks.0) ∙ filter_lacking c cs lacks.1

-- one item is c
filter_single : (c : ℕ) (cs : List ℕ) → Distinct cs → Has c cs → filter (λ x. eqb x c) cs ≡ c ∷ []
filter_single c [] once h = absurd h
filter_single c (x ∷ cs) once h = ⊎_elim
    (λ same.
    filter_yes (λ y. eqb y c) x cs (eq-eqb x c same)
    ∙ ap (λ (ys : List ℕ). x ∷ ys) (filter_lacking c cs (subst (λ y. Lacks y cs) same once.0))
    ∙ ap (λ (y : ℕ). y ∷ []) same)
    (λ k.
    filter_no (λ y. eqb y c) x cs (ne_eqb x c (λ e. has_lacks c cs k (subst (λ y. Lacks y cs) e once.0)))
    ∙ filter_single c cs once.1 k)
    h

-- of the numbers that a test tells, each once, those that are c
filter-Exactly : (n : ℕ) (p : ℕ → Bool) (cs : List ℕ) (c : ℕ) → Exactly n p cs → c < n
    → filter (λ x. eqb x c) cs ≡ cond (p c) (c ∷ []) []
filter-Exactly n p cs c exact lt = ⊎_elim
    (λ t.
    filter_single c cs (Exactly-Distinct n p cs exact) ((Exactly-Has n p cs exact c).1 (lt, t))
    ∙ sym (cond-true (p c) (c ∷ []) [] t))
    (λ f.
    filter_lacking c cs
    (Lacks-from c cs (λ h. false≢true (sym f ∙ ((Exactly-Has n p cs exact c).0 h).1)))
    ∙ sym (cond-false (p c) (c ∷ []) [] f))
    (cases_Bool (p c))

-- the names of the segments of an edge at a border
module _ (g : Clustered) (is : IsClustered g) (c e : ℕ) (lt : e < edges g) (cluster : c < clusters g)
    (left : leaves g c e ≡ true) where
  -- of the one before it
  name_before : segment_name g (dart_before g c e) ≡ first_name g e + crossing_place g e c
  name_before =
      let i : ℕ = crossing_place g e c in
      let at : IsCrossing g e (crossing_place g e c) c = crossing_of g is e c lt cluster left in
      segment_name-is g (dart_before g c e / 2) e i record {
        edge = lt;
        no_loop = leaves-no_loop g c e left;
        within = omega (arith, at.within);
        is = let h : (2 * (first_segment g e + i) + 1) / 2 ≡ first_segment g e + i = omega arith in h;
      }

  -- and of the one behind it
  name_behind : segment_name g (dart_behind g c e) ≡ first_name g e + crossing_place g e c + 1
  name_behind =
      let i : ℕ = crossing_place g e c in
      let at : IsCrossing g e (crossing_place g e c) c = crossing_of g is e c lt cluster left in
      segment_name-is g (dart_behind g c e / 2) e (i + 1) record {
        edge = lt;
        no_loop = leaves-no_loop g c e left;
        within = omega (arith, at.within);
        is = let h : 2 * (first_segment g e + i + 1) / 2 ≡ first_segment g e + (i + 1) = omega arith in h;
      }
      ∙ (let h : first_name g e + (i + 1) ≡ first_name g e + i + 1 = omega arith in h)

  -- the pair where the edge leaves the cluster
  pub pair_outward : (ahead : ℕ) → ahead ≡ first_name g e + crossing_place g e c → contains g c (source g e) ≡ true
      → (ahead + 1, ahead) ≡ border_pair_of g c e
  pair_outward ahead is_ahead t =
      let b : Bool = contains g c (source g e) in
      let x : ℕ = dart_before g c e in
      let y : ℕ = dart_behind g c e in
      ap₂ (λ (m n : ℕ). (m, n))
      (ap (λ (m : ℕ). m + 1) is_ahead ∙ sym name_behind ∙ ap (segment_name g) (sym (cond-true b y x t)))
      (is_ahead ∙ sym name_before ∙ ap (segment_name g) (sym (cond-true b x y t)))

  -- and where it enters it
  pub pair_inward : (ahead : ℕ) → ahead ≡ first_name g e + crossing_place g e c → contains g c (source g e) ≡ false
      → (ahead, ahead + 1) ≡ border_pair_of g c e
  pair_inward ahead is_ahead f =
      let b : Bool = contains g c (source g e) in
      let x : ℕ = dart_before g c e in
      let y : ℕ = dart_behind g c e in
      ap₂ (λ (m n : ℕ). (m, n))
      (is_ahead ∙ sym name_before ∙ ap (segment_name g) (sym (cond-false b y x f)))
      (ap (λ (m : ℕ). m + 1) is_ahead ∙ sym name_behind ∙ ap (segment_name g) (sym (cond-false b x y f)))

  -- both are names
  pub ahead-lt : first_name g e + crossing_place g e c + 1 < length (kept_segments g)
  ahead-lt =
      let at : IsCrossing g e (crossing_place g e c) c = crossing_of g is e c lt cluster left in
      let next = sum_below-next (kept_count g) e (edges g) lt in
      let all : kept_count g e ≡ crossed g e + 1 =
      cond-false (eqb (source g e) (target g e)) 0 (crossed g e + 1)
      (ne_eqb (source g e) (target g e) (leaves-no_loop g c e left)) in
      omega (arith, at.within, next, all, length-kept_segments g)

-- no edge has been looked at
pub ArePaired-none : (g : Clustered) (pairs : List (List (ℕ × ℕ))) → AreEmpty (clusters g) pairs
    → ArePaired g 0 [] pairs
ArePaired-none g pairs empty = record { size = empty.size; each = empty.each }

-- one border more of edge n
pub ArePaired-more : (g : Clustered) (n : ℕ) (cs : List ℕ) (c : ℕ) (pairs new : List (List (ℕ × ℕ)))
    → ArePaired g n cs pairs → c < clusters g
    → new ≡ slice_set pairs c (slice_index_or pairs c [] ++ border_pair_of g c n ∷ [])
    → ArePaired g n (cs ++ c ∷ []) new
ArePaired-more g n cs c pairs new are cluster is =
    let list : List (ℕ × ℕ) = slice_index_or pairs c [] ++ border_pair_of g c n ∷ [] in
    let split : (d : ℕ) → map (λ x. border_pair_of g x n) (filter (λ x. eqb x d) (cs ++ c ∷ []))
    ≡ map (λ x. border_pair_of g x n) (filter (λ x. eqb x d) cs)
    ++ map (λ x. border_pair_of g x n) (cond (eqb c d) (c ∷ []) []) =
    λ d. ap (map (λ x. border_pair_of g x n)) (filter-append (λ x. eqb x d) cs (c ∷ []))
    ∙ map-append (λ x. border_pair_of g x n) (filter (λ x. eqb x d) cs) (cond (eqb c d) (c ∷ []) []) in
    record {
      size = ap length is ∙ length-set pairs c list ∙ are.size;
      each = λ d within.
          let old : List (ℕ × ℕ) = map (λ x. border_pair_of g x n) (filter (λ x. eqb x d) cs) in
          ap (λ (ls : List (List (ℕ × ℕ))). slice_index_or ls d []) is
          ∙ ⊎_elim
          (λ same.
          ap (λ (j : ℕ). slice_index_or (slice_set pairs c list) j []) (sym same)
          ∙ get_or-set_same pairs c list [] (omega (arith, cluster, are.size))
          ∙ ap (λ (j : ℕ). slice_index_or pairs j [] ++ border_pair_of g c n ∷ []) same
          ∙ ap (λ (ys : List (ℕ × ℕ)). ys ++ border_pair_of g c n ∷ []) (are.each d within)
          ∙ append_assoc (first_pairs g n d) old (border_pair_of g c n ∷ [])
          ∙ ap (λ (ys : List ℕ). first_pairs g n d ++ (old ++ map (λ x. border_pair_of g x n) ys))
          (sym (cond-true (eqb c d) (c ∷ []) [] (eq-eqb c d same))))
          (λ ne.
          get_or-set_other pairs c d list [] (λ e. ne (sym e))
          ∙ are.each d within
          ∙ ap (λ (ys : List (ℕ × ℕ)). first_pairs g n d ++ ys) (sym (append-nil old))
          ∙ ap (λ (ys : List ℕ). first_pairs g n d ++ (old ++ map (λ x. border_pair_of g x n) ys))
          (sym (cond-false (eqb c d) (c ∷ []) [] (ne_eqb c d ne))))
          (cases_eq c d)
          ∙ ap (λ (ys : List (ℕ × ℕ)). first_pairs g n d ++ ys) (sym (split d));
    }

-- all borders of edge n
pub ArePaired-next : (g : Clustered) (n : ℕ) (pairs : List (List (ℕ × ℕ)))
    → Exactly (clusters g) (λ c. leaves g c n) (crossings g n) → ArePaired g n (crossings g n) pairs
    → ArePaired g (n + 1) [] pairs
ArePaired-next g n pairs exact are = record {
  size = are.size;
  each = λ c cluster.
      let old : List (ℕ × ℕ) = first_pairs g n c in
      let t : Bool = leaves g c n in
      are.each c cluster
      ∙ ap (λ (cs : List ℕ). old ++ map (λ x. border_pair_of g x n) cs)
      (filter-Exactly (clusters g) (λ d. leaves g d n) (crossings g n) c exact cluster)
      ∙ ap (λ (ps : List (ℕ × ℕ)). old ++ ps)
      (⊎_elim
      (λ yes_it.
      ap (map (λ x. border_pair_of g x n)) (cond-true t (c ∷ []) [] yes_it)
      ∙ sym (ap (map (border_pair_of g c)) (cond-true t (n ∷ []) [] yes_it)))
      (λ not_it.
      ap (map (λ x. border_pair_of g x n)) (cond-false t (c ∷ []) [] not_it)
      ∙ sym (ap (map (border_pair_of g c)) (cond-false t (n ∷ []) [] not_it)))
      (cases_Bool t))
      ∙ sym (map-append (border_pair_of g c) (filter (leaves g c) (below n)) (cond t (n ∷ []) []))
      ∙ ap (map (border_pair_of g c)) (sym (kept_more (leaves g c) n))
      ∙ sym (append-nil (first_pairs g (n + 1) c));
}

-- the pairs of all edges at the border of a cluster
pub ArePaired-all : (g : Clustered) (pairs : List (List (ℕ × ℕ))) → ArePaired g (edges g) [] pairs → (c : ℕ)
    → c < clusters g → slice_index_or pairs c [] ≡ first_pairs g (edges g) c
ArePaired-all g pairs are c cluster = are.each c cluster ∙ append-nil (first_pairs g (edges g) c)

-- as many as edges that leave the cluster
length-pairs : (g : Clustered) (pairs : List (List (ℕ × ℕ))) → ArePaired g (edges g) [] pairs → (c : ℕ) → c < clusters g
    → length (slice_index_or pairs c []) ≡ length (filter (leaves g c) (below (edges g)))
length-pairs g pairs are c cluster =
    ap length (ArePaired-all g pairs are c cluster)
    ∙ length-map (filter (leaves g c) (below (edges g))) (border_pair_of g c)

-- a list with an item is not empty
Has-length : (d : ℕ) (xs : List ℕ) → Has d xs → 0 < length xs
Has-length d [] h = absurd h
Has-length d (x ∷ xs) h = omega arith

-- and the other way round
length-Has : (xs : List ℕ) → 0 < length xs → (d : ℕ) × Has d xs
length-Has [] lt = absurd (omega arith)
length-Has (x ∷ xs) lt = (x, inl refl)

-- some edge leaves a cluster that has pairs
pub pairs-left : (g : Clustered) (pairs : List (List (ℕ × ℕ))) → ArePaired g (edges g) [] pairs → (c : ℕ)
    → c < clusters g → 0 < length (slice_index_or pairs c []) → is_left g c ≡ true
pairs-left g pairs are c cluster some =
    let e = length-Has (filter (leaves g c) (below (edges g))) (omega (
      arith,
      some,
      length-pairs g pairs are c
          cluster,
    )) in
    let w = filter-Has (leaves g c) e.0 (below (edges g)) e.1 in
    let r = range-Has e.0 0 (edges g) w.0 in
    let above : 0 < c =
    ⊎_elim (λ z. absurd (false≢true (ap (λ (b : ℕ). leaves g b e.0) (sym z)
    ∙ w.1))) (λ nz. omega arith) (cases_eq c 0) in
    is_left-from g c e.0 above (omega (arith, r.1)) w.1

-- and none leaves one that has none
pub pairs-not_left : (g : Clustered) (pairs : List (List (ℕ × ℕ))) → ArePaired g (edges g) [] pairs → (c : ℕ)
    → c < clusters g → length (slice_index_or pairs c []) ≡ 0 → is_left g c ≡ false
pairs-not_left g pairs are c cluster nothing = ⊎_elim
    (λ t.
    let e = left-edge g c t in
    let h = Has-length e.0 (filter (leaves g c) (below (edges g)))
    (Has-filter (leaves g c) e.0 (below (edges g)) (Has-range e.0 0 (edges g) (omega arith) (omega (arith, e.1)))
    e.2) in
    absurd (omega (arith, h, nothing, length-pairs g pairs are c cluster)))
    (λ f. f)
    (cases_Bool (is_left g c))

-- so the number of pairs tells it
pub left-by_pairs : (g : Clustered) (pairs : List (List (ℕ × ℕ))) → ArePaired g (edges g) [] pairs → (c n : ℕ)
    → c < clusters g → n ≡ length (slice_index_or pairs c []) → ltb 0 n ≡ is_left g c
left-by_pairs g pairs are c n cluster is = ⊎_elim
    (λ nothing. ap (ltb 0) nothing ∙ sym (pairs-not_left g pairs are c cluster (sym is ∙ nothing)))
    (λ some. lt-ltb 0 n (omega (arith, some)) ∙ sym (pairs-left g pairs are c cluster (omega (arith, some, is))))
    (cases_eq n 0)

-- the cluster at a place of the crossings of an edge
pub crossed-at : (n : ℕ) (p : ℕ → Bool) (cs : List ℕ) (found : List ℕ) (i : ℕ) → Exactly n p cs → found ≡ cs
    → i < length found → (slice_index found i < n) × (p (slice_index found i) ≡ true)
crossed-at n p cs found i exact is lt =
    subst (λ (xs : List ℕ). (i < length xs) → (slice_index xs i < n) × (p (slice_index xs i) ≡ true)) (sym is)
    (λ l. exact.each_passes i l) lt
