-- Named graphs with vertices and edges numbered in the order of their names, and their rotation systems.
use Rattle.std.proofs.Common.{◌≡◌, ◌≢◌, ◌⊎◌, ℕ, zero, suc, ◌+◌, ◌*◌, ◌/◌, ◌<◌, ◌≤◌, Bool, true, false, ◌||◌, cond, eqb, List, [], ◌∷◌, length, map, slice_index, slice_index_or, sym, refl, ap, ◌∙◌, subst, inl, inr, ⊎_elim, arith}
use Rattle.std.specs.Prelude.{◌==◌}
use Rattle.std.specs.List.{All, Contains, IsDistinct, flat_map}
use Rattle.std.specs.List.Sorted.{IsPermutation, IsStrictlyIncreasing}
use Rattle.std.proofs.lemmas.Bool.{cases_eq, cases_lt, eq-eqb, ne_eqb, eqb-true, cond-true, cond-false, or_right, both_ways}
use Rattle.std.proofs.lemmas.List.{get_or_default, get_or-map, length-map}
use Rattle.std.proofs.lemmas.List.Sorted.{IsPermutation-sym, Contains-permutation}
use Rattle.std.proofs.lemmas.List.Kept.{IsStrictlyIncreasing-filter}
use Rattle.std.proofs.lemmas.Map.Keys.{apart_from_distinct, IsDistinct-IsPermutation}
use Rattle.cp_lists.specs.Count.{Exactly}
use Rattle.cp_base.specs.Graphs.{AreWithin}
use Rattle.std.proofs.lemmas.List.Folds.{flat_map-map}
use Rattle.cp_rot.specs.Systems.{IsRotation}
use Rattle.cp_rot.specs.Tables.{system_of}
use Rattle.cp_conn.specs.NamedGraphs.{NamedGraph, rank, edges_at, ends_at}
use Rattle.cp_conn.proofs.NamedGraphs.{rank_at, map_has, edges_at-Contains, Contains-edges_at}
use Rattle.std.specs.Option.{option_map_or}
use Rattle.cp_board.specs.declared.parts.EdgeRow.{EdgeRow}
use Rattle.cp_board.specs.Instances.{Synchronized, IsSynchronized, vert_names, edge_names, ends_of, graph}
use Rattle.cp_board.specs.Rotations.{ArrangesEdges, dart, system}
use Rattle.cp_sync.specs.Places.{IsLowerPlace}
use Rattle.cp_sync.specs.Numbering.{numbered_ends}
use Rattle.cp_sync.proofs.Places.{live_place, same_place, found_place}
use Rattle.cp_sync.proofs.EqualOrders.{IsDistinct-rising, eqb_comm}

-- the rank of one of rising names is its lower place
pub rank-lower_place : (names : List ℕ) (n k : ℕ) → IsStrictlyIncreasing names → Contains names n
    → IsLowerPlace names n k
    → k ≡ rank names n
rank-lower_place names n k up live low =
    let here = live_place names n k up live low in
    let there = rank_at names n live in
    same_place names up k (rank names n) here.0 there.0 (here.1 ∙ sym there.1)

-- rising names at one rank are equal
rank_one : (names : List ℕ) (m n : ℕ) → Contains names m → Contains names n → rank names m ≡ rank names n → m ≡ n
rank_one names m n live_m live_n e =
    sym (rank_at names m live_m).1 ∙ ap (slice_index names) e ∙ (rank_at names n live_n).1

-- the rank of the name at a place is the place
rank_there : (names : List ℕ) (k : ℕ) → IsStrictlyIncreasing names → k < length names
    → rank names (slice_index names k) ≡ k
rank_there names k up lt =
    let there = rank_at names (slice_index names k) (k, lt, get_or_default names k (slice_index names k) 0 lt) in
    same_place names up (rank names (slice_index names k)) k there.0 lt there.1

module _ (g : NamedGraph)
    (live : (e : ℕ) → Contains g.edges e → Contains g.verts (g.ends e).0 × Contains g.verts (g.ends e).1) where
  -- the edge at a place is an edge
  edge_at : (k : ℕ) → k < length g.edges → Contains g.edges (slice_index g.edges k)
  edge_at k lt = (k, lt, get_or_default g.edges k (slice_index g.edges k) 0 lt)

  -- the ends are numbers of vertices
  pub AreWithin-numbered : AreWithin (length g.verts) (map (numbered_ends g) g.edges)
  AreWithin-numbered e lt =
      let within : e < length g.edges = omega (arith, lt, length-map g.edges (numbered_ends g)) in
      let ends = live (slice_index g.edges e) (edge_at e within) in
      subst (λ (x : ℕ × ℕ). (x.0 < length g.verts) × (x.1 < length g.verts)) (sym (get_or-map (numbered_ends g) g.edges e 0 (0, 0) within))
      ((rank_at g.verts (g.ends (slice_index g.edges e)).0 ends.0).0, (rank_at g.verts (g.ends (slice_index g.edges e)).1 ends.1).0)

-- two numbers for each edge
abbrev pub two_each : (ℕ → ℕ × ℕ) → List ℕ → List ℕ
two_each f es = flat_map (λ e. (f e).0 ∷ (f e).1 ∷ []) es

-- there are twice as many as edges
length-two_each : (f : ℕ → ℕ × ℕ) (es : List ℕ) → length (two_each f es) ≡ 2 * length es
length-two_each f [] = refl
length-two_each f (e ∷ es) = omega (arith, length-two_each f es)

-- the first number of an edge stands at twice its place
two_each-first : (f : ℕ → ℕ × ℕ) (es : List ℕ) (k : ℕ) → k < length es
    → slice_index (two_each f es) (2 * k) ≡ (f (slice_index es k)).0
two_each-first f [] k lt = absurd (omega (arith, lt))
two_each-first f (e ∷ es) zero lt = refl
two_each-first f (e ∷ es) (suc k) lt =
    ap (slice_index (two_each f (e ∷ es))) (let h : 2 * suc k ≡ suc (suc (2 * k)) = omega arith in h)
    ∙ two_each-first f es k (omega (arith, lt))

-- and the second stands directly behind it
two_each-second : (f : ℕ → ℕ × ℕ) (es : List ℕ) (k : ℕ) → k < length es
    → slice_index (two_each f es) (2 * k + 1) ≡ (f (slice_index es k)).1
two_each-second f [] k lt = absurd (omega (arith, lt))
two_each-second f (e ∷ es) zero lt = refl
two_each-second f (e ∷ es) (suc k) lt =
    ap (slice_index (two_each f (e ∷ es))) (let h : 2 * suc k + 1 ≡ suc (suc (2 * k + 1)) = omega arith in h)
    ∙ two_each-second f es k (omega (arith, lt))

-- the last bit of a dart is below 2
bit_less : (b : Bool) → cond b 0 1 < 2
bit_less true = omega arith
bit_less false = omega arith

-- distinct numbers stand at one place each
one_place : (xs : List ℕ) → IsDistinct eqb xs → (i j : ℕ) → i < length xs → j < length xs
    → slice_index xs i ≡ slice_index xs j
    → i ≡ j
one_place xs once i j li lj e = ⊎_elim
    (λ (l : i < j). absurd (both_ways (eqb (slice_index xs i) (slice_index xs j)) (apart_from_distinct eqb xs i j 0 once l lj) (eq-eqb (slice_index xs i) (slice_index xs j) e)))
    (λ (g : j ≤ i). ⊎_elim
    (λ (l : j < i). absurd (both_ways (eqb (slice_index xs j) (slice_index xs i)) (apart_from_distinct eqb xs j i 0 once l li) (eq-eqb (slice_index xs j) (slice_index xs i) (sym e))))
    (λ (h : i ≤ j). omega arith)
    (cases_lt j i))
    (cases_lt i j)

-- lists that arrange the edges of each vertex make a rotation system
module _
    (g : NamedGraph)
    (verts_rise : IsStrictlyIncreasing g.verts)
    (edges_rise : IsStrictlyIncreasing g.edges)
    (live : (e : ℕ) → Contains g.edges e → Contains g.verts (g.ends e).0 × Contains g.verts (g.ends e).1)
    (differ : (e : ℕ) → Contains g.edges e → (g.ends e).0 ≢ (g.ends e).1)
    (s : ℕ → List ℕ)
    (arranged : All (λ v. ArrangesEdges g v (s v)) g.verts) where
  -- the vertices of the darts, by their places
  abbrev at : List ℕ
  at = (system g s).at

  -- there are two darts for each edge
  length-at : length at ≡ 2 * length g.edges
  length-at = length-two_each (numbered_ends g) g.edges

  -- the list of a vertex arranges its edges
  arranged_at : (n : ℕ) → Contains g.verts n → IsPermutation (edges_at g n) (s n)
  arranged_at n c = subst (λ v. ArrangesEdges g v (s v)) c.2 (arranged c.0 n c.1)

  -- an edge in the list of a vertex ends there
  listed_edge : (n e : ℕ) → Contains g.verts n → Contains (s n) e → Contains g.edges e × (ends_at g n e ≡ true)
  listed_edge n e c h =
      edges_at-Contains g n e (Contains-permutation (s n) (edges_at g n) e (IsPermutation-sym (edges_at g n) (s n) (arranged_at n c)) h)

  -- the darts at the first end of an edge and at the second
  first_dart : (n e : ℕ) → (g.ends e).0 ≡ n → dart g n e ≡ 2 * rank g.edges e
  first_dart n e a = let bit = cond-true {A = ℕ} (eqb (g.ends e).0 n) 0 1 (eq-eqb (g.ends e).0 n a) in omega (arith, bit)

  -- and an edge with another first end has its second dart at the vertex
  second_dart : (n e : ℕ) → (g.ends e).0 ≢ n → dart g n e ≡ 2 * rank g.edges e + 1
  second_dart n e a = let bit = cond-false {A = ℕ} (eqb (g.ends e).0 n) 0 1 (ne_eqb (g.ends e).0 n a) in omega (arith, bit)

  -- where they stand
  at_first : (e : ℕ) → Contains g.edges e → slice_index at (2 * rank g.edges e) ≡ rank g.verts (g.ends e).0
  at_first e c =
      let here = rank_at g.edges e c in
      two_each-first (numbered_ends g) g.edges (rank g.edges e) here.0 ∙ ap (λ f. rank g.verts (g.ends f).0) here.1

  -- and the second dart of an edge stands at its second end
  at_second : (e : ℕ) → Contains g.edges e → slice_index at (2 * rank g.edges e + 1) ≡ rank g.verts (g.ends e).1
  at_second e c =
      let here = rank_at g.edges e c in
      two_each-second (numbered_ends g) g.edges (rank g.edges e) here.0 ∙ ap (λ f. rank g.verts (g.ends f).1) here.1

  -- the dart of an edge in the list of a vertex stands at the vertex
  dart_stands : (n e : ℕ) → Contains g.verts n → Contains (s n) e
      → (dart g n e < length at) × (slice_index at (dart g n e) ≡ rank g.verts n)
  dart_stands n e c h =
      let is = listed_edge n e c h in
      let within = (rank_at g.edges e is.0).0 in (
        omega (arith, within, bit_less (eqb (g.ends e).0 n), length-at),
        ⊎_elim
            (λ (a : (g.ends e).0 ≡ n). ap (slice_index at) (first_dart n e a) ∙ at_first e is.0 ∙ ap (rank g.verts) a)
            (λ (a : (g.ends e).0 ≢ n).
            let b : (g.ends e).1 ≡ n = eqb-true (g.ends e).1 n (sym (ap (λ t. t || eqb (g.ends e).1 n) (ne_eqb (g.ends e).0 n a)) ∙ is.1) in
            ap (slice_index at) (second_dart n e a) ∙ at_second e is.0 ∙ ap (rank g.verts) b)
            (cases_eq (g.ends e).0 n),
      )

  -- an edge that ends at a vertex is in its list
  in_list : (n e : ℕ) → Contains g.verts n → Contains g.edges e → ends_at g n e ≡ true → Contains (s n) e
  in_list n e c h t =
      Contains-permutation (edges_at g n) (s n) e (arranged_at n c) (Contains-edges_at g n e h t)

  -- the items of the list of a vertex are distinct
  list_once : (n : ℕ) → Contains g.verts n → IsDistinct eqb (s n)
  list_once n c = IsDistinct-IsPermutation eqb eqb_comm (edges_at g n) (s n) (arranged_at n c)
      (IsDistinct-rising (edges_at g n) (IsStrictlyIncreasing-filter (ends_at g n) g.edges edges_rise))

  -- each number is twice its half, or one more
  halves : (x : ℕ) → (x ≡ 2 * (x / 2)) ⊎ (x ≡ 2 * (x / 2) + 1)
  halves x = ⊎_elim (λ (l : 2 * (x / 2) < x). inr (omega arith)) (λ (h : x ≤ 2 * (x / 2)). inl (omega arith)) (cases_lt (2 * (x / 2)) x)

  -- the darts of a vertex are exactly those of its list
  exact : (n : ℕ) → Contains g.verts n → Exactly (length at) (λ d. slice_index at d == rank g.verts n)
      (map (dart g n) (s n))
  exact n c = record {
    each_passes = λ i lt.
        let within : i < length (s n) = omega (arith, lt, length-map (s n) (dart g n)) in
        let e = slice_index (s n) i in
        let stands = dart_stands n e c (i, within, get_or_default (s n) i e 0 within) in
        let is = get_or-map (dart g n) (s n) i 0 0 within in
        (omega (arith, stands.0, is), eq-eqb _ _ (ap (slice_index at) is ∙ stands.1));
    each_once = λ i j li lj same.
        let wi : i < length (s n) = omega (arith, li, length-map (s n) (dart g n)) in
        let wj : j < length (s n) = omega (arith, lj, length-map (s n) (dart g n)) in
        let e = slice_index (s n) i in
        let f = slice_index (s n) j in
        let darts : dart g n e ≡ dart g n f = sym (get_or-map (dart g n) (s n) i 0 0 wi) ∙ same ∙ get_or-map (dart g n) (s n) j 0 0 wj in
        let ranks : rank g.edges e ≡ rank g.edges f = omega (arith, darts, bit_less (eqb (g.ends e).0 n), bit_less (eqb (g.ends f).0 n)) in
        one_place (s n) (list_once n c) i j wi wj
        (rank_one g.edges e f (listed_edge n e c (i, wi, get_or_default (s n) i e 0 wi)).0 (listed_edge n f c (j, wj, get_or_default (s n) j f 0 wj)).0 ranks);
    all = λ x lt t.
        let k = x / 2 in
        let within : k < length g.edges = omega (arith, lt, length-at) in
        let e = slice_index g.edges k in
        let is_edge : Contains g.edges e = (k, within, get_or_default g.edges k e 0 within) in
        let place = rank_there g.edges k edges_rise within in
        let ends = live e is_edge in
        let here : slice_index at x ≡ rank g.verts n = eqb-true (slice_index at x) (rank g.verts n) t in
        ⊎_elim
        (λ (h : x ≡ 2 * k).
        let a : (g.ends e).0 ≡ n = rank_one g.verts (g.ends e).0 n ends.0 c (sym (two_each-first (numbered_ends g) g.edges k within) ∙ ap (slice_index at) (sym h) ∙ here) in
        let is : dart g n e ≡ x = omega (arith, first_dart n e a, place, h) in
        subst (Contains (map (dart g n) (s n))) is (map_has (dart g n) (s n) e
        (in_list n e c is_edge (ap (λ b. b || eqb (g.ends e).1 n) (eq-eqb (g.ends e).0 n a)))))
        (λ (h : x ≡ 2 * k + 1).
        let b : (g.ends e).1 ≡ n = rank_one g.verts (g.ends e).1 n ends.1 c (sym (two_each-second (numbered_ends g) g.edges k within) ∙ ap (slice_index at) (sym h) ∙ here) in
        let other : (g.ends e).0 ≢ n = λ a. differ e is_edge (a ∙ sym b) in
        let is : dart g n e ≡ x = omega (arith, second_dart n e other, place, h) in
        subst (Contains (map (dart g n) (s n))) is (map_has (dart g n) (s n) e
        (in_list n e c is_edge (or_right (eqb (g.ends e).0 n) (eqb (g.ends e).1 n) (eq-eqb (g.ends e).1 n b)))))
        (halves x);
  }

  -- the lists make a rotation system of the numbered graph
  pub IsRotation-system : IsRotation (system g s)
  IsRotation-system = record {
    paired = omega (arith, length-at);
    placed = λ d lt.
        let k = d / 2 in
        let within : k < length g.edges = omega (arith, lt, length-at) in
        let e = slice_index g.edges k in
        let ends = live e (k, within, get_or_default g.edges k e 0 within) in
        ⊎_elim
        (λ (h : d ≡ 2 * k). let is = ap (slice_index at) h ∙ two_each-first (numbered_ends g) g.edges k within in omega (arith, is, (rank_at g.verts (g.ends e).0 ends.0).0))
        (λ (h : d ≡ 2 * k + 1). let is = ap (slice_index at) h ∙ two_each-second (numbered_ends g) g.edges k within in omega (arith, is, (rank_at g.verts (g.ends e).1 ends.1).0))
        (halves d);
    listed = length-map g.verts (λ v. map (dart g v) (s v));
    arranged = λ v lt.
        let n = slice_index g.verts v in
        let c : Contains g.verts n = (v, lt, get_or_default g.verts v n 0 lt) in
        subst (λ m. Exactly (length at) (λ d. slice_index at d == m) (slice_index_or (map (λ x. map (dart g x) (s x)) g.verts) v [])) (rank_there g.verts v verts_rise lt)
        (subst (Exactly (length at) (λ d. slice_index at d == rank g.verts n)) (sym (get_or-map (λ x. map (dart g x) (s x)) g.verts v 0 [] lt)) (exact n c));
  }

-- the ends of a live edge of an instance are two different live vertices
pub live_ends : (i : Synchronized) → IsSynchronized i → (e : ℕ) → Contains (edge_names i) e
    → Contains (vert_names i) (ends_of i e).0 × Contains (vert_names i)
    (ends_of i e).1 × ((ends_of i e).0 ≢ (ends_of i e).1)
live_ends i is e c =
    let row : EdgeRow = slice_index_or i.edges c.0 record { name = 0; a = 0; b = 0 } in
    let within : c.0 < length i.edges = omega (arith, c.1, length-map i.edges (λ (x : EdgeRow). x.name)) in
    let named : row.name ≡ e =
    sym (get_or-map (λ (x : EdgeRow). x.name) i.edges c.0 record { name = 0; a = 0; b = 0 } 0 within)
    ∙ get_or_default (edge_names i) c.0 0 e c.1 ∙ c.2 in
    let found = found_place (λ (x : EdgeRow). x.name) e i.edges c.0 row is.edges_named.rise within (get_or_default i.edges c.0 record { name = 0; a = 0; b = 0 } row within) named in
    subst (λ (x : ℕ × ℕ). Contains (vert_names i) x.0 × Contains (vert_names i) x.1 × (x.0 ≢ x.1))
    (sym (ap (λ o. option_map_or (λ (x : EdgeRow). (x.a, x.b)) o (0, 0)) found)) (
      (is.ends_live c.0 record { name = 0; a = 0; b = 0 } within).0,
      (is.ends_live c.0 record { name = 0; a = 0; b = 0 } within).1,
      is.ends_differ c.0 record { name = 0; a = 0; b = 0 } within,
    )

-- the numbered ends of the edges of an instance are numbers of vertices
pub AreWithin-graph : (i : Synchronized) → IsSynchronized i
    → AreWithin (length (vert_names i)) (map (numbered_ends (graph i)) (edge_names i))
AreWithin-graph i is =
    AreWithin-numbered (graph i) (λ e c. let h = live_ends i is e c in (h.0, h.1))

-- lists that arrange the edges of the vertices of an instance make a rotation system
pub IsRotation-instance : (i : Synchronized) → IsSynchronized i → (s : ℕ → List ℕ)
    → All (λ v. ArrangesEdges (graph i) v (s v)) (vert_names i)
    → IsRotation (system (graph i) s)
IsRotation-instance i is s arranged =
    IsRotation-system (graph i) is.verts_named.rise is.edges_named.rise (λ e c. let h = live_ends i is e c in (h.0, h.1)) (λ e c. (live_ends i is e c).2) s arranged

-- a list that arranges the edges of a vertex holds edges
pub listed_all : (g : NamedGraph) (v : ℕ) (xs : List ℕ) → ArrangesEdges g v xs → All (Contains g.edges) xs
listed_all g v xs so k d lt =
    let e = slice_index_or xs k d in
    (edges_at-Contains g v e (Contains-permutation xs (edges_at g v) e (IsPermutation-sym (edges_at g v) xs so) (k, lt, get_or_default xs k e d lt))).0

-- the vertices of the darts, from the numbered ends of the edges
pub at-numbered : (g : NamedGraph) (s : ℕ → List ℕ)
    → flat_map (λ (x : ℕ × ℕ). x.0 ∷ x.1 ∷ []) (map (numbered_ends g) g.edges) ≡ (system g s).at
at-numbered g s = flat_map-map (λ (x : ℕ × ℕ). x.0 ∷ x.1 ∷ []) (numbered_ends g) g.edges

-- the system of these vertices of darts and these lists
pub system-given : (g : NamedGraph) (s : ℕ → List ℕ) (at : List ℕ) (lists : List (List ℕ)) → at ≡ (system g s).at
    → lists ≡ (system g s).lists
    → system_of at lists ≡ system g s
system-given g s at lists is_at is_lists =
    ap (λ a. system_of a lists) is_at
    ∙ ap (system_of (system g s).at) is_lists
    ∙ ap (λ n. record { vertices = n; at = (system g s).at; lists = (system g s).lists }) (length-map g.verts (λ v. map (dart g v) (s v)))
