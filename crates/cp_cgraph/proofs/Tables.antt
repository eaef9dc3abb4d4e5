-- The tables that are read make up a clustered graph.
use Rattle.std.proofs.Common.{◌≡◌, ℕ, ℤ, pos, zero, suc, ◌+◌, ◌-◌, ◌<◌, ◌≤◌, cond, slice_index, List, [], ◌∷◌, ◌++◌, length, map, get_or, Option, Some, None, refl, sym, ap, ◌∙◌, subst, ⊎_elim, arith, length-append}
use Rattle.std.specs.Prelude.{codes}
use Rattle.std.specs.List.{All, flat_map}
use Rattle.std.specs.Ordering.{int_eq}
use Rattle.std.proofs.lemmas.Bool.{cases_Bool, cases_lt, cases_eq, cond-true, cond-false}
use Rattle.std.proofs.lemmas.List.{length-map, get_or-map, get_or_append_left, get_or-append_right, get_or-append-add}
use Rattle.std.proofs.lemmas.List.Elements.{All-append}
use Rattle.std.proofs.lemmas.List.Quantifiers.{position-Some}
use Rattle.cp_gml.specs.Trees.{Tree, nil, leaf, node}
use Rattle.cp_gml.specs.declared.tree.Entry.{Entry}
use Rattle.cp_cgraph.specs.Clustered.{Clustered, IsClustered, parent}
use Rattle.cp_cgraph.specs.Crossings.{IsWithin, here, inner as opens}
use Rattle.cp_cgraph.specs.LookUps.{IsNested}
use Rattle.cp_cgraph.proofs.Nesting.{IsWithin-trans}
use Rattle.cp_cgraph.specs.Entries.{keyed, inner, first_id}
use Rattle.cp_cgraph.specs.Nested.{is_cluster, is_vertex, leaf_id, opened, parents, names, name_of}
use Rattle.cp_cgraph.specs.GraphFaults.{known_ids, edge_entries, root_tree}
use Rattle.cp_cgraph.specs.GraphOf.{node_of_id, both, ends_of_edge, home_by, graph_of}
use Rattle.cp_cgraph.specs.declared.clusters.Name.{Name}
use Rattle.cp_cgraph.proofs.ReadParts.{length-parents}

-- a cluster before those inside it and those behind it
cons_lower : (first rest : List ℕ) (c n m i d : ℕ) → c < n → length first ≡ m
    → ((j : ℕ) → j < length first → get_or first j d < (n + 1) + j)
    → ((j : ℕ) → j < length rest → get_or rest j d < (n + (1 + m)) + j)
    → i < length (c ∷ first ++ rest) → get_or (c ∷ first ++ rest) i d < n + i
cons_lower first rest c n m zero d less size inside behind within = omega arith
cons_lower first rest c n m (suc j) d less size inside behind within =
    ⊎_elim
    (λ l. let low : get_or first j d < (n + 1) + j =
    inside j l in omega (arith, low, get_or_append_left first rest d j l))
    (λ r. let low : get_or rest (j - length first) d < (n + (1 + m)) + (j - length first) =
    behind (j - length first) (omega (arith, length-append first rest)) in
    omega (arith, low, size, get_or-append_right first rest (length first) j d refl r))
    (cases_lt j (length first))

-- parents have lower numbers
parents_lower : (t : Tree) (c n i d : ℕ) → c < n → i < length (parents c n t) → get_or (parents c n t) i d < n + i
parents_lower nil c n i d less within = absurd (omega arith)
parents_lower (leaf key key_at value at t) c n i d less within = parents_lower t c n i d less within
parents_lower (node key key_at at inner end t) c n i d less within =
    let first = parents n (n + 1) inner in
    let rest = parents c (n + (1 + opened inner)) t in
    ⊎_elim
    (λ y.
    let e = cond-true (is_cluster key) (c ∷ first ++ rest) (parents c n t) y in
    subst (λ (xs : List ℕ). get_or xs i d < n + i) (sym e)
    (cons_lower first rest c n (opened inner) i d less (length-parents inner n (n + 1))
    (λ j l. parents_lower inner n (n + 1) j d (omega arith) l)
    (λ j l. parents_lower t c (n + (1 + opened inner)) j d (omega arith) l)
    (subst (λ (xs : List ℕ). i < length xs) e within)))
    (λ f.
    let e = cond-false (is_cluster key) (c ∷ first ++ rest) (parents c n t) f in
    subst (λ (xs : List ℕ). get_or xs i d < n + i) (sym e) (parents_lower t c n i d less
    (subst (λ (xs : List ℕ). i < length xs) e within)))
    (cases_Bool (is_cluster key))

-- the clusters of names are clusters
abbrev IsIn : ℕ → Name → Type 0
IsIn n m = m.cluster < n

-- a name gives a cluster that is open
name_of_within : (c : ℕ) (o : Option ℤ) (at n : ℕ) → c < n → All (IsIn n) (name_of c o at)
name_of_within c None at n less k d l = absurd (omega arith)
name_of_within c (Some x) at n less zero d l = less
name_of_within c (Some x) at n less (suc k) d l = absurd (omega arith)

-- what is below a bound is below a greater one
All-weaken : (m n : ℕ) (ms : List Name) → m ≤ n → All (IsIn m) ms → All (IsIn n) ms
All-weaken m n ms le all k d l = omega (arith, all k d l)

-- all names give clusters that were opened
names_within : (t : Tree) (c n : ℕ) → c < n → All (IsIn (n + opened t)) (names c n t)
names_within nil c n less = λ k d l. absurd (omega arith)
names_within (leaf key key_at value at t) c n less =
    All-append (IsIn (n + opened t)) (cond (is_vertex key) (name_of c (leaf_id value) at) []) (names c n t)
    (⊎_elim
    (λ y. subst (All (IsIn (n + opened t))) (sym (cond-true (is_vertex key) (name_of c (leaf_id value) at) [] y))
    (name_of_within c (leaf_id value) at (n + opened t) (omega arith)))
    (λ f. subst (All (IsIn (n + opened t))) (sym (cond-false (is_vertex key) (name_of c (leaf_id value) at) [] f))
    (λ k d l. absurd (omega arith)))
    (cases_Bool (is_vertex key)))
    (names_within t c n less)
names_within (node key key_at at inner end t) c n less =
    let b = is_cluster key in
    let first = names n (n + 1) inner in
    let rest = names c (n + (1 + opened inner)) t in
    let size = cond b (1 + opened inner + opened t) (opened t) in
    ⊎_elim
    (λ y.
    let all : n + (1 + opened inner + opened t) ≡ n + size =
    ap (λ (m : ℕ). n + m) (sym (cond-true b (1 + opened inner + opened t) (opened t) y)) in
    subst (All (IsIn (n + size))) (sym (cond-true b (first ++ rest) (names c n t) y))
    (All-append (IsIn (n + size)) first rest
    (All-weaken ((n + 1) + opened inner) (n + size) first (omega arith) (names_within inner n (n + 1) (omega arith)))
    (All-weaken ((n + (1 + opened inner)) + opened t) (n + size) rest (omega arith)
    (names_within t c (n + (1 + opened inner)) (omega arith)))))
    (λ f.
    let all : n + opened t ≡ n + size =
    ap (λ (m : ℕ). n + m) (sym (cond-false b (1 + opened inner + opened t) (opened t) f)) in
    subst (All (IsIn (n + size))) (sym (cond-false b (first ++ rest) (names c n t) f))
    (All-weaken (n + opened t) (n + size) (names c n t) (omega arith) (names_within t c n less)))
    (cases_Bool b)

-- the name where there is none
nobody : Name
nobody = record { cluster = 0; id = pos 0; at = 0 }

-- each home is a cluster
home_within : (ms : List Name) (n : ℤ) (k : ℕ) → 0 < k → All (IsIn k) ms → home_by ms n < k
home_within [] n k more all = more
home_within (m ∷ ms) n k more all =
    ⊎_elim
    (λ y. subst (λ (h : ℕ). h < k) (sym (cond-true (int_eq n m.id) m.cluster (home_by ms n) y)) (all 0 m (omega arith)))
    (λ f. subst (λ (h : ℕ). h < k) (sym (cond-false (int_eq n m.id) m.cluster (home_by ms n) f))
    (home_within ms n k more (λ i d l. all (suc i) d (omega arith))))
    (cases_Bool (int_eq n m.id))

-- edges end at nodes
abbrev IsInside : ℕ → ℕ × ℕ → Type 0
IsInside n e = (e.0 < n) × (e.1 < n)

module _ (ids : List ℤ) where
  -- a node that is found is a node
  node_within : (o : Option (ℤ × ℕ)) (v : ℕ) → node_of_id ids o ≡ Some v → v < length ids
  node_within None v e = absurd (let no_node : ⊥ = cc in no_node)
  node_within (Some p) v e = (position-Some (int_eq p.0) ids v p.0 e).0

  -- two ends that are found are nodes
  both_within : (o p : Option ℕ) → ((v : ℕ) → o ≡ Some v → v < length ids) → ((v : ℕ) → p ≡ Some v → v < length ids)
      → All (IsInside (length ids)) (both o p)
  both_within None p a b k d l = absurd (omega arith)
  both_within (Some v) None a b k d l = absurd (omega arith)
  both_within (Some v) (Some w) a b zero d l = (a v refl, b w refl)
  both_within (Some v) (Some w) a b (suc k) d l = absurd (omega arith)

  -- the ends of an edge are nodes
  edge_within : (e : Entry) (o : Option (List Entry))
      → All (IsInside (length ids)) (elim o [
        | None ↦ []
        | Some es ↦ both (node_of_id ids (first_id (keyed (codes
            "source") es))) (node_of_id ids (first_id (keyed (codes "target") es)))
      ])
  edge_within e None = λ k d l. absurd (omega arith)
  edge_within e (Some es) =
      let source = first_id (keyed (codes "source") es) in
      let target = first_id (keyed (codes "target") es) in
      both_within (node_of_id ids source) (node_of_id ids target) (node_within source) (node_within target)

  -- the ends of all edges are nodes
  ends_within : (es : List Entry) → All (IsInside (length ids)) (flat_map (ends_of_edge ids) es)
  ends_within [] = λ k d l. absurd (omega arith)
  ends_within (e ∷ es) = All-append (IsInside (length ids)) (ends_of_edge ids e) (flat_map (ends_of_edge ids) es)
      (edge_within e (inner e.value)) (ends_within es)

-- what a list says is a clustered graph
pub IsClustered-graph_of : (es : List Entry) → IsClustered (graph_of es)
IsClustered-graph_of es =
    let ids = known_ids es in
    let t = root_tree es in
    let ms = names 0 1 t in
    let size : length (parents 0 1 t) ≡ opened t = length-parents t 0 1 in
    record {
      source_is_node = λ e less. (ends_within ids (edge_entries es) e (0, 0) less).0;
      target_is_node = λ e less. (ends_within ids (edge_entries es) e (0, 0) less).1;
      one_home = length-map ids (home_by ms);
      home_is_cluster = λ v less.
          let at : get_or (map (home_by ms) ids) v 0 ≡ home_by ms (get_or ids v (pos 0)) =
          get_or-map (home_by ms) ids v (pos 0) 0 less in
          let low : home_by ms (get_or ids v (pos 0)) < 1 + opened t =
          home_within ms (get_or ids v (pos 0)) (1 + opened t) (omega arith) (names_within t 0 1 (omega arith)) in
          omega (arith, at, low, size);
      inside_a_lower = λ c above within.
          let low : get_or (parents 0 1 t) (c - 1) 0 < 1 + (c - 1) =
          parents_lower t 0 1 (c - 1) 0 (omega arith) (omega arith) in
          omega (arith, low);
    }

-- where so many clusters are opened inside cluster c, of which the first has number n
record IsOpened (g : Clustered) (c n many : ℕ) : Type 0 where
  nested : (d : ℕ) → n ≤ d → d < n + many → IsWithin g (parent g d) (d - 1)
  last : IsWithin g c (n + many - 1)

-- a cluster, those inside it and those behind it
IsOpened-more : (g : Clustered) (c n m k : ℕ) → 0 < n → parent g n ≡ c → IsWithin g c (n - 1) → IsOpened g n (n + 1) m
    → (IsWithin g c (n + (1 + m) - 1) → IsOpened g c (n + (1 + m)) k) → IsOpened g c n (1 + m + k)
IsOpened-more g c n m k above is w inside behind_of =
    let own : IsWithin g c n = opens above (subst (IsWithin g c) (sym is) here) in
    let behind : IsOpened g c (n + (1 + m)) k =
    behind_of (subst (IsWithin g c) (let e : n + 1 + m - 1 ≡ n + (1 + m) - 1 = omega arith in e)
    (IsWithin-trans g c n (n + 1 + m - 1) own inside.last)) in
    record {
      nested = λ d from to.
          ⊎_elim
          (λ e. subst (λ (x : ℕ). IsWithin g (parent g x) (x - 1)) (sym e)
          (subst (λ (x : ℕ). IsWithin g x (n - 1)) (sym is) w))
          (λ ne. ⊎_elim (λ l. inside.nested d (omega arith) l) (λ ge. behind.nested d (omega arith) (omega arith))
          (cases_lt d (n + 1 + m)))
          (cases_eq d n);
      last = subst (IsWithin g c) (let e : n + (1 + m) + k - 1 ≡ n + (1 + m + k) - 1 = omega arith in e) behind.last;
    }

-- the parents stand in the table of all parents, from cluster n on
abbrev StandAt : Clustered → ℕ → List ℕ → Type 0
StandAt g n ps = (i : ℕ) → i < length ps → parent g (n + i) ≡ slice_index ps i

-- the parents behind the first one stand inside it
StandAt-inside : (g : Clustered) (c n : ℕ) (first rest : List ℕ) → StandAt g n (c ∷ first ++ rest)
    → StandAt g (n + 1) first
StandAt-inside g c n first rest stand i l =
    ap (parent g) (let e : n + 1 + i ≡ n + suc i = omega arith in e)
    ∙ stand (suc i) (omega (arith, length-append first rest)) ∙ get_or_append_left first rest 0 i l

-- the parents behind an inner list stand behind it
StandAt-behind : (g : Clustered) (c n m : ℕ) (first rest : List ℕ) → length first ≡ m → StandAt g n (c ∷ first ++ rest)
    → StandAt g (n + (1 + m)) rest
StandAt-behind g c n m first rest size stand i l =
    ap (parent g) (let e : n + (1 + m) + i ≡ n + suc (length first + i) = omega arith in e)
    ∙ stand (suc (length first + i)) (omega (arith, length-append first rest))
    ∙ get_or-append-add first rest i 0

-- clusters are opened in the order of their nesting
IsOpened-all : (g : Clustered) (t : Tree) (c n : ℕ) → 0 < n → IsWithin g c (n - 1) → StandAt g n (parents c n t)
    → IsOpened g c n (opened t)
IsOpened-all g nil c n above w stand = record {
  nested = λ d from to. absurd (omega arith);
  last = subst (IsWithin g c) (let e : n - 1 ≡ n + 0 - 1 = omega arith in e) w;
}
IsOpened-all g (leaf key key_at value at t) c n above w stand = IsOpened-all g t c n above w stand
IsOpened-all g (node key key_at at list end t) c n above w stand =
    let b = is_cluster key in
    let m = opened list in
    let first = parents n (n + 1) list in
    let rest = parents c (n + (1 + m)) t in
    ⊎_elim
    (λ y.
    let all : StandAt g n (c ∷ first ++ rest) =
    subst (StandAt g n) (cond-true b (c ∷ first ++ rest) (parents c n t) y) stand in
    subst (IsOpened g c n) (sym (cond-true b (1 + m + opened t) (opened t) y))
    (IsOpened-more g c n m (opened t) above
    (ap (parent g) (let e : n ≡ n + 0 = omega arith in e) ∙ all 0 (omega arith))
    w
    (IsOpened-all g list n (n + 1) (omega arith) (subst (IsWithin g n) (let e : n ≡ n + 1 - 1 = omega arith in e) here)
    (StandAt-inside g c n first rest all))
    (λ v. IsOpened-all g t c (n + (1 + m)) (omega arith) v (StandAt-behind g c n m first rest
    (length-parents list n (n + 1)) all))))
    (λ f.
    subst (IsOpened g c n) (sym (cond-false b (1 + m + opened t) (opened t) f))
    (IsOpened-all g t c n above w (subst (StandAt g n) (cond-false b (c ∷ first ++ rest) (parents c n t) f) stand)))
    (cases_Bool b)

-- in what a list says the clusters within one follow it without a gap
pub IsNested-graph_of : (es : List Entry) → IsNested (graph_of es)
IsNested-graph_of es c above less =
    let g = graph_of es in
    let t = root_tree es in
    let size : length (parents 0 1 t) ≡ opened t = length-parents t 0 1 in
    (IsOpened-all g t 0 1 (omega arith) here (λ i l. ap (slice_index (parents 0 1 t))
    (let e : 1 + i - 1 ≡ i = omega arith in e))).nested c (omega arith) (omega arith)
