-- In a list without faults each node has an id, and each edge has both ends.
use Rattle.std.proofs.Common.{◌≡◌, ℕ, ℤ, true, List, [], ◌∷◌, ◌++◌, length, Option, Some, None, refl, sym, ap, ◌∙◌, ⊎_elim, arith, length-append}
use Rattle.std.specs.Prelude.{codes}
use Rattle.std.specs.List.{position, flat_map}
use Rattle.std.specs.Option.{is_some}
use Rattle.std.specs.Ordering.{int_eq}
use Rattle.std.proofs.lemmas.Bool.{cases_Bool, cond-false}
use Rattle.cp_cgraph.specs.declared.kind.GraphKind.TheVariants.{NotAList, MissingId, RepeatedKey, UnknownEnd, MissingEnd}
use Rattle.cp_gml.specs.declared.tree.Entry.{Entry}
use Rattle.cp_cgraph.specs.Clustered.{Clustered}
use Rattle.cp_cgraph.specs.Entries.{keyed, inner, first_id, id_value, placed}
use Rattle.cp_cgraph.specs.GraphFaults.{Fault, later, bad_id, id_faults, is_known, duplicate, unknown_end, node_faults, nodes_faults, ids_of_node, end_faults, edge_faults, node_entries, edge_entries, known_ids, graph_faults}
use Rattle.cp_cgraph.specs.GraphOf.{node_of_id, both, ends_of_edge, IsGraphOf}

-- where two lists together are empty, the first is
no_left : (xs ys : List Fault) → xs ++ ys ≡ [] → xs ≡ []
no_left [] ys e = refl
no_left (x ∷ xs) ys e = cc

-- and the second is
no_right : (xs ys : List Fault) → xs ++ ys ≡ [] → ys ≡ []
no_right [] ys e = e
no_right (x ∷ xs) ys e = cc

-- entries of a key with no fault give an id
placed_one : (o : Option ℤ) (at : ℕ) → bad_id (placed o at) at ≡ [] → (n : ℤ) × (placed o at ≡ Some (n, at))
placed_one None at e = cc
placed_one (Some n) at e = (n, refl)

-- where the entries of an id have no fault there is an id
id_one : (missing : Fault) (ks : List Entry) → id_faults missing ks ≡ [] → (p : ℤ × ℕ) × (first_id ks ≡ Some p)
id_one missing [] e = cc
id_one missing (first ∷ rest) e =
    let found = placed_one (id_value first.value) first.value_at (no_left
    (bad_id (first_id (first ∷ rest)) first.value_at) (later RepeatedKey rest) e) in
    ((found.0, first.value_at), found.1)

-- a node, by the entries of its value
abbrev faults_in : Entry → List ℤ → Option (List Entry) → List Fault
faults_in e earlier None = (e.value_at, NotAList) ∷ []
faults_in e earlier (Some es) =
    id_faults (e.value_at, MissingId) (keyed (codes "id") es) ++ duplicate earlier (first_id (keyed (codes "id") es))

-- the `id` entries of a value
abbrev ids_under : Option (List Entry) → List Entry
ids_under None = []
ids_under (Some es) = keyed (codes "id") es

-- an id as a list
abbrev id_list : Option (ℤ × ℕ) → List ℤ
id_list None = []
id_list (Some id) = id.0 ∷ []

-- a node without fault has one id
node_of : (e : Entry) (earlier : List ℤ) (o : Option (List Entry)) → faults_in e earlier o ≡ []
    → length (id_list (first_id (ids_under o))) ≡ 1
node_of e earlier None h = cc
node_of e earlier (Some es) h =
    let ks = keyed (codes "id") es in
    let found = id_one (e.value_at, MissingId) ks (no_left (id_faults (e.value_at, MissingId) ks)
    (duplicate earlier (first_id ks)) h) in
    ap (λ (o : Option (ℤ × ℕ)). length (id_list o)) found.1

-- as many ids as nodes, where no node is at fault
nodes_whole : (earlier : List ℤ) (es : List Entry) → nodes_faults earlier es ≡ []
    → length (flat_map ids_of_node es) ≡ length es
nodes_whole earlier [] h = refl
nodes_whole earlier (e ∷ es) h =
    let one : length (ids_of_node e) ≡ 1 =
    node_of e earlier (inner e.value) (no_left (node_faults earlier e) (nodes_faults (earlier ++ ids_of_node e) es)
    h) in
    let rest : length (flat_map ids_of_node es) ≡ length es =
    nodes_whole (earlier ++ ids_of_node e) es (no_right (node_faults earlier e)
    (nodes_faults (earlier ++ ids_of_node e) es) h) in
    omega (arith, length-append (ids_of_node e) (flat_map ids_of_node es))

-- an edge
some_value : (o : Option ℕ) → is_some o ≡ true → (v : ℕ) × (o ≡ Some v)
some_value None e = cc
some_value (Some v) e = (v, refl)

module _ (ids : List ℤ) where
  -- an end without fault is a node
  known_one : (p : ℤ × ℕ) → unknown_end ids (Some p) ≡ [] → (v : ℕ) × (node_of_id ids (Some p) ≡ Some v)
  known_one p h =
      ⊎_elim
      (λ y. some_value (position (int_eq p.0) ids) y)
      (λ f. absurd (let wrong : (p.1, UnknownEnd) ∷ [] ≡ [] =
      sym (cond-false (is_known ids p.0) [] ((p.1, UnknownEnd) ∷ []) f) ∙ h in some_none (p.1, UnknownEnd) wrong))
      (cases_Bool (is_known ids p.0))
    where
      -- one fault is not none
      some_none : (x : Fault) → x ∷ [] ≡ [] → ⊥
      some_none x e = cc

  -- where the entries of an end have no fault there is a node
  end_one : (at : ℕ) (ks : List Entry) → end_faults ids at ks ≡ [] → (v : ℕ) × (node_of_id ids (first_id ks) ≡ Some v)
  end_one at ks h =
      let found = id_one (at, MissingEnd) ks (no_left (id_faults (at, MissingEnd) ks) (unknown_end ids (first_id ks))
      h) in
      let known = known_one found.0 (ap (unknown_end ids) (sym found.1) ∙ no_right (id_faults (at, MissingEnd) ks)
      (unknown_end ids (first_id ks)) h) in
      (known.0, ap (node_of_id ids) found.1 ∙ known.1)

  -- the faults of the ends of an edge
  abbrev ends_faults_in : Entry → Option (List Entry) → List Fault
  ends_faults_in e None = (e.value_at, NotAList) ∷ []
  ends_faults_in e (Some es) = end_faults ids e.value_at (keyed (codes "source") es) ++ end_faults ids e.value_at
      (keyed (codes "target") es)

  -- the two ends of an edge
  abbrev ends_in : Option (List Entry) → List (ℕ × ℕ)
  ends_in None = []
  ends_in (Some es) = both (node_of_id ids (first_id (keyed (codes "source") es)))
      (node_of_id ids (first_id (keyed (codes "target") es)))

  -- an edge without fault has two ends
  edge_of : (e : Entry) (o : Option (List Entry)) → ends_faults_in e o ≡ [] → length (ends_in o) ≡ 1
  edge_of e None h = cc
  edge_of e (Some es) h =
      let source = keyed (codes "source") es in
      let target = keyed (codes "target") es in
      let v = end_one e.value_at source (no_left (end_faults ids e.value_at source) (end_faults ids e.value_at target)
      h) in
      let w = end_one e.value_at target (no_right (end_faults ids e.value_at source) (end_faults ids e.value_at target)
      h) in
      ap (λ (o : Option ℕ). length (both o (node_of_id ids (first_id target)))) v.1
      ∙ ap (λ (o : Option ℕ). length (both (Some v.0) o)) w.1

  -- as many ends as edges, where no edge is at fault
  edges_whole : (es : List Entry) → flat_map (edge_faults ids) es ≡ []
      → length (flat_map (ends_of_edge ids) es) ≡ length es
  edges_whole [] h = refl
  edges_whole (e ∷ es) h =
      let one : length (ends_of_edge ids e) ≡ 1 =
      edge_of e (inner e.value) (no_left (edge_faults ids e) (flat_map (edge_faults ids) es) h) in
      let rest : length (flat_map (ends_of_edge ids) es) ≡ length es =
      edges_whole es (no_right (edge_faults ids e) (flat_map (edge_faults ids) es) h) in
      omega (arith, length-append (ends_of_edge ids e) (flat_map (ends_of_edge ids) es))

-- a node for each `node` entry
pub each_node : (end : ℕ) (es : List Entry) (g : Clustered) → IsGraphOf end es g
    → length g.ids ≡ length (node_entries es)
each_node end es g is =
    let behind = no_right (graph_faults end (keyed (codes "graph") es)) _ is.flawless in
    ap (λ (h : Clustered). length h.ids) is.says
    ∙ nodes_whole [] (node_entries es) (no_left (nodes_faults [] (node_entries es)) _ behind)

-- an edge for each `edge` entry
pub each_edge : (end : ℕ) (es : List Entry) (g : Clustered) → IsGraphOf end es g
    → length g.ends ≡ length (edge_entries es)
each_edge end es g is =
    let behind = no_right (graph_faults end (keyed (codes "graph") es)) _ is.flawless in
    let further = no_right (nodes_faults [] (node_entries es)) _ behind in
    ap (λ (h : Clustered). length h.ends) is.says
    ∙ edges_whole (known_ids es) (edge_entries es)
    (no_left (flat_map (edge_faults (known_ids es)) (edge_entries es)) _ further)
