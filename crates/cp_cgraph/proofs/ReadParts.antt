-- What is read of nested clusters is what their definition says.
use Rattle.std.proofs.Common.{◌≡◌, ℕ, ℤ, ◌+◌, true, false, cond, List, [], ◌∷◌, ◌++◌, length, Option, Some, None, refl, sym, ap, ◌∙◌, ⊎_elim, arith, append_assoc, append-nil, length-append}
use Rattle.std.specs.Prelude.{codes}
use Rattle.std.proofs.lemmas.Bool.{cases_Bool, cond-true, cond-false}
use Rattle.std.proofs.lemmas.Slice.Eq.{bytes_eq-Decides}
use Rattle.cp_cgraph.specs.declared.kind.GraphKind.{GraphKind}
use Rattle.cp_cgraph.specs.declared.kind.GraphKind.TheVariants.{NotAList, BadId}
use Rattle.cp_gml.specs.Tokens.{Leaf}
use Rattle.cp_gml.specs.Trees.{Tree, nil, leaf, node}
use Rattle.cp_cgraph.specs.GraphFaults.{Fault}
use Rattle.cp_cgraph.specs.Nested.{is_cluster, is_vertex, leaf_id, opened, parents, names, name_of, bad_name, wrong_entries}
use Rattle.cp_cgraph.specs.Passes.{read, with_cluster, with_fault, with_name}
use Rattle.cp_cgraph.specs.declared.clusters.Clusters.{Clusters}
use Rattle.cp_cgraph.specs.declared.clusters.Name.{Name}

-- as many parents as clusters are opened
pub length-parents : (t : Tree) (c n : ℕ) → length (parents c n t) ≡ opened t
length-parents nil c n = refl
length-parents (leaf key key_at value at t) c n = length-parents t c n
length-parents (node key key_at at inner end t) c n =
    let b = is_cluster key in
    let first = parents n (n + 1) inner in
    let rest = parents c (n + (1 + opened inner)) t in
    let first_is : length first ≡ opened inner = length-parents inner n (n + 1) in
    let rest_is : length rest ≡ opened t = length-parents t c (n + (1 + opened inner)) in
    ⊎_elim
    (λ y. ap length (cond-true b (c ∷ first ++ rest) (parents c n t) y)
    ∙ (let e : length (c ∷ first ++ rest) ≡ 1 + opened inner + opened t = omega (arith, length-append first rest) in e)
    ∙ sym (cond-true b (1 + opened inner + opened t) (opened t) y))
    (λ f. ap length (cond-false b (c ∷ first ++ rest) (parents c n t) f) ∙ length-parents t c n
    ∙ sym (cond-false b (1 + opened inner + opened t) (opened t) f))
    (cases_Bool b)

-- more of each
abbrev added : Clusters → List ℕ → List Name → List Fault → Clusters
added s ps ns fs = record { parents = s.parents ++ ps; names = s.names ++ ns; faults = s.faults ++ fs }

-- adding nothing changes nothing
added-nil : (s : Clusters) → s ≡ added s [] [] []
added-nil s = λ i. record {
  parents = sym (append-nil s.parents) i;
  names = sym (append-nil s.names) i;
  faults = sym
      (append-nil s.faults) i;
}

-- adding twice is adding both
added-added : (s : Clusters) (ps qs : List ℕ) (ns ms : List Name) (fs gs : List Fault)
    → added (added s ps ns fs) qs ms gs ≡ added s (ps ++ qs) (ns ++ ms) (fs ++ gs)
added-added s ps qs ns ms fs gs =
    λ i. record {
      parents = append_assoc s.parents ps qs i;
      names = append_assoc s.names ns ms i;
      faults =
          append_assoc s.faults fs gs i;
    }

-- the number of the next cluster
abbrev next : Clusters → ℕ
next s = length s.parents + 1

-- what is read before, with all that a list says
abbrev all_of : ℕ → Clusters → Tree → Clusters
all_of c s t = added s (parents c (next s) t) (names c (next s) t) (wrong_entries t)

-- the key `cluster` is not the key `vertex`
cluster_no_vertex : (key : List ℕ) → is_cluster key ≡ true → is_vertex key ≡ false
cluster_no_vertex key t = ap is_vertex ((bytes_eq-Decides key (codes "cluster")).0 t)

-- a leaf
abbrev leaf_step : ℕ → List ℕ → Leaf → ℕ → Clusters → Clusters
leaf_step c key value at s = cond (is_cluster key) (with_fault at NotAList s)
    (cond (is_vertex key) (with_name c (leaf_id value) at s) s)

-- the name that a leaf gives
abbrev leaf_names : ℕ → List ℕ → Leaf → ℕ → List Name
leaf_names c key value at = cond (is_vertex key) (name_of c (leaf_id value) at) []

-- the faults of a leaf
abbrev leaf_faults : List ℕ → Leaf → ℕ → List Fault
leaf_faults key value at = cond (is_cluster key) ((at, NotAList) ∷ []) (cond (is_vertex key)
    (bad_name (leaf_id value) at) [])

-- a name adds itself or its fault
with_name-added : (c : ℕ) (o : Option ℤ) (at : ℕ) (s : Clusters)
    → with_name c o at s ≡ added s [] (name_of c o at) (bad_name o at)
with_name-added c None at s = λ i. record {
  parents = sym (append-nil s.parents) i;
  names = sym (append-nil s.names) i;
  faults = s.faults ++ (at, BadId) ∷ [];
}
with_name-added c (Some n) at s =
    λ i. record {
      parents = sym (append-nil s.parents) i;
      names =
          s.names ++ record { cluster = c; id = n; at = at } ∷ [];
      faults = sym (append-nil s.faults) i;
    }

-- a fault adds itself
with_fault-added : (at : ℕ) (kind : GraphKind) (s : Clusters) → with_fault at kind s ≡ added s [] [] ((at, kind) ∷ [])
with_fault-added at kind s = λ i. record {
  parents = sym (append-nil s.parents) i;
  names = sym (append-nil s.names) i;
  faults = s.faults ++ (at, kind) ∷ [];
}

module _ (c : ℕ) (key : List ℕ) (value : Leaf) (at : ℕ) (s : Clusters) where
  -- a cluster that is no list adds its fault
  leaf_cluster : is_cluster key ≡ true → leaf_step c key value at s
      ≡ added s [] (leaf_names c key value at) (leaf_faults key value at)
  leaf_cluster t =
      cond-true (is_cluster key) (with_fault at NotAList s) (cond (is_vertex key) (with_name c (leaf_id value) at s) s)
      t
      ∙ with_fault-added at NotAList s
      ∙ (λ i. added s [] (sym (cond-false (is_vertex key) (name_of c (leaf_id value) at) [] (cluster_no_vertex key t))
      i) (sym (cond-true (is_cluster key) ((at, NotAList) ∷ []) (cond (is_vertex key) (bad_name (leaf_id value) at)
      []) t) i))

  -- a leaf of another key adds its name or its fault
  leaf_other : is_cluster key ≡ false → leaf_step c key value at s
      ≡ added s [] (leaf_names c key value at) (leaf_faults key value at)
  leaf_other f =
      let outer = cond-false (is_cluster key) (with_fault at NotAList s)
      (cond (is_vertex key) (with_name c (leaf_id value) at s) s) f in
      let told = cond-false (is_cluster key) ((at, NotAList) ∷ []) (cond (is_vertex key) (bad_name (leaf_id value) at)
      []) f in
      ⊎_elim
      (λ v. outer ∙ cond-true (is_vertex key) (with_name c (leaf_id value) at s) s v
      ∙ with_name-added c (leaf_id value) at s
      ∙ (λ i. added s [] (sym (cond-true (is_vertex key) (name_of c (leaf_id value) at) [] v) i)
      (sym (told ∙ cond-true (is_vertex key) (bad_name (leaf_id value) at) [] v) i)))
      (λ v. outer ∙ cond-false (is_vertex key) (with_name c (leaf_id value) at s) s v ∙ added-nil s
      ∙ (λ i. added s [] (sym (cond-false (is_vertex key) (name_of c (leaf_id value) at) [] v) i)
      (sym (told ∙ cond-false (is_vertex key) (bad_name (leaf_id value) at) [] v) i)))
      (cases_Bool (is_vertex key))

  -- a leaf adds its name or its fault
  leaf_step-added : leaf_step c key value at s ≡ added s [] (leaf_names c key value at) (leaf_faults key value at)
  leaf_step-added = ⊎_elim leaf_cluster leaf_other (cases_Bool (is_cluster key))

-- a list that opens no cluster
abbrev list_faults : List ℕ → ℕ → List Fault
list_faults key at = cond (is_vertex key) ((at, BadId) ∷ []) []

-- a list that is no cluster adds its fault, if it is a name
list_step-added : (key : List ℕ) (at : ℕ) (s : Clusters)
    → cond (is_vertex key) (with_fault at BadId s) s ≡ added s [] [] (list_faults key at)
list_step-added key at s =
    ⊎_elim
    (λ v. cond-true (is_vertex key) (with_fault at BadId s) s v ∙ with_fault-added at BadId s
    ∙ (λ i. added s [] [] (sym (cond-true (is_vertex key) ((at, BadId) ∷ []) [] v) i)))
    (λ v. cond-false (is_vertex key) (with_fault at BadId s) s v ∙ added-nil s
    ∙ (λ i. added s [] [] (sym (cond-false (is_vertex key) ((at, BadId) ∷ []) [] v) i)))
    (cases_Bool (is_vertex key))

-- the rest behind what adds no parent
behind : (c : ℕ) (t : Tree) (s u : Clusters) (ns : List Name) (fs : List Fault)
    → ((v : Clusters) → read c t v ≡ all_of c v t) → u ≡ added s [] ns fs
    → read c t u ≡ added s (parents c (next s) t) (ns ++ names c (next s) t) (fs ++ wrong_entries t)
behind c t s u ns fs rest is =
    let none : List ℕ = [] in
    let same : next (added s [] ns fs) ≡ next s = omega (arith, length-append s.parents none) in
    ap (read c t) is ∙ rest (added s [] ns fs)
    ∙ ap (λ (n : ℕ). added (added s [] ns fs) (parents c n t) (names c n t) (wrong_entries t)) same
    ∙ added-added s [] (parents c (next s) t) ns (names c (next s) t) fs (wrong_entries t)

-- the rest behind a cluster
behind_cluster : (c : ℕ) (inner t : Tree) (s : Clusters) → ((d : ℕ) (v : Clusters) → read d inner v ≡ all_of d v inner)
    → ((v : Clusters) → read c t v ≡ all_of c v t)
    → read c t (read (length (s.parents ++ c ∷ [])) inner (with_cluster c s))
    ≡ added s (c ∷ parents (next s) (next s + 1) inner ++ parents c (next s + (1 + opened inner)) t)
    (names (next s) (next s + 1) inner ++ names c (next s + (1 + opened inner)) t)
    (wrong_entries inner ++ wrong_entries t)
behind_cluster c inner t s first rest =
    let n = next s in
    let ps = parents n (n + 1) inner in
    let ns = names n (n + 1) inner in
    let fs = wrong_entries inner in
    let opens : with_cluster c s ≡ added s (c ∷ []) [] [] =
    λ i. record {
      parents = s.parents ++ c ∷ [];
      names = sym (append-nil s.names) i;
      faults =
          sym (append-nil s.faults) i;
    } in
    let number : length (s.parents ++ c ∷ []) ≡ n = omega (arith, length-append s.parents (c ∷ [])) in
    let inside : read (length (s.parents ++ c ∷ [])) inner (with_cluster c s) ≡ added s (c ∷ ps) ns fs
    = first (length (s.parents ++ c ∷ [])) (with_cluster c s)
    ∙ ap (λ (m : ℕ). added (with_cluster c s) (parents m (m + 1) inner) (names m (m + 1) inner) fs) number
    ∙ ap (λ (v : Clusters). added v ps ns fs) opens
    ∙ added-added s (c ∷ []) ps [] ns [] fs in
    let further : next (added s (c ∷ ps) ns fs) ≡ n + (1 + opened inner) =
    omega (arith, length-append s.parents (c ∷ ps), length-parents inner n (n + 1)) in
    ap (read c t) inside ∙ rest (added s (c ∷ ps) ns fs)
    ∙ ap (λ (k : ℕ). added (added s (c ∷ ps) ns fs) (parents c k t) (names c k t) (wrong_entries t)) further
    ∙ added-added s (c ∷ ps) (parents c (n + (1 + opened inner)) t) ns (names c (n + (1 + opened inner)) t) fs
    (wrong_entries t)

-- reading a list adds all that it says
pub read-all : (t : Tree) (c : ℕ) (s : Clusters) → read c t s ≡ all_of c s t
read-all nil c s = added-nil s
read-all (leaf key key_at value at t) c s =
    behind c t s (leaf_step c key value at s) (leaf_names c key value at) (leaf_faults key value at)
    (λ v. read-all t c v) (leaf_step-added c key value at s)
read-all (node key key_at at inner end t) c s =
    let b = is_cluster key in
    let n = next s in
    let opens = read (length (s.parents ++ c ∷ [])) inner (with_cluster c s) in
    let else_step = cond (is_vertex key) (with_fault at BadId s) s in
    let k = n + (1 + opened inner) in
    ⊎_elim
    (λ y. ap (read c t) (cond-true b opens else_step y)
    ∙ behind_cluster c inner t s (λ d v. read-all inner d v) (λ v. read-all t c v)
    ∙ (λ i. added s
    (sym (cond-true b (c ∷ parents n (n + 1) inner ++ parents c k t) (parents c n t) y) i)
    (sym (cond-true b (names n (n + 1) inner ++ names c k t) (names c n t) y) i)
    (sym (cond-true b (wrong_entries inner) (list_faults key at) y) i ++ wrong_entries t)))
    (λ f. ap (read c t) (cond-false b opens else_step f)
    ∙ behind c t s else_step [] (list_faults key at) (λ v. read-all t c v) (list_step-added key at s)
    ∙ (λ i. added s
    (sym (cond-false b (c ∷ parents n (n + 1) inner ++ parents c k t) (parents c n t) f) i)
    (sym (cond-false b (names n (n + 1) inner ++ names c k t) (names c n t) f) i)
    (sym (cond-false b (wrong_entries inner) (list_faults key at) f) i ++ wrong_entries t)))
    (cases_Bool b)
