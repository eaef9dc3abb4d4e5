-- Names of nodes, one by one.
use Rattle.std.proofs.Common.{◌≡◌, ℕ, ℤ, suc, ◌+◌, ◌<◌, ◌≤◌, pos, true, false, cond, List, [], ◌∷◌, ◌++◌, length, map, drop, get_or, Some, None, refl, sym, ap, ◌∙◌, arith, ⊎_elim, append_assoc, not}
use Rattle.std.specs.List.{position, position_or_len}
use Rattle.std.specs.Ordering.{int_eq}
use Rattle.std.proofs.lemmas.Bool.{cases_Bool, cond-true, cond-false}
use Rattle.std.proofs.lemmas.Bool.Decides.{nat_tests}
use Rattle.std.proofs.lemmas.List.{at_drop_more, get_or_past, length-map}
use Rattle.cp_cgraph.specs.declared.kind.GraphKind.TheVariants.{UnknownVertex, VertexTwice}
use Rattle.cp_cgraph.specs.declared.clusters.Name.{Name}
use Rattle.cp_cgraph.specs.GraphFaults.{Fault, is_known, name_faults, names_faults}
use Rattle.cp_cgraph.specs.GraphOf.{home_by}

module _ (ids earlier : List ℤ) (n : ℤ) (at : ℕ) where
  -- a name of no node is at fault
  pub unknown_name : is_known ids n ≡ false → name_faults ids earlier n at ≡ (at, UnknownVertex) ∷ []
  unknown_name f = cond-false (is_known ids n) (cond (is_known earlier n) ((at, VertexTwice) ∷ []) [])
      ((at, UnknownVertex) ∷ []) f

  -- a name of a node that is named already is at fault
  pub second_name : is_known ids n ≡ true → is_known earlier n ≡ true
      → name_faults ids earlier n at ≡ (at, VertexTwice) ∷ []
  second_name t u = cond-true (is_known ids n) (cond (is_known earlier n) ((at, VertexTwice) ∷ []) [])
      ((at, UnknownVertex) ∷ []) t ∙ cond-true (is_known earlier n) ((at, VertexTwice) ∷ []) [] u

  -- another name has no fault
  pub fresh_name : is_known ids n ≡ true → is_known earlier n ≡ false → name_faults ids earlier n at ≡ []
  fresh_name t u = cond-true (is_known ids n) (cond (is_known earlier n) ((at, VertexTwice) ∷ []) [])
      ((at, UnknownVertex) ∷ []) t ∙ cond-false (is_known earlier n) ((at, VertexTwice) ∷ []) [] u

-- the name where there is none
abbrev pub nobody : Name
nobody = record { cluster = 0; id = pos 0; at = 0 }

-- the id of a name
abbrev id_in : Name → ℤ
id_in m = m.id

-- the next name is one of the names
pub names_next : (named : List ℤ) (ms : List Name) (i : ℕ) → i < length ms
    → (named ++ (get_or ms i nobody).id ∷ []) ++ map (λ (m : Name). m.id) (drop (i + 1) ms)
    ≡ named ++ map (λ (m : Name). m.id) (drop i ms)
names_next named ms i less =
    append_assoc named ((get_or ms i nobody).id ∷ []) (map (λ (m : Name). m.id) (drop (i + 1) ms))
    ∙ sym (ap (λ (ns : List ℤ). named ++ ns) (at_drop_more (λ (xs : List Name). map (λ (m : Name). m.id) xs) ms i nobody
    less))

-- the faults of the next name are those of the names
pub names_faults_next : (ids named : List ℤ) (fs : List Fault) (ms : List Name) (i : ℕ) → i < length ms
    → (fs ++ name_faults ids named (get_or ms i nobody).id (get_or ms i nobody).at) ++ names_faults ids
    (named ++ (get_or ms i nobody).id ∷ []) (drop (i + 1) ms) ≡ fs ++ names_faults ids named (drop i ms)
names_faults_next ids named fs ms i less =
    let m = get_or ms i nobody in
    append_assoc fs (name_faults ids named m.id m.at) (names_faults ids (named ++ m.id ∷ []) (drop (i + 1) ms))
    ∙ sym (ap (λ (gs : List Fault). fs ++ gs) (at_drop_more (λ (xs : List Name). names_faults ids named xs) ms i nobody
    less))

-- the home is told by the first place of the id
home_place : (ms : List Name) (n : ℤ) → home_by ms n
    ≡ (get_or ms (position_or_len (int_eq n) (map (λ (m : Name). m.id) ms)) nobody).cluster
home_place [] n = refl
home_place (m ∷ ms) n =
    let q = position_or_len (int_eq n) (map (λ (x : Name). x.id) ms) in
    ⊎_elim
    (λ t. cond-true (int_eq n m.id) m.cluster (home_by ms n) t
    ∙ sym (ap (λ (k : ℕ). (get_or (m ∷ ms) k nobody).cluster) (cond-false (not (int_eq n m.id)) (1 + q) 0
    (ap not t))))
    (λ f. cond-false (int_eq n m.id) m.cluster (home_by ms n) f ∙ home_place ms n
    ∙ sym (ap (λ (k : ℕ). (get_or (m ∷ ms) k nobody).cluster) (cond-true (not (int_eq n m.id)) (1 + q) 0 (ap not f)
    ∙ (let one : 1 + q ≡ suc q = omega arith in one))))
    (cases_Bool (int_eq n m.id))

-- an id that is not there has no place
place_none : (ids : List ℤ) (n : ℤ) → position (int_eq n) ids ≡ None → length ids ≤ position_or_len (int_eq n) ids
place_none ids n none = grind (arith, nat_tests)

-- an id that is there has its place
place_some : (ids : List ℤ) (n : ℤ) (i : ℕ) → position (int_eq n) ids ≡ Some i → position_or_len (int_eq n) ids ≡ i
place_some ids n i some = grind (arith, nat_tests)

-- a node that is not named is in the root
pub home_none : (ms : List Name) (n : ℤ) → position (int_eq n) (map (λ (m : Name). m.id) ms) ≡ None → 0 ≡ home_by ms n
home_none ms n none =
    let ids = map (λ (m : Name). m.id) ms in
    let far = place_none ids n none in
    sym (home_place ms n ∙ ap (λ (m : Name). m.cluster) (get_or_past ms (position_or_len (int_eq n) ids) nobody
    (omega (arith, length-map ms (λ (m : Name). m.id), far))))

-- a node that is named has the cluster of its first name as its home
pub home_some : (ms : List Name) (n : ℤ) (i : ℕ) → position (int_eq n) (map (λ (m : Name). m.id) ms) ≡ Some i
    → (get_or ms i nobody).cluster ≡ home_by ms n
home_some ms n i some =
    let ids = map (λ (m : Name). m.id) ms in
    sym (home_place ms n ∙ ap (λ (k : ℕ). (get_or ms k nobody).cluster) (place_some ids n i some))
