-- The parts of the edges of a vertex are told by the components in which the edges end without the vertex.
use Rattle.std.proofs.Common.{◌≡◌, ℕ, suc, ◌↔◌, List, [], ◌∷◌, ◌++◌, sym, refl, ap, ◌∙◌, subst, arith}
use Rattle.std.specs.List.{Contains}
use Rattle.std.specs.List.Sorted.{IsStrictlyIncreasing}
use Rattle.cp_lists.specs.CyclicLists.{Distinct, Has}
use Rattle.cp_lists.specs.Rows.{flat}
use Rattle.cp_lists.proofs.DistinctLists.{Distinct-append_right, Has-append_left, Has-append_right}
use Rattle.cp_conn.specs.NamedGraphs.{NamedGraph, edges_at}
use Rattle.cp_board.specs.Joins.{ArePartsAt, part_of}
use Rattle.cp_join.proofs.PartCopies.{TellsParts}
use Rattle.cp_join.proofs.PartLists.{all_has, all_of, all_once, part_has, part_is}
use Rattle.cp_join.proofs.PartValues.{part_value, part_value-Connected}

-- the items of all parts, one behind the other
all_of-flat : (parts : List (List ℕ)) → all_of parts ≡ flat parts
all_of-flat [] = refl
all_of-flat (part ∷ parts) = ap (λ zs. part ++ zs) (all_of-flat parts)

-- the place of the part of an item of the first part, and of one behind it
first_part : (part : List ℕ) (parts : List (List ℕ)) (e : ℕ) → Distinct (part ++ flat parts) → Has e part
    → part_of (part ∷ parts) e ≡ 0
first_part part parts e once h =
    part_is (part ∷ parts) 0 e (subst Distinct (sym (all_of-flat (part ∷ parts))) once) (omega arith) h

-- the place of the part of an item behind the first part
later_part : (part : List ℕ) (parts : List (List ℕ)) (e : ℕ) → Distinct (part ++ flat parts) → Has e (flat parts)
    → part_of (part ∷ parts) e ≡ suc (part_of parts e)
later_part part parts e once h =
    let r = part_has parts e (subst (Has e) (sym (all_of-flat parts)) h) in
    part_is (part ∷ parts) (suc (part_of parts e)) e (subst Distinct (sym (all_of-flat (part ∷ parts))) once)
    (omega (arith, r.0)) r.1

-- a value that is one exactly where the part is one tells the parts
TellsParts-from : (value key : ℕ → ℕ) (whole : List ℕ) (parts : List (List ℕ)) → Distinct (flat parts)
    → ((c d : ℕ) → Has c whole → Has d whole → Has (key c) (flat parts) → Has (key d) (flat parts)
    → (part_of parts (key c) ≡ part_of parts (key d)) ↔ (value c ≡ value d)) → TellsParts value key whole parts
TellsParts-from value key whole [] once told = tt
TellsParts-from value key whole (part ∷ parts) once told = (
  (λ c d hc hd pc pd.
      (told c d hc hd (Has-append_left (key c) part (flat parts) pc) (Has-append_left (key d) part (flat parts) pd)).0
      (first_part part parts (key c) once pc ∙ sym (first_part part parts (key d) once pd))),
  (λ c d hc hd pc pd same.
      let q : part_of (part ∷ parts) (key c) ≡ part_of (part ∷ parts) (key d) =
      (told c d hc hd (Has-append_left (key c) part (flat parts) pc)
      (Has-append_right (key d) part (flat parts) pd)).1 same in
      let zero_first = first_part part parts (key c) once pc in
      let after = later_part part parts (key d) once pd in
      omega (arith, q, zero_first, after)),
  TellsParts-from value key whole parts (Distinct-append_right part (flat parts) once) (λ c d hc hd pc pd.
      let r = told c d hc hd (Has-append_right (key c) part (flat parts) pc)
      (Has-append_right (key d) part (flat parts) pd) in
      let ec = later_part part parts (key c) once pc in
      let ed = later_part part parts (key d) once pd in
      ((λ q. r.0 (ec ∙ ap suc q ∙ sym ed)), (λ v. let w = r.1 v in omega (arith, w, ec, ed)))),
)

-- the edges of a vertex in parts, and a list whose keys are edges of the vertex
module _ (g : NamedGraph) (u : ℕ) (parts : List (List ℕ)) (rise : IsStrictlyIncreasing g.edges)
    (are : ArePartsAt g u parts) (key : ℕ → ℕ) (whole : List ℕ)
    (edge : (d : ℕ) → Has d whole → Contains (edges_at g u) (key d)) where
  -- each key is in a part
  pub key_in_part : (d : ℕ) → Has d whole → Has (key d) (flat parts)
  key_in_part d h = subst (Has (key d)) (all_of-flat parts) (all_has g u parts rise are (key d) (edge d h))

  -- the components tell the parts
  pub ArePartsAt-TellsParts : TellsParts (λ d. part_value g u (key d)) key whole parts
  ArePartsAt-TellsParts =
      TellsParts-from (λ d. part_value g u (key d)) key whole parts
      (subst Distinct (all_of-flat parts) (all_once g u parts rise are))
      (λ c d hc hd pc pd.
      let one = are.one (key c) (key d) (edge c hc) (edge d hd) in
      let values = part_value-Connected g u (key c) (key d) in
      ((λ q. values.1 (one.0 q)), (λ v. one.1 (values.0 v))))
