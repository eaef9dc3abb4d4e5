-- What a list has of each of several parts: the items whose key is in the part.
use Rattle.std.proofs.Common.{◌≡◌, ◌≢◌, ℕ, Bool, List, [], ◌∷◌, map, sym, refl, ◌∙◌, subst, ⊎_elim}
use Rattle.std.specs.List.{filter}
use Rattle.std.proofs.lemmas.Bool.{cases_Bool, false≢true}
use Rattle.cp_lists.specs.Crossings.{NoCross}
use Rattle.cp_lists.specs.CyclicLists.{Distinct, Has}
use Rattle.cp_lists.specs.Rows.{flat}
use Rattle.cp_lists.specs.Turns.{IsTurn}
use Rattle.cp_lists.proofs.DistinctLists.{Distinct-append, Has-append_cases, Has-append_left, Has-append_right, Lacks-from}
use Rattle.cp_lists.proofs.FilteredLists.{Has-filter, filter-Distinct, filter-Has, filter_agree}
use Rattle.cp_lists.proofs.TurnedLists.{turn-refl}
use Rattle.cp_maps.specs.Gluings.{AreCopiesOf, EachTurnOf}
use Rattle.cp_maps.specs.Maps.{has}
use Rattle.cp_maps.proofs.ListFacts.{has_no, has_true, has_yes}
use Rattle.cp_mergelaw.specs.Sides.{EachList, IsMergeOf, RestrictsTo, is_of}
use Rattle.cp_join.proofs.CopiesApart.{HasOneValue, HaveOtherValues}
use Rattle.cp_join.proofs.UncrossedValues.{values-IsMergeOf}

-- the items of the list whose key is in the part
abbrev pub part_copy : (ℕ → ℕ) → List ℕ → List ℕ → List ℕ
part_copy key whole part = filter (λ d. has (key d) part) whole

-- for each part
abbrev pub part_copies : (ℕ → ℕ) → List ℕ → List (List ℕ) → List (List ℕ)
part_copies key whole parts = map (part_copy key whole) parts

-- the value of the items of the list tells the parts of their keys: it is one on each part, and differs on two
abbrev pub TellsParts : (ℕ → ℕ) → (ℕ → ℕ) → List ℕ → List (List ℕ) → Type 0
TellsParts value key whole [] = Unit {0}
TellsParts value key whole (part ∷ parts) =
    ((c d : ℕ) → Has c whole → Has d whole → Has (key c) part → Has (key d) part → value c ≡ value d)
    × ((c d : ℕ) → Has c whole → Has d whole → Has (key c) part → Has (key d) (flat parts) → value c ≢ value d)
    × TellsParts value key whole parts

-- what a list keeps by a test, it keeps by the test for what it kept
kept-is_of : (p : ℕ → Bool) (xs : List ℕ) → filter (is_of (filter p xs)) xs ≡ filter p xs
kept-is_of p xs = filter_agree (is_of (filter p xs)) p xs (λ d h. ⊎_elim
    (λ t. has_yes d (filter p xs) (Has-filter p d xs h t) ∙ sym t)
    (λ f. has_no d (filter p xs) (Lacks-from d (filter p xs) (λ k. false≢true (sym f ∙ (filter-Has p d xs k).1)))
    ∙ sym f)
    (cases_Bool (p d)))

module _ (key : ℕ → ℕ) (whole : List ℕ) where
  -- an item of a copy is one of the list, with its key in the part
  pub copy-Has : (part : List ℕ) (d : ℕ) → Has d (part_copy key whole part) → Has d whole × Has (key d) part
  copy-Has part d h =
      let r = filter-Has (λ y. has (key y) part) d whole h in (r.0, has_true (key d) part r.1)

  -- and the other way round
  pub Has-copy : (part : List ℕ) (d : ℕ) → Has d whole → Has (key d) part → Has d (part_copy key whole part)
  Has-copy part d h k = Has-filter (λ y. has (key y) part) d whole h (has_yes (key d) part k)

  -- and the same for all parts
  pub copies-Has : (parts : List (List ℕ)) (d : ℕ) → Has d (flat (part_copies key whole parts))
      → Has d whole × Has (key d) (flat parts)
  copies-Has [] d h = absurd h
  copies-Has (part ∷ parts) d h = ⊎_elim
      (λ k. let r = copy-Has part d k in (r.0, Has-append_left (key d) part (flat parts) r.1))
      (λ k. let r = copies-Has parts d k in (r.0, Has-append_right (key d) part (flat parts) r.1))
      (Has-append_cases d (part_copy key whole part) (flat (part_copies key whole parts)) h)

  -- and the other way round
  pub Has-copies : (parts : List (List ℕ)) (d : ℕ) → Has d whole → Has (key d) (flat parts)
      → Has d (flat (part_copies key whole parts))
  Has-copies [] d h k = absurd k
  Has-copies (part ∷ parts) d h k = ⊎_elim
      (λ q. Has-append_left d (part_copy key whole part) (flat (part_copies key whole parts)) (Has-copy part d h q))
      (λ q. Has-append_right d (part_copy key whole part) (flat (part_copies key whole parts)) (Has-copies parts d h q))
      (Has-append_cases (key d) part (flat parts) k)

  -- the list keeps the order of each copy
  pub copies-restricted : (parts : List (List ℕ)) → EachList (RestrictsTo whole) (part_copies key whole parts)
  copies-restricted [] = tt
  copies-restricted (part ∷ parts) = (
    subst (IsTurn (part_copy key whole part)) (sym (kept-is_of (λ d. has (key d) part) whole))
        (turn-refl (part_copy key whole part)),
    copies-restricted parts,
  )

  -- each copy is what the list has of its items
  copies-EachTurnOf : (parts : List (List ℕ)) → EachTurnOf whole (part_copies key whole parts)
  copies-EachTurnOf [] = tt
  copies-EachTurnOf (part ∷ parts) = (
    subst (λ zs. IsTurn zs (part_copy key whole part)) (sym (kept-is_of (λ d. has (key d) part) whole))
        (turn-refl (part_copy key whole part)),
    copies-EachTurnOf parts,
  )

  -- where each key is in a part, they are copies of the list
  pub copies-AreCopiesOf : (parts : List (List ℕ)) → ((d : ℕ) → Has d whole → Has (key d) (flat parts))
      → AreCopiesOf whole (part_copies key whole parts)
  copies-AreCopiesOf parts each = record {
    turned = copies-EachTurnOf parts;
    all = λ d h. Has-copies parts d h (each d h);
  }

  module _ (value : ℕ → ℕ) where
    -- the value is one on each copy
    pub copies-HasOneValue : (parts : List (List ℕ)) → TellsParts value key whole parts
        → EachList (HasOneValue value) (part_copies key whole parts)
    copies-HasOneValue [] tells = tt
    copies-HasOneValue (part ∷ parts) tells = (
      (λ c d hc hd.
          let rc = copy-Has part c hc in
          let rd = copy-Has part d hd in
          tells.0 c d rc.0 rd.0 rc.1 rd.1),
      copies-HasOneValue parts tells.2,
    )

    -- and differs on two
    pub copies-HaveOtherValues : (parts : List (List ℕ)) → TellsParts value key whole parts
        → HaveOtherValues value (part_copies key whole parts)
    copies-HaveOtherValues [] tells = tt
    copies-HaveOtherValues (part ∷ parts) tells = (
      (λ c d hc hd.
          let rc = copy-Has part c hc in
          let rd = copies-Has parts d hd in
          tells.1 c d rc.0 rd.0 rc.1 rd.1),
      copies-HaveOtherValues parts tells.2,
    )

    -- so no item is in two copies
    pub copies-Distinct : (parts : List (List ℕ)) → TellsParts value key whole parts → Distinct whole
        → Distinct (flat (part_copies key whole parts))
    copies-Distinct [] tells once = tt
    copies-Distinct (part ∷ parts) tells once =
        Distinct-append (part_copy key whole part) (flat (part_copies key whole parts))
        (filter-Distinct (λ d. has (key d) part) whole once) (copies-Distinct parts tells.2 once)
        (λ d h. Lacks-from d (flat (part_copies key whole parts)) (λ k.
        let rh = copy-Has part d h in
        let rk = copies-Has parts d k in
        tells.1 d d rh.0 rk.0 rh.1 rk.1 refl))

    -- where the value does not cross in the list, it is put together of the copies
    pub copies-IsMergeOf : (parts : List (List ℕ)) → TellsParts value key whole parts → NoCross value whole
        → IsMergeOf whole (part_copies key whole parts)
    copies-IsMergeOf parts tells apart =
        values-IsMergeOf value whole apart (part_copies key whole parts) (copies-restricted parts)
        (copies-HasOneValue parts tells) (copies-HaveOtherValues parts tells)
