-- First places of ids, in a list and in a table.
use Rattle.std.proofs.Common.{◌≡◌, ℕ, ℤ, Bool, true, false, not, cond, List, [], ◌∷◌, ◌++◌, length, Option, Some, None, sym, ap, ◌∙◌, arith, ⊎_elim, Bor}
use Rattle.std.specs.List.{position}
use Rattle.std.specs.Option.{is_some, option_copied}
use Rattle.std.specs.Ordering.{int_eq}
use Rattle.std.proofs.lemmas.Bool.{cases_Bool, cond-true, cond-false}
use Rattle.std.proofs.lemmas.Bool.Decides.{nat_tests, Decides-int_eq, same_from_decides}
use Rattle.std.proofs.lemmas.List.{length_push}
use Rattle.std.proofs.lemmas.List.Sums.{prefix_len-le-length}
use Rattle.std.proofs.lemmas.List.Folds.{position_or_len_push}

module _ {X : Type 0} (p : X → Bool) (xs : List X) (y : X) where
  -- an item that is found keeps its place
  pub place_kept : is_some (position p xs) ≡ true → position p (xs ++ y ∷ []) ≡ position p xs
  place_kept some = grind (arith, nat_tests, position_or_len_push p xs y, length_push xs y)

  -- another item behind changes no place
  pub place_other : p y ≡ false → position p (xs ++ y ∷ []) ≡ position p xs
  place_other other = grind (arith, nat_tests, position_or_len_push p xs y, length_push xs y)

  -- an item that is found first at the end has the last place
  pub place_new : position p xs ≡ None → p y ≡ true → position p (xs ++ y ∷ []) ≡ Some (length xs)
  place_new none here = grind (
    arith,
    nat_tests,
    position_or_len_push p xs y,
    length_push xs y,
    prefix_len-le-length
        (λ (x : X). not (p x)) xs,
  )

-- the two ways to compare ids
turned : (id n : ℤ) → int_eq id n ≡ int_eq n id
turned id n =
    same_from_decides (int_eq id n) (int_eq n id) (
      (λ e. sym ((Decides-int_eq id n).0 e)),
      (λ e. (Decides-int_eq id n).1 (sym e)),
    ) (Decides-int_eq n id)

module _ (old new : ℤ → Option ℕ) (ids : List ℤ) (id : ℤ) (agree : (n : ℤ) → old n ≡ position (int_eq n) ids) where
  -- a table with the id already tells all places
  pub table_kept : is_some (old id) ≡ true → (n : ℤ) → old n ≡ position (int_eq n) (ids ++ id ∷ [])
  table_kept some n =
      ⊎_elim
      (λ t.
      let same : n ≡ id = (Decides-int_eq n id).0 t in
      agree n ∙ sym (place_kept (int_eq n) ids id (ap is_some (sym (agree n) ∙ ap old same) ∙ some)))
      (λ f. agree n ∙ sym (place_other (int_eq n) ids id f))
      (cases_Bool (int_eq n id))

  -- a table with one more id tells all places
  pub table_more : old id ≡ None → ((q : ℤ) → new q ≡ cond (int_eq id q) (Some (length ids)) (old q)) → (n : ℤ)
      → new n ≡ position (int_eq n) (ids ++ id ∷ [])
  table_more none updates n =
      ⊎_elim
      (λ t.
      let same : n ≡ id = (Decides-int_eq n id).0 t in
      updates n ∙ cond-true (int_eq id n) (Some (length ids)) (old n) (turned id n ∙ t)
      ∙ sym (place_new (int_eq n) ids id (sym (agree n) ∙ ap old same ∙ none) t))
      (λ f. updates n ∙ cond-false (int_eq id n) (Some (length ids)) (old n) (turned id n ∙ f) ∙ agree n
      ∙ sym (place_other (int_eq n) ids id f))
      (cases_Bool (int_eq n id))

-- what is not there has no copy
pub none_copied : (r : Option (Bor ℕ)) (o : Option ℕ) → option_copied r ≡ o → is_some r ≡ false → o ≡ None
none_copied None o e no_one = sym e
none_copied (Some x) o e no_one = cc

-- what is there has a copy
pub some_copied : (r : Option (Bor ℕ)) (o : Option ℕ) → option_copied r ≡ o → is_some r ≡ true → is_some o ≡ true
some_copied None o e one = cc
some_copied (Some x) o e one = ap is_some (sym e)
