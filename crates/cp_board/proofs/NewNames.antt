-- New names are not live.
use Rattle.std.proofs.Common.{◌≡◌, ℕ, zero, suc, ◌+◌, Bool, true, false, not, List, [], ◌∷◌, length, sym, refl, subst}
use Rattle.std.specs.Prelude.{filter, take}
use Rattle.std.specs.List.{All, list_all, range_with_len}
use Rattle.std.proofs.lemmas.Bool.{cond_both, and_parts, and_from, not-true}
use Rattle.cp_board.specs.Names.{has, new_names, AreNew}
use Rattle.cp_board.proofs.ListTests.{All-from_test}

-- all that is kept passes
pub list_all-filter : (p : ℕ → Bool) (xs : List ℕ) → list_all p (filter p xs) ≡ true
list_all-filter p [] = refl
list_all-filter p (x ∷ xs) =
    cond_both (p x) (x ∷ filter p xs) (filter p xs) (λ zs. list_all p zs ≡ true) (λ t. and_from (p x) (list_all p (filter p xs)) t (list_all-filter p xs)) (λ f. list_all-filter p xs)

-- where all items pass, all of the first ones pass
pub list_all-take : (p : ℕ → Bool) (n : ℕ) (xs : List ℕ) → list_all p xs ≡ true → list_all p (take n xs) ≡ true
list_all-take p zero xs t = refl
list_all-take p (suc n) [] t = refl
list_all-take p (suc n) (x ∷ xs) t = let h = and_parts (p x) (list_all p xs) t in and_from (p x) (list_all p (take n xs)) h.0 (list_all-take p n xs h.1)

-- no new name is live
pub new_names-dead : (live names : List ℕ) → AreNew live names → All (λ n. has live n ≡ false) names
new_names-dead live names new = subst (All (λ n. has live n ≡ false)) (sym new)
    (All-from_test (λ n. has live n ≡ false) (λ n. not (has live n)) (λ n t. not-true (has live n) t) (new_names live (length names))
    (list_all-take (λ n. not (has live n)) (length names) (filter (λ k. not (has live k)) (range_with_len 0 (length live + length names))) (list_all-filter (λ n. not (has live n)) (range_with_len 0 (length live + length names)))))
