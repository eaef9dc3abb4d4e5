-- The pipes of one pair of rows more.
use Rattle.std.proofs.Common.{◌≡◌, ◌∙◌, ℕ, suc, true, false, List, [], ◌∷◌, ◌++◌, slice_index, refl, ap, ⊎_elim}
use Rattle.std.proofs.lemmas.Bool.{cases_Bool, cond-false, cond-true}
use Rattle.std.proofs.lemmas.List.{append-nil}
use Rattle.cp_board.specs.Plantings.{Planted}
use Rattle.cp_plant.specs.Rewriting.{free_from, planted_pipe, planted_pipes}

-- the pipes of some pairs of rows and one more
pipes-more : (names : List ℕ) (n : ℕ) (xs : List (Planted × Planted)) (x : Planted × Planted)
    → planted_pipes names n (xs ++ x ∷ [])
    ≡ planted_pipes names n xs ++ planted_pipes names (free_from n xs) (x ∷ [])
pipes-more names n [] x = refl
pipes-more names n (q ∷ xs) x = ⊎_elim
    (λ (t : q.0.fixed ≡ true). rw (t) (pipes-more names n xs x))
    (λ (f : q.0.fixed ≡ false). rw (f) (ap (λ ps. planted_pipe (slice_index names n) q.0 q.1 ∷ ps)
    (pipes-more names (suc n) xs x)))
    (cases_Bool q.0.fixed)

-- the number of P-nodes among some pairs of rows and one more
free_from-more : (n : ℕ) (xs : List (Planted × Planted)) (x : Planted × Planted)
    → free_from n (xs ++ x ∷ []) ≡ free_from (free_from n xs) (x ∷ [])
free_from-more n [] x = refl
free_from-more n (q ∷ xs) x = ⊎_elim
    (λ (t : q.0.fixed ≡ true). rw (t) (free_from-more n xs x))
    (λ (f : q.0.fixed ≡ false). rw (f) (free_from-more (suc n) xs x))
    (cases_Bool q.0.fixed)

-- a P-node has a pipe
pub pipes-free : (names : List ℕ) (xs : List (Planted × Planted)) (x : Planted × Planted) → x.0.fixed ≡ false
    → planted_pipes names 0 (xs ++ x ∷ [])
    ≡ planted_pipes names 0 xs ++ planted_pipe (slice_index names (free_from 0 xs)) x.0 x.1 ∷ []
pipes-free names xs x f = pipes-more names 0 xs x
    ∙ ap (λ ps. planted_pipes names 0 xs ++ ps)
    (cond-false x.0.fixed [] (planted_pipe (slice_index names (free_from 0 xs)) x.0 x.1 ∷ []) f)

-- and its number is raised
pub free_from-free : (xs : List (Planted × Planted)) (x : Planted × Planted) → x.0.fixed ≡ false
    → free_from 0 (xs ++ x ∷ []) ≡ suc (free_from 0 xs)
free_from-free xs x f = free_from-more 0 xs x ∙ cond-false x.0.fixed (free_from 0 xs) (suc (free_from 0 xs)) f

-- a Q-node has none
pub pipes-fixed : (names : List ℕ) (xs : List (Planted × Planted)) (x : Planted × Planted) → x.0.fixed ≡ true
    → planted_pipes names 0 (xs ++ x ∷ []) ≡ planted_pipes names 0 xs
pipes-fixed names xs x t = pipes-more names 0 xs x
    ∙ ap (λ ps. planted_pipes names 0 xs ++ ps)
    (cond-true x.0.fixed [] (planted_pipe (slice_index names (free_from 0 xs)) x.0 x.1 ∷ []) t)
    ∙ append-nil (planted_pipes names 0 xs)

-- and the number stays
pub free_from-fixed : (xs : List (Planted × Planted)) (x : Planted × Planted) → x.0.fixed ≡ true
    → free_from 0 (xs ++ x ∷ []) ≡ free_from 0 xs
free_from-fixed xs x t = free_from-more 0 xs x ∙ cond-true x.0.fixed (free_from 0 xs) (suc (free_from 0 xs)) t
