-- A pair is put at its place.
use Rattle.std.proofs.Common.{◌≡◌, ◌≤◌, ℕ, true, false, List, [], ◌∷◌, ◌++◌, drop, length, take, refl, ap, ⊎_elim, arith}
use Rattle.std.specs.Prelude.{ltb}
use Rattle.std.proofs.lemmas.Bool.{cases_Bool}
use Rattle.cp_board.specs.Names.{put}
use Rattle.cp_plant.specs.Rewriting.{place_of}

-- the place is one of the list or its end
pub place_of-within : (pairs : List (ℕ × ℕ)) (e : ℕ) → place_of pairs e ≤ length pairs
place_of-within [] e = omega arith
place_of-within (y ∷ ys) e = ⊎_elim
    (λ (t : ltb e y.0 ≡ true). rw (t) omega arith)
    (λ (f : ltb e y.0 ≡ false). rw (f) (let l = place_of-within ys e in omega (arith, l)))
    (cases_Bool (ltb e y.0))

-- the pairs with one more at its place
pub put-place : (pairs : List (ℕ × ℕ)) (x : ℕ × ℕ)
    → take (place_of pairs x.0) pairs ++ x ∷ drop (place_of pairs x.0) pairs ≡ put (λ y. y.0) x pairs
put-place [] x = refl
put-place (y ∷ ys) x = ⊎_elim
    (λ (t : ltb x.0 y.0 ≡ true). rw (t) refl)
    (λ (f : ltb x.0 y.0 ≡ false). rw (f) (ap (λ zs. y ∷ zs) (put-place ys x)))
    (cases_Bool (ltb x.0 y.0))
