-- Tests that are told by what follows from them.
use Rattle.std.proofs.Common.{◌≡◌, Bool, true, false, sym, refl}

-- tests of which each follows from the other are equal
pub same_tests : (p q : Bool) → (p ≡ true → q ≡ true) → (q ≡ true → p ≡ true) → p ≡ q
same_tests true q to from = sym (to refl)
same_tests false true to from = from refl
same_tests false false to from = refl

-- a test that does not pass fails
pub not_true : (b : Bool) → (b ≡ true → ⊥) → b ≡ false
not_true true h = absurd (h refl)
not_true false h = refl
