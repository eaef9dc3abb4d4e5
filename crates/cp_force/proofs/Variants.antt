-- A fact for each variant, at the one that is.
use Rattle.std.proofs.Common.{◌≡◌, Option, Some, None, subst}
use Rattle.std.specs.Option.{MatchOption}

-- the fact of what is there
pub match_Some : {A : Type 0} (P : Type 0) (F : A → Type 0) (r : Option A) (a : A) → r ≡ Some a → MatchOption r P F
    → F a
match_Some P F r a e h = subst (λ z. MatchOption z P F) e h

-- the fact of nothing
pub match_None : {A : Type 0} (P : Type 0) (F : A → Type 0) (r : Option A) → r ≡ None → MatchOption r P F → P
match_None P F r e h = subst (λ z. MatchOption z P F) e h
