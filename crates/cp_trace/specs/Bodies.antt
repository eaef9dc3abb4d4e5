-- Texts of branches of shapes at the front of bytes.
use Rattle.std.specs.Prelude.{◌≡◌, ◌⊎◌, ℕ, ◌<◌, List, [], ◌∷◌, ◌++◌, map}
use Rattle.std.specs.List.{AllByRecursion, flat_map, join_with_byte}
use Rattle.cp_base.specs.declared.shape.Branch.{Branch}
use Rattle.cp_base.specs.Shapes.{leaves}
use Rattle.cp_trace.specs.Faults.{AreSmall}
use Rattle.cp_trace.specs.Texts.{body_text}

-- the bytes do not begin with a digit
abbrev pub HasNoDigit : List ℕ → Type 0
HasNoDigit [] = Unit {0}
HasNoDigit (byte ∷ bytes) = (byte < 48) ⊎ (57 < byte)

-- the bytes begin with the text of the branch, and then no digit
pub record IsBodyAt (bytes : List ℕ) (body : Branch) (rest : List ℕ) : Type 0 where
  pub small : AreSmall (leaves body)
  pub ends : HasNoDigit rest
  pub spelled : bytes ≡ body_text body ++ rest

-- kids with one blank between two, and the closing bracket
abbrev pub kids_text : List Branch → List ℕ
kids_text kids = join_with_byte 32 (map body_text kids) ++ 93 ∷ []

-- the bytes begin with the text of the kids, and then no digit
pub record AreKidsAt (bytes : List ℕ) (kids : List Branch) (rest : List ℕ) : Type 0 where
  pub small : AllByRecursion (λ kid. AreSmall (leaves kid)) kids
  pub ends : HasNoDigit rest
  pub spelled : bytes ≡ kids_text kids ++ rest

-- kids with one blank behind each
abbrev pub spaced_kids : List Branch → List ℕ
spaced_kids kids = flat_map (λ kid. body_text kid ++ 32 ∷ []) kids

-- the bytes begin with these kids, each with one blank behind it, and then comes a further kid
pub record GoOnWith (bytes : List ℕ) (kids : List Branch) (rest : List ℕ) : Type 0 where
  pub small : AllByRecursion (λ kid. AreSmall (leaves kid)) kids
  pub spelled : bytes ≡ spaced_kids kids ++ rest
  pub due : (after : List ℕ) → kids ≡ [] → rest ≡ 93 ∷ after → ⊥
