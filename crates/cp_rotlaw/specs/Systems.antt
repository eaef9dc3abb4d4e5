-- What several laws ask of a rotation system.
use Rattle.std.specs.Prelude.{◌≡◌, ◌≢◌, ℕ, ◌<◌, Bool, not, eqb}
use Rattle.cp_rot.specs.Systems.{System, darts, vertex_of}
use Rattle.cp_faces.specs.Twins.{twin}

-- no edge has both ends at u
abbrev pub HasNoLoopAt : System → ℕ → Type 0
HasNoLoopAt r u = (d : ℕ) → d < darts r → vertex_of r d ≡ u → vertex_of r (twin d) ≢ u

-- whether a number is another one than u
abbrev pub is_other : ℕ → ℕ → Bool
is_other u v = not (eqb v u)
