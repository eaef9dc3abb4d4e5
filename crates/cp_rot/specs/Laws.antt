-- How rotation systems stand to each other: with new numbers, and side by side.
use Rattle.std.specs.Prelude.{◌≡◌, ℕ, ◌+◌, ◌<◌}
use Rattle.cp_orbits.specs.Orbits.{Renumbers}
use Rattle.cp_rot.specs.Systems.{System, darts, vertex_of, next}
use Rattle.cp_faces.specs.Twins.{twin}

-- s is r with new numbers: h for the vertices and k for the darts, which back and undo take back
pub record IsRenamed (r s : System) (h back k undo : ℕ → ℕ) : Type 0 where
  pub vertices : s.vertices ≡ r.vertices
  pub size : darts s ≡ darts r
  pub vertex_numbers : Renumbers r.vertices h back
  pub dart_numbers : Renumbers (darts r) k undo
  pub twins : (d : ℕ) → d < darts r → twin (k d) ≡ k (twin d)
  pub stand : (d : ℕ) → d < darts r → vertex_of s (k d) ≡ h (vertex_of r d)
  pub follow : (d : ℕ) → d < darts r → next s (k d) ≡ k (next r d)

-- t is r and s side by side: the numbers of the vertices and darts of s come behind those of r
pub record IsSideBySide (r s t : System) : Type 0 where
  pub vertices : t.vertices ≡ r.vertices + s.vertices
  pub size : darts t ≡ darts r + darts s
  pub stand_first : (d : ℕ) → d < darts r → vertex_of t d ≡ vertex_of r d
  pub stand_second : (d : ℕ) → d < darts s → vertex_of t (darts r + d) ≡ r.vertices + vertex_of s d
  pub follow_first : (d : ℕ) → d < darts r → next t d ≡ next r d
  pub follow_second : (d : ℕ) → d < darts s → next t (darts r + d) ≡ darts r + next s d
