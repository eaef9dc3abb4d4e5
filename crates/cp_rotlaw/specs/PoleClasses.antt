-- The parts into which two poles divide a rotation system, and the darts of one pole put together by parts.
use Rattle.std.specs.Prelude.{◌≡◌, ◌≢◌, ◌⊎◌, ℕ, ◌+◌, ◌/◌, ◌<◌, ◌==◌, ◌||◌, Bool, true, not, cond, List, [], ◌∷◌, ◌++◌, slice_index}
use Rattle.std.specs.List.{filter}
use Rattle.cp_lists.specs.Turns.{IsTurn}
use Rattle.cp_orbits.specs.Connected.{Connected}
use Rattle.cp_faces.specs.Twins.{twin}
use Rattle.cp_conn.specs.CutVertex.{without_vertex}
use Rattle.cp_rot.specs.Genus.{end_pairs}
use Rattle.cp_rot.specs.Systems.{System, darts, list_of, vertex_of}
use Rattle.cp_rotlaw.specs.Stars.{IsDartOf}
use Rattle.cp_rotlaw.specs.StarParts.{far_key, star_row}

-- the ends of the edges that touch neither of two vertices
abbrev pub pairs_between : System → ℕ → ℕ → List (ℕ × ℕ)
pairs_between r u v = without_vertex u (without_vertex v (end_pairs r.at))

-- vertex w is one of the poles u and v
abbrev pub is_pole : ℕ → ℕ → ℕ → Bool
is_pole u v w = (w == u) || (w == v)

-- the part of dart d of a pole: the number of the component that its edge enters, or, where its edge leads to a pole,
-- a number of its own behind all these
abbrev pub pole_part : System → ℕ → ℕ → List ℕ → ℕ → ℕ
pole_part r u v numbers d = cond (is_pole u v (vertex_of r (twin d))) (r.vertices + d / 2) (far_key r numbers d)

-- the far end of dart d is neither pole
abbrev pub LeadsBetween : System → ℕ → ℕ → ℕ → Type 0
LeadsBetween r u v d = (vertex_of r (twin d) ≢ u) × (vertex_of r (twin d) ≢ v)

-- the part of any dart: where it stands between the poles that of its vertex
abbrev pub dart_part : System → ℕ → ℕ → List ℕ → ℕ → ℕ
dart_part r u v numbers d = cond (is_pole u v (vertex_of r d))
    (pole_part r u v numbers d)
    (slice_index numbers (vertex_of r d))

-- number tells for each vertex between the poles u and v its part, and part the part of each dart: an edge is of one
-- part, of each part that a dart of u enters it has no other, and v has one
pub record ArePoleParts (r : System) (u v : ℕ) (number part : ℕ → ℕ) : Type 0 where
  pub inner : (d : ℕ) → d < darts r → vertex_of r d ≢ u → vertex_of r d ≢ v → part d ≡ number (vertex_of r d)
  pub twins : (d : ℕ) → d < darts r → part (twin d) ≡ part d
  pub linked : (d f : ℕ) → IsDartOf r u d → IsDartOf r v f → part f ≡ part d
      → (f ≡ twin d) ⊎ (LeadsBetween r u v d × LeadsBetween r u v f
      × Connected (pairs_between r u v) (vertex_of r (twin d)) (vertex_of r (twin f)))
  pub one_each : (d f : ℕ) → IsDartOf r u d → IsDartOf r u f → part d ≡ part f → d ≡ f
  pub reach : (d : ℕ) → IsDartOf r u d → (f : ℕ) × IsDartOf r v f × (part f ≡ part d)

-- the test tells which parts a dart of u enters
pub record IsEnteredTest (r : System) (u : ℕ) (part : ℕ → ℕ) (entered : ℕ → Bool) : Type 0 where
  pub yes : (d : ℕ) → IsDartOf r u d → entered (part d) ≡ true
  pub from : (d : ℕ) → d < darts r → entered (part d) ≡ true → (f : ℕ) × IsDartOf r u f × (part f ≡ part d)

-- the first and the last dart of the list are of two parts
pub record HasEndsApart (part : ℕ → ℕ) (ws : List ℕ) : Type 0 where
  pub front : ℕ
  pub middle : List ℕ
  pub back : ℕ
  pub whole : ws ≡ front ∷ (middle ++ back ∷ [])
  pub apart : part front ≢ part back

-- behind the darts zs those of the list ws by parts: first those of the part of the last dart of the order
abbrev pub joined_rows : (ℕ → ℕ) → List ℕ → List ℕ → List ℕ → List ℕ
joined_rows part zs ws [] = zs
joined_rows part zs ws (x ∷ xs) = joined_rows part zs ws xs ++ star_row part ws (part x)

-- the darts of v: first those of parts that no dart of u enters, then ws by parts in the reverse of the order
abbrev pub permuted_row : System → ℕ → (ℕ → ℕ) → (ℕ → Bool) → List ℕ → List ℕ → List ℕ
permuted_row r v part entered ws order =
    joined_rows part (filter (λ d. not (entered (part d))) (list_of r v)) ws order

-- the row has the darts of v by parts in the reverse of the order, those of each part from one end of the list of v on
-- that is apart from its other end
pub record IsPermutedRow (r : System) (u v : ℕ) (order row : List ℕ) : Type 0 where
  pub number : ℕ → ℕ
  pub part : ℕ → ℕ
  pub entered : ℕ → Bool
  pub ws : List ℕ
  pub parts : ArePoleParts r u v number part
  pub test : IsEnteredTest r u part entered
  pub turn : IsTurn (filter (λ d. entered (part d)) (list_of r v)) ws
  pub ends : HasEndsApart part ws
  pub row_is : row ≡ permuted_row r v part entered ws order

-- the lists where u has the order and v the row
abbrev pub permuted_list : System → ℕ → ℕ → List ℕ → List ℕ → ℕ → List ℕ
permuted_list r u v order row w = cond (w == u) order (cond (w == v) row (list_of r w))
