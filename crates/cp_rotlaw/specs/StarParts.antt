-- How a vertex is split: which part each vertex lies in, where the darts stand, and the lists.
use Rattle.std.specs.Prelude.{◌≡◌, ℕ, suc, ◌+◌, ◌-◌, ◌<◌, ◌≤◌, ◌==◌, ltb, Bool, true, cond, List, [], length, slice_index, slice_index_or}
use Rattle.std.specs.List.{filter}
use Rattle.cp_orbits.specs.Connected.{Connected}
use Rattle.cp_conn.specs.CutVertex.{without_vertex}
use Rattle.cp_conn.specs.Grouping.{AreGrouped, IsPlaced}
use Rattle.cp_rot.specs.Systems.{System, darts, vertex_of, list_of}
use Rattle.cp_faces.specs.Twins.{twin}
use Rattle.cp_rot.specs.Genus.{end_pairs}
use Rattle.cp_rotlaw.specs.Stars.{IsDartOf, EnterOne, star_vertex}

-- what the list tells of the vertex at the other end of dart d
abbrev pub far_key : System → List ℕ → ℕ → ℕ
far_key r numbers d = slice_index numbers (vertex_of r (twin d))

-- the numbers below n that pass are in so many parts as parts tells, of one key each, by their first items; places
-- tells for each of size keys one more than the number of its part, and 0 for a key that no such number has
pub record ArePlaced (p : ℕ → Bool) (key : ℕ → ℕ) (size n : ℕ) (places : List ℕ) (parts : ℕ) : Type 0 where
  pub rows : List (List ℕ)
  pub counted : length rows ≡ parts
  pub grouped : AreGrouped p key n rows
  pub placed : IsPlaced key size rows places
  pub keys : (d : ℕ) → d < n → p d ≡ true → key d < size

-- entered tells for each vertex one more than the number of the part that it lies in, and 0 where it lies in none:
-- a part is a component that an edge of u enters once u is removed
pub record AreEntered (r : System) (u parts : ℕ) (entered : List ℕ) : Type 0 where
  pub one_each : length entered ≡ r.vertices
  pub few : parts ≤ darts r
  pub away : slice_index entered u ≡ 0
  pub kept : (x y : ℕ) → x < r.vertices → y < r.vertices → Connected (without_vertex u (end_pairs r.at)) x y
      → slice_index entered x ≡ slice_index entered y
  pub seen : (d : ℕ) → IsDartOf r u d → 0 < far_key r entered d
  pub within : (x : ℕ) → slice_index entered x ≤ parts
  pub same : (d f : ℕ) → IsDartOf r u d → IsDartOf r u f → far_key r entered d ≡ far_key r entered f → EnterOne r u d f
  pub least : (i : ℕ) → i < parts → (d : ℕ) × IsDartOf r u d × (far_key r entered d ≡ suc i) × ((f : ℕ) → IsDartOf r u f
      → i < far_key r entered f → d ≤ f)

-- the number of the part of dart d
abbrev pub part_of : System → List ℕ → ℕ → ℕ
part_of r entered d = far_key r entered d - 1

-- at which vertex dart d stands, where u is split
abbrev pub star_at : System → ℕ → (ℕ → ℕ) → ℕ → ℕ
star_at r u part d = cond (vertex_of r d == u) (star_vertex r u (part d)) (vertex_of r d)

-- the darts of part i, in the order that they have in the list
abbrev pub star_row : (ℕ → ℕ) → List ℕ → ℕ → List ℕ
star_row part xs i = filter (λ d. part d == i) xs

-- the rows of the parts
pub record AreRows (part : ℕ → ℕ) (xs : List ℕ) (parts : ℕ) (rows : List (List ℕ)) : Type 0 where
  pub one_each : length rows ≡ parts
  pub told : (i : ℕ) → i < parts → slice_index_or rows i [] ≡ star_row part xs i

-- the list of vertex v, where u is split into parts with these rows
abbrev pub star_list : System → ℕ → List (List ℕ) → ℕ → List ℕ
star_list r u rows v = cond (v == u) (slice_index_or rows 0 []) (cond (ltb v r.vertices) (list_of r v) (slice_index_or rows (v + 1 - r.vertices) []))
