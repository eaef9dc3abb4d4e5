-- Faces, components, and Euler genus zero, which is Euler's formula counted over all components.
use Rattle.std.specs.Prelude.{◌≡◌, ℕ, ◌+◌, ◌*◌, List, [], ◌∷◌}
use Rattle.cp_lists.specs.Count.{IsCount}
use Rattle.cp_orbits.specs.Connected.{Connected, IsLeastConnected}
use Rattle.cp_orbits.specs.Orbits.{Reaches, IsLeastOfOrbit}
use Rattle.cp_rot.specs.Systems.{System, darts, edges, next, list_of}
use Rattle.cp_faces.specs.Twins.{twin}

-- along dart d to its other end, and there to the next dart
abbrev pub face_step : System → ℕ → ℕ
face_step r d = next r (twin d)

-- both darts lie in one face: repeating the step leads from x to y
abbrev pub InOneFace : System → ℕ → ℕ → Type 0
InOneFace r x y = Reaches (face_step r) x y

-- no dart stands at v
abbrev pub IsBare : System → ℕ → Type 0
IsBare r v = list_of r v ≡ []

-- f is the number of faces: the darts that are the least of their face, and the bare vertices
pub record FaceCount (r : System) (f : ℕ) : Type 0 where
  pub least_darts : ℕ
  pub bare_vertices : ℕ
  pub least : IsCount (IsLeastOfOrbit (face_step r)) (darts r) least_darts
  pub bare : IsCount (IsBare r) r.vertices bare_vertices
  pub sum : f ≡ least_darts + bare_vertices

-- the two vertices of each edge, from the list of the vertices at which the darts stand
abbrev pub end_pairs : List ℕ → List (ℕ × ℕ)
end_pairs [] = []
end_pairs (s ∷ []) = []
end_pairs (s ∷ t ∷ at) = (s, t) ∷ end_pairs at

-- a walk along edges leads from vertex v to vertex w
abbrev pub Joined : System → ℕ → ℕ → Type 0
Joined r v w = Connected (end_pairs r.at) v w

-- c is the number of components: the vertices that are the least of their component
abbrev pub ComponentCount : System → ℕ → Type 0
ComponentCount r c = IsCount (IsLeastConnected (end_pairs r.at)) r.vertices c

-- V - E + F = 2C, as a sum
pub record HasGenusZero (r : System) : Type 0 where
  pub faces : ℕ
  pub components : ℕ
  pub face_count : FaceCount r faces
  pub component_count : ComponentCount r components
  pub euler : r.vertices + faces ≡ edges r + 2 * components
