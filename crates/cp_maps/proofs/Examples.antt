-- Small maps, whose counts compute.
use Rattle.std.proofs.Common.{◌≡◌, ℕ, List, [], ◌∷◌, refl, arith}
use Rattle.cp_orbits.specs.Classes.{orbits}
use Rattle.cp_maps.specs.Genus.{IsPlane, parts, rounds}
use Rattle.cp_maps.specs.Maps.{IsMapOf, next_by, swapped}
use Rattle.cp_maps.proofs.MapLists.{IsMapOf-by}

-- two vertices with two edges, in reverse orders
abbrev pub two_edges : List (List ℕ)
two_edges = (0 ∷ 2 ∷ []) ∷ (3 ∷ 1 ∷ []) ∷ []

-- it is the map of its lists
two_edges_map : IsMapOf 4 (next_by two_edges) two_edges
two_edges_map =
    IsMapOf-by 4 two_edges (
      ((λ h. omega arith), ((λ h. omega arith), ((λ h. omega arith), tt))),
      (((λ h. omega arith), ((λ h. omega arith), tt)), (((λ h. omega arith), tt), (tt, tt))),
    )
    (omega arith, (omega arith, (omega arith, (omega arith, tt))))

-- it has two vertices, two faces and one component
two_edges_counts : (orbits 4 (next_by two_edges) ≡ 2) × (rounds 2 (next_by two_edges) ≡ 2)
    × (parts 2 (next_by two_edges) ≡ 1)
two_edges_counts = (refl, refl, refl)

-- so it is plane
two_edges_plane : IsPlane 2 two_edges
two_edges_plane = omega (arith, two_edges_counts.0, two_edges_counts.1, two_edges_counts.2)

-- with an edge more in the stock, which is loose
loose_edge_counts : (orbits 6 (next_by two_edges) ≡ 4) × (rounds 3 (next_by two_edges) ≡ 3)
    × (parts 3 (next_by two_edges) ≡ 2)
loose_edge_counts = (refl, refl, refl)

-- a vertex with two loops that cross
abbrev pub torus : List (List ℕ)
torus = (0 ∷ 2 ∷ 1 ∷ 3 ∷ []) ∷ []

-- it has one vertex, one face and one component
torus_counts : (orbits 4 (next_by torus) ≡ 1) × (rounds 2 (next_by torus) ≡ 1) × (parts 2 (next_by torus) ≡ 1)
torus_counts = (refl, refl, refl)

-- so it is not plane
torus_not_plane : IsPlane 2 torus → ⊥
torus_not_plane z = omega (arith, torus_counts.0, torus_counts.1, torus_counts.2, z)

-- the first dart put before another: an edge hung in
hung : (swapped 4 0 (next_by two_edges) 2 ≡ 4) × (swapped 4 0 (next_by two_edges) 4 ≡ 0)
    × (swapped 4 0 (next_by two_edges) 0 ≡ 2)
hung = (refl, refl, refl)
