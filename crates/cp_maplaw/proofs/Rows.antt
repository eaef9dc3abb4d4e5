-- Rotation systems whose genus is read off from their maps.
use Rattle.std.proofs.Common.{◌≡◌, ℕ, List, [], ◌∷◌, refl, arith}
use Rattle.cp_orbits.specs.Classes.{orbits}
use Rattle.cp_maps.specs.Genus.{parts, rounds}
use Rattle.cp_maps.specs.Maps.{IsMapOf, next_by}
use Rattle.cp_maps.proofs.MapLists.{IsMapOf-by}
use Rattle.cp_rot.specs.Systems.{System, IsRotation}
use Rattle.cp_rot.specs.Genus.{HasGenusZero}
use Rattle.cp_maplaw.proofs.Numbers.{numbered}

-- two vertices with two edges, in reverse orders
abbrev two_edges : List (List ℕ)
two_edges = (0 ∷ 2 ∷ []) ∷ (3 ∷ 1 ∷ []) ∷ []

-- the step to the next dart in these lists is a map of four darts with these lists
two_edges_map : IsMapOf 4 (next_by two_edges) two_edges
two_edges_map =
    IsMapOf-by 4 two_edges (
      ((λ h. omega arith), ((λ h. omega arith), ((λ h. omega arith), tt))),
      (((λ h. omega arith), ((λ h. omega arith), tt)), (((λ h. omega arith), tt), (tt, tt))),
    )
    (omega arith, (omega arith, (omega arith, (omega arith, tt))))

-- its counts are those of the plane
two_edges_counts : (orbits 4 (next_by two_edges) ≡ 2) × (rounds 2 (next_by two_edges) ≡ 2)
    × (parts 2 (next_by two_edges) ≡ 1)
two_edges_counts = (refl, refl, refl)

-- so the rotation system with this map has genus zero
two_edges_zero : (r : System) × IsRotation r × HasGenusZero r
two_edges_zero =
    let w = numbered 2 (next_by two_edges) two_edges two_edges_map in
    (w.0, w.1, w.4.1 (omega (arith, two_edges_counts.0, two_edges_counts.1, two_edges_counts.2)))

-- a vertex with two loops that cross
abbrev torus : List (List ℕ)
torus = (0 ∷ 2 ∷ 1 ∷ 3 ∷ []) ∷ []

-- the step to the next dart in its list is a map of four darts with this list
torus_map : IsMapOf 4 (next_by torus) torus
torus_map =
    IsMapOf-by 4 torus (
      ((λ h. omega arith), ((λ h. omega arith), ((λ h. omega arith), tt))),
      (((λ h. omega arith), ((λ h. omega arith), tt)), (((λ h. omega arith), tt), (tt, tt))),
    )
    (omega arith, (omega arith, (omega arith, (omega arith, tt))))

-- it has one vertex, one face and one component
torus_counts : (orbits 4 (next_by torus) ≡ 1) × (rounds 2 (next_by torus) ≡ 1) × (parts 2 (next_by torus) ≡ 1)
torus_counts = (refl, refl, refl)

-- so the rotation system with this map has not
torus_not_zero : (r : System) × IsRotation r × (HasGenusZero r → ⊥)
torus_not_zero =
    let w = numbered 2 (next_by torus) torus torus_map in
    (w.0, w.1, λ zero. omega (arith, torus_counts.0, torus_counts.1, torus_counts.2, w.4.0 zero))
