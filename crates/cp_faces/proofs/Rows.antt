-- Small cases in which the definitions are computed.
use Rattle.std.proofs.Common.{◌≡◌, ◌%◌, [], ◌∷◌, eqb, slice_index, refl}
use Rattle.cp_lists.specs.Count.{count}
use Rattle.cp_orbits.specs.Classes.{labels, classes, orbits}
use Rattle.cp_lists.specs.CyclicLists.{but, follow}
use Rattle.cp_faces.specs.Faces.{faces, components, partner, drop_edge}

-- three of the numbers below five are even
even_below_five : count 5 (λ x. eqb (x % 2) 0) ≡ 3
even_below_five = refl

-- the pairs 3-1 and 1-4 make three classes of five numbers
three_classes : classes 5 ((3, 1) ∷ (1, 4) ∷ []) ≡ 3
three_classes = refl

-- 4 is joined to 1 at the lowest
label_of_four : labels ((3, 1) ∷ (1, 4) ∷ []) 4 ≡ 1
label_of_four = refl

-- a cycle of three numbers and a fixed number are two orbits
two_orbits : orbits 4 (slice_index (1 ∷ 2 ∷ 0 ∷ 3 ∷ [])) ≡ 2
two_orbits = refl

-- behind the last item comes the first
behind_last : follow (4 ∷ 7 ∷ 5 ∷ []) 5 ≡ 4
behind_last = refl

-- the list without an item
left_out : but 7 (4 ∷ 7 ∷ 5 ∷ []) ≡ 4 ∷ 5 ∷ []
left_out = refl

-- the triangle has two faces
triangle_faces : faces 3 3 (slice_index (0 ∷ 1 ∷ 1 ∷ 2 ∷ 2 ∷ 0 ∷ [])) (slice_index (5 ∷ 2 ∷ 1 ∷ 4 ∷ 3 ∷ 0 ∷ [])) ≡ 2
triangle_faces = refl

-- the triangle has one component
triangle_components : components 3 3 (slice_index (0 ∷ 1 ∷ 1 ∷ 2 ∷ 2 ∷ 0 ∷ [])) ≡ 1
triangle_components = refl

-- two loops at one vertex that cross have one face
torus_faces : faces 1 2 (slice_index (0 ∷ 0 ∷ 0 ∷ 0 ∷ [])) (slice_index (2 ∷ 3 ∷ 1 ∷ 0 ∷ [])) ≡ 1
torus_faces = refl

-- a bare vertex is a face and a component
bare_face : faces 1 0 (λ d. 0) (λ d. d) ≡ 1
bare_face = refl

-- the other dart of dart 3 is dart 2
partner_of_three : partner 3 3 ≡ 2
partner_of_three = refl

-- the triangle without its last edge has one face
path_faces : faces 3 2 (slice_index (0 ∷ 1 ∷ 1 ∷ 2 ∷ 2 ∷ 0 ∷ []))
    (drop_edge 2 (slice_index (5 ∷ 2 ∷ 1 ∷ 4 ∷ 3 ∷ 0 ∷ []))) ≡ 1
path_faces = refl
