-- Systems on which the definitions are tried.
use Rattle.std.specs.Prelude.{◌≡◌, [], ◌∷◌, refl}
use Rattle.cp_rot.specs.Systems.{System, next}
use Rattle.cp_rot.specs.Genus.{face_step, end_pairs}

-- the triangle with edges 0-1, 1-2 and 2-0
abbrev pub triangle : System
triangle = record { vertices = 3; at = 0 ∷ 1 ∷ 1 ∷ 2 ∷ 2 ∷ 0 ∷ []; lists = (0 ∷ 5 ∷ []) ∷ (1 ∷ 2 ∷ []) ∷ (3 ∷ 4 ∷ []) ∷ [] }

-- dart 0 comes behind dart 5 round its vertex
triangle_next : next triangle 5 ≡ 0
triangle_next = refl

-- the face of dart 0 goes on with dart 2
triangle_face : face_step triangle 0 ≡ 2
triangle_face = refl

-- the face of dart 1, on the other side, goes on with dart 5
triangle_back : face_step triangle 1 ≡ 5
triangle_back = refl

-- its edges have these pairs of ends
triangle_ends : end_pairs triangle.at ≡ (0, 1) ∷ (1, 2) ∷ (2, 0) ∷ []
triangle_ends = refl
