-- The genus of a map of e edges: its vertices are the orbits of the map, its faces those of the step along an edge
-- and on, and it is flat where these and twice the components add up as in the plane (Euler 1758).
use Rattle.std.specs.Prelude.{◌≡◌, ℕ, eqb, List, [], ◌∷◌, suc, ◌+◌, ◌*◌, ◌≤◌, Bool, zero}
use Rattle.cp_lists.specs.CyclicLists.{Has}
use Rattle.cp_lists.specs.Rows.{flat}
use Rattle.cp_orbits.specs.Classes.{classes, graph, labels, orbits}
use Rattle.cp_faces.specs.Faces.{face_upto}
use Rattle.cp_maps.specs.Maps.{IsMapOf, next_by}

-- the pairs of darts of one edge, of the first i edges, and of darts that follow each other
abbrev pub linked : (ℕ → ℕ) → ℕ → ℕ → List (ℕ × ℕ)
linked f n zero = graph f n
linked f n (suc i) = (2 * i, 2 * i + 1) ∷ linked f n i

-- how many components the darts make by the links
abbrev pub parts : ℕ → (ℕ → ℕ) → ℕ
parts e f = classes (2 * e) (linked f (2 * e) e)

-- how many faces the map has
abbrev pub rounds : ℕ → (ℕ → ℕ) → ℕ
rounds e f = orbits (2 * e) (face_upto f e)

-- the counts add up as in the plane: the map is flat
abbrev pub IsFlat : ℕ → (ℕ → ℕ) → Type 0
IsFlat e f = e + 2 * parts e f ≤ orbits (2 * e) f + rounds e f

-- the lists of darts of e edges, with which they can be drawn in the plane
abbrev pub IsPlane : ℕ → List (List ℕ) → Type 0
IsPlane e rows = IsFlat e (next_by rows)

-- both maps of e edges have one genus
abbrev pub SameGenus : ℕ → (ℕ → ℕ) → (ℕ → ℕ) → Type 0
SameGenus e f g = orbits (2 * e) f + rounds e f + 2 * parts e g ≡ orbits (2 * e) g + rounds e g + 2 * parts e f

-- g has a genus greater by one than f
abbrev pub RaisesGenus : ℕ → (ℕ → ℕ) → (ℕ → ℕ) → Type 0
RaisesGenus e f g = orbits (2 * e) f + rounds e f + 2 * parts e g ≡ 2 + orbits (2 * e) g + rounds e g + 2 * parts e f

-- a map of e edges and a map of m edges have one genus
abbrev pub OneGenus : ℕ → (ℕ → ℕ) → ℕ → (ℕ → ℕ) → Type 0
OneGenus e f m g = m + orbits (2 * e) f + rounds e f + 2 * parts m g ≡ e + orbits (2 * m) g + rounds m g + 2 * parts e f

-- two darts are in one face
abbrev pub OneFace : ℕ → (ℕ → ℕ) → ℕ → ℕ → Type 0
OneFace e f a b = labels (graph (face_upto f e) (2 * e)) a ≡ labels (graph (face_upto f e) (2 * e)) b

-- two darts are of one component
abbrev pub OnePart : ℕ → (ℕ → ℕ) → ℕ → ℕ → Type 0
OnePart e f a b = labels (linked f (2 * e) e) a ≡ labels (linked f (2 * e) e) b

-- the dart is of the component with this label
abbrev pub in_part : ℕ → (ℕ → ℕ) → ℕ → ℕ → Bool
in_part e f c d = eqb (labels (linked f (2 * e) e) d) c

-- no dart of the first list is of the component of one of the second
abbrev pub Apart : ℕ → (ℕ → ℕ) → List ℕ → List ℕ → Type 0
Apart e f xs ys = (c d : ℕ) → Has c xs → Has d ys → OnePart e f c d → ⊥

-- no two of the lists have darts of one component
abbrev pub AllApart : ℕ → (ℕ → ℕ) → List (List ℕ) → Type 0
AllApart e f [] = Unit {0}
AllApart e f (xs ∷ copies) = Apart e f xs (flat copies) × AllApart e f copies

-- some map with the lists has the genus of f
abbrev pub Becomes : ℕ → (ℕ → ℕ) → List (List ℕ) → Type 0
Becomes e f rows = (g : ℕ → ℕ) × IsMapOf (2 * e) g rows × SameGenus e f g

-- some map with the lists is flat
abbrev pub CanBeFlat : ℕ → List (List ℕ) → Type 0
CanBeFlat e rows = (g : ℕ → ℕ) × IsMapOf (2 * e) g rows × IsFlat e g

-- the test has one value on each list
abbrev pub Evenly : (ℕ → Bool) → List (List ℕ) → Type 0
Evenly p [] = Unit {0}
Evenly p (xs ∷ rows) = ((c d : ℕ) → Has c xs → Has d xs → p c ≡ p d) × Evenly p rows
