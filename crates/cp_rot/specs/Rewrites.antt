-- The systems that the rewrites give. Where a vertex or an edge goes, the last one takes its number.
use Rattle.std.specs.Prelude.{ℕ, zero, suc, ◌+◌, ◌-◌, ◌*◌, ◌/◌, ◌==◌, cond, not, List, [], ◌∷◌, ◌++◌, map, take, drop}
use Rattle.std.specs.List.{filter, list_any, position_or_len}
use Rattle.cp_orbits.specs.Orbits.{exchange}
use Rattle.cp_orbits.specs.Classes.{joined}
use Rattle.cp_faces.specs.Faces.{on_edges}
use Rattle.cp_rot.specs.Systems.{System, edges, vertex_of, list_of}

-- the values of f at the numbers below n
abbrev pub values : {A : Type 0} → ℕ → (ℕ → A) → List A
values zero f = []
values (suc n) f = values n f ++ f n ∷ []

-- the system of v vertices and e edges in which dart d stands at at d, and vertex x has the list lists x
abbrev pub system : ℕ → ℕ → (ℕ → ℕ) → (ℕ → List ℕ) → System
system v e at lists = record { vertices = v; at = values (2 * e) at; lists = values v lists }

-- dart d, where edge e and the last edge exchange their numbers
abbrev pub renumbered : System → ℕ → ℕ → ℕ
renumbered r e d = on_edges (exchange e (edges r - 1)) d

-- the list without the darts of edge e
abbrev pub without_edge : ℕ → List ℕ → List ℕ
without_edge e xs = filter (λ d. not (d / 2 == e)) xs

-- edge e is left out, and the last edge takes its number
abbrev pub deleted : System → ℕ → System
deleted r e = system r.vertices (edges r - 1) (λ d. vertex_of r (renumbered r e d)) (λ v. map (renumbered r e) (without_edge e (list_of r v)))

-- the items in front of d
abbrev pub before : ℕ → List ℕ → List ℕ
before d xs = take (position_or_len (λ x. x == d) xs) xs

-- the items behind d
abbrev pub behind : ℕ → List ℕ → List ℕ
behind d xs = drop (position_or_len (λ x. x == d) xs + 1) xs

-- the list xs, and behind d in it the list ys, turned so that f is its last item
abbrev pub spliced : ℕ → ℕ → List ℕ → List ℕ → List ℕ
spliced d f xs ys = before d xs ++ d ∷ ((behind f ys ++ before f ys) ++ f ∷ behind d xs)

-- vertex x, where vertex w and the last vertex exchange their numbers
abbrev pub renumbered_vertex : System → ℕ → ℕ → ℕ
renumbered_vertex r w x = exchange w (r.vertices - 1) x

-- the list of x, and with it that of w where x is u: turned so that f is its last dart, it is put in behind d
abbrev pub merged_list : System → ℕ → ℕ → ℕ → List ℕ
merged_list r d f x = cond (x == vertex_of r d) (spliced d f (list_of r x) (list_of r (vertex_of r f))) (list_of r x)

-- the vertices of d and f are one, the list of that of f put in behind d; the last vertex takes its number
abbrev pub merged : System → ℕ → ℕ → System
merged r d f = system (r.vertices - 1) (edges r)
    (λ x. renumbered_vertex r (vertex_of r f) (joined (vertex_of r d) (vertex_of r f) (vertex_of r x)))
    (λ x. merged_list r d f (renumbered_vertex r (vertex_of r f) x))

-- the vertices of edge e are one, the list of its target in place of its first dart, from behind its second on
abbrev pub contraction : System → ℕ → System
contraction r e = deleted (merged r (2 * e) (2 * e + 1)) e

-- the list with b put in directly behind a
abbrev pub with_behind : ℕ → ℕ → List ℕ → List ℕ
with_behind a b [] = []
with_behind a b (x ∷ xs) = cond (x == a) (x ∷ b ∷ with_behind a b xs) (x ∷ with_behind a b xs)

-- at which vertex dart x stands, where an edge more has its first dart at u and its second at w
abbrev pub vertex_with_edge : System → ℕ → ℕ → ℕ → ℕ
vertex_with_edge r u w x = cond (x == 2 * edges r) u (cond (x == 2 * edges r + 1) w (vertex_of r x))

-- an edge more: its first dart directly behind d, its second directly behind f, or behind the first where f is d
abbrev pub with_edge : System → ℕ → ℕ → System
with_edge r d f = system r.vertices (edges r + 1)
    (vertex_with_edge r (vertex_of r d) (vertex_of r f))
    (λ v. with_behind (cond (f == d) (2 * edges r) f) (2 * edges r + 1) (with_behind d (2 * edges r) (list_of r v)))

-- the other items of a cyclic list, from behind d on
abbrev pub others_from : ℕ → List ℕ → List ℕ
others_from d xs = behind d xs ++ before d xs

-- the items behind d up to f in a cyclic list, none where d is f
abbrev pub row : ℕ → ℕ → List ℕ → List ℕ
row d f xs = cond (f == d) [] (before f (others_from d xs) ++ f ∷ [])

-- the other items behind d
abbrev pub row_left : ℕ → ℕ → List ℕ → List ℕ
row_left d f xs = cond (f == d) (others_from d xs) (behind f (others_from d xs))

-- the darts behind d up to f, at the vertex of d
abbrev pub moved_row : System → ℕ → ℕ → List ℕ
moved_row r d f = row d f (list_of r (vertex_of r d))

-- the list of x, where the row of darts behind d up to f stands at a new vertex behind the second dart of a new
-- edge, and the first dart is directly behind d
abbrev pub expanded_list : System → ℕ → ℕ → ℕ → List ℕ
expanded_list r d f x = cond (x == r.vertices)
    ((2 * edges r + 1) ∷ moved_row r d f)
    (cond (x == vertex_of r d) (d ∷ 2 * edges r ∷ row_left d f (list_of r x)) (list_of r x))

-- at which vertex dart x stands then
abbrev pub expanded_vertex : System → ℕ → ℕ → ℕ → ℕ
expanded_vertex r d f x = cond (x == 2 * edges r) (vertex_of r d)
    (cond (x == 2 * edges r + 1) r.vertices (cond (list_any (λ y. y == x) (moved_row r d f)) r.vertices (vertex_of r x)))

-- the darts behind d up to f moved to a new vertex at the end of a new edge, which begins behind d
abbrev pub expanded : System → ℕ → ℕ → System
expanded r d f = system (r.vertices + 1) (edges r + 1) (expanded_vertex r d f) (expanded_list r d f)
