-- Solutions of an instance of synchronized planarity (Bläsius, Fink and Rutter 2021).
use Rattle.std.specs.Prelude.{◌≡◌, ℕ, Bool, cond, eqb, List, [], map, reverse}
use Rattle.std.specs.List.{All, find}
use Rattle.std.specs.Option.{option_map_or}
use Rattle.cp_lists.specs.Turns.{IsTurn}
use Rattle.cp_board.specs.declared.parts.Kind.TheVariants.{P, Q}
use Rattle.cp_board.specs.declared.parts.Kind.{Kind}
use Rattle.cp_board.specs.declared.parts.Pipe.{Pipe}
use Rattle.cp_board.specs.Rotations.{IsRotationOf}
use Rattle.cp_board.specs.Instances.{Synchronized, graph, vert_names}

-- the list in the one or in the other direction
abbrev pub directed : Bool → List ℕ → List ℕ
directed back xs = cond back (reverse xs) xs

-- the list is, up to a turn, the psi of a Q-vertex in the direction of its cell
abbrev pub IsInDirection : (ℕ → Bool) → List ℕ → Kind → Type 0
IsInDirection back xs P = Unit {0}
IsInDirection back xs (Q cell psi) = IsTurn (directed (back cell) psi) xs

-- m is, up to a turn, the reverse of l with each item x replaced by f x
abbrev pub IsMirror : (ℕ → ℕ) → List ℕ → List ℕ → Type 0
IsMirror f l m = IsTurn (reverse (map f l)) m

-- the partner at b of an edge of a
abbrev pub second_of : Pipe → ℕ → ℕ
second_of p x = option_map_or (λ y. y.1) (find (λ y. eqb y.0 x) p.pairs) 0

-- the partner at a of an edge of b
abbrev pub first_of : Pipe → ℕ → ℕ
first_of p x = option_map_or (λ y. y.0) (find (λ y. eqb y.1 x) p.pairs) 0

-- s tells a rotation of the instance in which the ends of each pipe mirror each other, and each cell has one
-- direction in which all its Q-vertices have their psi
pub record Solves (i : Synchronized) (s : ℕ → List ℕ) : Type 0 where
  pub rotation : IsRotationOf (graph i) s
  pub mirrored : All (λ p. IsMirror (second_of p) (s p.a) (s p.b)) i.pipes
  pub back : ℕ → Bool
  pub in_direction : All (λ v. IsInDirection back (s v.name) v.kind) i.verts

-- some lists solve the instance
abbrev pub IsSolvable : Synchronized → Type 0
IsSolvable i = (s : ℕ → List ℕ) × Solves i s

-- the list that a row of named lists has under a name
abbrev pub list_in : List (ℕ × List ℕ) → ℕ → List ℕ
list_in lists v = option_map_or (λ x. x.1) (find (λ x. eqb x.0 v) lists) []

-- the rows where vertex v has another list
abbrev pub with_list : ℕ → List ℕ → List (ℕ × List ℕ) → List (ℕ × List ℕ)
with_list v list lists = map (λ x. cond (eqb x.0 v) (v, list) x) lists

-- the lists are named by the vertices, and solve the instance
pub record IsSolution (i : Synchronized) (lists : List (ℕ × List ℕ)) : Type 0 where
  pub names : map (λ x. x.0) lists ≡ vert_names i
  pub solves : Solves i (list_in lists)
