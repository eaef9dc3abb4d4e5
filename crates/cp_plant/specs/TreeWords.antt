-- The word that lists read of a planted tree (Booth, Lueker 1976), from its last edge to its first.
use Rattle.std.specs.Prelude.{ℕ, suc, zero, Bool, cond, eqb, Option, None, Some, List, [], ◌∷◌, ◌++◌, reverse}
use Rattle.std.specs.List.{find}
use Rattle.std.specs.Option.{option_map, option_map_or}

-- the items behind the first x
abbrev pub behind : ℕ → List ℕ → List ℕ
behind x [] = []
behind x (y ∷ ys) = cond (eqb y x) ys (behind x ys)

-- the items in front of the first x
abbrev pub in_front : ℕ → List ℕ → List ℕ
in_front x [] = []
in_front x (y ∷ ys) = cond (eqb y x) [] (y ∷ in_front x ys)

-- the items of a cyclic list from behind x round to in front of it
abbrev pub round_from : ℕ → List ℕ → List ℕ
round_from x ys = behind x ys ++ in_front x ys

-- the vertex below an edge, by the edges from above with their vertices, if there is one
abbrev pub vertex_below : List (ℕ × ℕ) → ℕ → Option ℕ
vertex_below nodes x = option_map (λ y. y.1) (find (λ y. eqb y.0 x) nodes)

-- what is read of edges, in n steps: an edge above no vertex is read itself, and any other is replaced by the edges
-- below it, the last first
abbrev pub read : List (ℕ × ℕ) → (ℕ → List ℕ) → ℕ → List ℕ → List ℕ
read nodes t zero edges = []
read nodes t (suc n) [] = []
read nodes t (suc n) (x ∷ edges) = elim (vertex_below nodes x) [
  | None ↦ x ∷ read nodes t n edges
  | Some v ↦ read nodes t n (reverse (round_from x (t v)) ++ edges)
]

-- what is read of a tree below its root edge, and the root edge behind it
abbrev pub read_tree : List (ℕ × ℕ) → (ℕ → List ℕ) → ℕ → ℕ → List ℕ
read_tree nodes t n root = read nodes t n (root ∷ []) ++ root ∷ []

-- the partner of an edge, by the pairs: of a first edge the second, or of a second edge the first
abbrev pub partner_by : List (ℕ × ℕ) → Bool → ℕ → ℕ
partner_by pairs first x = cond first
    (option_map_or (λ y. y.1) (find (λ y. eqb y.0 x) pairs) 0)
    (option_map_or (λ y. y.0) (find (λ y. eqb y.1 x) pairs) 0)

-- lists with other ones at two vertices
abbrev pub with_ends : ℕ → ℕ → List ℕ → List ℕ → (ℕ → List ℕ) → ℕ → List ℕ
with_ends u w at_u at_w lists v = cond (eqb v u) at_u (cond (eqb v w) at_w (lists v))
