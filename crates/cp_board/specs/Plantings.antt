-- An order tree that is put in the place of a vertex (Bläsius, Rutter 2016; Bläsius, Fink, Rutter 2021): each of its
-- inner nodes becomes a vertex, each of its leaves an edge of the vertex.
use Rattle.std.specs.Prelude.{ℕ, Bool, true, false, not, List, [], ◌∷◌, ◌++◌, map, take}
use Rattle.std.specs.List.{filter, find}
use Rattle.std.specs.Option.{option_map_or}
use Rattle.cp_board.specs.declared.parts.EdgeRow.{EdgeRow}
use Rattle.cp_base.specs.declared.shape.Branch.{Branch}
use Rattle.cp_base.specs.declared.shape.Branch.TheVariants.{Leaf, P, Q}
use Rattle.cp_board.specs.Names.{has}

-- one inner node that is put in the place of a vertex: the new vertex, whether it is a Q-node, and its edges,
-- the one from above first and then those to the kids
pub record Planted : Type 0 where
  pub vertex : ℕ
  pub fixed : Bool
  pub edges : List ℕ

-- a branch below the edge `top` is planted: its inner nodes, each before its kids, take the vertices and the
-- edges from above in turn, and leaf x is the edge f x
mutual
  pub data Plants (f : ℕ → ℕ) : Branch → ℕ → List ℕ → List ℕ → List Planted → Type 0 where
    leaf : (x : ℕ) → Plants f (Leaf x) (f x) [] [] []
    free : (kids : List Branch) (top v : ℕ) (tops vs es : List ℕ) (rows : List Planted)
        → PlantsAll f kids tops vs es rows
        → Plants f (P kids) top (v ∷ vs) (top ∷ es) (record { vertex = v; fixed = false; edges = top ∷ tops } ∷ rows)
    fixed : (kids : List Branch) (top v : ℕ) (tops vs es : List ℕ) (rows : List Planted)
        → PlantsAll f kids tops vs es rows
        → Plants f (Q kids) top (v ∷ vs) (top ∷ es) (record { vertex = v; fixed = true; edges = top ∷ tops } ∷ rows)

  pub data PlantsAll (f : ℕ → ℕ) : List Branch → List ℕ → List ℕ → List ℕ → List Planted → Type 0 where
    none : PlantsAll f [] [] [] [] []
    more : (k : Branch) (ks : List Branch) (top : ℕ) (tops us vs ds es : List ℕ) (rows more_rows : List Planted)
        → Plants f k top us ds rows
        → PlantsAll f ks tops vs es more_rows
        → PlantsAll f (k ∷ ks) (top ∷ tops) (us ++ vs) (ds ++ es) (rows ++ more_rows)

-- the vertex of the first node that has edge e: the parent's for an edge between two nodes, since it stands before
-- the child, and the only one for a leaf or the root
abbrev pub holder : List Planted → ℕ → ℕ
holder rows e = option_map_or (λ r. r.vertex) (find (λ r. has r.edges e) rows) 0

-- the vertex of the node below edge e
abbrev pub lower_end : List Planted → ℕ → ℕ
lower_end rows e = option_map_or (λ r. r.vertex) (find (λ r. has (take 1 r.edges) e) rows) 0

-- the edges between nodes, from parent to child
abbrev pub tree_edges : List Planted → List ℕ → List EdgeRow
tree_edges rows es = map (λ e. record { name = e; a = holder rows e; b = lower_end rows e }) es

-- the P-nodes, and the Q-nodes
abbrev pub free_nodes : List Planted → List Planted
free_nodes rows = filter (λ r. not r.fixed) rows

-- the Q-nodes
abbrev pub fixed_nodes : List Planted → List Planted
fixed_nodes rows = filter (λ r. r.fixed) rows
