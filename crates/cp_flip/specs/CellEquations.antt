-- One system of equations for the directions of all cells and all blocks of an instance (Bläsius and Rutter 2016). First
-- stand the vars of the cells, then for each block those of its order tree, of which the first are its vertices.
use Rattle.std.specs.Prelude.{◌≡◌, ℕ, ◌+◌, ◌<◌, Bool, true, false, cond, Option, Some, None, List, [], ◌∷◌, ◌++◌, filter, length, map, slice_index}
use Rattle.std.specs.List.{All, AllByRecursion, Contains}
use Rattle.std.specs.List.Sorted.{IsStrictlyIncreasing}
use Rattle.cp_base.specs.Bits.{IsMet, IsOverVars, bit_of}
use Rattle.cp_base.specs.declared.equation.Equation.{Equation}
use Rattle.cp_conn.specs.NamedGraphs.{rank}
use Rattle.cp_board.specs.Instances.{IsSynchronized, Synchronized, cell_at, is_q, vert_names}
use Rattle.cp_board.specs.Solutions.{IsSolvable}
use Rattle.cp_parity.specs.declared.fault.ParityFault.{ParityFault}
use Rattle.cp_parity.specs.declared.fault.ParityFault.TheVariants.{Conflict, Memory}
use Rattle.cp_flip.specs.DirectedBlocks.{Directions}
use Rattle.cp_flip.specs.declared.block_trees.BlockTree.{BlockTree}

-- the cells of the Q-vertices among some vertices
abbrev pub cells_among : Synchronized → List ℕ → List ℕ
cells_among i vs = map (cell_at i) (filter (is_q i) vs)

-- the cells of the Q-vertices of an instance that keeps the rules, rising
pub record AreCells (i : Synchronized) (cells : List ℕ) : Type 0 where
  pub rules : IsSynchronized i
  pub rise : IsStrictlyIncreasing cells
  pub all : (v : ℕ) → Contains (vert_names i) v → is_q i v ≡ true → Contains cells (cell_at i v)

-- an equation with its vars counted from first on
abbrev pub shifted : ℕ → Equation → Equation
shifted first e = record { x = first + e.x; y = first + e.y; odd = e.odd }

-- that the bit of the var is that of the cell of a Q-vertex; nothing for a P-vertex
abbrev pub tie_of : Synchronized → List ℕ → ℕ → ℕ → List Equation
tie_of i cells var v = cond (is_q i v) (record { x = var; y = rank cells (cell_at i v); odd = false } ∷ []) []

-- that the bits of the Q-vertices are those of their cells, where the vars of the vertices stand in a row from first on
abbrev pub ties : Synchronized → List ℕ → ℕ → List ℕ → List Equation
ties i cells first [] = []
ties i cells first (v ∷ vs) = tie_of i cells first v ++ ties i cells (first + 1) vs

-- the number of vars of a block: a block of one edge has none
abbrev pub vars_of : Option Directions → ℕ
vars_of None = 0
vars_of (Some d) = d.tree.vars

-- the equations of a block whose vars stand from first on: those of its tree, and that its vertices go with their cells
abbrev pub block_equations : Synchronized → List ℕ → ℕ → List ℕ → Option Directions → List Equation
block_equations i cells first verts None = []
block_equations i cells first verts (Some d) = map (shifted first) d.tree.equations ++ ties i cells first verts

-- the equations of some blocks whose vars stand from first on
abbrev pub equations_from : {T : Type 0} → Synchronized → List ℕ → ℕ → List (BlockTree T) → List Equation
equations_from i cells first [] = []
equations_from i cells first (t ∷ ts) =
    block_equations i cells first t.verts t.directed ++ equations_from i cells (first + vars_of t.directed) ts

-- the first var behind those of some blocks
abbrev pub vars_behind : {T : Type 0} → ℕ → List (BlockTree T) → ℕ
vars_behind first [] = first
vars_behind first (t ∷ ts) = vars_behind (first + vars_of t.directed) ts

-- the equations of the tree of a block are over its vars
abbrev pub HasOwnVars : Option Directions → Type 0
HasOwnVars None = Unit {0}
HasOwnVars (Some d) = AllByRecursion (IsOverVars d.tree.vars) d.tree.equations

-- bits of a block meet the equations of its tree, and those of its Q-vertices are the directions of these; a block of one
-- edge has no bits
abbrev pub HasDirections : Synchronized → (ℕ → Bool) → List ℕ → List Bool → Option Directions → Type 0
HasDirections i back verts bits None = bits ≡ []
HasDirections i back verts bits (Some d) = (length bits ≡ d.tree.vars) × AllByRecursion (IsMet bits) d.tree.equations
    × ((k : ℕ) → k < length verts → is_q i (slice_index verts k) ≡ true
    → bit_of bits k ≡ back (slice_index verts k))

-- a conflict comes only where the instance has no solution
abbrev pub HasNoSolution : Synchronized → ParityFault → Type 0
HasNoSolution i (Conflict cycle) = IsSolvable i → ⊥
HasNoSolution i Memory = Unit {0}

-- bits of the cells and behind them of the blocks that meet all equations
pub record AreBitsOf {T : Type 0} (i : Synchronized) (cells : List ℕ) (blocks : List (BlockTree T)) (bits : List Bool)
    : Type 0 where
  pub size : length bits ≡ vars_behind (length cells) blocks
  pub met : All (IsMet bits) (equations_from i cells (length cells) blocks)
