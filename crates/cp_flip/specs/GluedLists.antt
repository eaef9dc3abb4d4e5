-- Lists of the blocks of an instance, put together at each vertex.
use Rattle.std.specs.Prelude.{◌≡◌, ℕ, ◌<◌, Bool, cond, eqb, Option, Some, None, List, [], ◌∷◌, ◌++◌, length, map, replicate, slice_index, slice_index_or, take}
use Rattle.std.specs.List.{All, AllByRecursion, Contains, filter}
use Rattle.std.specs.List.Sorted.{IsStrictlyIncreasing}
use Rattle.cp_base.specs.Bits.{IsMet, bit_of}
use Rattle.cp_lists.specs.Rows.{flat}
use Rattle.cp_lists.specs.Turns.{IsTurn}
use Rattle.cp_conn.specs.NamedGraphs.{rank}
use Rattle.cp_rot.specs.Systems.{System}
use Rattle.cp_board.specs.Instances.{Synchronized, cell_at, edge_names, is_q, psi_at, vert_names}
use Rattle.cp_board.specs.Names.{has}
use Rattle.cp_board.specs.Solutions.{directed}
use Rattle.cp_embed.specs.ListedBlocks.{ListedGraph}
use Rattle.cp_embed.specs.Realisations.{edges_round}
use Rattle.cp_flip.specs.DirectedBlocks.{Directions, IsDirectedBy}
use Rattle.cp_flip.specs.DirectedRotations.{IsDirectedRotation}
use Rattle.cp_flip.specs.declared.block_trees.BlockTree.{BlockTree}

-- lists, each up to a turn, of a rotation system of the block in the plane that keeps given lists by the bits
pub record AreDirectedLists (block : ListedGraph) (bits : List Bool) (lists : List (List ℕ)) : Type 0 where
  pub system : System
  pub directed_by : IsDirectedBy block (bit_of bits) system
  pub list_each : length lists ≡ block.graph.vertices
  pub lists_are : (v : ℕ) → v < block.graph.vertices → IsTurn (slice_index_or lists v []) (edges_round system v)

-- bits of the vars of a block meet the equations of its tree; a block of one edge has none
abbrev pub MeetsTree : List Bool → Option Directions → Type 0
MeetsTree bits None = bits ≡ []
MeetsTree bits (Some d) = (length bits ≡ d.tree.vars) × AllByRecursion (IsMet bits) d.tree.equations

-- the lists of so many vertices of a block by its bits; at a vertex of one edge stands this edge
abbrev pub AreBlockLists : ℕ → Option Directions → List Bool → List (List ℕ) → Type 0
AreBlockLists n None bits lists = lists ≡ replicate n (0 ∷ [])
AreBlockLists n (Some d) bits lists = AreDirectedLists d.embedding.block bits lists

-- the list of a vertex named v, where some vertices have lists of places of edges; empty for other vertices
abbrev pub named_list : List ℕ → List ℕ → List (List ℕ) → ℕ → List ℕ
named_list verts edges lists v =
    cond (has verts v) (map (slice_index edges) (slice_index_or lists (rank verts v) [])) []

-- the vertices of a part rise and are among all, each has a list, and its items are places of edges
pub record AreListsWithin (all verts edges : List ℕ) (lists : List (List ℕ)) : Type 0 where
  pub all_rise : IsStrictlyIncreasing all
  pub rise : IsStrictlyIncreasing verts
  pub live : (v : ℕ) → Contains verts v → Contains all v
  pub list_each : length lists ≡ length verts
  pub within : (k : ℕ) → k < length lists → All (λ e. e < length edges) (slice_index_or lists k [])

-- behind the row of each of the first so many vertices of a part its list is appended
pub record AreAppended (all verts edges : List ℕ) (lists : List (List ℕ)) (bound : ℕ) (old new : List (List ℕ)) : Type 0
  where
    pub row_each : length new ≡ length old
    pub row_of : (v : ℕ) → Contains all v
        → slice_index_or new (rank all v) []
        ≡ slice_index_or old (rank all v) []
        ++ cond (has (take bound verts) v) (map (slice_index edges) (slice_index_or lists (rank verts v) [])) []

-- p tells lists, each up to a turn, of a rotation of a block that has these edges, those of the number of one of them
pub record IsPart (i : Synchronized) (numbers : List ℕ) (back : ℕ → Bool) (edges : List ℕ) (p : ℕ → List ℕ) : Type 0
  where
    pub edge : ℕ
    pub live : Contains (edge_names i) edge
    pub number : ℕ
    pub number_is : number ≡ slice_index numbers (rank (edge_names i) edge)
    pub edges_are : edges ≡ filter (λ f. eqb (slice_index numbers (rank (edge_names i) f)) number) (edge_names i)
    pub rotation : ℕ → List ℕ
    pub is_rotation : IsDirectedRotation i (λ f. eqb (slice_index numbers (rank (edge_names i) f)) number) back rotation
    pub turns : (v : ℕ) → Contains (vert_names i) v → IsTurn (rotation v) (p v)

-- a part for each block
abbrev pub AreParts : {T : Type 0} → Synchronized → List ℕ → (ℕ → Bool) → List (BlockTree T) → List (ℕ → List ℕ) → Type 0
AreParts i numbers back [] [] = Unit {0}
AreParts i numbers back [] (p ∷ ps) = ⊥
AreParts i numbers back (t ∷ ts) [] = ⊥
AreParts i numbers back (t ∷ ts) (p ∷ ps) = IsPart i numbers back t.edges p × AreParts i numbers back ts ps

-- in the row of each vertex stand its lists in the blocks, one behind the other
pub record AreGlued {T : Type 0} (i : Synchronized) (numbers : List ℕ) (back : ℕ → Bool) (blocks : List (BlockTree T))
    (rows : List (List ℕ)) : Type 0 where
  pub parts : List (ℕ → List ℕ)
  pub are_parts : AreParts i numbers back blocks parts
  pub row_each : length rows ≡ length (vert_names i)
  pub row_of : (v : ℕ) → Contains (vert_names i) v
      → slice_index_or rows (rank (vert_names i) v) [] ≡ flat (map (λ (p : ℕ → List ℕ). p v) parts)

-- the directions of vertices that bits of cells tell
abbrev pub back_by : Synchronized → List ℕ → List Bool → ℕ → Bool
back_by i cells bits v = bit_of bits (rank cells (cell_at i v))

-- the list of a vertex: that of a Q-vertex in the direction of its cell, else what was put together
abbrev pub final_list : Synchronized → List ℕ → List Bool → ℕ → List ℕ → List ℕ
final_list i cells bits v row = cond (is_q i v) (directed (back_by i cells bits v) (psi_at i v)) row

-- a name with its list
abbrev pub named_by : (ℕ → List ℕ) → ℕ → ℕ × List ℕ
named_by f v = (v, f v)

-- the names of the vertices with these lists, where the rows stand in the order of the names
abbrev pub final_lists : Synchronized → List ℕ → List Bool → List (List ℕ) → List (ℕ × List ℕ)
final_lists i cells bits rows =
    map (named_by (λ v. final_list i cells bits v (slice_index_or rows (rank (vert_names i) v) []))) (vert_names i)
