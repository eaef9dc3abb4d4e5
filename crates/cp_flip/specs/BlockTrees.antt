-- The blocks of an instance, with the order trees of their directions.
use Rattle.std.specs.Prelude.{◌≡◌, ℕ, ◌<◌, Bool, Option, List, [], eqb, length, filter, map, slice_index, slice_index_or, take, MatchOption}
use Rattle.std.specs.List.{All}
use Rattle.cp_conn.specs.Blocks.{AreInOneBlock}
use Rattle.cp_conn.specs.NamedGraphs.{rank}
use Rattle.cp_conn.specs.Numbering.{AreNumbered}
use Rattle.cp_sync.specs.Numbering.{numbered}
use Rattle.cp_board.specs.Blocks.{HasNoRotation, IsUnembeddable}
use Rattle.cp_board.specs.Instances.{IsSynchronized, Synchronized, edge_names, graph}
use Rattle.cp_board.specs.Reasons.{IsEmbeddable}
use Rattle.cp_embed.specs.BoardBlocks.{AreEdgesOfBlock, listed_part, part_with}
use Rattle.cp_flip.specs.DirectedBlocks.{Directions, IsDirectedTree}
use Rattle.cp_flip.specs.declared.block_trees.BlockTree.{BlockTree}
use Rattle.cp_flip.specs.declared.fault.BlockFault.{BlockFault}
use Rattle.cp_flip.specs.declared.fault.BlockFault.TheVariants.{NotPlanar, Memory}

-- the edges that have a number
abbrev pub row_of_number : List ℕ → List ℕ → ℕ → List ℕ
row_of_number edges numbers c = filter (λ e. eqb (slice_index numbers (rank edges e)) c) edges

-- for each number below the number of edges a row of those of the first so many edges that have it
pub record AreRowsByNumber (edges numbers : List ℕ) (bound : ℕ) (rows : List (List ℕ)) : Type 0 where
  pub row_each : length rows ≡ length edges
  pub row_of : (c : ℕ) → c < length edges
      → slice_index_or rows c [] ≡ filter (λ e. eqb (slice_index numbers (rank edges e)) c) (take bound edges)

-- the edges that have the number of an edge
abbrev pub row_with : List ℕ → List ℕ → ℕ → List ℕ
row_with edges numbers e =
    filter (λ f. eqb (slice_index numbers (rank edges f)) (slice_index numbers (rank edges e))) edges

-- an edge is the first of those that have its number
abbrev pub is_first : List ℕ → List ℕ → ℕ → Bool
is_first edges numbers e = eqb (slice_index (row_with edges numbers e) 0) e

-- the edges by their numbers, these rows by their first edges
abbrev pub rows_by_first : List ℕ → List ℕ → List (List ℕ)
rows_by_first edges numbers = map (row_with edges numbers) (filter (is_first edges numbers) edges)

-- the block of these edges with the tree of its directions; where it is one edge, each direction serves and there is none
pub record IsEmbeddedBlock (i : Synchronized) (verts edges : List ℕ) (directed : Option Directions) : Type 0 where
  pub block : AreEdgesOfBlock i edges
  pub verts_are : verts ≡ (part_with (graph i) edges).verts
  pub directions : MatchOption directed (length edges ≡ 1) (λ d. (d.embedding.block ≡ listed_part i edges)
      × IsDirectedTree (listed_part i edges) d.embedding.vertex d.embedding.tree d.tree)

-- the names of the edges of an instance that keeps the rules, and for each the number of its block
pub record AreBlocksNumbered (i : Synchronized) (edges numbers : List ℕ) : Type 0 where
  pub rules : IsSynchronized i
  pub edges_are : edges ≡ edge_names i
  pub by_least : AreNumbered (AreInOneBlock (numbered (graph i)).ends) (length edges) numbers

-- all blocks of the instance, embedded, by their least edges
pub record AreEmbeddedBlocks {T : Type 0} (i : Synchronized) (numbers : List ℕ) (blocks : List (BlockTree T)) : Type 0 where
  pub edges : map (λ (t : BlockTree T). t.edges) blocks ≡ rows_by_first (edge_names i) numbers
  pub each : All (λ (t : BlockTree T). IsEmbeddedBlock i t.verts t.edges t.directed) blocks
  pub embeddable : IsEmbeddable i

-- the block of these edges, of which this is the first, has no rotation
abbrev pub IsWithoutRotation : Synchronized → List ℕ → BlockFault → Type 0
IsWithoutRotation i es (NotPlanar edge) = (edge ≡ slice_index es 0) × HasNoRotation i edge
IsWithoutRotation i es Memory = Unit {0}

-- the edge is the least of the first block that has no rotation
abbrev pub IsFirstUnembeddable : Synchronized → BlockFault → Type 0
IsFirstUnembeddable i (NotPlanar edge) = IsUnembeddable i edge × ((f : ℕ) → f < edge → ¬ IsUnembeddable i f)
IsFirstUnembeddable i Memory = Unit {0}

-- the blocks of the first so many edges, embedded, by their least edges
pub record AreEmbeddedUpTo {T : Type 0} (i : Synchronized) (edges numbers : List ℕ) (bound : ℕ)
    (blocks : List (BlockTree T)) : Type 0 where
  pub edges_are : map (λ (t : BlockTree T). t.edges) blocks
      ≡ map (row_with edges numbers) (filter (is_first edges numbers) (take bound edges))
  pub each : All (λ (t : BlockTree T). IsEmbeddedBlock i t.verts t.edges t.directed) blocks
  pub embeddable : (j : ℕ) → j < bound → IsUnembeddable i (slice_index edges j) → ⊥

-- all blocks of the instance, embedded, by their least edges: they go with some numbers of the blocks
pub record AreAllBlocks {T : Type 0} (i : Synchronized) (blocks : List (BlockTree T)) : Type 0 where
  pub numbers : List ℕ
  pub numbered : AreBlocksNumbered i (edge_names i) numbers
  pub embedded : AreEmbeddedBlocks i numbers blocks
