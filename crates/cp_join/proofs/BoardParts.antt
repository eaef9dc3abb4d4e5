-- The blocks that a search of the numbered graph of a board tells, as parts of the board's graph.
use Rattle.std.proofs.Common.{◌≡◌, ℕ, ◌<◌, List, length, map, slice_index, subst₂}
use Rattle.std.specs.List.{All, Contains}
use Rattle.cp_conn.specs.Blocks.{AreBlocksAt, HaveNoLoop}
use Rattle.cp_conn.specs.NamedGraphs.{rank}
use Rattle.cp_board.specs.Instances.{Synchronized, IsSynchronized, graph, vert_names, edge_names}
use Rattle.cp_board.specs.Joins.{ArePartsAt}
use Rattle.cp_sync.specs.Numbering.{numbered_ends}
use Rattle.cp_join.proofs.LiveRows.{live_ends}
use Rattle.cp_join.proofs.NamedParts.{no_loop, numbers_below, named_parts}

-- the numbered graph has no loop
pub HaveNoLoop-numbered : (i : Synchronized) → IsSynchronized i
    → HaveNoLoop (map (numbered_ends (graph i)) (edge_names i))
HaveNoLoop-numbered i is =
    no_loop (graph i) is.verts_named.rise is.edges_named.rise (live_ends i is)

module _ (i : Synchronized) (is : IsSynchronized i) (u : ℕ) (vertex : Contains (vert_names i) u)
    (ends : List (ℕ × ℕ)) (place : ℕ) (numbers : List (List ℕ)) (are : AreBlocksAt ends place numbers)
    (same_ends : ends ≡ map (numbered_ends (graph i)) (edge_names i))
    (same_place : place ≡ rank (vert_names i) u) where
  -- the blocks that the search found are those at the vertex
  told : AreBlocksAt (map (numbered_ends (graph i)) (edge_names i)) (rank (vert_names i) u) numbers
  told = subst₂ (λ es v. AreBlocksAt es v numbers) same_ends same_place are

  -- each number is that of an edge
  pub told_below : All (All (λ k. k < length (edge_names i))) numbers
  told_below =
      numbers_below (graph i) is.verts_named.rise is.edges_named.rise (live_ends i is) u vertex numbers told

  -- their names are in parts
  pub told_parts : ArePartsAt (graph i) u (map (map (slice_index (edge_names i))) numbers)
  told_parts =
      named_parts (graph i) is.verts_named.rise is.edges_named.rise (live_ends i is) u vertex numbers told
