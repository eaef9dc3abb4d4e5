-- The blocks that a search of a vertex's numbered component tells, as parts of the board's graph.
use Rattle.std.proofs.Common.{◌≡◌, ℕ, ◌<◌, List, length, map, slice_index, subst₂}
use Rattle.std.specs.List.{All, Contains}
use Rattle.cp_conn.specs.Blocks.{AreBlocksAt}
use Rattle.cp_conn.specs.NamedGraphs.{rank}
use Rattle.cp_board.specs.Instances.{Synchronized, IsSynchronized, graph}
use Rattle.cp_board.specs.Joins.{ArePartsAt}
use Rattle.cp_sync.specs.Numbering.{numbered_ends}
use Rattle.cp_local.specs.LocalGraphs.{IsClosedPart, part}
use Rattle.cp_local.proofs.ClosedParts.{part_ArePartsAt, part_live_ends}
use Rattle.cp_join.proofs.NamedParts.{numbers_below, named_parts}

module _ (i : Synchronized) (is : IsSynchronized i) (verts edges : List ℕ) (closed : IsClosedPart i verts edges)
    (u : ℕ) (vertex : Contains verts u)
    (ends : List (ℕ × ℕ)) (place : ℕ) (numbers : List (List ℕ)) (are : AreBlocksAt ends place numbers)
    (same_ends : ends ≡ map (numbered_ends (part i verts edges)) edges)
    (same_place : place ≡ rank verts u) where
  -- the blocks that the search found are those at the vertex
  told : AreBlocksAt (map (numbered_ends (part i verts edges)) edges) (rank verts u) numbers
  told = subst₂ (λ es v. AreBlocksAt es v numbers) same_ends same_place are

  -- each number is that of an edge
  pub local_below : All (All (λ k. k < length edges)) numbers
  local_below =
      numbers_below (part i verts edges) closed.verts_rise closed.edges_rise (part_live_ends i verts edges closed is) u
      vertex numbers told

  -- their names are in parts, as the whole graph has them
  pub local_parts : ArePartsAt (graph i) u (map (map (slice_index edges)) numbers)
  local_parts =
      (part_ArePartsAt i verts edges closed is u (map (map (slice_index edges)) numbers) vertex).0
      (named_parts (part i verts edges) closed.verts_rise closed.edges_rise (part_live_ends i verts edges closed is) u
      vertex numbers told)
