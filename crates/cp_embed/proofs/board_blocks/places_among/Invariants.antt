-- The places of those so far that are among the edges.
use Rattle.std.proofs.Common.{◌≡◌, filter, map, take}
use Rattle.cp_conn.specs.NamedGraphs.{rank}
use Rattle.cp_board.specs.Names.{has}
use Rattle.cp_embed.proofs.board_blocks.places_among.Given as goal

abbrev pub invariant-loop-e : goal.invariant-loop-e
invariant-loop-e l = l.places.items ≡ map (rank l.edges) (filter (has l.edges) (take l.e-index l.list))
