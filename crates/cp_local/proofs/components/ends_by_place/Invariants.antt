-- The numbered ends of the edges so far.
use Rattle.std.proofs.Common.{◌≡◌, map, take}
use Rattle.cp_sync.specs.Numbering.{numbered_ends}
use Rattle.cp_local.specs.LocalGraphs.{part}
use Rattle.cp_local.proofs.components.ends_by_place.Given as goal

abbrev pub invariant-loop-e : goal.invariant-loop-e
invariant-loop-e g l =
    l.ends.items ≡ map (numbered_ends (part (g.B.Board.instance l.board) l.verts l.edges)) (take l.e-index l.edges)
