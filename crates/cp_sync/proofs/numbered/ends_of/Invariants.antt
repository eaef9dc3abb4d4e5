use Rattle.std.proofs.Common.{◌≡◌, map, take}
use Rattle.cp_board.specs.Instances.{graph}
use Rattle.cp_sync.specs.Numbering.{numbered_ends}
use Rattle.cp_sync.proofs.numbered.ends_of.Given as goal

abbrev pub invariant-loop-e : goal.invariant-loop-e
invariant-loop-e g l = l.ends.items ≡ map (numbered_ends (graph (g.B.Board.instance l.board))) (take l.e-index l.edges)
