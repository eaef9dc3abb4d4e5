use Rattle.std.proofs.Common.{[], take}
use Rattle.cp_board.specs.Faults.{Keeps, PipeEnds, PipeAt}
use Rattle.cp_sync.specs.Tables.{ArePiped}
use Rattle.cp_sync.specs.Checks.{AllBelow}
use Rattle.cp_sync.proofs.piping.mark_all.Given as goal

abbrev pub invariant-loop-k : goal.invariant-loop-k
invariant-loop-k l = record {
  piped : ArePiped l.verts (take l.k l.pipes) l.piped.items;
  kept : AllBelow (λ j. Keeps record { verts = l.verts; edges = []; pipes = l.pipes } PipeEnds (PipeAt j)) l.k;
}
