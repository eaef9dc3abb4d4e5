use Rattle.std.proofs.Common.{take}
use Rattle.cp_sync.specs.Tables.{ArePiped}
use Rattle.cp_sync.proofs.piping.piping.Given as goal

abbrev pub invariant-loop-p : goal.invariant-loop-p
invariant-loop-p l = ArePiped l.verts (take l.p-index l.pipes) l.piped.items
