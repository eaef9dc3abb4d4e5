use Rattle.std.proofs.Common.{◌≡◌, reverse, length}
use Rattle.cp_pq.specs.Frames.{fill}
use Rattle.cp_pq.proofs.frame.row_filled.Given as goal

abbrev pub invariant-loop-frame : goal.invariant-loop-frame
invariant-loop-frame l = fill l.fn.frames l.fn.row ≡ fill (reverse l.left) l.inner

abbrev pub decreases-loop-frame : goal.decreases-loop-frame
decreases-loop-frame l = length l.left
