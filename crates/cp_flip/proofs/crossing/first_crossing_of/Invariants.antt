-- At none of the vertices so far blocks cross.
use Rattle.std.proofs.Common.{ℕ, ◌<◌, slice_index}
use Rattle.cp_board.specs.Blocks.{HaveCrossing}
use Rattle.cp_flip.proofs.crossing.first_crossing_of.Given as goal

abbrev pub invariant-loop-q : goal.invariant-loop-q
invariant-loop-q g l = (k : ℕ) → k < l.q-index → HaveCrossing (g.B.Board.instance l.board) (slice_index l.verts k) → ⊥
