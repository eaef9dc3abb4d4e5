use Rattle.std.proofs.Common.{◌≡◌, take}
use Rattle.cp_board.specs.Rewrites.{after_moves}
use Rattle.cp_sync.proofs.rewriting.move_ends.Given as goal

abbrev pub invariant-loop-m : goal.invariant-loop-m
invariant-loop-m l = l.edges ≡ after_moves (take l.m-index l.moves) l.initial.edges
