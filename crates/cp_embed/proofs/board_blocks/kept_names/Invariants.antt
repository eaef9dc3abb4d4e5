-- The numbers so far.
use Rattle.std.proofs.Common.{◌≡◌, take}
use Rattle.cp_embed.proofs.board_blocks.kept_names.Given as goal

abbrev pub invariant-loop-number : goal.invariant-loop-number
invariant-loop-number l = l.names ≡ take l.number-index l.numbers
