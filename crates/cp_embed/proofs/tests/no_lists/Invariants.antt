-- So many so far.
use Rattle.std.proofs.Common.{◌≡◌, None, replicate}
use Rattle.cp_embed.proofs.tests.no_lists.Given as goal

abbrev pub invariant-loop : goal.invariant-loop
invariant-loop l = l.lists ≡ replicate l.counter None
