-- So many empty lists.
use Rattle.std.proofs.Common.{◌≡◌, [], replicate}
use Rattle.cp_embed.proofs.taking_back.empty_lists.Given as goal

abbrev pub invariant-loop : goal.invariant-loop
invariant-loop l = l.lists.items ≡ replicate l.counter []
