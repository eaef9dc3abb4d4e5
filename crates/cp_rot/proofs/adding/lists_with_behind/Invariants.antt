use Rattle.std.proofs.Common.{◌≡◌}
use Rattle.cp_rot.specs.Rewrites.{values}
use Rattle.cp_rot.specs.RewriteTables.{inserted_list}
use Rattle.cp_rot.proofs.adding.lists_with_behind.Given as goal

abbrev pub invariant-loop-v : goal.invariant-loop-v
invariant-loop-v l = l.new.items ≡ values l.v (inserted_list l.lists l.d l.x l.g l.y)
