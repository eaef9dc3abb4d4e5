-- The names so far.
use Rattle.std.proofs.Common.{◌≡◌, take}
use Rattle.cp_local.proofs.places.kept_names.Given as goal

abbrev pub invariant-loop-name : goal.invariant-loop-name
invariant-loop-name l = l.names ≡ take l.name-index l.list
