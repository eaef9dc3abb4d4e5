use Rattle.std.proofs.Common.{◌≡◌, ◌++◌, map, take}
use Rattle.cp_store.specs.WorkedSteps.{fixed_row}
use Rattle.cp_store.proofs.tests.push_fixed.Given as goal

abbrev pub invariant-loop-name : goal.invariant-loop-name
invariant-loop-name l = l.verts ≡ l.initial.verts ++ map fixed_row (take l.name-index l.list)
