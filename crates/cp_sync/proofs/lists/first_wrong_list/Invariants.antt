use Rattle.cp_sync.specs.Checks.{AllBelow, HasRightList}
use Rattle.cp_sync.proofs.lists.first_wrong_list.Given as goal

abbrev pub invariant-loop-k : goal.invariant-loop-k
invariant-loop-k l = AllBelow (HasRightList l.verts l.at) l.k
