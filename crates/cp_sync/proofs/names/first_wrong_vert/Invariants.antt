use Rattle.cp_sync.specs.Checks.{AllBelow, IsNextVert}
use Rattle.cp_sync.proofs.names.first_wrong_vert.Given as goal

abbrev pub invariant-loop-k : goal.invariant-loop-k
invariant-loop-k l = AllBelow (IsNextVert l.verts) l.k
