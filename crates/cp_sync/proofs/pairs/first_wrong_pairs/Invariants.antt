use Rattle.cp_sync.specs.Checks.{AllBelow, HasRightPartners}
use Rattle.cp_sync.proofs.pairs.first_wrong_pairs.Given as goal

abbrev pub invariant-loop-k : goal.invariant-loop-k
invariant-loop-k l = AllBelow (HasRightPartners l.verts l.at l.pipes) l.k
