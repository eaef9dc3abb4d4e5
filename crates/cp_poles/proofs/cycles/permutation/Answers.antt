-- No place of a permutation is wrong.
use Rattle.std.proofs.Common.{subst}
use Rattle.cp_base.specs.Permutations.{IsPermFaultOf}
use Rattle.cp_base.proofs.Permutations.{IsPerm-right}
use Rattle.cp_poles.proofs.cycles.permutation.Goals as goal

pub unreachable-requires : goal.unreachable-requires
unreachable-requires c =
    let wrong = subst (IsPermFaultOf c.args.to.now) c.in-Err-NotAPermutation.field-0-is
    c.in-Err-NotAPermutation.ensures.fault in
    IsPerm-right c.args.to.now c.requires c.in-Err-NotAPermutation.field-0-0 wrong.0 wrong.1
