use Rattle.std.proofs.Common.{subst}
use Rattle.cp_sync.specs.Faults.{IsFaultOf, with_parts}
use Rattle.cp_board.proofs.KeptRules.{no_rule_broken}
use Rattle.cp_skel.proofs.skeletons.whole.Goals as goal

pub unreachable-requires : goal.unreachable-requires
unreachable-requires c =
    no_rule_broken (with_parts c.args.verts c.args.edges c.args.pipes) c.requires c.in-Err-Broken.field-0-0
    c.in-Err-Broken.field-0-1
    (subst (IsFaultOf (with_parts c.args.verts c.args.edges c.args.pipes)) c.in-Err-Broken.field-0-is
    c.in-Err-Broken.ensures.fault)
