use Rattle.std.proofs.Common.{subst}
use Rattle.cp_board.proofs.KeptRules.{no_rule_broken}
use Rattle.cp_sync.specs.Faults.{IsFaultOf, with_parts}
use Rattle.cp_trace.proofs.read_instance.instance_of.Goals as goal

pub returns-in-Err-Broken : goal.returns-in-Err-Broken
returns-in-Err-Broken c = λ rules.
    let parts = with_parts c.args.verts c.args.edges c.args.pipes in
    no_rule_broken parts rules c.in-Err-Broken.field-0-0 c.in-Err-Broken.field-0-1
    (subst (IsFaultOf parts) c.in-Err-Broken.field-0-is c.in-Err-Broken.ensures.fault)
