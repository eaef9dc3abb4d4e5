use Rattle.std.proofs.Common.{sym, subst}
use Rattle.cp_pq.specs.declared.node.Node.TheVariants.{P}
use Rattle.cp_pq.specs.declared.change.Change.{Change}
use Rattle.cp_pq.specs.Roots.{IsChange}
use Rattle.cp_pq.proofs.RootLaws.{change_whole}
use Rattle.cp_pq.proofs.change.change_whole.Goals as goal

pub returns : goal.returns
returns c = λ q p vars ks opp s part two.
    subst (λ z. IsChange q p vars (P c.args.owner ks) (Change.Kept (P c.args.owner z))) (sym c.in_ok-push.ensures.ok)
    (change_whole q p opp vars c.args.owner ks s.clear two c.args.outs c.args.ins s part)
