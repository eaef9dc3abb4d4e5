use Rattle.std.proofs.Common.{◌≤◌, [], ◌∷◌, ◌++◌, length, map, sym, ap₂, ◌∙◌, subst}
use Rattle.cp_pq.specs.declared.found.Found.{Found}
use Rattle.cp_pq.proofs.Cores.{core_two, group_short}
use Rattle.cp_pq.proofs.change.core_two.Goals as goal

pub returns : goal.returns
returns c = λ q p vars ks outs opp s two.
    core_two q p opp vars c.args.owner ks outs c.args.ins c.args.first c.args.second _ s two
    (c.in_ok-push.ensures.ok ∙ ap₂ (λ a b. a ++ b ∷ [])
    (c.in_ok-all.ensures (subst (λ z. length z ≤ 1) (sym c.in_ok-inner.ensures) (group_short c.args.owner c.args.ins)) ∙ ap₂ (λ a b. a ++ map Found.In b) c.in_ok-row.ensures c.in_ok-inner.ensures)
    c.in_ok-turned.ensures)
