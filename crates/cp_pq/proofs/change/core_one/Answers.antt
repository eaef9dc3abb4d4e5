use Rattle.std.proofs.Common.{ℕ, ◌≤◌, Bool, List, [], ◌∷◌, ◌++◌, filter, length, map, sym, ap₂, ◌∙◌, subst}
use Rattle.cp_pq.specs.declared.node.Node.{Node}
use Rattle.cp_pq.specs.declared.found.Found.{Found}
use Rattle.cp_pq.specs.Words.{Opposite, is_met}
use Rattle.cp_pq.specs.Founds.{Sorts}
use Rattle.cp_pq.specs.Roots.{IsCore}
use Rattle.cp_pq.proofs.Results.{IfOk-map}
use Rattle.cp_pq.proofs.Cores.{core_one, group_short}
use Rattle.cp_pq.proofs.change.core_one.Goals as goal

pub returns : goal.returns
returns c =
    IfOk-map _ (λ r. (q p : ℕ → Bool) (vars : ℕ) (ks outs : List Node) → Opposite q p → Sorts q p ks outs c.args.ins (c.args.first ∷ []) → 2 ≤ length (filter (is_met q) ks) → IsCore q p vars c.args.owner (filter (is_met q) ks) r)
    (λ r g q p vars ks outs opp s two. core_one q p opp vars c.args.owner ks outs c.args.ins c.args.first r s two
    (g (subst (λ z. length z ≤ 1) (sym c.in_ok-inner.ensures) (group_short c.args.owner c.args.ins)) ∙ ap₂ (λ a b. a ++ map Found.In b) c.in_ok-row.ensures c.in_ok-inner.ensures))
    c.with_group.result c.with_group.ensures
