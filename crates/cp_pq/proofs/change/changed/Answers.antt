use Rattle.std.proofs.Common.{◌≡◌, ℕ, Bool, sym, ap, ◌∙◌, subst}
use Rattle.cp_pq.specs.declared.node.Node.{Node}
use Rattle.cp_pq.specs.declared.node.Node.TheVariants.{P, Q}
use Rattle.cp_pq.specs.Words.{Opposite, has_all}
use Rattle.cp_pq.specs.Frames.{node_of}
use Rattle.cp_pq.specs.Steps.{IsTop}
use Rattle.cp_pq.specs.Roots.{IsChange}
use Rattle.cp_pq.proofs.SortedKids.{sorted_by}
use Rattle.cp_pq.proofs.Results.{IfOk-map}
use Rattle.cp_pq.proofs.RootLaws.{whole_change}
use Rattle.cp_pq.proofs.change.changed.Goals as goal

pub returns-in-Whole : goal.returns-in-Whole
returns-in-Whole c = λ q p k opp t. let g = subst (IsTop q p k) c.in-Whole.is t in whole_change q p opp c.args.vars k c.in-Whole.node g.0 g.1

pub returns-in_ok-kinds-in-P : goal.returns-in_ok-kinds-in-P
returns-in_ok-kinds-in-P c =
    IfOk-map _ (λ r. (q p : ℕ → Bool) (k : Node) → Opposite q p → IsTop q p k c.args.top → IsChange q p c.args.vars k r)
    (λ r g q p k opp t.
    let h = subst (IsTop q p k) c.in-Met.is t in
    let at : k ≡ P c.in-P.owner h.0 = h.1 ∙ ap (λ l. node_of l h.0) c.in-P.is in
    subst (λ z. IsChange q p c.args.vars z r) (sym at)
    (g q p h.0 opp (sorted_by q p h.0 _ _ _ c.in-Met.founds c.in_ok-back-in-P.back c.in_ok-back-in-P.ensures c.in_ok-kinds-in-P.ensures.outs c.in_ok-kinds-in-P.ensures.ins c.in_ok-kinds-in-P.ensures.mixed h.2)
    (ap (has_all p) (sym at) ∙ h.3) h.4))
    c.change_p.result c.change_p.ensures

pub returns-in-Q : goal.returns-in-Q
returns-in-Q c =
    IfOk-map _ (λ r. (q p : ℕ → Bool) (k : Node) → Opposite q p → IsTop q p k c.args.top → IsChange q p c.args.vars k r)
    (λ r g q p k opp t.
    let h = subst (IsTop q p k) c.in-Met.is t in
    let at : k ≡ Q c.in-Q.var h.0 = h.1 ∙ ap (λ l. node_of l h.0) c.in-Q.is in
    subst (λ z. IsChange q p c.args.vars z r) (sym at) (g q p c.args.vars h.0 opp h.2 h.4))
    c.change_q.result c.change_q.ensures
