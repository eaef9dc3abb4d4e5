use Rattle.std.proofs.Common.{ℕ, ◌≤◌, Bool, List, length, sym, subst}
use Rattle.std.specs.List.{AllZip}
use Rattle.cp_pq.specs.declared.node.Node.{Node}
use Rattle.cp_pq.specs.Words.{Opposite}
use Rattle.cp_pq.specs.Frames.{node_of}
use Rattle.cp_pq.specs.Founds.{IsGiven}
use Rattle.cp_pq.proofs.SortedKids.{sorted_by}
use Rattle.cp_pq.proofs.Results.{IfOk-map}
use Rattle.cp_pq.proofs.close.close.Goals as goal

pub returns-in_ok-kinds-in-P : goal.returns-in_ok-kinds-in-P
returns-in_ok-kinds-in-P c =
    IfOk-map _ (λ f. (q p : ℕ → Bool) (ks : List Node) → Opposite q p → AllZip (IsGiven q p) ks c.args.founds → 2 ≤ length ks → IsGiven q p (node_of c.args.label ks) f)
    (λ f g q p ks opp z two. subst (λ l. IsGiven q p (node_of l ks) f) (sym c.in-P.is)
    (g q p ks opp (sorted_by q p ks _ _ _ c.args.founds c.in_ok-back-in-P.back c.in_ok-back-in-P.ensures c.in_ok-kinds-in-P.ensures.outs c.in_ok-kinds-in-P.ensures.ins c.in_ok-kinds-in-P.ensures.mixed z) two))
    c.close_p.result c.close_p.ensures
