use Rattle.std.proofs.Common.{subst}
use Rattle.cp_pq.specs.Steps.{IsGathered}
use Rattle.cp_pq.proofs.GatheredRows.{turned_open, turned_root}
use Rattle.cp_pq.proofs.gather.turned_row.Goals as goal

pub returns-in_ok-in_order-in-Open : goal.returns-in_ok-in_order-in-Open
returns-in_ok-in_order-in-Open c = λ q p total ks g.
    turned_open q p total ks c.in-Open.founds c.in_ok-in_order-in-Open.in_order c.in-Open.count c.in_ok-in_order-in-Open.ensures
    (subst (IsGathered q p total _) c.in-Open.is g)

pub returns-in_ok-back-in-Root : goal.returns-in_ok-back-in-Root
returns-in_ok-back-in-Root c = λ q p total ks g.
    turned_root q p total ks c.in-Root.before c.in-Root.after c.in_ok-front-in-Root.front c.in_ok-back-in-Root.back
    c.in-Root.place c.in_ok-front-in-Root.ensures c.in_ok-back-in-Root.ensures (subst (IsGathered q p total _) c.in-Root.is g)
