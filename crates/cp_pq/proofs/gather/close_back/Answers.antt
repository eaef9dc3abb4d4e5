use Rattle.cp_pq.proofs.gather.close_back.Goals as goal

pub returns : goal.returns
returns c = λ q p ks opp g two pos le. c.in_ok-step.ensures q p ks opp (c.in_ok-in_order.ensures q p _ ks g) two pos le
