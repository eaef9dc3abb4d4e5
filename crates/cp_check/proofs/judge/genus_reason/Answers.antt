-- The sums fit, since there are few faces and components.
use Rattle.cp_check.proofs.Counts.{small_sums}
use Rattle.cp_check.proofs.judge.genus_reason.Goals as goal

pub overflow_add-v : goal.overflow_add-v
overflow_add-v g c = (small_sums (g.T.RotationSystem.system c.args.t.now) _ _ _ _ c.vertices-v.ensures.value
    c.darts-e.ensures.value c.vertices-v.ensures.bound c.darts-e.ensures.bound c.faces_of-f.ensures
    c.components_of-c.ensures).0

pub overflow_mul-c : goal.overflow_mul-c
overflow_mul-c g c = (small_sums (g.T.RotationSystem.system c.args.t.now) _ _ _ _ c.vertices-v.ensures.value
    c.darts-e.ensures.value c.vertices-v.ensures.bound c.darts-e.ensures.bound c.faces_of-f.ensures
    c.components_of-c.ensures).1

pub overflow_add-e : goal.overflow_add-e
overflow_add-e g c = (small_sums (g.T.RotationSystem.system c.args.t.now) _ _ _ _ c.vertices-v.ensures.value
    c.darts-e.ensures.value c.vertices-v.ensures.bound c.darts-e.ensures.bound c.faces_of-f.ensures
    c.components_of-c.ensures).2
