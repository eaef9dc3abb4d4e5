use Rattle.std.proofs.Common.{refl}
use Rattle.cp_force.proofs.FittedNodes.{fitted_Q}
use Rattle.cp_force.proofs.fitting.fit_q.Goals as goal

pub returns : goal.returns
returns c = λ place kids z two.
    fitted_Q place c.args.var kids c.in_ok-turned.turned c.in_ok-turned.row_fitted _
    (c.in_ok-turned.ensures place kids z two) refl refl c.in_ok-all.ensures
