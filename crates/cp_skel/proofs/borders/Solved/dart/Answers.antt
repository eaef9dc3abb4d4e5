use Rattle.std.proofs.Common.{sym, ap, ◌∙◌, arith}
use Rattle.cp_skel.proofs.SolvedSteps.{dart-source, dart-target}
use Rattle.cp_skel.proofs.borders.Solved.dart.Goals as goal

pub overflow_mul-result : goal.overflow_mul-result
overflow_mul-result c = omega (arith, c.edge-e.ensures.edge, c.args.self.now.few)

pub overflow_mul-result-else-source-v : goal.overflow_mul-result-else-source-v
overflow_mul-result-else-source-v c = omega (arith, c.edge-e.ensures.edge, c.args.self.now.few)

pub overflow_add-result : goal.overflow_add-result
overflow_add-result c = omega (arith, c.edge-e.ensures.edge, c.args.self.now.few)

pub returns-then-source-v : goal.returns-then-source-v
returns-then-source-v c =
    dart-source c.args.self.now.graph.now c.args.v c.args.name c.edge-e.result c.edge-e.ensures.value
    (sym (ap (λ p. p.0) c.ends-source.ensures.ends) ∙ c.if-source-v.true)

pub returns-else-source-v : goal.returns-else-source-v
returns-else-source-v c =
    dart-target c.args.self.now.graph.now c.args.v c.args.name c.edge-e.result c.edge-e.ensures.value
    (λ at. c.if-source-v.false (ap (λ p. p.0) c.ends-source.ensures.ends ∙ at))
