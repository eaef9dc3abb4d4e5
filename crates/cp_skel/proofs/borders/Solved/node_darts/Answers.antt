use Rattle.std.proofs.Common.{◌≡◌, ℕ, length, map, take, ap, ◌∙◌, arith}
use Rattle.std.proofs.Math.Seq.{take-length}
use Rattle.cp_board.specs.Solutions.{list_in}
use Rattle.cp_skel.specs.SolutionLayouts.{name_dart}
use Rattle.cp_skel.proofs.SolvedSteps.{images-more}
use Rattle.cp_skel.proofs.borders.Solved.node_darts.Goals as goal

pub dart-requires : goal.dart-requires
dart-requires c = c.list-name-items.ensures.segments c.loop-name.name-index 0 c.loop-name-test.true

pub loop-name-preserved : goal.loop-name-preserved
loop-name-preserved c =
    images-more (name_dart c.args.self.now.graph.now c.args.v) c.list-name-items.result.now c.loop-name.name-index
    c.dart.result c.loop-name.darts.items c.push.new.self.items c.loop-name-test.true c.loop-name.invariant
    c.dart.ensures c.in_ok-push.ensures.items

pub returns : goal.returns
returns c =
    let last : c.loop-name.name-index ≡ length c.list-name-items.result.now = omega arith in
    c.loop-name.invariant
    ∙ ap (map (name_dart c.args.self.now.graph.now c.args.v))
    (ap (λ (k : ℕ). take k c.list-name-items.result.now) last ∙ take-length c.list-name-items.result.now
    ∙ c.list-name-items.ensures.list ∙ ap (list_in c.args.self.now.solution.now) c.node.ensures.value)
