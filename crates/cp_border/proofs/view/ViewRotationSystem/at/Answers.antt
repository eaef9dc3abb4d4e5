use Rattle.std.proofs.Common.{◌<◌, ◌^◌, subst, arith}
use Rattle.cp_rot.specs.Systems.{darts}
use Rattle.cp_border.specs.Borders.{borders}
use Rattle.cp_border.specs.Views.{Drawn}
use Rattle.cp_border.proofs.ViewLaws.{told_few}
use Rattle.cp_border.proofs.view.ViewRotationSystem.at.Goals as goal

pub offset_bounds-self-inside-d : goal.offset_bounds-self-inside-d
offset_bounds-self-inside-d c =
    let few : darts (borders c.args.self.now.graph c.args.self.now.layout) < 2 ^ 60 =
    subst (λ (t : Drawn). darts (borders t.graph t.layout) < 2 ^ 60) c.self.view_is
    (told_few c.self.inside.arranged.graph.now c.self.inside.arranged.layout.now _ c.self.invariant) in
    omega (arith, few, c.requires)
