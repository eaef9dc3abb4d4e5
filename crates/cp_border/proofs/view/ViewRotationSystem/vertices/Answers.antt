use Rattle.std.proofs.Common.{subst}
use Rattle.cp_rot.specs.Systems.{IsRotation}
use Rattle.cp_border.specs.Borders.{borders}
use Rattle.cp_border.specs.Views.{Drawn}
use Rattle.cp_border.proofs.RotationLaw.{IsRotation-borders}
use Rattle.cp_border.proofs.view.ViewRotationSystem.vertices.Goals as goal

pub returns-clause-rotation : goal.returns-clause-rotation
returns-clause-rotation c =
    subst (λ (t : Drawn). IsRotation (borders t.graph t.layout)) c.self.view_is
    (IsRotation-borders c.self.inside.arranged.graph.now c.self.inside.arranged.layout.now
    c.self.invariant.clustered c.self.invariant.arranged)
