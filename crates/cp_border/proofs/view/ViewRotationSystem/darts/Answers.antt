use Rattle.std.proofs.Common.{◌≡◌, ◌+◌, ◌*◌, slice_index, ap, subst, arith}
use Rattle.cp_cgraph.specs.Clustered.{edges}
use Rattle.cp_rot.specs.Systems.{IsRotation, darts}
use Rattle.cp_border.specs.Borders.{borders, sum_below, crossed}
use Rattle.cp_border.specs.Views.{Drawn}
use Rattle.cp_border.proofs.RotationLaw.{IsRotation-borders, length-borders_at-graph}
use Rattle.cp_border.proofs.view.ViewRotationSystem.darts.Goals as goal

pub returns-clause-value : goal.returns-clause-value
returns-clause-value c =
    let sum : slice_index c.self.inside.arranged.first.now (edges c.self.inside.arranged.graph.now) ≡ sum_below
    (crossed c.self.inside.arranged.graph.now) (edges c.self.inside.arranged.graph.now) =
    c.self.invariant.first_told.told (edges c.self.inside.arranged.graph.now) (omega arith) in
    let last : slice_index c.self.inside.arranged.first.now c.edges-edges.result ≡ slice_index
    c.self.inside.arranged.first.now (edges c.self.inside.arranged.graph.now) =
    ap (slice_index c.self.inside.arranged.first.now) c.edges-edges.ensures.value in
    subst (λ (t : Drawn). 2 * (c.edges-edges.result + 2 * slice_index c.self.inside.arranged.first.now
    c.edges-edges.result) ≡ darts (borders t.graph t.layout)) c.self.view_is
    (omega (
      arith,
      length-borders_at-graph c.self.inside.arranged.graph.now c.self.inside.arranged.layout.now
          c.self.invariant.clustered c.self.invariant.arranged,
      c.edges-edges.ensures.value,
    ))

pub returns-clause-bound : goal.returns-clause-bound
returns-clause-bound c =
    let sum : slice_index c.self.inside.arranged.first.now (edges c.self.inside.arranged.graph.now) ≡ sum_below
    (crossed c.self.inside.arranged.graph.now) (edges c.self.inside.arranged.graph.now) =
    c.self.invariant.first_told.told (edges c.self.inside.arranged.graph.now) (omega arith) in
    let last : slice_index c.self.inside.arranged.first.now c.edges-edges.result ≡ slice_index
    c.self.inside.arranged.first.now (edges c.self.inside.arranged.graph.now) =
    ap (slice_index c.self.inside.arranged.first.now) c.edges-edges.ensures.value in
    omega (
      arith,
      length-borders_at-graph c.self.inside.arranged.graph.now c.self.inside.arranged.layout.now
          c.self.invariant.clustered c.self.invariant.arranged,
      c.edges-edges.ensures.value,
      c.self.invariant.places.few_edges,
    )

pub returns-clause-rotation : goal.returns-clause-rotation
returns-clause-rotation c =
    subst (λ (t : Drawn). IsRotation (borders t.graph t.layout)) c.self.view_is
    (IsRotation-borders c.self.inside.arranged.graph.now c.self.inside.arranged.layout.now
    c.self.invariant.clustered c.self.invariant.arranged)
