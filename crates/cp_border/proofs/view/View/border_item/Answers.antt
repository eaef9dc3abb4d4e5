use Rattle.std.proofs.Common.{◌<◌, length, sym, subst, arith}
use Rattle.cp_cgraph.specs.Clustered.{edges}
use Rattle.cp_rot.specs.Systems.{list_of}
use Rattle.cp_rot.proofs.Rotations.{item_stands}
use Rattle.cp_border.specs.Borders.{borders, first_border}
use Rattle.cp_border.specs.Views.{Drawn}
use Rattle.cp_border.proofs.RotationLaw.{IsRotation-borders}
use Rattle.cp_border.proofs.ViewLaws.{item_after, told_few}
use Rattle.cp_border.proofs.view.View.border_item.Goals as goal

pub offset_bounds-self-inside-dart : goal.offset_bounds-self-inside-dart
offset_bounds-self-inside-dart c =
    let vertex = subst (λ (t : Drawn). c.args.v < first_border t.graph (edges t.graph)) (sym c.self.view_is)
    c.requires.vertex in
    let place = subst (λ (t : Drawn). c.args.i < length (list_of (borders t.graph t.layout) c.args.v))
    (sym c.self.view_is) c.requires.place in
    let rotation = IsRotation-borders c.self.inside.arranged.graph.now c.self.inside.arranged.layout.now
    c.self.invariant.clustered c.self.invariant.arranged in
    omega (
      arith,
      (item_stands _ rotation c.args.v c.loop-k._k vertex (omega (arith, place, c.loop-k-test.true))).0,
      c.loop-k.invariant,
      told_few _ _ _ c.self.invariant,
    )

pub bounds-self-inside-dart : goal.bounds-self-inside-dart
bounds-self-inside-dart c =
    let vertex = subst (λ (t : Drawn). c.args.v < first_border t.graph (edges t.graph)) (sym c.self.view_is)
    c.requires.vertex in
    let place = subst (λ (t : Drawn). c.args.i < length (list_of (borders t.graph t.layout) c.args.v))
    (sym c.self.view_is) c.requires.place in
    let rotation = IsRotation-borders c.self.inside.arranged.graph.now c.self.inside.arranged.layout.now
    c.self.invariant.clustered c.self.invariant.arranged in
    omega (
      arith,
      (item_stands _ rotation c.args.v c.loop-k._k vertex (omega (arith, place, c.loop-k-test.true))).0,
      c.loop-k.invariant,
      c.self.invariant.next_told.size,
    )

pub loop-k-preserved : goal.loop-k-preserved
loop-k-preserved c =
    let vertex = subst (λ (t : Drawn). c.args.v < first_border t.graph (edges t.graph)) (sym c.self.view_is)
    c.requires.vertex in
    let place = subst (λ (t : Drawn). c.args.i < length (list_of (borders t.graph t.layout) c.args.v))
    (sym c.self.view_is) c.requires.place in
    let rotation = IsRotation-borders c.self.inside.arranged.graph.now c.self.inside.arranged.layout.now
    c.self.invariant.clustered c.self.invariant.arranged in
    item_after _ rotation c.self.inside.next.now c.args.v c.loop-k._k c.loop-k.dart c.self.invariant.next_told vertex
    (omega (arith, place, c.loop-k-test.true)) c.loop-k.invariant
