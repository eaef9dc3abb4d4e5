use Rattle.std.proofs.Common.{◌≡◌, ◌<◌, ℕ, List, length, slice_index, sym, ap, subst, ◌∙◌, arith}
use Rattle.cp_rot.specs.Systems.{list_of}
use Rattle.cp_border.specs.Borders.{borders}
use Rattle.cp_border.specs.Views.{Drawn}
use Rattle.cp_border.proofs.Rotation.{list_of_node}
use Rattle.cp_border.proofs.ViewLaws.{node_degree}
use Rattle.cp_border.proofs.view.ViewRotationSystem.item.Goals as goal

pub node_item-requires-clause-place : goal.node_item-requires-clause-place
node_item-requires-clause-place c =
    let within = subst (λ (t : Drawn). c.args.i < length (list_of (borders t.graph t.layout) c.args.v))
    (sym c.self.view_is) c.requires.place in
    omega (
      arith,
      within,
      node_degree c.self.inside.arranged.graph.now c.self.inside.arranged.layout.now
          c.self.invariant.arranged c.args.v (omega (arith, c.if-v-nodes.true, c.nodes.ensures.value)),
    )

pub returns-then-v-nodes : goal.returns-then-v-nodes
returns-then-v-nodes c =
    subst (λ (t : Drawn). c.node_item.result ≡ slice_index (list_of (borders t.graph t.layout) c.args.v) c.args.i)
    c.self.view_is
    (c.node_item.ensures.value
    ∙ ap (λ (xs : List ℕ). slice_index xs c.args.i)
    (sym (list_of_node c.self.inside.arranged.graph.now c.self.inside.arranged.layout.now c.self.invariant.arranged
    c.args.v (omega (arith, c.if-v-nodes.true, c.nodes.ensures.value)))))
