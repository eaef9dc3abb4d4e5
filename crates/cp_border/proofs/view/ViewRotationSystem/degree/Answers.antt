use Rattle.std.proofs.Common.{◌≡◌, ◌<◌, ℕ, List, length, sym, ap, subst, ◌∙◌, arith}
use Rattle.cp_cgraph.specs.Clustered.{edges}
use Rattle.cp_rot.specs.Systems.{list_of}
use Rattle.cp_border.specs.Borders.{borders, first_border}
use Rattle.cp_border.specs.Views.{Drawn}
use Rattle.cp_border.proofs.ViewLaws.{node_degree, border_degree}
use Rattle.cp_border.proofs.view.ViewRotationSystem.degree.Goals as goal

pub returns-then-v-nodes : goal.returns-then-v-nodes
returns-then-v-nodes c =
    subst (λ (t : Drawn). length c.node_items.result.now ≡ length (list_of (borders t.graph t.layout) c.args.v))
    c.self.view_is
    (ap (λ (xs : List ℕ). length xs) c.node_items.ensures
    ∙ node_degree c.self.inside.arranged.graph.now c.self.inside.arranged.layout.now c.self.invariant.arranged
    c.args.v (omega (arith, c.if-v-nodes.true, c.nodes.ensures.value)))

pub returns-else-v-nodes : goal.returns-else-v-nodes
returns-else-v-nodes c =
    let within = subst (λ (t : Drawn). c.args.v < first_border t.graph (edges t.graph)) (sym c.self.view_is)
    c.requires in
    subst (λ (t : Drawn). 4 ≡ length (list_of (borders t.graph t.layout) c.args.v)) c.self.view_is
    (border_degree c.self.inside.arranged.graph.now c.self.inside.arranged.layout.now c.self.invariant.arranged c.args.v
    (omega (arith, c.if-v-nodes.false, c.nodes.ensures.value)) within)
