use Rattle.std.proofs.Common.{◌≡◌, ℕ, Bool, ap, ap₂, sym, ◌∙◌}
use Rattle.std.specs.Prelude.{false, true}
use Rattle.std.proofs.lemmas.Bool.{cond-false, cond-true}
use Rattle.cp_cgraph.specs.Clustered.{source}
use Rattle.cp_cgraph.specs.Crossings.{contains}
use Rattle.cp_skel.specs.Skeletons.{vertex_name}
use Rattle.cp_skel.specs.declared.vertex.Vertex.TheVariants.{Child, Outside}
use Rattle.cp_skel.proofs.rows.VertexNames.at_border.Goals as goal

pub returns-then-contains : goal.returns-then-contains
returns-then-contains c =
    let b : Bool = contains c.args.self.now.graph.now c.args.c (source c.args.self.now.graph.now c.args.e) in
    let t : contains c.args.self.now.graph.now c.args.c (source c.args.self.now.graph.now c.args.e) ≡ true =
    ap (contains c.args.self.now.graph.now c.args.c) (sym (ap (λ p. p.0) c.ends-source.ensures.ends))
    ∙ sym c.contains.ensures ∙ c.if-contains.true in
    ap₂ (λ (m n : ℕ). (m, n))
    (c.outside.ensures
    ∙ ap (vertex_name c.args.self.now.graph.now) (sym (cond-true b (Outside c.args.c) (Child c.args.c) t)))
    (c.child.ensures
    ∙ ap (vertex_name c.args.self.now.graph.now) (sym (cond-true b (Child c.args.c) (Outside c.args.c) t)))

pub returns-else-contains : goal.returns-else-contains
returns-else-contains c =
    let b : Bool = contains c.args.self.now.graph.now c.args.c (source c.args.self.now.graph.now c.args.e) in
    let f : contains c.args.self.now.graph.now c.args.c (source c.args.self.now.graph.now c.args.e) ≡ false =
    ap (contains c.args.self.now.graph.now c.args.c) (sym (ap (λ p. p.0) c.ends-source.ensures.ends))
    ∙ sym c.contains.ensures ∙ c.if-contains.false in
    ap₂ (λ (m n : ℕ). (m, n))
    (c.child-else-contains.ensures
    ∙ ap (vertex_name c.args.self.now.graph.now) (sym (cond-false b (Outside c.args.c) (Child c.args.c) f)))
    (c.outside-else-contains.ensures
    ∙ ap (vertex_name c.args.self.now.graph.now) (sym (cond-false b (Child c.args.c) (Outside c.args.c) f)))
