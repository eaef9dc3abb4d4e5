use Rattle.std.proofs.Common.{◌≡◌, ℕ, List, [], map, sym, ap, subst, ◌∙◌, arith}
use Rattle.std.specs.Prelude.{IfOk}
use Rattle.std.proofs.lemmas.Bool.{cond-false, cond-true}
use Rattle.cp_board.specs.Solutions.{list_in}
use Rattle.cp_skel.specs.Skeletons.{IsVertex, is_left, vertex_name}
use Rattle.cp_skel.specs.SolutionLayouts.{name_edge}
use Rattle.cp_skel.specs.declared.vertex.Vertex.TheVariants.{Child}
use Rattle.cp_skel.proofs.NameTables.{left-child}
use Rattle.cp_skel.proofs.SolvedLists.{name_if_left-none, name_if_left-some}
use Rattle.cp_skel.proofs.borders.Solved.cluster_edges.Goals as goal

pub edges_at-requires : goal.edges_at-requires
edges_at-requires c =
    let two = name_if_left-some c.args.self.now.graph.now Child c.args.c c.in-Some.vertex
    (sym c.child.ensures ∙ c.in-Some.is) in
    let at : IsVertex c.args.self.now.graph.now (Child c.args.c) =
    left-child c.args.self.now.graph.now c.args.self.now.clustered c.args.c c.requires two.0 in
    omega (arith, two.1, at.within)

pub returns-in-None : goal.returns-in-None
returns-in-None c =
    let edges : List ℕ = map (name_edge c.args.self.now.graph.now)
    (list_in c.args.self.now.solution.now (vertex_name c.args.self.now.graph.now (Child c.args.c))) in
    c.new.ensures.items
    ∙ sym (cond-false (is_left c.args.self.now.graph.now c.args.c) edges []
    (name_if_left-none c.args.self.now.graph.now Child c.args.c (sym c.child.ensures ∙ c.in-None.is)))

pub returns-in-Some : goal.returns-in-Some
returns-in-Some c =
    let edges : List ℕ = map (name_edge c.args.self.now.graph.now)
    (list_in c.args.self.now.solution.now (vertex_name c.args.self.now.graph.now (Child c.args.c))) in
    let two = name_if_left-some c.args.self.now.graph.now Child c.args.c c.in-Some.vertex
    (sym c.child.ensures ∙ c.in-Some.is) in
    subst (λ (xs : List ℕ). IfOk c.edges_at.result (λ found. found.items ≡ xs))
    (ap (λ (v : ℕ). map (name_edge c.args.self.now.graph.now) (list_in c.args.self.now.solution.now v)) two.1
    ∙ sym (cond-true (is_left c.args.self.now.graph.now c.args.c) edges [] two.0))
    c.edges_at.ensures
