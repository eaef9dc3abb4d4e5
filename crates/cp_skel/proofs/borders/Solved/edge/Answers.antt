use Rattle.std.proofs.Common.{ℕ, List, length, ap, ◌∙◌, arith}
use Rattle.std.specs.Prelude.{slice_index}
use Rattle.cp_skel.proofs.SolvedLists.{name_edge-lt}
use Rattle.cp_skel.proofs.ToldLists.{graph_edges-at, length-graph_edges}
use Rattle.cp_skel.proofs.borders.Solved.edge.Goals as goal

pub graph_edge-requires : goal.graph_edge-requires
graph_edge-requires c =
    omega (arith, ap length c.args.self.now.edges_told, length-graph_edges c.args.self.now.graph.now, c.requires)

pub returns-clause-value : goal.returns-clause-value
returns-clause-value c =
    c.graph_edge.ensures ∙ ap (λ (xs : List ℕ). slice_index xs c.args.name) c.args.self.now.edges_told
    ∙ graph_edges-at c.args.self.now.graph.now c.args.name 0 c.requires

pub returns-clause-edge : goal.returns-clause-edge
returns-clause-edge c =
    let value = c.graph_edge.ensures ∙ ap (λ (xs : List ℕ). slice_index xs c.args.name) c.args.self.now.edges_told
    ∙ graph_edges-at c.args.self.now.graph.now c.args.name 0 c.requires in
    let less = name_edge-lt c.args.self.now.graph.now c.args.name c.requires in
    omega (arith, value, less)
