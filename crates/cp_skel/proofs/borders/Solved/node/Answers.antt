use Rattle.std.proofs.Common.{ℕ, List, length, ap, ◌∙◌, arith}
use Rattle.std.specs.Prelude.{slice_index}
use Rattle.cp_skel.specs.Skeletons.{IsVertex}
use Rattle.cp_skel.specs.declared.vertex.Vertex.TheVariants.{Node}
use Rattle.cp_skel.proofs.SkeletonVertices.{node-IsVertex}
use Rattle.cp_skel.proofs.ToldLists.{length-node_names, node_names-at}
use Rattle.cp_skel.proofs.borders.Solved.node.Goals as goal

pub node_vertex-requires : goal.node_vertex-requires
node_vertex-requires c =
    omega (arith, ap length c.args.self.now.nodes_told, length-node_names c.args.self.now.graph.now, c.requires)

pub returns-clause-value : goal.returns-clause-value
returns-clause-value c =
    c.node_vertex.ensures ∙ ap (λ (xs : List ℕ). slice_index xs c.args.v) c.args.self.now.nodes_told
    ∙ node_names-at c.args.self.now.graph.now c.args.v 0 c.requires

pub returns-clause-vertex : goal.returns-clause-vertex
returns-clause-vertex c =
    let value = c.node_vertex.ensures ∙ ap (λ (xs : List ℕ). slice_index xs c.args.v) c.args.self.now.nodes_told
    ∙ node_names-at c.args.self.now.graph.now c.args.v 0 c.requires in
    let at : IsVertex c.args.self.now.graph.now (Node c.args.v) =
    node-IsVertex c.args.self.now.graph.now c.args.self.now.clustered c.args.v c.requires in
    omega (arith, value, at.within)
