use Rattle.std.proofs.Common.{ℕ, List, ap, ◌∙◌}
use Rattle.std.specs.Prelude.{slice_index_or}
use Rattle.cp_skel.proofs.ToldLists.{node_names-at}
use Rattle.cp_skel.proofs.rows.VertexNames.node.Goals as goal

pub returns : goal.returns
returns c =
    ap (λ (xs : List ℕ). slice_index_or xs c.args.v 0) c.args.self.now.nodes_told
    ∙ node_names-at c.args.self.now.graph.now c.args.v 0 c.requires
