use Rattle.std.proofs.Common.{length, ap, arith}
use Rattle.cp_skel.specs.SkeletonTables.{Told}
use Rattle.cp_skel.proofs.ToldLists.{length-node_names}
use Rattle.cp_skel.proofs.tests.all_nodes.Goals as goal

pub node_vertex-requires : goal.node_vertex-requires
node_vertex-requires c =
    omega (
      arith,
      ap (λ (t : Told). length t.nodes) c.requires,
      length-node_names c.args.g.now,
      c.nodes-v-end.ensures.value,
    )
