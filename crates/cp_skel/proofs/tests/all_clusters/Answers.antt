use Rattle.std.proofs.Common.{length, ap, arith}
use Rattle.cp_skel.specs.SkeletonTables.{Told}
use Rattle.cp_skel.proofs.ToldLists.{length-child_names, length-outside_names}
use Rattle.cp_skel.proofs.tests.all_clusters.Goals as goal

pub child_vertex-requires : goal.child_vertex-requires
child_vertex-requires c =
    omega (
      arith,
      ap (λ (t : Told). length t.children) c.requires,
      length-child_names c.args.g.now,
      c.clusters-c-end.ensures.value,
    )

pub outside_vertex-requires : goal.outside_vertex-requires
outside_vertex-requires c =
    omega (
      arith,
      ap (λ (t : Told). length t.outsides) c.requires,
      length-outside_names c.args.g.now,
      c.clusters-c-end.ensures.value,
    )
