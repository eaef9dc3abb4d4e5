use Rattle.std.proofs.Common.{◌≡◌, ℕ, length, ap, sym, ◌∙◌, arith}
use Rattle.std.proofs.lemmas.List.FromFn.{length-range_with_len}
use Rattle.cp_board.specs.Instances.{edge_names, vert_names}
use Rattle.cp_skel.specs.Skeletons.{all_vertices, kept_segments}
use Rattle.cp_skel.specs.SkeletonTables.{Told}
use Rattle.cp_skel.proofs.SkeletonGraph.{edge_names-skeletons, vert_names-skeletons}
use Rattle.cp_skel.proofs.ToldLists.{length-graph_edges}
use Rattle.cp_skel.proofs.tests.last_names.Goals as goal

pub vertex-requires : goal.vertex-requires
vertex-requires c =
    let instance = c.instance.ensures ∙ ap (λ (t : Told). t.instance) c.requires in
    let long : length c.in_ok-verts.verts.items ≡ length (all_vertices c.args.g.now) =
    ap length (c.in_ok-verts.ensures.names ∙ ap vert_names instance ∙ vert_names-skeletons c.args.g.now)
    ∙ length-range_with_len 0 (length (all_vertices c.args.g.now)) in
    omega (arith, long, c.in_ok-verts.verts.ok, ap (λ (t : Told). length t.vertices) c.requires)

pub graph_edge-requires : goal.graph_edge-requires
graph_edge-requires c =
    let instance = c.instance-2.ensures ∙ ap (λ (t : Told). t.instance) c.requires in
    let long : length c.in_ok-edges.edges.items ≡ length (kept_segments c.args.g.now) =
    ap length (c.in_ok-edges.ensures.names ∙ ap edge_names instance ∙ edge_names-skeletons c.args.g.now)
    ∙ length-range_with_len 0 (length (kept_segments c.args.g.now)) in
    omega (
      arith,
      long,
      c.in_ok-edges.edges.ok,
      ap (λ (t : Told). length t.edges) c.requires,
      length-graph_edges c.args.g.now,
    )
