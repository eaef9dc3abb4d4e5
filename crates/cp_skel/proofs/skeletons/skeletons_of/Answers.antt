use Rattle.std.proofs.Common.{◌≡◌, ℕ, length, map, ap, ◌∙◌, arith}
use Rattle.cp_board.specs.declared.parts.Kind.TheVariants.{P}
use Rattle.cp_board.specs.declared.parts.Vert.{Vert}
use Rattle.cp_cgraph.specs.Clustered.{clusters}
use Rattle.cp_skel.specs.Skeletons.{all_vertices, below}
use Rattle.cp_skel.proofs.SkeletonParts.{parts-IsSynchronized}
use Rattle.cp_skel.proofs.ToldLists.{length-child_names, length-first_names, length-left_clusters, length-node_names, length-outside_names}
use Rattle.cp_skel.proofs.skeletons.skeletons_of.Goals as goal

pub invariant_of-segments : goal.invariant_of-segments
invariant_of-segments c =
    let told = c.as_slice.ensures.value ∙ c.in_ok-firsts.ensures.firsts in
    record {
      clustered = c.nodes_by_home.ensures.clustered;
      size = ap length told ∙ length-first_names c.args.g.now;
      told = told;
      few = c.in_ok-firsts.ensures.few;
    }

pub invariant_of-names : goal.invariant_of-names
invariant_of-names c =
    let nodes = c.as_slice-8.ensures.value ∙ c.in_ok-nodes.ensures in
    let children = c.as_slice-9.ensures.value ∙ c.in_ok-children.ensures in
    let outsides = c.as_slice-10.ensures.value ∙ c.in_ok-outsides.ensures in
    record {
      clustered = c.nodes_by_home.ensures.clustered;
      nodes_size = ap length nodes ∙ length-node_names c.args.g.now;
      children_size = ap length children ∙ length-child_names c.args.g.now;
      outsides_size = ap length outsides ∙ length-outside_names c.args.g.now;
      nodes_told = nodes;
      children_told = children;
      outsides_told = outsides;
    }

pub whole-requires : goal.whole-requires
whole-requires c =
    let vert : ℕ → Vert = λ v. record { name = v; kind = P } in
    let vertices : length c.in_ok-vertices.vertices.items ≡ length (all_vertices c.args.g.now) =
    ap length c.in_ok-vertices.ensures in
    let left : length c.in_ok-left.left.items ≡ clusters c.args.g.now =
    ap length c.in_ok-left.ensures ∙ length-left_clusters c.args.g.now in
    let many : c.len.result ≡ length (all_vertices c.args.g.now) =
    omega (arith, c.len.ensures, c.in_ok-vertices.vertices.ok, vertices) in
    parts-IsSynchronized c.args.g.now c.nodes_by_home.ensures.clustered
    (omega (arith, vertices, c.in_ok-vertices.vertices.ok, c.in_ok-vertices.vertices.small))
    (omega (arith, c.in_ok-firsts.ensures.few))
    (omega (arith, left, c.in_ok-left.left.ok, c.in_ok-left.left.small))
    c.in_ok-verts.verts c.in_ok-rows.rows c.in_ok-pipes.pipes
    (c.in_ok-verts.ensures ∙ ap (λ (n : ℕ). map vert (below n)) many)
    c.in_ok-rows.ensures c.in_ok-pipes.ensures
