use Rattle.std.proofs.Common.{◌≡◌, ◌<◌, [], false, length, ap, sym, ◌∙◌, arith}
use Rattle.std.specs.Prelude.{eqb, slice_index_or}
use Rattle.std.specs.List.{filter}
use Rattle.std.proofs.lemmas.List.{get_or_default}
use Rattle.cp_cgraph.specs.Clustered.{clusters, home, nodes, parent}
use Rattle.cp_skel.specs.Skeletons.{below, is_left, left}
use Rattle.cp_skel.proofs.ToldLists.{left_clusters-at, length-left_clusters}
use Rattle.cp_skel.proofs.VertexOrder.{vertices-left, vertices-not_left}
use Rattle.cp_skel.proofs.order.ordered.Goals.{then-left-c+in_ok-push, else-left-c}
use Rattle.cp_skel.proofs.order.ordered.Goals as goal

pub bounds-left-c : goal.bounds-left-c
bounds-left-c c = omega (
  arith,
  ap length c.requires.left,
  length-left_clusters c.args.g.now,
  c.clusters-c-end.ensures.value,
)

pub loop-c-preserved : goal.loop-c-preserved
loop-c-preserved c =
    let cluster : c.loop-c.c < clusters c.args.g.now = omega (arith, c.clusters-c-end.ensures.value) in
    let told : slice_index_or c.args.left.now c.loop-c.c false ≡ is_left c.args.g.now c.loop-c.c =
    left_clusters-at c.args.g.now c.args.left.now c.loop-c.c false c.requires.left cluster in
    let own : c.items.result.now ≡ filter (λ v. eqb (home c.args.g.now v) c.loop-c.c) (below (nodes c.args.g.now)) =
    c.items.ensures ∙ c.index-homes-c.is
    ∙ get_or_default c.args.homes.now c.loop-c.c c.index-homes-c.result [] (omega (
      arith,
      c.requires.homes.size,
      cluster,
    ))
    ∙ c.requires.homes.each c.loop-c.c cluster in
    let children : c.items-in-loop-c.result.now
    ≡ filter (λ d. eqb (parent c.args.g.now d) c.loop-c.c) (left c.args.g.now) =
    c.items-in-loop-c.ensures ∙ c.index.ensures
    ∙ get_or_default c.in_ok-children.children.items c.loop-c.c c.index.result.now []
    (omega (arith, c.in_ok-children.ensures.size, cluster))
    ∙ c.in_ok-children.ensures.each c.loop-c.c cluster in
    elim c.if-left-c.branch [
      | then-left-c+in_ok-push w ↦
          ap (λ v. v.items) w.vertices-is
          ∙ vertices-left c.args.g.now c.loop-c.c c.loop-c.vertices.items c.push_nodes.new.vertices.items
          c.push_children.new.vertices.items c.items.result.now c.items-in-loop-c.result.now
          c.loop-c.invariant own children c.in_ok-push_nodes.ensures c.in_ok-push_children.ensures
          w.push.new.self.items (sym told ∙ w.if-left-c.true) w.in_ok-push.ensures.items
      | else-left-c w ↦
          ap (λ v. v.items) w.vertices-is
          ∙ vertices-not_left c.args.g.now c.loop-c.c c.loop-c.vertices.items c.push_nodes.new.vertices.items
          c.push_children.new.vertices.items c.items.result.now c.items-in-loop-c.result.now
          c.loop-c.invariant own children c.in_ok-push_nodes.ensures c.in_ok-push_children.ensures
          (sym told ∙ w.if-left-c.false)
    ]
