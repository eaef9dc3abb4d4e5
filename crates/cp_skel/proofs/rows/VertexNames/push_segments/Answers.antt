use Rattle.std.proofs.Common.{◌≡◌, ℕ, ◌+◌, ◌*◌, ◌++◌, length, map, ap, sym, ◌∙◌, arith}
use Rattle.std.specs.Prelude.{slice_index}
use Rattle.std.specs.List.{range_with_len}
use Rattle.std.proofs.lemmas.List.{append-nil}
use Rattle.cp_border.specs.Borders.{crossed, first_segment}
use Rattle.cp_border.proofs.Rotation.{IsCrossing}
use Rattle.cp_skel.specs.Skeletons.{dart_vertex, skeleton_edge, vertex_name}
use Rattle.cp_skel.specs.SkeletonTables.{first_rows}
use Rattle.cp_skel.specs.declared.vertex.Vertex.TheVariants.{Node}
use Rattle.cp_skel.proofs.SegmentRows.{begins-border, begins-source, crossing_found, ends-border, ends-target, rows-more, rows-next}
use Rattle.cp_skel.proofs.SkeletonVertices.{is_left-from}
use Rattle.cp_skel.proofs.rows.VertexNames.push_segments.Goals as goal

pub loop-c-init : goal.loop-c-init
loop-c-init c = record {
  rows = c.requires.done ∙ sym (append-nil (first_rows c.args.self.now.graph.now c.args.e));
  at = c.node-at.ensures
      ∙ ap (λ (v : ℕ). vertex_name c.args.self.now.graph.now (Node v)) (ap (λ p. p.0) c.ends-source.ensures.ends)
      ∙ begins-source c.args.self.now.graph.now c.args.e c.requires.edge;
}

pub at_border-ends-requires-clause-cluster : goal.at_border-ends-requires-clause-cluster
at_border-ends-requires-clause-cluster c =
    (crossing_found c.args.self.now.graph.now c.args.self.now.clustered c.args.e c.loop-c.c-index
    c.deref-c-items.result.now c.requires.edge (c.deref-c-items.ensures.value ∙ c.in_ok-crossings.ensures)
    c.loop-c-test.true).cluster

pub at_border-ends-requires-clause-left : goal.at_border-ends-requires-clause-left
at_border-ends-requires-clause-left c =
    let b : ℕ = slice_index c.deref-c-items.result.now c.loop-c.c-index in
    let at = crossing_found c.args.self.now.graph.now c.args.self.now.clustered c.args.e c.loop-c.c-index
    c.deref-c-items.result.now c.requires.edge (c.deref-c-items.ensures.value ∙ c.in_ok-crossings.ensures)
    c.loop-c-test.true in
    is_left-from c.args.self.now.graph.now b c.args.e at.above c.requires.edge at.left

pub loop-c-preserved : goal.loop-c-preserved
loop-c-preserved c =
    let b : ℕ = slice_index c.deref-c-items.result.now c.loop-c.c-index in
    let at : IsCrossing c.args.self.now.graph.now c.args.e c.loop-c.c-index
    (slice_index c.deref-c-items.result.now c.loop-c.c-index) =
    crossing_found c.args.self.now.graph.now c.args.self.now.clustered c.args.e c.loop-c.c-index
    c.deref-c-items.result.now c.requires.edge (c.deref-c-items.ensures.value ∙ c.in_ok-crossings.ensures)
    c.loop-c-test.true in
    record {
      rows = c.in_ok-push.ensures.ok
          ∙ rows-more c.args.self.now.graph.now c.args.e c.requires.edge c.requires.no_loop c.loop-c.c-index
          c.len.result
          c.loop-c.at c.at_border-ends.result.0 c.loop-c.rows (omega (arith, at.within)) c.loop-c.invariant.rows
          c.len.ensures c.loop-c.invariant.at
          (ap (λ p. p.0) c.at_border-ends.ensures
          ∙ ends-border c.args.self.now.graph.now c.args.e c.requires.edge c.loop-c.c-index b at.within at.is);
      at = ap (λ p. p.1) c.at_border-ends.ensures
          ∙ begins-border c.args.self.now.graph.now c.args.e c.requires.edge c.loop-c.c-index b at.within at.is;
    }

pub returns : goal.returns
returns c =
    let all : length c.deref-c-items.result.now ≡ crossed c.args.self.now.graph.now c.args.e =
    ap length (c.deref-c-items.ensures.value ∙ c.in_ok-crossings.ensures) in
    let last : c.loop-c.c-index ≡ crossed c.args.self.now.graph.now c.args.e = omega (arith, all) in
    c.in_ok-push-2.ensures.ok
    ∙ rows-more c.args.self.now.graph.now c.args.e c.requires.edge c.requires.no_loop c.loop-c.c-index c.len-2.result
    c.loop-c.at c.node.result c.loop-c.rows (omega (arith, last)) c.loop-c.invariant.rows
    c.len-2.ensures c.loop-c.invariant.at
    (c.node.ensures
    ∙ ap (λ (v : ℕ). vertex_name c.args.self.now.graph.now (Node v)) (ap (λ p. p.1) c.ends-source.ensures.ends)
    ∙ ends-target c.args.self.now.graph.now c.args.e c.requires.edge
    ∙ ap (λ (k : ℕ). vertex_name c.args.self.now.graph.now
    (dart_vertex c.args.self.now.graph.now (2 * (first_segment c.args.self.now.graph.now c.args.e + k) + 1))) (sym
    last))
    ∙ ap (λ (k : ℕ). first_rows c.args.self.now.graph.now c.args.e
    ++ map (skeleton_edge c.args.self.now.graph.now)
    (range_with_len (first_segment c.args.self.now.graph.now c.args.e) (k + 1))) last
    ∙ rows-next c.args.self.now.graph.now c.args.e c.requires.edge c.requires.no_loop
