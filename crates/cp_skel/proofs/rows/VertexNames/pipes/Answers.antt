use Rattle.std.proofs.Common.{◌≡◌, ℕ, ◌<◌, [], false, length, ap, sym, ◌∙◌, arith}
use Rattle.std.specs.Prelude.{slice_index_or}
use Rattle.std.specs.List.{filter}
use Rattle.std.proofs.lemmas.List.{get_or_default, length-set}
use Rattle.cp_cgraph.specs.Clustered.{clusters}
use Rattle.cp_skel.specs.Skeletons.{below, is_left}
use Rattle.cp_skel.specs.SkeletonTables.{pipes_of}
use Rattle.cp_skel.proofs.BorderPairs.{ArePaired-all}
use Rattle.cp_skel.proofs.PipeRows.{pairs-rest, pipes-left_row, pipes-not_left}
use Rattle.cp_skel.proofs.ToldLists.{left_clusters-at, length-left_clusters}
use Rattle.cp_skel.proofs.rows.VertexNames.pipes.Goals.{then-left-c+in_ok-push, else-left-c}
use Rattle.cp_skel.proofs.rows.VertexNames.pipes.Goals as goal

pub loop-c-init : goal.loop-c-init
loop-c-init c = record {
  pipes = c.new-pipes.ensures;
  size = c.requires.pairs.size;
  rest = λ d le lt. ArePaired-all c.args.self.now.graph.now c.args.pairs.now c.requires.pairs d lt;
}

pub bounds-left-c : goal.bounds-left-c
bounds-left-c c =
    omega (
      arith,
      ap length c.requires.left,
      length-left_clusters c.args.self.now.graph.now,
      c.clusters-c-end.ensures.value,
    )

pub child-requires-clause-left : goal.child-requires-clause-left
child-requires-clause-left c =
    sym (left_clusters-at c.args.self.now.graph.now c.args.left.now c.loop-c.c false c.requires.left
    (omega (arith, c.clusters-c-end.ensures.value))) ∙ c.if-left-c.true

pub outside-requires-clause-left : goal.outside-requires-clause-left
outside-requires-clause-left c =
    sym (left_clusters-at c.args.self.now.graph.now c.args.left.now c.loop-c.c false c.requires.left
    (omega (arith, c.clusters-c-end.ensures.value))) ∙ c.if-left-c.true

pub loop-c-preserved : goal.loop-c-preserved
loop-c-preserved c =
    let cluster : c.loop-c.c < clusters c.args.self.now.graph.now = omega (arith, c.clusters-c-end.ensures.value) in
    let told : slice_index_or c.args.left.now c.loop-c.c false ≡ is_left c.args.self.now.graph.now c.loop-c.c =
    left_clusters-at c.args.self.now.graph.now c.args.left.now c.loop-c.c false c.requires.left cluster in
    elim c.if-left-c.branch [
      | then-left-c+in_ok-push w ↦ record {
        pipes = w.pipes-is ∙ w.in_ok-push.ensures.ok
            ∙ pipes-left_row c.args.self.now.graph.now c.loop-c.c c.loop-c.pipes w.len.result w.child.result
            w.outside.result w.replace-own.result (sym told ∙ w.if-left-c.true) c.loop-c.invariant.pipes w.len.ensures
            w.child.ensures w.outside.ensures
            (w.replace-own.ensures.value
            ∙ get_or_default c.loop-c.pairs c.loop-c.c w.index-pairs-c.result []
            (omega (arith, cluster, c.loop-c.invariant.size))
            ∙ c.loop-c.invariant.rest c.loop-c.c (omega arith) cluster);
        size = ap length w.pairs-is ∙ length-set c.loop-c.pairs c.loop-c.c w.replace-own.new.dest
            ∙ c.loop-c.invariant.size;
        rest = λ d le lt.
            ap (λ ps. slice_index_or ps d []) w.pairs-is
            ∙ pairs-rest c.args.self.now.graph.now c.loop-c.c (clusters c.args.self.now.graph.now) c.loop-c.pairs
            w.replace-own.new.dest c.loop-c.invariant.rest d le lt;
      }
      | else-left-c w ↦ record {
        pipes = w.pipes-is
            ∙ pipes-not_left c.args.self.now.graph.now c.loop-c.c c.loop-c.pipes (sym told ∙ w.if-left-c.false)
            c.loop-c.invariant.pipes;
        size = ap length w.pairs-is ∙ c.loop-c.invariant.size;
        rest = λ d le lt. ap (λ ps. slice_index_or ps d []) w.pairs-is
            ∙ c.loop-c.invariant.rest d (omega (arith, le)) lt;
      }
    ]

pub returns : goal.returns
returns c =
    let last : c.loop-c.c ≡ clusters c.args.self.now.graph.now = omega (arith, c.clusters-c-end.ensures.value) in
    c.loop-c.invariant.pipes
    ∙ ap (λ (n : ℕ). pipes_of c.args.self.now.graph.now (filter (is_left c.args.self.now.graph.now) (below n))) last
