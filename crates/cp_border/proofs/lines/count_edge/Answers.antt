use Rattle.std.proofs.Common.{arith}
use Rattle.cp_lists.proofs.Counting.{count-le}
use Rattle.cp_cgraph.specs.Crossings.{leaves}
use Rattle.cp_border.proofs.Occurrences.{HasRisen-begin, HasRisen-left, HasRisen-entered, HasRisen-le, HasRisen-end}
use Rattle.cp_border.proofs.lines.count_edge.Goals as goal

pub loop-outer-init : goal.loop-outer-init
loop-outer-init c =
    HasRisen-begin c.args.g.now c.args.e c.home-outer.result c.home-inner.result c.args.counts.now
    c.is_clustered.ensures.clustered c.requires.edge (rw c.ends-source.ensures.ends at c.home-outer.ensures.value)
    (rw c.ends-source.ensures.ends at c.home-inner.ensures.value)

pub overflow_add-counts : goal.overflow_add-counts
overflow_add-counts c =
    let before = c.requires.counted c.loop-outer.outer c.loop-outer.invariant.between.outer_cluster in
    let few = HasRisen-le c.args.g.now c.is_clustered.ensures.clustered c.args.e c.loop-outer.outer c.loop-outer.inner
    c.loop-outer.outer c.args.counts.now c.loop-outer.counts c.requires.edge c.loop-outer.invariant
    (omega (arith, before, count-le c.args.e (leaves c.args.g.now c.loop-outer.outer))) in
    omega (
      arith,
      few,
      c.is_clustered.ensures.few_edges,
      c.is_clustered.ensures.few_clusters,
      c.requires.edge,
    )

pub loop-outer-preserved-then-outer-inner : goal.loop-outer-preserved-then-outer-inner
loop-outer-preserved-then-outer-inner c =
    rw c.parent-outer.ensures.value (HasRisen-left c.args.g.now c.is_clustered.ensures.clustered c.args.e
    c.loop-outer.outer c.loop-outer.inner c.args.counts.now c.loop-outer.counts c.loop-outer.invariant
    c.if-outer-inner.true c.requires.room)

pub overflow_add-counts-else-outer-inner : goal.overflow_add-counts-else-outer-inner
overflow_add-counts-else-outer-inner c =
    let before = c.requires.counted c.loop-outer.inner c.loop-outer.invariant.between.inner_cluster in
    let few = HasRisen-le c.args.g.now c.is_clustered.ensures.clustered c.args.e c.loop-outer.outer c.loop-outer.inner
    c.loop-outer.inner c.args.counts.now c.loop-outer.counts c.requires.edge c.loop-outer.invariant
    (omega (arith, before, count-le c.args.e (leaves c.args.g.now c.loop-outer.inner))) in
    omega (
      arith,
      few,
      c.is_clustered.ensures.few_edges,
      c.is_clustered.ensures.few_clusters,
      c.requires.edge,
    )

pub loop-outer-preserved : goal.loop-outer-preserved
loop-outer-preserved c =
    rw c.parent-inner.ensures.value (HasRisen-entered c.args.g.now c.is_clustered.ensures.clustered c.args.e
    c.loop-outer.outer c.loop-outer.inner c.args.counts.now c.loop-outer.counts c.loop-outer.invariant (omega arith)
    c.requires.room)

pub returns : goal.returns
returns c = λ k within. HasRisen-end c.args.g.now c.is_clustered.ensures.clustered c.args.e c.loop-outer.outer
    c.loop-outer.inner c.args.counts.now c.loop-outer.counts c.requires.edge c.loop-outer.invariant
    c.loop-outer-test.false k within (c.requires.counted k within)
