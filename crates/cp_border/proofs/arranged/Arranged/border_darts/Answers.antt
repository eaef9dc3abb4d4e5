use Rattle.std.proofs.Common.{ℕ, List, length, sym, ap, ◌∙◌, arith}
use Rattle.cp_cgraph.specs.Crossings.{contains}
use Rattle.cp_border.specs.Borders.{cluster_list, place_before}
use Rattle.cp_border.proofs.BorderLists.{list_at-inside, list_at-outside}
use Rattle.cp_border.proofs.Cyclic.{place_before-lt}
use Rattle.cp_border.proofs.ListLaws.{border_dart-lt}
use Rattle.cp_border.proofs.arranged.Arranged.border_darts.Goals as goal

pub returns-then-contains : goal.returns-then-contains
returns-then-contains c =
    list_at-inside c.args.self.now.graph.now c.args.self.now.layout.now c.args.self.now.clustered
    c.args.self.now.arranged c.args.c c.args.k c.args.start c.segment_before-segment.result c.border_item-e.result
    c.place_ahead-ahead.result c.requires.inner c.requires.cluster c.requires.place c.requires.start
    c.border_item-e.ensures.value c.segment_before-segment.ensures.value
    (c.place_ahead-ahead.ensures ∙ ap (λ (xs : List ℕ). place_before (length xs) c.args.k) c.border_items-count.ensures)
    (ap (λ (p : ℕ × ℕ). contains c.args.self.now.graph.now c.args.c p.0) (sym c.ends-source.ensures.ends)
    ∙ sym c.contains.ensures ∙ c.if-contains.true)

pub returns-else-contains : goal.returns-else-contains
returns-else-contains c =
    list_at-outside c.args.self.now.graph.now c.args.self.now.layout.now c.args.self.now.clustered
    c.args.self.now.arranged c.args.c c.args.k c.args.start c.segment_before-segment.result c.border_item-e.result
    c.place_ahead-ahead.result c.requires.inner c.requires.cluster c.requires.place c.requires.start
    c.border_item-e.ensures.value c.segment_before-segment.ensures.value
    (c.place_ahead-ahead.ensures ∙ ap (λ (xs : List ℕ). place_before (length xs) c.args.k) c.border_items-count.ensures)
    (ap (λ (p : ℕ × ℕ). contains c.args.self.now.graph.now c.args.c p.0) (sym c.ends-source.ensures.ends)
    ∙ sym c.contains.ensures ∙ c.if-contains.false)

pub overflow_add-begins : goal.overflow_add-begins
overflow_add-begins c =
    let few = border_dart-lt c.args.self.now.graph.now c.args.self.now.layout.now c.args.self.now.clustered
    c.args.self.now.arranged c.args.c c.args.k c.requires.inner c.requires.cluster c.requires.place
    c.args.self.now.few_edges in
    omega (arith, few, c.requires.start)

pub overflow_add-finishes : goal.overflow_add-finishes
overflow_add-finishes c =
    let ahead = place_before-lt (length (cluster_list c.args.self.now.layout.now c.args.c)) c.args.k c.requires.place in
    let few = border_dart-lt c.args.self.now.graph.now c.args.self.now.layout.now c.args.self.now.clustered
    c.args.self.now.arranged c.args.c (place_before (length (cluster_list c.args.self.now.layout.now c.args.c))
    c.args.k) c.requires.inner c.requires.cluster ahead c.args.self.now.few_edges in
    omega (
      arith,
      few,
      c.requires.start,
      c.place_ahead-ahead.ensures
          ∙ ap (λ (xs : List ℕ). place_before (length xs) c.args.k) c.border_items-count.ensures,
    )

pub overflow_add-finishes-2 : goal.overflow_add-finishes-2
overflow_add-finishes-2 c =
    let ahead = place_before-lt (length (cluster_list c.args.self.now.layout.now c.args.c)) c.args.k c.requires.place in
    let few = border_dart-lt c.args.self.now.graph.now c.args.self.now.layout.now c.args.self.now.clustered
    c.args.self.now.arranged c.args.c (place_before (length (cluster_list c.args.self.now.layout.now c.args.c))
    c.args.k) c.requires.inner c.requires.cluster ahead c.args.self.now.few_edges in
    omega (
      arith,
      few,
      c.requires.start,
      c.place_ahead-ahead.ensures
          ∙ ap (λ (xs : List ℕ). place_before (length xs) c.args.k) c.border_items-count.ensures,
    )
