-- What the board tells and the order of the inner vertices make a solution before the step.
use Rattle.std.proofs.Common.{◌≢◌, ℕ, ◌<◌, List, length, map, ap, ◌∙◌, subst, sym}
use Rattle.std.specs.List.{All, Contains}
use Rattle.std.specs.List.Sorted.{IsStrictlyIncreasing}
use Rattle.cp_rotlaw.specs.SideOrders.{IsSideOrder}
use Rattle.cp_board.specs.Instances.{graph, vert_names}
use Rattle.cp_board.specs.Solutions.{IsSolution, list_in}
use Rattle.cp_join.specs.InnerSystems.{HasInnerLists, first_back, first_marks, inner_system, second_back, with_orders}
use Rattle.cp_join.proofs.JoinedPipes.{live_a, live_b, live_pipe, told_ends}
use Rattle.cp_join.proofs.SolutionsBack.{parts_bound, told-HasInnerLists, told-IsSolution, told-low, told-names}
use Rattle.cp_join.proofs.turning_back.join_back.Goals as goal

pub pipe_ends-ends-requires : goal.pipe_ends-ends-requires
pipe_ends-ends-requires g c =
    live_pipe (g.B.Board.instance c.args.before.now) c.args.pipe c.requires.allowed.0 c.requires.allowed.1

pub pairs-pairs-requires : goal.pairs-pairs-requires
pairs-pairs-requires g c =
    live_pipe (g.B.Board.instance c.args.before.now) c.args.pipe c.requires.allowed.0 c.requires.allowed.1

pub parts_among-requires : goal.parts_among-requires
parts_among-requires g c =
    let i = g.B.Board.instance c.args.before.now in
    let p = c.requires.allowed.0 in
    let rules = c.pipe_ends-ends.ensures.rules in
    subst (λ (x : ℕ × ℕ). Contains (vert_names i) x.0)
    (sym (c.pipe_ends-ends.ensures.value ∙ told_ends i c.args.pipe p rules c.requires.allowed.1))
    (live_a i c.args.pipe p rules c.requires.allowed.1)

pub parts_among-requires-2 : goal.parts_among-requires-2
parts_among-requires-2 g c =
    let i = g.B.Board.instance c.args.before.now in
    let p = c.requires.allowed.0 in
    let rules = c.pipe_ends-ends.ensures.rules in
    subst (λ (x : ℕ × ℕ). Contains (vert_names i) x.1)
    (sym (c.pipe_ends-ends.ensures.value ∙ told_ends i c.args.pipe p rules c.requires.allowed.1))
    (live_b i c.args.pipe p rules c.requires.allowed.1)

pub partings-requires-clause-few_first : goal.partings-requires-clause-few_first
partings-requires-clause-few_first g c =
    parts_bound (graph (g.B.Board.instance c.args.before.now)) c.pipe_ends-ends.result.0 c.in_ok-first.first
    c.pipe_ends-ends.ensures.rules.edges_named.rise c.in_ok-first.ensures.parts c.in_ok-first.ensures.few_edges

pub partings-requires-clause-few_second : goal.partings-requires-clause-few_second
partings-requires-clause-few_second g c =
    parts_bound (graph (g.B.Board.instance c.args.before.now)) c.pipe_ends-ends.result.1 c.in_ok-second.second
    c.pipe_ends-ends.ensures.rules.edges_named.rise c.in_ok-second.ensures.parts c.in_ok-second.ensures.few_edges

pub common_order-requires : goal.common_order-requires
common_order-requires g c =
    let i = g.B.Board.instance c.args.before.now in
    subst (λ hs. HasInnerLists c.pairs-pairs.result.now hs c.in_ok-both.both.0 c.in_ok-both.both.1 c.args.after)
    (sym c.as_slice.ensures.value)
    (told-HasInnerLists i c.args.pipe c.pipe_ends-ends.ensures.rules c.requires.allowed c.requires.solved.0
    c.requires.solved.1 c.in_ok-first.ensures.few_verts c.in_ok-first.ensures.few_edges c.pipe_ends-ends.result
    c.pairs-pairs.result.now c.pipe_ends-ends.ensures.value c.pairs-pairs.ensures c.in_ok-first.first
    c.in_ok-second.second c.in_ok-both.both.0 c.in_ok-both.both.1 c.in_ok-hats.hats.items c.in_ok-first.ensures.parts
    c.in_ok-second.ensures.parts c.in_ok-both.ensures c.in_ok-hats.ensures c.args.after c.requires.solved.2)

pub first_order-requires : goal.first_order-requires
first_order-requires g c =
    let i = g.B.Board.instance c.args.before.now in
    subst (All (λ k. k < length c.pairs-pairs.result.now)) (sym c.items.ensures)
    (told-low i c.args.pipe c.pipe_ends-ends.ensures.rules c.requires.allowed c.requires.solved.0
    c.requires.solved.1 c.in_ok-first.ensures.few_verts c.in_ok-first.ensures.few_edges c.pipe_ends-ends.result
    c.pairs-pairs.result.now c.pipe_ends-ends.ensures.value c.pairs-pairs.ensures c.in_ok-first.first
    c.in_ok-second.second c.in_ok-both.both.0 c.in_ok-both.both.1 c.in_ok-hats.hats.items c.in_ok-first.ensures.parts
    c.in_ok-second.ensures.parts c.in_ok-both.ensures c.in_ok-hats.ensures c.args.after c.requires.solved.2
    c.in_ok-order.order
    (subst (λ hs. IsSideOrder (inner_system c.pairs-pairs.result.now hs c.in_ok-both.both.0 c.in_ok-both.both.1
    (list_in c.args.after)) (first_marks c.in_ok-both.both.0 c.in_ok-both.both.1) c.in_ok-order.order)
    c.as_slice.ensures.value c.in_ok-order.ensures))

pub second_order-requires : goal.second_order-requires
second_order-requires g c =
    let i = g.B.Board.instance c.args.before.now in
    subst (All (λ k. k < length c.pairs-pairs.result.now)) (sym c.items-2.ensures)
    (told-low i c.args.pipe c.pipe_ends-ends.ensures.rules c.requires.allowed c.requires.solved.0
    c.requires.solved.1 c.in_ok-first.ensures.few_verts c.in_ok-first.ensures.few_edges c.pipe_ends-ends.result
    c.pairs-pairs.result.now c.pipe_ends-ends.ensures.value c.pairs-pairs.ensures c.in_ok-first.first
    c.in_ok-second.second c.in_ok-both.both.0 c.in_ok-both.both.1 c.in_ok-hats.hats.items c.in_ok-first.ensures.parts
    c.in_ok-second.ensures.parts c.in_ok-both.ensures c.in_ok-hats.ensures c.args.after c.requires.solved.2
    c.in_ok-order.order
    (subst (λ hs. IsSideOrder (inner_system c.pairs-pairs.result.now hs c.in_ok-both.both.0 c.in_ok-both.both.1
    (list_in c.args.after)) (first_marks c.in_ok-both.both.0 c.in_ok-both.both.1) c.in_ok-order.order)
    c.as_slice.ensures.value c.in_ok-order.ensures))

pub earlier_solution-requires-clause-rising : goal.earlier_solution-requires-clause-rising
earlier_solution-requires-clause-rising g c =
    subst IsStrictlyIncreasing (sym (c.as_slice-2.ensures.value ∙ c.in_ok-verts.ensures.names))
    c.pipe_ends-ends.ensures.rules.verts_named.rise

pub earlier_solution-requires-clause-names : goal.earlier_solution-requires-clause-names
earlier_solution-requires-clause-names g c =
    let i = g.B.Board.instance c.args.before.now in
    let ends = c.pipe_ends-ends.result in
    subst (All (λ v. v ≢ ends.0 → v ≢ ends.1 → Contains (map (λ row. row.0) c.args.after) v))
    (sym (c.as_slice-2.ensures.value ∙ c.in_ok-verts.ensures.names))
    (told-names i c.args.pipe c.pipe_ends-ends.ensures.rules c.requires.allowed c.requires.solved.0
    c.requires.solved.1 c.in_ok-first.ensures.few_verts c.in_ok-first.ensures.few_edges c.pipe_ends-ends.result
    c.pairs-pairs.result.now c.pipe_ends-ends.ensures.value c.pairs-pairs.ensures c.in_ok-first.first
    c.in_ok-second.second c.in_ok-both.both.0 c.in_ok-both.both.1 c.in_ok-hats.hats.items c.in_ok-first.ensures.parts
    c.in_ok-second.ensures.parts c.in_ok-both.ensures c.in_ok-hats.ensures c.args.after c.requires.solved.2)

pub returns : goal.returns
returns g c =
    let i = g.B.Board.instance c.args.before.now in
    let ends = c.pipe_ends-ends.result in
    let pairs = c.pairs-pairs.result.now in
    let rows : List ℕ → List ℕ → List ℕ → List (ℕ × List ℕ) = λ vs first second.
    map (λ v. (v, with_orders ends.0 ends.1 first second (list_in c.args.after) v)) vs in
    subst (IsSolution i)
    (sym (c.in_ok-solution.ensures
    ∙ ap (λ vs. rows vs c.as_slice-3.result.now c.as_slice-4.result.now)
    (c.as_slice-2.ensures.value ∙ c.in_ok-verts.ensures.names)
    ∙ ap (λ us. rows (vert_names i) us c.as_slice-4.result.now)
    (c.as_slice-3.ensures.value ∙ c.in_ok-one.ensures ∙ ap (first_back pairs) c.items.ensures)
    ∙ ap (rows (vert_names i) (first_back pairs c.in_ok-order.order))
    (c.as_slice-4.ensures.value ∙ c.in_ok-two.ensures ∙ ap (second_back pairs) c.items-2.ensures)))
    (told-IsSolution i c.args.pipe c.pipe_ends-ends.ensures.rules c.requires.allowed c.requires.solved.0
    c.requires.solved.1 c.in_ok-first.ensures.few_verts c.in_ok-first.ensures.few_edges c.pipe_ends-ends.result
    c.pairs-pairs.result.now c.pipe_ends-ends.ensures.value c.pairs-pairs.ensures c.in_ok-first.first
    c.in_ok-second.second c.in_ok-both.both.0 c.in_ok-both.both.1 c.in_ok-hats.hats.items c.in_ok-first.ensures.parts
    c.in_ok-second.ensures.parts c.in_ok-both.ensures c.in_ok-hats.ensures c.args.after c.requires.solved.2
    c.in_ok-order.order
    (subst (λ hs. IsSideOrder (inner_system c.pairs-pairs.result.now hs c.in_ok-both.both.0 c.in_ok-both.both.1
    (list_in c.args.after)) (first_marks c.in_ok-both.both.0 c.in_ok-both.both.1) c.in_ok-order.order)
    c.as_slice.ensures.value c.in_ok-order.ensures))
