use Rattle.std.proofs.Common.{◌<◌, [], length, sym, ap, subst, ◌∙◌, slice_index_or, arith}
use Rattle.std.specs.List.Sorted.{IsStrictlyIncreasing}
use Rattle.std.proofs.lemmas.List.{get_or_default}
use Rattle.cp_board.specs.declared.parts.Pipe.{Pipe}
use Rattle.cp_board.specs.Instances.{names_of_verts}
use Rattle.cp_sync.specs.Places.{IsLowerPlace}
use Rattle.cp_sync.specs.Checks.{ArePairs, HasRightPartners, pipe_row}
use Rattle.cp_sync.proofs.Passes.{AllBelow-more}
use Rattle.cp_sync.proofs.PipeTables.{live_vertex_place}
use Rattle.cp_sync.proofs.RuleTables.{right_partners}
use Rattle.cp_sync.proofs.pairs.first_wrong_pairs.Goals as goal

pub bounds-at-a : goal.bounds-at-a
bounds-at-a c =
    let live = c.requires.live c.loop-k.k c.index-pipes-k.result c.loop-k-test.true in
    let here = live_vertex_place c.args.verts.now _ c.lower_place-a.result c.requires.rising live.0 c.lower_place-a.ensures in
    omega (arith, here.0, c.requires.one_each)

pub bounds-at-b : goal.bounds-at-b
bounds-at-b c =
    let live = c.requires.live c.loop-k.k c.index-pipes-k-in-loop-k.result c.loop-k-test.true in
    let here = live_vertex_place c.args.verts.now _ c.lower_place-b.result c.requires.rising live.1 c.lower_place-b.ensures in
    omega (arith, here.0, c.requires.one_each)

pub are_pairs-requires : goal.are_pairs-requires
are_pairs-requires c =
    let live = c.requires.live c.loop-k.k c.index-pipes-k-in-loop-k.result c.loop-k-test.true in
    let here = live_vertex_place c.args.verts.now _ c.lower_place-b.result c.requires.rising live.1 c.lower_place-b.ensures in
    let within : c.lower_place-b.result < length c.args.at.now = omega (arith, here.0, c.requires.one_each) in
    subst IsStrictlyIncreasing
    (sym (c.items-in-loop-k.ensures ∙ c.index-at-b.is ∙ get_or_default c.args.at.now c.lower_place-b.result c.index-at-b.result [] within))
    (c.requires.lists_rise c.lower_place-b.result within)

pub returns-then-not-branch : goal.returns-then-not-branch
returns-then-not-branch c =
    let verts = c.args.verts.now in
    let at = c.args.at.now in
    let pipes = c.args.pipes.now in
    let k = c.loop-k.k in
    let live = c.requires.live k record { name = 0; a = 0; b = 0; pairs = [] } c.loop-k-test.true in
    let same_a = get_or_default pipes k c.index-pipes-k.result record { name = 0; a = 0; b = 0; pairs = [] } c.loop-k-test.true in
    let same_b = get_or_default pipes k c.index-pipes-k-in-loop-k.result record { name = 0; a = 0; b = 0; pairs = [] } c.loop-k-test.true in
    let same_pairs = get_or_default pipes k c.index-pipes-k-in-loop-k-2.result record { name = 0; a = 0; b = 0; pairs = [] } c.loop-k-test.true in
    let here_a = live_vertex_place verts (pipe_row pipes k).a c.lower_place-a.result c.requires.rising live.0
    (subst (λ (p : Pipe). IsLowerPlace (names_of_verts verts) p.a c.lower_place-a.result) same_a c.lower_place-a.ensures) in
    let here_b = live_vertex_place verts (pipe_row pipes k).b c.lower_place-b.result c.requires.rising live.1
    (subst (λ (p : Pipe). IsLowerPlace (names_of_verts verts) p.b c.lower_place-b.result) same_b c.lower_place-b.ensures) in
    let first = c.items.ensures ∙ c.index-at-a.is ∙ get_or_default at c.lower_place-a.result c.index-at-a.result [] (omega (arith, here_a.0, c.requires.one_each)) in
    let second = c.items-in-loop-k.ensures ∙ c.index-at-b.is ∙ get_or_default at c.lower_place-b.result c.index-at-b.result [] (omega (arith, here_b.0, c.requires.one_each)) in
    let pairs = c.items-in-loop-k-2.ensures ∙ ap (λ (p : Pipe). p.pairs) (same_pairs) in
    record {
      within = c.loop-k-test.true;
      fails = λ right. c.in_ok-are_pairs.ensures.no c.if-not-branch.true
          (subst (λ xs. ArePairs xs c.items-in-loop-k.result.now c.items-in-loop-k-2.result.now) (sym first)
          (subst (λ ys. ArePairs (slice_index_or at c.lower_place-a.result []) ys c.items-in-loop-k-2.result.now) (sym second)
          (subst (ArePairs (slice_index_or at c.lower_place-a.result []) (slice_index_or at c.lower_place-b.result [])) (sym pairs)
          (right c.lower_place-a.result c.lower_place-b.result here_a.0 here_b.0 here_a.1 here_b.1))));
      before = c.loop-k.invariant;
    }

pub loop-k-preserved : goal.loop-k-preserved
loop-k-preserved c =
    let verts = c.args.verts.now in
    let at = c.args.at.now in
    let pipes = c.args.pipes.now in
    let k = c.loop-k.k in
    let live = c.requires.live k record { name = 0; a = 0; b = 0; pairs = [] } c.loop-k-test.true in
    let same_a = get_or_default pipes k c.index-pipes-k.result record { name = 0; a = 0; b = 0; pairs = [] } c.loop-k-test.true in
    let same_b = get_or_default pipes k c.index-pipes-k-in-loop-k.result record { name = 0; a = 0; b = 0; pairs = [] } c.loop-k-test.true in
    let same_pairs = get_or_default pipes k c.index-pipes-k-in-loop-k-2.result record { name = 0; a = 0; b = 0; pairs = [] } c.loop-k-test.true in
    let here_a = live_vertex_place verts (pipe_row pipes k).a c.lower_place-a.result c.requires.rising live.0
    (subst (λ (p : Pipe). IsLowerPlace (names_of_verts verts) p.a c.lower_place-a.result) same_a c.lower_place-a.ensures) in
    let here_b = live_vertex_place verts (pipe_row pipes k).b c.lower_place-b.result c.requires.rising live.1
    (subst (λ (p : Pipe). IsLowerPlace (names_of_verts verts) p.b c.lower_place-b.result) same_b c.lower_place-b.ensures) in
    let first = c.items.ensures ∙ c.index-at-a.is ∙ get_or_default at c.lower_place-a.result c.index-at-a.result [] (omega (arith, here_a.0, c.requires.one_each)) in
    let second = c.items-in-loop-k.ensures ∙ c.index-at-b.is ∙ get_or_default at c.lower_place-b.result c.index-at-b.result [] (omega (arith, here_b.0, c.requires.one_each)) in
    let pairs = c.items-in-loop-k-2.ensures ∙ ap (λ (p : Pipe). p.pairs) (same_pairs) in
    AllBelow-more (HasRightPartners verts at pipes) k c.loop-k.invariant
    (right_partners verts at pipes k c.lower_place-a.result c.lower_place-b.result c.requires.rising here_a.0 here_b.0 here_a.1 here_b.1
    (subst (λ xs. ArePairs xs (slice_index_or at c.lower_place-b.result []) (pipe_row pipes k).pairs) first
    (subst (λ ys. ArePairs c.items.result.now ys (pipe_row pipes k).pairs) second
    (subst (ArePairs c.items.result.now c.items-in-loop-k.result.now) pairs
    (c.in_ok-are_pairs.ensures.yes c.if-not-branch.false)))))

pub returns : goal.returns
returns c = λ k lt. c.loop-k.invariant k (omega (arith, lt, c.loop-k-test.false))
