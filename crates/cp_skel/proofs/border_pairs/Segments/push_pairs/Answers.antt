use Rattle.std.proofs.Common.{◌≡◌, ℕ, List, ap, subst, ◌∙◌, ◌++◌, ◌∷◌, [], take, length, sym, arith}
use Rattle.std.specs.Prelude.{slice_index, slice_index_or, slice_set}
use Rattle.std.proofs.Math.Seq.{take-length}
use Rattle.std.proofs.lemmas.List.{take_more}
use Rattle.cp_cgraph.specs.Clustered.{clusters}
use Rattle.cp_cgraph.specs.Crossings.{crossings, leaves}
use Rattle.cp_skel.specs.SkeletonTables.{ArePaired}
use Rattle.cp_skel.proofs.BorderPairs.{ArePaired-more, ArePaired-next, crossed-at}
use Rattle.cp_skel.proofs.border_pairs.Segments.push_pairs.Goals as goal

pub push_at-requires : goal.push_at-requires
push_at-requires c =
    let at = crossed-at (clusters c.args.self.now.graph.now) (λ b. leaves c.args.self.now.graph.now b c.args.e)
    (crossings c.args.self.now.graph.now c.args.e) c.deref-c-items.result.now c.loop-c.c-index
    c.crossings_are_left.ensures
    (c.deref-c-items.ensures.value ∙ c.in_ok-crossings.ensures) c.loop-c-test.true in
    omega (arith, at.0, c.loop-c.invariant.size)

pub loop-c-preserved : goal.loop-c-preserved
loop-c-preserved c =
    let at = crossed-at (clusters c.args.self.now.graph.now) (λ b. leaves c.args.self.now.graph.now b c.args.e)
    (crossings c.args.self.now.graph.now c.args.e) c.deref-c-items.result.now c.loop-c.c-index
    c.crossings_are_left.ensures
    (c.deref-c-items.ensures.value ∙ c.in_ok-crossings.ensures) c.loop-c-test.true in
    let b : ℕ = slice_index c.deref-c-items.result.now c.loop-c.c-index in
    subst (λ (cs : List ℕ). ArePaired c.args.self.now.graph.now c.args.e cs c.push_at.new.lists.items)
    (sym (take_more c.deref-c-items.result.now c.loop-c.c-index 0 c.loop-c-test.true))
    (ArePaired-more c.args.self.now.graph.now c.args.e (take c.loop-c.c-index c.deref-c-items.result.now) b
    c.loop-c.pairs.items c.push_at.new.lists.items c.loop-c.invariant at.0
    (c.in_ok-push_at.ensures
    ∙ ap (λ (p : ℕ × ℕ). slice_set c.loop-c.pairs.items b (slice_index_or c.loop-c.pairs.items b [] ++ p ∷ []))
    c.border_pair.ensures))

pub returns : goal.returns
returns c =
    let found : List ℕ = c.deref-c-items.result.now in
    let last : c.loop-c.c-index ≡ length c.deref-c-items.result.now = omega arith in
    ArePaired-next c.args.self.now.graph.now c.args.e c.loop-c.pairs.items c.crossings_are_left.ensures
    (subst (λ (cs : List ℕ). ArePaired c.args.self.now.graph.now c.args.e cs c.loop-c.pairs.items)
    (ap (λ (k : ℕ). take k c.deref-c-items.result.now) last ∙ take-length found
    ∙ c.deref-c-items.ensures.value ∙ c.in_ok-crossings.ensures)
    c.loop-c.invariant)
