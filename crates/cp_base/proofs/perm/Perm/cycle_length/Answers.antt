-- elsewhere the walk has made fewer steps than there are numbers
use Rattle.std.proofs.Common.{◌≡◌, ◌<◌, ◌+◌, ℕ, List, length, slice_index, sym, ap, ◌∙◌, subst, rules, arith, add-one}
use Rattle.cp_base.specs.Permutations.{IsPerm}
use Rattle.cp_orbits.proofs.CycleLengths.{WalksCycle, WalksCycle-more, WalksCycle-lt, WalksCycle-below}
use Rattle.cp_base.proofs.perm.Perm.cycle_length.Goals as goal

-- one step more
step : (to : List ℕ) → IsPerm to → (i k at : ℕ) → i < length to → WalksCycle (slice_index to) i k at → (at ≡ i → ⊥)
    → WalksCycle (slice_index to) i (k + 1) (slice_index to at)
step to perm i k at lt walk elsewhere = subst (λ j. WalksCycle (slice_index to) i j (slice_index to at)) (sym (add-one k)) (WalksCycle-more (slice_index to) i k at walk elsewhere)

-- so many steps fit, since there are as many numbers
fewer : (to : List ℕ) → IsPerm to → (i k at : ℕ) → i < length to → WalksCycle (slice_index to) i k at → (at ≡ i → ⊥)
    → k < length to
fewer to perm i k at lt walk elsewhere = WalksCycle-lt (length to) (slice_index to) perm i k at lt walk elsewhere

pub overflow_add-length : goal.overflow_add-length
overflow_add-length c =
    let perm : IsPerm c.args.self.now = subst IsPerm c.self.view_is c.self.invariant in
    let less = fewer c.args.self.now perm c.args.i c.loop-at.length c.loop-at.at c.requires c.loop-at.invariant.walk c.loop-at-test.true in
    let same : length c.args.self.now ≡ length c.as_slice-to.result.now = ap length (sym (c.as_slice-to.ensures.value ∙ c.self.view_is)) in
    let size : length c.as_slice-to.result.now ≡ c.self.inside.to.len = c.as_slice-to.ensures.len in
    let fits : c.loop-at.length + 1 < 9223372036854775808 = omega (arith, c.self.inside.to.ok, c.self.inside.to.small) in
    search rules

pub loop-at-smaller : goal.loop-at-smaller
loop-at-smaller c =
    let perm : IsPerm c.args.self.now = subst IsPerm c.self.view_is c.self.invariant in
    let less = fewer c.args.self.now perm c.args.i c.loop-at.length c.loop-at.at c.requires c.loop-at.invariant.walk c.loop-at-test.true in
    omega arith

pub loop-at-preserved : goal.loop-at-preserved
loop-at-preserved c =
    let perm : IsPerm c.args.self.now = subst IsPerm c.self.view_is c.self.invariant in
    let same : c.as_slice-to.result.now ≡ c.args.self.now = c.as_slice-to.ensures.value ∙ c.self.view_is in
    let on : WalksCycle (slice_index c.args.self.now) c.args.i (c.loop-at.length + 1) (slice_index c.as_slice-to.result.now c.loop-at.at) =
    subst (λ xs. WalksCycle (slice_index c.args.self.now) c.args.i (c.loop-at.length + 1) (slice_index xs c.loop-at.at)) (sym same)
    (step c.args.self.now perm c.args.i c.loop-at.length c.loop-at.at c.requires c.loop-at.invariant.walk c.loop-at-test.true)
    in
    record {
      walk = on;
      below = subst (λ xs. slice_index c.as_slice-to.result.now c.loop-at.at < length xs) (sym same)
          (WalksCycle-below (length c.args.self.now) (slice_index c.args.self.now) perm c.args.i (c.loop-at.length + 1) (slice_index c.as_slice-to.result.now c.loop-at.at) c.requires on);
    }
