use Rattle.std.proofs.Common.{◌≡◌, ℕ, ◌-◌, ◌∙◌, subst, arith}
use Rattle.cp_ears.proofs.Samples.{AreSteps, cycle_within, cycle_no_loop, cycle_length}
use Rattle.cp_ears.proofs.tests.goes_round.Goals as goal

pub has_order-requires-clause-ends_within : goal.has_order-requires-clause-ends_within
has_order-requires-clause-ends_within c =
    let all : c.loop-vertex.vertex ≡ c.args.vertices - 1 =
    omega (arith, c.loop-vertex-test.false, c.loop-vertex.auto.vertex-end) in
    let steps : AreSteps (c.args.vertices - 1) c.loop-vertex.ends.items =
    subst (λ (k : ℕ). AreSteps k c.loop-vertex.ends.items) all c.loop-vertex.invariant in
    cycle_within c.args.vertices c.loop-vertex.ends.items c.as_slice.result.now c.requires steps
    (c.as_slice.ensures.value ∙ c.in_ok-push-3.ensures.items)

pub has_order-requires-clause-no_loop : goal.has_order-requires-clause-no_loop
has_order-requires-clause-no_loop c =
    let all : c.loop-vertex.vertex ≡ c.args.vertices - 1 =
    omega (arith, c.loop-vertex-test.false, c.loop-vertex.auto.vertex-end) in
    let steps : AreSteps (c.args.vertices - 1) c.loop-vertex.ends.items =
    subst (λ (k : ℕ). AreSteps k c.loop-vertex.ends.items) all c.loop-vertex.invariant in
    cycle_no_loop c.args.vertices c.loop-vertex.ends.items c.as_slice.result.now c.requires steps
    (c.as_slice.ensures.value ∙ c.in_ok-push-3.ensures.items)

pub has_order-requires-clause-edge_within : goal.has_order-requires-clause-edge_within
has_order-requires-clause-edge_within c =
    let all : c.loop-vertex.vertex ≡ c.args.vertices - 1 =
    omega (arith, c.loop-vertex-test.false, c.loop-vertex.auto.vertex-end) in
    let steps : AreSteps (c.args.vertices - 1) c.loop-vertex.ends.items =
    subst (λ (k : ℕ). AreSteps k c.loop-vertex.ends.items) all c.loop-vertex.invariant in
    omega (
      arith,
      cycle_length c.args.vertices c.loop-vertex.ends.items c.as_slice.result.now c.requires steps
          (c.as_slice.ensures.value ∙ c.in_ok-push-3.ensures.items),
      c.requires,
    )
