-- One place more is passed, or the number takes turns there.
use Rattle.std.proofs.Common.{◌+◌, ◌<◌, ℕ, length, slice_index, sym, refl, subst, inl, inr, arith}
use Rattle.cp_flip.proofs.TakingTurns.{IsPassed, IsPassed-met, IsPassed-other, IsPassed-turns}
use Rattle.cp_flip.proofs.turns.takes_turns_from.Goals as goal
use Rattle.cp_flip.proofs.turns.takes_turns_from.Goals.{then-numbers-k+else-far-k, else-numbers-k+then-lasts-k, else-numbers-k+else-lasts-k}

pub returns-then-far-k-clause-yes : goal.returns-then-far-k-clause-yes
returns-then-far-k-clause-yes c = λ t.
    let xs = c.args.numbers.now in
    let lt : c.loop-k.k < length xs = omega (arith, c.loop-k-test.true) in
    IsPassed-turns xs c.args.lasts.now c.args.place c.requires.lasts c.loop-k.k c.loop-k.far c.loop-k.invariant lt
    (sym c.if-numbers-k.true) c.if-far-k.true

pub loop-k-preserved : goal.loop-k-preserved
loop-k-preserved c =
    let xs = c.args.numbers.now in
    let lasts = c.args.lasts.now in
    let k : ℕ = c.loop-k.k in
    let lt : k < length xs = omega (arith, c.loop-k-test.true) in
    let lo : c.args.place < k = omega (arith, c.loop-k.auto.k) in
    elim c.if-numbers-k.branch [
      | then-numbers-k+else-far-k w ↦
          subst (IsPassed xs lasts c.args.place (k + 1)) (sym w.far-is)
          (IsPassed-met xs lasts c.args.place c.requires.lasts k c.loop-k.far c.loop-k.invariant lt
          (sym w.if-numbers-k.true) w.if-far-k.false)
      | else-numbers-k+then-lasts-k w ↦
          subst (IsPassed xs lasts c.args.place (k + 1)) (sym w.far-is)
          (IsPassed-other xs lasts c.args.place c.requires.lasts k c.loop-k.far c.loop-k.invariant lt
          (slice_index lasts k)
          (λ e. w.if-numbers-k.false (sym e)) (omega arith) (omega (arith, w.if-lasts-k.true)) (inr refl) lo)
      | else-numbers-k+else-lasts-k w ↦
          subst (IsPassed xs lasts c.args.place (k + 1)) (sym w.far-is)
          (IsPassed-other xs lasts c.args.place c.requires.lasts k c.loop-k.far c.loop-k.invariant lt c.loop-k.far
          (λ e. w.if-numbers-k.false (sym e)) w.if-lasts-k.false (omega arith) (inl refl) lo)
    ]
