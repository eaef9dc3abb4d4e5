-- A step reads one edge, and no step is left at the end.
use Rattle.std.proofs.Common.{suc, sym, ◌∙◌, arith}
use Rattle.std.proofs.lemmas.List.{append-nil}
use Rattle.cp_plant.proofs.reading.read_pile.Goals as goal

pub loop-step-preserved : goal.loop-step-preserved
loop-step-preserved c =
    λ m e. c.in_ok-read_top.ensures m ∙ c.loop-step.invariant (suc m) (omega (arith, e))

pub returns : goal.returns
returns c = sym (append-nil c.loop-step.word.items)
    ∙ c.loop-step.invariant 0 (omega (arith, c.loop-step-test.false, c.loop-step.auto._step-end))
