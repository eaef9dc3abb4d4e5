use Rattle.cp_trace.proofs.StepLines.{no_step_args, no_step_key, step_found}
use Rattle.cp_trace.proofs.read_steps.step_of.Goals as goal

pub returns-in_default : goal.returns-in_default
returns-in_default c = no_step_key c.args.line.now c.new-words.result c.new-words.ensures c.in_default.ensures

pub returns-in-Some-2 : goal.returns-in-Some-2
returns-in-Some-2 c =
    let told = rw c.in-Some-2.is at c.in_ok-step.ensures in (
      told.0,
      step_found c.args.line.now c.new-words.result c.new-words.ensures c.in-Some.key c.take_key.new.words
          c.in-Some-2.step
          c.in-Some.ensures told.0 told.1 told.2,
    )

pub returns-in-None : goal.returns-in-None
returns-in-None c =
    no_step_args c.args.line.now c.new-words.result c.new-words.ensures c.in-Some.key c.take_key.new.words
    c.in-Some.ensures (rw c.in-None.is at c.in_ok-step.ensures)
