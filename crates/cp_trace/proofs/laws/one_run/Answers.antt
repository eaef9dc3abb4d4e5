use Rattle.std.proofs.Common.{sym, ◌∙◌}
use Rattle.cp_trace.proofs.TraceLaws.{same_fault, same_run, some_reading}
use Rattle.cp_trace.proofs.laws.one_run.Goals as goal

pub returns : goal.returns
returns c = record {
  runs = same_run;
  texts = λ a b t one two. one.spelled ∙ sym two.spelled;
  apart = λ bytes t line is f. f.no_trace t is;
  faults = same_fault;
  some = some_reading;
}
