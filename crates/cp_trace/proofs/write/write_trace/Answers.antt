use Rattle.std.proofs.Common.{codes, map, ◌∷◌, []}
use Rattle.cp_trace.specs.Texts.{instance_lines, step_line, end_line}
use Rattle.cp_trace.specs.Traces.{reason_of}
use Rattle.cp_trace.proofs.RunText.{run_text}
use Rattle.cp_trace.proofs.write.write_trace.Goals as goal

pub returns : goal.returns
returns c = record {
  trace = record {
    first = c.in_ok-push_instance.ensures.rules;
    steps = c.requires.steps_fit;
    last = c.in_ok-push_instance-2.ensures.rules;
    reason = c.requires.reason_fits;
  };
  spelled = run_text (codes "cplan-trace 1") (instance_lines c.args.first.now) (map step_line c.args.steps.now)
      (instance_lines c.args.last.now) (end_line (reason_of c.args.outcome.now) ∷ codes "end" ∷ [])
      _ _ _ _ _ _ c.new-text.ensures.items c.in_ok-push_line.ensures
      c.in_ok-push_instance.ensures.text c.in_ok-push_steps.ensures
      c.in_ok-push_instance-2.ensures.text c.in_ok-push_end.ensures;
}
