use Rattle.std.specs.Fmt.{decimal}
use Rattle.cp_trace.proofs.StepLines.{no_shape_left, no_tree, nothing_left}
use Rattle.cp_trace.proofs.read_steps.tree_step.Goals as goal

pub returns-in_default-left : goal.returns-in_default-left
returns-in_default-left c =
    no_tree c.args.words.now c.three_numbers.new.words (decimal c.in-Some.pipe) (decimal c.in-Some.end)
    (decimal c.in-Some.root) c.in-Some.ensures.3 (nothing_left c.three_numbers.new.words c.in_default-left.ensures)

pub returns-in-None : goal.returns-in-None
returns-in-None c =
    no_tree c.args.words.now c.three_numbers.new.words (decimal c.in-Some.pipe) (decimal c.in-Some.end)
    (decimal c.in-Some.root) c.in-Some.ensures.3
    (no_shape_left c.three_numbers.new.words c.in-Some-left.bytes.now c.in-Some-left.ensures
    (rw c.in-None.is at c.in_ok-shape.ensures))
