use Rattle.std.proofs.Common.{◌∷◌}
use Rattle.std.specs.Fmt.{decimal}
use Rattle.cp_trace.proofs.PartWords.{behind_pair}
use Rattle.cp_trace.proofs.read_steps.three_numbers.Goals as goal

pub returns-in_err-third : goal.returns-in_err-third
returns-in_err-third c = rw c.from_residual-in_err-third.ensures (λ x y z later small_x small_y small_z h.
    c.in_err-third.ensures z later small_z
    (behind_pair (decimal c.in_ok-first.first) (decimal c.in_ok-second.second) (decimal x) (decimal y) c.args.words.now
    c.take_number.new.words c.take_number-2.new.words (decimal z ∷ later) c.in_ok-first.ensures.1
    c.in_ok-second.ensures.1 h))
