use Rattle.std.proofs.Common.{◌∷◌, codes}
use Rattle.std.specs.Fmt.{decimal}
use Rattle.cp_trace.specs.Reading.{label_word}
use Rattle.cp_trace.proofs.PartWords.{behind_two}
use Rattle.cp_trace.proofs.read_parts.pipe_head.Goals as goal

pub returns-in_err-a : goal.returns-in_err-a
returns-in_err-a c = rw c.from_residual-in_err-a.ensures
    (λ name a b later small_name small_a small_b h. c.in_err-a.ensures a (label_word b ∷ later) small_a
    (behind_two (codes "pipe") (decimal c.in_ok-name.name) (codes "pipe") (decimal name) c.args.words.now
    c.take_keyed.new.words (decimal a ∷ label_word b ∷ later) c.in_ok-name.ensures.1 h))
