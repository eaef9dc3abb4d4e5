use Rattle.cp_trace.proofs.PairWords.{no_slash, no_first, no_second}
use Rattle.cp_trace.proofs.read_words.pair_of.Goals as goal

pub returns-in_err-first : goal.returns-in_err-first
returns-in_err-first c = rw c.from_residual.ensures (no_slash c.args.word.now c.in_err-first.ensures)

pub returns-in_err-number_of : goal.returns-in_err-number_of
returns-in_err-number_of c = rw c.from_residual-in_err-number_of.ensures
    (no_first c.args.word.now c.in_ok-first.first.now c.in_ok-first.second.now c.in_ok-first.ensures.0
    c.in_ok-first.ensures.1 c.in_err-number_of.ensures)

pub returns-in_err-number_of-2 : goal.returns-in_err-number_of-2
returns-in_err-number_of-2 c = rw c.from_residual-in_err-number_of-2.ensures
    (no_second c.args.word.now c.in_ok-first.first.now c.in_ok-first.second.now c.in_ok-first.ensures.0
    c.in_ok-first.ensures.1 c.in_err-number_of-2.ensures)
