use Rattle.cp_trace.proofs.CutLemmas.{line_behind}
use Rattle.cp_trace.proofs.word.after_line.Goals as goal

pub returns : goal.returns
returns c = line_behind c.args.bytes.now c.args.line.now _ _ c.in_ok-after_front.ensures c.after_front-2.ensures
