use Rattle.cp_trace.proofs.PartWords.{no_pipe_ends, no_pipe_pairs, pipe_found}
use Rattle.cp_trace.proofs.read_parts.pipe_of.Goals as goal

pub returns-in_default : goal.returns-in_default
returns-in_default c = no_pipe_ends c.args.line.now c.new-words.result c.new-words.ensures c.in_default.ensures

pub returns-in-Some-2 : goal.returns-in-Some-2
returns-in-Some-2 c =
    let told = rw c.in-Some-2.is at c.in_ok-pairs.ensures in
    pipe_found c.args.line.now c.new-words.result c.new-words.ensures c.in-Some.name c.in-Some.a c.in-Some.b
    c.pipe_head.new.words c.in-Some-2.pairs c.in-Some.ensures.0 c.in-Some.ensures.1 c.in-Some.ensures.2
    c.in-Some.ensures.3 told.0 told.1

pub returns-in-None : goal.returns-in-None
returns-in-None c =
    no_pipe_pairs c.args.line.now c.new-words.result c.new-words.ensures c.in-Some.name c.in-Some.a c.in-Some.b
    c.pipe_head.new.words c.in-Some.ensures.3 (rw c.in-None.is at c.in_ok-pairs.ensures)
