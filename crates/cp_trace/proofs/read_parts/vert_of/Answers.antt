use Rattle.cp_trace.proofs.PartWords.{no_vert_kind, no_vert_name, vert_found}
use Rattle.cp_trace.proofs.read_parts.vert_of.Goals as goal

pub returns-in_default : goal.returns-in_default
returns-in_default c = no_vert_name c.args.line.now c.new-words.result c.new-words.ensures c.in_default.ensures

pub returns-in-Some-2 : goal.returns-in-Some-2
returns-in-Some-2 c =
    let told = rw c.in-Some-2.is at c.in_ok-kind.ensures in
    vert_found c.args.line.now c.new-words.result c.new-words.ensures c.in-Some.name c.take_keyed.new.words
    c.in-Some-2.kind c.in-Some.ensures.0 c.in-Some.ensures.1 told.0 told.1

pub returns-in-None : goal.returns-in-None
returns-in-None c =
    no_vert_kind c.args.line.now c.new-words.result c.new-words.ensures c.in-Some.name c.take_keyed.new.words
    c.in-Some.ensures.1 (rw c.in-None.is at c.in_ok-kind.ensures)
