use Rattle.cp_trace.proofs.PartWords.{edge_by_line}
use Rattle.cp_trace.proofs.read_parts.edge_of.Goals as goal

pub returns : goal.returns
returns c = edge_by_line c.args.line.now c.new-words.result c.edge_by_words.result c.new-words.ensures
    c.edge_by_words.ensures
