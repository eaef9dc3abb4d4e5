use Rattle.std.proofs.lemmas.Bool.Decides.{same_from_decides}
use Rattle.cp_gml.specs.Equal.{entry_eq}
use Rattle.cp_gml.proofs.Alike.{entry_eq-Decides}
use Rattle.cp_gml.proofs.equal.EntryPartialEq.eq.Goals as goal

pub returns-clause-value : goal.returns-clause-value
returns-clause-value c =
    let a = c.args.self.now in
    let b = c.args.other.now in
    same_from_decides c.are_equal_entries.result (entry_eq a b) c.are_equal_entries.ensures (entry_eq-Decides a b)
