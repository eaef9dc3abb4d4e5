use Rattle.std.proofs.lemmas.Bool.Decides.{same_from_decides}
use Rattle.cp_gml.specs.Equal.{list_eq}
use Rattle.cp_gml.proofs.Alike.{list_eq-Decides}
use Rattle.cp_gml.proofs.equal.GmlListPartialEq.eq.Goals as goal

pub returns-clause-value : goal.returns-clause-value
returns-clause-value c =
    let a = c.args.self.now in
    let b = c.args.other.now in
    same_from_decides c.are_equal_lists.result (list_eq a b) c.are_equal_lists.ensures (list_eq-Decides a b)
