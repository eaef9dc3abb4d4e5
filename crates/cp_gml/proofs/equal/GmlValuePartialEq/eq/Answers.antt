use Rattle.std.proofs.lemmas.Bool.Decides.{same_from_decides}
use Rattle.cp_gml.specs.Equal.{value_eq}
use Rattle.cp_gml.proofs.Alike.{value_eq-Decides}
use Rattle.cp_gml.proofs.equal.GmlValuePartialEq.eq.Goals as goal

pub returns-clause-value : goal.returns-clause-value
returns-clause-value c =
    let a = c.args.self.now in
    let b = c.args.other.now in
    same_from_decides c.are_equal_values.result (value_eq a b) c.are_equal_values.ensures (value_eq-Decides a b)
