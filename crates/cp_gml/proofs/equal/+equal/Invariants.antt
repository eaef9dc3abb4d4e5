use Rattle.std.proofs.Common.{◌≡◌, take}
use Rattle.cp_gml.proofs.equal.+equal.Given as goal

abbrev pub invariant-are_equal_lists-entries : goal.invariant-are_equal_lists-entries
invariant-are_equal_lists-entries l = take l.i l.entries ≡ take l.i l.others
