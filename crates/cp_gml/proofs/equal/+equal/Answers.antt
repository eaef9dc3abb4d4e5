use Rattle.std.proofs.Common.{refl}
use Rattle.cp_gml.proofs.Alike.{same_lists}
use Rattle.cp_gml.proofs.equal.+equal.Goals as goal

pub are_equal_lists-returns : goal.are_equal_lists-returns
are_equal_lists-returns t c =
    let es = c.items-entries.result.now in
    let fs = c.items-others.result.now in
    let same = same_lists c.args.list.now c.args.other.now es fs c.entries.i c.items-entries.ensures
    c.items-others.ensures c.if-list-other.false c.if-entries-others.false c.entries-test.false
    c.entries.invariant in
    (λ _. same, λ _. refl)
