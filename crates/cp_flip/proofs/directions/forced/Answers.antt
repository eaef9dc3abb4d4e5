-- Pairs that have the row in the direction of the bit are those of the forced tree.
use Rattle.std.proofs.lemmas.Result.{err_from_is_err_and}
use Rattle.cp_flip.proofs.DirectedTrees.{never_in_row, pairless-none}
use Rattle.cp_flip.proofs.directions.forced.Goals as goal

pub returns-in_err-has_pair-in-Ok-clause-refused : goal.returns-in_err-has_pair-in-Ok-clause-refused
returns-in_err-has_pair-in-Ok-clause-refused g c =
    let p = err_from_is_err_and c.from_residual.result c.from_residual.ensures.1 in
    rw (p.1, p.2) (λ fault. pairless-none c.args.row.now c.args.var (g.T.OrderTree.tree c.args.tree)
    (g.T.OrderTree.tree c.in-Ok.new) c.in-Ok.ensures.forced (c.in_err-has_pair-in-Ok.ensures.none fault))

pub returns-in-Err-NotOrderable-clause-refused : goal.returns-in-Err-NotOrderable-clause-refused
returns-in-Err-NotOrderable-clause-refused g c = λ same order bits p h.
    never_in_row c.args.row.now (g.T.OrderTree.tree c.args.tree) (c.in-Err-NotOrderable.ensures.refused c.in-Err-NotOrderable.field-0-is) order bits
    c.args.var p h
