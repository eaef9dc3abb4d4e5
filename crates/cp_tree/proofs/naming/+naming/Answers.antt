-- Each variant has its names.
use Rattle.std.proofs.Common.{map, slice_index, sym, ap, ◌∙◌}
use Rattle.cp_base.specs.declared.shape.Branch.TheVariants as branch
use Rattle.cp_tree.specs.Naming.{renamed}
use Rattle.cp_tree.proofs.RenamedShapes.{renamed_Leaf, renamed_P, renamed_Q}
use Rattle.cp_tree.proofs.naming.+naming.Goals as goal

pub named_branch-returns-in-Leaf : goal.named_branch-returns-in-Leaf
named_branch-returns-in-Leaf t c =
    let f = slice_index c.args.names.now in
    ap branch.Leaf c.name_of.ensures ∙ sym (ap (renamed f) c.in-Leaf.is ∙ renamed_Leaf f c.in-Leaf.x)

pub named_branch-returns-in_ok-branches-in-P : goal.named_branch-returns-in_ok-branches-in-P
named_branch-returns-in_ok-branches-in-P t c =
    let f = slice_index c.args.names.now in
    ap branch.P (c.in_ok-branches-in-P.ensures ∙ ap (map (renamed f)) c.items.ensures)
    ∙ sym (ap (renamed f) c.in-P.is ∙ renamed_P f c.in-P.kids)

pub named_branch-returns-in_ok-row-in-Q : goal.named_branch-returns-in_ok-row-in-Q
named_branch-returns-in_ok-row-in-Q t c =
    let f = slice_index c.args.names.now in
    ap branch.Q (c.in_ok-row-in-Q.ensures ∙ ap (map (renamed f)) c.items-in-Q.ensures)
    ∙ sym (ap (renamed f) c.in-Q.is ∙ renamed_Q f c.in-Q.kids)
