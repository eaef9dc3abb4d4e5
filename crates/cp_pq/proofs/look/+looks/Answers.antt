use Rattle.std.proofs.Common.{◌≡◌, ◌+◌, [], ◌∷◌, ◌++◌, take, refl, sym, ap, ◌∙◌, subst}
use Rattle.std.proofs.lemmas.List.{take_more}
use Rattle.cp_pq.specs.declared.frame.Label.{Label}
use Rattle.cp_pq.specs.Marks.{IsLooked}
use Rattle.cp_pq.proofs.MarkLaws.{looked_none, looked_more}
use Rattle.cp_pq.proofs.look.+looks.Goals as goal

pub look-returns-in-Leaf : goal.look-returns-in-Leaf
look-returns-in-Leaf t c =
    subst (λ n. IsLooked c.args.set.now (n ∷ []) c.args.marks c.args.marks c.leaf_mark.result) (sym c.in-Leaf.is)
    (c.leaf_mark.ensures c.args.marks)

pub look-returns-in_ok-closed-in-P : goal.look-returns-in_ok-closed-in-P
look-returns-in_ok-closed-in-P t c =
    subst (λ n. IsLooked c.args.set.now (n ∷ []) c.args.marks c.in_ok-closed-in-P.field-0 c.in_ok-mark-in-P.mark) (sym c.in-P.is)
    (c.in_ok-closed-in-P.ensures c.args.set.now (Label.P c.in-P.owner) c.in-P.kids c.args.marks c.len-start.ensures
    (subst (λ z. IsLooked c.args.set.now z c.args.marks c.in_ok-mark-in-P.seen c.in_ok-mark-in-P.mark) c.items.ensures
    c.in_ok-mark-in-P.ensures))

pub look-returns-in_ok-closed-in-Q : goal.look-returns-in_ok-closed-in-Q
look-returns-in_ok-closed-in-Q t c =
    subst (λ n. IsLooked c.args.set.now (n ∷ []) c.args.marks c.in_ok-closed-in-Q.field-0 c.in_ok-row_mark-in-Q.row_mark) (sym c.in-Q.is)
    (c.in_ok-closed-in-Q.ensures c.args.set.now (Label.Q c.in-Q.var) c.in-Q.row c.args.marks c.len-start.ensures
    (subst (λ z. IsLooked c.args.set.now z c.args.marks c.in_ok-row_mark-in-Q.row_seen c.in_ok-row_mark-in-Q.row_mark) c.items-in-Q.ensures
    c.in_ok-row_mark-in-Q.ensures))

pub look_row-loop-kid-init : goal.look_row-loop-kid-init
look_row-loop-kid-init t c = looked_none c.args.set.now c.args.marks _ refl

pub look_row-loop-kid-preserved : goal.look_row-loop-kid-preserved
look_row-loop-kid-preserved t c =
    let ks = c.args.kids.now in let i = c.loop-kid.kid-index in let k = c.kid-item.result in
    let more : take (i + 1) ks ≡ take i ks ++ k ∷ [] = take_more ks i k c.loop-kid-test.true ∙ ap (λ z. take i ks ++ z ∷ []) (sym c.kid-item.is) in
    subst (λ z. IsLooked c.args.set.now z c.args.marks c.in_ok-mark.more c.with-sum.result) (sym more)
    (looked_more c.args.set.now (take i ks) k c.args.marks c.loop-kid.seen c.in_ok-mark.more c.loop-kid.sum c.in_ok-mark.mark
    c.with-sum.result c.loop-kid.invariant c.in_ok-mark.ensures c.with-sum.ensures.outs c.with-sum.ensures.ins c.with-sum.ensures.count)
