use Rattle.std.proofs.Common.{◌∷◌, ◌++◌, [], sym, ap, ◌∙◌, subst}
use Rattle.cp_pq.specs.Frames.{node_of}
use Rattle.cp_pq.specs.Marks.{IsLooked}
use Rattle.cp_pq.proofs.MarkLaws.{looked_whole, looked_parted, looked_first}
use Rattle.cp_pq.proofs.look.closed.Goals as goal

pub returns-then-is_whole : goal.returns-then-is_whole
returns-then-is_whole c = λ set label ks old e l.
    subst (λ z. IsLooked set (node_of label ks ∷ []) old z c.args.mark)
    (sym (c.in_ok-push.ensures.ok ∙ ap (λ z. z ++ c.args.mark ∷ [])
    (c.shortened-first.ensures ∙ looked_first set label ks old c.args.marks c.args.mark l c.args.start e)))
    (looked_whole set label ks old c.args.marks c.args.mark l (c.is_whole.ensures.whole c.if-is_whole.true))

pub returns : goal.returns
returns c = λ set label ks old e l.
    subst (λ z. IsLooked set (node_of label ks ∷ []) old z c.args.mark) (sym c.in_ok-push-2.ensures.ok)
    (looked_parted set label ks old c.args.marks c.args.mark l (c.is_whole.ensures.parted c.if-is_whole.false))
