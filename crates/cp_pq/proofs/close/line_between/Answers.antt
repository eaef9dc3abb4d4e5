use Rattle.std.proofs.Common.{◌++◌, reverse, sym, ap, ap₂, ◌∙◌, append_assoc}
use Rattle.std.proofs.lemmas.List.{reverse-append}
use Rattle.cp_pq.specs.Words.{group_of}
use Rattle.cp_pq.proofs.Groups.{group_back}
use Rattle.cp_pq.proofs.close.line_between.Goals as goal

pub returns : goal.returns
returns c =
    let g = group_of c.args.owner c.args.outs in
    let h = group_of c.args.owner c.args.ins in
    ap₂ (λ a b. reverse a ++ b) (c.in_ok-new_front.ensures ∙ ap (λ z. c.args.front ++ z) c.in_ok-before.ensures) (c.in_ok-new_back.ensures ∙ ap (λ z. c.args.back ++ z) c.in_ok-after.ensures)
    ∙ ap (λ z. z ++ (c.args.back ++ h)) (reverse-append c.args.front g ∙ ap (λ z. z ++ reverse c.args.front) (group_back c.args.owner c.args.outs))
    ∙ append_assoc g (reverse c.args.front) (c.args.back ++ h)
    ∙ ap (λ z. g ++ z) (sym (append_assoc (reverse c.args.front) c.args.back h))
