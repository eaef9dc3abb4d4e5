use Rattle.std.proofs.Common.{reverse, sym, ap, ◌∙◌, subst}
use Rattle.std.specs.List.{list_all}
use Rattle.std.proofs.lemmas.List.{reverse-reverse}
use Rattle.cp_pq.specs.declared.step.Top.{Top}
use Rattle.cp_pq.specs.Frames.{node_of}
use Rattle.cp_pq.specs.Founds.{is_in, flat_line}
use Rattle.cp_pq.specs.Steps.{IsTop}
use Rattle.cp_pq.proofs.GatherLaws.{top_whole, top_met}
use Rattle.cp_pq.proofs.step.top_of.Goals as goal

pub returns-then-are_in : goal.returns-then-are_in
returns-then-are_in c = λ q p ks opp z two.
    subst (λ n. IsTop q p (node_of c.args.label ks) (Top.Whole n)) (sym c.node.ensures)
    (top_whole q p c.args.label ks c.args.founds z c.in_ok-kids.kids
    (ap (list_all is_in) (sym c.items.ensures) ∙ sym c.are_in.ensures ∙ c.if-are_in.true)
    (c.in_ok-kids.ensures ∙ ap flat_line (ap reverse c.in_ok-back.ensures ∙ reverse-reverse c.args.founds)))

pub returns : goal.returns
returns c = λ q p ks opp z two.
    top_met q p c.args.label ks c.args.founds z (ap (list_all is_in) (sym c.items.ensures) ∙ sym c.are_in.ensures ∙ c.if-are_in.false) two
