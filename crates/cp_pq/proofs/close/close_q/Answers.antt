use Rattle.std.proofs.Common.{◌≡◌, Bool, true, false, List, ◌++◌, reverse, sym, ap, ap₂, ◌∙◌, subst}
use Rattle.std.specs.List.{list_all, list_any}
use Rattle.std.proofs.lemmas.List.{reverse-reverse}
use Rattle.cp_pq.specs.declared.node.Node.TheVariants.{Q}
use Rattle.cp_pq.specs.declared.found.Found.{Found}
use Rattle.cp_pq.specs.Founds.{IsGiven, is_out, is_in, is_torn, found_sorted, flat_line, flat_ties}
use Rattle.cp_pq.proofs.ClosedQ.{row_out, row_in, row_forward, row_backward, row_torn}
use Rattle.cp_pq.proofs.Zips.{torn_back}
use Rattle.cp_pq.proofs.close.close_q.Goals as goal

-- a test that was read is the test of what was read
read : (f : List Found → Bool) (r b : Bool) (xs ys : List Found) → r ≡ f xs → xs ≡ ys → r ≡ b → f ys ≡ b
read f r b xs ys e same h = ap f (sym same) ∙ sym e ∙ h

twice : (fs back : List Found) → back ≡ reverse fs → reverse back ≡ fs
twice fs back e = ap reverse e ∙ reverse-reverse fs

torn_of : (fs back : List Found) → back ≡ reverse fs → list_any is_torn back ≡ list_any is_torn fs
torn_of fs back e = ap (list_any is_torn) e ∙ torn_back fs

pub returns-then-outs : goal.returns-then-outs
returns-then-outs c = λ q p ks opp z two. row_out q p c.args.var ks c.args.founds z two _
    (read (list_all is_out) _ true _ _ c.are_out-outs.ensures c.items.ensures c.if-outs.true)
    (c.in_ok-kids.ensures ∙ ap flat_line (twice c.args.founds c.in_ok-back.back c.in_ok-back.ensures))

pub returns-then-ins : goal.returns-then-ins
returns-then-ins c = λ q p ks opp z two. row_in q p c.args.var ks c.args.founds z two _
    (read (list_all is_in) _ true _ _ c.are_in-ins.ensures c.items-2.ensures c.if-ins.true)
    (c.in_ok-in_kids.ensures ∙ ap flat_line (twice c.args.founds c.in_ok-back.back c.in_ok-back.ensures))

pub returns-then-forward : goal.returns-then-forward
returns-then-forward c = λ q p ks opp z two.
    let fs = c.args.founds in
    let back = c.in_ok-back.back in
    let r = c.in_ok-poured.poured in
    subst (IsGiven q p (Q c.args.var ks)) (sym c.line_found.ensures)
    (row_forward q p c.args.var ks fs z two opp
    (read (list_all is_out) _ false _ _ c.are_out-outs.ensures c.items.ensures c.if-outs.false)
    (read (list_all is_in) _ false _ _ c.are_in-ins.ensures c.items-2.ensures c.if-ins.false)
    (read found_sorted _ true _ _ c.is_sorted-forward.ensures c.items-3.ensures c.if-forward.true)
    r.front r.back r.ties r.torn
    (c.in_ok-poured.ensures.line ∙ ap flat_line (twice fs back c.in_ok-back.ensures))
    (c.in_ok-poured.ensures.ties ∙ ap₂ (λ a b. flat_ties a ++ b) c.in_ok-back.ensures c.in_ok-ties.ensures)
    (c.in_ok-poured.ensures.torn ∙ torn_of fs back c.in_ok-back.ensures))

pub returns-then-is_sorted : goal.returns-then-is_sorted
returns-then-is_sorted c = λ q p ks opp z two.
    let fs = c.args.founds in
    let back = c.in_ok-back.back in
    let r = c.in_ok-back_poured.back_poured in
    subst (IsGiven q p (Q c.args.var ks)) (sym c.line_found-then-is_sorted.ensures)
    (row_backward q p c.args.var ks fs z two opp
    (read (list_all is_out) _ false _ _ c.are_out-outs.ensures c.items.ensures c.if-outs.false)
    (read (list_all is_in) _ false _ _ c.are_in-ins.ensures c.items-2.ensures c.if-ins.false)
    (read found_sorted _ false _ _ c.is_sorted-forward.ensures c.items-3.ensures c.if-forward.false)
    back c.in_ok-back.ensures
    (read found_sorted _ true _ _ c.is_sorted.ensures c.items-4.ensures c.if-is_sorted.true)
    r.front r.back r.ties r.torn
    (c.in_ok-back_poured.ensures.line ∙ ap flat_line (twice back c.in_ok-again.again c.in_ok-again.ensures))
    (c.in_ok-back_poured.ensures.ties ∙ ap₂ (λ a b. flat_ties a ++ b) c.in_ok-again.ensures c.in_ok-back_ties.ensures)
    (c.in_ok-back_poured.ensures.torn ∙ torn_of back c.in_ok-again.again c.in_ok-again.ensures))

pub returns : goal.returns
returns c = λ q p ks opp z two. row_torn q p c.args.var ks c.args.founds z two
    (read (list_all is_out) _ false _ _ c.are_out-outs.ensures c.items.ensures c.if-outs.false)
    (read (list_all is_in) _ false _ _ c.are_in-ins.ensures c.items-2.ensures c.if-ins.false)
    (read found_sorted _ false _ _ c.is_sorted-forward.ensures c.items-3.ensures c.if-forward.false)
    (read found_sorted _ false _ _ c.is_sorted.ensures (c.items-4.ensures ∙ c.in_ok-back.ensures) c.if-is_sorted.false)
