use Rattle.std.proofs.Common.{◌≡◌, ◌++◌, ◌∷◌, [], arith, sym, ap, subst, ◌∙◌}
use Rattle.std.specs.Prelude.{OnOk, map}
use Rattle.std.specs.List.{join_with_byte}
use Rattle.cp_trace.specs.Texts.{body_text}
use Rattle.cp_trace.proofs.BodyLemmas.{body_text-Leaf, body_text-P, body_text-Q, inner_written, kids_more, not_first}
use Rattle.cp_trace.proofs.write.+bodies.Goals as goal

pub push_body-returns-in-Leaf : goal.push_body-returns-in-Leaf
push_body-returns-in-Leaf t c =
    subst (λ xs. OnOk c.push_number.result (c.push_number.new.text.items ≡ c.args.text.now.items ++ xs))
    (sym (ap body_text c.in-Leaf.is ∙ body_text-Leaf c.in-Leaf.edge)) c.push_number.ensures

pub push_body-returns-in_ok-push-in-P : goal.push_body-returns-in_ok-push-in-P
push_body-returns-in_ok-push-in-P t c =
    subst (λ xs. OnOk c.push_kids.result (c.push_kids.new.text.items ≡ xs))
    (inner_written 80 c.args.text.now.items c.push.new.self.items
    (join_with_byte 32 (map body_text c.items.result.now)) c.in_ok-push-in-P.ensures.items
    ∙ ap (λ ks. c.args.text.now.items ++ (80 ∷ 91 ∷ join_with_byte 32 (map body_text ks) ++ 93 ∷ [])) c.items.ensures
    ∙ ap (λ xs. c.args.text.now.items ++ xs) (sym (ap body_text c.in-P.is ∙ body_text-P c.in-P.kids)))
    c.push_kids.ensures

pub push_body-returns-in_ok-push-in-Q : goal.push_body-returns-in_ok-push-in-Q
push_body-returns-in_ok-push-in-Q t c =
    subst (λ xs. OnOk c.push_kids-in-Q.result (c.push_kids-in-Q.new.text.items ≡ xs))
    (inner_written 81 c.args.text.now.items c.push-in-Q.new.self.items
    (join_with_byte 32 (map body_text c.items-in-Q.result.now)) c.in_ok-push-in-Q.ensures.items
    ∙ ap (λ ks. c.args.text.now.items ++
    (81 ∷ 91 ∷ join_with_byte 32 (map body_text ks) ++ 93 ∷ [])) c.items-in-Q.ensures
    ∙ ap (λ xs. c.args.text.now.items ++ xs) (sym (ap body_text c.in-Q.is ∙ body_text-Q c.in-Q.kids)))
    c.push_kids-in-Q.ensures

pub push_kids-loop-kid-preserved : goal.push_kids-loop-kid-preserved
push_kids-loop-kid-preserved t c = record {
  flag = not_first c.loop-kid.kid-index;
  written = kids_more c.args.kids.now c.loop-kid.kid-index c.kid-item.result c.loop-kid.is_first c.args.text.now.items
      c.loop-kid.text.items c.push_gap.new.text.items c.push_body.new.text.items
      (omega (arith, c.loop-kid-test.true)) c.kid-item.is c.loop-kid.invariant.flag c.loop-kid.invariant.written
      c.in_ok-push_gap.ensures c.in_ok-push_body.ensures;
}
