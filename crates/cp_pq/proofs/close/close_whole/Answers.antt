use Rattle.std.proofs.Common.{◌≡◌, ℕ, List, [], ◌∷◌, ◌++◌, length, reverse, refl, ap, ap₂, ◌∙◌, arith}
use Rattle.cp_pq.specs.Words.{group_of}
use Rattle.cp_pq.specs.declared.node.Node.{Node}
use Rattle.cp_pq.proofs.Closes.{close_out, close_in, close_two}
use Rattle.cp_pq.proofs.close.close_whole.Goals as goal

no_length : (ks : List Node) (n : ℕ) → n ≡ length ks → n ≡ 0 → ks ≡ []
no_length [] n e z = refl
no_length (k ∷ ks) n e z = absurd (omega arith)

some_length : (ks : List Node) (n : ℕ) → n ≡ length ks → (n ≡ 0 → ⊥) → ks ≡ [] → ⊥
some_length ks n e not_none z = not_none (e ∙ ap length z)

pub returns-then-len-eq0 : goal.returns-then-len-eq0
returns-then-len-eq0 c = λ q p ks opp s two. close_out q p c.args.owner ks c.args.outs c.args.ins [] s two refl (no_length c.args.ins _ c.len.ensures c.if-len-eq0.true)

pub returns-then-len-eq0-2 : goal.returns-then-len-eq0-2
returns-then-len-eq0-2 c = λ q p ks opp s two. close_in q p c.args.owner ks c.args.outs c.args.ins [] s two refl (no_length c.args.outs _ c.len-2.ensures c.if-len-eq0-2.true)

pub returns : goal.returns
returns c = λ q p ks opp s two.
    let line : reverse c.in_ok-front.front ++ c.in_ok-front.back ≡ group_of c.args.owner c.args.outs ++ ([] ++ group_of c.args.owner c.args.ins) =
    c.in_ok-front.ensures ∙ ap₂ (λ a b. group_of c.args.owner c.args.outs ++ ((reverse a ++ b) ++ group_of c.args.owner c.args.ins)) c.new.ensures c.new-2.ensures in
    close_two q p c.args.owner ks c.args.outs c.args.ins [] s opp refl
    (some_length c.args.ins _ c.len.ensures c.if-len-eq0.false) (some_length c.args.outs _ c.len-2.ensures c.if-len-eq0-2.false)
    c.in_ok-front.front c.in_ok-front.back c.new-ties.result c.new-ties.ensures line
