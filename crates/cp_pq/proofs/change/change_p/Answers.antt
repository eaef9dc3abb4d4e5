use Rattle.std.proofs.Common.{◌≡◌, ℕ, ◌<◌, ◌≤◌, Bool, false, List, [], ◌∷◌, ◌++◌, filter, length, length-append, ap, ◌∙◌, subst, arith}
use Rattle.cp_pq.specs.declared.node.Node.{Node}
use Rattle.cp_pq.specs.declared.node.Node.TheVariants.{P}
use Rattle.cp_pq.specs.declared.found.Found.{Found}
use Rattle.cp_pq.specs.Words.{Opposite, has_all, is_met}
use Rattle.cp_pq.specs.Founds.{Sorts}
use Rattle.cp_pq.specs.Roots.{IsChange}
use Rattle.cp_pq.proofs.Results.{IfOk-map}
use Rattle.cp_pq.proofs.RootLaws.{refused_P}
use Rattle.cp_pq.proofs.change.change_p.Goals as goal

three : (mixed left more : List Found) (f g : Found) (n : ℕ) → mixed ≡ left ++ f ∷ [] → left ≡ more ++ g ∷ []
    → n ≡ length more → 0 < n → 3 ≤ length mixed
three mixed left more f g n e h l lt = let a = length-append left (f ∷ []) in let b = ap length e in let d = length-append more (g ∷ []) in let k = ap length h in omega arith

two_items : (mixed left more : List Found) (f g : Found) (n : ℕ) → mixed ≡ left ++ f ∷ [] → left ≡ more ++ g ∷ []
    → n ≡ length more → n ≤ 0 → mixed ≡ g ∷ f ∷ []
two_items mixed left [] f g n e h l le = e ∙ ap (λ z. z ++ f ∷ []) h
two_items mixed left (x ∷ more) f g n e h l le = absurd (omega arith)

pub returns-in_default-pop : goal.returns-in_default-pop
returns-in_default-pop c =
    IfOk-map _ (λ r. (q p : ℕ → Bool) (ks : List Node) → Opposite q p → Sorts q p ks c.args.kinds.outs c.args.kinds.ins c.args.kinds.mixed → has_all p (P c.args.owner ks) ≡ false → 2 ≤ length (filter (is_met q) ks) → IsChange q p c.args.vars (P c.args.owner ks) r)
    (λ r g q p ks opp s part two. g q p ks opp s.clear s.outs_are two
    (c.in_ok-row.ensures q p c.args.vars ks c.args.kinds.outs opp
    (subst (Sorts q p ks c.args.kinds.outs c.args.kinds.ins) (c.in-Some.ensures ∙ ap (λ z. z ++ c.in-Some.last ∷ []) c.in_default-pop.ensures.0) s) two))
    c.change_core.result c.change_core.ensures

pub returns-then-len-gt0 : goal.returns-then-len-gt0
returns-then-len-gt0 c = λ q p ks opp s part two.
    refused_P q p opp c.args.vars c.args.owner ks s.clear two c.args.kinds.outs c.args.kinds.ins c.args.kinds.mixed s
    (three _ _ _ _ _ _ c.in-Some.ensures c.in-Some-pop.ensures c.len.ensures c.if-len-gt0.true)

pub returns : goal.returns
returns c =
    IfOk-map _ (λ r. (q p : ℕ → Bool) (ks : List Node) → Opposite q p → Sorts q p ks c.args.kinds.outs c.args.kinds.ins c.args.kinds.mixed → has_all p (P c.args.owner ks) ≡ false → 2 ≤ length (filter (is_met q) ks) → IsChange q p c.args.vars (P c.args.owner ks) r)
    (λ r g q p ks opp s part two. g q p ks opp s.clear s.outs_are two
    (c.in_ok-long_row.ensures q p c.args.vars ks c.args.kinds.outs opp
    (subst (Sorts q p ks c.args.kinds.outs c.args.kinds.ins) (two_items _ _ _ _ _ _ c.in-Some.ensures c.in-Some-pop.ensures c.len.ensures c.if-len-gt0.false) s) two))
    _ c.change_core-2.ensures
