use Rattle.std.proofs.Common.{◌≡◌, ℕ, ◌+◌, [], ◌∷◌, ◌++◌, sym, ap, ◌∙◌, subst, arith}
use Rattle.cp_pq.specs.declared.node.Node.TheVariants.{Leaf, P}
use Rattle.cp_pq.specs.SmallTrees.{IsGrown}
use Rattle.cp_pq.proofs.DeepTrees.{grown_leaf, grown_more}
use Rattle.cp_pq.proofs.tests.deep_node.Goals as goal

pub loop-place-init : goal.loop-place-init
loop-place-init c = grown_leaf

pub loop-place-preserved : goal.loop-place-preserved
loop-place-preserved c =
    let n = c.loop-place.place in let k = c.loop-place.node in
    let e = c.in_ok-push-2.ensures.ok
    ∙ ap (λ z. z ++ k ∷ []) (c.in_ok-push.ensures.ok ∙ ap (λ z. z ++ Leaf (n + 1) ∷ []) c.new-pair.ensures) in
    subst (λ z. IsGrown (n + 1) (P 7 z)) (sym e) (grown_more 7 n k c.loop-place.invariant)

pub returns : goal.returns
returns c =
    let all : c.loop-place.place ≡ c.args.count =
    omega (arith, c.requires, c.loop-place-test.false, c.loop-place.auto.place-end) in
    subst (λ (n : ℕ). IsGrown n c.loop-place.node) all c.loop-place.invariant
