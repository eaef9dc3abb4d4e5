use Rattle.std.proofs.Common.{◌≡◌, ℕ, List, [], ◌∷◌, length, slice_index_or, refl, sym, ap, ap₂, ◌∙◌, subst₂, arith}
use Rattle.cp_pq.specs.declared.node.Node.TheVariants.{Leaf, P}
use Rattle.cp_base.specs.declared.equation.Equation.{Equation}
use Rattle.cp_pq.specs.Trees.{make_tree, IsWellFormed}
use Rattle.cp_pq.specs.Promises.{star_body}
use Rattle.cp_pq.proofs.Stars.{star_formed, star_is, body_one, body_many}
use Rattle.cp_pq.proofs.star_tree.star.Goals as goal

one_item : (xs : List ℕ) → length xs ≡ 1 → xs ≡ slice_index_or xs 0 0 ∷ []
one_item [] e = absurd (omega (arith, e))
one_item (x ∷ []) e = refl
one_item (x ∷ y ∷ xs) e = absurd (omega (arith, e))

leaf_body : (owner : ℕ) (xs : List ℕ) → length xs ≡ 1 → star_body owner xs ≡ Leaf (slice_index_or xs 0 0)
leaf_body owner xs e = body_one owner xs (slice_index_or xs 0 0) (one_item xs e)

pub from_parts-requires : goal.from_parts-requires
from_parts-requires c =
    subst₂ (λ b (es : List Equation). IsWellFormed (make_tree c.args.root b c.args.vars es)) (leaf_body c.args.owner c.args.leaves.now c.if-leaves-eq1.true) (sym c.new-equations.ensures)
    (star_formed c.args.root c.args.owner c.args.vars c.args.leaves.now c.requires.not_empty c.requires.distinct)

pub returns-then-leaves-eq1 : goal.returns-then-leaves-eq1
returns-then-leaves-eq1 c =
    star_is c.args.root c.args.owner c.args.vars c.args.leaves.now _
    (c.from_parts.ensures ∙ ap₂ (λ b (es : List Equation). make_tree c.args.root b c.args.vars es) (sym (leaf_body c.args.owner c.args.leaves.now c.if-leaves-eq1.true)) c.new-equations.ensures)

pub from_parts-requires-2 : goal.from_parts-requires-2
from_parts-requires-2 c =
    subst₂ (λ b (es : List Equation). IsWellFormed (make_tree c.args.root b c.args.vars es)) (body_many c.args.owner c.args.leaves.now c.if-leaves-eq1.false ∙ ap (P c.args.owner) (sym c.in_ok-kids.ensures)) (sym c.new-equations.ensures)
    (star_formed c.args.root c.args.owner c.args.vars c.args.leaves.now c.requires.not_empty c.requires.distinct)

pub returns : goal.returns
returns c =
    star_is c.args.root c.args.owner c.args.vars c.args.leaves.now _
    (c.from_parts-2.ensures ∙ ap₂ (λ b (es : List Equation). make_tree c.args.root b c.args.vars es) (ap (P c.args.owner) c.in_ok-kids.ensures ∙ sym (body_many c.args.owner c.args.leaves.now c.if-leaves-eq1.false)) c.new-equations.ensures)
