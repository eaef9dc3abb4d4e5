use Rattle.std.proofs.Common.{arith, ap, sym, refl}
use Rattle.std.specs.Prelude.{Some}
use Rattle.std.proofs.lemmas.Result.{IfOk-weaker}
use Rattle.cp_store.proofs.ExchangedItems.{Some-same}
use Rattle.cp_store.proofs.Openings.{rise-before, rise-behind, IsTree-first, IsTree-last, IsTree-here, less-told, not_less-told}
use Rattle.cp_store.proofs.putting.+with_item.Goals as goal

pub with_item-requires : goal.with_item-requires
with_item-requires g t c κs within =
    let op = c.in_ok-before.ensures in (
      omega (arith, op.before_less, c.decreases),
      (
        within,
        (
          omega (arith, op.before_less, c.requires.within),
          rise-before g.T.Ranked.number _ _ _ _ _ op
              c.requires.within c.requires.rise,
        ),
      ),
    )

pub with_item-requires-then-is_less-2 : goal.with_item-requires-then-is_less-2
with_item-requires-then-is_less-2 g t c κs within =
    let op = c.in_ok-before.ensures in (
      omega (arith, op.behind_less, c.decreases),
      (
        within,
        (
          omega (arith, op.behind_less, c.requires.within),
          rise-behind g.T.Ranked.number _ _ _ _ _ op
              c.requires.within c.requires.rise,
        ),
      ),
    )

pub returns-in_ok-first-clause-tree : goal.returns-in_ok-first-clause-tree
returns-in_ok-first-clause-tree g t c =
    let op = c.in_ok-before.ensures in
    let lt = less-told _ _ _ _ _ c.is_less.ensures c.if-is_less.true c.rank.ensures c.rank-2.ensures in
    IfOk-weaker c.balanced.result _ _
    (λ r whole. IsTree-first g.T.Ranked.number _ _ _ _ _ op c.requires.within c.requires.rise
    (g.T.Ranked.number c.args.item) (Some c.args.item)
    (λ x e. ap g.T.Ranked.number (sym (Some-same c.args.item x e))) lt c.with_item.new.forest c.balanced.new.forest
    c.in_ok-first.first r c.in_ok-first.ensures.keeps c.in_ok-first.ensures.tree whole)
    c.balanced.ensures.tree

pub returns-in_ok-last-clause-tree : goal.returns-in_ok-last-clause-tree
returns-in_ok-last-clause-tree g t c =
    let op = c.in_ok-before.ensures in
    let lt = less-told _ _ _ _ _ c.is_less-else-is_less.ensures c.if-is_less-2.true c.rank-else-is_less.ensures
    c.rank-else-is_less-2.ensures in
    IfOk-weaker c.balanced-then-is_less-2.result _ _
    (λ r whole. IsTree-last g.T.Ranked.number _ _ _ _ _ op c.requires.within c.requires.rise
    (g.T.Ranked.number c.args.item) (Some c.args.item)
    (λ x e. ap g.T.Ranked.number (sym (Some-same c.args.item x e))) lt c.with_item-then-is_less-2.new.forest
    c.balanced-then-is_less-2.new.forest c.in_ok-last.last r c.in_ok-last.ensures.keeps c.in_ok-last.ensures.tree
    whole)
    c.balanced-then-is_less-2.ensures.tree

pub returns-else-is_less-2-clause-tree : goal.returns-else-is_less-2-clause-tree
returns-else-is_less-2-clause-tree g t c =
    let op = c.in_ok-before.ensures in
    let above = not_less-told _ _ _ _ _ c.is_less.ensures c.if-is_less.false c.rank.ensures c.rank-2.ensures in
    let below = not_less-told _ _ _ _ _ c.is_less-else-is_less.ensures c.if-is_less-2.false c.rank-else-is_less.ensures
    c.rank-else-is_less-2.ensures in
    IfOk-weaker c.fork-else-is_less-2.result _ _
    (λ r whole. IsTree-here g.T.Ranked.number _ _ _ _ _ op c.requires.within c.requires.rise
    (g.T.Ranked.number c.args.item) c.args.item refl
    (omega (arith, above, below)) c.fork-else-is_less-2.new.self r whole)
    c.fork-else-is_less-2.ensures.tree
