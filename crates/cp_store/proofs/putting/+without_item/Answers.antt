use Rattle.std.proofs.Common.{arith, refl}
use Rattle.std.specs.Prelude.{None}
use Rattle.std.proofs.lemmas.Result.{IfOk-weaker}
use Rattle.cp_store.proofs.ExchangedItems.{None-Some}
use Rattle.cp_store.proofs.Openings.{rise-before, rise-behind, IsTree-first, IsTree-last, IsTree-gone, less-told, not_less-told}
use Rattle.cp_store.proofs.putting.+without_item.Goals as goal

pub without_item-requires : goal.without_item-requires
without_item-requires g t c κs within =
    let op = c.in_ok-before.ensures in (
      omega (arith, op.before_less, c.decreases),
      (
        within,
        (
          omega (arith, op.before_less, c.requires.within),
          rise-before g.T.Ranked.number _ _ _ _ _ op
              c.requires.within c.requires.rise,
        ),
      ),
    )

pub without_item-requires-then-is_less-2 : goal.without_item-requires-then-is_less-2
without_item-requires-then-is_less-2 g t c κs within =
    let op = c.in_ok-before.ensures in (
      omega (arith, op.behind_less, c.decreases),
      (
        within,
        (
          omega (arith, op.behind_less, c.requires.within),
          rise-behind g.T.Ranked.number _ _ _ _ _ op
              c.requires.within c.requires.rise,
        ),
      ),
    )

pub returns-in_ok-first-clause-tree : goal.returns-in_ok-first-clause-tree
returns-in_ok-first-clause-tree g t c =
    let op = c.in_ok-before.ensures in
    let lt = less-told _ _ _ _ _ c.is_less.ensures c.if-is_less.true refl c.rank.ensures in
    IfOk-weaker c.balanced.result _ _
    (λ r whole. IsTree-first g.T.Ranked.number _ _ _ _ _ op c.requires.within c.requires.rise _ None
    (λ x e. absurd (None-Some x e)) lt c.without_item.new.forest c.balanced.new.forest c.in_ok-first.first r
    c.in_ok-first.ensures.keeps c.in_ok-first.ensures.tree whole)
    c.balanced.ensures.tree

pub returns-in_ok-last-clause-tree : goal.returns-in_ok-last-clause-tree
returns-in_ok-last-clause-tree g t c =
    let op = c.in_ok-before.ensures in
    let lt = less-told _ _ _ _ _ c.is_less-else-is_less.ensures c.if-is_less-2.true c.rank-else-is_less.ensures refl in
    IfOk-weaker c.balanced-then-is_less-2.result _ _
    (λ r whole. IsTree-last g.T.Ranked.number _ _ _ _ _ op c.requires.within c.requires.rise _ None
    (λ x e. absurd (None-Some x e)) lt c.without_item-then-is_less-2.new.forest c.balanced-then-is_less-2.new.forest
    c.in_ok-last.last r c.in_ok-last.ensures.keeps c.in_ok-last.ensures.tree whole)
    c.balanced-then-is_less-2.ensures.tree

pub returns-else-is_less-2-clause-tree : goal.returns-else-is_less-2-clause-tree
returns-else-is_less-2-clause-tree g t c =
    let op = c.in_ok-before.ensures in
    let above = not_less-told _ _ _ _ _ c.is_less.ensures c.if-is_less.false refl c.rank.ensures in
    let below = not_less-told _ _ _ _ _ c.is_less-else-is_less.ensures c.if-is_less-2.false c.rank-else-is_less.ensures
    refl in
    IfOk-weaker c.joined.result _ _
    (λ r whole. IsTree-gone g.T.Ranked.number _ _ _ _ _ op c.requires.within c.requires.rise _
    (omega (arith, above, below)) c.joined.new.forest r whole)
    c.joined.ensures.tree
