-- Both parts are compared, and they decide the turn.
use Rattle.std.proofs.Common.{◌≡◌, sym, ◌∙◌, true, false}
use Rattle.std.proofs.lemmas.Slice.Eq.{bytes_eq-Decides}
use Rattle.cp_base.proofs.TurnLemmas.{turned, turned_first, turned_second}
use Rattle.cp_base.proofs.turns.is_turn_by.Goals as goal

pub returns-then-eq : goal.returns-then-eq
returns-then-eq c =
    let heads = (bytes_eq-Decides c.split_at-2.result.0.now c.split_at.result.1.now).0 (sym c.eq.ensures ∙ c.if-eq.true) in
    let tails = bytes_eq-Decides c.split_at-2.result.1.now c.split_at.result.0.now in (
      λ is. turned c.args.xs.now c.args.ys.now _ _ _ _ c.args.i c.split_at.ensures.front c.split_at.ensures.back c.split_at-2.ensures.front c.split_at-2.ensures.back heads (tails.0 (sym c.eq-then-eq.ensures ∙ is)),
      λ is. c.eq-then-eq.ensures ∙ tails.1 (turned_second c.args.xs.now c.args.ys.now _ _ c.split_at-2.result.0.now _ c.args.i c.split_at.ensures.front c.split_at.ensures.back c.split_at-2.ensures.back is),
    )

pub returns-else-eq : goal.returns-else-eq
returns-else-eq c =
    let heads = bytes_eq-Decides c.split_at-2.result.0.now c.split_at.result.1.now in (
      λ is. let impossible : false ≡ true = sym c.if-eq.false ∙ is in cc,
      λ is. c.eq.ensures ∙ heads.1 (turned_first c.args.xs.now c.args.ys.now _ _ _ c.split_at-2.result.1.now c.args.i c.split_at.ensures.front c.split_at.ensures.back c.split_at-2.ensures.front is),
    )
