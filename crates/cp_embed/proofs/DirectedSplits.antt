-- Splits of a given list in either direction.
use Rattle.std.proofs.Common.{◌≡◌, ℕ, ◌↔◌, Bool, true, false, List, ◌++◌, reverse, subst}
use Rattle.std.proofs.lemmas.List.{reverse-append, reverse-reverse}
use Rattle.cp_lists.specs.CyclicLists.{Has, Distinct}
use Rattle.cp_lists.specs.Turns.{IsTurn}
use Rattle.cp_lists.proofs.TurnedLists.{turn-trans, turn-reverse, turn_parts}
use Rattle.cp_embed.specs.Arrangements.{IsArrangementOf}
use Rattle.cp_embed.specs.Directions.{directed}
use Rattle.cp_embed.specs.Splits.{IsSplit}
use Rattle.cp_embed.proofs.Arrangements.{IsArrangementOf-items, IsArrangementOf-reverse}
use Rattle.cp_embed.proofs.Splits.{split-IsTurn}

-- a split in reverse is one of the reversed list
pub IsSplit-reverse : (list ins outs first second : List ℕ) → IsSplit list ins outs first second
    → IsSplit (reverse list) ins outs (reverse first) (reverse second)
IsSplit-reverse list ins outs first second s = record {
  turn = turn-trans (reverse list) (reverse second ++ reverse first) (reverse first ++ reverse second)
      (subst (IsTurn (reverse list)) (reverse-append first second) (turn-reverse list (first ++ second) s.turn))
      (turn_parts (reverse second) (reverse first));
  first_is = IsArrangementOf-reverse first ins s.first_is;
  second_is = IsArrangementOf-reverse second outs s.second_is;
}

-- in a direction
pub IsSplit-directed : (bit : Bool) (list ins outs first second : List ℕ) → IsSplit list ins outs first second
    → IsSplit (directed bit list) ins outs (directed bit first) (directed bit second)
IsSplit-directed false list ins outs first second s = s
IsSplit-directed true list ins outs first second s = IsSplit-reverse list ins outs first second s

-- the reverse of the list in a direction is split only where the list is
pub directed-IsSplit : (bit : Bool) (list ins outs us vs : List ℕ) → IsSplit (directed bit list) ins outs us vs
    → (first : List ℕ) × (second : List ℕ) × IsSplit list ins outs first second
directed-IsSplit false list ins outs us vs s = (us, vs, s)
directed-IsSplit true list ins outs us vs s = (
  reverse us,
  reverse vs,
  subst (λ ws. IsSplit ws ins outs (reverse us) (reverse vs)) (reverse-reverse list)
      (IsSplit-reverse (reverse list) ins outs us vs s),
)

-- arrangements are the list in a direction exactly where they are the split in that direction
pub IsSplit-unique : (bit : Bool) (list ins outs first second us vs : List ℕ) (i o : ℕ) → Distinct (directed bit list)
    → Has i ins → Has o outs → IsSplit list ins outs first second → IsArrangementOf us ins → IsArrangementOf vs outs
    → IsTurn (directed bit list) (us ++ vs) ↔ ((us ≡ directed bit first) × (vs ≡ directed bit second))
IsSplit-unique bit list ins outs first second us vs i o dis one other split a b =
    let s = IsSplit-directed bit list ins outs first second split in
    split-IsTurn (directed bit list) (directed bit first) (directed bit second) us vs i o dis s.turn
    (IsArrangementOf-items us ins (directed bit first) a (λ d. ((s.first_is.items d).1, (s.first_is.items d).0)))
    (IsArrangementOf-items vs outs (directed bit second) b (λ d. ((s.second_is.items d).1, (s.second_is.items d).0)))
    ((s.first_is.items i).1 one) ((s.second_is.items o).1 other)
