-- A pair of a tree, as it is handed in to be taken back.
use Rattle.std.proofs.Common.{ℕ, Bool, List, subst}
use Rattle.cp_lists.specs.Turns.{IsTurn}
use Rattle.cp_lists.proofs.TurnedLists.{turn-refl}
use Rattle.cp_pq.specs.Trees.{PQTree, IsPair}
use Rattle.cp_embed.specs.Unwound.{IsTurnedPair}

-- a pair of the tree is one, with the order that it has
pub pair-IsTurnedPair : (tree : PQTree) (order : List ℕ) (bits : List Bool) → IsPair tree order bits
    → IsTurnedPair tree order bits
pair-IsTurnedPair tree order bits p = record {
  word = p.word;
  turn = subst (IsTurn order) p.order_is (turn-refl order);
  pair = subst (λ us. IsPair tree us bits) p.order_is p;
}
