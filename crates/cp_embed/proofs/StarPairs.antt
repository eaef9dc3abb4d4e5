-- The pairs of the first tree: all words of its leaves, with all bits.
use Rattle.std.proofs.Common.{ℕ, ◌↔◌, false, List, ◌∷◌, drop, sym, ap, subst}
use Rattle.std.specs.List.Sorted.{IsPermutation}
use Rattle.cp_lists.specs.CyclicLists.{Has}
use Rattle.cp_pq.specs.Promises.{IsStar}
use Rattle.cp_pq.specs.Trees.{PQTree}
use Rattle.cp_rot.specs.Rewrites.{values}
use Rattle.cp_rot.proofs.ListEdits.{length-values, values_at}
use Rattle.cp_embed.specs.Arrangements.{IsArrangementOf}
use Rattle.cp_embed.specs.Pairs.{SamePairs}
use Rattle.cp_embed.specs.TreePairs.{pairs_of}
use Rattle.cp_embed.proofs.Arrangements.{IsArrangementOf-items}

-- a star with n vars has as pairs all arrangements of its leaves, where these are the permutations of the leaves
pub star-SamePairs : (n root owner : ℕ) (leaves items : List ℕ) (tree : PQTree) → IsStar root leaves owner n tree
    → ((word : List ℕ) → IsPermutation leaves word ↔ IsArrangementOf word leaves)
    → ((d : ℕ) → Has d leaves ↔ Has d items) → SamePairs (pairs_of n tree) (λ word bit. IsArrangementOf word items)
star-SamePairs n root owner leaves items tree star arranges same word bit = (
  λ p.
      let w = ((star.pairs (tree.root ∷ word) p.0).0 p.1).1 in
      IsArrangementOf-items word leaves items
      ((arranges word).0 (subst (IsPermutation leaves) (sym (ap (drop 1) w.1)) w.2)) same,
  λ a. (
    values n bit,
    (star.pairs (tree.root ∷ word) (values n bit)).1 (
      length-values n bit,
      (
        word,
        ap (λ (t : PQTree). t.root ∷ word) star.tree_is,
        (arranges word).1 (IsArrangementOf-items word items leaves a (λ d. ((same d).1, (same d).0))),
      ),
    ),
    λ v lt. values_at n bit v false lt,
  ),
)
