-- Edges in one block have the number 0, and only then all have it.
use Rattle.std.proofs.Common.{◌≡◌, ℕ, ◌<◌, List, length, get_or, sym, subst}
use Rattle.cp_ears.proofs.Numbered.{one_block_numbers}
use Rattle.graph_parts.proofs.BlockLemmas.{block_zero}
use Rattle.graph_parts.proofs.one_block.is_one_block.Goals as goal

pub returns : goal.returns
returns c = (
  λ is. one_block_numbers c.args.g.now.ends c.in_ok-numbers.numbers.items c.requires c.in_ok-numbers.ensures
      (subst (λ (xs : List ℕ). (e : ℕ) → e < length xs → get_or xs e 0 ≡ 0) c.as_slice.ensures.value
      (c.are_zero.ensures.0 is)),
  λ one. c.are_zero.ensures.1
      (subst (λ (xs : List ℕ). (e : ℕ) → e < length xs → get_or xs e 0 ≡ 0) (sym c.as_slice.ensures.value)
      (block_zero c.args.g.now.ends c.in_ok-numbers.numbers.items c.in_ok-numbers.ensures one)),
)
