-- Edges with equal block numbers are in one block.
use Rattle.std.proofs.Common.{◌≡◌, ℕ, ◌<◌, List, length, get_or, inl, sym, refl, ◌∙◌, arith}
use Rattle.cp_conn.specs.Blocks.{HaveNoLoop, AreInOneBlock}
use Rattle.cp_conn.specs.Numbering.{AreNumbered}
use Rattle.cp_conn.proofs.BlockClasses.{block-sym, block-trans}
use Rattle.cp_conn.proofs.DartChains.{Contains-at}
use Rattle.cp_conn.proofs.NumberedClasses.{same_number}
use Rattle.cp_ears.specs.Bipolar.{IsOneBlock, AreAdjacent}

-- where all block numbers are equal there is one block
pub one_block_numbers : (es : List (ℕ × ℕ)) (numbers : List ℕ) → HaveNoLoop es
    → AreNumbered (AreInOneBlock es) (length es) numbers → ((e : ℕ) → e < length numbers → get_or numbers e 0 ≡ 0)
    → IsOneBlock es
one_block_numbers es numbers none are all e f lte ltf =
    let h =
    same_number (AreInOneBlock es) (length es) numbers e f are lte ltf
    (all e (omega (arith, are.one_each)) ∙ sym (all f (omega (arith, are.one_each)))) in
    block-trans es e h.0 f none (block-sym es h.0 e h.1) h.2

-- the ends of an edge are adjacent
pub ends_adjacent : (es : List (ℕ × ℕ)) (e : ℕ) → e < length es
    → AreAdjacent es (get_or es e (0, 0)).0 (get_or es e (0, 0)).1
ends_adjacent es e lt = record {
  pair = get_or es e (0, 0);
  contained = Contains-at es e lt;
  joined = inl (refl, refl);
}
