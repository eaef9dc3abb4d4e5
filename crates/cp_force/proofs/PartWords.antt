-- What bits read of a node, or of a part, is a reading of it wherever it has one and its licence does not forbid these
-- bits.
use Rattle.std.proofs.Common.{◌≡◌, ℕ, ◌<◌, Bool, true, false, Option, Some, None, List, length, reverse, flat_map, sym, ap, ◌∙◌, subst, append-nil}
use Rattle.std.specs.Prelude.{nat_lt}
use Rattle.std.specs.Bool.{beq}
use Rattle.std.specs.List.{AllByRecursion}
use Rattle.std.proofs.lemmas.Bool.{and_parts, ltb-true}
use Rattle.std.proofs.lemmas.List.{reverse-reverse}
use Rattle.std.proofs.lemmas.List.Sorted.{IsPermutation-refl, IsPermutation-sym}
use Rattle.cp_pq.specs.declared.node.Node.{Node}
use Rattle.cp_pq.specs.declared.node.Node.TheVariants.{Leaf, P, Q}
use Rattle.cp_pq.specs.declared.part.Part.{Part}
use Rattle.cp_pq.specs.Bits.{bit_of}
use Rattle.cp_pq.specs.Promises.{ReadsPart, in_direction, reading_of}
use Rattle.cp_pq.specs.Readings.{Reads, ReadsAll, leaf, any_order, forward, backward, none, more, given}
use Rattle.cp_force.specs.Words.{word_by, words_by, is_read_back, part_word}
use Rattle.cp_force.proofs.Words.{word_by-Leaf, word_by-P, word_by-Q, ReadsAll-words, Reads-turned, all-turned, given_bit}
use Rattle.cp_force.proofs.PermutedRows.{all_permuted}
use Rattle.cp_lists.proofs.EachItem.{all-reverse}

-- the licence lets each var that it knows have its bit
abbrev pub Lets : (ℕ → Bool → Bool) → List Bool → Type 0
Lets may bits = (v : ℕ) (b : Bool) → may v b ≡ true → may v (bit_of bits v) ≡ true

-- a licence that lets the bits
module _ (may : ℕ → Bool → Bool) (bits : List Bool) (lets : Lets may bits) where
  -- a Q-node whose kids are read by the bits
  turned_reading : (var : ℕ) (kids : List Node) → may var (bit_of bits var) ≡ true
      → AllByRecursion (λ n. Reads may n (word_by bits n)) kids → Reads may (Q var kids) (word_by bits (Q var kids))
  turned_reading var kids may_be all =
      subst (Reads may (Q var kids)) (sym (word_by-Q bits var kids))
      (Reads-turned may var kids (bit_of bits var) (words_by bits (in_direction (bit_of bits var) kids)) may_be
      (ReadsAll-words bits may (in_direction (bit_of bits var) kids)
      (all-turned (λ n. Reads may n (word_by bits n)) (bit_of bits var) kids all)))

  mutual
    -- a node that has a reading reads its word by the bits
    pub Reads-by_bits : (n : Node) (xs : List ℕ) → Reads may n xs → Reads may n (word_by bits n)
    Reads-by_bits _ _ (leaf x) = subst (Reads may (Leaf x)) (sym (word_by-Leaf bits x)) (leaf x)
    Reads-by_bits _ _ (any_order owner kids turn xs p all) =
        subst (Reads may (P owner kids)) (sym (word_by-P bits owner kids))
        (any_order owner kids kids (words_by bits kids) (IsPermutation-refl kids)
        (ReadsAll-words bits may kids
        (all_permuted (λ n. Reads may n (word_by bits n)) turn kids (IsPermutation-sym kids turn p)
        (all-by_bits turn xs all))))
    Reads-by_bits _ _ (forward var kids xs may_be all) =
        turned_reading var kids (lets var false may_be) (all-by_bits kids xs all)
    Reads-by_bits _ _ (backward var kids xs may_be all) =
        turned_reading var kids (lets var true may_be)
        (subst (AllByRecursion (λ n. Reads may n (word_by bits n))) (reverse-reverse kids)
        (all-reverse (λ n. Reads may n (word_by bits n)) (reverse kids) (all-by_bits (reverse kids) xs all)))

    -- each node of a row that has a reading does
    all-by_bits : (ks : List Node) (xs : List ℕ) → ReadsAll may ks xs
        → AllByRecursion (λ n. Reads may n (word_by bits n)) ks
    all-by_bits _ _ none = tt
    all-by_bits _ _ (more k ks xs ys reads all) = (Reads-by_bits k xs reads, all-by_bits ks ys all)

  -- a part that has a reading reads its word by the bits
  pub ReadsPart-by_bits : (part : Part) (xs : List ℕ) → ReadsPart may part xs → ReadsPart may part (part_word bits part)
  unfolding words_by
  ReadsPart-by_bits part xs reads = by_var part.var part.kids reads
    where
      by_var : (var : Option ℕ) (kids : List Node) → reading_of may var kids xs
          → reading_of may var kids (words_by bits (in_direction (is_read_back bits var) kids))
      by_var None kids h = (
        h.0,
        h.1,
        subst (Reads may h.0)
            (sym (append-nil (word_by bits h.0)) ∙ ap (λ ks. flat_map (word_by bits) ks) (sym h.1))
            (Reads-by_bits h.0 xs h.2),
      )
      by_var (Some var) kids h =
          subst (Reads may (Q var kids)) (word_by-Q bits var kids) (Reads-by_bits (Q var kids) xs h)

-- bits let all bits that begin with them
pub given-Lets : (first bits : List Bool) → ((v : ℕ) → v < length first → bit_of first v ≡ bit_of bits v)
    → Lets (given first) bits
given-Lets first bits same v b may_be =
    let within : nat_lt v (length first) ≡ true =
    (and_parts (nat_lt v (length first)) (beq (bit_of first v) b) may_be).0
    in
    subst (λ c. given first v c ≡ true) (same v (ltb-true v (length first) within)) (given_bit first v within)
