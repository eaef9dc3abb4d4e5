-- Rows of edges by numbers, as they are gathered.
use Rattle.std.proofs.Common.{◌≡◌, ◌≢◌, ℕ, ◌+◌, ◌<◌, Bool, eqb, List, [], ◌∷◌, ◌++◌, length, filter, get_or, replicate, set, slice_index, take, sym, refl, ap, ◌∙◌, ⊎_elim, arith, append-nil, length-set}
use Rattle.std.specs.Prelude.{slice_index_or}
use Rattle.std.specs.List.{All}
use Rattle.std.specs.List.Sorted.{IsStrictlyIncreasing}
use Rattle.std.proofs.lemmas.Bool.{cases_eq, eq-eqb, ne_eqb}
use Rattle.std.proofs.lemmas.List.{get_or-replicate, get_or-set_other, get_or_default, get_or-set_same, get_or_read, length-replicate, take_more}
use Rattle.std.proofs.lemmas.List.Elements.{filter-append}
use Rattle.cp_lists.proofs.Counting.{IsCount-le}
use Rattle.cp_lists.proofs.FilteredLists.{filter_no, filter_yes}
use Rattle.cp_conn.specs.Blocks.{AreInOneBlock}
use Rattle.cp_conn.specs.NamedGraphs.{rank}
use Rattle.cp_conn.specs.Numbering.{AreNumbered}
use Rattle.cp_conn.proofs.NamedGraphs.{rank_is}
use Rattle.cp_embed.proofs.BoardBlocks.{rising_distinct}
use Rattle.cp_flip.specs.BlockTrees.{AreRowsByNumber}

-- of no edges the rows are empty
pub AreRowsByNumber-none : (edges numbers : List ℕ) → AreRowsByNumber edges numbers 0 (replicate (length edges) [])
AreRowsByNumber-none edges numbers = record {
  row_each = length-replicate (length edges) [];
  row_of = λ c lt. get_or-replicate {A = List ℕ} (length edges) c [] [] lt;
}

-- with one edge more, which is appended to the row of its number, they are rows of one edge more
pub AreRowsByNumber-more : (edges numbers : List ℕ) (rows : List (List ℕ)) (k : ℕ) (row new : List ℕ)
    → IsStrictlyIncreasing edges → length numbers ≡ length edges → All (λ c. c < length edges) numbers
    → k < length edges → AreRowsByNumber edges numbers k rows
    → row ≡ get_or rows (slice_index numbers k) row → new ≡ row ++ slice_index edges k ∷ []
    → AreRowsByNumber edges numbers (k + 1) (set rows (slice_index numbers k) new)
AreRowsByNumber-more edges numbers rows k row new rising one_each below lt are row_is new_is = record {
  row_each = length-set rows (slice_index numbers k) new ∙ are.row_each;
  row_of = λ c within. ⊎_elim
      (λ (same : c ≡ number).
      ap (λ n. get_or (set rows number new) n []) same
      ∙ get_or-set_same rows number new [] here
      ∙ new_is
      ∙ ap (λ xs. xs ++ edge ∷ []) (get_or_read rows number row here row_is [] ∙ are.row_of number (below k 0 (omega (arith, one_each, lt))))
      ∙ sym (edges_so c ∙ ap (λ n. filter (test n) before ++ filter (test n) (edge ∷ [])) same
      ∙ ap (λ xs. filter (test number) before ++ xs) (filter_yes (test number) edge [] (eq-eqb own number own_is))))
      (λ (other : c ≢ number).
      get_or-set_other rows number c new [] other
      ∙ are.row_of c within
      ∙ sym (edges_so c
      ∙ ap (λ xs. filter (test c) before ++ xs) (filter_no (test c) edge []
      (ne_eqb own c (λ e. other (sym e ∙ own_is))))
      ∙ append-nil (filter (test c) before)))
      (cases_eq c number);
}
  where
    number : ℕ
    number = slice_index numbers k

    edge : ℕ
    edge = slice_index edges k

    before : List ℕ
    before = take k edges

    test : ℕ → ℕ → Bool
    test c e = eqb (slice_index numbers (rank edges e)) c

    own : ℕ
    own = slice_index numbers (rank edges edge)

    own_is : own ≡ number
    own_is = ap (slice_index numbers) (rank_is edges k edge (rising_distinct edges rising) lt refl)

    here : number < length rows
    here = let h = below k 0 (omega (arith, one_each, lt)) in omega (arith, h, are.row_each)

    edges_so : (c : ℕ) → filter (test c) (take (k + 1) edges) ≡ filter (test c) before ++ filter (test c) (edge ∷ [])
    edges_so c = ap (filter (test c)) (take_more edges k 0 lt) ∙ filter-append (test c) before (edge ∷ [])

-- the number of the block of an edge is below the number of edges
pub numbers-below : (es : List (ℕ × ℕ)) (n : ℕ) (numbers : List ℕ) → AreNumbered (AreInOneBlock es) n numbers
    → All (λ c. c < n) numbers
numbers-below es n numbers are k d lt =
    let within : k < n = omega (arith, are.one_each, lt) in
    let h = are.by_least k within in
    let le = IsCount-le _ h.least (slice_index numbers k) h.counted in
    let up = h.leads k h.related in
    let same : slice_index_or numbers k d ≡ slice_index numbers k = get_or_default numbers k d 0 lt in
    omega (arith, le, up, within, same)
