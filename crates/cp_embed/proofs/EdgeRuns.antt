-- The run of the edges of a vertex in a word, found by its place and its length.
use Rattle.std.proofs.Common.{◌≡◌, ◌≢◌, ℕ, ◌+◌, ◌-◌, ◌<◌, ◌≤◌, true, false, List, [], ◌∷◌, ◌++◌, length, get_or, take, drop, reverse, sym, refl, ap, ap₂, ◌∙◌, arith, length-append}
use Rattle.std.specs.Prelude.{slice_range}
use Rattle.std.proofs.lemmas.Bool.{false≢true}
use Rattle.std.proofs.Math.Seq.{take-append_seam, drop-append_seam, drop-append-add}
use Rattle.std.proofs.lemmas.List.{get_or_append_left, get_or-append-add}
use Rattle.cp_lists.proofs.DistinctLists.{Has_at}
use Rattle.cp_conn.proofs.DistinctSubsets.{subset_length}
use Rattle.cp_embed.specs.ListedBlocks.{touches}
use Rattle.cp_embed.specs.Unwound.{HasEdgesAsRun, IsTakenOutOf}

-- a list that is not empty has a first item
long_from : (xs : List ℕ) → xs ≢ [] → 0 < length xs
long_from [] some = absurd (some refl)
long_from (x ∷ xs) some = omega arith

-- a word in which the edges of the vertex are a run
module _ (ends : List (ℕ × ℕ)) (vertex : ℕ) (outs word : List ℕ) (h : HasEdgesAsRun ends vertex outs word) where
  -- the run is as long as the list of the edges
  run-length : length h.run ≡ length outs
  run-length =
      let le : length h.run ≤ length outs =
      subset_length h.run outs h.run_is.distinct (λ d k. (h.run_is.items d).0 k)
      in
      let ge : length outs ≤ length h.run =
      subset_length outs h.run h.outs_is.distinct (λ d k. (h.run_is.items d).1 k)
      in
      omega (arith, le, ge)

  -- the run and what stands before it fit into the word
  run-fits : length h.front + (length outs + length h.behind) ≡ length word
  run-fits = omega (
    arith,
    run-length,
    ap length h.word_is,
    length-append h.front (h.run ++ h.behind),
    length-append h.run h.behind,
  )

  -- its place
  module _ (place : ℕ) (le : place ≤ length word) (before : (i : ℕ) → i < place
      → touches ends vertex (get_or word i 0) ≡ false)
      (there : place < length word → touches ends vertex (get_or word place 0) ≡ true) where
    -- it is the first place at which an edge of the vertex stands
    pub run-place : place ≡ length h.front
    run-place =
        let not_less : place < length h.front → ⊥ = λ lt. false≢true (
        sym (h.front_apart (get_or h.front place 0) (Has_at h.front place lt))
        ∙ ap (touches ends vertex) (sym (ap (λ ws. get_or ws place 0) h.word_is
        ∙ get_or_append_left h.front (h.run ++ h.behind) 0 place lt))
        ∙ there (omega (arith, lt, run-fits)))
        in
        let not_more : length h.front < place → ⊥ = λ lt. false≢true (
        sym (before (length h.front) lt)
        ∙ ap (touches ends vertex) (ap (λ ws. get_or ws (length h.front) 0) h.word_is ∙ at_seam)
        ∙ h.run_touches (get_or h.run 0 0) (Has_at h.run 0 run_long))
        in
        omega (arith, not_less, not_more)
      where
        -- the run is not empty
        run_long : 0 < length h.run
        run_long = omega (arith, long_from outs h.some, run-length)

        -- behind what stands before the run its first edge follows
        at_seam : get_or (h.front ++ (h.run ++ h.behind)) (length h.front) 0 ≡ get_or h.run 0 0
        at_seam = ap (λ n. get_or (h.front ++ (h.run ++ h.behind)) n 0)
            (let e : length h.front ≡ length h.front + 0 = omega arith in e)
            ∙ get_or-append-add h.front (h.run ++ h.behind) 0 0 ∙ get_or_append_left h.run h.behind 0 0 run_long

    -- it ends within the word
    pub run-end : place + length outs ≤ length word
    run-end = omega (arith, run-place, run-fits)

    -- exchanged by its place and its length
    pub run-IsTakenOutOf : (row part new list : List ℕ) (end : ℕ) → end ≡ place + length outs → part ≡ row
        → new ≡ take place word ++ (part ++ drop end word) → list ≡ part ++ reverse (slice_range word place end)
        → IsTakenOutOf word outs row new list
    run-IsTakenOutOf row part new list end end_is part_is new_is list_is =
        let span : end - place ≡ length h.run = omega (arith, end_is, run-length) in
        let until : end ≡ length h.front + length h.run = omega (arith, end_is, run-place, run-length) in
        let taken : take place word ≡ h.front =
        ap₂ (λ n ws. take n ws) run-place h.word_is ∙ take-append_seam h.front (h.run ++ h.behind)
        in
        let past : drop end word ≡ h.behind =
        ap₂ (λ n ws. drop n ws) until h.word_is ∙ drop-append-add h.front (h.run ++ h.behind) (length h.run)
        ∙ drop-append_seam h.run h.behind
        in
        let middle : slice_range word place end ≡ h.run =
        ap₂ (λ n ws. take n ws) span (ap₂ (λ n ws. drop n ws) run-place h.word_is
        ∙ drop-append_seam h.front (h.run ++ h.behind))
        ∙ take-append_seam h.run h.behind
        in
        record {
          front = h.front;
          run = h.run;
          behind = h.behind;
          word_is = h.word_is;
          run_is = h.run_is;
          before_is = new_is ∙ ap₂ (λ us vs. us ++ vs) taken (ap₂ (λ us vs. us ++ vs) part_is past);
          list_is = list_is ∙ ap₂ (λ us vs. us ++ reverse vs) part_is middle;
        }
