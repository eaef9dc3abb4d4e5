-- The pipe of one pair of rows more, if they are P-nodes.
use Rattle.std.proofs.Common.{◌≡◌, ◌<◌, ◌+◌, ◌∙◌, ℕ, suc, List, [], ◌∷◌, ◌++◌, append_assoc, length, slice_index, slice_index_or, take, sym, ap, ap₂, arith}
use Rattle.std.specs.List.{zip}
use Rattle.std.proofs.lemmas.List.{take_all, take_more}
use Rattle.std.proofs.lemmas.Slice.Zip.{get_or-zip, length-zip}
use Rattle.cp_board.specs.declared.parts.Pipe.{Pipe}
use Rattle.cp_board.specs.Plantings.{Planted}
use Rattle.cp_plant.specs.Rewriting.{free_from, planted_pipe, planted_pipes}
use Rattle.cp_plant.proofs.RowPipes.{free_from-fixed, free_from-free, pipes-fixed, pipes-free}
use Rattle.cp_plant.proofs.rewriting.push_pipes.Goals.{then-not-row+in_ok-pipe_of+in_ok-push, else-not-row}
use Rattle.cp_plant.proofs.rewriting.push_pipes.Goals as goal

pub loop-k-preserved : goal.loop-k-preserved
loop-k-preserved c =
    let us : List Planted = c.args.rows.now in
    let ws : List Planted = c.args.others.now in
    let names : List ℕ = c.args.names.now in
    let old : List Pipe = c.args.pipes.now in
    let k : ℕ = c.loop-k.k in
    let row : Planted = c.index-rows-k.result in
    let before : List (Planted × Planted) = take k (zip us ws) in
    let in_us : k < length us = omega (arith, c.min-number.ensures, c.loop-k-test.true) in
    let in_ws : k < length ws = omega (arith, c.min-number.ensures, c.loop-k-test.true) in
    let within : k < length (zip us ws) = omega (arith, length-zip us ws, in_us, in_ws) in
    let kind : c.row.inside.fixed ≡ row.fixed = ap (λ (r : Planted). r.fixed) c.row.view_is in
    let one : (q : Planted) → take (k + 1) (zip us ws) ≡ before ++ (row, slice_index_or ws k q) ∷ [] =
    (λ q. take_more (zip us ws) k (row, q) within
    ∙ ap (λ z. before ++ z ∷ []) (get_or-zip us ws k (row, q) in_us in_ws
    ∙ ap (λ r. (r, slice_index_or ws k q)) (sym c.index-rows-k.is))) in (
      elim c.if-not-row.branch [
        | then-not-row+in_ok-pipe_of+in_ok-push w ↦
            let q : Planted = w.index-others-k.result in
            let same : slice_index_or ws k q ≡ q = sym w.index-others-k.is in
            let x : Planted × Planted = (row, slice_index_or ws k q) in
            w.pipes-is
            ∙ w.in_ok-push.ensures.ok
            ∙ ap₂ (λ (ps : List Pipe) (z : Pipe). ps ++ z ∷ []) c.loop-k.invariant.0
            (w.in_ok-pipe_of.ensures
            ∙ ap₂ (λ n r. planted_pipe n row r)
            (w.cell_at.ensures ∙ ap (slice_index names) c.loop-k.invariant.1) (sym same))
            ∙ append_assoc old (planted_pipes names 0 before)
            (planted_pipe (slice_index names (free_from 0 before)) row (slice_index_or ws k q) ∷ [])
            ∙ ap (λ ps. old ++ ps) (sym (ap (planted_pipes names 0) (one q)
            ∙ pipes-free names before x (sym kind ∙ w.if-not-row.true)))
        | else-not-row w ↦
            w.pipes-is ∙ c.loop-k.invariant.0
            ∙ ap (λ ps. old ++ ps) (sym (ap (planted_pipes names 0) (one row)
            ∙ pipes-fixed names before (row, slice_index_or ws k row) (sym kind ∙ w.if-not-row.false)))
      ],
      elim c.if-not-row.branch [
        | then-not-row+in_ok-pipe_of+in_ok-push w ↦
            let x : Planted × Planted = (row, slice_index_or ws k row) in
            let next : c.loop-k.place + 1 ≡ suc c.loop-k.place = omega arith in
            w.place-is ∙ next ∙ ap suc c.loop-k.invariant.1
            ∙ sym (ap (free_from 0) (one row) ∙ free_from-free before x (sym kind ∙ w.if-not-row.true))
        | else-not-row w ↦
            w.place-is ∙ c.loop-k.invariant.1
            ∙ sym (ap (free_from 0) (one row)
            ∙ free_from-fixed before (row, slice_index_or ws k row) (sym kind ∙ w.if-not-row.false))
      ],
      elim c.if-not-row.branch [
        | then-not-row+in_ok-pipe_of+in_ok-push w ↦ omega (arith, w.place-is, c.loop-k.invariant.2)
        | else-not-row w ↦ omega (arith, w.place-is, c.loop-k.invariant.2)
      ],
    )

pub returns : goal.returns
returns c =
    let us : List Planted = c.args.rows.now in
    let ws : List Planted = c.args.others.now in
    c.loop-k.invariant.0
    ∙ ap (λ xs. c.args.pipes.now ++ planted_pipes c.args.names.now 0 xs)
    (take_all c.loop-k.k (zip us ws) (omega (arith, length-zip us ws, c.min-number.ensures, c.loop-k-test.false)))
