-- The vertex of one row more.
use Rattle.std.proofs.Common.{◌≡◌, ◌+◌, ◌∙◌, ℕ, Bool, List, [], ◌∷◌, ◌++◌, append_assoc, slice_index, take, sym, ap, ap₂, subst, arith}
use Rattle.std.proofs.lemmas.List.{take_more}
use Rattle.cp_board.specs.declared.parts.Vert.{Vert}
use Rattle.cp_board.specs.Plantings.{Planted}
use Rattle.cp_plant.specs.Rewriting.{fixed_from, planted_vert, planted_verts}
use Rattle.cp_plant.proofs.RowVerts.{planted_verts-more, fixed_from-then, fixed_from-else}
use Rattle.cp_plant.proofs.rewriting.push_verts.Goals.{then-row, else-row}
use Rattle.cp_plant.proofs.rewriting.push_verts.Goals as goal

pub loop-k-preserved : goal.loop-k-preserved
loop-k-preserved c =
    let m : Bool = c.args.mirrored in
    let cells : List ℕ = c.args.cells.now in
    let rows : List Planted = c.args.rows.now in
    let old : List Vert = c.args.verts.now in
    let k : ℕ = c.loop-k.k in
    let row : Planted = c.index-rows-k.result in
    let kind : c.row.inside.fixed ≡ row.fixed = ap (λ (r : Planted). r.fixed) c.row.view_is in
    let one : take (k + 1) rows ≡ take k rows ++ row ∷ [] =
    take_more rows k row c.loop-k-test.true ∙ ap (λ z. take k rows ++ z ∷ []) (sym c.index-rows-k.is) in
    let vert : c.in_ok-vert_of.field-0 ≡ planted_vert m (slice_index cells (fixed_from 0 (take k rows))) row =
    c.in_ok-vert_of.ensures
    ∙ ap (λ n. planted_vert m n row) (c.cell_at.ensures ∙ ap (slice_index cells) c.loop-k.invariant.1) in
    let verts : c.push.new.self ≡ old ++ planted_verts m cells 0 (take (k + 1) rows) =
    c.in_ok-push.ensures.ok
    ∙ ap₂ (λ vs v. vs ++ v ∷ []) c.loop-k.invariant.0 vert
    ∙ append_assoc old (planted_verts m cells 0 (take k rows))
    (planted_vert m (slice_index cells (fixed_from 0 (take k rows))) row ∷ [])
    ∙ ap (λ vs. old ++ vs)
    (sym (ap (planted_verts m cells 0) one ∙ planted_verts-more m cells 0 (take k rows) row)) in (
      verts,
      elim c.if-row.branch [
        | then-row w ↦ subst (λ rs. c.if-row.place ≡ fixed_from 0 rs) (sym one)
            (fixed_from-then (take k rows) row c.loop-k.place c.if-row.place (sym kind ∙ w.if-row.true) c.loop-k.invariant.1
            w.place-is)
        | else-row w ↦ subst (λ rs. c.if-row.place ≡ fixed_from 0 rs) (sym one)
            (fixed_from-else (take k rows) row c.loop-k.place c.if-row.place (sym kind ∙ w.if-row.false) c.loop-k.invariant.1
            w.place-is)
      ],
      elim c.if-row.branch [
        | then-row w ↦ omega (arith, w.place-is, c.loop-k.invariant.2)
        | else-row w ↦ omega (arith, w.place-is, c.loop-k.invariant.2)
      ],
    )
