-- The names rise, so a vertex more may be pushed, and its row is at its rank.
use Rattle.std.proofs.Common.{◌≡◌, ◌<◌, ℕ, List, [], ◌∷◌, ◌++◌, slice_index, sym, refl, ap, ap₂, ◌∙◌, subst, arith}
use Rattle.std.specs.Prelude.{slice_index_or}
use Rattle.std.specs.List.{All}
use Rattle.std.specs.List.Sorted.{IsStrictlyIncreasing}
use Rattle.std.proofs.lemmas.List.{get_or_read}
use Rattle.cp_conn.specs.NamedGraphs.{rank}
use Rattle.cp_conn.proofs.NamedGraphs.{rank_is}
use Rattle.cp_embed.proofs.BoardBlocks.{rising_distinct}
use Rattle.cp_flip.specs.GluedLists.{final_list}
use Rattle.cp_flip.proofs.AppendedLists.{before-less, each-more}
use Rattle.cp_flip.proofs.gluing.solution_of.Goals as goal

pub push-requires : goal.push-requires
push-requires g c =
    let i = g.B.Board.instance c.args.board.now in
    let verts = c.args.verts.now in
    let f : ℕ → List ℕ =
    λ v. final_list i c.args.cells.now c.args.bits.now v (slice_index_or c.args.rows.now (rank verts v) []) in
    subst (All (λ (x : ℕ × List ℕ). x.0 < slice_index verts c.loop-k.k)) (sym c.loop-k.invariant)
    (before-less f verts c.loop-k.k
    (subst IsStrictlyIncreasing (sym c.requires.verts) c.requires.cells.rules.verts_named.rise) c.loop-k-test.true)

pub loop-k-preserved : goal.loop-k-preserved
loop-k-preserved g c =
    let i = g.B.Board.instance c.args.board.now in
    let verts = c.args.verts.now in
    let rows = c.args.rows.now in
    let k = c.loop-k.k in
    let v = slice_index verts k in
    let final : ℕ → List ℕ → List ℕ = final_list i c.args.cells.now c.args.bits.now in
    let f : ℕ → List ℕ = λ u. final u (slice_index_or rows (rank verts u) []) in
    let up : IsStrictlyIncreasing verts =
    subst IsStrictlyIncreasing (sym c.requires.verts) c.requires.cells.rules.verts_named.rise in
    let own : rank verts v ≡ k = rank_is verts k v (rising_distinct verts up) c.loop-k-test.true refl in
    let row : c.items.result.now ≡ slice_index_or rows k [] =
    c.items.ensures
    ∙ get_or_read rows k c.index-rows-k.result (omega (arith, c.loop-k-test.true, c.requires.row_each))
    c.index-rows-k.is [] in
    let item : c.in_ok-list.list ≡ f v =
    c.in_ok-list.ensures ∙ ap (final v) (row ∙ ap (λ n. slice_index_or rows n []) (sym own)) in
    c.in_ok-push.ensures.ok
    ∙ ap₂ (λ xs (ys : List ℕ). xs ++ (v, ys) ∷ []) c.loop-k.invariant item
    ∙ sym (each-more f verts k c.loop-k-test.true)
