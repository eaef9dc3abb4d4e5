-- The new edge of one pair more.
use Rattle.std.proofs.Common.{◌≡◌, ℕ, ◌<◌, [], ◌∷◌, ◌++◌, ◌∙◌, length, slice_index, slice_index_or, sym, ap, ap₂, subst}
use Rattle.cp_board.specs.declared.parts.EdgeRow.{EdgeRow}
use Rattle.cp_board.specs.Joins.{part_of, vertex_for}
use Rattle.cp_join.specs.Joining.{hat_row}
use Rattle.cp_join.proofs.PartSteps.{no_rows, hat_rows-more}
use Rattle.cp_join.proofs.joins.new_edges.Goals as goal

pub loop-k-init : goal.loop-k-init
loop-k-init c =
    c.new-rows.ensures
    ∙ sym (no_rows (hat_row c.args.first.now.parts c.args.first.now.inner c.args.second.now.parts c.args.second.now.inner)
    c.args.hats.now)

pub vertex_of-requires-clause-found : goal.vertex_of-requires-clause-found
vertex_of-requires-clause-found c =
    subst (λ vs. part_of c.args.first.now.parts (slice_index_or c.args.pairs.now c.loop-k.k (0, 0)).0 < length vs)
    (sym c.items.ensures) (c.requires.firsts c.loop-k.k (0, 0) c.loop-k-test.true)

pub vertex_of-requires-in-loop-k-clause-found : goal.vertex_of-requires-in-loop-k-clause-found
vertex_of-requires-in-loop-k-clause-found c =
    subst (λ vs. part_of c.args.second.now.parts (slice_index_or c.args.pairs.now c.loop-k.k (0, 0)).1 < length vs)
    (sym c.items-in-loop-k.ensures) (c.requires.seconds c.loop-k.k (0, 0) c.loop-k-test.true)

pub loop-k-preserved : goal.loop-k-preserved
loop-k-preserved c =
    let first = c.args.first.now in
    let second = c.args.second.now in
    let f : ℕ × (ℕ × ℕ) → EdgeRow = hat_row first.parts first.inner second.parts second.inner in
    let x = slice_index_or c.args.pairs.now c.loop-k.k (0, 0) in
    let row : ℕ → ℕ → EdgeRow =
    λ m n. record { name = slice_index c.args.hats.now c.loop-k.k; a = m; b = n } in
    let end_a : c.vertex_of.result ≡ vertex_for first.parts first.inner x.0 =
    c.vertex_of.ensures ∙ ap (λ vs. vertex_for first.parts vs x.0) c.items.ensures in
    let end_b : c.vertex_of-in-loop-k.result ≡ vertex_for second.parts second.inner x.1 =
    c.vertex_of-in-loop-k.ensures ∙ ap (λ vs. vertex_for second.parts vs x.1) c.items-in-loop-k.ensures in
    c.in_ok-push.ensures.ok
    ∙ ap (λ r. c.loop-k.rows ++ r ∷ []) (ap₂ row end_a end_b)
    ∙ ap (λ rs. rs ++ f (slice_index c.args.hats.now c.loop-k.k, x) ∷ []) c.loop-k.invariant
    ∙ sym (hat_rows-more f c.args.hats.now c.args.pairs.now c.loop-k.k (0, 0) c.loop-k-test.true c.requires.hats)
