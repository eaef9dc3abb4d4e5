-- The moves of one part more.
use Rattle.std.proofs.Common.{◌≡◌, ◌++◌, ◌∙◌, length, take, slice_index, slice_index_or, sym, ap, append_assoc}
use Rattle.std.proofs.lemmas.List.{append-nil}
use Rattle.cp_join.specs.Joining.{moves_to, part_moves}
use Rattle.cp_join.proofs.PartSteps.{no_moves, part_moves-more}
use Rattle.cp_join.proofs.joins.push_part_moves.Goals as goal

pub loop-k-init : goal.loop-k-init
loop-k-init c =
    sym (ap (λ ms. c.args.moves.now ++ ms) (no_moves c.args.u c.items-outer.result.now) ∙ append-nil c.args.moves.now)

pub loop-k-preserved : goal.loop-k-preserved
loop-k-preserved c =
    let parts = c.items-parts.result.now in
    let outer = c.items-outer.result.now in
    let part = slice_index_or parts c.loop-k.k c.index-parts-k.result in
    let size : length outer ≡ length parts =
    ap length c.items-outer.ensures ∙ c.requires ∙ sym (ap length c.items-parts.ensures) in
    c.in_ok-push_moves.ensures
    ∙ ap (λ xs. c.loop-k.moves ++ moves_to c.args.u (slice_index outer c.loop-k.k) xs) (c.items.ensures ∙ c.index-parts-k.is)
    ∙ ap (λ ms. ms ++ moves_to c.args.u (slice_index outer c.loop-k.k) part) c.loop-k.invariant
    ∙ append_assoc c.args.moves.now (part_moves c.args.u outer (take c.loop-k.k parts))
    (moves_to c.args.u (slice_index outer c.loop-k.k) part)
    ∙ ap (λ ms. c.args.moves.now ++ ms)
    (sym (part_moves-more c.args.u outer parts c.loop-k.k c.index-parts-k.result c.loop-k-test.true size))
