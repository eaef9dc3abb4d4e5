-- The ends of one new edge more.
use Rattle.std.proofs.Common.{ℕ, ◌+◌, not, List, [], ◌∷◌, ◌++◌, ◌∙◌, slice_index_or, take, sym, ap, ap₂, arith, append_assoc}
use Rattle.std.proofs.lemmas.List.Sums.{prefix_len-le-length}
use Rattle.cp_board.specs.Names.{has}
use Rattle.cp_join.specs.InnerSystems.{inner_at}
use Rattle.cp_join.proofs.PartSteps.{inner_at-more}
use Rattle.cp_join.proofs.inner_systems.inner_ends.Goals as goal

pub overflow_add-number : goal.overflow_add-number
overflow_add-number c =
    let y = (slice_index_or c.args.pairs.now c.loop-k.k (0, 0)).1 in
    let place = c.part_place-in-loop-k.ensures in
    let le = prefix_len-le-length (λ (part : List ℕ). not (has part y)) c.args.second.now.parts in
    omega (arith, c.len-number.ensures, place, le, c.requires.few_first, c.requires.few_second)

pub loop-k-preserved : goal.loop-k-preserved
loop-k-preserved c =
    let before = inner_at (take c.loop-k.k c.args.pairs.now) c.args.first.now c.args.second.now in
    let second = ap₂ (λ m n. m + n) c.len-number.ensures c.part_place-in-loop-k.ensures in
    c.in_ok-push-2.ensures.items
    ∙ ap (λ xs. xs ++ (c.len-number.result + c.part_place-in-loop-k.result) ∷ [])
    (c.in_ok-push.ensures.items ∙ ap (λ xs. xs ++ c.part_place.result ∷ []) c.loop-k.invariant)
    ∙ append_assoc before (c.part_place.result ∷ []) ((c.len-number.result + c.part_place-in-loop-k.result) ∷ [])
    ∙ ap (λ zs. before ++ zs) (ap₂ (λ m n. m ∷ n ∷ []) c.part_place.ensures second)
    ∙ sym (inner_at-more c.args.pairs.now c.args.first.now c.args.second.now c.loop-k.k c.loop-k-test.true)
