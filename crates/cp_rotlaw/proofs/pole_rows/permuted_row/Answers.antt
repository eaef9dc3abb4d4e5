use Rattle.std.proofs.Common.{◌∙◌, ◌≢◌, ◌<◌, ℕ, ap, false, length, not, slice_index, slice_index_or, subst, sym}
use Rattle.std.specs.List.{filter}
use Rattle.std.proofs.lemmas.Result.{IfOk-weaker}
use Rattle.cp_lists.specs.CyclicLists.{Has}
use Rattle.cp_lists.specs.Turns.{IsTurn}
use Rattle.cp_rotlaw.specs.PoleClasses.{ArePoleParts, HasEndsApart, IsEnteredTest}
use Rattle.cp_rotlaw.proofs.PoleLists.{All-from}
use Rattle.cp_rotlaw.proofs.PoleRows.{IsPermutedRow-made, kept_dart, turned_dart}
use Rattle.cp_rotlaw.proofs.pole_rows.permuted_row.Goals as goal

pub turned_to_other_part-requires : goal.turned_to_other_part-requires
turned_to_other_part-requires c =
    let r = c.args.a.now in
    let size = ap length c.as_slice-parts.ensures.value ∙ c.in_ok-parts.ensures.size in
    let ps = c.as_slice-parts.result.now in
    let held = c.as_slice-2.ensures.value ∙ c.in_ok-held.ensures
    ∙ ap (filter (λ d. slice_index_or c.as_slice-marks.result.now (slice_index ps d) false))
    (c.items-items.ensures ∙ c.list.ensures) in
    All-from (λ d. d < length ps) c.as_slice-2.result.now
    (λ d h. subst (λ n. d < n) (sym size)
    (kept_dart r c.is_rotation.ensures.rotation c.args.v c.requires.second
    (λ d. slice_index_or c.as_slice-marks.result.now (slice_index ps d) false) c.as_slice-2.result.now held d h))

pub joined_by_part-requires-clause-items : goal.joined_by_part-requires-clause-items
joined_by_part-requires-clause-items c =
    let r = c.args.a.now in
    let size = ap length c.as_slice-parts.ensures.value ∙ c.in_ok-parts.ensures.size in
    let ps = c.as_slice-parts.result.now in
    let held = c.as_slice-2.ensures.value ∙ c.in_ok-held.ensures
    ∙ ap (filter (λ d. slice_index_or c.as_slice-marks.result.now (slice_index ps d) false))
    (c.items-items.ensures ∙ c.list.ensures) in
    All-from (λ d. d < length ps) c.as_slice-4.result.now
    (λ d h. subst (λ n. d < n) (sym size)
    (turned_dart r c.is_rotation.ensures.rotation c.args.v c.requires.second
    (λ d. slice_index_or c.as_slice-marks.result.now (slice_index ps d) false) c.as_slice-2.result.now
    c.as_slice-4.result.now held
    (subst (IsTurn c.as_slice-2.result.now) (sym c.as_slice-4.ensures.value) c.in_ok-turned.ensures.turn) d h))

pub returns : goal.returns
returns c =
    let r = c.args.a.now in
    let u = c.args.u in
    let ps = c.as_slice-parts.result.now in
    let ms = c.as_slice-marks.result.now in
    let list = c.items-items.ensures ∙ c.list.ensures in
    let held = c.as_slice-2.ensures.value ∙ c.in_ok-held.ensures
    ∙ ap (filter (λ d. slice_index_or ms (slice_index ps d) false)) list in
    let free = c.as_slice-3.ensures.value ∙ c.in_ok-free.ensures
    ∙ ap (filter (λ d. not (slice_index_or ms (slice_index ps d) false))) list in
    let parts = subst (λ xs. (number : ℕ → ℕ) × ArePoleParts r u c.args.v number (slice_index xs))
    (sym c.as_slice-parts.ensures.value) c.in_ok-parts.ensures.parts in
    let test = subst (λ xs. IsEnteredTest r u (slice_index ps) (λ k. slice_index_or xs k false))
    (sym c.as_slice-marks.ensures.value)
    (subst (λ xs. IsEnteredTest r u (slice_index xs) (λ k. slice_index_or c.in_ok-marks.marks.items k false))
    (c.as_slice.ensures.value ∙ sym c.as_slice-parts.ensures.value) c.in_ok-marks.ensures.entered) in
    IfOk-weaker c.joined_by_part.result _ _
    (λ row e. IsPermutedRow-made r c.is_rotation.ensures.rotation u c.args.v c.requires.second c.args.order.now
    c.requires.arranged c.requires.many ps ms parts test held free
    (subst (IsTurn c.as_slice-2.result.now) (sym c.as_slice-4.ensures.value) c.in_ok-turned.ensures.turn)
    (subst (λ ws. (d f : ℕ) → Has d c.as_slice-2.result.now → Has f c.as_slice-2.result.now
    → slice_index ps d ≢ slice_index ps f → HasEndsApart (slice_index ps) ws) (sym c.as_slice-4.ensures.value)
    c.in_ok-turned.ensures.ends) e)
    c.joined_by_part.ensures
