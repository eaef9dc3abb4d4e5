use Rattle.std.proofs.Common.{◌≡◌, ◌∙◌, ◌-◌, ◌++◌, ap, arith, drop, length, length-drop, take_all, take, slice_index}
use Rattle.cp_rotlaw.proofs.PoleLists.{turned-HasEndsApart}
use Rattle.cp_rotlaw.proofs.pole_rows.turned_to_other_part.Goals as goal

pub returns-clause-ends : goal.returns-clause-ends
returns-clause-ends c =
    let xs = c.args.items.now in
    let k = c.first_of_other_part-place.result in
    let place = c.first_of_other_part-place.ensures in
    let whole : c.extend_from_slice.new.self.items ≡ drop k xs ++ take k xs =
    c.in_ok-extend_from_slice.ensures.items ∙ ap (λ ys. ys ++ take k xs) (c.in_ok-turned.ensures.items
    ∙ take_all (length xs - k) (drop k xs) (omega (arith, length-drop k xs))) in
    turned-HasEndsApart (slice_index c.args.parts.now) xs k place.within place.before place.apart whole
