use Rattle.std.proofs.Common.{◌≡◌, ◌<◌, ℕ, List, length, slice_index, map, subst, sym, ◌∙◌, ap, ap₂, arith}
use Rattle.cp_conn.specs.CutVertex.{without_vertex}
use Rattle.cp_rot.specs.Systems.{darts}
use Rattle.cp_rot.specs.Tables.{stands_at}
use Rattle.cp_rotlaw.specs.StarParts.{far_key, ArePlaced}
use Rattle.cp_rot.specs.Genus.{end_pairs}
use Rattle.cp_conn.proofs.NumberedClasses.{number-below}
use Rattle.cp_rotlaw.proofs.StarCode.{AreEntered-from}
use Rattle.cp_rotlaw.proofs.star_parts.entered_parts.Goals as goal

pub places_of-requires-clause-within : goal.places_of-requires-clause-within
places_of-requires-clause-within c x lt =
    let numbers = c.in_ok-numbers.numbers.items in
    let r = c.args.a.now in
    let same : c.as_slice.result.now ≡ numbers = c.as_slice.ensures.value in
    let size : length numbers ≡ r.vertices = c.in_ok-numbers.ensures.one_each in
    subst (λ (xs : List ℕ). slice_index xs x < length xs) (sym same) (let below = number-below (without_vertex c.args.u (end_pairs r.at)) r.vertices numbers c.in_ok-numbers.ensures x (omega (arith, lt, ap length same, size)) in omega (arith, below, size))

pub looked_up-requires : goal.looked_up-requires
looked_up-requires c x lt =
    let numbers = c.in_ok-numbers.numbers.items in
    let r = c.args.a.now in
    let same : c.as_slice-3.result.now ≡ numbers = c.as_slice-3.ensures.value in
    let first : c.as_slice.result.now ≡ numbers = c.as_slice.ensures.value in
    let size : length numbers ≡ r.vertices = c.in_ok-numbers.ensures.one_each in
    let below = number-below (without_vertex c.args.u (end_pairs r.at)) r.vertices numbers c.in_ok-numbers.ensures x (omega (arith, lt, ap length same, size)) in
    omega (arith, below, size, ap (λ (xs : List ℕ). slice_index xs x) same, ap length first, ap length c.as_slice-2.ensures.value, c.in_ok-places.ensures.placed.size)

pub returns : goal.returns
returns c =
    let r = c.args.a.now in
    let numbers = c.in_ok-numbers.numbers.items in
    let placed = subst (λ (xs : List ℕ). ArePlaced (stands_at r.at c.args.u) (far_key r xs) (length xs) (darts r) c.in_ok-places.places.items c.in_ok-places.parts) c.as_slice.ensures.value c.in_ok-places.ensures in
    let made = c.in_ok-entered.ensures ∙ ap₂ (λ (xs ys : List ℕ). map (slice_index xs) ys) c.as_slice-2.ensures.value c.as_slice-3.ensures.value in
    AreEntered-from r c.args.u numbers c.in_ok-places.places.items c.in_ok-places.parts c.vertices.ensures.rotation c.requires.vertex c.requires.no_loop c.in_ok-numbers.ensures placed made
