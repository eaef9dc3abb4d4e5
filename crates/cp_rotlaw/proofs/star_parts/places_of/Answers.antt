use Rattle.std.proofs.Common.{◌≡◌, ◌∙◌, ℕ, length, get_or, sym, refl, ap, subst, arith}
use Rattle.std.proofs.lemmas.List.{get_or_read}
use Rattle.cp_rot.specs.Systems.{darts}
use Rattle.cp_rot.specs.Tables.{stands_at}
use Rattle.cp_rotlaw.specs.StarParts.{far_key, ArePlaced}
use Rattle.cp_rotlaw.proofs.PartPlaces.{ArePlaced-none, parts-le}
use Rattle.cp_rotlaw.proofs.StarCode.{placed_new, placed_old, placed_skip}
use Rattle.cp_rotlaw.proofs.star_parts.places_of.Goals as goal
use Rattle.cp_rotlaw.proofs.star_parts.places_of.Goals.{then-at-u+then-index-eq0, then-at-u+else-index-eq0, else-at-u}

pub loop-d-init : goal.loop-d-init
loop-d-init c =
    let r = c.args.a.now in
    let numbers = c.args.numbers.now in
    subst (λ xs. ArePlaced (stands_at r.at c.args.u) (far_key r numbers) (length numbers) 0 xs 0)
    (sym (c.in_ok-places.ensures.items_if_clones_equal (λ y e. e)))
    (ArePlaced-none (stands_at r.at c.args.u) (far_key r numbers) (length numbers))

pub overflow_add-parts : goal.overflow_add-parts
overflow_add-parts c =
    let r = c.args.a.now in
    let few = parts-le (stands_at r.at c.args.u) (far_key r c.args.numbers.now) (length c.args.numbers.now) c.loop-d.d c.loop-d.places.items c.loop-d.parts c.loop-d.invariant in
    grind (arith, few, c.loop-d-test.true, c.darts-d-end.ensures.value)

pub loop-d-preserved : goal.loop-d-preserved
loop-d-preserved c =
    let r = c.args.a.now in
    let numbers = c.args.numbers.now in
    let u = c.args.u in
    elim c.if-at-u.branch [
      | then-at-u+then-index-eq0 w ↦
          let low = c.requires.within w.far_end.result (omega (arith, w.far_end.ensures.within, c.requires.size)) in
          let read = get_or_read c.loop-d.places.items _ _ (omega (arith, low, c.loop-d.invariant.placed.size)) w.index.ensures 0 in
          placed_new r u c.loop-d.d c.at.result w.far_end.result (get_or numbers w.far_end.result 0) numbers c.loop-d.invariant c.at.ensures w.if-at-u.true w.far_end.ensures.value refl low (sym read ∙ w.if-index-eq0.true) (ap (λ v. v.items) w.places-is) w.parts-is
      | then-at-u+else-index-eq0 w ↦
          let low = c.requires.within w.far_end.result (omega (arith, w.far_end.ensures.within, c.requires.size)) in
          let read = get_or_read c.loop-d.places.items _ _ (omega (arith, low, c.loop-d.invariant.placed.size)) w.index.ensures 0 in
          placed_old r u c.loop-d.d c.at.result w.far_end.result (get_or numbers w.far_end.result 0) numbers c.loop-d.invariant c.at.ensures w.if-at-u.true w.far_end.ensures.value refl low (λ e. w.if-index-eq0.false (read ∙ e)) (ap (λ v. v.items) w.places-is) w.parts-is
      | else-at-u w ↦ placed_skip r u c.loop-d.d c.at.result numbers c.loop-d.invariant c.at.ensures w.if-at-u.false (ap (λ v. v.items) w.places-is) w.parts-is
    ]

pub returns : goal.returns
returns c =
    let all : c.loop-d.d ≡ darts c.args.a.now = omega (arith, c.loop-d-test.false, c.darts-d-end.ensures.value, c.loop-d.auto.d-end) in
    subst (λ (n : ℕ). ArePlaced (stands_at c.args.a.now.at c.args.u) (far_key c.args.a.now c.args.numbers.now) (length c.args.numbers.now) n c.loop-d.places.items c.loop-d.parts) all c.loop-d.invariant
