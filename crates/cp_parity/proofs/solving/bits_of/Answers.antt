-- One var more has its bit.
use Rattle.std.proofs.Common.{◌≡◌, ◌<◌, false, Some, List, get_or, length, slice_get, sym, ◌∙◌, subst, arith, length-set}
use Rattle.std.proofs.lemmas.Option.{slice_get-get_or}
use Rattle.cp_parity.specs.declared.found.Found.{Found}
use Rattle.cp_parity.specs.Search.{ArePlaced}
use Rattle.cp_parity.proofs.SearchSteps.{var_within, HasBits-more}
use Rattle.cp_parity.proofs.solving.bits_of.Goals as goal

abbrev none : Found
none = record { var = 0; bit = false; up = 0; link = 0 }

pub index_mut-requires : goal.index_mut-requires
index_mut-requires c =
    let f : Found = get_or c.deref-f-items.result.now c.loop-f.f-index none in
    let at : slice_get c.deref-f-items.result.now c.loop-f.f-index ≡ Some f = slice_get-get_or
    c.deref-f-items.result.now c.loop-f.f-index none c.loop-f-test.true in
    let placed = subst (λ (xs : List Found). ArePlaced xs c.args.search.now.places.items)
    (sym c.deref-f-items.ensures.value) c.requires in
    let within : f.var < length c.args.search.now.places.items = var_within c.deref-f-items.result.now
    c.args.search.now.places.items c.loop-f.f-index f placed at in
    omega (arith, c.loop-f.invariant.size)

pub loop-f-preserved : goal.loop-f-preserved
loop-f-preserved c =
    let f : Found = get_or c.deref-f-items.result.now c.loop-f.f-index none in
    let at : slice_get c.deref-f-items.result.now c.loop-f.f-index ≡ Some f = slice_get-get_or
    c.deref-f-items.result.now c.loop-f.f-index none c.loop-f-test.true in
    let placed = subst (λ (xs : List Found). ArePlaced xs c.args.search.now.places.items)
    (sym c.deref-f-items.ensures.value) c.requires in
    let within : f.var < length c.args.search.now.places.items = var_within c.deref-f-items.result.now
    c.args.search.now.places.items c.loop-f.f-index f placed at in
    record {
      size = length-set c.loop-f.bits.items f.var f.bit ∙ c.loop-f.invariant.size;
      are_set = HasBits-more c.deref-f-items.result.now c.args.search.now.places.items c.loop-f.f-index f
          c.loop-f.bits.items placed at (omega (arith, c.loop-f.invariant.size)) c.loop-f.invariant.are_set;
    }
