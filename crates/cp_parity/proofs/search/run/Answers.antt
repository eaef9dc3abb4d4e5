-- One var more of the search is done.
use Rattle.std.proofs.Common.{◌≡◌, ℕ, ◌<◌, ◌≤◌, false, Some, List, get_or, length, slice_get, arith}
use Rattle.std.proofs.lemmas.Option.{slice_get-get_or, slice_get_within}
use Rattle.cp_parity.specs.declared.found.Found.{Found}
use Rattle.cp_parity.proofs.SearchSteps.{found-le, GoesOn-trans}
use Rattle.cp_parity.proofs.search.run.Goals as goal

-- what stays is as long
stay-le : (found more : List Found) (k : ℕ) → ((j : ℕ) (f : Found) → slice_get found j ≡ Some f → slice_get more j ≡
    Some f) → k < length found → k < length more
stay-le found more k stay lt =
    let none : Found = record { var = 0; bit = false; up = 0; link = 0 } in
    slice_get_within more k (get_or found k none) (stay k (get_or found k none) (slice_get-get_or found k none lt))

pub loop-done-smaller : goal.loop-done-smaller
loop-done-smaller c =
    let few : length c.loop-done.search.found.items ≤ length c.loop-done.search.places.items = found-le
    c.loop-done.search.found.items c.loop-done.search.places.items
    c.loop-done.invariant.goes_on.is_search.are_placed in
    let same : length c.loop-done.search.places.items ≡ length c.args.search.now.places.items =
    c.loop-done.invariant.goes_on.same_size in
    let lt : c.loop-done.done < length c.loop-done.search.found.items = omega
    (arith, c.loop-done-test.true, c.len.ensures) in
    omega arith

pub loop-done-preserved : goal.loop-done-preserved
loop-done-preserved c =
    let lt : c.loop-done.done < length c.loop-done.search.found.items = omega
    (arith, c.loop-done-test.true, c.len.ensures) in
    let more : c.loop-done.done < length c.follow_all.new.search.found.items = stay-le c.loop-done.search.found.items
    c.follow_all.new.search.found.items c.loop-done.done c.in_ok-follow_all.ensures.goes_on.stay lt in
    record {
      not_before = omega (arith, c.loop-done.invariant.not_before);
      within = omega arith;
      goes_on = GoesOn-trans c.args.eqs.now c.args.root c.args.search.now.found.items c.args.search.now.places.items
          c.loop-done.search.found.items c.loop-done.search.places.items
          c.follow_all.new.search.found.items c.follow_all.new.search.places.items c.loop-done.invariant.goes_on
          c.in_ok-follow_all.ensures.goes_on;
      are_done = c.in_ok-follow_all.ensures.done;
    }
