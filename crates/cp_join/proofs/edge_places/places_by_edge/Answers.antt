-- One edge more is told.
use Rattle.std.proofs.Common.{◌-◌, ◌∙◌, eqb, length, arith}
use Rattle.std.specs.Prelude.{slice_index}
use Rattle.cp_join.specs.EdgePlaces.{place_in}
use Rattle.cp_join.proofs.TablesOfPlaces.{place_in-insert_turned, none_at_first, told_before, told_at_end, told_all}
use Rattle.cp_join.proofs.edge_places.places_by_edge.Goals as goal

pub loop-left-init : goal.loop-left-init
loop-left-init c = record {
  within = omega arith;
  told = λ e.
      none_at_first c.new-places.result c.new-places.ensures.empty (length c.args.edges.now) e
      ∙ told_at_end (λ name. eqb name e) c.args.edges.now;
}

pub loop-left-preserved : goal.loop-left-preserved
loop-left-preserved c =
    let edges = c.args.edges.now in
    let left = c.loop-left.left in
    record {
      within = omega (arith, c.loop-left.invariant.within);
      told = λ e.
          told_before (λ name. eqb name e) edges left 0 (place_in c.loop-left.places (length edges) e)
          (place_in c.insert.new.self (length edges) e) c.loop-left-test.true c.loop-left.invariant.within
          (c.loop-left.invariant.told e)
          (place_in-insert_turned c.loop-left.places c.insert.new.self (slice_index edges (left - 1)) (left - 1)
          c.in_ok-insert.ensures.updates (length edges) e);
    }

pub returns : goal.returns
returns c = λ e.
    told_all (λ name. eqb name e) c.args.edges.now c.loop-left.left
    (place_in c.loop-left.places (length c.args.edges.now) e) (omega (arith, c.loop-left-test.false))
    (c.loop-left.invariant.told e)
