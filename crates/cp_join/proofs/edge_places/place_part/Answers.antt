-- One edge more has the place.
use Rattle.std.proofs.Common.{refl}
use Rattle.std.specs.Prelude.{slice_index}
use Rattle.cp_join.proofs.TablesOfPlaces.{place_in-insert, place_part-more}
use Rattle.cp_join.proofs.edge_places.place_part.Goals as goal

pub loop-edge-preserved : goal.loop-edge-preserved
loop-edge-preserved c = λ none e.
    let edge = slice_index c.args.part.now c.loop-edge.edge-index in
    place_part-more c.args.part.now c.loop-edge.edge-index c.args.place c.args.places.now c.loop-edge.places
    c.insert.new.self edge none e c.loop-edge-test.true refl (c.loop-edge.invariant none e)
    (place_in-insert c.loop-edge.places c.insert.new.self edge c.args.place c.in_ok-insert.ensures.updates none e)
