use Rattle.std.proofs.Common.{◌∙◌}
use Rattle.cp_border.proofs.ViewLaws.{tables_told, room_for_darts}
use Rattle.cp_border.proofs.tables.write_slices.Goals as goal

pub invariant_of-arranged : goal.invariant_of-arranged
invariant_of-arranged c = record {
  clustered = c.is_clustered.ensures.clustered;
  arranged = c.requires.arranged;
  few_vertices = c.requires.places.few_vertices;
  few_edges = c.requires.places.few_edges;
  first_told = c.write_first.ensures;
}

pub write_at-requires : goal.write_at-requires
write_at-requires c =
    (room_for_darts c.args.g.now c.args.lay.now _ c.is_clustered.ensures.clustered c.requires.arranged
    c.requires.places).0

pub write_turns-requires-clause-room : goal.write_turns-requires-clause-room
write_turns-requires-clause-room c =
    (room_for_darts c.args.g.now c.args.lay.now _ c.is_clustered.ensures.clustered c.requires.arranged
    c.requires.places).1

pub returns : goal.returns
returns c =
    tables_told c.args.g.now c.args.lay.now _ c.is_clustered.ensures.clustered c.requires.arranged
    record {
      few_vertices = c.requires.places.few_vertices;
      few_edges = c.requires.places.few_edges;
      first_places = c.write_first.auto.first ∙ c.requires.places.first_places;
      at_places = c.write_at.auto.at ∙ c.requires.places.at_places;
      following_places = c.write_turns.auto.next ∙ c.requires.places.following_places;
      begins_places = c.write_turns.auto.begins ∙ c.requires.places.begins_places;
    }
    c.write_first.ensures c.write_at.ensures c.write_turns.ensures
