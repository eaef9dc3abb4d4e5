use Rattle.std.proofs.Common.{slice_set, sym, ap, ◌∙◌, arith}
use Rattle.std.proofs.lemmas.List.{get_or-map, length-map}
use Rattle.cp_board.specs.declared.parts.EdgeRow.{EdgeRow}
use Rattle.cp_board.specs.Instances.{names_of_edges}
use Rattle.cp_sync.proofs.Places.{live_place}
use Rattle.cp_sync.proofs.Moves.{moved-place}
use Rattle.cp_sync.proofs.rewriting.move_end.Goals as goal

pub bounds-edges-place : goal.bounds-edges-place
bounds-edges-place c =
    let at = live_place (names_of_edges c.args.edges.now) c.args.m.now.edge c.lower_place-place.result c.requires.rising c.requires.live c.lower_place-place.ensures in
    omega (arith, at.0, length-map c.args.edges.now (λ (e : EdgeRow). e.name))

pub after_move-requires : goal.after_move-requires
after_move-requires c =
    let at = live_place (names_of_edges c.args.edges.now) c.args.m.now.edge c.lower_place-place.result c.requires.rising c.requires.live c.lower_place-place.ensures in
    sym (get_or-map (λ (e : EdgeRow). e.name) c.args.edges.now c.lower_place-place.result record { name = 0; a = 0; b = 0 } 0
    (omega (arith, at.0, length-map c.args.edges.now (λ (e : EdgeRow). e.name))))
    ∙ at.1

pub returns : goal.returns
returns c =
    let at = live_place (names_of_edges c.args.edges.now) c.args.m.now.edge c.lower_place-place.result c.requires.rising c.requires.live c.lower_place-place.ensures in
    ap (slice_set c.args.edges.now c.lower_place-place.result) c.after_move.ensures
    ∙ moved-place c.args.m.now c.args.edges.now c.lower_place-place.result record { name = 0; a = 0; b = 0 } c.requires.rising
    (omega (arith, at.0, length-map c.args.edges.now (λ (e : EdgeRow). e.name))) at.1
