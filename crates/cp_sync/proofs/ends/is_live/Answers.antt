use Rattle.std.proofs.Common.{sym, ◌∙◌, arith}
use Rattle.std.proofs.lemmas.Bool.{eqb-false}
use Rattle.std.proofs.lemmas.List.{get_or-map, length-map}
use Rattle.cp_board.specs.declared.parts.Vert.{Vert}
use Rattle.cp_board.specs.Instances.{names_of_verts}
use Rattle.cp_sync.proofs.Places.{live_place}
use Rattle.cp_sync.proofs.ends.is_live.Goals as goal

pub returns-clause-no : goal.returns-clause-no
returns-clause-no c = λ f live.
    let verts = c.args.verts.now in
    let at = live_place (names_of_verts verts) c.args.v c.lower_place-place.result c.requires live c.lower_place-place.ensures in
    eqb-false _ c.args.v f (sym (get_or-map (λ (x : Vert). x.name) verts c.lower_place-place.result _ 0 (omega (arith, at.0, length-map verts (λ (x : Vert). x.name)))) ∙ at.1)
