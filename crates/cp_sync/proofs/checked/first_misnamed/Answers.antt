use Rattle.std.proofs.Common.{subst}
use Rattle.std.proofs.lemmas.List.{get_or-map}
use Rattle.cp_board.specs.declared.parts.Vert.{Vert}
use Rattle.cp_board.specs.declared.parts.EdgeRow.{EdgeRow}
use Rattle.cp_board.specs.declared.parts.Pipe.{Pipe}
use Rattle.cp_board.specs.Instances.{Synchronized}
use Rattle.cp_board.specs.Faults.{Names, IsFirstBroken}
use Rattle.cp_board.proofs.FirstBroken.{IsFirstBroken-vert, IsFirstBroken-edge, IsFirstBroken-pipe}
use Rattle.cp_sync.specs.Faults.{with_parts}
use Rattle.cp_sync.proofs.RuleTables.{Keeps-all, before_names}
use Rattle.cp_sync.proofs.checked.first_misnamed.Goals as goal

pub returns-in-Some : goal.returns-in-Some
returns-in-Some c =
    let i : Synchronized = with_parts c.args.verts.now c.args.edges.now c.args.pipes.now in
    let first = c.in-Some.ensures in
    subst (IsFirstBroken i 1) (get_or-map (λ (v : Vert). v.name) c.args.verts.now c.in-Some.k c.index-verts-k.result 0 first.within)
    (IsFirstBroken-vert i Names (before_names i) c.in-Some.k first.within first.fails first.before)

pub returns-in-Some-first_wrong_name : goal.returns-in-Some-first_wrong_name
returns-in-Some-first_wrong_name c =
    let i : Synchronized = with_parts c.args.verts.now c.args.edges.now c.args.pipes.now in
    let first = c.in-Some-first_wrong_name.ensures in
    subst (IsFirstBroken i 1) (get_or-map (λ (e : EdgeRow). e.name) c.args.edges.now c.in-Some-first_wrong_name.k record { name = 0; a = 0; b = 0 } 0 first.within)
    (IsFirstBroken-edge i Names (before_names i) c.in_default.ensures c.in-Some-first_wrong_name.k first.within first.fails first.before)

pub returns-in-Some-first_wrong_name-2 : goal.returns-in-Some-first_wrong_name-2
returns-in-Some-first_wrong_name-2 c =
    let i : Synchronized = with_parts c.args.verts.now c.args.edges.now c.args.pipes.now in
    let first = c.in-Some-first_wrong_name-2.ensures in
    subst (IsFirstBroken i 1) (get_or-map (λ (p : Pipe). p.name) c.args.pipes.now c.in-Some-first_wrong_name-2.k c.index-pipes-k.result 0 first.within)
    (IsFirstBroken-pipe i Names (before_names i) c.in_default.ensures c.in_default-first_wrong_name.ensures c.in-Some-first_wrong_name-2.k first.within first.fails first.before)

pub returns : goal.returns
returns c =
    let i : Synchronized = with_parts c.args.verts.now c.args.edges.now c.args.pipes.now in
    Keeps-all i Names c.in_default.ensures c.in_default-first_wrong_name.ensures c.in_default-first_wrong_name-2.ensures
