use Rattle.std.proofs.Common.{[], sym, subst, ◌∙◌}
use Rattle.std.specs.List.{Contains}
use Rattle.std.proofs.lemmas.List.{get_or_default}
use Rattle.cp_board.specs.declared.parts.Pipe.{Pipe}
use Rattle.cp_board.specs.Instances.{Synchronized, names_of_verts}
use Rattle.cp_sync.specs.Tables.{IsFreePipe}
use Rattle.cp_sync.proofs.PipeTables.{ArePiped-more, PipeEnds-to}
use Rattle.cp_sync.proofs.RuleTables.{pipes_live}
use Rattle.cp_sync.proofs.piping.piping.Goals as goal

pub mark-requires-clause-live : goal.mark-requires-clause-live
mark-requires-clause-live c =
    let i : Synchronized = record { verts = c.args.verts.now; edges = []; pipes = c.args.pipes.now } in
    subst (λ (p : Pipe). Contains (names_of_verts c.args.verts.now) p.a × Contains (names_of_verts c.args.verts.now) p.b) (sym c.p-item.is)
    (pipes_live i c.requires.right c.loop-p.p-index c.p-item.result c.loop-p-test.true)

pub loop-p-preserved : goal.loop-p-preserved
loop-p-preserved c =
    let i : Synchronized = record { verts = c.args.verts.now; edges = []; pipes = c.args.pipes.now } in
    let p = c.p-item.result in
    ArePiped-more c.args.verts.now c.args.pipes.now c.loop-p.p-index p c.loop-p.piped.items c.mark.new.piped.items
    c.loop-p-test.true c.p-item.is c.requires.rising c.loop-p.invariant
    (subst (IsFreePipe c.args.verts.now c.loop-p.piped.items)
    (get_or_default c.args.pipes.now c.loop-p.p-index record { name = 0; a = 0; b = 0; pairs = [] } p c.loop-p-test.true ∙ sym c.p-item.is)
    (PipeEnds-to i c.loop-p.piped.items c.loop-p.p-index c.requires.rising c.loop-p.invariant
    (c.requires.right c.loop-p.p-index c.loop-p-test.true)))
    c.mark.ensures
