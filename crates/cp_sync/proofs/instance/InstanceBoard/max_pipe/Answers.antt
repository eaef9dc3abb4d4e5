use Rattle.std.proofs.Common.{length, sym, subst}
use Rattle.std.specs.Prelude.{slice_index_or}
use Rattle.cp_board.specs.Instances.{Synchronized}
use Rattle.cp_board.specs.Runs.{IsGreatestName}
use Rattle.cp_sync.specs.Tables.{IsGreatestPlace}
use Rattle.cp_sync.proofs.Greatest.{IsGreatestName-from}
use Rattle.cp_sync.proofs.instance.InstanceBoard.max_pipe.Goals as goal

pub returns-clause-some : goal.returns-clause-some
returns-clause-some c =
    let i : Synchronized = record { verts = c.self.inside.verts; edges = c.self.inside.edges; pipes = c.self.inside.pipes } in
    let d = c.index-pipes-greatest.result in
    subst (λ j. IsGreatestName j (slice_index_or c.items-pipes.result.now c.greatest.result d).name) c.self.view_is
    (subst (λ ps. IsGreatestName i (slice_index_or ps c.greatest.result d).name) (sym c.items-pipes.ensures)
    (IsGreatestName-from i c.greatest.result d c.self.invariant.0 (subst (λ ps. IsGreatestPlace ps (length ps) c.greatest.result) c.items-pipes.ensures c.greatest.ensures)))
