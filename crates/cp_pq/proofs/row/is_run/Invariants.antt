use Rattle.std.proofs.Common.{◌≡◌, cond, drop}
use Rattle.std.specs.List.{list_all}
use Rattle.cp_pq.specs.Founds.{is_out, found_run, found_leaving}
use Rattle.cp_pq.proofs.row.is_run.Given as goal

abbrev pub invariant-loop-found : goal.invariant-loop-found
invariant-loop-found l =
    cond l.left (list_all is_out (drop l.found-index l.founds))
    (cond l.entered (found_leaving (drop l.found-index l.founds)) (found_run (drop l.found-index l.founds))) ≡ found_run l.founds
