use Rattle.std.proofs.Common.{◌≡◌, cond, drop}
use Rattle.std.specs.List.{list_all}
use Rattle.cp_pq.specs.Founds.{is_in, found_sorted}
use Rattle.cp_pq.proofs.row.is_sorted.Given as goal

abbrev pub invariant-loop-found : goal.invariant-loop-found
invariant-loop-found l = cond l.entered (list_all is_in (drop l.found-index l.founds)) (found_sorted (drop l.found-index l.founds)) ≡ found_sorted l.founds
