use Rattle.std.proofs.Common.{◌≡◌, true, take}
use Rattle.std.specs.List.{list_all}
use Rattle.cp_pq.specs.Founds.{is_in}
use Rattle.cp_pq.proofs.row.are_in.Given as goal

abbrev pub invariant-loop-found : goal.invariant-loop-found
invariant-loop-found l = list_all is_in (take l.found-index l.founds) ≡ true
