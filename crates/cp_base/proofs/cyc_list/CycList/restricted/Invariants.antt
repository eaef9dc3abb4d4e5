-- the items so far that are kept
use Rattle.std.proofs.Common.{◌≡◌, take, slice_index_or, false}
use Rattle.std.specs.List.{filter}
use Rattle.cp_base.proofs.cyc_list.CycList.restricted.Given as goal

abbrev pub invariant-loop-x : goal.invariant-loop-x
invariant-loop-x l = l.items.items ≡ filter (λ x. slice_index_or l.keep x false) (take l.x-index l.x-items)
