use Rattle.std.proofs.Common.{◌≡◌, ◌++◌, drop}
use Rattle.cp_cgraph.specs.Entries.{keyed}
use Rattle.cp_cgraph.specs.GraphFaults.{later}
use Rattle.cp_cgraph.proofs.fault.note_later.Given as goal

abbrev pub invariant-noting : goal.invariant-noting
invariant-noting l =
    l.faults ++ later l.kind (keyed l.key (drop l.entry-index l.entries)) ≡ l.initial.faults ++ later l.kind
    (keyed l.key l.entries)
