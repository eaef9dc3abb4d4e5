use Rattle.std.proofs.Common.{◌≡◌, ◌+◌, drop}
use Rattle.cp_cgraph.specs.Passes.{until}
use Rattle.cp_cgraph.proofs.entries.until.Given as goal

abbrev pub invariant-seeking : goal.invariant-seeking
invariant-seeking l = l.i + until l.key (drop l.i l.entries) ≡ until l.key l.entries
