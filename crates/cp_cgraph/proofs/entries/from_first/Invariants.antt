use Rattle.std.proofs.Common.{◌≡◌, drop}
use Rattle.cp_cgraph.specs.Passes.{from_first}
use Rattle.cp_cgraph.proofs.entries.from_first.Given as goal

abbrev pub invariant-seeking : goal.invariant-seeking
invariant-seeking l = from_first l.key (drop l.i l.entries) ≡ from_first l.key l.entries
