use Rattle.std.proofs.Common.{◌≡◌}
use Rattle.cp_force.specs.Fits.{words_of, ties_of}
use Rattle.cp_force.proofs.fitting.joined.Given as goal

abbrev pub invariant-loop-fitted : goal.invariant-loop-fitted
invariant-loop-fitted l = (l.word ≡ words_of l.yielded) × (l.ties ≡ ties_of l.yielded)
