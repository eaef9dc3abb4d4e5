use Rattle.std.proofs.Common.{◌≡◌, ℕ, ◌<◌, slice_index}
use Rattle.cp_lists.specs.Count.{count}
use Rattle.cp_cgraph.specs.Clustered.{clusters}
use Rattle.cp_cgraph.specs.Crossings.{leaves}
use Rattle.cp_border.proofs.lines.count_leaving.Given as goal

abbrev pub invariant-loop-e : goal.invariant-loop-e
invariant-loop-e l = (c : ℕ) → c < clusters l.g → slice_index l.counts c ≡ count l.e (leaves l.g c)
