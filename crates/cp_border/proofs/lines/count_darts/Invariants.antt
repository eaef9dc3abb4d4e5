use Rattle.std.proofs.Common.{◌≡◌, ℕ, ◌<◌, slice_index}
use Rattle.std.specs.Prelude.{◌==◌}
use Rattle.cp_lists.specs.Count.{count}
use Rattle.cp_cgraph.specs.Clustered.{nodes, node_of}
use Rattle.cp_border.proofs.lines.count_darts.Given as goal

abbrev pub invariant-loop-d : goal.invariant-loop-d
invariant-loop-d l = (v : ℕ) → v < nodes l.g → slice_index l.counts v ≡ count l.d (λ d. node_of l.g d == v)
