use Rattle.std.proofs.Common.{◌≡◌, ℕ, ◌<◌, ◌≤◌, [], length, slice_index_or}
use Rattle.std.specs.List.{filter}
use Rattle.cp_cgraph.specs.Clustered.{clusters}
use Rattle.cp_skel.specs.Skeletons.{below, border_pairs, is_left}
use Rattle.cp_skel.specs.SkeletonTables.{pipes_of}
use Rattle.cp_skel.proofs.rows.VertexNames.pipes.Given as goal

abbrev pub invariant-loop-c : goal.invariant-loop-c
invariant-loop-c l = record {
  pipes : l.pipes ≡ pipes_of l.self.graph.now (filter (is_left l.self.graph.now) (below l.c));
  size : length l.pairs ≡ clusters l.self.graph.now;
  rest : (d : ℕ) → l.c ≤ d → d < clusters l.self.graph.now
      → slice_index_or l.pairs d [] ≡ border_pairs l.self.graph.now d;
}
