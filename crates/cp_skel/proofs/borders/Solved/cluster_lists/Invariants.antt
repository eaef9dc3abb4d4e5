use Rattle.std.proofs.Common.{◌≡◌, ◌-◌, map}
use Rattle.std.specs.List.{range_with_len}
use Rattle.cp_lists.specs.Turns.{turned_to_least}
use Rattle.cp_board.specs.Solutions.{list_in}
use Rattle.cp_skel.specs.SolutionLayouts.{solved_cluster}
use Rattle.cp_skel.proofs.borders.Solved.cluster_lists.Given as goal

abbrev pub invariant-loop-c : goal.invariant-loop-c
invariant-loop-c l =
    l.lists
    ≡ map (λ c. turned_to_least (solved_cluster l.self.graph.now (list_in l.self.solution.now) c))
    (range_with_len 1 (l.c - 1))
