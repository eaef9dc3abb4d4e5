use Rattle.std.proofs.Common.{◌≡◌, map}
use Rattle.cp_lists.specs.Turns.{turned_to_least}
use Rattle.cp_board.specs.Solutions.{list_in}
use Rattle.cp_skel.specs.Skeletons.{below}
use Rattle.cp_skel.specs.SolutionLayouts.{solved_node}
use Rattle.cp_skel.proofs.borders.Solved.node_lists.Given as goal

abbrev pub invariant-loop-v : goal.invariant-loop-v
invariant-loop-v l =
    l.lists ≡ map (λ v. turned_to_least (solved_node l.self.graph.now (list_in l.self.solution.now) v)) (below l.v)
