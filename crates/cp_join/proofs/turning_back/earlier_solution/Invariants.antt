use Rattle.std.proofs.Common.{◌≡◌, map, take}
use Rattle.cp_board.specs.Solutions.{list_in}
use Rattle.cp_join.specs.InnerSystems.{with_orders}
use Rattle.cp_join.proofs.turning_back.earlier_solution.Given as goal

abbrev pub invariant-loop-v : goal.invariant-loop-v
invariant-loop-v l =
    l.solution
    ≡ map (λ v. (v, with_orders l.ends.0 l.ends.1 l.first l.second (list_in l.after) v)) (take l.v-index l.verts)
