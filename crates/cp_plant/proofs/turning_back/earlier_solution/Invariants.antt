-- The first vertices have their lists.
use Rattle.std.proofs.Common.{◌≡◌, map, take}
use Rattle.cp_board.specs.Solutions.{list_in}
use Rattle.cp_plant.specs.TreeWords.{with_ends}
use Rattle.cp_plant.proofs.turning_back.earlier_solution.Given as goal

abbrev pub invariant-loop-v : goal.invariant-loop-v
invariant-loop-v l =
    l.solution
    ≡ map (λ v. (v, with_ends l.ends.0 l.ends.1 l.at_end l.at_other (list_in l.after) v)) (take l.v-index l.verts)
