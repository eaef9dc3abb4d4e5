use Rattle.std.proofs.Common.{◌≡◌, ◌++◌, map, take}
use Rattle.cp_board.specs.Solutions.{list_in}
use Rattle.cp_join.specs.InnerSystems.{hat_darts}
use Rattle.cp_join.proofs.inner_systems.push_lists.Given as goal

abbrev pub invariant-loop-v : goal.invariant-loop-v
invariant-loop-v l =
    l.lists.items
    ≡ l.initial.lists.items ++ map (λ v. hat_darts l.hats l.end (list_in l.after v)) (take l.v-index l.verts)
