use Rattle.std.proofs.Common.{ℕ, List, [], ◌∷◌, ◌++◌, ap, ap₂, ◌∙◌, arith}
use Rattle.cp_lists.specs.Turns.{turned_to_least}
use Rattle.cp_board.specs.Solutions.{list_in}
use Rattle.cp_skel.specs.SolutionLayouts.{solved_cluster}
use Rattle.cp_skel.proofs.SolvedSteps.{from_one-more}
use Rattle.cp_skel.proofs.borders.Solved.cluster_lists.Goals as goal

pub loop-c-preserved : goal.loop-c-preserved
loop-c-preserved c =
    let list : ℕ → List ℕ =
    λ b. turned_to_least (solved_cluster c.args.self.now.graph.now (list_in c.args.self.now.solution.now) b) in
    c.in_ok-push.ensures.ok
    ∙ ap₂ (λ (ls : List (List ℕ)) (l : List ℕ). ls ++ l ∷ []) c.loop-c.invariant
    (c.in_ok-from_least_item.ensures ∙ ap turned_to_least (c.as_slice.ensures.value ∙ c.in_ok-found.ensures))
    ∙ from_one-more list c.loop-c.c (omega (arith, c.loop-c.auto.c))
