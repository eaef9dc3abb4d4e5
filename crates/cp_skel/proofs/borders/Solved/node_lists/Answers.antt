use Rattle.std.proofs.Common.{ℕ, ◌<◌, List, [], ◌∷◌, ◌++◌, sym, ap, ap₂, ◌∙◌, arith}
use Rattle.std.proofs.lemmas.List.{get_or_default}
use Rattle.cp_lists.specs.Turns.{turned_to_least}
use Rattle.cp_board.specs.Solutions.{list_in}
use Rattle.cp_cgraph.specs.Clustered.{nodes}
use Rattle.cp_skel.specs.SolutionLayouts.{solved_node}
use Rattle.cp_skel.proofs.GatheredLists.{map_more}
use Rattle.cp_skel.proofs.borders.Solved.node_lists.Goals as goal

pub loop-v-preserved : goal.loop-v-preserved
loop-v-preserved c =
    let list : ℕ → List ℕ =
    λ v. turned_to_least (solved_node c.args.self.now.graph.now (list_in c.args.self.now.solution.now) v) in
    let node : c.loop-v.v < nodes c.args.self.now.graph.now = omega (arith, c.nodes-v-end.ensures.value) in
    let loops =
    c.items.ensures ∙ c.index-loops-v.is
    ∙ get_or_default c.args.loops.now c.loop-v.v c.index-loops-v.result [] (omega (arith, c.requires.size, node))
    ∙ c.requires.each c.loop-v.v node in
    c.in_ok-push.ensures.ok
    ∙ ap₂ (λ (ls : List (List ℕ)) (l : List ℕ). ls ++ l ∷ []) c.loop-v.invariant
    (c.in_ok-from_least_item.ensures
    ∙ ap turned_to_least (c.as_slice.ensures.value ∙ c.in_ok-extend_from_slice.ensures.items
    ∙ ap₂ (λ (xs : List ℕ) (ys : List ℕ). xs ++ ys) c.in_ok-darts.ensures loops))
    ∙ sym (map_more list c.loop-v.v)
