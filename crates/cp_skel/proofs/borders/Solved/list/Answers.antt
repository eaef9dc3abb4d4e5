use Rattle.std.proofs.Common.{ℕ, ◌<◌, List, length, sym, ◌∙◌, subst, arith}
use Rattle.std.specs.List.{All, Contains}
use Rattle.cp_lists.proofs.DistinctLists.{Has-Contains}
use Rattle.cp_skel.specs.Skeletons.{all_vertices, below, kept_segments}
use Rattle.cp_skel.proofs.Ranges.{Has-range}
use Rattle.cp_skel.proofs.borders.Solved.list.Goals as goal

pub list_of-requires : goal.list_of-requires
list_of-requires c =
    let n : ℕ = length (all_vertices c.args.self.now.graph.now) in
    subst (λ (xs : List ℕ). Contains xs c.args.vertex) (sym c.args.self.now.named)
    ((Has-Contains c.args.vertex (below n)).0 (Has-range c.args.vertex 0 n (omega arith) (omega (arith, c.requires))))

pub returns-clause-segments : goal.returns-clause-segments
returns-clause-segments c =
    subst (All (λ n. n < length (kept_segments c.args.self.now.graph.now))) (sym (c.items.ensures ∙ c.list_of.ensures))
    (c.args.self.now.segments c.args.vertex c.requires)
