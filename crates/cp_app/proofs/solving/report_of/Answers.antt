-- The layout of the solution, or that the skeletons have none.
use Rattle.std.proofs.Common.{refl}
use Rattle.cp_app.proofs.LeastLayouts.{solution-IsSolvedReport, unsolvable-not_planar}
use Rattle.cp_app.proofs.solving.report_of.Goals as goal

pub returns-in_ok-layout-in-Solved : goal.returns-in_ok-layout-in-Solved
returns-in_ok-layout-in-Solved c =
    solution-IsSolvedReport c.args.graph.now c.in_ok-layout-in-Solved.layout _ c.in_ok-layout-in-Solved.ensures.lists
    c.in_ok-layout-in-Solved.ensures.good

pub returns-in-Failed : goal.returns-in-Failed
returns-in-Failed c =
    unsolvable-not_planar c.args.graph.now _ c.is_clustered.ensures.clustered refl
    (rw c.in-Failed.is at c.requires.run.outcome).1
