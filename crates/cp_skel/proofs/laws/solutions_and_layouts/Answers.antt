use Rattle.cp_skel.proofs.LayoutSolutions.{good-Solves}
use Rattle.cp_skel.proofs.SolutionGood.{Solves-good}
use Rattle.cp_skel.proofs.laws.solutions_and_layouts.Goals as goal

pub returns-clause-solution : goal.returns-clause-solution
returns-clause-solution c = λ g is l good. good-Solves g l is good

pub returns-clause-layout : goal.returns-clause-layout
returns-clause-layout c = λ g is s solves. Solves-good g s is solves
