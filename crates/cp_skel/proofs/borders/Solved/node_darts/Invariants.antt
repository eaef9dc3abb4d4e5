use Rattle.std.proofs.Common.{◌≡◌, map, take}
use Rattle.cp_skel.specs.SolutionLayouts.{name_dart}
use Rattle.cp_skel.proofs.borders.Solved.node_darts.Given as goal

abbrev pub invariant-loop-name : goal.invariant-loop-name
invariant-loop-name l = l.darts.items ≡ map (name_dart l.self.graph.now l.v) (take l.name-index l.name-items)
