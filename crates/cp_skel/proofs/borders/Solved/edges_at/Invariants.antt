use Rattle.std.proofs.Common.{◌≡◌, map, take}
use Rattle.cp_skel.specs.SolutionLayouts.{name_edge}
use Rattle.cp_skel.proofs.borders.Solved.edges_at.Given as goal

abbrev pub invariant-loop-name : goal.invariant-loop-name
invariant-loop-name l = l.found.items ≡ map (name_edge l.self.graph.now) (take l.name-index l.name-items)
