use Rattle.std.proofs.Common.{◌≤◌}
use Rattle.cp_lists.specs.Count.{IsCount}
use Rattle.cp_rot.specs.Genus.{IsBare}
use Rattle.cp_rot.proofs.faces.bare_vertices.Given as goal

abbrev pub invariant-loop-v : goal.invariant-loop-v
invariant-loop-v g l = record {
  counted : IsCount (IsBare (g.T.RotationSystem.system l.t)) l.v l.bare;
  few : l.bare ≤ l.v;
}
