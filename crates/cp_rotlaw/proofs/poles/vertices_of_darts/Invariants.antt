use Rattle.std.proofs.Common.{◌≡◌}
use Rattle.cp_rot.specs.Rewrites.{values}
use Rattle.cp_rot.specs.Systems.{vertex_of}
use Rattle.cp_rotlaw.proofs.poles.vertices_of_darts.Given as goal

abbrev pub invariant-loop-d : goal.invariant-loop-d
invariant-loop-d l = l.at.items ≡ values l.d (vertex_of l.a)
