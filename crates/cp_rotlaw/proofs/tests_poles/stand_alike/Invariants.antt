use Rattle.std.proofs.Common.{◌≡◌, ℕ, ◌<◌}
use Rattle.cp_rot.specs.Systems.{vertex_of}
use Rattle.cp_rotlaw.proofs.tests_poles.stand_alike.Given as goal

abbrev pub invariant-loop-d : goal.invariant-loop-d
invariant-loop-d l = (f : ℕ) → f < l.d → vertex_of l.b f ≡ vertex_of l.a f
