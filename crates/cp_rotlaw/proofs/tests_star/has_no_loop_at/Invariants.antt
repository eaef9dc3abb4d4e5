-- The darts so far are of no loop at u.
use Rattle.std.proofs.Common.{◌≡◌, ◌≢◌, ℕ, ◌<◌}
use Rattle.cp_rot.specs.Systems.{vertex_of}
use Rattle.cp_faces.specs.Twins.{twin}
use Rattle.cp_rotlaw.proofs.tests_star.has_no_loop_at.Given as goal

abbrev pub invariant-loop-d : goal.invariant-loop-d
invariant-loop-d l = (d : ℕ) → d < l.d → vertex_of l.a d ≡ l.u → vertex_of l.a (twin d) ≢ l.u
