use Rattle.std.proofs.Common.{◌≡◌}
use Rattle.cp_lists.specs.Count.{count}
use Rattle.cp_rot.specs.Rewrites.{values}
use Rattle.cp_rotlaw.specs.Glue.{edge_avoids}
use Rattle.cp_rotlaw.proofs.gluing_tables.kept_before.Given as goal

abbrev pub invariant-loop-e : goal.invariant-loop-e
invariant-loop-e l = (l.kept.items ≡ values l.e (λ e. count e (edge_avoids l.b l.w))) × (l.number ≡ count l.e (edge_avoids l.b l.w))
