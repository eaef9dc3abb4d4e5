use Rattle.std.proofs.Common.{◌≡◌}
use Rattle.cp_rot.specs.Rewrites.{values}
use Rattle.cp_rotlaw.specs.PoleClasses.{permuted_list}
use Rattle.cp_rotlaw.proofs.pole_rows.permuted_lists.Given as goal

abbrev pub invariant-loop-w : goal.invariant-loop-w
invariant-loop-w l = l.lists.items ≡ values l.w (permuted_list l.a l.u l.v l.order l.row)
