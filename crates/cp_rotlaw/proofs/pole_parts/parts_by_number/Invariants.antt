use Rattle.std.proofs.Common.{◌≡◌}
use Rattle.cp_rot.specs.Rewrites.{values}
use Rattle.cp_rotlaw.specs.PoleClasses.{dart_part}
use Rattle.cp_rotlaw.proofs.pole_parts.parts_by_number.Given as goal

abbrev pub invariant-loop-d : goal.invariant-loop-d
invariant-loop-d l = l.parts.items ≡ values l.d (dart_part l.a l.u l.v l.numbers)
