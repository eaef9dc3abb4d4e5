use Rattle.std.proofs.Common.{◌≡◌, take}
use Rattle.cp_rot.specs.Genus.{end_pairs}
use Rattle.cp_rotlaw.proofs.star_parts.ends_of.Given as goal

abbrev pub invariant-loop-e : goal.invariant-loop-e
invariant-loop-e l = l.ends.items ≡ take l.e (end_pairs l.a.at)
