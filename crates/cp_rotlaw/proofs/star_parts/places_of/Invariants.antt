use Rattle.std.proofs.Common.{length}
use Rattle.cp_rot.specs.Tables.{stands_at}
use Rattle.cp_rotlaw.specs.StarParts.{far_key, ArePlaced}
use Rattle.cp_rotlaw.proofs.star_parts.places_of.Given as goal

abbrev pub invariant-loop-d : goal.invariant-loop-d
invariant-loop-d l = ArePlaced (stands_at l.a.at l.u) (far_key l.a l.numbers) (length l.numbers) l.d l.places.items l.parts
