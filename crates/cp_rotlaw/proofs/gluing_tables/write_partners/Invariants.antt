use Rattle.std.proofs.Common.{true, slice_index_or}
use Rattle.cp_faces.specs.Twins.{twin}
use Rattle.cp_rotlaw.proofs.GluedNumbers.{Written}
use Rattle.cp_rotlaw.proofs.gluing_tables.write_partners.Given as goal

abbrev pub invariant-loop-i : goal.invariant-loop-i
invariant-loop-i l = Written (λ i. twin (slice_index_or l.pairs i (0, 0)).1) (λ i. (slice_index_or l.pairs i (0, 0)).0) (λ i. true) l.i l.fn.numbers l.numbers
