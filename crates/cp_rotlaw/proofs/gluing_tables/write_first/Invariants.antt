use Rattle.std.proofs.Common.{true}
use Rattle.cp_lists.specs.Count.{count}
use Rattle.cp_rot.specs.Systems.{vertex_of}
use Rattle.cp_rotlaw.specs.Systems.{is_other}
use Rattle.cp_rotlaw.proofs.GluedNumbers.{Written}
use Rattle.cp_rotlaw.proofs.gluing_tables.write_first.Given as goal

abbrev pub invariant-loop-d : goal.invariant-loop-d
invariant-loop-d l = Written (λ d. d) (λ d. count (vertex_of l.a d) (is_other l.u)) (λ d. true) l.d l.fn.at l.at
