use Rattle.std.proofs.Common.{arith}
use Rattle.cp_rot.specs.Systems.{edges}
use Rattle.cp_rotlaw.proofs.RestrictedSystems.{restricted_zero}
use Rattle.cp_rotlaw.proofs.RestrictionLaws.{restriction_exists, restriction_zero}
use Rattle.cp_rotlaw.proofs.laws.restriction_keeps_genus_zero.Goals as goal

pub returns-clause-edges_deleted : goal.returns-clause-edges_deleted
returns-clause-edges_deleted c = λ r is zero keeps. restricted_zero (edges r) keeps r is (omega arith) zero

pub returns-clause-exists : goal.returns-clause-exists
returns-clause-exists c = λ r is keeps. restriction_exists r keeps is

pub returns-clause-each : goal.returns-clause-each
returns-clause-each c = λ r s is is' keeps number original res. restriction_zero r s keeps number original is is' res
