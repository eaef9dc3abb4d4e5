use Rattle.std.proofs.Common.{refl}
use Rattle.cp_rot.specs.Tables.{system_of}
use Rattle.cp_rot.proofs.Rotations.{in_list}
use Rattle.cp_rot.proofs.RewriteCode.{joined_is}
use Rattle.cp_rot.proofs.merging.with_one_vertex.Goals as goal

pub lists_joined-requires-clause-first : goal.lists_joined-requires-clause-first
lists_joined-requires-clause-first c = in_list (system_of c.args.at.now c.args.lists.now) c.requires.rotation c.args.d c.requires.first

pub lists_joined-requires-clause-second : goal.lists_joined-requires-clause-second
lists_joined-requires-clause-second c = in_list (system_of c.args.at.now c.args.lists.now) c.requires.rotation c.args.f c.requires.second

pub returns : goal.returns
returns c = joined_is c.args.d c.args.f _ _ c.requires.rotation refl refl c.in_ok-new_at.ensures c.in_ok-new_lists.ensures
