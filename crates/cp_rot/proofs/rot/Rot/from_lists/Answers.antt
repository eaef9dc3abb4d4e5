use Rattle.std.proofs.Common.{ℕ, Option, MatchOption, subst}
use Rattle.cp_rot.specs.FirstWrong.{IsRightList, IsFirstWrong}
use Rattle.cp_rot.proofs.WrongLists.{IsRotation-from}
use Rattle.cp_rot.proofs.rot.Rot.from_lists.Goals as goal

pub from_rotation-requires : goal.from_rotation-requires
from_rotation-requires c =
    let right = subst (λ (o : Option ℕ). MatchOption o ((i : ℕ) → IsRightList c.args.vertices c.args.at.now c.args.lists.now i) (λ i. IsFirstWrong c.args.vertices c.args.at.now c.args.lists.now i)) c.in-None.is c.in_ok-vertex.ensures in
    IsRotation-from c.args.vertices c.args.at.now c.args.lists.now c.requires.even c.requires.placed c.requires.listed right
