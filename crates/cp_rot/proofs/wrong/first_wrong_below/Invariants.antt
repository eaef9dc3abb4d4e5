use Rattle.std.proofs.Common.{ℕ, ◌<◌, ◌≤◌, slice_index}
use Rattle.cp_rot.specs.Tables.{IsUnmarked}
use Rattle.cp_rot.specs.Lists.{HasList}
use Rattle.cp_rot.proofs.wrong.first_wrong_below.Given as goal

abbrev pub invariant-loop-v : goal.invariant-loop-v
invariant-loop-v l = record {
  right : (i : ℕ) → i < l.v → HasList l.at l.lists i;
  unseen : (d : ℕ) → l.v ≤ slice_index l.at d → IsUnmarked l.seen d;
}
