use Rattle.std.proofs.Common.{◌≡◌, ℕ, ◌<◌, false}
use Rattle.std.specs.Prelude.{slice_index_or}
use Rattle.cp_border.specs.Lines.{HasNodeList}
use Rattle.cp_border.proofs.lines.first_wrong_list.Given as goal

abbrev pub invariant-loop-v : goal.invariant-loop-v
invariant-loop-v l = record {
  right : (i : ℕ) → i < l.v → HasNodeList l.g l.lay i;
  unseen : (d : ℕ) → slice_index_or l.seen d false ≡ false;
}
