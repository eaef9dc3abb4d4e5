use Rattle.std.proofs.Common.{◌≡◌, ℕ, ◌<◌, false}
use Rattle.std.specs.Prelude.{slice_index_or}
use Rattle.cp_border.specs.Lines.{HasBorderList}
use Rattle.cp_border.proofs.lines.first_wrong_border.Given as goal

abbrev pub invariant-loop-c : goal.invariant-loop-c
invariant-loop-c l = record {
  right : (k : ℕ) → 0 < k → k < l.c → HasBorderList l.g l.lay k;
  unseen : (e : ℕ) → slice_index_or l.seen e false ≡ false;
}
