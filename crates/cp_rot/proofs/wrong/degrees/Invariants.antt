use Rattle.std.proofs.Common.{ℕ, ◌≡◌, ◌<◌, length, slice_index}
use Rattle.cp_lists.specs.Count.{count}
use Rattle.cp_rot.specs.Tables.{stands_at}
use Rattle.cp_rot.proofs.wrong.degrees.Given as goal

abbrev pub invariant-loop-v : goal.invariant-loop-v
invariant-loop-v l = record {
  size : length l.counts.items ≡ l.vertices;
  counted : (v : ℕ) → v < l.vertices → slice_index l.counts.items v ≡ count l.v-index (stands_at l.at v);
}
