use Rattle.std.proofs.Common.{◌≡◌, ◌≢◌, ℕ, ◌<◌, ◌≤◌, false, slice_index}
use Rattle.std.specs.Prelude.{slice_index_or}
use Rattle.cp_border.proofs.exact.clear_items.Given as goal

-- only items from place k on are still marked
abbrev pub invariant-loop-k : goal.invariant-loop-k
invariant-loop-k l = (x : ℕ) → ((k : ℕ) → l.k ≤ k → k < l.count → slice_index l.items k ≢ x)
    → slice_index_or l.seen x false ≡ false
