-- No edge of the vertex stands in front of the place.
use Rattle.std.proofs.Common.{◌≡◌, ℕ, ◌<◌, false, get_or}
use Rattle.cp_embed.specs.ListedBlocks.{touches}
use Rattle.cp_embed.proofs.taking_back.place_of_run.Given as goal

abbrev pub invariant-loop-place : goal.invariant-loop-place
invariant-loop-place l = (i : ℕ) → i < l.place → touches l.ends l.vertex (get_or l.word i 0) ≡ false
