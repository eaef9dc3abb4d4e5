-- The pipe of greatest degree by its place.
use Rattle.std.proofs.Common.{◌≡◌, ◌⊎◌, ℕ, ◌<◌, ◌≤◌, true, length, refl, subst, inl, inr, ⊎_elim}
use Rattle.std.specs.Prelude.{slice_index_or}
use Rattle.std.proofs.lemmas.List.{get_or_default}
use Rattle.cp_board.specs.declared.parts.Pipe.{Pipe}
use Rattle.cp_board.specs.Instances.{Synchronized, IsSynchronized, pipe_names}
use Rattle.cp_board.specs.Steps.{degree}
use Rattle.cp_board.specs.Runs.{IsGreatestName}
use Rattle.cp_board.proofs.ListTests.{rises}
use Rattle.cp_board.proofs.NamedLists.{rises_from, found_at, place_order}
use Rattle.cp_sync.specs.Tables.{IsGreatestPlace}

-- the greatest place has the greatest name
pub IsGreatestName-from : (i : Synchronized) (b : ℕ) (d : Pipe) → IsSynchronized i
    → IsGreatestPlace i.pipes (length i.pipes) b → IsGreatestName i (slice_index_or i.pipes b d).name
IsGreatestName-from i b d is g = (
  slice_index_or i.pipes b d,
  refl,
  record {
    live = found_at (λ p. p.name) i.pipes b d up g.within;
    others = λ k e lt. subst (λ q. (degree q < degree (slice_index_or i.pipes b d)) ⊎ ((degree q ≡ degree (slice_index_or i.pipes b d)) × ((slice_index_or i.pipes b d).name ≤ q.name))) (get_or_default i.pipes k d e lt)
        (⊎_elim (λ h. inl h) (λ h. inr (h.0, place_order (λ p. p.name) i.pipes b k d up h.1 lt)) (g.others k d lt));
  },
)
  where
    up : rises (pipe_names i) ≡ true
    up = rises_from (pipe_names i) is.pipes_named.rise
