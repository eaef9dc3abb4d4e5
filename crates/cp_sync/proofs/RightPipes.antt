-- The ends of the pipes of an instance keep the fourth rule.
use Rattle.std.proofs.Common.{ℕ, ◌+◌, ◌<◌, List, [], ◌∷◌, ◌++◌, length, take, drop, sym, refl, ap, ◌∙◌, subst, inl, inr}
use Rattle.std.specs.List.{flat_map}
use Rattle.std.proofs.lemmas.List.{take-append-drop, take_more}
use Rattle.std.proofs.lemmas.Grind.{flat_map-append}
use Rattle.cp_lists.specs.CyclicLists.{Distinct}
use Rattle.cp_lists.proofs.DistinctLists.{Distinct-append_left, Distinct-apart_right}
use Rattle.cp_board.specs.declared.parts.Pipe.{Pipe}
use Rattle.cp_board.specs.Instances.{Synchronized, IsSynchronized}
use Rattle.cp_board.specs.Faults.{Keeps, PipeEnds, PipeAt}
use Rattle.cp_sync.specs.Checks.{AllBelow, pipe_row}

-- the two ends of a pipe
abbrev ends : Pipe → List ℕ
ends p = p.a ∷ p.b ∷ []

-- the ends of a pipe are not among those of the pipes before it
apart : (ps : List Pipe) (k : ℕ) → k < length ps → Distinct (flat_map ends ps)
    → Distinct (flat_map ends (take k ps) ++ ends (pipe_row ps k))
apart ps k lt once =
    subst Distinct (ap (flat_map ends) (take_more ps k record { name = 0; a = 0; b = 0; pairs = [] } lt) ∙ flat_map-append ends (take k ps) (pipe_row ps k ∷ []))
    (Distinct-append_left (flat_map ends (take (k + 1) ps)) (flat_map ends (drop (k + 1) ps))
    (subst Distinct (sym (sym (flat_map-append ends (take (k + 1) ps) (drop (k + 1) ps)) ∙ ap (flat_map ends) (take-append-drop (k + 1) ps))) once))

-- the fourth rule at each place
pub pipe_ends_right : (i : Synchronized) → IsSynchronized i
    → AllBelow (λ k. Keeps i PipeEnds (PipeAt k)) (length i.pipes)
pipe_ends_right i is k lt = (
  is.ends_free k record { name = 0; a = 0; b = 0; pairs = [] } lt,
  (
    Distinct-apart_right (pipe_row i.pipes k).a (flat_map ends (take k i.pipes)) (ends (pipe_row i.pipes k)) (apart i.pipes k lt is.ends_apart) (inl refl),
    Distinct-apart_right (pipe_row i.pipes k).b (flat_map ends (take k i.pipes)) (ends (pipe_row i.pipes k)) (apart i.pipes k lt is.ends_apart) (inr (inl refl)),
  ),
)
