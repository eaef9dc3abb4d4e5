-- Places in names that rise.
use Rattle.std.proofs.Common.{◌≡◌, ℕ, ◌+◌, ◌<◌, ◌≤◌, List, slice_index, length, sym, ap, ◌∙◌, ⊎_elim, arith}
use Rattle.std.specs.List.Sorted.{IsStrictlyIncreasing}
use Rattle.std.proofs.lemmas.Bool.{cases_eq}
use Rattle.std.proofs.lemmas.List.{get_or_default}
use Rattle.std.proofs.lemmas.List.Kept.{AllPairs-from_increasing}
use Rattle.cp_conn.specs.NamedGraphs.{rank}
use Rattle.cp_conn.proofs.NamedGraphs.{rank_at}
use Rattle.cp_sync.proofs.Places.{same_place}

-- numbers that rise are in the order of their places
pub rising_weakly : (xs : List ℕ) → IsStrictlyIncreasing xs → (i j : ℕ) → i ≤ j → j < length xs
    → slice_index xs i ≤ slice_index xs j
rising_weakly xs up i j le lt =
    ⊎_elim
    (λ (e : i ≡ j). let same = ap (slice_index xs) e in omega (arith, same))
    (λ other.
    let less : i < j = omega (arith, le, other) in
    let more = AllPairs-from_increasing xs up i j 0 less lt in
    omega (arith, more))
    (cases_eq i j)

-- a number found among those that rise stands at its rank
pub found_rank : (names : List ℕ) (name k : ℕ) → IsStrictlyIncreasing names → k < length names
    → slice_index names k ≡ name → k ≡ rank names name
found_rank names name k up lt at =
    let there = rank_at names name (k, lt, get_or_default names k name 0 lt ∙ at) in
    same_place names up k (rank names name) lt there.0 (at ∙ sym there.1)
