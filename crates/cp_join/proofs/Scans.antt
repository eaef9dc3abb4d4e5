-- Numbers that rise, and their places.
use Rattle.std.proofs.Common.{◌≡◌, ℕ, ◌<◌, ◌≤◌, List, length, slice_index, sym, ap, ⊎_elim, arith}
use Rattle.std.specs.List.Sorted.{IsStrictlyIncreasing}
use Rattle.std.proofs.lemmas.Bool.{cases_order}
use Rattle.cp_conn.specs.NamedGraphs.{rank}
use Rattle.cp_conn.proofs.NamedGraphs.{rank_is}
use Rattle.cp_join.proofs.RisingLists.{Distinct-rising, rising_order}

-- a number found among those that rise
pub found_rank : (names : List ℕ) (name k : ℕ) → IsStrictlyIncreasing names → k < length names
    → slice_index names k ≡ name → k ≡ rank names name
found_rank names name k up lt at = sym (rank_is names k name (Distinct-rising names up) lt at)

-- numbers that rise are in the order of their places, or equal
pub rising_weakly : (xs : List ℕ) → IsStrictlyIncreasing xs → (i j : ℕ) → i ≤ j → j < length xs
    → slice_index xs i ≤ slice_index xs j
rising_weakly xs up i j le lt =
    ⊎_elim
    (λ (e : i ≡ j). let same = ap (slice_index xs) e in omega (arith, same))
    (λ o. ⊎_elim
    (λ (less : i < j). omega (arith, rising_order xs up i j less lt))
    (λ more. absurd (omega (arith, le, more)))
    o)
    (cases_order i j)
