-- The name is found by binary search, and its place is its rank.
use Rattle.std.proofs.Common.{subst}
use Rattle.std.specs.Prelude.{MatchResult, ◌<◌, ◌≤◌, ◌≡◌, ℕ, length, get_or}
use Rattle.std.proofs.lemmas.List.Sorted.{searched}
use Rattle.cp_poles.proofs.RisingPlaces.{rising_le, rising_missed, rising_rank}
use Rattle.cp_poles.proofs.bonds.place_of.Goals as goal

pub unreachable-requires : goal.unreachable-requires
unreachable-requires c =
    let names = c.args.names.now in
    let n = c.args.name in
    let found = subst (λ r. MatchResult r (λ i. (i < length names) × (get_or names i 0 ≡ n))
    (λ i. (i ≤ length names) × ((k : ℕ) → k < i → get_or names k 0 < n)
    × ((k : ℕ) → i ≤ k → k < length names → n < get_or names k 0)))
    c.in-Err.is
    (searched names n c.binary_search.result c.binary_search.ensures.position (rising_le names c.requires.rising)) in
    rising_missed names c.in-Err.field-0 n c.requires.live found.1 found.2

pub returns-clause-value : goal.returns-clause-value
returns-clause-value c =
    let names = c.args.names.now in
    let n = c.args.name in
    let found = subst (λ r. MatchResult r (λ i. (i < length names) × (get_or names i 0 ≡ n))
    (λ i. (i ≤ length names) × ((k : ℕ) → k < i → get_or names k 0 < n)
    × ((k : ℕ) → i ≤ k → k < length names → n < get_or names k 0)))
    c.in-Ok.is
    (searched names n c.binary_search.result c.binary_search.ensures.position (rising_le names c.requires.rising)) in
    rising_rank names c.requires.rising c.in-Ok.place n found.0 found.1
