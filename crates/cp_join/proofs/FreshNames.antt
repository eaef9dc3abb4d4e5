-- New names rise, are none of the live ones, and are small.
use Rattle.std.proofs.Common.{◌≡◌, ◌≢◌, ℕ, ◌+◌, ◌<◌, false, not, List, length, sym, subst, subst₂, arith}
use Rattle.std.specs.Prelude.{filter, take}
use Rattle.std.specs.List.{All, Contains, range_with_len}
use Rattle.std.specs.List.Sorted.{IsStrictlyIncreasing}
use Rattle.std.proofs.lemmas.Bool.{both_ways}
use Rattle.std.proofs.lemmas.List.{get_or-take, length-take}
use Rattle.std.proofs.lemmas.List.Elements.{All-contains, All-filter, All-take, All-same}
use Rattle.std.proofs.lemmas.List.FromFn.{get_or-range_with_len, length-range_with_len}
use Rattle.std.proofs.lemmas.List.Kept.{IsStrictlyIncreasing-filter}
use Rattle.cp_lists.specs.CyclicLists.{Distinct, Has}
use Rattle.cp_lists.proofs.DistinctLists.{Has-Contains}
use Rattle.cp_board.specs.Names.{has, new_names, AreNew}
use Rattle.cp_board.proofs.NewNames.{new_names-dead}
use Rattle.cp_join.proofs.RisingLists.{Distinct-rising}
use Rattle.cp_join.proofs.NamedParts.{has_from}

-- the numbers from 0 on rise
range_rises : (m : ℕ) → IsStrictlyIncreasing (range_with_len 0 m)
range_rises m k lt =
    let within : k + 1 < m = omega (arith, lt, length-range_with_len 0 m) in
    omega (arith, get_or-range_with_len 0 m k 0 (omega (arith, within)), get_or-range_with_len 0 m (k + 1) 0 within)

-- the first of numbers that rise
rising-take : (n : ℕ) (xs : List ℕ) → IsStrictlyIncreasing xs → IsStrictlyIncreasing (take n xs)
rising-take n xs up k lt =
    let size = length-take n xs in
    subst₂ (λ x y. x < y) (sym (get_or-take n xs k 0 (omega (arith, lt, size))))
    (sym (get_or-take n xs (k + 1) 0 (omega (arith, lt, size))))
    (up k (omega (arith, lt, size)))

-- new names rise
pub fresh_rise : (live names : List ℕ) → AreNew live names → IsStrictlyIncreasing names
fresh_rise live names new =
    subst IsStrictlyIncreasing (sym new)
    (rising-take (length names) (filter (λ k. not (has live k)) (range_with_len 0 (length live + length names)))
    (IsStrictlyIncreasing-filter (λ k. not (has live k)) (range_with_len 0 (length live + length names))
    (range_rises (length live + length names))))

-- no new name stands twice
pub fresh_once : (live names : List ℕ) → AreNew live names → Distinct names
fresh_once live names new = Distinct-rising names (fresh_rise live names new)

-- no new name is live
pub fresh_dead : (live names : List ℕ) (n : ℕ) → AreNew live names → Has n names → has live n ≡ false
fresh_dead live names n new h =
    All-contains (λ m. has live m ≡ false) names n (new_names-dead live names new) ((Has-Contains n names).0 h)

-- a live name is another than a new one
pub fresh_other : (live names : List ℕ) (n m : ℕ) → AreNew live names → Has n names → Contains live m → m ≢ n
fresh_other live names n m new h c e =
    both_ways (has live n) (fresh_dead live names n new h)
    (has_from live n (subst (λ z. Has z live) e ((Has-Contains m live).1 c)))

-- a new name is less than the number of live and new names
pub fresh_small : (live names : List ℕ) → AreNew live names → All (λ n. n < length live + length names) names
fresh_small live names new =
    All-same (λ n. n < length live + length names) names (new_names live (length names)) new
    (All-take (λ n. n < length live + length names) (length names)
    (filter (λ k. not (has live k)) (range_with_len 0 (length live + length names)))
    (All-filter (λ k. not (has live k)) (λ n. n < length live + length names)
    (range_with_len 0 (length live + length names))
    (λ k d lt. let within : k < length live + length names =
    omega (arith, lt, length-range_with_len 0 (length live + length names)) in
    omega (arith, within, get_or-range_with_len 0 (length live + length names) k d within))))
