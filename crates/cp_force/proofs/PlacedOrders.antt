-- The places of an order rise along it.
use Rattle.std.proofs.Common.{◌≡◌, ◌≢◌, ℕ, suc, ◌+◌, ◌<◌, List, [], ◌∷◌, length, get_or, ap, arith}
use Rattle.std.specs.Prelude.{slice_index}
use Rattle.cp_lists.specs.CyclicLists.{Has, Distinct}
use Rattle.cp_lists.proofs.DistinctLists.{Has-place, Distinct-once}
use Rattle.cp_force.specs.Fits.{Rises}

-- where each leaf has its place, counted from some number on, the places rise
places_rise : (place : ℕ → ℕ) (from : ℕ) (xs : List ℕ)
    → ((k : ℕ) → k < length xs → place (get_or xs k 0) ≡ from + k) → Rises place xs
places_rise place from [] h = tt
places_rise place from (x ∷ xs) h = (first, places_rise place (from + 1) xs later)
  where
    later : (k : ℕ) → k < length xs → place (get_or xs k 0) ≡ from + 1 + k
    later k lt = let e = h (suc k) (omega arith) in omega (arith, e)

    first : (y : ℕ) → Has y xs → place x < place y
    first y has =
        let at : (i : ℕ) × (i < length xs) × (slice_index xs i ≡ y) = Has-place y xs has in
        let here : place x ≡ from + 0 = h 0 (omega arith) in
        let there : place (get_or xs at.0 0) ≡ from + 1 + at.0 = later at.0 at.1 in
        let same : place (get_or xs at.0 0) ≡ place y = ap place at.2 in
        omega (arith, here, there, same)

-- where each leaf has its place, the places rise
pub placed_rise : (place : ℕ → ℕ) (xs : List ℕ) → ((k : ℕ) → k < length xs → place (get_or xs k 0) ≡ k)
    → Rises place xs
placed_rise place xs h = places_rise place 0 xs (λ k lt. let e = h k lt in omega (arith, e))

-- distinct items at two places differ
pub apart : (xs : List ℕ) → Distinct xs → (i k : ℕ) → i < length xs → k < i → get_or xs i 0 ≢ get_or xs k 0
apart xs d i k lt less e = let same : i ≡ k = Distinct-once xs d i k lt (omega arith) e in omega arith
