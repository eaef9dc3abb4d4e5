-- Places in names that rise.
use Rattle.std.proofs.Common.{◌≡◌, ℕ, zero, suc, ◌+◌, ◌<◌, ◌≤◌, List, length, get_or, sym, ◌∙◌, subst, ⊎_elim, arith}
use Rattle.std.specs.List.{Contains}
use Rattle.std.specs.List.Sorted.{IsStrictlyIncreasing}
use Rattle.std.proofs.lemmas.Bool.{cases_eq, cases_lt}
use Rattle.std.proofs.lemmas.List.{get_or_default}
use Rattle.cp_conn.specs.NamedGraphs.{rank}
use Rattle.cp_conn.proofs.NamedGraphs.{rank_is}
use Rattle.cp_board.proofs.NamedLists.{rises_from}
use Rattle.cp_board.proofs.NumberOfNewNames.{Distinct-from_rises}

-- later names are not less
pub rising_le : (names : List ℕ) → IsStrictlyIncreasing names → (i j : ℕ) → i ≤ j → j < length names
    → get_or names i 0 ≤ get_or names j 0
rising_le names up i zero le lt = let same : i ≡ zero = omega (arith, le) in
    subst (λ k. get_or names k 0 ≤ get_or names zero 0) (sym same) (omega arith)
rising_le names up i (suc j) le lt = ⊎_elim
    (λ same. subst (λ k. get_or names k 0 ≤ get_or names (suc j) 0) (sym same) (omega arith))
    (λ other.
    let before : get_or names i 0 ≤ get_or names j 0 =
    rising_le names up i j (omega (arith, le, other)) (omega (arith, lt)) in
    let next : j + 1 ≡ suc j = omega arith in
    let step : get_or names j 0 < get_or names (suc j) 0 =
    subst (λ k. get_or names j 0 < get_or names k 0) next (up j (omega (arith, lt))) in
    omega (arith, before, step))
    (cases_eq i (suc j))

-- the place of a name is its rank
pub rising_rank : (names : List ℕ) → IsStrictlyIncreasing names → (k n : ℕ) → k < length names
    → get_or names k 0 ≡ n → k ≡ rank names n
rising_rank names up k n lt at =
    sym (rank_is names k n (Distinct-from_rises names (rises_from names up)) lt at)

-- a name that none of the names before and behind a place is, is none of them
pub rising_missed : (names : List ℕ) (k n : ℕ) → Contains names n
    → ((j : ℕ) → j < k → get_or names j 0 < n)
    → ((j : ℕ) → k ≤ j → j < length names → n < get_or names j 0) → ⊥
rising_missed names k n c before behind =
    let at : get_or names c.0 0 ≡ n = get_or_default names c.0 0 n c.1 ∙ c.2 in
    ⊎_elim
    (λ (lt : c.0 < k). let less = before c.0 lt in omega (arith, less, at))
    (λ (ge : k ≤ c.0). let more = behind c.0 ge c.1 in omega (arith, more, at))
    (cases_lt c.0 k)
