-- Places in a cyclic list: the place behind a place, and the place before it.
use Rattle.std.proofs.Common.{◌≡◌, ◌≢◌, ℕ, ◌+◌, ◌-◌, ◌<◌, ⊎_elim, arith}
use Rattle.std.specs.Prelude.{◌==◌}
use Rattle.std.proofs.lemmas.Bool.{cases_eq, eq-eqb, ne_eqb, cond-true, cond-false}
use Rattle.cp_rot.specs.Systems.{place_after}
use Rattle.cp_border.specs.Borders.{place_before}

-- the first place is behind the last
pub after_last : (n i : ℕ) → i + 1 ≡ n → place_after n i ≡ 0
after_last n i e = cond-true (i + 1 == n) 0 (i + 1) (eq-eqb (i + 1) n e)

-- behind any other place is the next number
pub after_inner : (n i : ℕ) → i + 1 ≢ n → place_after n i ≡ i + 1
after_inner n i ne = cond-false (i + 1 == n) 0 (i + 1) (ne_eqb (i + 1) n ne)

-- the last place is before the first
pub before_first : (n i : ℕ) → i ≡ 0 → place_before n i ≡ n - 1
before_first n i e = cond-true (i == 0) (n - 1) (i - 1) (eq-eqb i 0 e)

-- before any other place is the number before it
pub before_later : (n i : ℕ) → i ≢ 0 → place_before n i ≡ i - 1
before_later n i ne = cond-false (i == 0) (n - 1) (i - 1) (ne_eqb i 0 ne)

-- both stay within the list
pub place_after-lt : (n i : ℕ) → i < n → place_after n i < n
place_after-lt n i lt = ⊎_elim (λ e. omega (arith, after_last n i e)) (λ ne. omega (arith, after_inner n i ne))
    (cases_eq (i + 1) n)

-- the place before one is a place
pub place_before-lt : (n i : ℕ) → i < n → place_before n i < n
place_before-lt n i lt = ⊎_elim (λ e. omega (arith, before_first n i e)) (λ ne. omega (arith, before_later n i ne))
    (cases_eq i 0)

-- and undo each other
pub place_before_after : (n i : ℕ) → i < n → place_before n (place_after n i) ≡ i
place_before_after n i lt =
    ⊎_elim
    (λ e. let first : place_before n (place_after n i) ≡ n - 1 =
    before_first n (place_after n i) (after_last n i e) in omega arith)
    (λ ne.
    let next : place_after n i ≡ i + 1 = after_inner n i ne in
    let back : place_before n (place_after n i) ≡ place_after n i - 1 =
    before_later n (place_after n i) (λ z. omega arith) in
    omega arith)
    (cases_eq (i + 1) n)

-- behind the place before one is that place itself
pub place_after_before : (n i : ℕ) → i < n → place_after n (place_before n i) ≡ i
place_after_before n i lt =
    ⊎_elim
    (λ e.
    let back : place_before n i ≡ n - 1 = before_first n i e in
    let next : place_after n (place_before n i) ≡ 0 = after_last n (place_before n i) (omega arith) in
    omega arith)
    (λ ne.
    let back : place_before n i ≡ i - 1 = before_later n i ne in
    let next : place_after n (place_before n i) ≡ place_before n i + 1 =
    after_inner n (place_before n i) (λ z. omega arith) in
    omega arith)
    (cases_eq i 0)
