-- The vertex below an edge, by its place.
use Rattle.std.proofs.Common.{◌≡◌, ◌≢◌, ℕ, zero, suc, ◌+◌, ◌<◌, ◌≤◌, eqb, List, [], ◌∷◌, get_or, length, sym, refl, ap, ◌∙◌, subst, inl, inr, ⊎_elim, arith}
use Rattle.std.specs.Prelude.{None, Some, find}
use Rattle.std.specs.List.{Contains, zip}
use Rattle.std.specs.List.Sorted.{IsStrictlyIncreasing}
use Rattle.std.proofs.lemmas.List.{get_or_default}
use Rattle.cp_sync.proofs.Places.{rising_apart}
use Rattle.std.specs.Option.{option_map}
use Rattle.std.proofs.lemmas.Bool.{cases_eq, cases_lt, cond-false, cond-true, eq-eqb, ne_eqb}
use Rattle.cp_lists.specs.CyclicLists.{Distinct, Has, Lacks}
use Rattle.cp_lists.proofs.DistinctLists.{has_other}
use Rattle.cp_plant.specs.TreeWords.{vertex_below}

-- later numbers of some that rise are not less
pub rising_le : (names : List ℕ) → IsStrictlyIncreasing names → (i j : ℕ) → i ≤ j → j < length names
    → get_or names i 0 ≤ get_or names j 0
rising_le names up i j le lt = ⊎_elim
    (λ (same : i ≡ j). subst (λ k. get_or names i 0 ≤ get_or names k 0) same (omega arith))
    (λ other. let less = rising_apart names up i j (omega (arith, le, other)) lt in omega (arith, less))
    (cases_eq i j)

-- a number between those in front of a place and those from it on is none of them
pub rising_missed : (names : List ℕ) (k n : ℕ) → Contains names n
    → ((j : ℕ) → j < k → get_or names j 0 < n)
    → ((j : ℕ) → k ≤ j → j < length names → n < get_or names j 0) → ⊥
rising_missed names k n c low high =
    let at : get_or names c.0 0 ≡ n = get_or_default names c.0 0 n c.1 ∙ c.2 in
    ⊎_elim
    (λ (lt : c.0 < k). let less = low c.0 lt in omega (arith, less, at))
    (λ (ge : k ≤ c.0). let more = high c.0 ge c.1 in omega (arith, more, at))
    (cases_lt c.0 k)

-- what stands at a place is an item
stands : (xs : List ℕ) (k x : ℕ) → k < length xs → get_or xs k 0 ≡ x → Has x xs
stands [] k x lt e = absurd (omega (arith, lt))
stands (y ∷ ys) zero x lt e = inl e
stands (y ∷ ys) (suc k) x lt e = inr (stands ys k x (omega (arith, lt)) e)

-- an edge behind the first
behind_first : (e v : ℕ) (es vs : List ℕ) (x : ℕ) → e ≢ x
    → vertex_below (zip (e ∷ es) (v ∷ vs)) x ≡ vertex_below (zip es vs) x
behind_first e v es vs x ne = ap (option_map (λ (y : ℕ × ℕ). y.1))
    (cond-false (eqb e x) (Some (e, v)) (find (λ (y : ℕ × ℕ). eqb y.0 x) (zip es vs)) (ne_eqb e x ne))

-- the edge of a place has the vertex of this place
pub found_at : (es vs : List ℕ) (k x : ℕ) → Distinct es → length es ≡ length vs → k < length es
    → get_or es k 0 ≡ x → vertex_below (zip es vs) x ≡ Some (get_or vs k 0)
found_at [] vs k x once size lt here = absurd (omega (arith, lt))
found_at (e ∷ es) [] k x once size lt here = absurd (omega (arith, size))
found_at (e ∷ es) (v ∷ vs) zero x once size lt here = ap (option_map (λ (y : ℕ × ℕ). y.1))
    (cond-true (eqb e x) (Some (e, v)) (find (λ (y : ℕ × ℕ). eqb y.0 x) (zip es vs)) (eq-eqb e x here))
found_at (e ∷ es) (v ∷ vs) (suc k) x once size lt here =
    let there : Has x es = stands es k x (omega (arith, lt)) here in
    behind_first e v es vs x (λ s. has_other x e es there once.0 (sym s))
    ∙ found_at es vs k x once.1 (omega (arith, size)) (omega (arith, lt)) here

-- the first edge has the first vertex
pub found_first : (e : ℕ) (es vs : List ℕ) (x : ℕ) → length vs ≡ length es + 1 → x ≡ e
    → vertex_below (zip (e ∷ es) vs) x ≡ Some (get_or vs 0 0)
found_first e es [] x size here = absurd (omega (arith, size))
found_first e es (v ∷ vs) x size here = ap (option_map (λ (y : ℕ × ℕ). y.1))
    (cond-true (eqb e x) (Some (e, v)) (find (λ (y : ℕ × ℕ). eqb y.0 x) (zip es vs)) (eq-eqb e x (sym here)))

-- the edge of a place behind the first has the vertex of the next place
pub found_behind : (e : ℕ) (es vs : List ℕ) (k x : ℕ) → Distinct es → length vs ≡ length es + 1 → (x ≡ e → ⊥)
    → k < length es → get_or es k 0 ≡ x → vertex_below (zip (e ∷ es) vs) x ≡ Some (get_or vs (k + 1) 0)
found_behind e es [] k x once size ne lt here = absurd (omega (arith, size))
found_behind e es (v ∷ vs) k x once size ne lt here =
    let one : k + 1 ≡ suc k = omega arith in
    behind_first e v es vs x (λ s. ne (sym s)) ∙ found_at es vs k x once (omega (arith, size)) lt here
    ∙ rw one refl

-- what is none of the edges has no vertex
pub found_none : (es vs : List ℕ) (x : ℕ) → length es ≡ length vs → Lacks x es
    → vertex_below (zip es vs) x ≡ None
found_none [] vs x size none = refl
found_none (e ∷ es) [] x size none = absurd (omega (arith, size))
found_none (e ∷ es) (v ∷ vs) x size none =
    behind_first e v es vs x none.0 ∙ found_none es vs x (omega (arith, size)) none.1

-- a vertex that is found is one of the vertices
pub found-Has : (es vs : List ℕ) (x v : ℕ) → vertex_below (zip es vs) x ≡ Some v → Has v vs
found-Has [] vs x v e = let none : None ≡ Some v = e in absurd cc
found-Has (e ∷ es) [] x v h = let none : None ≡ Some v = h in absurd cc
found-Has (e ∷ es) (z ∷ vs) x v h = ⊎_elim
    (λ (s : e ≡ x).
    let first : vertex_below (zip (e ∷ es) (z ∷ vs)) x ≡ Some z = ap (option_map (λ (y : ℕ × ℕ). y.1))
    (cond-true (eqb e x) (Some (e, z)) (find (λ (y : ℕ × ℕ). eqb y.0 x) (zip es vs)) (eq-eqb e x s)) in
    let both : Some z ≡ Some v = sym first ∙ h in
    let same : z ≡ v = cc in
    inl same)
    (λ ne. inr (found-Has es vs x v (sym (behind_first e z es vs x ne) ∙ h)))
    (cases_eq e x)
