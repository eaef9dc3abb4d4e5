-- Permutations of the numbers below a bound: they return, so their orbits are classes.
use Rattle.std.proofs.Common.{◌≡◌, ℕ, zero, suc, ◌+◌, ◌-◌, ◌<◌, ◌≤◌, ◌⊎◌, ◌↔◌, true, List, ◌∷◌, length, get_or, eqb, sym, refl, ap, ap₂, ◌∙◌, subst, inl, inr, ⊎_elim, arith, lt-suc_self}
use Rattle.std.specs.Fn.{iterate}
use Rattle.std.specs.List.{Contains}
use Rattle.std.proofs.lemmas.Bool.{cases_eq, cases_lt, cases_order, eq-eqb, ne_eqb, eqb-true, eqb-false}
use Rattle.cp_lists.specs.Count.{count, IsCount}
use Rattle.cp_orbits.specs.Classes.{labels, classes, graph, orbits, Respects}
use Rattle.cp_orbits.specs.Orbits.{Permutes, Reaches, IsLeastOfOrbit, exchange}
use Rattle.cp_lists.proofs.Counting.{count_all, count_inject, first_below}
use Rattle.cp_orbits.proofs.ClassLabels.{labels-le, labels-respects, labels-related}

-- one step more at the end
pub iterate-after : (f : ℕ → ℕ) (k x : ℕ) → iterate f k (f x) ≡ f (iterate f k x)
iterate-after f zero x = refl
iterate-after f (suc k) x = iterate-after f k (f x)

-- j steps and then k
pub iterate-add : (f : ℕ → ℕ) (j k x : ℕ) → iterate f (j + k) x ≡ iterate f k (iterate f j x)
iterate-add f zero k x = let e : 0 + k ≡ k = omega arith in ap (λ (i : ℕ). iterate f i x) e
iterate-add f (suc j) k x = let e : suc j + k ≡ suc (j + k) = omega arith in ap (λ (i : ℕ). iterate f i x) e ∙ iterate-add f j k (f x)

-- functions that agree below n, where the first stays, have the same iterates
pub iterate-agree : (n : ℕ) (f g : ℕ → ℕ) → ((x : ℕ) → x < n → f x < n) → ((x : ℕ) → x < n → f x ≡ g x) → (k x : ℕ)
    → x < n → iterate f k x ≡ iterate g k x
iterate-agree n f g below same zero x lt = refl
iterate-agree n f g below same (suc k) x lt = iterate-agree n f g below same k (f x) (below x lt) ∙ ap (iterate g k) (same x lt)

-- the steps stay below the bound
pub iterate-below : (n : ℕ) (f : ℕ → ℕ) → Permutes n f → (k x : ℕ) → x < n → iterate f k x < n
iterate-below n f perm zero x lt = lt
iterate-below n f perm (suc k) x lt = iterate-below n f perm k (f x) (perm.below x lt)

-- equal after k steps is equal before
pub iterate-apart : (n : ℕ) (f : ℕ → ℕ) → Permutes n f → (k x y : ℕ) → x < n → y < n → iterate f k x ≡ iterate f k y
    → x ≡ y
iterate-apart n f perm zero x y ltx lty e = e
iterate-apart n f perm (suc k) x y ltx lty e = perm.apart x y ltx lty (iterate-apart n f perm k (f x) (f y) (perm.below x ltx) (perm.below y lty) e)

-- a permutation returns to each number, in at most n steps
pub returns_within : (n : ℕ) (f : ℕ → ℕ) → Permutes n f → (x : ℕ) → x < n → (k : ℕ) × (k < n) × (iterate f k (f x) ≡ x)
returns_within n f perm x lt =
    ⊎_elim
    (λ found. (found.0, found.1, eqb-true (iterate f found.0 (f x)) x found.2))
    (λ none.
    let apart : (i j : ℕ) → i < j → j < suc n → iterate f i x ≡ iterate f j x → ⊥ = λ i j l lj e.
    let d : ℕ = j - suc i in
    let far : suc d + i ≡ j = omega arith in
    let back : x ≡ iterate f d (f x) = iterate-apart n f perm i x (iterate f d (f x)) lt (iterate-below n f perm (suc d) x lt) (e ∙ ap (λ (m : ℕ). iterate f m x) (sym far) ∙ iterate-add f (suc d) i x) in
    eqb-false (iterate f d (f x)) x (none d (omega arith)) (sym back) in
    let many : count (suc n) (λ i. true) ≤ count n (λ i. true) = count_inject (suc n) n (λ i. true) (λ i. true) (λ k. iterate f k x)
    (λ k lk t. (iterate-below n f perm k x lt, refl))
    (λ i j li lj t u e. ⊎_elim (λ h. h) (λ h. absurd (⊎_elim (λ l. apart i j l lj e) (λ g. apart j i g li (sym e)) h)) (cases_order i j)) in
    absurd (omega (arith, count_all (suc n) (λ i. true) (λ i li. refl), count_all n (λ i. true) (λ i li. refl))))
    (first_below n (λ k. eqb (iterate f k (f x)) x))

-- no step is a walk
pub Reaches-same : (f : ℕ → ℕ) (x : ℕ) → Reaches f x x
Reaches-same f x = (0, refl)

-- one step is a walk
pub Reaches-step : (f : ℕ → ℕ) (x : ℕ) → Reaches f x (f x)
Reaches-step f x = (1, refl)

-- walks go on
pub Reaches-trans : (f : ℕ → ℕ) (x y z : ℕ) → Reaches f x y → Reaches f y z → Reaches f x z
Reaches-trans f x y z a b = (a.0 + b.0, iterate-add f a.0 b.0 x ∙ ap (iterate f b.0) a.1 ∙ b.1)

-- a walk stays below the bound
pub Reaches-below : (n : ℕ) (f : ℕ → ℕ) → Permutes n f → (x y : ℕ) → x < n → Reaches f x y → y < n
Reaches-below n f perm x y lt r = subst (λ z. z < n) r.1 (iterate-below n f perm r.0 x lt)

-- a permutation leads from a number's image to the number
pub image_reaches : (n : ℕ) (f : ℕ → ℕ) → Permutes n f → (x : ℕ) → x < n → Reaches f (f x) x
image_reaches n f perm x lt = let r : (k : ℕ) × (k < n) × (iterate f k (f x) ≡ x) = returns_within n f perm x lt in (r.0, r.2)

-- what is k steps on leads back
iterate_reaches_back : (n : ℕ) (f : ℕ → ℕ) → Permutes n f → (k x : ℕ) → x < n → Reaches f (iterate f k x) x
iterate_reaches_back n f perm zero x lt = (0, refl)
iterate_reaches_back n f perm (suc k) x lt = Reaches-trans f (iterate f k (f x)) (f x) x (iterate_reaches_back n f perm k (f x) (perm.below x lt)) (image_reaches n f perm x lt)

-- walks of a permutation go back
pub Reaches-sym : (n : ℕ) (f : ℕ → ℕ) → Permutes n f → (x y : ℕ) → x < n → Reaches f x y → Reaches f y x
Reaches-sym n f perm x y lt r = subst (λ z. Reaches f z x) r.1 (iterate_reaches_back n f perm r.0 x lt)

-- one step more from fewer than n steps is fewer than n steps
within_step : (n : ℕ) (f : ℕ → ℕ) → Permutes n f → (x : ℕ) → x < n → (j : ℕ) → j < n
    → (i : ℕ) × (i < n) × (iterate f i x ≡ iterate f (suc j) x)
within_step n f perm x lt j ltj =
    ⊎_elim
    (λ l. (suc j, l, refl))
    (λ g.
    let r : (k : ℕ) × (k < n) × (iterate f k (f x) ≡ x) = returns_within n f perm x lt in
    let ltr : r.0 < n = r.1 in
    let whole : suc r.0 + (n - suc r.0) ≡ suc j = omega arith in
    (n - suc r.0, omega arith, sym (ap (λ (m : ℕ). iterate f m x) (sym whole) ∙ iterate-add f (suc r.0) (n - suc r.0) x ∙ ap (iterate f (n - suc r.0)) r.2)))
    (cases_lt (suc j) n)

-- what is k steps on is fewer than n steps on
within_steps : (n : ℕ) (f : ℕ → ℕ) → Permutes n f → (x : ℕ) → x < n → (k : ℕ)
    → (j : ℕ) × (j < n) × (iterate f j x ≡ iterate f k x)
within_steps n f perm x lt zero = (0, omega arith, refl)
within_steps n f perm x lt (suc k) =
    let w : (j : ℕ) × (j < n) × (iterate f j x ≡ iterate f k x) = within_steps n f perm x lt k in
    let more : (i : ℕ) × (i < n) × (iterate f i x ≡ iterate f (suc w.0) x) = within_step n f perm x lt w.0 w.1 in
    (more.0, more.1, more.2 ∙ iterate-after f w.0 x ∙ ap f w.2 ∙ sym (iterate-after f k x))

-- what is reached is reached in fewer than n steps
pub Reaches-within : (n : ℕ) (f : ℕ → ℕ) → Permutes n f → (x y : ℕ) → x < n → Reaches f x y
    → (k : ℕ) × (k < n) × (iterate f k x ≡ y)
Reaches-within n f perm x y lt r = let w = within_steps n f perm x lt r.0 in (w.0, w.1, w.2 ∙ r.1)

-- a function that has one value at each number and its image respects the graph
pub Respects-graph : {A : Type 0} (g : ℕ → A) (f : ℕ → ℕ) (n : ℕ) → ((x : ℕ) → x < n → g x ≡ g (f x))
    → Respects g (graph f n)
Respects-graph g f zero same = tt
Respects-graph g f (suc n) same = (same n (lt-suc_self n), Respects-graph g f n (λ x lt. same x (omega arith)))

-- what respects the graph has one value at each number and its image
pub graph-respects : {A : Type 0} (g : ℕ → A) (f : ℕ → ℕ) (n x : ℕ) → Respects g (graph f n) → x < n → g x ≡ g (f x)
graph-respects g f zero x r lt = absurd (omega arith)
graph-respects g f (suc n) x r lt = ⊎_elim (λ e. ap g e ∙ r.0 ∙ ap (λ (y : ℕ). g (f y)) (sym e)) (λ ne. graph-respects g f n x r.1 (omega arith)) (cases_eq x n)

-- the pair at a place is a number below n and its image
graph_place : (f : ℕ → ℕ) (n : ℕ) (e : ℕ × ℕ) (k : ℕ) → k < length (graph f n) → get_or (graph f n) k e ≡ e
    → (e.0 < n) × (f e.0 ≡ e.1)
graph_place f zero e k lt same = absurd (omega arith)
graph_place f (suc n) e zero lt same = let at : n ≡ e.0 = ap (λ (y : ℕ × ℕ). y.0) same in (omega arith, ap f (sym at) ∙ ap (λ (y : ℕ × ℕ). y.1) same)
graph_place f (suc n) e (suc k) lt same = let h : (e.0 < n) × (f e.0 ≡ e.1) = graph_place f n e k (omega arith) same in (omega (arith, h.0), h.1)

-- the pairs of the graph are the numbers below n and their images
pub graph-pairs : (f : ℕ → ℕ) (n : ℕ) (e : ℕ × ℕ) → Contains (graph f n) e → (e.0 < n) × (f e.0 ≡ e.1)
graph-pairs f n e c = graph_place f n e c.0 c.1 c.2

-- functions that agree below n have one graph
pub graph_agree : (f g : ℕ → ℕ) (n : ℕ) → ((x : ℕ) → x < n → f x ≡ g x) → graph f n ≡ graph g n
graph_agree f g zero same = refl
graph_agree f g (suc n) same = ap₂ (λ (y : ℕ) (es : List (ℕ × ℕ)). (n, y) ∷ es) (same n (lt-suc_self n)) (graph_agree f g n (λ x lt. same x (omega arith)))

-- functions that agree below n have as many orbits
pub orbits_agree : (f g : ℕ → ℕ) (n : ℕ) → ((x : ℕ) → x < n → f x ≡ g x) → orbits n f ≡ orbits n g
orbits_agree f g n same = ap (classes n) (graph_agree f g n same)

-- the label stays along a step
pub label_step : (f : ℕ → ℕ) (n x : ℕ) → x < n → labels (graph f n) x ≡ labels (graph f n) (f x)
label_step f n x lt = graph-respects (labels (graph f n)) f n x (labels-respects (graph f n)) lt

-- what has one value at each number and its image has it k steps on
steps_keep : {A : Type 0} (g : ℕ → A) (n : ℕ) (f : ℕ → ℕ) → Permutes n f → ((x : ℕ) → x < n → g x ≡ g (f x)) → (k x : ℕ)
    → x < n → g x ≡ g (iterate f k x)
steps_keep g n f perm same zero x lt = refl
steps_keep g n f perm same (suc k) x lt = same x lt ∙ steps_keep g n f perm same k (f x) (perm.below x lt)

-- what has one value at each number and its image has it along a walk
pub Reaches-keeps : {A : Type 0} (g : ℕ → A) (n : ℕ) (f : ℕ → ℕ) → Permutes n f → ((x : ℕ) → x < n → g x ≡ g (f x))
    → (x y : ℕ) → x < n → Reaches f x y → g x ≡ g y
Reaches-keeps g n f perm same x y lt r = steps_keep g n f perm same r.0 x lt ∙ ap g r.1

-- equal, or below n and reached
Tied : ℕ → (ℕ → ℕ) → ℕ → ℕ → Type 0
Tied n f x y = (x ≡ y) ⊎ ((x < n) × (y < n) × Reaches f x y)

-- it goes both ways
Tied-sym : (n : ℕ) (f : ℕ → ℕ) → Permutes n f → (x y : ℕ) → Tied n f x y → Tied n f y x
unfolding Tied
Tied-sym n f perm x y t = ⊎_elim (λ e. inl (sym e)) (λ r. inr (r.1, r.0, Reaches-sym n f perm x y r.0 r.2)) t

-- it goes on
Tied-trans : (n : ℕ) (f : ℕ → ℕ) (x y z : ℕ) → Tied n f x y → Tied n f y z → Tied n f x z
unfolding Tied
Tied-trans n f x y z s t =
    ⊎_elim
    (λ e. subst (λ w. Tied n f w z) (sym e) t)
    (λ r. ⊎_elim (λ e. subst (λ w. Tied n f x w) e s) (λ q. inr (r.0, q.1, Reaches-trans f x y z r.2 q.2)) t)
    s

-- a number is tied to its label
Tied-label : (n : ℕ) (f : ℕ → ℕ) → Permutes n f → (x : ℕ) → Tied n f x (labels (graph f n) x)
unfolding Tied
Tied-label n f perm x = labels-related (Tied n f) (λ y. inl refl) (Tied-sym n f perm) (Tied-trans n f) (graph f n)
    (λ e c. let h : (e.0 < n) × (f e.0 ≡ e.1) = graph-pairs f n e c in inr (h.0, subst (λ z. z < n) h.1 (perm.below e.0 h.0), (1, h.1))) x

-- a permutation reaches the label
pub Reaches-label : (n : ℕ) (f : ℕ → ℕ) → Permutes n f → (x : ℕ) → x < n → Reaches f x (labels (graph f n) x)
unfolding Tied
Reaches-label n f perm x lt = ⊎_elim (λ e. (0, e)) (λ r. r.2) (Tied-label n f perm x)

-- the label reaches the number
pub label-reached : (n : ℕ) (f : ℕ → ℕ) → Permutes n f → (x : ℕ) → x < n → Reaches f (labels (graph f n) x) x
label-reached n f perm x lt = Reaches-sym n f perm x (labels (graph f n) x) lt (Reaches-label n f perm x lt)

-- what is reached has the same label
pub labels_reached : (n : ℕ) (f : ℕ → ℕ) → Permutes n f → (x y : ℕ) → x < n → Reaches f x y
    → labels (graph f n) x ≡ labels (graph f n) y
labels_reached n f perm x y lt r = Reaches-keeps (labels (graph f n)) n f perm (label_step f n) x y lt r

-- what has the same label is reached
pub reached_labels : (n : ℕ) (f : ℕ → ℕ) → Permutes n f → (x y : ℕ) → x < n → y < n
    → labels (graph f n) x ≡ labels (graph f n) y → Reaches f x y
reached_labels n f perm x y ltx lty e = Reaches-trans f x (labels (graph f n) x) y (Reaches-label n f perm x ltx) (subst (λ z. Reaches f z y) (sym e) (label-reached n f perm y lty))

-- to reach is to have one label
pub walk : (n : ℕ) (f : ℕ → ℕ) → Permutes n f → (x y : ℕ) → x < n → y < n
    → (labels (graph f n) x ≡ labels (graph f n) y) ↔ Reaches f x y
walk n f perm x y ltx lty = (reached_labels n f perm x y ltx lty, labels_reached n f perm x y ltx)

-- one number reaches another or does not
pub reaches_cases : (n : ℕ) (f : ℕ → ℕ) → Permutes n f → (x y : ℕ) → x < n → y < n → Reaches f x y ⊎ (Reaches f x y → ⊥)
reaches_cases n f perm x y ltx lty = ⊎_elim (λ e. inl (reached_labels n f perm x y ltx lty e)) (λ ne. inr (λ r. ne (labels_reached n f perm x y ltx r))) (cases_eq (labels (graph f n) x) (labels (graph f n) y))

-- the least number of an orbit is its own label
pub leads_orbit : (n : ℕ) (f : ℕ → ℕ) → Permutes n f → (x : ℕ) → x < n → (labels (graph f n) x ≡ x) ↔ IsLeastOfOrbit f x
leads_orbit n f perm x lt = (
  λ e k. omega (arith, labels_reached n f perm x (iterate f k x) lt (k, refl), labels-le (graph f n) (iterate f k x)),
  λ least. let r : Reaches f x (labels (graph f n) x) = Reaches-label n f perm x lt in omega (arith, labels-le (graph f n) x, least r.0, r.1),
)

-- the classes of the graph are as many as the orbits
pub IsCount-orbits : (n : ℕ) (f : ℕ → ℕ) → Permutes n f → IsCount (IsLeastOfOrbit f) n (orbits n f)
IsCount-orbits n f perm = record {
  test = λ x. eqb (labels (graph f n) x) x;
  decides = λ x lt. (λ t. (leads_orbit n f perm x lt).0 (eqb-true (labels (graph f n) x) x t), λ least. eq-eqb (labels (graph f n) x) x ((leads_orbit n f perm x lt).1 least));
  counted = refl;
}

-- the exchange takes the first to the second
pub exchange_left : (a b x : ℕ) → x ≡ a → exchange a b x ≡ b
exchange_left a b x e = rw (eq-eqb x a e) refl

-- the exchange takes the second to the first
pub exchange_right : (a b x : ℕ) → x ≡ b → exchange a b x ≡ a
exchange_right a b x e = ⊎_elim (λ f. exchange_left a b x f ∙ sym e ∙ f) (λ ne. other ne) (cases_eq x a)
  where
    other : (x ≡ a → ⊥) → exchange a b x ≡ a
    other ne = rw (ne_eqb x a ne, eq-eqb x b e) refl

-- the exchange leaves all others
pub exchange_other : (a b x : ℕ) → (x ≡ a → ⊥) → (x ≡ b → ⊥) → exchange a b x ≡ x
exchange_other a b x na nb = rw (ne_eqb x a na, ne_eqb x b nb) refl

-- what holds of b at a, of a at b, and elsewhere of the number itself holds of the exchange
pub exchange_case : (P : ℕ → Type 0) (a b x : ℕ) → (x ≡ a → P b) → ((x ≡ a → ⊥) → x ≡ b → P a)
    → ((x ≡ a → ⊥) → (x ≡ b → ⊥) → P x) → P (exchange a b x)
exchange_case P a b x left right other =
    ⊎_elim
    (λ e. subst P (sym (exchange_left a b x e)) (left e))
    (λ na. ⊎_elim (λ e. subst P (sym (exchange_right a b x e)) (right na e)) (λ nb. subst P (sym (exchange_other a b x na nb)) (other na nb)) (cases_eq x b))
    (cases_eq x a)

-- the exchange stays below the bound
pub exchange-below : (n a b x : ℕ) → a < n → b < n → x < n → exchange a b x < n
exchange-below n a b x lta ltb ltx = exchange_case (λ y. y < n) a b x (λ e. ltb) (λ na e. lta) (λ na nb. ltx)

-- two exchanges undo each other
pub exchange-exchange : (a b x : ℕ) → exchange a b (exchange a b x) ≡ x
exchange-exchange a b x = exchange_case (λ y. exchange a b y ≡ x) a b x (λ e. exchange_right a b b refl ∙ sym e) (λ na e. exchange_left a b a refl ∙ sym e) (λ na nb. exchange_other a b x na nb)

-- which of the two comes first makes no difference
pub exchange_comm : (a b x : ℕ) → exchange a b x ≡ exchange b a x
exchange_comm a b x = exchange_case (λ y. y ≡ exchange b a x) a b x (λ e. sym (exchange_right b a x e)) (λ na e. sym (exchange_left b a x e)) (λ na nb. sym (exchange_other b a x nb na))

-- numbers with equal exchanges are equal
pub exchange-apart : (a b x y : ℕ) → exchange a b x ≡ exchange a b y → x ≡ y
exchange-apart a b x y e = sym (exchange-exchange a b x) ∙ ap (exchange a b) e ∙ exchange-exchange a b y

-- an exchange is a permutation
pub exchange-Permutes : (n a b : ℕ) → a < n → b < n → Permutes n (exchange a b)
exchange-Permutes n a b lta ltb = record { below = λ x lt. exchange-below n a b x lta ltb lt; apart = λ x y ltx lty e. exchange-apart a b x y e }

-- one permutation after another is a permutation
pub Permutes-after : (n : ℕ) (f g : ℕ → ℕ) → Permutes n f → Permutes n g → Permutes n (λ x. f (g x))
Permutes-after n f g pf pg = record {
  below = λ x lt. pf.below (g x) (pg.below x lt);
  apart = λ x y ltx lty e. pg.apart x y ltx lty (pf.apart (g x) (g y) (pg.below x ltx) (pg.below y lty) e);
}

-- a permutation after an exchange is a permutation
pub Permutes-exchange : (n : ℕ) (f : ℕ → ℕ) (a b : ℕ) → Permutes n f → a < n → b < n
    → Permutes n (λ x. f (exchange a b x))
Permutes-exchange n f a b perm lta ltb = Permutes-after n f (exchange a b) perm (exchange-Permutes n a b lta ltb)

-- what agrees with a permutation below n is a permutation
pub Permutes-agree : (n : ℕ) (f g : ℕ → ℕ) → ((x : ℕ) → x < n → f x ≡ g x) → Permutes n f → Permutes n g
Permutes-agree n f g same perm = record {
  below = λ x lt. subst (λ y. y < n) (same x lt) (perm.below x lt);
  apart = λ x y ltx lty e. perm.apart x y ltx lty (same x ltx ∙ e ∙ sym (same y lty));
}

-- to stay is a permutation
pub Permutes-same : (n : ℕ) → Permutes n (λ x. x)
Permutes-same n = record { below = λ x lt. lt; apart = λ x y ltx lty e. e }

-- what another function undoes is a permutation
pub Permutes-undone : (n : ℕ) (f g : ℕ → ℕ) → ((x : ℕ) → x < n → f x < n) → ((x : ℕ) → x < n → g (f x) ≡ x)
    → Permutes n f
Permutes-undone n f g below undone = record { below = below; apart = λ x y ltx lty e. sym (undone x ltx) ∙ ap g e ∙ undone y lty }

-- each number is the image of one
pub Permutes-onto : (n : ℕ) (f : ℕ → ℕ) → Permutes n f → (y : ℕ) → y < n → (x : ℕ) × (x < n) × (f x ≡ y)
Permutes-onto n f perm y lt =
    let r : (k : ℕ) × (k < n) × (iterate f k (f y) ≡ y) = returns_within n f perm y lt in
    (iterate f r.0 y, iterate-below n f perm r.0 y lt, sym (iterate-after f r.0 y) ∙ r.2)
