-- What an exchange, a number left out, or new numbers do to the number of orbits and classes.
use Rattle.std.proofs.Common.{◌≡◌, ℕ, zero, suc, ◌+◌, ◌-◌, ◌<◌, ◌≤◌, ◌≢◌, true, cond, List, [], ◌∷◌, eqb, sym, refl, ap, ◌∙◌, subst, ⊎_elim, arith, lt-suc_self}
use Rattle.std.specs.Fn.{iterate}
use Rattle.std.proofs.lemmas.Bool.{cases_eq, eq-eqb, ne_eqb, eqb-true, eqb-false}
use Rattle.cp_orbits.specs.Classes.{joined, rename, labels, classes, graph, orbits, Respects}
use Rattle.cp_orbits.specs.Orbits.{Permutes, Reaches, exchange, splice, Renumbers}
use Rattle.cp_lists.proofs.Counting.{count_agree, count_yes, count_no, first_below}
use Rattle.cp_orbits.proofs.ClassLabels.{Respects-same, labels-le, labels-keeps, labels-respects, labels_same, classes_joined, classes_equal, equal_labels, classes_transport-le}
use Rattle.cp_orbits.proofs.OrbitLaws.{iterate-after, iterate-add, iterate-below, returns_within, Reaches-within, labels_reached, reached_labels, label_step, Respects-graph, graph-respects, orbits_agree, exchange_right, exchange_other, exchange_case, exchange-exchange, exchange-below, Permutes-exchange, Permutes-undone}

-- what has one value along each step of a run has it at both ends
pub run_keeps : {A : Type 0} (g : ℕ → A) (f : ℕ → ℕ) (x k : ℕ)
    → ((i : ℕ) → i < k → g (iterate f i x) ≡ g (f (iterate f i x))) → g x ≡ g (iterate f k x)
run_keeps g f x zero along = refl
run_keeps g f x (suc k) along = run_keeps g f x k (λ i lt. along i (omega arith)) ∙ along k (lt-suc_self k) ∙ ap g (sym (iterate-after f k x))

-- an exchange of two numbers of different orbits brings them into one
pub joined_labels : (n : ℕ) (f : ℕ → ℕ) (a b : ℕ) → Permutes n f → a < n → b < n
    → labels (graph f n) a ≢ labels (graph f n) b → labels (graph (λ x. f (exchange a b x)) n) a
    ≡ labels (graph (λ x. f (exchange a b x)) n) b
joined_labels n f a b perm lta ltb ne =
    ⊎_elim
    (λ found.
    let ends : iterate f found.0 (f a) ≡ a = eqb-true (iterate f found.0 (f a)) a found.2 in
    let run : label (f a) ≡ label (iterate f found.0 (f a)) = run_keeps label f (f a) found.0
    (λ i lt. label_step moved n (iterate f i (f a)) (iterate-below n f perm i (f a) (perm.below a lta)) ∙ ap (λ (y : ℕ). label (f y)) (exchange_other a b (iterate f i (f a)) (eqb-false (iterate f i (f a)) a (found.3 i lt)) (apart i))) in
    sym (label_step moved n b ltb ∙ ap (λ (y : ℕ). label (f y)) (exchange_right a b b refl) ∙ run ∙ ap label ends))
    (λ none. let r = returns_within n f perm a lta in absurd (eqb-false (iterate f r.0 (f a)) a (none r.0 r.1) r.2))
    (first_below n (λ k. eqb (iterate f k (f a)) a))
  where
    moved : ℕ → ℕ
    moved x = f (exchange a b x)

    label : ℕ → ℕ
    label = labels (graph moved n)

    apart : (i : ℕ) → iterate f i (f a) ≡ b → ⊥
    apart i e = ne (labels_reached n f perm a b lta (suc i, e))

-- the pairs of the permutation with a pair more have the classes of the permutation after the exchange
joined_respects : (n : ℕ) (f : ℕ → ℕ) (a b : ℕ) → Permutes n f → a < n → b < n
    → labels (graph f n) a ≢ labels (graph f n) b → Respects (labels (graph (λ x. f (exchange a b x)) n))
    ((a, b) ∷ graph f n) × Respects (labels ((a, b) ∷ graph f n)) (graph (λ x. f (exchange a b x)) n)
joined_respects n f a b perm lta ltb ne = (
  (
    joined_labels n f a b perm lta ltb ne,
    Respects-graph label f n (λ x lt. sym (swapped label (joined_labels n f a b perm lta ltb ne) x) ∙ label_step moved n (exchange a b x) (exchange-below n a b x lta ltb lt) ∙ ap (λ (y : ℕ). label (f y)) (exchange-exchange a b x)),
  ),
  Respects-graph pairs moved n (λ x lt. sym (swapped pairs (labels-respects ((a, b) ∷ graph f n)).0 x) ∙ graph-respects pairs f n (exchange a b x) (labels-respects ((a, b) ∷ graph f n)).1 (exchange-below n a b x lta ltb lt)),
)
  where
    moved : ℕ → ℕ
    moved x = f (exchange a b x)

    label : ℕ → ℕ
    label = labels (graph moved n)

    pairs : ℕ → ℕ
    pairs = labels ((a, b) ∷ graph f n)

    swapped : (g : ℕ → ℕ) → g a ≡ g b → (x : ℕ) → g (exchange a b x) ≡ g x
    swapped g e x = exchange_case (λ y. g y ≡ g x) a b x (λ h. sym e ∙ ap g (sym h)) (λ na h. e ∙ ap g (sym h)) (λ na nb. refl)

-- after an exchange of two numbers of different orbits the labels are those of the pairs with one pair more
pub joined-labels : (n : ℕ) (f : ℕ → ℕ) (a b : ℕ) → Permutes n f → a < n → b < n
    → labels (graph f n) a ≢ labels (graph f n) b → (x : ℕ)
    → labels (graph (λ y. f (exchange a b y)) n) x ≡ labels ((a, b) ∷ graph f n) x
joined-labels n f a b perm lta ltb ne x = let r = joined_respects n f a b perm lta ltb ne in equal_labels (graph (λ y. f (exchange a b y)) n) ((a, b) ∷ graph f n) r.1 r.0 x

-- an exchange of two numbers of different orbits joins the orbits
pub orbits_joined : (n : ℕ) (f : ℕ → ℕ) (a b : ℕ) → Permutes n f → a < n → b < n
    → labels (graph f n) a ≢ labels (graph f n) b → orbits n f ≡ suc (orbits n (λ x. f (exchange a b x)))
orbits_joined n f a b perm lta ltb ne =
    let r = joined_respects n f a b perm lta ltb ne in
    classes_joined n (a, b) (graph f n) lta ltb ne ∙ ap suc (classes_equal n ((a, b) ∷ graph f n) (graph (λ x. f (exchange a b x)) n) r.0 r.1)

-- the run from the image of a to b: b stands at its end alone, and a nowhere on it
Arc : (ℕ → ℕ) → ℕ → ℕ → ℕ → Type 0
Arc f a b k = (iterate f k (f a) ≡ b) × ((i : ℕ) → i < k → iterate f i (f a) ≡ b → ⊥) × ((i : ℕ) → i < k → iterate f i (f a) ≡ a → ⊥)

-- where b is nowhere on the way from the image of a, it is not reached from a
no_walk : (n : ℕ) (f : ℕ → ℕ) (a b : ℕ) → a ≢ b → ((k : ℕ) → k < n → iterate f k (f a) ≡ b → ⊥) → (k : ℕ) → k < n
    → iterate f k a ≡ b → ⊥
no_walk n f a b ne none zero lt h = ne h
no_walk n f a b ne none (suc k) lt h = none k (omega arith) h

-- in one orbit there is a run from the image of a to b
arc_found : (n : ℕ) (f : ℕ → ℕ) (a b : ℕ) → Permutes n f → a < n → b < n → a ≢ b
    → labels (graph f n) a ≡ labels (graph f n) b → (k : ℕ) × Arc f a b k
unfolding Arc
arc_found n f a b perm lta ltb ne e =
    ⊎_elim
    (λ found. (
      found.0,
      (
        eqb-true (iterate f found.0 (f a)) b found.2,
        λ i lt. eqb-false (iterate f i (f a)) b (found.3 i lt),
        λ i lt h.
            let d : ℕ = found.0 - suc i in
            let whole : suc i + suc d ≡ suc found.0 = omega arith in
            let early : iterate f d (f a) ≡ b = ap (iterate f (suc d)) (sym h) ∙ sym (iterate-add f (suc i) (suc d) a) ∙ ap (λ (m : ℕ). iterate f m a) whole ∙ eqb-true (iterate f found.0 (f a)) b found.2 in
            eqb-false (iterate f d (f a)) b (found.3 d (omega arith)) early,
      ),
    ))
    (λ none. let w = Reaches-within n f perm a b lta (reached_labels n f perm a b lta ltb e) in absurd (no_walk n f a b ne (λ k lt. eqb-false (iterate f k (f a)) b (none k lt)) w.0 w.1 w.2))
    (first_below n (λ k. eqb (iterate f k (f a)) b))

-- from b the exchanged permutation never leaves the run
arc_closed : (f : ℕ → ℕ) (a b k : ℕ) → Arc f a b k → (j : ℕ)
    → (i : ℕ) × (i ≤ k) × (iterate (λ x. f (exchange a b x)) j b ≡ iterate f i (f a))
unfolding Arc
arc_closed f a b k arc zero = (k, omega arith, sym arc.0)
arc_closed f a b k arc (suc j) =
    let w : (i : ℕ) × (i ≤ k) × (iterate (λ x. f (exchange a b x)) j b ≡ iterate f i (f a)) = arc_closed f a b k arc j in
    let next : iterate (λ x. f (exchange a b x)) (suc j) b ≡ f (exchange a b (iterate f w.0 (f a))) = iterate-after (λ x. f (exchange a b x)) j b ∙ ap (λ (y : ℕ). f (exchange a b y)) w.2 in
    ⊎_elim
    (λ e. (0, omega arith, next ∙ ap f (exchange_right a b (iterate f w.0 (f a)) (ap (λ (i : ℕ). iterate f i (f a)) e ∙ arc.0))))
    (λ ne.
    let inside : w.0 < k = omega (arith, w.1) in
    (suc w.0, inside, next ∙ ap f (exchange_other a b (iterate f w.0 (f a)) (arc.2 w.0 inside) (arc.1 w.0 inside)) ∙ sym (iterate-after f w.0 (f a))))
    (cases_eq w.0 k)

-- an exchange of two numbers of one orbit brings them into different orbits
pub split_labels : (n : ℕ) (f : ℕ → ℕ) (a b : ℕ) → Permutes n f → a < n → b < n → a ≢ b
    → labels (graph f n) a ≡ labels (graph f n) b
    → labels (graph (λ x. f (exchange a b x)) n) a ≢ labels (graph (λ x. f (exchange a b x)) n) b
unfolding Arc
split_labels n f a b perm lta ltb ne e same =
    let found : (k : ℕ) × Arc f a b k = arc_found n f a b perm lta ltb ne e in
    let back : Reaches (λ x. f (exchange a b x)) b a = reached_labels n (λ x. f (exchange a b x)) (Permutes-exchange n f a b perm lta ltb) b a ltb lta (sym same) in
    let w : (i : ℕ) × (i ≤ found.0) × (iterate (λ x. f (exchange a b x)) back.0 b ≡ iterate f i (f a)) = arc_closed f a b found.0 found.1 back.0 in
    let at : iterate f w.0 (f a) ≡ a = sym w.2 ∙ back.1 in
    ⊎_elim
    (λ h. ne (sym at ∙ ap (λ (i : ℕ). iterate f i (f a)) h ∙ found.1.0))
    (λ nh. found.1.2 w.0 (omega (arith, w.1)) at)
    (cases_eq w.0 found.0)

-- an exchange of two numbers of one orbit splits the orbit
pub orbits_split : (n : ℕ) (f : ℕ → ℕ) (a b : ℕ) → Permutes n f → a < n → b < n → a ≢ b
    → labels (graph f n) a ≡ labels (graph f n) b → orbits n (λ x. f (exchange a b x)) ≡ suc (orbits n f)
orbits_split n f a b perm lta ltb ne e =
    orbits_joined n (λ x. f (exchange a b x)) a b (Permutes-exchange n f a b perm lta ltb) lta ltb (split_labels n f a b perm lta ltb ne e) ∙ ap suc (orbits_agree (λ x. f (exchange a b (exchange a b x))) f n (λ x lt. ap f (exchange-exchange a b x)))

-- an exchange of a number with itself changes nothing
pub orbits_alike : (n : ℕ) (f : ℕ → ℕ) (a b : ℕ) → a ≡ b → orbits n (λ x. f (exchange a b x)) ≡ orbits n f
orbits_alike n f a b e = orbits_agree (λ x. f (exchange a b x)) f n (λ x lt. ap f (exchange_case (λ y. y ≡ x) a b x (λ h. sym e ∙ sym h) (λ na h. e ∙ sym h) (λ na nb. refl)))

-- an exchange adds at most one orbit
pub orbits_exchanged : (n : ℕ) (f : ℕ → ℕ) (a b : ℕ) → Permutes n f → a < n → b < n
    → orbits n (λ x. f (exchange a b x)) ≤ suc (orbits n f)
orbits_exchanged n f a b perm lta ltb =
    ⊎_elim
    (λ e. omega (arith, orbits_alike n f a b e))
    (λ ne. ⊎_elim (λ l. omega (arith, orbits_split n f a b perm lta ltb ne l)) (λ nl. omega (arith, orbits_joined n f a b perm lta ltb nl)) (cases_eq (labels (graph f n) a) (labels (graph f n) b)))
    (cases_eq a b)

-- an exchange takes away at most one orbit
pub orbits_exchanged-ge : (n : ℕ) (f : ℕ → ℕ) (a b : ℕ) → Permutes n f → a < n → b < n
    → orbits n f ≤ suc (orbits n (λ x. f (exchange a b x)))
orbits_exchanged-ge n f a b perm lta ltb =
    ⊎_elim
    (λ e. omega (arith, orbits_alike n f a b e))
    (λ ne. ⊎_elim (λ l. omega (arith, orbits_split n f a b perm lta ltb ne l)) (λ nl. omega (arith, orbits_joined n f a b perm lta ltb nl)) (cases_eq (labels (graph f n) a) (labels (graph f n) b)))
    (cases_eq a b)

-- what leads to the number left out goes on
pub splice_at : (f : ℕ → ℕ) (d x : ℕ) → f x ≡ d → splice f d x ≡ f d
splice_at f d x e = rw (eq-eqb (f x) d e) refl

-- what leads elsewhere stays
pub splice_other : (f : ℕ → ℕ) (d x : ℕ) → (f x ≡ d → ⊥) → splice f d x ≡ f x
splice_other f d x ne = rw (ne_eqb (f x) d ne) refl

-- a permutation without its last number is a permutation
pub Permutes-splice : (n : ℕ) (f : ℕ → ℕ) → Permutes (suc n) f → Permutes n (splice f n)
Permutes-splice n f perm = record {
  below = λ x lt.
      ⊎_elim
      (λ e. subst (λ y. y < n) (sym (splice_at f n x e)) (omega (arith, perm.below n (lt-suc_self n), last x lt e)))
      (λ ne. subst (λ y. y < n) (sym (splice_other f n x ne)) (omega (arith, perm.below x (omega arith))))
      (cases_eq (f x) n);
  apart = λ x y ltx lty e.
      ⊎_elim
      (λ h. ⊎_elim
      (λ k. perm.apart x y (omega arith) (omega arith) (h ∙ sym k))
      (λ nk. let same : n ≡ y = perm.apart n y (lt-suc_self n) (omega arith) (sym (splice_at f n x h) ∙ e ∙ splice_other f n y nk) in absurd (omega arith))
      (cases_eq (f y) n))
      (λ nh. ⊎_elim
      (λ k. let same : x ≡ n = perm.apart x n (omega arith) (lt-suc_self n) (sym (splice_other f n x nh) ∙ e ∙ splice_at f n y k) in absurd (omega arith))
      (λ nk. perm.apart x y (omega arith) (omega arith) (sym (splice_other f n x nh) ∙ e ∙ splice_other f n y nk))
      (cases_eq (f y) n))
      (cases_eq (f x) n);
}
  where
    last : (x : ℕ) → x < n → f x ≡ n → f n ≢ n
    last x lt e h = let same : x ≡ n = perm.apart x n (omega arith) (lt-suc_self n) (e ∙ sym h) in omega arith

-- without the last number the others keep their labels
pub splice-labels : (n : ℕ) (f : ℕ → ℕ) → Permutes (suc n) f → (x : ℕ) → x < n
    → labels (graph f (suc n)) x ≡ labels (graph (splice f n) n) x
splice-labels n f perm x lt =
    let down : label (skip (whole x)) ≡ label (skip x) = labels-keeps (λ y. label (skip y)) (graph f (suc n)) respected x in
    let up : whole (label x) ≡ whole x = labels-keeps whole (graph (splice f n) n) kept x in
    let low : whole x ≤ x = labels-le (graph f (suc n)) x in
    let down_too : label (whole x) ≡ label x = ap label (sym (skip_other (whole x) (omega arith))) ∙ down ∙ ap label (skip_other x lt) in
    omega (arith, labels-le (graph (splice f n) n) (whole x), labels-le (graph f (suc n)) (label x))
  where
    whole : ℕ → ℕ
    whole = labels (graph f (suc n))

    label : ℕ → ℕ
    label = labels (graph (splice f n) n)

    skip : ℕ → ℕ
    skip y = cond (eqb y n) (f n) y

    skip_at : (y : ℕ) → y ≡ n → skip y ≡ f n
    skip_at y e = rw (eq-eqb y n e) refl

    skip_other : (y : ℕ) → y < n → skip y ≡ y
    skip_other y l = rw (ne_eqb y n (λ e. omega arith)) refl

    kept : Respects whole (graph (splice f n) n)
    kept = Respects-graph whole (splice f n) n (λ y l. label_step f (suc n) y (omega arith) ∙ ⊎_elim
        (λ e. ap whole e ∙ label_step f (suc n) n (lt-suc_self n) ∙ ap whole (sym (splice_at f n y e)))
        (λ ne. ap whole (sym (splice_other f n y ne)))
        (cases_eq (f y) n))

    respected : Respects (λ y. label (skip y)) (graph f (suc n))
    respected = Respects-graph (λ y. label (skip y)) f (suc n) (λ y l. ⊎_elim
        (λ e. ap label (skip_at y e) ∙ ap label (sym (⊎_elim (λ h. skip_at (f y) h) (λ nh. skip_other (f y) (omega (arith, perm.below y l)) ∙ ap f e) (cases_eq (f y) n))))
        (λ ne. ap label (skip_other y (omega arith)) ∙ label_step (splice f n) n y (omega arith))
        (cases_eq y n))

-- a number that is not alone in its orbit can be left out
pub orbits-splice : (n : ℕ) (f : ℕ → ℕ) → Permutes (suc n) f → f n ≢ n → orbits (suc n) f ≡ orbits n (splice f n)
orbits-splice n f perm ne =
    count_no n (λ x. eqb (labels (graph f (suc n)) x) x) (ne_eqb (labels (graph f (suc n)) n) n (λ e. omega (arith, label_step f (suc n) n (lt-suc_self n), labels-le (graph f (suc n)) (f n), perm.below n (lt-suc_self n), ne)))
    ∙ count_agree n (λ x. eqb (labels (graph f (suc n)) x) x) (λ x. eqb (labels (graph (splice f n) n) x) x) (λ x lt. ap (λ (y : ℕ). eqb y x) (splice-labels n f perm x lt))

-- a number that is alone in its orbit is an orbit
pub orbits-splice_alone : (n : ℕ) (f : ℕ → ℕ) → Permutes (suc n) f → f n ≡ n
    → orbits (suc n) f ≡ suc (orbits n (splice f n))
orbits-splice_alone n f perm e =
    count_yes n (λ x. eqb (labels (graph f (suc n)) x) x) (ap (λ (y : ℕ). eqb y n) (labels_same (n, f n) (graph f n) n (ap (labels (graph f n)) (sym e))) ∙ own)
    ∙ ap suc (count_agree n (λ x. eqb (labels (graph f (suc n)) x) x) (λ x. eqb (labels (graph (splice f n) n) x) x) (λ x lt. ap (λ (y : ℕ). eqb y x) (splice-labels n f perm x lt)))
  where
    elsewhere : (x : ℕ) → x < n → f x ≡ n → ⊥
    elsewhere x lt h = let same : x ≡ n = perm.apart x n (omega arith) (lt-suc_self n) (h ∙ sym e) in omega arith

    own : eqb (labels (graph f n) n) n ≡ true
    own = labels-keeps (λ y. eqb y n) (graph f n) (Respects-graph (λ y. eqb y n) f n (λ x lt. ne_eqb x n (λ h. omega arith) ∙ sym (ne_eqb (f x) n (elsewhere x lt)))) n ∙ eq-eqb n n refl

-- a renumbering that carries the pairs' classes to those of other pairs does not give fewer
pub classes_renumbered-le : (n : ℕ) (p q : ℕ → ℕ) (es fs : List (ℕ × ℕ)) → Renumbers n p q
    → Respects (λ x. labels es (q x)) fs → classes n es ≤ classes n fs
classes_renumbered-le n p q es fs ren r = classes_transport-le n n es fs p q ren.there r (λ x lt. ap (labels es) (ren.there_back x lt))

-- the other way round a renumbering is one too
pub Renumbers-sym : (n : ℕ) (p q : ℕ → ℕ) → Renumbers n p q → Renumbers n q p
Renumbers-sym n p q ren = record { there = ren.back; back = ren.there; there_back = ren.back_there; back_there = ren.there_back }

-- an exchange renumbers
pub Renumbers-exchange : (n a b : ℕ) → a < n → b < n → Renumbers n (exchange a b) (exchange a b)
Renumbers-exchange n a b lta ltb = record {
  there = λ x lt. exchange-below n a b x lta ltb lt;
  back = λ x lt. exchange-below n a b x lta ltb lt;
  there_back = λ x lt. exchange-exchange a b x;
  back_there = λ x lt. exchange-exchange a b x;
}

-- a renumbering is a permutation
pub Renumbers-Permutes : (n : ℕ) (p q : ℕ → ℕ) → Renumbers n p q → Permutes n p
Renumbers-Permutes n p q ren = Permutes-undone n p q ren.there ren.there_back

-- the renumbered permutation respects the orbits of the old one
renumbered_respects : (n : ℕ) (p q f g : ℕ → ℕ) → Renumbers n p q → Permutes n f → ((x : ℕ) → x < n → g (p x) ≡ p (f x))
    → Respects (λ x. labels (graph f n) (q x)) (graph g n)
renumbered_respects n p q f g ren perm same = Respects-graph (λ x. labels (graph f n) (q x)) g n (λ y lt.
    let moved : q (g y) ≡ f (q y) = ap (λ (z : ℕ). q (g z)) (sym (ren.back_there y lt)) ∙ ap q (same (q y) (ren.back y lt)) ∙ ren.there_back (f (q y)) (perm.below (q y) (ren.back y lt)) in
    label_step f n (q y) (ren.back y lt) ∙ ap (labels (graph f n)) (sym moved))

-- a renumbering keeps the number of orbits
pub orbits_renumbered : (n : ℕ) (p q f g : ℕ → ℕ) → Renumbers n p q → Permutes n f → Permutes n g
    → ((x : ℕ) → x < n → g (p x) ≡ p (f x)) → orbits n f ≡ orbits n g
orbits_renumbered n p q f g ren pf pg same = omega (
  arith,
  classes_renumbered-le n p q (graph f n) (graph g n) ren (renumbered_respects n p q f g ren pf same),
  classes_renumbered-le n q p (graph g n) (graph f n) (Renumbers-sym n p q ren) (renumbered_respects n q p g f (Renumbers-sym n p q ren) pg (λ y lt.
      sym (ren.there_back (f (q y)) (pf.below (q y) (ren.back y lt))) ∙ ap q (sym (same (q y) (ren.back y lt)) ∙ ap g (ren.back_there y lt)))),
)

-- a renumbering leads from steps to steps
steps_renumbered : (n : ℕ) (p f g : ℕ → ℕ) → Permutes n f → ((x : ℕ) → x < n → g (p x) ≡ p (f x)) → (k x : ℕ) → x < n
    → iterate g k (p x) ≡ p (iterate f k x)
steps_renumbered n p f g perm same zero x lt = refl
steps_renumbered n p f g perm same (suc k) x lt = ap (iterate g k) (same x lt) ∙ steps_renumbered n p f g perm same k (f x) (perm.below x lt)

-- a renumbering leads from walk to walk
pub Reaches-renumbered : (n : ℕ) (p f g : ℕ → ℕ) → Permutes n f → ((x : ℕ) → x < n → g (p x) ≡ p (f x)) → (x y : ℕ)
    → x < n → Reaches f x y → Reaches g (p x) (p y)
Reaches-renumbered n p f g perm same x y lt r = (r.0, steps_renumbered n p f g perm same r.0 x lt ∙ ap p r.1)

-- v takes the number u
pub joined_at : (u v x : ℕ) → x ≡ v → joined u v x ≡ u
joined_at u v x e = rw (eq-eqb x v e) refl

-- all others keep their numbers
pub joined_other : (u v x : ℕ) → (x ≡ v → ⊥) → joined u v x ≡ x
joined_other u v x ne = rw (ne_eqb x v ne) refl

-- the number stays below v
pub joined-below : (u v x : ℕ) → u < v → x < suc v → joined u v x < v
joined-below u v x lt l = ⊎_elim (λ e. omega (arith, joined_at u v x e)) (λ ne. omega (arith, joined_other u v x ne)) (cases_eq x v)

-- what has one value at u and v has it after v is named u
pub joined-keeps : {A : Type 0} (g : ℕ → A) (u v x : ℕ) → g u ≡ g v → g (joined u v x) ≡ g x
joined-keeps g u v x e = ⊎_elim (λ h. ap g (joined_at u v x h) ∙ e ∙ ap g (sym h)) (λ ne. ap g (joined_other u v x ne)) (cases_eq x v)

-- to respect renamed pairs is to respect the pairs after the renaming
pub Respects-rename : {A : Type 0} (g : ℕ → A) (h : ℕ → ℕ) (es : List (ℕ × ℕ)) → Respects (λ x. g (h x)) es
    → Respects g (rename h es)
Respects-rename g h [] r = tt
Respects-rename g h (e ∷ es) r = (r.0, Respects-rename g h es r.1)

-- to respect the pairs after the renaming is to respect renamed pairs
pub rename-respects : {A : Type 0} (g : ℕ → A) (h : ℕ → ℕ) (es : List (ℕ × ℕ)) → Respects g (rename h es)
    → Respects (λ x. g (h x)) es
rename-respects g h [] r = tt
rename-respects g h (e ∷ es) r = (r.0, rename-respects g h es r.1)

-- the last number merged with a lower one: as many classes as with the pair of the two
pub classes-merged : (u v : ℕ) (es : List (ℕ × ℕ)) → u < v
    → classes v (rename (joined u v) es) ≡ classes (suc v) ((u, v) ∷ es)
classes-merged u v es lt = omega (
  arith,
  classes_transport-le v (suc v) (rename (joined u v) es) ((u, v) ∷ es) (λ x. x) (joined u v) (λ x l. omega arith)
      (ap fused (joined_other u v u (λ e. omega arith) ∙ sym (joined_at u v v refl)), rename-respects fused (joined u v) es (labels-respects (rename (joined u v) es)))
      (λ x l. ap fused (joined_other u v x (λ e. omega arith))),
  classes_transport-le (suc v) v ((u, v) ∷ es) (rename (joined u v) es) (joined u v) (λ x. x) (λ x l. joined-below u v x lt l)
      (Respects-rename paired (joined u v) es (Respects-same paired (λ x. paired (joined u v x)) es (λ x. sym (joined-keeps paired u v x ends)) (labels-respects ((u, v) ∷ es)).1))
      (λ x l. joined-keeps paired u v x ends),
)
  where
    fused : ℕ → ℕ
    fused = labels (rename (joined u v) es)

    paired : ℕ → ℕ
    paired = labels ((u, v) ∷ es)

    ends : paired u ≡ paired v
    ends = (labels-respects ((u, v) ∷ es)).0
