-- Partners of darts at two vertices that are glued, and the numbers of the darts then.
use Rattle.std.proofs.Common.{◌≡◌, ℕ, zero, suc, ◌<◌, Bool, true, cond, ◌&&◌, eqb, List, [], ◌∷◌, length, map, get_or, sym, refl, ap, ap₂, ◌∙◌, subst, ⊎_elim, arith}
use Rattle.std.proofs.lemmas.Bool.{cases_eq, cases_Bool, cases_lt, eq-eqb, ne_eqb, eqb-true, cond-true, cond-false}
use Rattle.std.proofs.lemmas.List.{get_or-map, length-map}
use Rattle.cp_lists.specs.Count.{count, Exactly}
use Rattle.cp_lists.specs.CyclicLists.{Has, Distinct}
use Rattle.cp_lists.proofs.Counting.{count_yes, count_no, count_higher}
use Rattle.cp_lists.proofs.ExactLists.{place_of}
use Rattle.cp_lists.proofs.DistinctLists.{has_other, Has_at, Exactly-Distinct}
use Rattle.cp_rot.specs.Systems.{System, darts, vertex_of}
use Rattle.cp_rotlaw.specs.Glue.{ArePartners, partner_of_first, partner_of_second}

-- the first of pair i
abbrev pub first_of : List (ℕ × ℕ) → ℕ → ℕ
first_of pairs i = (get_or pairs i (0, 0)).0

-- the second of pair i
abbrev pub second_of : List (ℕ × ℕ) → ℕ → ℕ
second_of pairs i = (get_or pairs i (0, 0)).1

-- the partner of the first of a pair is its second
pub partner-first : (pairs : List (ℕ × ℕ)) (i : ℕ) → Distinct (map (λ pair. pair.0) pairs) → i < length pairs
    → partner_of_first pairs (first_of pairs i) ≡ second_of pairs i
partner-first [] i dis lt = absurd (omega arith)
partner-first (p ∷ pairs) zero dis lt = cond-true (eqb p.0 p.0) p.1 (partner_of_first pairs p.0) (eq-eqb p.0 p.0 refl)
partner-first (p ∷ pairs) (suc i) dis lt =
    let l : i < length pairs = omega arith in
    let has : Has (first_of pairs i) (map (λ pair. pair.0) pairs) = subst (λ y. Has y (map (λ pair. pair.0) pairs)) (get_or-map {X = ℕ × ℕ} {Y = ℕ} (λ pair. pair.0) pairs i (0, 0) 0 l) (Has_at (map (λ pair. pair.0) pairs) i (omega (arith, l, length-map pairs (λ (pair : ℕ × ℕ). pair.0)))) in
    cond-false (eqb p.0 (first_of pairs i)) p.1 (partner_of_first pairs (first_of pairs i)) (ne_eqb p.0 (first_of pairs i) (λ e. has_other (first_of pairs i) p.0 (map (λ pair. pair.0) pairs) has dis.0 (sym e)))
    ∙ partner-first pairs i dis.1 l

-- the partner of the second of a pair is its first
partner-second : (pairs : List (ℕ × ℕ)) (i : ℕ) → Distinct (map (λ pair. pair.1) pairs) → i < length pairs
    → partner_of_second pairs (second_of pairs i) ≡ first_of pairs i
partner-second [] i dis lt = absurd (omega arith)
partner-second (p ∷ pairs) zero dis lt = cond-true (eqb p.1 p.1) p.0 (partner_of_second pairs p.1) (eq-eqb p.1 p.1 refl)
partner-second (p ∷ pairs) (suc i) dis lt =
    let l : i < length pairs = omega arith in
    let has : Has (second_of pairs i) (map (λ pair. pair.1) pairs) = subst (λ y. Has y (map (λ pair. pair.1) pairs)) (get_or-map {X = ℕ × ℕ} {Y = ℕ} (λ pair. pair.1) pairs i (0, 0) 0 l) (Has_at (map (λ pair. pair.1) pairs) i (omega (arith, l, length-map pairs (λ (pair : ℕ × ℕ). pair.1)))) in
    cond-false (eqb p.1 (second_of pairs i)) p.0 (partner_of_second pairs (second_of pairs i)) (ne_eqb p.1 (second_of pairs i) (λ e. has_other (second_of pairs i) p.1 (map (λ pair. pair.1) pairs) has dis.0 (sym e)))
    ∙ partner-second pairs i dis.1 l

-- seconds that are listed exactly: each item is the second of a pair
pub second_index : (n : ℕ) (p : ℕ → Bool) (pairs : List (ℕ × ℕ)) → Exactly n p (map (λ pair. pair.1) pairs) → (y : ℕ)
    → y < n → p y ≡ true → (i : ℕ) × (i < length pairs) × (second_of pairs i ≡ y)
second_index n p pairs exact y lt t =
    let c = place_of (map (λ pair. pair.1) pairs) y (exact.all y lt t) in
    let l : c.0 < length pairs = omega (arith, c.1, length-map pairs (λ (pair : ℕ × ℕ). pair.1)) in
    (c.0, l, sym (get_or-map {X = ℕ × ℕ} {Y = ℕ} (λ pair. pair.1) pairs c.0 (0, 0) 0 l) ∙ c.2)

-- the second of each pair is listed
pub second_passes : (n : ℕ) (p : ℕ → Bool) (pairs : List (ℕ × ℕ)) → Exactly n p (map (λ pair. pair.1) pairs) → (i : ℕ)
    → i < length pairs → (second_of pairs i < n) × (p (second_of pairs i) ≡ true)
second_passes n p pairs exact i lt =
    let e = get_or-map {X = ℕ × ℕ} {Y = ℕ} (λ pair. pair.1) pairs i (0, 0) 0 lt in
    let w = exact.each_passes i (omega (arith, lt, length-map pairs (λ (pair : ℕ × ℕ). pair.1))) in
    (subst (λ y. y < n) e w.0, subst (λ y. p y ≡ true) e w.1)

-- equal seconds are of one pair
pub second_once : (n : ℕ) (p : ℕ → Bool) (pairs : List (ℕ × ℕ)) → Exactly n p (map (λ pair. pair.1) pairs) → (i j : ℕ)
    → i < length pairs → j < length pairs → second_of pairs i ≡ second_of pairs j → i ≡ j
second_once n p pairs exact i j lti ltj e = exact.each_once i j (omega (arith, lti, length-map pairs (λ (pair : ℕ × ℕ). pair.1))) (omega (arith, ltj, length-map pairs (λ (pair : ℕ × ℕ). pair.1)))
    (get_or-map {X = ℕ × ℕ} {Y = ℕ} (λ pair. pair.1) pairs i (0, 0) 0 lti ∙ e ∙ sym (get_or-map {X = ℕ × ℕ} {Y = ℕ} (λ pair. pair.1) pairs j (0, 0) 0 ltj))

-- the partner of the second of a pair is its first
pub second_partner : (n : ℕ) (p : ℕ → Bool) (pairs : List (ℕ × ℕ)) → Exactly n p (map (λ pair. pair.1) pairs) → (i : ℕ)
    → i < length pairs → partner_of_second pairs (second_of pairs i) ≡ first_of pairs i
second_partner n p pairs exact i lt = partner-second pairs i (Exactly-Distinct n p (map (λ pair. pair.1) pairs) exact) lt

-- the darts at the two vertices are partners
module _ (a b : System) (u w : ℕ) (pairs : List (ℕ × ℕ)) (partners : ArePartners a u b w pairs) where
  -- a dart at u is the first of a pair
  first_index : (x : ℕ) → x < darts a → vertex_of a x ≡ u → (i : ℕ) × (i < length pairs) × (first_of pairs i ≡ x)
  first_index x lt e =
      let c = place_of (map (λ pair. pair.0) pairs) x (partners.first.all x lt (eq-eqb (vertex_of a x) u e)) in
      let l : c.0 < length pairs = omega (arith, c.1, length-map pairs (λ (pair : ℕ × ℕ). pair.0)) in
      (c.0, l, sym (get_or-map {X = ℕ × ℕ} {Y = ℕ} (λ pair. pair.0) pairs c.0 (0, 0) 0 l) ∙ c.2)

  -- the first of each pair stands at u
  first_stands : (i : ℕ) → i < length pairs → (first_of pairs i < darts a) × (vertex_of a (first_of pairs i) ≡ u)
  first_stands i lt =
      let e = get_or-map {X = ℕ × ℕ} {Y = ℕ} (λ pair. pair.0) pairs i (0, 0) 0 lt in
      let s = partners.first.each_passes i (omega (arith, lt, length-map pairs (λ (pair : ℕ × ℕ). pair.0))) in
      (subst (λ y. y < darts a) e s.0, eqb-true (vertex_of a (first_of pairs i)) u (subst (λ y. eqb (vertex_of a y) u ≡ true) e s.1))

  -- the second of each pair stands at w
  second_stands : (i : ℕ) → i < length pairs → (second_of pairs i < darts b) × (vertex_of b (second_of pairs i) ≡ w)
  second_stands i lt =
      let s = second_passes (darts b) (λ d. eqb (vertex_of b d) w) pairs partners.second i lt in
      (s.0, eqb-true (vertex_of b (second_of pairs i)) w s.1)

  -- the partner of the first of a pair
  partner_of : (i : ℕ) → i < length pairs → partner_of_first pairs (first_of pairs i) ≡ second_of pairs i
  partner_of i lt = partner-first pairs i (Exactly-Distinct (darts a) (λ d. eqb (vertex_of a d) u) (map (λ pair. pair.0) pairs) partners.first) lt

  -- the partner of its second
  partner_back : (i : ℕ) → i < length pairs → partner_of_second pairs (second_of pairs i) ≡ first_of pairs i
  partner_back i lt = second_partner (darts b) (λ d. eqb (vertex_of b d) w) pairs partners.second i lt

  -- the partner of a dart at u is a dart at w, whose partner it is
  pub partner_first : (x : ℕ) → x < darts a → vertex_of a x ≡ u
      → (partner_of_first pairs x < darts b) × (vertex_of b (partner_of_first pairs x) ≡ w)
      × (partner_of_second pairs (partner_of_first pairs x) ≡ x)
  partner_first x lt e =
      let i = first_index x lt e in
      let s = second_stands i.0 i.1 in
      let p : partner_of_first pairs x ≡ second_of pairs i.0 = ap (partner_of_first pairs) (sym i.2) ∙ partner_of i.0 i.1 in
      (subst (λ y. y < darts b) (sym p) s.0, ap (vertex_of b) p ∙ s.1, ap (partner_of_second pairs) p ∙ partner_back i.0 i.1 ∙ i.2)

  -- the partner of a dart at w is a dart at u, whose partner it is
  pub partner_second : (y : ℕ) → y < darts b → vertex_of b y ≡ w
      → (partner_of_second pairs y < darts a) × (vertex_of a (partner_of_second pairs y) ≡ u)
      × (partner_of_first pairs (partner_of_second pairs y) ≡ y)
  partner_second y lt e =
      let i = second_index (darts b) (λ d. eqb (vertex_of b d) w) pairs partners.second y lt (eq-eqb (vertex_of b y) w e) in
      let s = first_stands i.0 i.1 in
      let p : partner_of_second pairs y ≡ first_of pairs i.0 = ap (partner_of_second pairs) (sym i.2) ∙ partner_back i.0 i.1 in
      (subst (λ x. x < darts a) (sym p) s.0, ap (vertex_of a) p ∙ s.1, ap (partner_of_first pairs) p ∙ partner_of i.0 i.1 ∙ i.2)

-- the number below n that is number k of those that pass
pub passing : ℕ → (ℕ → Bool) → ℕ → ℕ
passing zero p k = 0
passing (suc n) p k = cond (p n && eqb (count n p) k) n (passing n p k)

-- it passes, and k pass before it
pub passing-is : (n : ℕ) (p : ℕ → Bool) (k : ℕ) → k < count n p
    → (passing n p k < n) × (p (passing n p k) ≡ true) × (count (passing n p k) p ≡ k)
unfolding passing
passing-is zero p k lt = absurd (omega arith)
passing-is (suc n) p k lt = ⊎_elim
    (λ t. ⊎_elim
    (λ e.
    let here : passing (suc n) p k ≡ n = cond-true (p n && eqb (count n p) k) n (passing n p k) (ap₂ (λ x y. x && y) t (eq-eqb (count n p) k e)) in
    (omega arith, ap p here ∙ t, ap (λ m. count m p) here ∙ e))
    (λ ne.
    let here : passing (suc n) p k ≡ passing n p k = cond-false (p n && eqb (count n p) k) n (passing n p k) (ap₂ (λ x y. x && y) t (ne_eqb (count n p) k ne)) in
    let rest = passing-is n p k (omega (arith, count_yes n p t)) in
    (omega (arith, rest.0), ap p here ∙ rest.1, ap (λ m. count m p) here ∙ rest.2))
    (cases_eq (count n p) k))
    (λ f.
    let here : passing (suc n) p k ≡ passing n p k = cond-false (p n && eqb (count n p) k) n (passing n p k) (ap (λ x. x && eqb (count n p) k) f) in
    let rest = passing-is n p k (omega (arith, count_no n p f)) in
    (omega (arith, rest.0), ap p here ∙ rest.1, ap (λ m. count m p) here ∙ rest.2))
    (cases_Bool (p n))

-- a number that passes is counted behind those before it
pub count_before : (p : ℕ → Bool) (m n : ℕ) → m < n → p m ≡ true → count m p < count n p
count_before p m n lt t = omega (arith, count_yes m p t, count_higher (suc m) n p (omega arith))

-- so no two numbers that pass have one count
pub count_before-apart : (p : ℕ → Bool) (m n : ℕ) → p m ≡ true → p n ≡ true → count m p ≡ count n p → m ≡ n
count_before-apart p m n tm tn e = ⊎_elim
    (λ lt. absurd (omega (arith, count_before p m n lt tm)))
    (λ ge. ⊎_elim (λ h. h) (λ ne. absurd (omega (arith, count_before p n m (omega arith) tn))) (cases_eq m n))
    (cases_lt m n)
