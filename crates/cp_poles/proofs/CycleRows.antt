-- A map all of whose cycles have one length turns the list of their rows.
use Rattle.std.proofs.Common.{◌≡◌, ℕ, zero, suc, ◌+◌, ◌-◌, ◌<◌, ◌≤◌, true, leb, List, [], ◌∷◌, ◌++◌, map, append-nil, append_assoc, sym, refl, ap, ◌∙◌, subst, inl, inr, ⊎_elim, arith}
use Rattle.std.specs.Fn.{iterate}
use Rattle.std.proofs.lemmas.Bool.{and_from, and_parts, cases_eq, cases_lt, le-leb, leb-true}
use Rattle.std.proofs.lemmas.List.{map-append}
use Rattle.cp_lists.specs.CyclicLists.{Distinct, Has}
use Rattle.cp_lists.specs.Turns.{IsTurn}
use Rattle.cp_lists.proofs.DistinctLists.{Distinct-append, Has-append_cases, Has-append_left, Has-append_right, Lacks-from}
use Rattle.cp_lists.proofs.FilteredLists.{Has-filter, filter-Distinct, filter-Has}
use Rattle.cp_lists.proofs.MappedLists.{Distinct-map_on, Has-map_on, map_on-Has}
use Rattle.cp_lists.proofs.TurnedLists.{turn_parts, turn-refl}
use Rattle.cp_orbits.specs.Orbits.{CycleLength}
use Rattle.cp_orbits.proofs.OrbitLaws.{iterate-add}
use Rattle.cp_poles.specs.Layers.{layers, leaders, lowest}

-- the image of the rows
pub layers-map : (m : ℕ → ℕ) (c : ℕ) (row : List ℕ) → map m (layers m c row) ≡ layers m c (map m row)
layers-map m zero row = refl
layers-map m (suc c) row =
    map-append m row (layers m c (map m row)) ∙ ap (λ us. map m row ++ us) (layers-map m c (map m row))

-- a power of the image of a row
power_row : (m : ℕ → ℕ) (c : ℕ) (xs : List ℕ) → map (iterate m c) (map m xs) ≡ map (iterate m (suc c)) xs
power_row m c [] = refl
power_row m c (x ∷ xs) = ap (λ us. iterate m c (m x) ∷ us) (power_row m c xs)

-- one row more at the end
pub layers-last : (m : ℕ → ℕ) (c : ℕ) (row : List ℕ) → layers m (suc c) row ≡ layers m c row ++ map (iterate m c) row
layers-last m zero row = append-nil row ∙ sym (map_same row)
  where
    map_same : (xs : List ℕ) → map (λ x. x) xs ≡ xs
    map_same [] = refl
    map_same (x ∷ xs) = ap (λ us. x ∷ us) (map_same xs)
layers-last m (suc c) row =
    ap (λ us. row ++ us)
    (layers-last m c (map m row) ∙ ap (λ us. layers m c (map m row) ++ us) (power_row m c row))
    ∙ sym (append_assoc row (layers m c (map m row)) (map (iterate m (suc c)) row))

-- a power that keeps all items keeps the list
kept_row : (h : ℕ → ℕ) (row : List ℕ) → ((x : ℕ) → Has x row → h x ≡ x) → map h row ≡ row
kept_row h [] same = refl
kept_row h (x ∷ row) same =
    ap (λ y. y ∷ map h row) (same x (inl refl)) ∙ ap (λ us. x ∷ us) (kept_row h row (λ y k. same y (inr k)))

-- where the power of the number of rows keeps the first row, the map turns the list
layers_turn : (m : ℕ → ℕ) (c : ℕ) (row : List ℕ) → ((x : ℕ) → Has x row → iterate m c x ≡ x)
    → IsTurn (layers m c row) (map m (layers m c row))
layers_turn m zero row same = turn-refl []
layers_turn m (suc c) row same =
    let back : map (iterate m c) (map m row) ≡ row = power_row m c row ∙ kept_row (iterate m (suc c)) row same in
    subst (IsTurn (layers m (suc c) row))
    (sym (layers-map m (suc c) row ∙ layers-last m c (map m row)
    ∙ ap (λ us. layers m c (map m row) ++ us) back))
    (turn_parts row (layers m c (map m row)))

-- an item of the rows is what a power makes of one of the first row
pub layers-Has : (m : ℕ → ℕ) (c : ℕ) (row : List ℕ) (d : ℕ) → Has d (layers m c row)
    → (k : ℕ) × (k < c) × ((x : ℕ) × Has x row × (iterate m k x ≡ d))
layers-Has m zero row d h = absurd h
layers-Has m (suc c) row d h = ⊎_elim
    (λ here. (0, omega arith, (d, here, refl)))
    (λ later.
    let k = layers-Has m c (map m row) d later in
    let x = map_on-Has m k.2.0 row k.2.1 in
    (suc k.0, omega (arith, k.1), (x.0, x.1, ap (iterate m k.0) x.2 ∙ k.2.2)))
    (Has-append_cases d row (layers m c (map m row)) h)

-- and each of these is one
Has-layers : (m : ℕ → ℕ) (c : ℕ) (row : List ℕ) (k x : ℕ) → k < c → Has x row → Has (iterate m k x) (layers m c row)
Has-layers m zero row k x lt h = absurd (omega (arith, lt))
Has-layers m (suc c) row zero x lt h = Has-append_left x row (layers m c (map m row)) h
Has-layers m (suc c) row (suc k) x lt h =
    Has-append_right (iterate m k (m x)) row (layers m c (map m row))
    (Has-layers m c (map m row) k (m x) (omega (arith, lt)) (Has-map_on m x row h))

-- powers below c of items of the row are apart
abbrev AreApart : (ℕ → ℕ) → ℕ → List ℕ → Type 0
AreApart m c row = (j k x y : ℕ) → j < c → k < c → Has x row → Has y row → iterate m j x ≡ iterate m k y
    → (j ≡ k) × (x ≡ y)

-- then no item stands twice in the rows
layers-Distinct : (m : ℕ → ℕ) (c : ℕ) (row : List ℕ) → Distinct row → AreApart m c row → Distinct (layers m c row)
layers-Distinct m zero row once apart = tt
layers-Distinct m (suc zero) row once apart = Distinct-append row [] once tt (λ d h. tt)
layers-Distinct m (suc (suc c)) row once apart =
    Distinct-append row (layers m (suc c) (map m row)) once
    (layers-Distinct m (suc c) (map m row)
    (Distinct-map_on m row (λ x y hx hy same. (apart 1 1 x y (omega arith) (omega arith) hx hy same).1) once)
    (λ j k x y lj lk hx hy same.
    let a = map_on-Has m x row hx in
    let b = map_on-Has m y row hy in
    let one = apart (suc j) (suc k) a.0 b.0 (omega (arith, lj)) (omega (arith, lk)) a.1 b.1
    (ap (iterate m j) a.2 ∙ same ∙ sym (ap (iterate m k) b.2)) in
    (let h : j ≡ k = omega (arith, one.0) in h, sym a.2 ∙ ap m one.1 ∙ b.2)))
    (λ d h. Lacks-from d (layers m (suc c) (map m row)) (λ k.
    let w = layers-Has m (suc c) (map m row) d k in
    let x = map_on-Has m w.2.0 row w.2.1 in
    let same = apart 0 (suc w.0) d x.0 (omega arith) (omega (arith, w.1)) h x.1
    (sym (ap (iterate m w.0) x.2 ∙ w.2.2)) in
    omega (arith, same.0)))

-- what the test of the least item says
pub lowest-at : (m : ℕ → ℕ) (n x y : ℕ) → lowest m n x y ≡ true → (k : ℕ) → k < n → x ≤ iterate m k y
lowest-at m zero x y t k lt = absurd (omega (arith, lt))
lowest-at m (suc n) x y t zero lt = leb-true x y (and_parts (leb x y) (lowest m n x (m y)) t).0
lowest-at m (suc n) x y t (suc k) lt =
    lowest-at m n x (m y) (and_parts (leb x y) (lowest m n x (m y)) t).1 k (omega (arith, lt))

-- an item that is least of those that the map makes of it passes the test
pub lowest-from : (m : ℕ → ℕ) (n x y : ℕ) → ((k : ℕ) → k < n → x ≤ iterate m k y) → lowest m n x y ≡ true
lowest-from m zero x y each = refl
lowest-from m (suc n) x y each =
    and_from (leb x y) (lowest m n x (m y)) (le-leb x y (each 0 (omega arith)))
    (lowest-from m n x (m y) (λ k lt. each (suc k) (omega (arith, lt))))

-- the place of the least of some values
least_at : (f : ℕ → ℕ) (n : ℕ) → (k : ℕ) × (k < suc n) × ((j : ℕ) → j < suc n → f k ≤ f j)
least_at f zero = (
  0,
  omega arith,
  λ j lt.
      let e : j ≡ 0 = omega (arith, lt) in subst (λ i. f 0 ≤ f i) (sym e) (omega arith),
)
least_at f (suc n) =
    let r = least_at f n in
    ⊎_elim
    (λ (lower : f (suc n) < f r.0). (
      suc n,
      omega arith,
      λ j lt. ⊎_elim (λ e. subst (λ i. f (suc n) ≤ f i) (sym e) (omega arith))
          (λ ne. let old = r.2 j (omega (arith, ne, lt)) in omega (arith, old, lower)) (cases_eq j (suc n)),
    ))
    (λ (not : f r.0 ≤ f (suc n)). (
      r.0,
      omega (arith, r.1),
      λ j lt. ⊎_elim (λ e. subst (λ i. f r.0 ≤ f i) (sym e) not) (λ ne. r.2 j (omega (arith, ne, lt)))
          (cases_eq j (suc n)),
    ))
    (cases_lt (f (suc n)) (f r.0))

-- a map of the items of a list, all of whose cycles have n items
module _ (m : ℕ → ℕ) (n : ℕ) (es : List ℕ) (once : Distinct es) (inside : (x : ℕ) → Has x es → Has (m x) es)
    (cycles : (x : ℕ) → Has x es → CycleLength m x n) where
  -- n steps lead back
  back : (x : ℕ) → Has x es → iterate m n x ≡ x
  back x h = (cycles x h).returns

  -- n steps more make no difference
  wrap : (k x : ℕ) → Has x es → iterate m (n + k) x ≡ iterate m k x
  wrap k x h = iterate-add m n k x ∙ ap (iterate m k) (back x h)

  -- powers stay inside
  power_in : (k x : ℕ) → Has x es → Has (iterate m k x) es
  power_in zero x h = h
  power_in (suc k) x h = power_in k (m x) (inside x h)

  -- a leader is an item, and least on its cycle
  leader_at : (x : ℕ) → Has x (leaders m n es) → Has x es × ((k : ℕ) → k < n → x ≤ iterate m k x)
  leader_at x h = let f = filter-Has (λ y. lowest m n y y) x es h in (f.0, lowest-at m n x x f.1)

  -- from a power of y back to y
  undo : (j x y : ℕ) → j < n → Has x es → iterate m j x ≡ y → iterate m (n - j) y ≡ x
  undo j x y lt h e =
      ap (iterate m (n - j)) (sym e) ∙ sym (iterate-add m j (n - j) x)
      ∙ (let whole : j + (n - j) ≡ n = omega (arith, lt) in ap (λ i. iterate m i x) whole) ∙ back x h

  -- a power at all is one below n
  reduced : (j k y : ℕ) → j < n → k < n → Has y es
      → (r : ℕ) × (r < n) × (iterate m (n - j) (iterate m k y) ≡ iterate m r y) × (r ≡ 0 → j ≡ k)
  reduced j k y lj lk h =
      ⊎_elim
      (λ (less : k < j). (
        k + (n - j),
        omega (arith, less, lj),
        sym (iterate-add m k (n - j) y),
        λ e. let z : j ≡ k = omega (arith, e, lj) in z,
      ))
      (λ (more : j ≤ k). (
        k - j,
        omega (arith, lk),
        sym (iterate-add m k (n - j) y)
            ∙ (let whole : k + (n - j) ≡ n + (k - j) = omega (arith, more, lj) in ap (λ i. iterate m i y) whole)
            ∙ wrap (k - j) y h,
        λ e. let z : j ≡ k = omega (arith, e, more) in z,
      ))
      (cases_lt k j)

  -- leaders on one cycle are equal, and their powers are apart
  leaders-AreApart : AreApart m n (leaders m n es)
  leaders-AreApart j k x y lj lk hx hy same =
      let ax = leader_at x hx in
      let ay = leader_at y hy in
      let r = reduced j k y lj lk ay.0 in
      let q = reduced k j x lk lj ax.0 in
      let to_x : iterate m r.0 y ≡ x =
      sym r.2 ∙ ap (iterate m (n - j)) (sym same) ∙ undo j x (iterate m j x) lj ax.0 refl in
      let to_y : iterate m q.0 x ≡ y =
      sym q.2 ∙ ap (iterate m (n - k)) same ∙ undo k y (iterate m k y) lk ay.0 refl in
      let one : x ≡ y =
      omega (arith, ay.1 r.0 r.1, ax.1 q.0 q.1, to_x, to_y) in
      let none : r.0 ≡ 0 =
      ⊎_elim (λ e. e)
      (λ ne. absurd ((cycles y ay.0).first r.0 (omega (arith, ne)) r.1 (to_x ∙ one)))
      (cases_eq r.0 0) in
      (r.3 none, one)

  -- the rows of the cycles
  abbrev rows : List ℕ
  rows = layers m n (leaders m n es)

  -- have no item twice
  pub rows-Distinct : Distinct rows
  rows-Distinct = layers-Distinct m n (leaders m n es) (filter-Distinct (λ x. lowest m n x x) es once) leaders-AreApart

  -- have items of the list
  pub rows-items : (d : ℕ) → Has d rows → Has d es
  rows-items d h =
      let w = layers-Has m n (leaders m n es) d h in
      subst (λ y. Has y es) w.2.2 (power_in w.0 w.2.0 (leader_at w.2.0 w.2.1).0)

  -- have all of them
  pub rows-all : (y : ℕ) → Has y es → Has y rows
  rows-all y h =
      let some : 1 ≤ n = (cycles y h).some in
      let size : suc (n - 1) ≡ n = omega (arith, some) in
      let l = subst (λ c. (k : ℕ) × (k < c) × ((j : ℕ) → j < c → iterate m k y ≤ iterate m j y)) size
      (least_at (λ k. iterate m k y) (n - 1)) in
      let x : ℕ = iterate m l.0 y in
      let low : (j : ℕ) → j < n → x ≤ iterate m j x =
      λ j lt. subst (λ z. x ≤ z) (iterate-add m l.0 j y)
      (⊎_elim
      (λ (less : l.0 + j < n). l.2 (l.0 + j) less)
      (λ (more : n ≤ l.0 + j).
      let whole : n + (l.0 + j - n) ≡ l.0 + j = omega (arith, more) in
      subst (λ i. x ≤ iterate m i y) whole
      (subst (λ z. x ≤ z) (sym (wrap (l.0 + j - n) y h)) (l.2 (l.0 + j - n) (omega (arith, l.1, lt)))))
      (cases_lt (l.0 + j) n)) in
      let leader : Has x (leaders m n es) =
      Has-filter (λ z. lowest m n z z) x es (power_in l.0 y h) (lowest-from m n x x low) in
      let found : iterate m (n - l.0) x ≡ y = undo l.0 y x l.1 h refl in
      ⊎_elim
      (λ (zero_at : l.0 ≡ 0).
      subst (λ z. Has z rows) (ap (λ k. iterate m k y) zero_at)
      (Has-layers m n (leaders m n es) 0 x (omega (arith, some)) leader))
      (λ other.
      subst (λ z. Has z rows) found
      (Has-layers m n (leaders m n es) (n - l.0) x (omega (arith, other, l.1, some)) leader))
      (cases_eq l.0 0)

  -- and the map turns them
  pub rows-turn : IsTurn rows (map m rows)
  rows-turn = layers_turn m n (leaders m n es) (λ x h. back x (leader_at x h).0)
