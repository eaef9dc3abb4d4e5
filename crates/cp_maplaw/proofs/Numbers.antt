-- The system of dense numbers that a map has: each list a vertex, and each loose dart one.
use Rattle.std.proofs.Common.{◌≡◌, ℕ, ◌<◌, List, [], ◌∷◌, sym, ap, ◌∙◌, subst, inl, inr, ⊎_elim, suc, ◌*◌, ◌≤◌, arith, zero, length, ◌↔◌, cond}
use Rattle.std.proofs.lemmas.Bool.{cases_eq, cond-true, cond-false}
use Rattle.cp_lists.specs.CyclicLists.{Distinct, Has}
use Rattle.cp_lists.specs.Rows.{flat}
use Rattle.cp_lists.proofs.DistinctLists.{Distinct-apart_right, Distinct-append_right, Has-append_cases, Has-append_left, Has-append_right, has_cases, has_lacks}
use Rattle.cp_orbits.specs.Orbits.{Permutes}
use Rattle.cp_rot.specs.Genus.{HasGenusZero}
use Rattle.cp_rot.specs.Rewrites.{system}
use Rattle.cp_rot.specs.Systems.{IsRotation, System, edges, next}
use Rattle.cp_rot.proofs.Functions.{Turns-system}
use Rattle.cp_rot.proofs.ListSystems.{IsRotation-system, Listed, system-edges, system_next}
use Rattle.cp_maps.specs.Genus.{IsFlat}
use Rattle.cp_maps.specs.Maps.{IsMapOf, Ring, Rings, has}
use Rattle.cp_maps.proofs.FlatMaps.{IsFlat-agree}
use Rattle.cp_maps.proofs.ListFacts.{below_item, has_no, has_yes}
use Rattle.cp_maps.proofs.MapLists.{IsMapOf-Permutes, IsMapOf-loose}
use Rattle.cp_maplaw.proofs.Systems.{system_flat}

-- each dart below k stands in a list, if loose in one of its own
filled : (n : ℕ) (f : ℕ → ℕ) (rows : List (List ℕ)) → IsMapOf n f rows → (k : ℕ) → k ≤ n
    → (all : List (List ℕ)) × IsMapOf n f all × ((d : ℕ) → d < k → Has d (flat all))
filled n f rows is zero le = (rows, is, λ d lt. absurd (omega arith))
filled n f rows is (suc k) le =
    let rest : (all : List (List ℕ)) × IsMapOf n f all × ((d : ℕ) → d < k → Has d (flat all)) =
    filled n f rows is k (omega arith) in
    ⊎_elim
    (λ h. (
      rest.0,
      rest.1,
      λ d lt. ⊎_elim (λ e. subst (λ y. Has y (flat rest.0)) (sym e) h)
          (λ ne. rest.2 d (omega arith)) (cases_eq d k),
    ))
    (λ l. (
      (k ∷ []) ∷ rest.0,
      IsMapOf-loose n f rest.0 rest.1 k (omega arith) l,
      λ d lt. ⊎_elim (λ e. inl (sym e))
          (λ ne. inr (rest.2 d (omega arith))) (cases_eq d k),
    ))
    (has_cases k (flat rest.0))

-- the place of the list that has a dart
abbrev row_at : List (List ℕ) → ℕ → ℕ
row_at [] d = 0
row_at (xs ∷ rows) d = cond (has d xs) 0 (suc (row_at rows d))

-- the list at a place
abbrev row : List (List ℕ) → ℕ → List ℕ
row [] x = []
row (xs ∷ rows) zero = xs
row (xs ∷ rows) (suc x) = row rows x

-- a dart in the lists is in that at its place
row_own : (rows : List (List ℕ)) (d : ℕ) → Has d (flat rows)
    → (row_at rows d < length rows) × Has d (row rows (row_at rows d))
row_own [] d h = absurd h
row_own (xs ∷ rows) d h = ⊎_elim
    (λ k. let e : row_at (xs ∷ rows) d ≡ 0 = cond-true (has d xs) 0 (suc (row_at rows d)) (has_yes d xs k) in
    (omega arith, subst (λ x. Has d (row (xs ∷ rows) x)) (sym e) k))
    (λ l. ⊎_elim
    (λ k. absurd (has_lacks d xs k l))
    (λ k.
    let e : row_at (xs ∷ rows) d ≡ suc (row_at rows d) =
    cond-false (has d xs) 0 (suc (row_at rows d)) (has_no d xs l) in
    let w = row_own rows d k in
    (omega (arith, w.0), subst (λ x. Has d (row (xs ∷ rows) x)) (sym e) w.1))
    (Has-append_cases d xs (flat rows) h))
    (has_cases d xs)

-- an item of the list at a place is one of the lists
row_item : (rows : List (List ℕ)) (x d : ℕ) → Has d (row rows x) → Has d (flat rows)
row_item [] x d h = absurd h
row_item (xs ∷ rows) zero d h = Has-append_left d xs (flat rows) h
row_item (xs ∷ rows) (suc x) d h = Has-append_right d xs (flat rows) (row_item rows x d h)

-- and its place is that
row_place : (rows : List (List ℕ)) (x d : ℕ) → Distinct (flat rows) → Has d (row rows x) → row_at rows d ≡ x
row_place [] x d dis h = absurd h
row_place (xs ∷ rows) zero d dis h = cond-true (has d xs) 0 (suc (row_at rows d)) (has_yes d xs h)
row_place (xs ∷ rows) (suc x) d dis h =
    cond-false (has d xs) 0 (suc (row_at rows d))
    (has_no d xs (Distinct-apart_right d xs (flat rows) dis (row_item rows x d h)))
    ∙ ap suc (row_place rows x d (Distinct-append_right xs (flat rows) dis) h)

-- the lists are rings at their places
row_ring : (f : ℕ → ℕ) (rows : List (List ℕ)) (x : ℕ) → Rings f rows → x < length rows → Ring f (row rows x)
row_ring f [] x rings lt = absurd (omega arith)
row_ring f (xs ∷ rows) zero rings lt = rings.0
row_ring f (xs ∷ rows) (suc x) rings lt = row_ring f rows x rings.1 (omega arith)

-- each map has a system of dense numbers with its darts, which has genus zero where the map is flat
pub numbered : (e : ℕ) (f : ℕ → ℕ) (rows : List (List ℕ)) → IsMapOf (2 * e) f rows
    → (r : System) × IsRotation r × (edges r ≡ e) × ((d : ℕ) → d < 2 * e → next r d ≡ f d)
    × (HasGenusZero r ↔ IsFlat e f)
numbered e f rows is =
    let all : (all : List (List ℕ)) × IsMapOf (2 * e) f all × ((d : ℕ) → d < 2 * e → Has d (flat all)) =
    filled (2 * e) f rows is (2 * e) (omega arith) in
    let ls : List (List ℕ) = all.0 in
    let listed : Listed (length ls) (2 * e) (row_at ls) (row ls) = record {
      placed = λ d lt. (row_own ls d (all.2 d lt)).0;
      distinct = λ x lt. (row_ring f ls x all.1.rings lt).distinct;
      own = λ d lt. (row_own ls d (all.2 d lt)).1;
      item = λ x d lt h. (
        below_item (2 * e) d (flat ls) all.1.below
            (row_item ls x d h),
        row_place ls x d all.1.once h,
      );
    } in
    let r : System = system (length ls) e (row_at ls) (row ls) in
    let is_r : IsRotation r = IsRotation-system (length ls) e (row_at ls) (row ls) listed in
    let size : edges r ≡ e = system-edges (length ls) e (row_at ls) (row ls) in
    let behind : (d : ℕ) → d < 2 * e
    → next r d ≡ f d = λ d lt. system_next (length ls) e (row_at ls) (row ls) listed d lt
    ∙ sym ((row_ring f ls (row_at ls d) all.1.rings (row_own ls d (all.2 d lt)).0).along d
    (row_own ls d (all.2 d lt)).1) in (
      r,
      is_r,
      size,
      behind,
      (
        λ z. IsFlat-agree e (next r) f
            (subst (λ n. Permutes (2 * n) (next r)) size (Turns-system r is_r).permutes) behind
            (subst (λ n. IsFlat n (next r)) size ((system_flat r is_r).0 z)),
        λ z. (system_flat r is_r).1 (subst (λ n. IsFlat n (next r)) (sym size)
            (IsFlat-agree e f (next r) (IsMapOf-Permutes (2 * e) f ls all.1) (λ d lt. sym (behind d lt)) z)),
      ),
    )
