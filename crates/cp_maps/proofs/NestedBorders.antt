-- A nest of two borders with four edges through them: it is plane, by the laws.
use Rattle.std.proofs.Common.{◌≡◌, ℕ, ◌<◌, true, ◌||◌, List, [], ◌∷◌, ◌++◌, sym, refl, ap, ◌∙◌, subst, ⊎_elim, ◌*◌, Bool, arith, not, ◌&&◌, ltb}
use Rattle.std.proofs.lemmas.Bool.{ltb-true, not-true, false≢true, cases_lt, cases_Bool, lt-ltb, le-ltb, and_parts}
use Rattle.cp_lists.specs.CyclicLists.{Distinct, Has}
use Rattle.cp_lists.specs.Rows.{flat}
use Rattle.cp_lists.proofs.DistinctLists.{Lacks-from}
use Rattle.cp_lists.proofs.TurnedLists.{turn_parts}
use Rattle.cp_faces.specs.Twins.{twin}
use Rattle.cp_faces.proofs.Twins.{twin-below, twin-twin}
use Rattle.cp_maps.specs.Borders.{Place, closed_border}
use Rattle.cp_maps.specs.Genus.{Apart, Becomes, CanBeFlat, Evenly, IsFlat}
use Rattle.cp_maps.specs.Maps.{Below, IsMapOf, has, next_by}
use Rattle.cp_maps.specs.Mirrors.{mirror}
use Rattle.cp_maps.proofs.Borders.{border-Becomes}
use Rattle.cp_maps.proofs.Dipoles.{mirrored_dipole-IsFlat}
use Rattle.cp_maps.proofs.DividedMaps.{divided-IsFlat}
use Rattle.cp_maps.proofs.Genus.{SameGenus-IsFlat, SameGenus-trans}
use Rattle.cp_maps.proofs.ListFacts.{Below-from, has_yes}
use Rattle.cp_maps.proofs.MapLists.{IsMapOf-by, IsMapOf-front, IsMapOf-turn}
use Rattle.cp_maps.proofs.Parts.{Evenly-two_parts}

-- no item of the list stands twice, as a test
abbrev differing : List ℕ → Bool
differing [] = true
differing (x ∷ xs) = not (has x xs) && differing xs

-- where the test holds the list is distinct
differing-Distinct : (xs : List ℕ) → differing xs ≡ true → Distinct xs
differing-Distinct [] t = tt
differing-Distinct (x ∷ xs) t =
    let w = and_parts (not (has x xs)) (differing xs) t in
    (Lacks-from x xs (λ h. false≢true (sym (ap not (has_yes x xs h)) ∙ w.0)), differing-Distinct xs w.1)

-- all items pass
abbrev each_passes : (ℕ → Bool) → List ℕ → Bool
each_passes p [] = true
each_passes p (x ∷ xs) = p x && each_passes p xs

-- so does each of them
passing : (p : ℕ → Bool) (xs : List ℕ) → each_passes p xs ≡ true → (d : ℕ) → Has d xs → p d ≡ true
passing p [] t d h = absurd h
passing p (x ∷ xs) t d h =
    let w = and_parts (p x) (each_passes p xs) t in
    ⊎_elim (λ s. ap p (sym s) ∙ w.0) (λ k. passing p xs w.1 d k) h

-- a list whose items pass the test of being below n
tested_below : (n : ℕ) (xs : List ℕ) → each_passes (λ d. ltb d n) xs ≡ true → Below n xs
tested_below n xs t = Below-from n xs (λ d h. ltb-true d n (passing (λ y. ltb y n) xs t d h))

-- the map made of lists that pass the tests has them
tested_map : (n : ℕ) (rows : List (List ℕ)) → differing (flat rows) ≡ true
    → each_passes (λ d. ltb d n) (flat rows) ≡ true → IsMapOf n (next_by rows) rows
tested_map n rows t u = IsMapOf-by n rows (differing-Distinct (flat rows) t) (tested_below n (flat rows) u)

-- on each list all items pass, or none
abbrev evenly_passes : (ℕ → Bool) → List (List ℕ) → Bool
evenly_passes p [] = true
evenly_passes p (xs ∷ rows) = (each_passes p xs || each_passes (λ d. not (p d)) xs) && evenly_passes p rows

-- where that holds the test has one value on each list
tested_even : (p : ℕ → Bool) (rows : List (List ℕ)) → evenly_passes p rows ≡ true → Evenly p rows
tested_even p [] t = tt
tested_even p (xs ∷ rows) t =
    let w = and_parts (each_passes p xs || each_passes (λ d. not (p d)) xs) (evenly_passes p rows) t in (
      λ c d hc hd. ⊎_elim
          (λ v. passing p xs v c hc ∙ sym (passing p xs v d hd))
          (λ u. let v : each_passes (λ y. not (p y)) xs ≡ true =
          sym (ap (λ b. b || each_passes (λ y. not (p y)) xs) u) ∙ w.0 in
          not-true (p c) (passing (λ y. not (p y)) xs v c hc)
          ∙ sym (not-true (p d) (passing (λ y. not (p y)) xs v d hd)))
          (cases_Bool (each_passes p xs)),
      tested_even p rows w.1,
    )

-- below an even number a dart is as its twin is
below_twins : (k d : ℕ) → ltb d (2 * k) ≡ ltb (twin d) (2 * k)
below_twins k d = ⊎_elim
    (λ l. lt-ltb d (2 * k) l ∙ sym (lt-ltb (twin d) (2 * k) (twin-below (2 * k) d (omega arith) l)))
    (λ g. le-ltb d (2 * k) g ∙ sym (le-ltb (twin d) (2 * k) (⊎_elim
    (λ l. absurd (omega (arith, g, subst (λ y. y < 2 * k) (twin-twin d) (twin-below (2 * k) (twin d) (omega arith) l))))
    (λ m. m)
    (cases_lt (twin d) (2 * k)))))
    (cases_lt d (2 * k))

-- lists whose items are below an even number and lists whose items are not are apart
tested_apart : (e k : ℕ) (f : ℕ → ℕ) (xs ys : List ℕ) (rows : List (List ℕ)) → IsMapOf (2 * e) f rows
    → evenly_passes (λ d. ltb d (2 * k)) rows ≡ true → each_passes (λ d. ltb d (2 * k)) xs ≡ true
    → each_passes (λ d. not (ltb d (2 * k))) ys ≡ true → Apart e f xs ys
tested_apart e k f xs ys rows is even low high c d hc hd =
    Evenly-two_parts e f rows (λ y. ltb y (2 * k)) c d is (tested_even (λ y. ltb y (2 * k)) rows even)
    (λ y lt. below_twins k y)
    (λ s. false≢true (sym (not-true (ltb d (2 * k)) (passing (λ y. not (ltb y (2 * k))) ys high d hd)) ∙ sym s
    ∙ passing (λ y. ltb y (2 * k)) xs low c hc))

-- the inner vertex
abbrev inmost : List ℕ
inmost = 0 ∷ 2 ∷ 4 ∷ 6 ∷ []

-- the outer vertex
abbrev outmost : List ℕ
outmost = 17 ∷ 23 ∷ 21 ∷ 19 ∷ []

-- the inner border
abbrev inner_border : List Place
inner_border =
    (record { begins = 24; inside = 1; outside = 8 }) ∷ (record { begins = 26; inside = 3; outside = 10 })
    ∷ (record { begins = 28; inside = 5; outside = 12 }) ∷ (record { begins = 30; inside = 7; outside = 14 }) ∷ []

-- the outer border
abbrev outer_border : List Place
outer_border =
    (record { begins = 32; inside = 9; outside = 16 }) ∷ (record { begins = 34; inside = 11; outside = 18 })
    ∷ (record { begins = 36; inside = 13; outside = 20 }) ∷ (record { begins = 38; inside = 15; outside = 22 }) ∷ []

-- all lists of the nest
abbrev pub nest : List (List ℕ)
nest = closed_border inner_border ++ (closed_border outer_border ++ (inmost ∷ outmost ∷ []))

-- the three bundles of four edges that are left without the borders
abbrev bundles : List (List ℕ)
bundles =
    inmost ∷ (1 ∷ 7 ∷ 5 ∷ 3 ∷ []) ∷ (8 ∷ 10 ∷ 12 ∷ 14 ∷ []) ∷ (9 ∷ 15 ∷ 13 ∷ 11 ∷ []) ∷ (16 ∷ 18 ∷ 20 ∷ 22 ∷ [])
    ∷ outmost ∷ []

-- they have a map
is_bundles : IsMapOf 40 (next_by bundles) bundles
is_bundles = tested_map 40 bundles refl refl

-- a bundle alone is flat
bundle_flat : (x : ℕ) (xs : List ℕ) (f : ℕ → ℕ) → IsMapOf 40 f ((x ∷ xs) ∷ (twin x ∷ mirror xs) ∷ []) → IsFlat 20 f
bundle_flat x xs f is = mirrored_dipole-IsFlat 20 f x xs is

-- the second and third bundle
abbrev later : List (List ℕ)
later = (8 ∷ 10 ∷ 12 ∷ 14 ∷ []) ∷ (9 ∷ 15 ∷ 13 ∷ 11 ∷ []) ∷ (16 ∷ 18 ∷ 20 ∷ 22 ∷ []) ∷ outmost ∷ []

-- some darts pass and others do not, so lists are flat where both parts are
tested_divided : (k : ℕ) (rows others : List (List ℕ)) → IsMapOf 40 (next_by (rows ++ others)) (rows ++ others)
    → IsMapOf 40 (next_by rows) rows → IsMapOf 40 (next_by others) others
    → each_passes (λ d. ltb d (2 * k)) (flat rows) ≡ true
    → each_passes (λ d. not (ltb d (2 * k))) (flat others) ≡ true → IsFlat 20 (next_by rows)
    → IsFlat 20 (next_by others) → IsFlat 20 (next_by (rows ++ others))
tested_divided k rows others is one two low high z w =
    (divided-IsFlat 20 (next_by (rows ++ others)) (next_by rows) (next_by others) rows others
    (λ d. ltb d (2 * k)) is one two
    (λ d lt. sym (below_twins k d)) (λ d h. passing (λ y. ltb y (2 * k)) (flat rows) low d h)
    (λ d h. not-true (ltb d (2 * k)) (passing (λ y. not (ltb y (2 * k))) (flat others) high d h))).1 (z, w)

-- the second and third bundle are flat
later_flat : IsFlat 20 (next_by later)
later_flat =
    tested_divided 8 ((8 ∷ 10 ∷ 12 ∷ 14 ∷ []) ∷ (9 ∷ 15 ∷ 13 ∷ 11 ∷ []) ∷ [])
    ((16 ∷ 18 ∷ 20 ∷ 22 ∷ []) ∷ outmost ∷ []) (tested_map 40 later refl refl)
    second third refl refl (bundle_flat 8 (10 ∷ 12 ∷ 14 ∷ [])
    (next_by ((8 ∷ 10 ∷ 12 ∷ 14 ∷ []) ∷ (9 ∷ 15 ∷ 13 ∷ 11 ∷ []) ∷ [])) second)
    (bundle_flat 16 (18 ∷ 20 ∷ 22 ∷ []) (next_by ((16 ∷ 18 ∷ 20 ∷ 22 ∷ []) ∷ outmost ∷ [])) third)
  where
    second : IsMapOf 40 (next_by ((8 ∷ 10 ∷ 12 ∷ 14 ∷ []) ∷ (9 ∷ 15 ∷ 13 ∷ 11 ∷ []) ∷ []))
        ((8 ∷ 10 ∷ 12 ∷ 14 ∷ []) ∷ (9 ∷ 15 ∷ 13 ∷ 11 ∷ []) ∷ [])
    second = tested_map 40 ((8 ∷ 10 ∷ 12 ∷ 14 ∷ []) ∷ (9 ∷ 15 ∷ 13 ∷ 11 ∷ []) ∷ []) refl refl

    third : IsMapOf 40 (next_by ((16 ∷ 18 ∷ 20 ∷ 22 ∷ []) ∷ outmost ∷ [])) ((16 ∷ 18 ∷ 20 ∷ 22 ∷ []) ∷ outmost ∷ [])
    third = tested_map 40 ((16 ∷ 18 ∷ 20 ∷ 22 ∷ []) ∷ outmost ∷ []) refl refl

-- all three are
bundles_flat : IsFlat 20 (next_by bundles)
bundles_flat =
    tested_divided 4 (inmost ∷ (1 ∷ 7 ∷ 5 ∷ 3 ∷ []) ∷ []) later is_bundles first
    (tested_map 40 later refl refl) refl refl
    (bundle_flat 0 (2 ∷ 4 ∷ 6 ∷ []) (next_by (inmost ∷ (1 ∷ 7 ∷ 5 ∷ 3 ∷ []) ∷ [])) first) later_flat
  where
    first : IsMapOf 40 (next_by (inmost ∷ (1 ∷ 7 ∷ 5 ∷ 3 ∷ []) ∷ [])) (inmost ∷ (1 ∷ 7 ∷ 5 ∷ 3 ∷ []) ∷ [])
    first = tested_map 40 (inmost ∷ (1 ∷ 7 ∷ 5 ∷ 3 ∷ []) ∷ []) refl refl

-- the lists with the outer border put in
outer_in : Becomes 20 (next_by bundles)
    (closed_border outer_border ++ (inmost ∷ (1 ∷ 7 ∷ 5 ∷ 3 ∷ []) ∷ (8 ∷ 10 ∷ 12 ∷ 14 ∷ []) ∷ outmost ∷ []))
outer_in =
    border-Becomes 20 f (record { begins = 32; inside = 9; outside = 16 })
    ((record { begins = 34; inside = 11; outside = 18 }) ∷ (record { begins = 36; inside = 13; outside = 20 })
    ∷ (record { begins = 38; inside = 15; outside = 22 }) ∷ []) rest ready
    (tested_apart 20 8 f (15 ∷ 13 ∷ 11 ∷ 9 ∷ []) (16 ∷ 18 ∷ 20 ∷ 22 ∷ [])
    ((15 ∷ 13 ∷ 11 ∷ 9 ∷ []) ∷ (16 ∷ 18 ∷ 20 ∷ 22 ∷ []) ∷ rest) ready refl refl refl)
    (differing-Distinct (flat (closed_border outer_border ++ rest)) refl)
    (tested_below 40 (flat (closed_border outer_border ++ rest)) refl)
  where
    f : ℕ → ℕ
    f = next_by bundles

    rest : List (List ℕ)
    rest = inmost ∷ (1 ∷ 7 ∷ 5 ∷ 3 ∷ []) ∷ (8 ∷ 10 ∷ 12 ∷ 14 ∷ []) ∷ outmost ∷ []

    front : IsMapOf 40 f ((9 ∷ 15 ∷ 13 ∷ 11 ∷ []) ∷ (16 ∷ 18 ∷ 20 ∷ 22 ∷ []) ∷ rest)
    front =
        IsMapOf-front 40 f (9 ∷ 15 ∷ 13 ∷ 11 ∷ [])
        ((16 ∷ 18 ∷ 20 ∷ 22 ∷ []) ∷ inmost ∷ (1 ∷ 7 ∷ 5 ∷ 3 ∷ []) ∷ (8 ∷ 10 ∷ 12 ∷ 14 ∷ []) ∷ []) (outmost ∷ [])
        (IsMapOf-front 40 f (16 ∷ 18 ∷ 20 ∷ 22 ∷ [])
        (inmost ∷ (1 ∷ 7 ∷ 5 ∷ 3 ∷ []) ∷ (8 ∷ 10 ∷ 12 ∷ 14 ∷ []) ∷ (9 ∷ 15 ∷ 13 ∷ 11 ∷ []) ∷ [])
        (outmost ∷ []) is_bundles)

    ready : IsMapOf 40 f ((15 ∷ 13 ∷ 11 ∷ 9 ∷ []) ∷ (16 ∷ 18 ∷ 20 ∷ 22 ∷ []) ∷ rest)
    ready =
        IsMapOf-turn 40 f (9 ∷ 15 ∷ 13 ∷ 11 ∷ []) (15 ∷ 13 ∷ 11 ∷ 9 ∷ []) ((16 ∷ 18 ∷ 20 ∷ 22 ∷ []) ∷ rest)
        (turn_parts (9 ∷ []) (15 ∷ 13 ∷ 11 ∷ [])) front

-- and with the inner border
inner_in : Becomes 20 outer_in.0 nest
inner_in =
    border-Becomes 20 f (record { begins = 24; inside = 1; outside = 8 })
    ((record { begins = 26; inside = 3; outside = 10 }) ∷ (record { begins = 28; inside = 5; outside = 12 })
    ∷ (record { begins = 30; inside = 7; outside = 14 }) ∷ []) rest ready
    (tested_apart 20 4 f (7 ∷ 5 ∷ 3 ∷ 1 ∷ []) (8 ∷ 10 ∷ 12 ∷ 14 ∷ [])
    ((7 ∷ 5 ∷ 3 ∷ 1 ∷ []) ∷ (8 ∷ 10 ∷ 12 ∷ 14 ∷ []) ∷ rest) ready refl refl refl)
    (differing-Distinct (flat nest) refl) (tested_below 40 (flat nest) refl)
  where
    f : ℕ → ℕ
    f = outer_in.0

    rest : List (List ℕ)
    rest = closed_border outer_border ++ (inmost ∷ outmost ∷ [])

    front : IsMapOf 40 f ((1 ∷ 7 ∷ 5 ∷ 3 ∷ []) ∷ (8 ∷ 10 ∷ 12 ∷ 14 ∷ []) ∷ rest)
    front =
        IsMapOf-front 40 f (1 ∷ 7 ∷ 5 ∷ 3 ∷ [])
        ((8 ∷ 10 ∷ 12 ∷ 14 ∷ []) ∷ (closed_border outer_border ++ (inmost ∷ []))) (outmost ∷ [])
        (IsMapOf-front 40 f (8 ∷ 10 ∷ 12 ∷ 14 ∷ [])
        (closed_border outer_border ++ (inmost ∷ (1 ∷ 7 ∷ 5 ∷ 3 ∷ []) ∷ [])) (outmost ∷ []) outer_in.1)

    ready : IsMapOf 40 f ((7 ∷ 5 ∷ 3 ∷ 1 ∷ []) ∷ (8 ∷ 10 ∷ 12 ∷ 14 ∷ []) ∷ rest)
    ready =
        IsMapOf-turn 40 f (1 ∷ 7 ∷ 5 ∷ 3 ∷ []) (7 ∷ 5 ∷ 3 ∷ 1 ∷ []) ((8 ∷ 10 ∷ 12 ∷ 14 ∷ []) ∷ rest)
        (turn_parts (1 ∷ []) (7 ∷ 5 ∷ 3 ∷ [])) front

-- so the nest can be drawn in the plane
pub nest-CanBeFlat : CanBeFlat 20 nest
nest-CanBeFlat = (
  inner_in.0,
  inner_in.1,
  SameGenus-IsFlat 20 (next_by bundles) inner_in.0
      (SameGenus-trans 20 (next_by bundles) outer_in.0 inner_in.0 outer_in.2 inner_in.2) bundles_flat,
)
