-- Maps in two parts, or in many, with no edge between: flat where the parts are.
use Rattle.std.proofs.Common.{◌≡◌, ℕ, ◌<◌, true, false, eqb, List, ◌++◌, sym, ap, ◌∙◌, subst, ⊎_elim, suc, ◌+◌, ◌*◌, ◌≤◌, Bool, arith, zero, ltb, ◌-◌, ◌↔◌, cond}
use Rattle.std.proofs.lemmas.Bool.{cases_eq, eq-eqb, ne_eqb, false≢true, cond-true, cond-false, cases_lt, cases_Bool, lt-ltb, le-ltb}
use Rattle.cp_lists.specs.CyclicLists.{Has, Lacks}
use Rattle.cp_lists.specs.Rows.{flat}
use Rattle.cp_lists.proofs.DistinctLists.{Lacks-append, Lacks-from, has_cases}
use Rattle.cp_lists.proofs.FlatLists.{flat-append}
use Rattle.cp_orbits.specs.Orbits.{Permutes}
use Rattle.cp_orbits.proofs.OrbitLaws.{Permutes-same}
use Rattle.cp_faces.specs.Twins.{twin}
use Rattle.cp_maps.specs.Genus.{IsFlat, OneGenus}
use Rattle.cp_maps.specs.Maps.{IsMapOf, only}
use Rattle.cp_maps.specs.Names.{Carries, Names}
use Rattle.cp_maps.proofs.Dipoles.{loose_edges-IsFlat}
use Rattle.cp_maps.proofs.FewerDarts.{CanBeFlat-IsFlat, first_lists-CanBeFlat, last_lists-CanBeFlat}
use Rattle.cp_maps.proofs.FlatMaps.{IsFlat-agree}
use Rattle.cp_maps.proofs.FlatUnions.{IsFlat-union, Permutes-union}
use Rattle.cp_maps.proofs.Genus.{OneGenus-IsFlat, OneGenus-sym}
use Rattle.cp_maps.proofs.MapLists.{IsMapOf-Permutes}
use Rattle.cp_maps.proofs.Mirrors.{twin-farther}
use Rattle.cp_maps.proofs.Names.{Carries-OneGenus}
use Rattle.cp_maps.proofs.Rings.{Rings-append_left, Rings-append_right, rings_same, rings_stay}

-- a map divided by a test with one value on twins and on darts that follow each other, and its two parts
module _ (e : ℕ) (f one two : ℕ → ℕ) (p : ℕ → Bool) (perm : Permutes (2 * e) f) (perm_one : Permutes (2 * e) one)
    (perm_two : Permutes (2 * e) two) (twins : (d : ℕ) → d < 2 * e → p (twin d) ≡ p d)
    (same_part : (d : ℕ) → d < 2 * e → p (f d) ≡ p d) (in_one : (d : ℕ) → d < 2 * e → p d ≡ true → one d ≡ f d)
    (in_two : (d : ℕ) → d < 2 * e → p d ≡ false → two d ≡ f d)
    (one_loose : (d : ℕ) → d < 2 * e → p d ≡ false → one d ≡ d)
    (two_loose : (d : ℕ) → d < 2 * e → p d ≡ true → two d ≡ d) where
  -- both side by side
  abbrev both : ℕ → ℕ
  both d = cond (ltb d (2 * e)) (one d) (2 * e + two (d - 2 * e))

  -- below 2e they are the first
  both_low : (d : ℕ) → d < 2 * e → both d ≡ one d
  both_low d lt = cond-true (ltb d (2 * e)) (one d) (2 * e + two (d - 2 * e)) (lt-ltb d (2 * e) lt)

  -- and from there on the second
  both_high : (d : ℕ) → d < 2 * e → both (2 * e + d) ≡ 2 * e + two d
  both_high d lt =
      cond-false (ltb (2 * e + d) (2 * e)) (one (2 * e + d)) (2 * e + two (2 * e + d - 2 * e))
      (le-ltb (2 * e + d) (2 * e) (omega arith)) ∙ ap (λ (x : ℕ). 2 * e + two x) (omega arith)

  -- the name of a dart of f in both
  abbrev name : ℕ → ℕ
  name d = cond (p d) d (2 * e + d)

  -- a dart of the first part keeps its number
  name_one : (d : ℕ) → p d ≡ true → name d ≡ d
  name_one d t = cond-true (p d) d (2 * e + d) t

  -- one of the second is shifted
  name_two : (d : ℕ) → p d ≡ false → name d ≡ 2 * e + d
  name_two d u = cond-false (p d) d (2 * e + d) u

  -- they are names
  names : Names e (e + e) name
  names = record {
    below = λ d lt. ⊎_elim (λ t. omega (arith, name_one d t)) (λ u. omega (arith, name_two d u)) (cases_Bool (p d));
    apart = λ c d ltc ltd h. ⊎_elim
        (λ t. ⊎_elim (λ v. omega (arith, name_one c t, name_one d v, h))
        (λ v. absurd (omega (arith, name_one c t, name_two d v, h))) (cases_Bool (p d)))
        (λ t. ⊎_elim (λ v. absurd (omega (arith, name_two c t, name_one d v, h)))
        (λ v. omega (arith, name_two c t, name_two d v, h)) (cases_Bool (p d)))
        (cases_Bool (p c));
    twins = λ d lt. ⊎_elim
        (λ t. name_one (twin d) (twins d lt ∙ t) ∙ ap twin (sym (name_one d t)))
        (λ u. name_two (twin d) (twins d lt ∙ u) ∙ sym (twin-farther e d) ∙ ap twin (sym (name_two d u)))
        (cases_Bool (p d));
  }

  -- under which both are f
  carries : Carries e (e + e) name f both
  carries = record {
    same = λ d lt. ⊎_elim
        (λ t. ap both (name_one d t) ∙ both_low d lt ∙ in_one d lt t ∙ sym (name_one (f d) (same_part d lt ∙ t)))
        (λ u. ap both (name_two d u) ∙ both_high d lt ∙ ap (λ (y : ℕ). 2 * e + y) (in_two d lt u)
        ∙ sym (name_two (f d) (same_part d lt ∙ u)))
        (cases_Bool (p d));
    loose = λ y lt none. ⊎_elim
        (λ low. ⊎_elim
        (λ t. absurd (none y low (name_one y t)))
        (λ u. both_low y low ∙ one_loose y low u)
        (cases_Bool (p y)))
        (λ high.
        let d : ℕ = y - 2 * e in
        let whole : 2 * e + d ≡ y = omega arith in
        ⊎_elim
        (λ t. ap both (sym whole) ∙ both_high d (omega arith)
        ∙ ap (λ (z : ℕ). 2 * e + z) (two_loose d (omega arith) t) ∙ whole)
        (λ u. absurd (none d (omega arith) (name_two d u ∙ whole)))
        (cases_Bool (p d)))
        (cases_lt y (2 * e));
  }

  -- a map divided by a test has the genus of its two parts side by side
  pub divided-OneGenus : OneGenus e f (e + e) both
  divided-OneGenus =
      Carries-OneGenus e (e + e) name f both (omega arith) perm
      (Permutes-union e e one two both perm_one perm_two both_low both_high) names carries

  -- a map divided by a test is flat where both parts are
  pub divided_parts-IsFlat : IsFlat e one → IsFlat e two → IsFlat e f
  divided_parts-IsFlat flat_one flat_two =
      OneGenus-IsFlat (e + e) both e f (OneGenus-sym e f (e + e) both divided-OneGenus)
      (IsFlat-union e e one two both perm_one perm_two both_low both_high flat_one flat_two)

-- the darts that pass a test that has one value on darts that follow each other, alone, are a permutation
pub only-Permutes : (n : ℕ) (f : ℕ → ℕ) (p : ℕ → Bool) → Permutes n f → ((d : ℕ) → d < n → p (f d) ≡ p d)
    → Permutes n (only p f)
only-Permutes n f p perm kept = record {
  below =
      λ d lt. ⊎_elim (λ t. subst (λ y. y < n) (sym (cond-true (p d) (f d) d t)) (perm.below d lt))
      (λ u. subst (λ y. y < n) (sym (cond-false (p d) (f d) d u)) lt) (cases_Bool (p d));
  apart = λ c d ltc ltd h. ⊎_elim
      (λ t. ⊎_elim
      (λ v. perm.apart c d ltc ltd (sym (cond-true (p c) (f c) c t) ∙ h ∙ cond-true (p d) (f d) d v))
      (λ v. let q : f c ≡ d = sym (cond-true (p c) (f c) c t) ∙ h ∙ cond-false (p d) (f d) d v in
      absurd (false≢true (sym v ∙ ap p (sym q) ∙ kept c ltc ∙ t)))
      (cases_Bool (p d)))
      (λ t. ⊎_elim
      (λ v. let q : c ≡ f d = sym (cond-false (p c) (f c) c t) ∙ h ∙ cond-true (p d) (f d) d v in
      absurd (false≢true (sym t ∙ ap p q ∙ kept d ltd ∙ v)))
      (λ v. sym (cond-false (p c) (f c) c t) ∙ h ∙ cond-false (p d) (f d) d v)
      (cases_Bool (p d)))
      (cases_Bool (p c));
}

-- a map and classes of its darts, one for twins and for darts that follow each other
module _ (e : ℕ) (f : ℕ → ℕ) (class : ℕ → ℕ) (perm : Permutes (2 * e) f)
    (bound : (d : ℕ) → d < 2 * e → class d < 2 * e) (twins : (d : ℕ) → d < 2 * e → class (twin d) ≡ class d)
    (kept : (d : ℕ) → d < 2 * e → class (f d) ≡ class d)
    (each : (c : ℕ) → c < 2 * e → IsFlat e (only (λ d. eqb (class d) c) f)) where
  -- a dart of one of the first k classes
  abbrev upto : ℕ → ℕ → Bool
  upto k d = ltb (class d) k

  -- the first k classes alone
  abbrev first : ℕ → ℕ → ℕ
  first k = only (upto k) f

  -- at a dart of them they are f
  first_in : (k d : ℕ) → class d < k → first k d ≡ f d
  first_in k d lt = cond-true (upto k d) (f d) d (lt-ltb (class d) k lt)

  -- all others are loose
  first_out : (k d : ℕ) → k ≤ class d → first k d ≡ d
  first_out k d le = cond-false (upto k d) (f d) d (le-ltb (class d) k le)

  -- they are a permutation
  perm_first : (k : ℕ) → Permutes (2 * e) (first k)
  perm_first k = only-Permutes (2 * e) f (upto k) perm (λ d lt. ap (λ y. ltb y k) (kept d lt))

  -- the class k alone
  abbrev alone : ℕ → ℕ → ℕ
  alone k = only (λ d. eqb (class d) k) f

  -- a dart of a class that comes before is not of the first k classes
  not_upto : (k d : ℕ) → upto k d ≡ false → k ≤ class d
  not_upto k d u = ⊎_elim (λ lt. absurd (false≢true (sym u ∙ lt-ltb (class d) k lt))) (λ ge. ge) (cases_lt (class d) k)

  -- and a dart of them is
  is_upto : (k d : ℕ) → upto k d ≡ true → class d < k
  is_upto k d t = ⊎_elim (λ lt. lt) (λ ge. absurd (false≢true (sym (le-ltb (class d) k ge) ∙ t))) (cases_lt (class d) k)

  -- the first classes alone are flat, by one class after another
  first-IsFlat : (k : ℕ) → k ≤ 2 * e → IsFlat e (first k)
  first-IsFlat zero le =
      IsFlat-agree e (λ d. d) (first 0) (Permutes-same (2 * e)) (λ d lt. sym (first_out 0 d (omega arith)))
      (loose_edges-IsFlat e)
  first-IsFlat (suc k) le =
      divided_parts-IsFlat e (first (suc k)) (first k) (alone k) (upto k) (perm_first (suc k)) (perm_first k)
      (only-Permutes (2 * e) f (λ d. eqb (class d) k) perm (λ d lt. ap (λ y. eqb y k) (kept d lt)))
      (λ d lt. ap (λ y. ltb y k) (twins d lt))
      (λ d lt. ⊎_elim
      (λ l. ap (upto k) (first_in (suc k) d l) ∙ ap (λ y. ltb y k) (kept d lt))
      (λ g. ap (upto k) (first_out (suc k) d g))
      (cases_lt (class d) (suc k)))
      (λ d lt t. let l : class d < k = is_upto k d t in first_in k d l ∙ sym (first_in (suc k) d (omega arith)))
      (λ d lt u. ⊎_elim
      (λ s. cond-true (eqb (class d) k) (f d) d (eq-eqb (class d) k s) ∙ sym (first_in (suc k) d (omega arith)))
      (λ ns. let g : k ≤ class d = not_upto k d u in
      cond-false (eqb (class d) k) (f d) d (ne_eqb (class d) k ns) ∙ sym (first_out (suc k) d (omega arith)))
      (cases_eq (class d) k))
      (λ d lt u. first_out k d (not_upto k d u))
      (λ d lt t. let l : class d < k = is_upto k d t in
      cond-false (eqb (class d) k) (f d) d (ne_eqb (class d) k (λ s. omega arith)))
      (first-IsFlat k (omega arith)) (each k (omega arith))

  -- a map divided into classes is flat where each class alone is
  pub classes-IsFlat : IsFlat e f
  classes-IsFlat =
      IsFlat-agree e (first (2 * e)) f (perm_first (2 * e)) (λ d lt. first_in (2 * e) d (bound d lt))
      (first-IsFlat (2 * e) (omega arith))

-- lists in two parts with no edge between are flat exactly where both parts are
module _ (e : ℕ) (f one two : ℕ → ℕ) (rows others : List (List ℕ)) (p : ℕ → Bool)
    (is : IsMapOf (2 * e) f (rows ++ others)) (is_one : IsMapOf (2 * e) one rows)
    (is_two : IsMapOf (2 * e) two others) (twins : (d : ℕ) → d < 2 * e → p (twin d) ≡ p d)
    (first : (d : ℕ) → Has d (flat rows) → p d ≡ true) (second : (d : ℕ) → Has d (flat others) → p d ≡ false) where
  -- a dart in neither part is in no list
  neither : (d : ℕ) → Lacks d (flat rows) → Lacks d (flat others) → Lacks d (flat (rows ++ others))
  neither d l m = subst (Lacks d) (sym (flat-append rows others)) (Lacks-append d (flat rows) (flat others) l m)

  -- a dart for which the test fails is not in the first part
  not_first : (d : ℕ) → p d ≡ false → Lacks d (flat rows)
  not_first d u = Lacks-from d (flat rows) (λ h. false≢true (sym u ∙ first d h))

  -- and one for which it holds not in the second
  not_second : (d : ℕ) → p d ≡ true → Lacks d (flat others)
  not_second d t = Lacks-from d (flat others) (λ h. false≢true (sym (second d h) ∙ t))

  -- the dart behind is of the same part
  stays : (d : ℕ) → d < 2 * e → p (f d) ≡ p d
  stays d lt = ⊎_elim
      (λ h. first (f d) (rings_stay f rows d (Rings-append_left f rows others is.rings) h) ∙ sym (first d h))
      (λ l. ⊎_elim
      (λ h. second (f d) (rings_stay f others d (Rings-append_right f rows others is.rings) h) ∙ sym (second d h))
      (λ m. ap p (is.loose d lt (neither d l m)))
      (has_cases d (flat others)))
      (has_cases d (flat rows))

  -- lists in two parts with no edge between are flat exactly where both parts are
  pub divided-IsFlat : IsFlat e f ↔ (IsFlat e one × IsFlat e two)
  divided-IsFlat = (
    λ z. (
      CanBeFlat-IsFlat e one rows is_one
          (first_lists-CanBeFlat e rows others (f, is, z)),
      CanBeFlat-IsFlat e two others is_two
          (last_lists-CanBeFlat e rows others (f, is, z)),
    ),
    λ z. divided_parts-IsFlat e f one two p (IsMapOf-Permutes (2 * e) f (rows ++ others) is)
        (IsMapOf-Permutes (2 * e) one rows is_one) (IsMapOf-Permutes (2 * e) two others is_two) twins stays
        (λ d lt t. ⊎_elim
        (λ h. rings_same one f rows d is_one.rings (Rings-append_left f rows others is.rings) h)
        (λ l. is_one.loose d lt l ∙ sym (is.loose d lt (neither d l (not_second d t))))
        (has_cases d (flat rows)))
        (λ d lt u. ⊎_elim
        (λ h. rings_same two f others d is_two.rings (Rings-append_right f rows others is.rings) h)
        (λ l. is_two.loose d lt l ∙ sym (is.loose d lt (neither d (not_first d u) l)))
        (has_cases d (flat others)))
        (λ d lt u. is_one.loose d lt (not_first d u))
        (λ d lt t. is_two.loose d lt (not_second d t))
        z.0 z.1,
  )
