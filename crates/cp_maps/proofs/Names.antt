-- A map of m edges in a larger stock of e edges, under other names: its genus stays.
use Rattle.std.proofs.Common.{◌≡◌, ℕ, ◌<◌, ◌≢◌, true, List, [], ◌∷◌, sym, refl, ap, ◌∙◌, subst, ⊎_elim, suc, ◌+◌, ◌*◌, ◌≤◌, Bool, arith, zero, not, ltb, map, ◌-◌, ◌/◌, ◌%◌, cond}
use Rattle.std.proofs.lemmas.Bool.{not-true, cases_eq, false≢true, cond-true, cond-false, cases_lt, cases_Bool, lt-ltb, le-ltb}
use Rattle.cp_lists.specs.Count.{count}
use Rattle.cp_lists.specs.CyclicLists.{Has, Lacks}
use Rattle.cp_lists.specs.Rows.{flat}
use Rattle.cp_lists.proofs.Choices.{choose}
use Rattle.cp_lists.proofs.Counting.{count_all, count_both, count_inject, count_some}
use Rattle.cp_lists.proofs.DistinctLists.{Has-append_cases, Has-append_left, Has-append_right, Lacks-from, has_cases, has_lacks}
use Rattle.cp_lists.proofs.FlatLists.{flat-map}
use Rattle.cp_lists.proofs.MappedLists.{Has-map_on, follow-map_on, map_on-Has}
use Rattle.cp_orbits.specs.Orbits.{Permutes, Renumbers}
use Rattle.cp_orbits.proofs.OrbitLaws.{Permutes-agree, Permutes-onto}
use Rattle.cp_faces.specs.Faces.{stands}
use Rattle.cp_faces.specs.Twins.{twin}
use Rattle.cp_faces.proofs.Faces.{stands_at, stands_some}
use Rattle.cp_faces.proofs.Merges.{partner-twin}
use Rattle.cp_faces.proofs.Twins.{half_twin, twin-below, twin_even, twin_odd}
use Rattle.cp_maps.specs.Genus.{OneGenus, SameGenus}
use Rattle.cp_maps.specs.Maps.{IsMapOf, Rings}
use Rattle.cp_maps.specs.Names.{Carries, Names}
use Rattle.cp_maps.proofs.Genus.{OneGenus-trans, SameGenus-agree}
use Rattle.cp_maps.proofs.ListFacts.{below_item}
use Rattle.cp_maps.proofs.MapLists.{IsMapOf-Permutes}
use Rattle.cp_maps.proofs.Rings.{rings_same}
use Rattle.cp_maps.proofs.Stocks.{loose_edge-OneGenus, renumbered-SameGenus}

-- fewer numbers than e leave one free
free_number : (m e : ℕ) (p : ℕ → ℕ) → m < e → (y : ℕ) × (y < e) × ((i : ℕ) → i < m → p i ≢ y)
free_number m e p lt =
    let taken : ℕ → Bool = λ (y : ℕ). stands p m y in
    let c : (f : ℕ → ℕ) × ((x : ℕ) → x < e → taken x ≡ true → (f x < m) × (p (f x) ≡ x)) =
    choose e (λ x d. taken x ≡ true → (d < m) × (p d ≡ x)) (λ x l. ⊎_elim
    (λ t. let w = stands_some p m x t in (w.0, λ u. (w.1, w.2)))
    (λ f. (0, λ t. absurd (false≢true (sym f ∙ t))))
    (cases_Bool (taken x))) in
    let few : count e taken ≤ count m (λ x. true) =
    count_inject e m taken (λ x. true) c.0 (λ x l t. ((c.1 x l t).0, refl))
    (λ x y lx ly tx ty s. sym (c.1 x lx tx).1 ∙ ap p s ∙ (c.1 y ly ty).1) in
    let w =
    count_some e (λ x. not (taken x)) (omega (arith, few, count_all m (λ x. true) (λ x l. refl), count_both e taken)) in
    (w.0, w.1, λ i l h. false≢true (sym (not-true (taken w.0) w.2) ∙ stands_at p m i w.0 l h))

-- as many names as there are
names_all : (m : ℕ) (j f g : ℕ → ℕ) → Permutes (2 * m) f → Permutes (2 * m) g → Names m m j → Carries m m j f g
    → OneGenus m f m g
names_all m j f g perm_f perm_g names carries =
    let perm : Permutes (2 * m) j = record { below = names.below; apart = names.apart } in
    let c : (u : ℕ → ℕ) × ((y : ℕ) → y < 2 * m → (u y < 2 * m) × (j (u y) ≡ y)) =
    choose (2 * m) (λ y d. (d < 2 * m) × (j d ≡ y)) (λ y lt. let w = Permutes-onto (2 * m) j perm y lt in
    (w.0, (w.1, w.2))) in
    let ren : Renumbers (2 * m) j c.0 = record {
      there = names.below;
      back = λ y lt. (c.1 y lt).0;
      there_back =
          λ d lt. names.apart (c.0 (j d)) d (c.1 (j d) (names.below d lt)).0 lt (c.1 (j d) (names.below d lt)).1;
      back_there = λ y lt. (c.1 y lt).1;
    } in
    let same : SameGenus m f g =
    renumbered-SameGenus m f g perm_f perm_g j c.0 ren
    (λ d lt. partner-twin m (j d) (names.below d lt) ∙ sym (names.twins d lt)
    ∙ ap j (sym (partner-twin m d lt))) carries.same in
    omega (arith, same)

-- one name more
module _ (m e : ℕ) (j f g : ℕ → ℕ) (lt : m < e) (perm_g : Permutes (2 * e) g) (names : Names m e j)
    (carries : Carries m e j f g) (rest : (d : ℕ) → 2 * m ≤ d → f d ≡ d) where
  -- an edge whose name is free
  free : (y : ℕ) × (y < e) × ((i : ℕ) → i < m → j (2 * i) / 2 ≢ y)
  free = free_number m e (λ i. j (2 * i) / 2) lt

  -- its darts are no names
  unused : (d : ℕ) → d < 2 * m → j d / 2 ≢ free.0
  unused d l h = ⊎_elim
      (λ even. let s : d ≡ 2 * (d / 2) = omega arith in
      free.2 (d / 2) (omega arith) (ap (λ (x : ℕ). j x / 2) (sym s) ∙ h))
      (λ odd.
      let s : twin d ≡ 2 * (d / 2) = twin_odd d odd ∙ omega arith in
      free.2 (d / 2) (omega arith) (ap (λ (x : ℕ). j x / 2) (sym s) ∙ ap (λ (x : ℕ). x / 2) (names.twins d l)
      ∙ half_twin (j d) ∙ h))
      (cases_eq (d % 2) 0)

  -- the names with the two darts of one edge more
  pub more_names : ℕ → ℕ
  more_names d = cond (ltb d (2 * m)) (j d) (2 * free.0 + (d - 2 * m))

  -- the old darts keep their names
  pub more_names_old : (d : ℕ) → d < 2 * m → more_names d ≡ j d
  unfolding more_names
  more_names_old d l = cond-true (ltb d (2 * m)) (j d) (2 * free.0 + (d - 2 * m)) (lt-ltb d (2 * m) l)

  -- the new ones
  more_names_new : (d : ℕ) → 2 * m ≤ d → more_names d ≡ 2 * free.0 + (d - 2 * m)
  unfolding more_names
  more_names_new d l = cond-false (ltb d (2 * m)) (j d) (2 * free.0 + (d - 2 * m)) (le-ltb d (2 * m) l)

  -- with the edge more they are names
  pub Names-more : Names (suc m) e more_names
  Names-more = record {
    below =
        λ d l. ⊎_elim (λ o. subst (λ y. y < 2 * e) (sym (more_names_old d o)) (names.below d o))
        (λ n. omega (arith, more_names_new d n, free.1)) (cases_lt d (2 * m));
    apart = λ c d lc ld h. ⊎_elim
        (λ oc. ⊎_elim
        (λ od. names.apart c d oc od (sym (more_names_old c oc) ∙ h ∙ more_names_old d od))
        (λ nd. absurd (unused c oc (omega (arith, more_names_old c oc, more_names_new d nd, h))))
        (cases_lt d (2 * m)))
        (λ nc. ⊎_elim
        (λ od. absurd (unused d od (omega (arith, more_names_old d od, more_names_new c nc, h))))
        (λ nd. omega (arith, more_names_new c nc, more_names_new d nd, h))
        (cases_lt d (2 * m)))
        (cases_lt c (2 * m));
    twins = λ d l. ⊎_elim
        (λ o. more_names_old (twin d) (twin-below (2 * m) d (omega arith) o) ∙ names.twins d o
        ∙ ap twin (sym (more_names_old d o)))
        (λ n. ⊎_elim
        (λ first.
        let t : twin d ≡ d + 1 = twin_even d (omega arith) in
        let s : more_names d ≡ 2 * free.0 = omega (arith, more_names_new d n) in
        let u : twin (more_names d) ≡ more_names d + 1 = twin_even (more_names d) (omega arith) in
        let w : 2 * m ≤ twin d = omega arith in
        omega (arith, more_names_new (twin d) w))
        (λ later.
        let odd : d ≡ 2 * m + 1 = omega arith in
        let t : twin d ≡ d - 1 = twin_odd d (λ z. omega arith) in
        let s : more_names d ≡ 2 * free.0 + 1 = omega (arith, more_names_new d n) in
        let u : twin (more_names d) ≡ more_names d - 1 = twin_odd (more_names d) (λ z. omega arith) in
        let w : 2 * m ≤ twin d = omega arith in
        omega (arith, more_names_new (twin d) w))
        (cases_eq d (2 * m)))
        (cases_lt d (2 * m));
  }

  -- with the edge more the map is carried by them
  pub Carries-more : ((d : ℕ) → d < 2 * m → f d < 2 * m) → Carries (suc m) e more_names f g
  Carries-more stays = record {
    same = λ d l. ⊎_elim
        (λ o. ap g (more_names_old d o) ∙ carries.same d o ∙ sym (more_names_old (f d) (stays d o)))
        (λ n. carries.loose (more_names d) (omega (arith, more_names_new d n, free.1))
        (λ c lc h. unused c lc (omega (arith, h, more_names_new d n))) ∙ ap more_names (sym (rest d n)))
        (cases_lt d (2 * m));
    loose = λ y l none. carries.loose y l (λ d ld h. none d (omega arith) (more_names_old d ld ∙ h));
  }

-- a map with loose darts behind is one of more edges
Permutes-more : (m k : ℕ) (f : ℕ → ℕ) → Permutes (2 * m) f → ((d : ℕ) → 2 * m ≤ d → f d ≡ d) → Permutes (2 * (m + k)) f
Permutes-more m k f perm rest = record {
  below = λ d l. ⊎_elim (λ o. omega (arith, perm.below d o)) (λ n. omega (arith, rest d n)) (cases_lt d (2 * m));
  apart = λ c d lc ld h. ⊎_elim
      (λ oc. ⊎_elim (λ od. perm.apart c d oc od h) (λ nd. absurd (omega (arith, perm.below c oc, rest d nd, h)))
      (cases_lt d (2 * m)))
      (λ nc. ⊎_elim (λ od. absurd (omega (arith, perm.below d od, rest c nc, h)))
      (λ nd. omega (arith, rest c nc, rest d nd, h)) (cases_lt d (2 * m)))
      (cases_lt c (2 * m));
}

-- by induction on how many names are free
names_some : (k m e : ℕ) (j f g : ℕ → ℕ) → m + k ≡ e → Permutes (2 * m) f → Permutes (2 * e) g → Names m e j
    → Carries m e j f g → ((d : ℕ) → 2 * m ≤ d → f d ≡ d) → OneGenus m f e g
names_some zero m e j f g size perm_f perm_g names carries rest =
    let same : m ≡ e = omega arith in
    subst (λ x. OneGenus m f x g) same
    (names_all m j f g perm_f (subst (λ x. Permutes (2 * x) g) (sym same) perm_g)
    (subst (λ x. Names m x j) (sym same) names) (subst (λ x. Carries m x j f g) (sym same) carries))
names_some (suc k) m e j f g size perm_f perm_g names carries rest =
    let lt : m < e = omega arith in
    let one : m + 1 ≡ suc m = omega arith in
    let perm : Permutes (2 * suc m) f = subst (λ x. Permutes (2 * x) f) one (Permutes-more m 1 f perm_f rest) in
    OneGenus-trans m f (suc m) f e g
    (loose_edge-OneGenus m f perm (rest (2 * m) (omega arith)) (rest (2 * m + 1) (omega arith)))
    (names_some k (suc m) e (more_names m e j f g lt perm_g names carries rest) f g (omega arith) perm perm_g
    (Names-more m e j f g lt perm_g names carries rest)
    (Carries-more m e j f g lt perm_g names carries rest perm_f.below) (λ d le. rest d (omega arith)))

-- a map under other names in a larger stock of edges has the genus
pub Carries-OneGenus : (m e : ℕ) (j f g : ℕ → ℕ) → m ≤ e → Permutes (2 * m) f → Permutes (2 * e) g → Names m e j
    → Carries m e j f g → OneGenus m f e g
Carries-OneGenus m e j f g le perm_f perm_g names carries =
    let h : ℕ → ℕ = λ (d : ℕ). cond (ltb d (2 * m)) (f d) d in
    let old : (d : ℕ) → d < 2 * m → f d ≡ h d = λ d l. sym (cond-true (ltb d (2 * m)) (f d) d (lt-ltb d (2 * m) l)) in
    let rest : (d : ℕ) → 2 * m ≤ d → h d ≡ d = λ d l. cond-false (ltb d (2 * m)) (f d) d (le-ltb d (2 * m) l) in
    let same : SameGenus m f h = SameGenus-agree m f h perm_f old in
    let carried : Carries m e j h g =
    record { same = λ d l. carries.same d l ∙ ap j (old d l); loose = carries.loose } in
    let one : OneGenus m f m h = omega (arith, same) in
    OneGenus-trans m f m h e g one
    (names_some (e - m) m e j h g (omega arith) (Permutes-agree (2 * m) f h old perm_f) perm_g names carried rest)

-- rows under other names
module _ (j : ℕ → ℕ) where
  -- where j gives different names, the rings are those under the names
  rings_names : (f g : ℕ → ℕ) (rows : List (List ℕ))
      → ((c d : ℕ) → Has c (flat rows) → Has d (flat rows) → j c ≡ j d → c ≡ d) → Rings f rows
      → Rings g (map (map j) rows) → (d : ℕ) → Has d (flat rows) → g (j d) ≡ j (f d)
  rings_names f g [] apart rf rg d h = absurd h
  rings_names f g (xs ∷ rows) apart rf rg d h = ⊎_elim
      (λ k. rg.0.along (j d) (Has-map_on j d xs k)
      ∙ follow-map_on j d xs (λ x hx e. apart x d (Has-append_left x xs (flat rows) hx)
      (Has-append_left d xs (flat rows) k) e) k
      ∙ ap j (sym (rf.0.along d k)))
      (λ k. rings_names f g rows (λ c b hc hb e. apart c b (Has-append_right c xs (flat rows) hc)
      (Has-append_right b xs (flat rows) hb) e) rf.1 rg.1 d k)
      (Has-append_cases d xs (flat rows) h)

-- a map whose lists are those of another under other names has its genus
pub named_lists-OneGenus : (m e : ℕ) (j f g : ℕ → ℕ) (rows : List (List ℕ)) → m ≤ e → Names m e j
    → IsMapOf (2 * m) f rows → IsMapOf (2 * e) g (map (map j) rows) → OneGenus m f e g
named_lists-OneGenus m e j f g rows le names is_f is_g =
    Carries-OneGenus m e j f g le (IsMapOf-Permutes (2 * m) f rows is_f)
    (IsMapOf-Permutes (2 * e) g (map (map j) rows) is_g) names (record {
      same = λ d lt. ⊎_elim
          (λ h. rings_names j f g rows (λ c b hc hb e'. names.apart c b (below_item (2 * m) c (flat rows) is_f.below hc)
          (below_item (2 * m) b (flat rows) is_f.below hb) e') is_f.rings is_g.rings d h)
          (λ l. is_g.loose (j d) (names.below d lt) (free d lt l) ∙ ap j (sym (is_f.loose d lt l)))
          (has_cases d (flat rows));
      loose =
          λ y lt none. is_g.loose y lt (Lacks-from y (flat (map (map j) rows)) (λ h. let w = named y h in
          none w.0 (below_item (2 * m) w.0 (flat rows) is_f.below w.1) w.2));
    })
  where
    named : (y : ℕ) → Has y (flat (map (map j) rows)) → (d : ℕ) × Has d (flat rows) × (j d ≡ y)
    named y h = map_on-Has j y (flat rows) (subst (Has y) (flat-map j rows) h)

    free : (d : ℕ) → d < 2 * m → Lacks d (flat rows) → Lacks (j d) (flat (map (map j) rows))
    free d lt l = Lacks-from (j d) (flat (map (map j) rows)) (λ h.
        let w = named (j d) h in
        has_lacks d (flat rows) (subst (λ y. Has y (flat rows))
        (names.apart w.0 d (below_item (2 * m) w.0 (flat rows) is_f.below w.1) lt w.2) w.1) l)

-- a map with the same lists in a larger stock of edges has the genus
pub larger_stock-OneGenus : (m e : ℕ) (f g : ℕ → ℕ) (rows : List (List ℕ)) → m ≤ e → IsMapOf (2 * m) f rows
    → IsMapOf (2 * e) g rows → OneGenus m f e g
larger_stock-OneGenus m e f g rows le is_f is_g =
    Carries-OneGenus m e (λ d. d) f g le (IsMapOf-Permutes (2 * m) f rows is_f) (IsMapOf-Permutes (2 * e) g rows is_g)
    (record { below = λ d lt. omega arith; apart = λ c d ltc ltd h. h; twins = λ d lt. refl })
    (record {
      same = λ d lt. ⊎_elim (λ h. sym (rings_same f g rows d is_f.rings is_g.rings h))
          (λ l. is_g.loose d (omega arith) l ∙ sym (is_f.loose d lt l)) (has_cases d (flat rows));
      loose =
          λ y lt none. is_g.loose y lt (Lacks-from y (flat rows)
          (λ h. none y (below_item (2 * m) y (flat rows) is_f.below h) refl));
    })
