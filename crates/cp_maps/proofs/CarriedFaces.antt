-- Faces and components of a map under other names.
use Rattle.std.proofs.Common.{◌≡◌, ℕ, ◌<◌, ◌≢◌, true, false, eqb, sym, refl, ap, ◌∙◌, inl, inr, ⊎_elim, suc, ◌+◌, ◌*◌, Bool, arith, zero, ◌⊎◌, ◌%◌, ◌↔◌, cond}
use Rattle.std.proofs.lemmas.Bool.{cases_eq, eq-eqb, ne_eqb, false≢true, cond-true, cond-false, eqb-true, cases_Bool}
use Rattle.std.specs.Fn.{iterate}
use Rattle.cp_orbits.specs.Classes.{graph, labels}
use Rattle.cp_orbits.specs.Orbits.{Permutes, Reaches}
use Rattle.cp_orbits.proofs.ClassLabels.{labels-respects, same_labels}
use Rattle.cp_orbits.proofs.OrbitLaws.{Respects-graph, graph-respects, iterate-below, labels_reached, reached_labels}
use Rattle.cp_faces.specs.Faces.{face_upto, partner, stands}
use Rattle.cp_faces.specs.Twins.{twin}
use Rattle.cp_faces.proofs.Faces.{face_upto-Permutes, stands_at, stands_some}
use Rattle.cp_faces.proofs.Merges.{face_upto-partner, partner-twin}
use Rattle.cp_faces.proofs.Renaming.{partner-within}
use Rattle.cp_faces.proofs.Twins.{twin-below, twin-twin, twin_even}
use Rattle.cp_maps.specs.Genus.{OneFace, OnePart, linked}
use Rattle.cp_maps.specs.Names.{Carries, Names}
use Rattle.cp_maps.proofs.Edges.{twin-OnePart}
use Rattle.cp_maps.proofs.FlatMaps.{linked-from, linked-graph}

-- a map under names
module _ (m e : ℕ) (j f g : ℕ → ℕ) (perm_f : Permutes (2 * m) f) (perm_g : Permutes (2 * e) g) (names : Names m e j)
    (carries : Carries m e j f g) where
  -- the step round the faces under the names
  face_named : (d : ℕ) → d < 2 * m → face_upto g e (j d) ≡ j (face_upto f m d)
  face_named d lt =
      face_upto-partner e g (j d) ∙ ap g
      (partner-twin e (j d) (names.below d lt) ∙ sym (names.twins d lt) ∙ ap j (sym (partner-twin m d lt)))
      ∙ carries.same (partner m d) (partner-within m d lt) ∙ ap j (sym (face_upto-partner m f d))

  -- and its repeats
  faces_named : (k d : ℕ) → d < 2 * m → iterate (face_upto g e) k (j d) ≡ j (iterate (face_upto f m) k d)
  faces_named zero d lt = refl
  faces_named (suc k) d lt = ap (iterate (face_upto g e) k) (face_named d lt)
      ∙ faces_named k (face_upto f m d) ((face_upto-Permutes (2 * m) m f perm_f (omega arith)).below d lt)

  -- two darts are in one face as their names are
  pub Carries-OneFace : (c d : ℕ) → c < 2 * m → d < 2 * m → OneFace m f c d ↔ OneFace e g (j c) (j d)
  Carries-OneFace c d ltc ltd =
      let perm_one : Permutes (2 * m) (face_upto f m) = face_upto-Permutes (2 * m) m f perm_f (omega arith) in
      let perm_two : Permutes (2 * e) (face_upto g e) = face_upto-Permutes (2 * e) e g perm_g (omega arith) in (
        λ one. same_labels (λ z. labels (graph (face_upto g e) (2 * e)) (j z)) (graph (face_upto f m) (2 * m)) c d
            (Respects-graph (λ z. labels (graph (face_upto g e) (2 * e)) (j z)) (face_upto f m) (2 * m) (λ z lt.
            graph-respects (labels (graph (face_upto g e) (2 * e))) (face_upto g e) (2 * e) (j z)
            (labels-respects (graph (face_upto g e) (2 * e))) (names.below z lt)
            ∙ ap (labels (graph (face_upto g e) (2 * e))) (face_named z lt))) one,
        λ one.
            let r : Reaches (face_upto g e) (j c) (j d) =
            reached_labels (2 * e) (face_upto g e) perm_two (j c) (j d) (names.below c ltc) (names.below d ltd) one in
            labels_reached (2 * m) (face_upto f m) perm_one c d ltc (
              r.0,
              names.apart (iterate (face_upto f m) r.0 c) d
                  (iterate-below (2 * m) (face_upto f m) perm_one r.0 c ltc) ltd (sym (faces_named r.0 c ltc) ∙ r.1),
            ),
      )

  -- darts of one component have names of one
  pub Carries-OnePart : (c d : ℕ) → OnePart m f c d → OnePart e g (j c) (j d)
  Carries-OnePart c d one =
      same_labels (λ z. labels (linked g (2 * e) e) (j z)) (linked f (2 * m) m) c d
      (linked-from (λ z. labels (linked g (2 * e) e) (j z)) f (2 * m) m
      (Respects-graph (λ z. labels (linked g (2 * e) e) (j z)) f (2 * m) (λ z lt.
      graph-respects (labels (linked g (2 * e) e)) g (2 * e) (j z)
      (linked-graph (labels (linked g (2 * e) e)) g (2 * e) e (labels-respects (linked g (2 * e) e)))
      (names.below z lt) ∙ ap (labels (linked g (2 * e) e)) (carries.same z lt)))
      (λ k lt.
      let even : 2 * k % 2 ≡ 0 = omega arith in
      let t : j (2 * k + 1) ≡ twin (j (2 * k)) = ap j (sym (twin_even (2 * k) even))
      ∙ names.twins (2 * k) (omega arith) in
      sym (twin-OnePart e g perm_g (j (2 * k)) (names.below (2 * k) (omega arith)))
      ∙ ap (labels (linked g (2 * e) e)) (sym t))) one

  -- the darts of one component
  module _ (c : ℕ) (ltc : c < 2 * m) where
    -- the label of a dart
    abbrev part : ℕ → ℕ
    part = labels (linked f (2 * m) m)

    -- the name of a dart of the component of c
    abbrev place : ℕ → ℕ
    place z = cond (eqb (part z) (part c)) (j z) (2 * e)

    -- y is the name of such a dart
    abbrev test : ℕ → Bool
    test y = stands place (2 * m) y

    -- where it is, the dart is known
    test_some : (y : ℕ) → y < 2 * e → test y ≡ true → (z : ℕ) × (z < 2 * m) × (j z ≡ y) × (part z ≡ part c)
    test_some y lt t =
        let w = stands_some place (2 * m) y t in
        ⊎_elim
        (λ s. (
          w.0,
          w.1,
          sym (cond-true (eqb (part w.0) (part c)) (j w.0) (2 * e) (eq-eqb (part w.0) (part c) s))
              ∙ w.2,
          s,
        ))
        (λ ns. let out : 2 * e ≡ y =
        sym (cond-false (eqb (part w.0) (part c)) (j w.0) (2 * e) (ne_eqb (part w.0) (part c) ns)) ∙ w.2 in
        absurd (omega arith))
        (cases_eq (part w.0) (part c))

    -- at a name the test tells whether the dart is of the component
    test_named : (z : ℕ) → z < 2 * m → test (j z) ≡ eqb (part z) (part c)
    test_named z lt = ⊎_elim
        (λ s. stands_at place (2 * m) z (j z) lt
        (cond-true (eqb (part z) (part c)) (j z) (2 * e) (eq-eqb (part z) (part c) s))
        ∙ sym (eq-eqb (part z) (part c) s))
        (λ ns. ⊎_elim
        (λ t. let w = test_some (j z) (names.below z lt) t in
        absurd (ns (ap part (sym (names.apart w.0 z w.1 lt w.2)) ∙ w.3)))
        (λ u. u ∙ sym (ne_eqb (part z) (part c) ns))
        (cases_Bool (test (j z))))
        (cases_eq (part z) (part c))

    -- at a number that is no name it fails
    test_unnamed : (y : ℕ) → y < 2 * e → ((z : ℕ) → z < 2 * m → j z ≢ y) → test y ≡ false
    test_unnamed y lt none =
        ⊎_elim (λ t. let w = test_some y lt t in absurd (none w.0 w.1 w.2)) (λ u. u) (cases_Bool (test y))

    -- a number below 2e is a name or none
    named_cases : (y : ℕ) → ((z : ℕ) × (z < 2 * m) × (j z ≡ y)) ⊎ ((z : ℕ) → z < 2 * m → j z ≢ y)
    named_cases y =
        ⊎_elim (λ t. inl (stands_some j (2 * m) y t))
        (λ u. inr (λ z lt s. false≢true (sym u ∙ stands_at j (2 * m) z y lt s))) (cases_Bool (stands j (2 * m) y))

    -- it has one value on darts that follow each other
    test_kept : (y : ℕ) → y < 2 * e → test y ≡ test (g y)
    test_kept y lt = ⊎_elim
        (λ w. ap test (sym w.2) ∙ test_named w.0 w.1
        ∙ ap (λ x. eqb x (part c)) (graph-respects part f (2 * m) w.0
        (linked-graph part f (2 * m) m (labels-respects (linked f (2 * m) m))) w.1)
        ∙ sym (test_named (f w.0) (perm_f.below w.0 w.1)) ∙ ap test (sym (carries.same w.0 w.1) ∙ ap g w.2))
        (λ none. ap test (sym (carries.loose y lt none)))
        (named_cases y)

    -- and on twins
    test_twins : (y : ℕ) → y < 2 * e → test y ≡ test (twin y)
    test_twins y lt = ⊎_elim
        (λ w.
        let lt_t : twin w.0 < 2 * m = twin-below (2 * m) w.0 (omega arith) w.1 in
        ap test (sym w.2) ∙ test_named w.0 w.1 ∙ ap (λ x. eqb x (part c)) (sym (twin-OnePart m f perm_f w.0 w.1))
        ∙ sym (test_named (twin w.0) lt_t) ∙ ap test (names.twins w.0 w.1 ∙ ap twin w.2))
        (λ none. test_unnamed y lt none ∙ sym (test_unnamed (twin y) (twin-below (2 * e) y (omega arith) lt)
        (λ z ltz s. none (twin z) (twin-below (2 * m) z (omega arith) ltz)
        (names.twins z ltz ∙ ap twin s ∙ twin-twin y))))
        (named_cases y)

    -- darts whose names are of one component are of one
    pub Carries-OnePart_back : (d : ℕ) → d < 2 * m → OnePart e g (j c) (j d) → OnePart m f c d
    Carries-OnePart_back d ltd one = sym (eqb-true (part d) (part c) (sym (test_named d ltd)
        ∙ sym (same_labels test (linked g (2 * e) e) (j c) (j d)
        (linked-from test g (2 * e) e (Respects-graph test g (2 * e) test_kept)
        (λ k lt. let even : 2 * k % 2 ≡ 0 = omega arith in
        test_twins (2 * k) (omega arith) ∙ ap test (twin_even (2 * k) even))) one)
        ∙ test_named c ltc ∙ eq-eqb (part c) (part c) refl))
