-- A map on a larger stock of edges, and with other numbers for its darts: its genus stays.
use Rattle.std.proofs.Common.{◌≡◌, ℕ, ◌<◌, ◌≢◌, true, eqb, List, sym, refl, ap, ◌∙◌, subst, ⊎_elim, suc, ◌+◌, ◌*◌, ◌≤◌, Bool, arith, lt-suc_self}
use Rattle.std.proofs.lemmas.Bool.{cases_eq, eq-eqb, ne_eqb, cases_lt, eqb-true}
use Rattle.cp_lists.specs.Count.{count}
use Rattle.cp_lists.proofs.Counting.{count_agree, count_yes}
use Rattle.cp_orbits.specs.Classes.{classes, labels, orbits}
use Rattle.cp_orbits.specs.Orbits.{Permutes, Renumbers, splice}
use Rattle.cp_orbits.proofs.ClassLabels.{classes_joined, equal_labels, labels-keeps, labels-respects}
use Rattle.cp_orbits.proofs.Exchanges.{Permutes-splice, Renumbers-sym, classes_renumbered-le, orbits-splice, orbits-splice_alone, orbits_renumbered, splice_at, splice_other}
use Rattle.cp_orbits.proofs.OrbitLaws.{Permutes-agree, Respects-graph, exchange_left, exchange_other, exchange_right, graph-respects, orbits_agree}
use Rattle.cp_faces.specs.Faces.{face_upto, partner}
use Rattle.cp_faces.proofs.Faces.{face_upto-Permutes, face_upto-past}
use Rattle.cp_faces.proofs.Merges.{face_upto-partner, partner_even}
use Rattle.cp_faces.proofs.Renaming.{partner-within}
use Rattle.cp_maps.specs.Genus.{OneGenus, SameGenus, linked, parts, rounds}
use Rattle.cp_maps.proofs.FlatMaps.{linked-edges, linked-from, linked-graph, linked-partner}

-- a last number that stays is an orbit
alone_splice : (n : ℕ) (f : ℕ → ℕ) → Permutes (suc n) f → f n ≡ n → (x : ℕ) → x < n → splice f n x ≡ f x
alone_splice n f perm stays x lt =
    splice_other f n x (λ h. let same : x ≡ n = perm.apart x n (omega arith) (lt-suc_self n) (h ∙ sym stays) in
    omega arith)

-- without it there is one less
alone_orbits : (n : ℕ) (f : ℕ → ℕ) → Permutes (suc n) f → f n ≡ n → orbits (suc n) f ≡ suc (orbits n f)
alone_orbits n f perm stays = orbits-splice_alone n f perm stays
    ∙ ap suc (orbits_agree (splice f n) f n (alone_splice n f perm stays))

-- and a permutation
alone_Permutes : (n : ℕ) (f : ℕ → ℕ) → Permutes (suc n) f → f n ≡ n → Permutes n f
alone_Permutes n f perm stays = Permutes-agree n (splice f n) f (alone_splice n f perm stays) (Permutes-splice n f perm)

-- a loose edge more
module _ (e : ℕ) (f : ℕ → ℕ) (perm : Permutes (2 * suc e) f) (first : f (2 * e) ≡ 2 * e)
    (second : f (2 * e + 1) ≡ 2 * e + 1) where
  -- the darts counted one by one
  size : 2 * suc e ≡ suc (2 * e + 1)
  size = omega arith

  -- again
  size_odd : 2 * e + 1 ≡ suc (2 * e)
  size_odd = omega arith

  -- it is a permutation of all darts
  perm_all : Permutes (suc (2 * e + 1)) f
  perm_all = subst (λ n. Permutes n f) size perm

  -- of all but the last
  perm_odd : Permutes (suc (2 * e)) f
  perm_odd = subst (λ n. Permutes n f) size_odd (alone_Permutes (2 * e + 1) f perm_all second)

  -- a map whose last edge is loose is a permutation of the other darts
  pub perm_less : Permutes (2 * e) f
  perm_less = alone_Permutes (2 * e) f perm_odd first

  -- two vertices more
  more_vertices : orbits (2 * suc e) f ≡ 2 + orbits (2 * e) f
  more_vertices =
      let one : orbits (2 * suc e) f ≡ orbits (suc (2 * e + 1)) f = ap (λ n. orbits n f) size in
      let two : orbits (2 * e + 1) f ≡ orbits (suc (2 * e)) f = ap (λ n. orbits n f) size_odd in
      omega (arith, one, two, alone_orbits (2 * e + 1) f perm_all second, alone_orbits (2 * e) f perm_odd first)

  -- the step round the faces
  abbrev round : ℕ → ℕ
  round = face_upto f (suc e)

  -- it leads from the first dart to the second
  round_first : round (2 * e) ≡ 2 * e + 1
  round_first = ap (face_upto f e) (exchange_left (2 * e) (2 * e + 1) (2 * e) refl)
      ∙ face_upto-past e f (2 * e + 1) (omega arith) ∙ second

  -- and back
  round_second : round (2 * e + 1) ≡ 2 * e
  round_second = ap (face_upto f e) (exchange_right (2 * e) (2 * e + 1) (2 * e + 1) refl)
      ∙ face_upto-past e f (2 * e) (omega arith) ∙ first

  -- it is a permutation
  perm_round : Permutes (suc (2 * e + 1)) round
  perm_round = subst (λ n. Permutes n round) size (face_upto-Permutes (2 * suc e) (suc e) f perm (omega arith))

  -- without the second dart
  abbrev round_odd : ℕ → ℕ
  round_odd = splice round (2 * e + 1)

  -- it is a permutation
  perm_round_odd : Permutes (suc (2 * e)) round_odd
  perm_round_odd = subst (λ n. Permutes n round_odd) size_odd (Permutes-splice (2 * e + 1) round perm_round)

  -- it stays at the first
  round_stays : round_odd (2 * e) ≡ 2 * e
  round_stays = splice_at round (2 * e + 1) (2 * e) round_first ∙ round_second

  -- the old faces
  round_old : (d : ℕ) → d < 2 * e → round_odd d ≡ face_upto f e d
  round_old d lt =
      let old : round d ≡ face_upto f e d =
      ap (face_upto f e) (exchange_other (2 * e) (2 * e + 1) d (λ h. omega arith) (λ h. omega arith)) in
      let below : face_upto f e d < 2 * e = (face_upto-Permutes (2 * e) e f perm_less (omega arith)).below d lt in
      splice_other round (2 * e + 1) d (λ h. omega (arith, below, old, h)) ∙ old

  -- a face more
  more_faces : rounds (suc e) f ≡ 1 + rounds e f
  more_faces =
      let one : rounds (suc e) f ≡ orbits (suc (2 * e + 1)) round = ap (λ n. orbits n round) size in
      let two : orbits (2 * e + 1) round_odd ≡ orbits (suc (2 * e)) round_odd = ap (λ n. orbits n round_odd) size_odd in
      let moves : round (2 * e + 1) ≢ 2 * e + 1 = λ h. omega (arith, h, round_second) in
      omega (
        arith,
        one,
        two,
        orbits-splice (2 * e + 1) round perm_round moves,
        alone_orbits
            (2 * e) round_odd perm_round_odd round_stays,
        orbits_agree round_odd (face_upto f e) (2 * e) round_old,
      )

  -- the old links
  abbrev links : List (ℕ × ℕ)
  links = linked f (2 * e) e

  -- with the loose darts
  abbrev links_all : List (ℕ × ℕ)
  links_all = linked f (2 * suc e) e

  -- these change no label
  same_label : (x : ℕ) → labels links_all x ≡ labels links x
  same_label = equal_labels links_all links
      (linked-from (labels links) f (2 * suc e) e (Respects-graph (labels links) f (2 * suc e) (λ x lt. ⊎_elim
      (λ l. graph-respects (labels links) f (2 * e) x
      (linked-graph (labels links) f (2 * e) e (labels-respects links)) l)
      (λ q. ap (labels links) (⊎_elim (λ h. h ∙ sym first ∙ ap f (sym h))
      (λ nh. let h : x ≡ 2 * e + 1 = omega arith in h ∙ sym second ∙ ap f (sym h)) (cases_eq x (2 * e))))
      (cases_lt x (2 * e))))
      (linked-edges (labels links) f (2 * e) e (labels-respects links)))
      (linked-from (labels links_all) f (2 * e) e
      (Respects-graph (labels links_all) f (2 * e)
      (λ x lt. graph-respects (labels links_all) f (2 * suc e) x
      (linked-graph (labels links_all) f (2 * suc e) e (labels-respects links_all)) (omega arith)))
      (linked-edges (labels links_all) f (2 * suc e) e (labels-respects links_all)))

  -- a loose dart is its own label
  own_label : (c : ℕ) → 2 * e ≤ c → labels links c ≡ c
  own_label c le =
      eqb-true (labels links c) c (labels-keeps (λ y. eqb y c) links (linked-from (λ y. eqb y c) f (2 * e) e
      (Respects-graph (λ y. eqb y c) f (2 * e) (λ x lt. let below : f x < 2 * e = perm_less.below x lt in
      ne_eqb x c (λ h. omega arith) ∙ sym (ne_eqb (f x) c (λ h. omega (arith, below, h, le)))))
      (λ k lt. ne_eqb (2 * k) c (λ h. omega arith) ∙ sym (ne_eqb (2 * k + 1) c (λ h. omega arith)))) c
      ∙ eq-eqb c c refl)

  -- a component more
  more_parts : parts (suc e) f ≡ 1 + parts e f
  more_parts =
      let leads : ℕ → Bool = λ (x : ℕ). eqb (labels links_all x) x in
      let one : classes (2 * suc e) links_all ≡ count (suc (2 * e + 1)) leads = ap (λ n. count n leads) size in
      let two : count (2 * e + 1) leads ≡ count (suc (2 * e)) leads = ap (λ n. count n leads) size_odd in
      let own_second : leads (2 * e + 1) ≡ true =
      eq-eqb (labels links_all (2 * e + 1)) (2 * e + 1)
      (same_label (2 * e + 1) ∙ own_label (2 * e + 1) (omega arith)) in
      let own_first : leads (2 * e) ≡ true =
      eq-eqb (labels links_all (2 * e)) (2 * e) (same_label (2 * e) ∙ own_label (2 * e) (omega arith)) in
      let differ : labels links_all (2 * e) ≢ labels links_all (2 * e + 1) =
      λ h. omega (
        arith,
        h,
        same_label (2 * e),
        own_label (2 * e) (omega arith),
        same_label (2 * e + 1),
        own_label
            (2 * e + 1) (omega arith),
      ) in
      omega (
        arith,
        classes_joined (2 * suc e) (2 * e, 2 * e + 1) links_all (omega arith) (omega arith) differ,
        one,
        two,
        count_yes (2 * e + 1) leads own_second,
        count_yes (2 * e) leads own_first,
        count_agree (2 * e) leads (λ x. eqb (labels links x) x) (λ x lt. ap (λ y. eqb y x) (same_label x)),
      )

  -- a loose edge more keeps the genus
  pub loose_edge-OneGenus : OneGenus e f (suc e) f
  loose_edge-OneGenus = omega (arith, more_vertices, more_faces, more_parts)

-- other names for the darts of a map
module _ (e : ℕ) (f g : ℕ → ℕ) (perm_f : Permutes (2 * e) f) (perm_g : Permutes (2 * e) g) (k undo : ℕ → ℕ)
    (ren : Renumbers (2 * e) k undo) (pairs : (d : ℕ) → d < 2 * e → partner e (k d) ≡ k (partner e d))
    (same : (d : ℕ) → d < 2 * e → g (k d) ≡ k (f d)) where
  -- back from the new names
  undone : (y : ℕ) → y < 2 * e → undo (g y) ≡ f (undo y)
  undone y lt = ap (λ (z : ℕ). undo (g z)) (sym (ren.back_there y lt)) ∙ ap undo (same (undo y) (ren.back y lt))
      ∙ ren.there_back (f (undo y)) (perm_f.below (undo y) (ren.back y lt))

  -- pairs have names of pairs
  undone_pairs : (y : ℕ) → y < 2 * e → undo (partner e y) ≡ partner e (undo y)
  undone_pairs y lt = ap (λ (z : ℕ). undo (partner e z)) (sym (ren.back_there y lt))
      ∙ ap undo (pairs (undo y) (ren.back y lt))
      ∙ ren.there_back (partner e (undo y)) (partner-within e (undo y) (ren.back y lt))

  -- under new numbers there are no fewer components
  pub fewer_parts : parts e f ≤ parts e g
  fewer_parts =
      classes_renumbered-le (2 * e) k undo (linked f (2 * e) e) (linked g (2 * e) e) ren (linked-from label g (2 * e) e
      (Respects-graph label g (2 * e)
      (λ y lt. graph-respects (labels (linked f (2 * e) e)) f (2 * e) (undo y)
      (linked-graph (labels (linked f (2 * e) e)) f (2 * e) e (labels-respects (linked f (2 * e) e))) (ren.back y lt)
      ∙ ap (labels (linked f (2 * e) e)) (sym (undone y lt))))
      (λ i lt. sym (linked-partner (labels (linked f (2 * e) e)) f (2 * e) e (labels-respects (linked f (2 * e) e))
      (undo (2 * i))) ∙ ap (labels (linked f (2 * e) e))
      (sym (undone_pairs (2 * i) (omega arith)) ∙ ap undo (partner_even e i lt))))
    where
      label : ℕ → ℕ
      label y = labels (linked f (2 * e) e) (undo y)

  -- under new numbers there are as many faces
  pub renamed_rounds : rounds e f ≡ rounds e g
  renamed_rounds =
      orbits_renumbered (2 * e) k undo (face_upto f e) (face_upto g e) ren
      (face_upto-Permutes (2 * e) e f perm_f (omega arith)) (face_upto-Permutes (2 * e) e g perm_g (omega arith))
      (λ d lt. face_upto-partner e g (k d) ∙ ap g (pairs d lt) ∙ same (partner e d) (partner-within e d lt)
      ∙ ap k (sym (face_upto-partner e f d)))

-- a map under new numbers that keep twins has the genus
pub renumbered-SameGenus : (e : ℕ) (f g : ℕ → ℕ) → Permutes (2 * e) f → Permutes (2 * e) g → (k undo : ℕ → ℕ)
    → Renumbers (2 * e) k undo → ((d : ℕ) → d < 2 * e → partner e (k d) ≡ k (partner e d))
    → ((d : ℕ) → d < 2 * e → g (k d) ≡ k (f d)) → SameGenus e f g
renumbered-SameGenus e f g perm_f perm_g k undo ren pairs same = omega (
  arith,
  fewer_parts e f g perm_f perm_g k undo ren pairs same,
  fewer_parts e g f perm_g perm_f undo k (Renumbers-sym (2 * e) k undo ren)
      (λ y lt. sym (undone_pairs e f g perm_f perm_g k undo ren pairs same y lt))
      (λ y lt. sym (undone e f g perm_f perm_g k undo ren pairs same y lt)),
  renamed_rounds e f g perm_f perm_g k undo ren pairs same,
  orbits_renumbered (2 * e) k undo f g ren perm_f perm_g same,
)
