-- A rotation is flat by its darts exactly where Euler's formula holds.
use Rattle.std.proofs.Common.{◌≡◌, ℕ, ◌<◌, true, false, eqb, sym, refl, ap, ◌∙◌, ⊎_elim, suc, ◌+◌, ◌*◌, ◌≤◌, Bool, arith, zero, not, ◌&&◌, ap₂}
use Rattle.std.proofs.lemmas.Bool.{not-true, eq-eqb, ne_eqb, false≢true, eqb-true, cases_Bool, not_from_true, not_from_false, and_from, and_parts}
use Rattle.cp_lists.specs.Count.{count}
use Rattle.cp_lists.proofs.Choices.{choose}
use Rattle.cp_lists.proofs.Counting.{count_agree, count_inject, count_no, count_yes}
use Rattle.cp_orbits.specs.Classes.{Respects, graph, labels}
use Rattle.cp_orbits.proofs.ClassLabels.{labels-keeps, labels-labels, labels-le, labels-respects, same_labels}
use Rattle.cp_orbits.proofs.OrbitLaws.{Respects-graph}
use Rattle.cp_faces.specs.Faces.{Turns, bare, components, ends_upto, faces, stands}
use Rattle.cp_faces.proofs.Faces.{euler_bound, orbits-bare, stands_at, stands_some, vertex-orbit}
use Rattle.cp_faces.proofs.Renaming.{Respects-ends, ends-respects}
use Rattle.cp_maps.specs.Genus.{IsFlat, linked, parts}
use Rattle.cp_maps.proofs.FlatMaps.{linked-edges, linked-from, linked-graph}

-- the numbers that pass a test are those that pass a second as well, and those that do not
pub count_parts : (n : ℕ) (p q : ℕ → Bool) → count n (λ x. p x && q x) + count n (λ x. p x && not (q x)) ≡ count n p
count_parts zero p q = refl
count_parts (suc n) p q = ⊎_elim
    (λ t. ⊎_elim
    (λ y. omega (
      arith,
      count_parts n p q,
      count_yes n p t,
      count_yes n (λ x. p x && q x)
          (and_from (p n) (q n) t y),
      count_no n (λ x. p x && not (q x)) (ap₂ (λ a b. a && b) t (not_from_true (q n) y)),
    ))
    (λ z. omega (
      arith,
      count_parts n p q,
      count_yes n p t,
      count_no n (λ x. p x && q x)
          (ap₂ (λ a b. a && b) t z),
      count_yes n (λ x. p x && not (q x))
          (and_from (p n) (not (q n)) t (not_from_false (q n) z)),
    ))
    (cases_Bool (q n)))
    (λ f. omega (
      arith,
      count_parts n p q,
      count_no n p f,
      count_no n (λ x. p x && q x)
          (ap (λ a. a && q n) f),
      count_no n (λ x. p x && not (q x)) (ap (λ a. a && not (q n)) f),
    ))
    (cases_Bool (p n))

-- a rotation by its darts
module _ (v e : ℕ) (at next : ℕ → ℕ) (rot : Turns v e at next) where
  -- the label of a vertex
  abbrev ends : ℕ → ℕ
  ends = labels (ends_upto at e)

  -- the label of a dart
  abbrev links : ℕ → ℕ
  links = labels (linked next (2 * e) e)

  -- a dart stands at the vertex
  abbrev stood : ℕ → Bool
  stood = stands at (2 * e)

  -- the vertex is the least of its component
  abbrev leads : ℕ → Bool
  leads x = eqb (ends x) x

  -- the dart is the least of its component
  abbrev first : ℕ → Bool
  first d = eqb (links d) d

  -- what the ends of edges respect the darts respect
  at_respects : {A : Type 0} (g : ℕ → A) → Respects g (ends_upto at e)
      → Respects (λ d. g (at d)) (linked next (2 * e) e)
  at_respects g r =
      linked-from (λ d. g (at d)) next (2 * e) e
      (Respects-graph (λ d. g (at d)) next (2 * e) (λ d lt. ap g (sym (rot.kept d lt))))
      (λ k lt. ends-respects g at e k r lt)

  -- two darts of one vertex have one label
  one_vertex : (c d : ℕ) → c < 2 * e → d < 2 * e → at c ≡ at d → links c ≡ links d
  one_vertex c d ltc ltd same =
      same_labels links (graph next (2 * e)) c d
      (linked-graph links next (2 * e) e (labels-respects (linked next (2 * e) e)))
      (vertex-orbit v (2 * e) at next rot c d ltc ltd same)

  -- the dart of each vertex where one stands
  chosen : (f : ℕ → ℕ) × ((x : ℕ) → x < v → stood x ≡ true → (f x < 2 * e) × (at (f x) ≡ x))
  chosen = choose v (λ x d. stood x ≡ true → (d < 2 * e) × (at d ≡ x)) (λ x lt. ⊎_elim
      (λ t. let w = stands_some at (2 * e) x t in (w.0, λ u. (w.1, w.2)))
      (λ f. (0, λ t. absurd (false≢true (sym f ∙ t))))
      (cases_Bool (stood x)))

  -- it
  abbrev dart : ℕ → ℕ
  dart = chosen.0

  -- each dart has the label of the dart of its vertex
  dart_label : (d : ℕ) → d < 2 * e → links (dart (at d)) ≡ links d
  dart_label d lt =
      let c = chosen.1 (at d) (rot.placed d lt) (stands_at at (2 * e) d (at d) lt refl) in
      one_vertex (dart (at d)) d c.0 lt c.1

  -- the labels of the darts of vertices respect the edges
  dart_respects : Respects (λ x. links (dart x)) (ends_upto at e)
  dart_respects = Respects-ends (λ x. links (dart x)) at e (λ k lt.
      dart_label (2 * k) (omega arith)
      ∙ linked-edges links next (2 * e) e (labels-respects (linked next (2 * e) e)) k lt
      ∙ sym (dart_label (2 * k + 1) (omega arith)))

  -- a bare vertex is the least of its component, and the label of no other
  bare_alone : (x y : ℕ) → stood x ≡ false → ends y ≡ x → y ≡ x
  bare_alone x y none same =
      let far : (d : ℕ) → d < 2 * e
      → eqb (at d) x ≡ false = λ d lt. ne_eqb (at d) x (λ h. false≢true (sym none ∙ stands_at at (2 * e) d x lt h)) in
      let keeps : eqb (ends y) x ≡ eqb y x =
      labels-keeps (λ z. eqb z x) (ends_upto at e)
      (Respects-ends (λ z. eqb z x) at e (λ k lt. far (2 * k) (omega arith) ∙ sym (far (2 * k + 1) (omega arith)))) y in
      eqb-true y x (sym keeps ∙ eq-eqb (ends y) x same)

  -- so it leads
  bare_leads : (x : ℕ) → stood x ≡ false → leads x ≡ true
  bare_leads x none =
      let far : (d : ℕ) → d < 2 * e
      → eqb (at d) x ≡ false = λ d lt. ne_eqb (at d) x (λ h. false≢true (sym none ∙ stands_at at (2 * e) d x lt h)) in
      let keeps : eqb (ends x) x ≡ eqb x x =
      labels-keeps (λ z. eqb z x) (ends_upto at e)
      (Respects-ends (λ z. eqb z x) at e (λ k lt. far (2 * k) (omega arith) ∙ sym (far (2 * k + 1) (omega arith)))) x in
      keeps ∙ eq-eqb x x refl

  -- the components are those of the darts, and the bare vertices
  pub components_linked : components v e at ≡ parts e next + bare v (2 * e) at
  components_linked = omega (arith, count_parts v leads stood, vacant, most, least)
    where
      vacant : count v (λ x. leads x && not (stood x)) ≡ bare v (2 * e) at
      vacant = count_agree v (λ x. leads x && not (stood x)) (λ x. not (stood x)) (λ x lt. ⊎_elim
          (λ t. ap₂ (λ a b. a && b) (bare_leads x (not-true (stood x) t)) t ∙ sym t)
          (λ f. ⊎_elim (λ t. ap₂ (λ a b. a && b) t f ∙ sym f) (λ g. ap (λ a. a && not (stood x)) g ∙ sym f)
          (cases_Bool (leads x)))
          (cases_Bool (not (stood x))))

      most : count v (λ x. leads x && stood x) ≤ count (2 * e) first
      most = count_inject v (2 * e) (λ x. leads x && stood x) first (λ x. links (dart x))
          (λ x lt t. let c = chosen.1 x lt (and_parts (leads x) (stood x) t).1 in (
            omega (arith, labels-le (linked next (2 * e) e) (dart x), c.0),
            eq-eqb (links (links (dart x)))
                (links (dart x)) (labels-labels (linked next (2 * e) e) (dart x)),
          ))
          (λ x y ltx lty tx ty same.
          let px = and_parts (leads x) (stood x) tx in
          let py = and_parts (leads y) (stood y) ty in
          let cx = chosen.1 x ltx px.1 in
          let cy = chosen.1 y lty py.1 in
          let one : ends (at (dart x)) ≡ ends (at (dart y)) =
          same_labels (λ d. ends (at d)) (linked next (2 * e) e) (dart x) (dart y)
          (at_respects ends (labels-respects (ends_upto at e))) same in
          sym (eqb-true (ends x) x px.0) ∙ ap ends (sym cx.1) ∙ one ∙ ap ends cy.1 ∙ eqb-true (ends y) y py.0)

      least : count (2 * e) first ≤ count v (λ x. leads x && stood x)
      least = count_inject (2 * e) v first (λ x. leads x && stood x) (λ d. ends (at d))
          (λ d lt t. (
            omega (arith, labels-le (ends_upto at e) (at d), rot.placed d lt),
            and_from (leads (ends (at d))) (stood (ends (at d)))
                (eq-eqb (ends (ends (at d))) (ends (at d)) (labels-labels (ends_upto at e) (at d)))
                (⊎_elim (λ y. y) (λ none. absurd
                (false≢true (sym none ∙ stands_at at (2 * e) d (ends (at d)) lt
                (bare_alone (ends (at d)) (at d) none refl)))) (cases_Bool (stood (ends (at d))))),
          ))
          (λ c d ltc ltd tc td same.
          let one : links (dart (at c)) ≡ links (dart (at d)) =
          same_labels (λ x. links (dart x)) (ends_upto at e) (at c) (at d) dart_respects same in
          sym (eqb-true (links c) c tc) ∙ sym (dart_label c ltc) ∙ one ∙ dart_label d ltd ∙ eqb-true (links d) d td)

  -- a rotation for which Euler's formula holds is flat by its darts
  pub flat_from_zero : v + faces v e at next ≡ e + 2 * components v e at → IsFlat e next
  flat_from_zero sum = omega (arith, sum, components_linked, orbits-bare v (2 * e) at next rot)

  -- Euler's formula holds for a rotation that is flat by its darts
  pub zero_from_flat : IsFlat e next → v + faces v e at next ≡ e + 2 * components v e at
  zero_from_flat flat =
      omega (arith, flat, components_linked, orbits-bare v (2 * e) at next rot, euler_bound v e at next rot)
