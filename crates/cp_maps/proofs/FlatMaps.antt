-- Links of darts, and maps whose values at two darts are exchanged: what is flat stays flat.
use Rattle.std.proofs.Common.{◌≡◌, ℕ, ◌<◌, ◌≢◌, List, ◌∷◌, sym, refl, ap, ◌∙◌, ⊎_elim, suc, ◌+◌, ◌*◌, ◌≤◌, arith, lt-suc_self, zero}
use Rattle.std.proofs.lemmas.Bool.{cases_eq}
use Rattle.cp_orbits.specs.Classes.{Respects, classes, graph, labels, orbits}
use Rattle.cp_orbits.specs.Orbits.{Permutes, exchange}
use Rattle.cp_orbits.proofs.ClassLabels.{classes_coarser, classes_equal, classes_joined, labels-respects, same_labels}
use Rattle.cp_orbits.proofs.Exchanges.{joined_labels, orbits_exchanged-ge, orbits_joined, orbits_split}
use Rattle.cp_orbits.proofs.OrbitLaws.{Permutes-exchange, Respects-graph, exchange-below, exchange-exchange, exchange_case, graph-respects, graph_agree, orbits_agree}
use Rattle.cp_faces.specs.Faces.{face_upto, partner}
use Rattle.cp_faces.proofs.Faces.{face_upto-Permutes}
use Rattle.cp_faces.proofs.Merges.{face_upto-merged, face_upto-partner}
use Rattle.cp_faces.proofs.Renaming.{Respects-ends, ends_upto-partner, partner-within}
use Rattle.cp_maps.specs.Genus.{IsFlat, linked, parts, rounds}

-- what has one value on the darts of each edge and on darts that follow each other respects them
pub linked-from : {A : Type 0} (g : ℕ → A) (f : ℕ → ℕ) (n i : ℕ) → Respects g (graph f n)
    → ((k : ℕ) → k < i → g (2 * k) ≡ g (2 * k + 1)) → Respects g (linked f n i)
linked-from g f n zero r same = r
linked-from g f n (suc i) r same = (same i (lt-suc_self i), linked-from g f n i r (λ k lt. same k (omega arith)))

-- what respects the links has one value on darts that follow each other
pub linked-graph : {A : Type 0} (g : ℕ → A) (f : ℕ → ℕ) (n i : ℕ) → Respects g (linked f n i) → Respects g (graph f n)
linked-graph g f n zero r = r
linked-graph g f n (suc i) r = linked-graph g f n i r.1

-- what respects the links has one value on the two darts of each edge
pub linked-edges : {A : Type 0} (g : ℕ → A) (f : ℕ → ℕ) (n i : ℕ) → Respects g (linked f n i) → (k : ℕ) → k < i
    → g (2 * k) ≡ g (2 * k + 1)
linked-edges g f n zero r k lt = absurd (omega arith)
linked-edges g f n (suc i) r k lt =
    ⊎_elim (λ e. ap (λ (j : ℕ). g (2 * j)) e ∙ r.0 ∙ ap (λ (j : ℕ). g (2 * j + 1)) (sym e))
    (λ ne. linked-edges g f n i r.1 k (omega arith)) (cases_eq k i)

-- what respects the links has one value on partners
pub linked-partner : {A : Type 0} (g : ℕ → A) (f : ℕ → ℕ) (n i : ℕ) → Respects g (linked f n i) → (d : ℕ)
    → g (partner i d) ≡ g d
linked-partner g f n i r d = ends_upto-partner g (λ x. x) i d (Respects-ends g (λ x. x) i (linked-edges g f n i r))

-- what respects the links has one value along the faces
pub linked-faces : {A : Type 0} (g : ℕ → A) (f : ℕ → ℕ) (e : ℕ) → Respects g (linked f (2 * e) e)
    → Respects g (graph (face_upto f e) (2 * e))
linked-faces g f e r = Respects-graph g (face_upto f e) (2 * e) (λ d lt.
    sym (linked-partner g f (2 * e) e r d)
    ∙ graph-respects g f (2 * e) (partner e d) (linked-graph g f (2 * e) e r) (partner-within e d lt)
    ∙ ap g (sym (face_upto-partner e f d)))

-- functions that agree link the same darts
pub linked_agree : (f g : ℕ → ℕ) (n i : ℕ) → ((x : ℕ) → x < n → f x ≡ g x) → linked f n i ≡ linked g n i
linked_agree f g n zero same = graph_agree f g n same
linked_agree f g n (suc i) same = ap (λ es. (2 * i, 2 * i + 1) ∷ es) (linked_agree f g n i same)

-- f with its values at a and b exchanged
abbrev pub exchanged : (ℕ → ℕ) → ℕ → ℕ → ℕ → ℕ
exchanged f a b x = f (exchange a b x)

-- functions that agree are flat together
pub IsFlat-agree : (e : ℕ) (f g : ℕ → ℕ) → Permutes (2 * e) f → ((x : ℕ) → x < 2 * e → f x ≡ g x) → IsFlat e f
    → IsFlat e g
IsFlat-agree e f g perm same flat =
    let one : parts e g ≡ parts e f = ap (classes (2 * e)) (sym (linked_agree f g (2 * e) e same)) in
    let two : orbits (2 * e) f ≡ orbits (2 * e) g = orbits_agree f g (2 * e) same in
    let three_exchanges : rounds e f ≡ rounds e g =
    orbits_agree (face_upto f e) (face_upto g e) (2 * e)
    (λ d lt. face_upto-partner e f d ∙ same (partner e d) (partner-within e d lt) ∙ sym (face_upto-partner e g d)) in
    omega (arith, one, two, three_exchanges, flat)

module _ (e : ℕ) (f : ℕ → ℕ) (perm : Permutes (2 * e) f) (a b : ℕ) (lta : a < 2 * e) (ltb : b < 2 * e) where
  -- f with the two values exchanged
  abbrev g : ℕ → ℕ
  g = exchanged f a b

  -- what links the darts of f
  abbrev links : List (ℕ × ℕ)
  links = linked f (2 * e) e

  -- what links the darts of g
  abbrev links_after : List (ℕ × ℕ)
  links_after = linked g (2 * e) e

  -- the faces are exchanged at the partners
  faces_after : rounds e g ≡ orbits (2 * e) (λ d. face_upto f e (exchange (partner e a) (partner e b) d))
  faces_after =
      orbits_agree (face_upto g e) (λ d. face_upto f e (exchange (partner e a) (partner e b) d)) (2 * e)
      (λ d lt. face_upto-merged e a b f d)

  -- the step round the faces is a permutation
  perm_faces : Permutes (2 * e) (face_upto f e)
  perm_faces = face_upto-Permutes (2 * e) e f perm (omega arith)

  -- what has one value at a and b, and on darts that g links, has one on darts that f links
  links-back : {A : Type 0} (h : ℕ → A) → h a ≡ h b → Respects h links_after → Respects h links
  links-back h same r = linked-from h f (2 * e) e
      (Respects-graph h f (2 * e) (λ x lt.
      exchange_case (λ y. h x ≡ h y) a b x (λ ea. ap h ea ∙ same) (λ na eb. ap h eb ∙ sym same) (λ na nb. refl)
      ∙ graph-respects h g (2 * e) (exchange a b x) (linked-graph h g (2 * e) e r)
      (exchange-below (2 * e) a b x lta ltb lt)
      ∙ ap (λ (y : ℕ). h (f y)) (exchange-exchange a b x)))
      (linked-edges h g (2 * e) e r)

  -- and the other way round
  links-on : {A : Type 0} (h : ℕ → A) → h a ≡ h b → Respects h links → Respects h links_after
  links-on h same r = linked-from h g (2 * e) e
      (Respects-graph h g (2 * e) (λ x lt.
      exchange_case (λ y. h x ≡ h y) a b x (λ ea. ap h ea ∙ same) (λ na eb. ap h eb ∙ sym same) (λ na nb. refl)
      ∙ graph-respects h f (2 * e) (exchange a b x) (linked-graph h f (2 * e) e r)
      (exchange-below (2 * e) a b x lta ltb lt)))
      (linked-edges h f (2 * e) e r)

  -- two darts of two components: two vertices, two faces and two components are joined
  pub joined_counts : labels links a ≢ labels links b
      → (parts e f ≡ suc (parts e g)) × (orbits (2 * e) f ≡ suc (orbits (2 * e) g)) × (rounds e f ≡ suc (rounds e g))
  joined_counts ne = (
    classes_joined (2 * e) (a, b) links lta ltb ne ∙ ap suc (classes_equal (2 * e) ((a, b) ∷ links) links_after
        (one, links-back (labels links_after) one (labels-respects links_after))
        (links-on (labels ((a, b) ∷ links)) (labels-respects ((a, b) ∷ links)).0 (labels-respects ((a, b) ∷ links)).1)),
    orbits_joined (2 * e) f a b perm lta ltb apart,
    orbits_joined (2 * e) (face_upto f e) (partner e a) (partner e b) perm_faces (partner-within e a lta)
        (partner-within e b ltb) (λ h. ne (
        sym (linked-partner (labels links) f (2 * e) e (labels-respects links) a)
        ∙ same_labels (labels links) (graph (face_upto f e) (2 * e)) (partner e a) (partner e b)
        (linked-faces (labels links) f e (labels-respects links)) h
        ∙ linked-partner (labels links) f (2 * e) e (labels-respects links) b))
        ∙ ap suc (sym faces_after),
  )
    where
      apart : labels (graph f (2 * e)) a ≢ labels (graph f (2 * e)) b
      apart h =
          ne (same_labels (labels links) (graph f (2 * e)) a b
          (linked-graph (labels links) f (2 * e) e (labels-respects links)) h)

      one : labels links_after a ≡ labels links_after b
      one = same_labels (labels links_after) (graph g (2 * e)) a b
          (linked-graph (labels links_after) g (2 * e) e (labels-respects links_after))
          (joined_labels (2 * e) f a b perm lta ltb apart)

  -- an exchange of the values at darts of two components keeps a map flat
  pub joined-IsFlat : labels links a ≢ labels links b → IsFlat e f → IsFlat e g
  joined-IsFlat ne flat = let c = joined_counts ne in omega (arith, c.0, c.1, c.2, flat)

module _ (e : ℕ) (f : ℕ → ℕ) (perm : Permutes (2 * e) f) (a b : ℕ) (lta : a < 2 * e) (ltb : b < 2 * e)
    (differ : a ≢ b) (same : labels (graph f (2 * e)) a ≡ labels (graph f (2 * e)) b) where
  -- f with the two values exchanged, which splits a vertex
  abbrev split : ℕ → ℕ
  split = exchanged f a b

  -- it is a permutation
  perm_split : Permutes (2 * e) split
  perm_split = Permutes-exchange (2 * e) f a b perm lta ltb

  -- one vertex more
  more : orbits (2 * e) split ≡ suc (orbits (2 * e) f)
  more = orbits_split (2 * e) f a b perm lta ltb differ same

  -- the exchange undone
  undone : (x : ℕ) → x < 2 * e → exchanged split a b x ≡ f x
  undone x lt = ap f (exchange-exchange a b x)

  -- an exchange of the values at two darts of one vertex keeps a map flat
  pub split-IsFlat : IsFlat e f → IsFlat e split
  split-IsFlat flat = ⊎_elim
      (λ one.
      let fewer : parts e split ≤ parts e f =
      classes_coarser (2 * e) (linked f (2 * e) e) (linked split (2 * e) e)
      (links-back e f perm a b lta ltb (labels (linked split (2 * e) e)) one
      (labels-respects (linked split (2 * e) e))) in
      let faces =
      orbits_exchanged-ge (2 * e) (face_upto f e) (partner e a) (partner e b) (perm_faces e f perm a b lta ltb)
      (partner-within e a lta) (partner-within e b ltb) in
      omega (arith, flat, more, fewer, faces, faces_after e f perm a b lta ltb))
      (λ two.
      let c = joined_counts e split perm_split a b lta ltb two in
      let p : parts e (exchanged split a b) ≡ parts e f =
      ap (classes (2 * e)) (linked_agree (exchanged split a b) f (2 * e) e undone) in
      let r : rounds e (exchanged split a b) ≡ rounds e f =
      orbits_agree (face_upto (exchanged split a b) e) (face_upto f e) (2 * e)
      (λ d lt. face_upto-partner e (exchanged split a b) d ∙ undone (partner e d) (partner-within e d lt)
      ∙ sym (face_upto-partner e f d)) in
      omega (arith, flat, more, c.0, c.2, p, r))
      (cases_eq (labels (linked split (2 * e) e) a) (labels (linked split (2 * e) e) b))
