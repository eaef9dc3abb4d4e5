-- Two values of a map exchanged: what becomes of its vertices, faces and components, and so of its genus.
use Rattle.std.proofs.Common.{◌≡◌, ℕ, ◌<◌, ◌≢◌, eqb, ◌∷◌, sym, refl, ap, ◌∙◌, subst, suc, ◌*◌, Bool, arith}
use Rattle.std.proofs.lemmas.Bool.{eq-eqb, ne_eqb, eqb-true}
use Rattle.cp_orbits.specs.Classes.{Respects, graph, labels, orbits}
use Rattle.cp_orbits.specs.Orbits.{Permutes, exchange}
use Rattle.cp_orbits.proofs.ClassLabels.{Respects-map, classes_equal, classes_joined, labels-respects, same_labels}
use Rattle.cp_orbits.proofs.Exchanges.{joined_labels, orbits_joined, orbits_split, split_labels}
use Rattle.cp_orbits.proofs.OrbitLaws.{Permutes-after, Permutes-onto, Respects-graph, exchange-Permutes, exchange_case, exchange_left, exchange_other, exchange_right, graph-respects, graph_agree, label_step, orbits_agree}
use Rattle.cp_faces.specs.Faces.{face_upto}
use Rattle.cp_faces.proofs.Faces.{face_upto-Permutes}
use Rattle.cp_faces.proofs.Merges.{face_upto-partner}
use Rattle.cp_maps.specs.Genus.{RaisesGenus, SameGenus, linked, parts, rounds}
use Rattle.cp_maps.specs.Maps.{swapped}
use Rattle.cp_maps.proofs.FlatMaps.{linked-edges, linked-faces, linked-from, linked-graph}

-- two values of a permutation exchanged
module _ (n : ℕ) (f : ℕ → ℕ) (perm : Permutes n f) (a b : ℕ) (lta : a < n) (ltb : b < n) where
  -- the dart that leads to a
  pub before_a : (p : ℕ) × (p < n) × (f p ≡ a)
  before_a = Permutes-onto n f perm a lta

  -- the dart that leads to b
  pub before_b : (q : ℕ) × (q < n) × (f q ≡ b)
  before_b = Permutes-onto n f perm b ltb

  -- a permutation with two values exchanged is one
  pub Permutes-swapped : Permutes n (swapped a b f)
  Permutes-swapped = Permutes-after n (exchange a b) f (exchange-Permutes n a b lta ltb) perm

  -- the exchange of two values is one of the darts that lead to them, before the map
  pub swapped-before : (x : ℕ) → x < n → swapped a b f x ≡ f (exchange before_a.0 before_b.0 x)
  swapped-before x lt = exchange_case (λ y. exchange a b (f x) ≡ f y) before_a.0 before_b.0 x
      (λ e. exchange_left a b (f x) (ap f e ∙ before_a.2) ∙ sym before_b.2)
      (λ na e. exchange_right a b (f x) (ap f e ∙ before_b.2) ∙ sym before_a.2)
      (λ na nb. exchange_other a b (f x) (λ h. na (perm.apart x before_a.0 lt before_a.1 (h ∙ sym before_a.2)))
      (λ h. nb (perm.apart x before_b.0 lt before_b.1 (h ∙ sym before_b.2))))

  -- a has the label of the dart before it
  pub label_before_a : labels (graph f n) before_a.0 ≡ labels (graph f n) a
  label_before_a = label_step f n before_a.0 before_a.1 ∙ ap (labels (graph f n)) before_a.2

  -- b has the label of the dart before it
  pub label_before_b : labels (graph f n) before_b.0 ≡ labels (graph f n) b
  label_before_b = label_step f n before_b.0 before_b.1 ∙ ap (labels (graph f n)) before_b.2

  -- the graph afterwards
  graph_after : graph (swapped a b f) n ≡ graph (λ x. f (exchange before_a.0 before_b.0 x)) n
  graph_after = graph_agree (swapped a b f) (λ x. f (exchange before_a.0 before_b.0 x)) n swapped-before

  -- what a value leads to afterwards
  label_after_a : labels (graph (swapped a b f) n) before_a.0 ≡ labels (graph (swapped a b f) n) b
  label_after_a = label_step (swapped a b f) n before_a.0 before_a.1
      ∙ ap (labels (graph (swapped a b f) n)) (exchange_left a b (f before_a.0) before_a.2)

  -- and the other
  label_after_b : labels (graph (swapped a b f) n) before_b.0 ≡ labels (graph (swapped a b f) n) a
  label_after_b = label_step (swapped a b f) n before_b.0 before_b.1
      ∙ ap (labels (graph (swapped a b f) n)) (exchange_right a b (f before_b.0) before_b.2)

  -- an exchange of values of two orbits leaves a third apart
  pub swapped-other_orbit : (c d : ℕ) → labels (graph f n) a ≢ labels (graph f n) c
      → labels (graph f n) b ≢ labels (graph f n) c
      → labels (graph (swapped a b f) n) d ≡ labels (graph (swapped a b f) n) c
      → labels (graph f n) d ≡ labels (graph f n) c
  swapped-other_orbit c d na nb h = eqb-true (labels (graph f n) d) (labels (graph f n) c) (
      same_labels test (graph (swapped a b f) n) d c (Respects-graph test (swapped a b f) n (λ x lt.
      graph-respects test f n x (Respects-map (λ y. eqb y (labels (graph f n) c)) (labels (graph f n)) (graph f n)
      (labels-respects (graph f n))) lt
      ∙ exchange_case (λ y. test (f x) ≡ test y) a b (f x) (λ e. ap test e ∙ same) (λ _ e. ap test e ∙ sym same)
      (λ _ _. refl))) h
      ∙ eq-eqb (labels (graph f n) c) (labels (graph f n) c) refl
      )
    where
      test : ℕ → Bool
      test y = eqb (labels (graph f n) y) (labels (graph f n) c)

      same : test a ≡ test b
      same = ne_eqb (labels (graph f n) a) (labels (graph f n) c) na
          ∙ sym (ne_eqb (labels (graph f n) b) (labels (graph f n) c) nb)

  -- two orbits are joined
  module _ (ne : labels (graph f n) a ≢ labels (graph f n) b) where
    -- the darts before them are of two orbits
    ne_before : labels (graph f n) before_a.0 ≢ labels (graph f n) before_b.0
    ne_before h = ne (sym label_before_a ∙ h ∙ label_before_b)

    -- an exchange of values of two orbits makes one orbit less
    pub swapped_two-orbits : orbits n f ≡ suc (orbits n (swapped a b f))
    swapped_two-orbits = orbits_joined n f before_a.0 before_b.0 perm before_a.1 before_b.1 ne_before
        ∙ ap suc (sym (orbits_agree (swapped a b f) (λ x. f (exchange before_a.0 before_b.0 x)) n swapped-before))

    -- an exchange of values of two orbits makes them one
    pub swapped_two-one_orbit : labels (graph (swapped a b f) n) a ≡ labels (graph (swapped a b f) n) b
    swapped_two-one_orbit = sym label_after_b
        ∙ sym (subst (λ es. labels es before_a.0 ≡ labels es before_b.0) (sym graph_after)
        (joined_labels n f before_a.0 before_b.0 perm before_a.1 before_b.1 ne_before))
        ∙ label_after_a

    -- an exchange of values of two orbits keeps together what was of one
    pub swapped_two-orbit_kept : (x y : ℕ) → labels (graph f n) x ≡ labels (graph f n) y
        → labels (graph (swapped a b f) n) x ≡ labels (graph (swapped a b f) n) y
    swapped_two-orbit_kept x y e =
        same_labels (labels (graph (swapped a b f) n)) (graph f n) x y
        (Respects-graph (labels (graph (swapped a b f) n)) f n (λ z lt.
        label_step (swapped a b f) n z lt
        ∙ exchange_case (λ w. labels (graph (swapped a b f) n) w ≡ labels (graph (swapped a b f) n) (f z)) a b (f z)
        (λ h. sym swapped_two-one_orbit ∙ ap (labels (graph (swapped a b f) n)) (sym h))
        (λ na h. swapped_two-one_orbit ∙ ap (labels (graph (swapped a b f) n)) (sym h))
        (λ na nb. refl))) e

  -- an orbit is split
  module _ (differ : a ≢ b) (one : labels (graph f n) a ≡ labels (graph f n) b) where
    -- the darts before them differ
    differ_before : before_a.0 ≢ before_b.0
    differ_before h = differ (sym before_a.2 ∙ ap f h ∙ before_b.2)

    -- an exchange of two values of one orbit makes one orbit more
    pub swapped_one-orbits : orbits n (swapped a b f) ≡ suc (orbits n f)
    swapped_one-orbits = orbits_agree (swapped a b f) (λ x. f (exchange before_a.0 before_b.0 x)) n swapped-before
        ∙ orbits_split n f before_a.0 before_b.0 perm before_a.1 before_b.1 differ_before
        (label_before_a ∙ one ∙ sym label_before_b)

    -- an exchange of two values of one orbit brings them into two
    pub swapped_one-two_orbits : labels (graph (swapped a b f) n) a ≢ labels (graph (swapped a b f) n) b
    swapped_one-two_orbits h =
        split_labels n f before_a.0 before_b.0 perm before_a.1 before_b.1 differ_before
        (label_before_a ∙ one ∙ sym label_before_b)
        (subst (λ es. labels es before_a.0 ≡ labels es before_b.0) graph_after
        (label_after_a ∙ sym h ∙ sym label_after_b))

  -- what has one value at a and b has one along f where it has along the other
  swap-respects : {A : Type 0} (h : ℕ → A) → h a ≡ h b → Respects h (graph f n) → Respects h (graph (swapped a b f) n)
  swap-respects h same r = Respects-graph h (swapped a b f) n (λ x lt. graph-respects h f n x r lt
      ∙ exchange_case (λ y. h (f x) ≡ h y) a b (f x) (λ e. ap h e ∙ same) (λ na e. ap h e ∙ sym same) (λ na nb. refl))

  -- and the other way round
  swap-respects_back : {A : Type 0} (h : ℕ → A) → h a ≡ h b → Respects h (graph (swapped a b f) n)
      → Respects h (graph f n)
  swap-respects_back h same r = Respects-graph h f n (λ x lt. graph-respects h (swapped a b f) n x r lt
      ∙ sym (exchange_case (λ y. h (f x) ≡ h y) a b (f x) (λ e. ap h e ∙ same) (λ na e. ap h e ∙ sym same)
      (λ na nb. refl)))

-- two values of a map exchanged
module _ (e : ℕ) (f : ℕ → ℕ) (perm : Permutes (2 * e) f) (a b : ℕ) (lta : a < 2 * e) (ltb : b < 2 * e) where
  -- the map afterwards
  abbrev g : ℕ → ℕ
  g = swapped a b f

  -- the labels of the components
  abbrev part : ℕ → ℕ
  part = labels (linked f (2 * e) e)

  -- afterwards
  abbrev part_after : ℕ → ℕ
  part_after = labels (linked g (2 * e) e)

  -- the labels of the vertices
  abbrev vertex : ℕ → ℕ
  vertex = labels (graph f (2 * e))

  -- the labels of the faces
  abbrev face : ℕ → ℕ
  face = labels (graph (face_upto f e) (2 * e))

  -- the step round the faces is a permutation
  perm_faces : Permutes (2 * e) (face_upto f e)
  perm_faces = face_upto-Permutes (2 * e) e f perm (omega arith)

  -- the two values are exchanged in the step round the faces, too
  faces_after : (d : ℕ) → d < 2 * e → face_upto g e d ≡ swapped a b (face_upto f e) d
  faces_after d lt = face_upto-partner e g d ∙ ap (exchange a b) (sym (face_upto-partner e f d))

  -- so many faces there are
  rounds_after : rounds e g ≡ orbits (2 * e) (swapped a b (face_upto f e))
  rounds_after = orbits_agree (face_upto g e) (swapped a b (face_upto f e)) (2 * e) faces_after

  -- and these are they
  face_graph_after : graph (face_upto g e) (2 * e) ≡ graph (swapped a b (face_upto f e)) (2 * e)
  face_graph_after = graph_agree (face_upto g e) (swapped a b (face_upto f e)) (2 * e) faces_after

  -- what has one value at a and b, and respects the links, respects those after the exchange
  pub swapped-Respects : {A : Type 0} (h : ℕ → A) → h a ≡ h b → Respects h (linked f (2 * e) e)
      → Respects h (linked g (2 * e) e)
  swapped-Respects h same r =
      linked-from h g (2 * e) e (swap-respects (2 * e) f perm a b lta ltb h same (linked-graph h f (2 * e) e r))
      (linked-edges h f (2 * e) e r)

  -- what has one value at a and b, and respects the links after the exchange, respects those before
  pub swapped-Respects_back : {A : Type 0} (h : ℕ → A) → h a ≡ h b → Respects h (linked g (2 * e) e)
      → Respects h (linked f (2 * e) e)
  swapped-Respects_back h same r =
      linked-from h f (2 * e) e (swap-respects_back (2 * e) f perm a b lta ltb h same (linked-graph h g (2 * e) e r))
      (linked-edges h g (2 * e) e r)

  -- two darts of one vertex are of one component
  pub vertex-OnePart : (x y : ℕ) → vertex x ≡ vertex y → part x ≡ part y
  vertex-OnePart x y h =
      same_labels part (graph f (2 * e)) x y (linked-graph part f (2 * e) e (labels-respects (linked f (2 * e) e))) h

  -- two darts of one face are of one component
  pub face-OnePart : (x y : ℕ) → face x ≡ face y → part x ≡ part y
  face-OnePart x y h =
      same_labels part (graph (face_upto f e) (2 * e)) x y
      (linked-faces part f e (labels-respects (linked f (2 * e) e))) h

  -- where the two are of one component before and after there are as many
  parts_same : part a ≡ part b → part_after a ≡ part_after b → parts e f ≡ parts e g
  parts_same one two = classes_equal (2 * e) (linked f (2 * e) e) (linked g (2 * e) e)
      (swapped-Respects_back part_after two (labels-respects (linked g (2 * e) e)))
      (swapped-Respects part one (labels-respects (linked f (2 * e) e)))

  -- two components: two vertices, two faces and two components are joined
  module _ (ne : part a ≢ part b) where
    -- they are of two vertices
    two_vertices : vertex a ≢ vertex b
    two_vertices h = ne (vertex-OnePart a b h)

    -- an exchange between two components makes them one
    pub swapped_apart-one_part : part_after a ≡ part_after b
    swapped_apart-one_part =
        same_labels part_after (graph g (2 * e)) a b
        (linked-graph part_after g (2 * e) e (labels-respects (linked g (2 * e) e)))
        (swapped_two-one_orbit (2 * e) f perm a b lta ltb two_vertices)

    -- an exchange between two components makes one component less
    pub swapped_apart-parts : parts e f ≡ suc (parts e g)
    swapped_apart-parts = classes_joined (2 * e) (a, b) (linked f (2 * e) e) lta ltb ne
        ∙ ap suc (classes_equal (2 * e) ((a, b) ∷ linked f (2 * e) e) (linked g (2 * e) e) (
          swapped_apart-one_part,
          swapped-Respects_back part_after swapped_apart-one_part
              (labels-respects (linked g (2 * e) e)),
        )
        (swapped-Respects (labels ((a, b) ∷ linked f (2 * e) e)) (labels-respects ((a, b) ∷ linked f (2 * e) e)).0
        (labels-respects ((a, b) ∷ linked f (2 * e) e)).1))

    -- an exchange between two components keeps the genus
    pub swapped_apart-SameGenus : SameGenus e f g
    swapped_apart-SameGenus =
        omega (
          arith,
          swapped_apart-parts,
          swapped_two-orbits
              (2 * e) f perm a b lta ltb two_vertices,
          rounds_after,
          swapped_two-orbits (2 * e)
              (face_upto f e) perm_faces a b lta ltb (λ h. ne (face-OnePart a b h)),
        )

    -- an exchange between two components keeps together what was of one component
    pub swapped_apart-OnePart_kept : (x y : ℕ) → part x ≡ part y → part_after x ≡ part_after y
    swapped_apart-OnePart_kept x y h =
        same_labels part_after (linked f (2 * e) e) x y
        (swapped-Respects_back part_after swapped_apart-one_part (labels-respects (linked g (2 * e) e))) h

    -- an exchange between two components makes the two faces one
    pub swapped_apart-one_face : labels (graph (face_upto g e) (2 * e)) a ≡ labels (graph (face_upto g e) (2 * e)) b
    swapped_apart-one_face =
        subst (λ es. labels es a ≡ labels es b) (sym face_graph_after)
        (swapped_two-one_orbit (2 * e) (face_upto f e) perm_faces a b lta ltb (λ h. ne (face-OnePart a b h)))

    -- an exchange between two components keeps together what was in one face
    pub swapped_apart-OneFace_kept : (x y : ℕ) → face x ≡ face y
        → labels (graph (face_upto g e) (2 * e)) x ≡ labels (graph (face_upto g e) (2 * e)) y
    swapped_apart-OneFace_kept x y h =
        subst (λ es. labels es x ≡ labels es y) (sym face_graph_after)
        (swapped_two-orbit_kept (2 * e) (face_upto f e) perm_faces a b lta ltb (λ h. ne (face-OnePart a b h)) x y h)

  -- an exchange leaves a third component apart
  pub swapped-other_part : (c d : ℕ) → part a ≢ part c → part b ≢ part c → part_after d ≡ part_after c → part d ≡ part c
  swapped-other_part c d na nb h = eqb-true (part d) (part c) (
      same_labels test (linked g (2 * e) e) d c
      (swapped-Respects test (ne_eqb (part a) (part c) na ∙ sym (ne_eqb (part b) (part c) nb))
      (Respects-map (λ y. eqb y (part c)) part (linked f (2 * e) e) (labels-respects (linked f (2 * e) e)))) h
      ∙ eq-eqb (part c) (part c) refl
      )
    where
      test : ℕ → Bool
      test y = eqb (part y) (part c)

  -- an exchange leaves a third face apart
  pub swapped-other_face : (c d : ℕ) → face a ≢ face c → face b ≢ face c
      → labels (graph (face_upto g e) (2 * e)) d ≡ labels (graph (face_upto g e) (2 * e)) c → face d ≡ face c
  swapped-other_face c d na nb h =
      swapped-other_orbit (2 * e) (face_upto f e) perm_faces a b lta ltb c d na nb
      (subst (λ es. labels es d ≡ labels es c) face_graph_after h)

  -- two vertices within a face: they are one afterwards, and the face is split
  pub swapped_within_face-SameGenus : vertex a ≢ vertex b → face a ≡ face b → SameGenus e f g
  swapped_within_face-SameGenus ne one =
      let after : part_after a ≡ part_after b =
      same_labels part_after (graph g (2 * e)) a b
      (linked-graph part_after g (2 * e) e (labels-respects (linked g (2 * e) e)))
      (swapped_two-one_orbit (2 * e) f perm a b lta ltb ne) in
      omega (
        arith,
        parts_same (face-OnePart a b one) after,
        swapped_two-orbits
            (2 * e) f perm a b lta ltb ne,
        rounds_after,
        swapped_one-orbits (2 * e) (face_upto f e) perm_faces a b lta ltb
            (λ h. ne (ap vertex h)) one,
      )

  -- an exchange of two darts of a face brings them into different faces
  pub swapped_within_face-two_faces : face a ≡ face b → a ≢ b
      → labels (graph (face_upto g e) (2 * e)) a ≢ labels (graph (face_upto g e) (2 * e)) b
  swapped_within_face-two_faces one differ h =
      swapped_one-two_orbits (2 * e) (face_upto f e) perm_faces a b lta ltb differ one
      (subst (λ es. labels es a ≡ labels es b) face_graph_after h)

  -- two faces at a vertex: they are one afterwards, and the vertex is split
  pub swapped_at_vertex-SameGenus : vertex a ≡ vertex b → face a ≢ face b → SameGenus e f g
  swapped_at_vertex-SameGenus one ne =
      let after_face : labels (graph (face_upto g e) (2 * e)) a ≡ labels (graph (face_upto g e) (2 * e)) b =
      subst (λ es. labels es a ≡ labels es b) (sym face_graph_after)
      (swapped_two-one_orbit (2 * e) (face_upto f e) perm_faces a b lta ltb ne) in
      let after : part_after a ≡ part_after b =
      same_labels part_after (graph (face_upto g e) (2 * e)) a b
      (linked-faces part_after g e (labels-respects (linked g (2 * e) e))) after_face in
      omega (
        arith,
        parts_same (vertex-OnePart a b one) after,
        swapped_one-orbits (2 * e) f perm a b lta ltb
            (λ h. ne (ap face h)) one,
        rounds_after,
        swapped_two-orbits (2 * e) (face_upto f e) perm_faces a b lta ltb ne,
      )

  -- two vertices and two faces of one component: the genus grows
  pub swapped-RaisesGenus : part a ≡ part b → vertex a ≢ vertex b → face a ≢ face b → RaisesGenus e f g
  swapped-RaisesGenus one nv nf =
      let after : part_after a ≡ part_after b =
      same_labels part_after (graph g (2 * e)) a b
      (linked-graph part_after g (2 * e) e (labels-respects (linked g (2 * e) e)))
      (swapped_two-one_orbit (2 * e) f perm a b lta ltb nv) in
      omega (
        arith,
        parts_same one after,
        swapped_two-orbits
            (2 * e) f perm a b lta ltb nv,
        rounds_after,
        swapped_two-orbits (2 * e) (face_upto f e) perm_faces a b lta ltb nf,
      )
