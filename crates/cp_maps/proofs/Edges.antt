-- An edge put in or taken out, moved along another, and what that does to the genus.
use Rattle.std.proofs.Common.{◌≡◌, ℕ, ◌<◌, ◌≢◌, eqb, sym, refl, ap, ◌∙◌, subst, ⊎_elim, ◌+◌, ◌*◌, arith, ◌/◌}
use Rattle.std.proofs.lemmas.Bool.{cases_eq, eq-eqb, ne_eqb, false≢true}
use Rattle.cp_orbits.specs.Classes.{graph, labels, orbits}
use Rattle.cp_orbits.specs.Orbits.{Permutes, exchange}
use Rattle.cp_orbits.proofs.ClassLabels.{classes_equal, labels-respects, same_labels}
use Rattle.cp_orbits.proofs.OrbitLaws.{Respects-graph, exchange-exchange, exchange_case, exchange_left, exchange_other, exchange_right, graph_agree, label_step, orbits_agree}
use Rattle.cp_faces.specs.Faces.{face_upto, partner}
use Rattle.cp_faces.specs.Twins.{twin}
use Rattle.cp_faces.proofs.Faces.{face_upto-Permutes}
use Rattle.cp_faces.proofs.Merges.{face_upto-partner, face_upto-twin, partner-twin}
use Rattle.cp_faces.proofs.Twins.{half_twin, same_half, twin-below, twin-other}
use Rattle.cp_maps.specs.Genus.{RaisesGenus, SameGenus, linked, parts, rounds}
use Rattle.cp_maps.specs.Maps.{swapped}
use Rattle.cp_maps.proofs.FlatMaps.{linked-from, linked-graph, linked-partner}
use Rattle.cp_maps.proofs.Genus.{SameGenus-trans}
use Rattle.cp_maps.proofs.Swaps.{Permutes-swapped, face-OnePart, swapped-RaisesGenus, swapped-Respects, swapped-Respects_back, swapped-other_face, swapped-other_part, swapped_apart-OneFace_kept, swapped_apart-OnePart_kept, swapped_apart-SameGenus, swapped_apart-one_face, swapped_apart-one_part, swapped_one-orbits, swapped_one-two_orbits, swapped_two-one_orbit, swapped_two-orbit_kept, swapped_two-orbits, swapped_within_face-SameGenus, swapped_within_face-two_faces, vertex-OnePart}

-- a fixed number is of no other's orbit
pub fixed_alone : (n : ℕ) (f : ℕ → ℕ) (c d : ℕ) → Permutes n f → c < n → f c ≡ c → d ≢ c
    → labels (graph f n) c ≢ labels (graph f n) d
fixed_alone n f c d perm lt e ne h =
    false≢true (sym (ne_eqb d c ne)
    ∙ sym (same_labels (λ z. eqb z c) (graph f n) c d (Respects-graph (λ z. eqb z c) f n (λ z ltz.
    ⊎_elim
    (λ same. ap (λ w. eqb w c) (same ∙ sym e ∙ ap f (sym same)))
    (λ other. ne_eqb z c other ∙ sym (ne_eqb (f z) c (λ back. other (perm.apart z c ltz lt (back ∙ sym e)))))
    (cases_eq z c))) h) ∙ eq-eqb c c refl)

-- three exchanges round
three_exchanges : (a b c y : ℕ) → a ≢ b → b ≢ c → a ≢ c → exchange a c (exchange b c y) ≡ exchange a b (exchange a c y)
three_exchanges a b c y ab bc ac = exchange_case (λ z. exchange a c z ≡ exchange a b (exchange a c y)) b c y
    (λ e. exchange_right a c c refl
    ∙ sym (ap (exchange a b) (ap (exchange a c) e ∙ exchange_other a c b (λ h. ab (sym h)) bc)
    ∙ exchange_right a b b refl))
    (λ nb e. exchange_other a c b (λ h. ab (sym h)) bc
    ∙ sym (ap (exchange a b) (ap (exchange a c) e ∙ exchange_right a c c refl) ∙ exchange_left a b a refl))
    (λ nb nc. exchange_case (λ w. w ≡ exchange a b w) a c y
    (λ e. sym (exchange_other a b c (λ h. ac (sym h)) (λ h. bc (sym h))))
    (λ na e. absurd (nc e))
    (λ na nc'. sym (exchange_other a b y na nb)))

-- a map of e edges, and an edge
module _ (e : ℕ) (f : ℕ → ℕ) (perm : Permutes (2 * e) f) (x : ℕ) (ltx : x < 2 * e) where
  -- the twin of a dart is a dart
  pub lt_twin : twin x < 2 * e
  lt_twin = twin-below (2 * e) x (omega arith) ltx

  -- the two darts of an edge are of one component
  pub twin-OnePart : labels (linked f (2 * e) e) (twin x) ≡ labels (linked f (2 * e) e) x
  twin-OnePart = ap (labels (linked f (2 * e) e)) (sym (partner-twin e x ltx))
      ∙ linked-partner (labels (linked f (2 * e) e)) f (2 * e) e (labels-respects (linked f (2 * e) e)) x

  -- a dart is in the face of the dart behind its twin
  pub step-OneFace : labels (graph (face_upto f e) (2 * e)) x ≡ labels (graph (face_upto f e) (2 * e)) (f (twin x))
  step-OneFace = label_step (face_upto f e) (2 * e) x ltx
      ∙ ap (labels (graph (face_upto f e) (2 * e))) (face_upto-twin e f x ltx)

  -- a loose edge is a component
  module _ (loose : f x ≡ x) (loose_twin : f (twin x) ≡ twin x) where
    -- a dart of the edge is loose
    stays_half : (z : ℕ) → z / 2 ≡ x / 2 → f z ≡ z
    stays_half z s = ⊎_elim (λ h. ap f (sym h) ∙ loose ∙ h) (λ h. ap f h ∙ loose_twin ∙ sym h) (same_half x z (sym s))

    -- no other dart leads to it
    half_from : (z : ℕ) → z < 2 * e → f z / 2 ≡ x / 2 → z / 2 ≡ x / 2
    half_from z lt s = ⊎_elim
        (λ h. ap (λ (y : ℕ). y / 2) (perm.apart z x lt ltx (sym h ∙ sym loose)))
        (λ h. ap (λ (y : ℕ). y / 2) (perm.apart z (twin x) lt lt_twin (h ∙ sym loose_twin)) ∙ half_twin x)
        (same_half x (f z) (sym s))

    -- a loose edge is a component of its own: other darts are of other components
    pub loose_edge-two_parts : (d : ℕ) → d ≢ x → d ≢ twin x
        → labels (linked f (2 * e) e) x ≢ labels (linked f (2 * e) e) d
    loose_edge-two_parts d nx nt h = false≢true (
        sym (ne_eqb (d / 2) (x / 2) (λ s. ⊎_elim (λ k. nx (sym k)) nt (same_half x d (sym s))))
        ∙ sym (same_labels (λ z. eqb (z / 2) (x / 2)) (linked f (2 * e) e) x d
        (linked-from (λ z. eqb (z / 2) (x / 2)) f (2 * e) e
        (Respects-graph (λ z. eqb (z / 2) (x / 2)) f (2 * e) (λ z lt. ⊎_elim
        (λ s. ap (λ (w : ℕ). eqb (w / 2) (x / 2)) (sym (stays_half z s)))
        (λ ns. ne_eqb (z / 2) (x / 2) ns ∙ sym (ne_eqb (f z / 2) (x / 2) (λ s. ns (half_from z lt s))))
        (cases_eq (z / 2) (x / 2))))
        (λ k lt. let s : 2 * k / 2 ≡ (2 * k + 1) / 2 = omega arith in ap (λ (w : ℕ). eqb w (x / 2)) s)) h)
        ∙ eq-eqb (x / 2) (x / 2) refl
        )

    -- an edge hung in before a, whose other dart stays alone: the genus stays
    pub swapped_pendant-SameGenus : (a : ℕ) → a < 2 * e → a ≢ x → a ≢ twin x → SameGenus e f (swapped x a f)
    swapped_pendant-SameGenus a lta nx nt = swapped_apart-SameGenus e f perm x a ltx lta (loose_edge-two_parts a nx nt)

    -- an edge put in, its darts before a and b
    module _ (a b : ℕ) (lta : a < 2 * e) (ltb : b < 2 * e) (ax : a ≢ x) (at : a ≢ twin x) (bx : b ≢ x)
        (bt : b ≢ twin x) where
      -- with its first dart alone
      abbrev hung : ℕ → ℕ
      hung = swapped x a f

      -- with both
      abbrev put_in : ℕ → ℕ
      put_in = swapped (twin x) b (swapped x a f)

      -- a map with an edge hung in is a permutation
      pub perm_hung : Permutes (2 * e) hung
      perm_hung = Permutes-swapped (2 * e) f perm x a ltx lta

      -- a is of another component
      away : labels (linked f (2 * e) e) x ≢ labels (linked f (2 * e) e) a
      away = loose_edge-two_parts a ax at

      -- the second dart of an edge that is hung in stays loose
      pub still_loose : hung (twin x) ≡ twin x
      still_loose = ap (exchange x a) loose_twin ∙ exchange_other x a (twin x) (twin-other x) (λ h. at (sym h))

      -- the second dart is at no vertex of b
      alone : labels (graph hung (2 * e)) (twin x) ≢ labels (graph hung (2 * e)) b
      alone = fixed_alone (2 * e) hung (twin x) b perm_hung lt_twin still_loose bt

      -- its component is that of a
      second_part : labels (linked hung (2 * e) e) (twin x) ≡ labels (linked hung (2 * e) e) a
      second_part = ap (labels (linked hung (2 * e) e)) (sym (partner-twin e x ltx))
          ∙ linked-partner (labels (linked hung (2 * e) e)) hung (2 * e) e (labels-respects (linked hung (2 * e) e)) x
          ∙ swapped_apart-one_part e f perm x a ltx lta away

      -- its face is that of a
      second_face : labels (graph (face_upto hung e) (2 * e)) (twin x) ≡ labels (graph (face_upto hung e) (2 * e)) a
      second_face =
          sym (label_step (face_upto hung e) (2 * e) x ltx
          ∙ ap (labels (graph (face_upto hung e) (2 * e))) (face_upto-twin e hung x ltx ∙ still_loose))
          ∙ swapped_apart-one_face e f perm x a ltx lta away

      -- an edge put in between two darts of one face keeps the genus
      pub put_within-SameGenus : labels (graph (face_upto f e) (2 * e)) a ≡ labels (graph (face_upto f e) (2 * e)) b
          → SameGenus e f put_in
      put_within-SameGenus one = SameGenus-trans e f hung put_in (swapped_apart-SameGenus e f perm x a ltx lta away)
          (swapped_within_face-SameGenus e hung perm_hung (twin x) b lt_twin ltb alone
          (second_face ∙ swapped_apart-OneFace_kept e f perm x a ltx lta away a b one))

      -- the two darts of an edge put in within a face are in different faces
      pub put_within-two_faces : labels (graph (face_upto f e) (2 * e)) a ≡ labels (graph (face_upto f e) (2 * e)) b
          → labels (graph (face_upto put_in e) (2 * e)) x ≢ labels (graph (face_upto put_in e) (2 * e)) (twin x)
      put_within-two_faces one h =
          swapped_within_face-two_faces e hung perm_hung (twin x) b lt_twin ltb
          (second_face ∙ swapped_apart-OneFace_kept e f perm x a ltx lta away a b one) (λ k. bt (sym k))
          (sym h ∙ label_step (face_upto put_in e) (2 * e) x ltx
          ∙ ap (labels (graph (face_upto put_in e) (2 * e)))
          (face_upto-twin e put_in x ltx ∙ exchange_left (twin x) b (hung (twin x)) still_loose))

      -- an edge put in between two components keeps the genus
      pub put_between-SameGenus : labels (linked f (2 * e) e) a ≢ labels (linked f (2 * e) e) b → SameGenus e f put_in
      put_between-SameGenus two = SameGenus-trans e f hung put_in (swapped_apart-SameGenus e f perm x a ltx lta away)
          (swapped_apart-SameGenus e hung perm_hung (twin x) b lt_twin ltb
          (λ h. two (swapped-other_part e f perm x a ltx lta b a (loose_edge-two_parts b bx bt) two
          (sym second_part ∙ h))))

      -- the two darts of an edge put in between two components are in one face
      pub put_between-one_face : labels (linked f (2 * e) e) a ≢ labels (linked f (2 * e) e) b
          → labels (graph (face_upto put_in e) (2 * e)) x ≡ labels (graph (face_upto put_in e) (2 * e)) (twin x)
      put_between-one_face two =
          label_step (face_upto put_in e) (2 * e) x ltx
          ∙ ap (labels (graph (face_upto put_in e) (2 * e)))
          (face_upto-twin e put_in x ltx ∙ exchange_left (twin x) b (hung (twin x)) still_loose)
          ∙ sym (swapped_apart-one_face e hung perm_hung (twin x) b lt_twin ltb
          (λ h. two (swapped-other_part e f perm x a ltx lta b a (loose_edge-two_parts b bx bt) two
          (sym second_part ∙ h))))

      -- an edge put in between two faces of one component raises the genus
      pub put_edge-RaisesGenus : labels (linked f (2 * e) e) a ≡ labels (linked f (2 * e) e) b
          → labels (graph (face_upto f e) (2 * e)) a ≢ labels (graph (face_upto f e) (2 * e)) b → RaisesGenus e f put_in
      put_edge-RaisesGenus one two = omega (
        arith,
        swapped_apart-SameGenus e f perm x a ltx lta away,
        swapped-RaisesGenus e hung perm_hung (twin x) b lt_twin ltb
            (second_part ∙ swapped_apart-OnePart_kept e f perm x a ltx lta away a b one) alone
            (λ h. two (swapped-other_face e f perm x a ltx lta b a
            (λ k. loose_edge-two_parts b bx bt (face-OnePart e f perm x a ltx lta x b k)) two (sym second_face ∙ h))),
      )

  -- the darts behind the twin moved along the edge, to stand before x: the genus stays
  module _ (b : ℕ) (behind : f (twin x) ≡ b) (more : b ≢ twin x)
      (two : labels (graph f (2 * e)) x ≢ labels (graph f (2 * e)) (twin x)) where
    -- b is a dart
    lt_b : b < 2 * e
    lt_b = subst (λ y. y < 2 * e) behind (perm.below (twin x) lt_twin)

    -- of the vertex of the twin
    label_b : labels (graph f (2 * e)) (twin x) ≡ labels (graph f (2 * e)) b
    label_b = label_step f (2 * e) (twin x) lt_twin ∙ ap (labels (graph f (2 * e))) behind

    -- so it is not x
    other_b : x ≢ b
    other_b h = two (ap (labels (graph f (2 * e))) h ∙ sym label_b)

    -- with the twin alone
    abbrev freed : ℕ → ℕ
    freed = swapped (twin x) b f

    -- with the others moved
    abbrev slid : ℕ → ℕ
    slid = swapped x b (swapped (twin x) b f)

    -- it is a permutation
    perm_freed : Permutes (2 * e) freed
    perm_freed = Permutes-swapped (2 * e) f perm (twin x) b lt_twin lt_b

    -- the two are of different vertices when the twin is alone
    freed_two : labels (graph freed (2 * e)) (twin x) ≢ labels (graph freed (2 * e)) b
    freed_two = swapped_one-two_orbits (2 * e) f perm (twin x) b lt_twin lt_b (λ h. more (sym h)) label_b

    -- so are x and b
    freed_apart : labels (graph freed (2 * e)) x ≢ labels (graph freed (2 * e)) b
    freed_apart h =
        two (subst (λ es. labels es x ≡ labels es b)
        (graph_agree (swapped (twin x) b freed) f (2 * e) (λ d lt. exchange-exchange (twin x) b (f d)))
        (swapped_two-orbit_kept (2 * e) freed perm_freed (twin x) b lt_twin lt_b freed_two x b h) ∙ sym label_b)

    -- there are as many vertices
    slid_vertices : orbits (2 * e) f ≡ orbits (2 * e) slid
    slid_vertices =
        omega (
          arith,
          swapped_one-orbits (2 * e) f perm (twin x) b lt_twin lt_b
              (λ h. more (sym h)) label_b,
          swapped_two-orbits (2 * e) freed perm_freed x b ltx lt_b freed_apart,
        )

    -- the step round the faces
    abbrev round : ℕ → ℕ
    round = face_upto f e

    -- it is a permutation
    perm_round : Permutes (2 * e) round
    perm_round = face_upto-Permutes (2 * e) e f perm (omega arith)

    -- it leads from x to b
    round_x : round x ≡ b
    round_x = face_upto-twin e f x ltx ∙ behind

    -- without x
    abbrev round_without : ℕ → ℕ
    round_without = swapped x b round

    -- it is a permutation
    perm_without : Permutes (2 * e) round_without
    perm_without = Permutes-swapped (2 * e) round perm_round x b ltx lt_b

    -- x moves from one place of a face to another
    slid_round : (d : ℕ) → d < 2 * e → face_upto slid e d ≡ swapped x (twin x) round_without d
    slid_round d lt =
        face_upto-partner e slid d ∙ three_exchanges x (twin x) b (f (partner e d)) (λ h. twin-other x (sym h))
        (λ h. more (sym h)) other_b ∙ ap (λ (y : ℕ). exchange x (twin x) (exchange x b y))
        (sym (face_upto-partner e f d))

    -- there are as many faces
    slid_rounds : rounds e f ≡ rounds e slid
    slid_rounds = omega (
      arith,
      swapped_one-orbits (2 * e) round perm_round x b ltx lt_b other_b
          (label_step round (2 * e) x ltx ∙ ap (labels (graph round (2 * e))) round_x),
      swapped_two-orbits (2 * e) round_without perm_without x (twin x) ltx lt_twin
          (fixed_alone (2 * e) round_without x (twin x) perm_without ltx (exchange_right x b (round x) round_x)
          (twin-other x)),
      orbits_agree (face_upto slid e) (swapped x (twin x) round_without) (2 * e) slid_round,
    )

    -- the labels of the components
    abbrev old_part : ℕ → ℕ
    old_part = labels (linked f (2 * e) e)

    -- afterwards
    abbrev new_part : ℕ → ℕ
    new_part = labels (linked slid (2 * e) e)

    -- there are as many components
    slid_parts : parts e f ≡ parts e slid
    slid_parts =
        let near : old_part (twin x) ≡ old_part b =
        vertex-OnePart e f perm (twin x) b lt_twin lt_b (twin x) b label_b in
        let far : new_part x ≡ new_part b =
        same_labels new_part (graph slid (2 * e)) x b
        (linked-graph new_part slid (2 * e) e (labels-respects (linked slid (2 * e) e)))
        (swapped_two-one_orbit (2 * e) freed perm_freed x b ltx lt_b freed_apart) in
        let new_twin : new_part (twin x) ≡ new_part x = ap new_part (sym (partner-twin e x ltx))
        ∙ linked-partner new_part slid (2 * e) e (labels-respects (linked slid (2 * e) e)) x in
        classes_equal (2 * e) (linked f (2 * e) e) (linked slid (2 * e) e)
        (swapped-Respects_back e f perm (twin x) b lt_twin lt_b new_part (new_twin ∙ far)
        (swapped-Respects_back e freed perm_freed x b ltx lt_b new_part far (labels-respects (linked slid (2 * e) e))))
        (swapped-Respects e freed perm_freed x b ltx lt_b old_part (sym twin-OnePart ∙ near)
        (swapped-Respects e f perm (twin x) b lt_twin lt_b old_part near (labels-respects (linked f (2 * e) e))))

    -- the darts behind the twin of x moved along the edge, to stand before x, keep the genus
    pub slid-SameGenus : SameGenus e f slid
    slid-SameGenus = omega (arith, slid_vertices, slid_rounds, slid_parts)
