-- The darts of two systems that are glued: each dart of the result has one origin, and the result is a rotation.
use Rattle.std.proofs.Common.{◌≡◌, ℕ, ◌+◌, ◌-◌, ◌*◌, ◌/◌, ◌%◌, ◌<◌, ◌≤◌, ◌≢◌, ◌⊎◌, true, false, ◌&&◌, eqb, ltb, List, [], length, map, slice_index, sym, ap, ap₂, ◌∙◌, subst, inl, inr, ⊎_elim, arith}
use Rattle.std.proofs.lemmas.Bool.{cases_eq, cases_Bool, cases_lt, eq-eqb, ne_eqb, cond-true, cond-false, lt-ltb, le-ltb, false≢true}
use Rattle.cp_lists.specs.Count.{count}
use Rattle.cp_lists.specs.CyclicLists.{Has, Distinct}
use Rattle.cp_faces.specs.Faces.{on_edges}
use Rattle.cp_rot.specs.Systems.{System, darts, edges, vertex_of, list_of, IsRotation}
use Rattle.cp_faces.specs.Twins.{twin}
use Rattle.cp_rot.specs.Tables.{system_of}
use Rattle.cp_rot.specs.Rewrites.{values}
use Rattle.cp_faces.proofs.Twins.{twin-twin, twin-below, twin_even, twin_odd}
use Rattle.cp_rot.proofs.ListEdits.{length-values, values_at}
use Rattle.cp_rot.proofs.ListSystems.{Listed, Listed-system, Listed-exact}
use Rattle.cp_rotlaw.specs.Systems.{is_other, HasNoLoopAt}
use Rattle.cp_rotlaw.specs.Glue.{ArePartners, partner_of_first, partner_of_second, edge_avoids, first_vertex, second_vertex, second_dart, IsGlued}
use Rattle.cp_rotlaw.specs.GlueTables.{old_vertex, glued_list, AreNumbers, AreVertices}
use Rattle.cp_rotlaw.proofs.GluedNumbers.{is_other_yes, is_other_no, count_other-below, old_vertex-count, count-old_vertex, old_vertex-other, old_vertex-below}
use Rattle.cp_rotlaw.proofs.GluedPairs.{partner_first, partner_second, passing, passing-is, count_before, count_before-apart}
use Rattle.cp_lists.proofs.MappedLists.{Has-map_on, map_on-Has, Distinct-map_on, map_agree_on}

-- an edge that has no dart at w
avoids_both : (b : System) (w e : ℕ) → vertex_of b (2 * e) ≢ w → vertex_of b (2 * e + 1) ≢ w → edge_avoids b w e ≡ true
avoids_both b w e first second = ap₂ (λ x y. x && y) (is_other_yes w (vertex_of b (2 * e)) first) (is_other_yes w (vertex_of b (2 * e + 1)) second)

-- an edge with its first dart at w
meets_first : (b : System) (w e : ℕ) → vertex_of b (2 * e) ≡ w → edge_avoids b w e ≡ false
meets_first b w e at = ap (λ x. x && is_other w (vertex_of b (2 * e + 1))) (is_other_no w (vertex_of b (2 * e)) at)

-- an edge with its second dart at w
meets_second : (b : System) (w e : ℕ) → vertex_of b (2 * e + 1) ≡ w → edge_avoids b w e ≡ false
meets_second b w e at = ⊎_elim
    (λ t. ap₂ (λ x y. x && y) t (is_other_no w (vertex_of b (2 * e + 1)) at))
    (λ f. ap (λ x. x && is_other w (vertex_of b (2 * e + 1))) f)
    (cases_Bool (is_other w (vertex_of b (2 * e))))

module _ (a b : System) (is_a : IsRotation a) (is_b : IsRotation b) (u w : ℕ) (pairs : List (ℕ × ℕ))
    (partners : ArePartners a u b w pairs) where
  -- the number of a dart of b
  abbrev pub number : ℕ → ℕ
  number = second_dart a b w pairs

  -- how many edges of b are in front of an edge and do not end at w
  abbrev rank : ℕ → ℕ
  rank e = count e (edge_avoids b w)

  -- how many do not
  abbrev pub kept : ℕ
  kept = count (edges b) (edge_avoids b w)

  -- a dart whose twin stands at w
  pub number_joined : (d : ℕ) → vertex_of b (twin d) ≡ w → number d ≡ partner_of_second pairs (twin d)
  number_joined d e = cond-true (eqb (vertex_of b (twin d)) w) (partner_of_second pairs (twin d)) (2 * edges a + on_edges rank d) (eq-eqb (vertex_of b (twin d)) w e)

  -- a dart whose twin does not
  pub number_kept : (d : ℕ) → vertex_of b (twin d) ≢ w → number d ≡ 2 * edges a + on_edges rank d
  number_kept d ne = cond-false (eqb (vertex_of b (twin d)) w) (partner_of_second pairs (twin d)) (2 * edges a + on_edges rank d) (ne_eqb (vertex_of b (twin d)) w ne)

  -- twins of b are darts
  twin_b : (d : ℕ) → d < darts b → twin d < darts b
  twin_b d lt = twin-below (darts b) d is_b.paired lt

  -- an edge of which no dart stands at w
  pub avoids_dart : (d : ℕ) → vertex_of b d ≢ w → vertex_of b (twin d) ≢ w → edge_avoids b w (d / 2) ≡ true
  avoids_dart d nd nt = ⊎_elim
      (λ e.
      let first : 2 * (d / 2) ≡ d = omega arith in
      let second : 2 * (d / 2) + 1 ≡ twin d = omega (arith, twin_even d e) in
      avoids_both b w (d / 2) (λ h. nd (ap (vertex_of b) (sym first) ∙ h)) (λ h. nt (ap (vertex_of b) (sym second) ∙ h)))
      (λ ne.
      let first : 2 * (d / 2) ≡ twin d = omega (arith, twin_odd d ne) in
      let second : 2 * (d / 2) + 1 ≡ d = omega arith in
      avoids_both b w (d / 2) (λ h. nt (ap (vertex_of b) (sym first) ∙ h)) (λ h. nd (ap (vertex_of b) (sym second) ∙ h)))
      (cases_eq (d % 2) 0)

  -- a joined dart has the number of a dart at u
  pub joined_at : (d : ℕ) → d < darts b → vertex_of b (twin d) ≡ w
      → (number d < darts a) × (vertex_of a (number d) ≡ u) × (partner_of_first pairs (number d) ≡ twin d)
  joined_at d lt e = subst (λ x. (x < darts a) × (vertex_of a x ≡ u) × (partner_of_first pairs x ≡ twin d)) (sym (number_joined d e)) (partner_second a b u w pairs partners (twin d) (twin_b d lt) e)

  -- a kept dart has a number behind the darts of a
  pub kept_at : (d : ℕ) → d < darts b → vertex_of b d ≢ w → vertex_of b (twin d) ≢ w
      → (darts a ≤ number d) × (number d < darts a + 2 * kept)
  kept_at d lt nd nt =
      let here = number_kept d nt in
      (omega (arith, here, is_a.paired), omega (arith, here, is_a.paired, is_b.paired, count_before (edge_avoids b w) (d / 2) (edges b) (omega (arith, is_b.paired)) (avoids_dart d nd nt)))

  -- the numbers are darts of the result
  pub number-below : (d : ℕ) → d < darts b → vertex_of b d ≢ w → number d < darts a + 2 * kept
  number-below d lt nd = ⊎_elim (λ e. omega (arith, (joined_at d lt e).0)) (λ nt. (kept_at d lt nd nt).1) (cases_eq (vertex_of b (twin d)) w)

  -- no two darts have one number
  pub number-apart : (d f : ℕ) → d < darts b → f < darts b → vertex_of b d ≢ w → vertex_of b f ≢ w → number d ≡ number f
      → d ≡ f
  number-apart d f ltd ltf nd nf e = ⊎_elim
      (λ jd. ⊎_elim
      (λ jf. sym (twin-twin d) ∙ ap twin (sym (joined_at d ltd jd).2 ∙ ap (partner_of_first pairs) e ∙ (joined_at f ltf jf).2) ∙ twin-twin f)
      (λ kf. absurd (omega (arith, (joined_at d ltd jd).0, (kept_at f ltf nf kf).0, e)))
      (cases_eq (vertex_of b (twin f)) w))
      (λ kd. ⊎_elim
      (λ jf. absurd (omega (arith, (joined_at f ltf jf).0, (kept_at d ltd nd kd).0, e)))
      (λ kf.
      let hd = number_kept d kd in
      let hf = number_kept f kf in
      let half : d / 2 ≡ f / 2 = count_before-apart (edge_avoids b w) (d / 2) (f / 2) (avoids_dart d nd kd) (avoids_dart f nf kf) (omega (arith, hd, hf, e)) in
      omega (arith, hd, hf, e, half))
      (cases_eq (vertex_of b (twin f)) w))
      (cases_eq (vertex_of b (twin d)) w)

  -- a dart of a that is no number of a dart of b where it does not stand at u
  pub number-other : (d x : ℕ) → d < darts b → vertex_of b d ≢ w → x < darts a → vertex_of a x ≢ u → number d ≢ x
  number-other d x lt nd ltx ne e = ⊎_elim
      (λ j. ne (ap (vertex_of a) (sym e) ∙ (joined_at d lt j).1))
      (λ k. omega (arith, (kept_at d lt nd k).0, e))
      (cases_eq (vertex_of b (twin d)) w)

  -- each dart of the result is one of a, or has the number of one of b
  pub origin : HasNoLoopAt b w → (x : ℕ) → x < darts a + 2 * kept
      → ((x < darts a) × (vertex_of a x ≢ u)) ⊎ ((d : ℕ) × (d < darts b) × (vertex_of b d ≢ w) × (number d ≡ x))
  origin no_loop x lt = ⊎_elim
      (λ low. ⊎_elim
      (λ at.
      let p = partner_first a b u w pairs partners x low at in
      let y = partner_of_first pairs x in
      let back : vertex_of b (twin (twin y)) ≡ w = ap (vertex_of b) (twin-twin y) ∙ p.1 in
      inr (twin y, twin_b y p.0, no_loop y p.0 p.1, number_joined (twin y) back ∙ ap (partner_of_second pairs) (twin-twin y) ∙ p.2))
      (λ ne. inl (low, ne))
      (cases_eq (vertex_of a x) u))
      (λ high.
      let k : ℕ = (x - darts a) / 2 in
      let s = passing-is (edges b) (edge_avoids b w) k (omega arith) in
      let e : ℕ = passing (edges b) (edge_avoids b w) k in
      let first : vertex_of b (2 * e) ≢ w = λ h. false≢true (sym (meets_first b w e h) ∙ s.1) in
      let second : vertex_of b (2 * e + 1) ≢ w = λ h. false≢true (sym (meets_second b w e h) ∙ s.1) in
      let twin_one : twin (2 * e) ≡ 2 * e + 1 = twin_even (2 * e) (omega arith) in
      let twin_two : twin (2 * e + 1) ≡ 2 * e = twin_odd (2 * e + 1) (λ h. omega arith) ∙ omega arith in
      inr (⊎_elim
      (λ even. (
        2 * e,
        omega (arith, s.0, is_b.paired),
        first,
        number_kept (2 * e) (λ h. second (ap (vertex_of b) (sym twin_one) ∙ h)) ∙ (let half : 2 * e / 2 ≡ e = omega arith in let bit : 2 * e % 2 ≡ 0 = omega arith in ap₂ (λ (i j : ℕ). 2 * edges a + (2 * count i (edge_avoids b w) + j)) half bit ∙ omega (arith, s.2, is_a.paired, even)),
      ))
      (λ odd. (
        2 * e + 1,
        omega (arith, s.0, is_b.paired),
        second,
        number_kept (2 * e + 1) (λ h. first (ap (vertex_of b) (sym twin_two) ∙ h)) ∙ (let half : (2 * e + 1) / 2 ≡ e = omega arith in let bit : (2 * e + 1) % 2 ≡ 1 = omega arith in ap₂ (λ (i j : ℕ). 2 * edges a + (2 * count i (edge_avoids b w) + j)) half bit ∙ omega (arith, s.2, is_a.paired, odd)),
      ))
      (cases_eq ((x - darts a) % 2) 0)))
      (cases_lt x (darts a))

  -- the result
  module _ (ltu : u < a.vertices) (ltw : w < b.vertices) (no_loop : HasNoLoopAt b w) (s : System)
      (glued : IsGlued a u b w pairs s) (even : darts s ≡ 2 * edges s) (lists : length s.lists ≡ s.vertices) where
    -- how many darts it has
    pub size : darts s ≡ darts a + 2 * kept
    size = omega (arith, even, glued.size, is_a.paired)

    -- the darts and lists of a and b
    first : Listed a.vertices (darts a) (vertex_of a) (list_of a)
    first = Listed-system a is_a

    -- of b
    second : Listed b.vertices (darts b) (vertex_of b) (list_of b)
    second = Listed-system b is_b

    -- a vertex of a but u stands in front of those of b
    first-below : (v : ℕ) → v < a.vertices → v ≢ u → first_vertex u v < a.vertices - 1
    first-below v lt ne = count_other-below a.vertices u v ltu lt ne

    -- a vertex of b but w
    second-below : (v : ℕ) → v < b.vertices → v ≢ w → second_vertex a w v < s.vertices
    second-below v lt ne = omega (arith, glued.vertices, count_other-below b.vertices w v ltw lt ne, ltu)

    -- the darts of a that stay stand in their lists
    own_first : (d : ℕ) → d < darts a → vertex_of a d ≢ u
        → (vertex_of s d < s.vertices) × (list_of s (vertex_of s d) ≡ list_of a (vertex_of a d))
    own_first d lt ne =
        let at = glued.first_stand d lt ne in
        (omega (arith, at, glued.vertices, first-below (vertex_of a d) (first.placed d lt) ne, ltw), ap (list_of s) at ∙ glued.first_lists (vertex_of a d) (first.placed d lt) ne)

    -- and those of b
    own_second : (d : ℕ) → d < darts b → vertex_of b d ≢ w
        → (vertex_of s (number d) < s.vertices) × (list_of s (vertex_of s (number d))
        ≡ map number (list_of b (vertex_of b d)))
    own_second d lt ne =
        let at = glued.second_stand d lt ne in
        (omega (arith, at, second-below (vertex_of b d) (second.placed d lt) ne), ap (list_of s) at ∙ glued.second_lists (vertex_of b d) (second.placed d lt) ne)

    -- an item of a list of b but that of w is a dart there
    item_b : (v d : ℕ) → v < b.vertices → v ≢ w → Has d (list_of b v) → (d < darts b) × (vertex_of b d ≢ w)
    item_b v d lt ne h = let i = second.item v d lt h in (i.0, λ e. ne (sym i.1 ∙ e))

    -- the numbers of a list of b are different
    apart_b : (v : ℕ) → v < b.vertices → v ≢ w → (x y : ℕ) → Has x (list_of b v) → Has y (list_of b v)
        → number x ≡ number y → x ≡ y
    apart_b v lt ne x y hx hy e = let ix = item_b v x lt ne hx in let iy = item_b v y lt ne hy in number-apart x y ix.0 iy.0 ix.1 iy.1 e

    -- each list of the result is one of a or one of b
    each_list : (P : ℕ → List ℕ → Type 0) → ((v : ℕ) → v < a.vertices → v ≢ u → P (first_vertex u v) (list_of a v))
        → ((v : ℕ) → v < b.vertices → v ≢ w → P (second_vertex a w v) (map number (list_of b v))) → (x : ℕ)
        → x < s.vertices → P x (list_of s x)
    each_list P one two x lt = ⊎_elim
        (λ low.
        let v : ℕ = old_vertex u x in
        let ltv : v < a.vertices = old_vertex-below a.vertices u x ltu low in
        let back : first_vertex u v ≡ x = count-old_vertex u x in
        subst (λ y. P y (list_of s y)) back (subst (λ ys. P (first_vertex u v) ys) (sym (glued.first_lists v ltv (old_vertex-other u x))) (one v ltv (old_vertex-other u x))))
        (λ high.
        let z : ℕ = x - (a.vertices - 1) in
        let v : ℕ = old_vertex w z in
        let ltv : v < b.vertices = old_vertex-below b.vertices w z ltw (omega (arith, glued.vertices)) in
        let back : second_vertex a w v ≡ x = omega (arith, count-old_vertex w z) in
        subst (λ y. P y (list_of s y)) back (subst (λ ys. P (second_vertex a w v) ys) (sym (glued.second_lists v ltv (old_vertex-other w z))) (two v ltv (old_vertex-other w z))))
        (cases_lt x (a.vertices - 1))

    -- the darts and lists of the result
    pub Listed-glued : Listed s.vertices (darts s) (vertex_of s) (list_of s)
    Listed-glued = record {
      placed = λ x lt. ⊎_elim (λ o. (own_first x o.0 o.1).0) (λ o. subst (λ y. vertex_of s y < s.vertices) o.3 (own_second o.0 o.1 o.2).0) (origin no_loop x (omega (arith, size)));
      distinct = each_list (λ x xs. Distinct xs) (λ v lt ne. first.distinct v lt) (λ v lt ne. Distinct-map_on number (list_of b v) (apart_b v lt ne) (second.distinct v lt));
      own = λ x lt. ⊎_elim
          (λ o. subst (Has x) (sym (own_first x o.0 o.1).1) (first.own x o.0))
          (λ o. subst (λ y. Has y (list_of s (vertex_of s y))) o.3 (subst (Has (number o.0)) (sym (own_second o.0 o.1 o.2).1) (Has-map_on number o.0 (list_of b (vertex_of b o.0)) (second.own o.0 o.1))))
          (origin no_loop x (omega (arith, size)));
      item = λ x d lt h. each_list (λ y ys. Has d ys → (d < darts s) × (vertex_of s d ≡ y))
          (λ v ltv ne k. let i = first.item v d ltv k in (omega (arith, i.0, size), glued.first_stand d i.0 (λ e. ne (sym i.1 ∙ e)) ∙ ap (first_vertex u) i.1))
          (λ v ltv ne k.
          let m = map_on-Has number d (list_of b v) k in
          let i = item_b v m.0 ltv ne m.1 in
          let at = second.item v m.0 ltv m.1 in
          subst (λ y. (y < darts s) × (vertex_of s y ≡ second_vertex a w v)) m.2 (omega (arith, number-below m.0 i.0 i.1, size), glued.second_stand m.0 i.0 i.1 ∙ ap (second_vertex a w) at.1))
          x lt h;
    }

    -- the result is a rotation system
    pub IsRotation-glued : IsRotation s
    IsRotation-glued = record { paired = even; placed = Listed-glued.placed; listed = lists; arranged = Listed-exact s.vertices (darts s) (vertex_of s) (list_of s) Listed-glued }

  -- the tables make the result
  pub IsGlued-tables : (at : List ℕ) (numbers : List ℕ) (count : ℕ) (ls : List (List ℕ)) → u < a.vertices
      → w < b.vertices → AreNumbers a b w pairs numbers count → AreVertices a u b w pairs at
      → ls ≡ values (a.vertices + b.vertices - 2) (glued_list a u b w (slice_index numbers))
      → IsGlued a u b w pairs (system_of at ls)
  IsGlued-tables at numbers count ls ltu ltw nums verts lists = record {
    vertices = omega (arith, total, ltu, ltw);
    size = omega (arith, verts.size, is_a.paired);
    first_stand = verts.first;
    second_stand = verts.second;
    first_lists = λ v lt ne.
        let x : ℕ = first_vertex u v in
        let low : x < a.vertices - 1 = count_other-below a.vertices u v ltu lt ne in
        list_is x (omega (arith, low, ltw)) ∙ cond-true (ltb x (a.vertices - 1)) (list_of a (old_vertex u x)) (map (slice_index numbers) (list_of b (old_vertex w (x - (a.vertices - 1))))) (lt-ltb x (a.vertices - 1) low) ∙ ap (list_of a) (old_vertex-count u v ne);
    second_lists = λ v lt ne.
        let x : ℕ = second_vertex a w v in
        let here : x - (a.vertices - 1) ≡ first_vertex w v = omega arith in
        let in_list = Listed-system b is_b in
        list_is x (omega (arith, count_other-below b.vertices w v ltw lt ne, ltu)) ∙ cond-false (ltb x (a.vertices - 1)) (list_of a (old_vertex u x)) (map (slice_index numbers) (list_of b (old_vertex w (x - (a.vertices - 1))))) (le-ltb x (a.vertices - 1) (omega arith))
        ∙ ap (λ y. map (slice_index numbers) (list_of b y)) (ap (old_vertex w) here ∙ old_vertex-count w v ne)
        ∙ map_agree_on (slice_index numbers) number (list_of b v) (λ d h. let i = in_list.item v d lt h in nums.told d i.0 (λ e. ne (sym i.1 ∙ e)));
  }
    where
      total : length ls ≡ a.vertices + b.vertices - 2
      total = ap (λ zs. length zs) lists ∙ length-values (a.vertices + b.vertices - 2) (glued_list a u b w (slice_index numbers))

      list_is : (x : ℕ) → x < a.vertices + b.vertices - 2
          → list_of (system_of at ls) x ≡ glued_list a u b w (slice_index numbers) x
      list_is x lt = ap (λ zs. list_of (system_of at zs) x) lists ∙ values_at (a.vertices + b.vertices - 2) (glued_list a u b w (slice_index numbers)) x [] lt
