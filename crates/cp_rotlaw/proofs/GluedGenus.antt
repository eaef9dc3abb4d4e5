-- Gluing two rotation systems of genus zero at vertices with reverse lists gives genus zero: their maps side by side
-- are glued dart by dart.
use Rattle.std.proofs.Common.{◌≡◌, ℕ, ◌+◌, ◌-◌, ◌*◌, ◌/◌, ◌%◌, ◌<◌, ◌≢◌, eqb, List, [], ◌∷◌, ◌++◌, append_assoc, length, map, reverse, sym, refl, ap, ap₂, ◌∙◌, subst, inl, inr, ⊎_elim, arith}
use Rattle.std.proofs.lemmas.Bool.{cases_eq, eq-eqb, ne_eqb, cond-true, cond-false}
use Rattle.std.proofs.lemmas.List.{map-append, reverse-reverse}
use Rattle.cp_lists.specs.Count.{count}
use Rattle.cp_lists.specs.CyclicLists.{Has}
use Rattle.cp_lists.specs.Rows.{flat}
use Rattle.cp_lists.specs.Turns.{IsTurn}
use Rattle.cp_lists.proofs.Counting.{count-le}
use Rattle.cp_lists.proofs.DistinctLists.{Has-append_left}
use Rattle.cp_lists.proofs.FlatLists.{flat-append, flat-map}
use Rattle.cp_lists.proofs.MappedLists.{Has-map_on, map_agree_on, map_on-Has}
use Rattle.cp_lists.proofs.ReversedLists.{Has-reverse, map-reverse, reverse-Has}
use Rattle.cp_lists.proofs.TurnedLists.{turn-map, turn-sym}
use Rattle.cp_orbits.specs.Classes.{labels}
use Rattle.cp_faces.specs.Faces.{on_edges}
use Rattle.cp_faces.specs.Twins.{twin}
use Rattle.cp_faces.proofs.Twins.{twin-below, twin-twin}
use Rattle.cp_maps.specs.Genus.{Apart, CanBeFlat, linked}
use Rattle.cp_maps.specs.Gluings.{onto}
use Rattle.cp_maps.specs.Maps.{IsMapOf}
use Rattle.cp_maps.proofs.GluedVertices.{glued, maps_agree}
use Rattle.cp_maps.proofs.MapLists.{IsMapOf-front, IsMapOf-swap, IsMapOf-turn}
use Rattle.cp_maps.proofs.Mirrors.{twin-farther}
use Rattle.cp_rot.specs.Genus.{HasGenusZero}
use Rattle.cp_rot.specs.Systems.{IsRotation, System, darts, edges, list_of, vertex_of}
use Rattle.cp_rot.proofs.ListSystems.{Listed-system}
use Rattle.cp_maplaw.specs.Systems.{rows_of, rows_upto}
use Rattle.cp_maplaw.proofs.Systems.{system_names}
use Rattle.cp_rotlaw.specs.Glue.{ArePartners, AreReversed, IsGlued, edge_avoids, partner_of_first, partner_of_second}
use Rattle.cp_rotlaw.specs.GlueTables.{old_vertex}
use Rattle.cp_rotlaw.specs.Systems.{HasNoLoopAt, is_other}
use Rattle.cp_rotlaw.proofs.GluedDarts.{IsRotation-glued, avoids_dart, number, number_joined, number_kept}
use Rattle.cp_rotlaw.proofs.GluedNumbers.{count-old_vertex, count_other-below, old_vertex-below, old_vertex-count, old_vertex-other}
use Rattle.cp_rotlaw.proofs.GluedPairs.{partner_first, partner_second}
use Rattle.cp_rotlaw.proofs.NumberedLists.{rows_upto-Has, rows_upto-among, rows_upto-map, rows_upto-more, rows_upto-names}
use Rattle.cp_rotlaw.proofs.SideBySide.{apart_sides, side, side-IsFlat, side-IsMapOf}
use Rattle.cp_rotlaw.proofs.GluedNames.{Names-glued, glued_name, glued_name_high, glued_name_low, pass, pass-rank}

module _ (a b : System) (is_a : IsRotation a) (is_b : IsRotation b) (u w : ℕ) (ltu : u < a.vertices)
    (ltw : w < b.vertices) (pairs : List (ℕ × ℕ)) (partners : ArePartners a u b w pairs) where
  -- the darts of b come behind those of a
  abbrev n : ℕ
  n = 2 * edges a

  -- all edges
  abbrev all : ℕ
  all = edges a + edges b

  -- the name of a dart of b
  abbrev name : ℕ → ℕ
  name d = n + d

  -- the partner of a dart at u
  abbrev mate : ℕ → ℕ
  mate = partner_of_first pairs

  -- the partner of a dart at w
  abbrev mate_back : ℕ → ℕ
  mate_back = partner_of_second pairs

  -- the dart behind a dart, sides by sides
  abbrev sides : ℕ → ℕ
  sides = side a b is_a is_b

  -- the lists of b under their names
  abbrev lists_b : List (List ℕ)
  lists_b = map (map name) (rows_of b)

  -- the name of a dart of the result
  abbrev j : ℕ → ℕ
  j = glued_name a b w

  -- the lists of the other vertices of a
  abbrev rest_a : List (List ℕ)
  rest_a = rows_upto (λ x. list_of a (old_vertex u x)) (a.vertices - 1)

  -- and of b, under their names
  abbrev rest_b : List (List ℕ)
  rest_b = map (map name) (rows_upto (λ x. list_of b (old_vertex w x)) (b.vertices - 1))

  -- the two vertices in front
  front-IsMapOf : IsMapOf (2 * all) sides (map name (list_of b w) ∷ list_of a u ∷ (rest_b ++ rest_a))
  front-IsMapOf =
      let in_a = rows_upto-among (list_of a) a.vertices u ltu in
      let in_b = rows_upto-among (list_of b) b.vertices w ltw in
      let us : List ℕ = list_of a u in
      let ws : List ℕ = map name (list_of b w) in
      let before : List (List ℕ) = map (map name) in_b.0 in
      let behind : List (List ℕ) = map (map name) in_b.1 in
      let parted : lists_b ≡ before ++ ws ∷ behind =
      ap (map (map name)) in_b.2 ∙ map-append (map name) in_b.0 (list_of b w ∷ in_b.1) in
      let joined : before ++ behind ≡ rest_b =
      sym (map-append (map name) in_b.0 in_b.1) ∙ ap (map (map name)) (sym in_b.3) in
      let one : IsMapOf (2 * all) sides (ws ∷ (before ++ (behind ++ rows_of a))) =
      IsMapOf-front (2 * all) sides ws before (behind ++ rows_of a)
      (subst (IsMapOf (2 * all) sides)
      (ap (λ zs. zs ++ rows_of a) parted ∙ append_assoc before (ws ∷ behind) (rows_of a))
      (side-IsMapOf a b is_a is_b)) in
      let two : IsMapOf (2 * all) sides (ws ∷ ((rest_b ++ in_a.0) ++ us ∷ in_a.1)) =
      subst (λ zs. IsMapOf (2 * all) sides (ws ∷ zs))
      (sym (append_assoc before behind (rows_of a)) ∙ ap₂ (λ ys zs. ys ++ zs) joined in_a.2
      ∙ sym (append_assoc rest_b in_a.0 (us ∷ in_a.1))) one in
      subst (λ zs. IsMapOf (2 * all) sides (ws ∷ us ∷ zs))
      (append_assoc rest_b in_a.0 in_a.1 ∙ ap (λ zs. rest_b ++ zs) (sym in_a.3))
      (IsMapOf-swap (2 * all) sides us ws ((rest_b ++ in_a.0) ++ in_a.1)
      (IsMapOf-front (2 * all) sides us (ws ∷ (rest_b ++ in_a.0)) in_a.1 two))

  -- a dart at u and its partner, which comes first
  abbrev glued_pair : ℕ → ℕ × ℕ
  glued_pair x = (n + mate x, x)

  -- the pairs in the reverse of the order that they have round u
  abbrev ps : List (ℕ × ℕ)
  ps = map glued_pair (reverse (list_of a u))

  -- the partners
  pair_firsts : (xs : List ℕ) → map (λ p. p.0) (map glued_pair xs) ≡ map (λ x. n + mate x) xs
  pair_firsts [] = refl
  pair_firsts (x ∷ xs) = ap (λ ys. (n + mate x) ∷ ys) (pair_firsts xs)

  -- the darts at u
  pair_seconds : (xs : List ℕ) → map (λ p. p.1) (map glued_pair xs) ≡ xs
  pair_seconds [] = refl
  pair_seconds (x ∷ xs) = ap (λ ys. x ∷ ys) (pair_seconds xs)

  -- a dart of a stays in the place that it has
  onto_low : (xs : List ℕ) (d : ℕ) → d < n → onto (map glued_pair xs) d ≡ d
  onto_low [] d lt = refl
  onto_low (x ∷ xs) d lt =
      cond-false (eqb d (twin (n + mate x))) x (onto (map glued_pair xs) d)
      (ne_eqb d (twin (n + mate x)) (λ e. omega (arith, e, twin-farther (edges a) (mate x), lt)))
      ∙ onto_low xs d lt

  -- so does a dart of b whose twin is no partner
  onto_kept : (xs : List ℕ) (d : ℕ) → ((x : ℕ) → Has x xs → mate x ≢ twin d) → onto (map glued_pair xs) (n + d) ≡ n + d
  onto_kept [] d none = refl
  onto_kept (x ∷ xs) d none =
      cond-false (eqb (n + d) (twin (n + mate x))) x (onto (map glued_pair xs) (n + d))
      (ne_eqb (n + d) (twin (n + mate x)) (λ e.
      let same : d ≡ twin (mate x) = omega (arith, e, twin-farther (edges a) (mate x)) in
      none x (inl refl) (sym (twin-twin (mate x)) ∙ ap twin (sym same))))
      ∙ onto_kept xs d (λ z h. none z (inr h))

  -- in the place of the twin of a partner comes the dart at u
  onto_joined : (xs : List ℕ) (y : ℕ) → ((x : ℕ) → Has x xs → mate_back (mate x) ≡ x) → Has y (map mate xs)
      → onto (map glued_pair xs) (n + twin y) ≡ mate_back y
  onto_joined [] y back h = absurd h
  onto_joined (x ∷ xs) y back h = ⊎_elim
      (λ e.
      cond-true (eqb (n + twin y) (twin (n + mate x))) x (onto (map glued_pair xs) (n + twin y))
      (eq-eqb (n + twin y) (twin (n + mate x))
      (ap (λ (z : ℕ). n + twin z) e ∙ sym (twin-farther (edges a) (mate x))))
      ∙ sym (back x (inl refl)) ∙ ap mate_back (sym e))
      (λ ne.
      cond-false (eqb (n + twin y) (twin (n + mate x))) x (onto (map glued_pair xs) (n + twin y))
      (ne_eqb (n + twin y) (twin (n + mate x)) (λ e.
      let same : twin y ≡ twin (mate x) = omega (arith, e, twin-farther (edges a) (mate x)) in
      ne (sym (twin-twin y) ∙ ap twin same ∙ twin-twin (mate x))))
      ∙ onto_joined xs y (λ z k. back z (inr k)) (⊎_elim (λ e. absurd (ne (sym e))) (λ k. k) h))
      (cases_eq y (mate x))

  -- a dart of the list of u, and its partner
  at_first : (x : ℕ) → Has x (list_of a u)
      → (x < n) × (mate x < darts b) × (vertex_of b (mate x) ≡ w) × (mate_back (mate x) ≡ x)
  at_first x h =
      let i = (Listed-system a is_a).item u x ltu h in
      let p = partner_first a b u w pairs partners x i.0 i.1 in
      (omega (arith, i.0, is_a.paired), p.0, p.1, p.2)

  -- the pairs, and all other lists
  pairs-IsMapOf : AreReversed a u b w pairs
      → IsMapOf (2 * all) sides (map (λ p. p.0) ps ∷ reverse (map (λ p. p.1) ps) ∷ (rest_b ++ rest_a))
  pairs-IsMapOf reversed =
      let us : List ℕ = list_of a u in
      let firsts : map name (reverse (map mate us)) ≡ map (λ p. p.0) ps =
      ap (map name) (sym (map-reverse mate us)) ∙ maps_agree mate name (λ x. n + mate x) (reverse us) (λ x h. refl)
      ∙ sym (pair_firsts (reverse us)) in
      let seconds : us ≡ reverse (map (λ p. p.1) ps) =
      sym (reverse-reverse us) ∙ ap reverse (sym (pair_seconds (reverse us))) in
      let turned : IsTurn (map name (list_of b w)) (map (λ p. p.0) ps) =
      turn-sym (map (λ p. p.0) ps) (map name (list_of b w)) (subst (λ zs. IsTurn zs (map name (list_of b w))) firsts
      (turn-map name (reverse (map mate us)) (list_of b w) reversed)) in
      subst (λ zs. IsMapOf (2 * all) sides (map (λ p. p.0) ps ∷ zs ∷ (rest_b ++ rest_a))) seconds
      (IsMapOf-turn (2 * all) sides (map name (list_of b w)) (map (λ p. p.0) ps) (us ∷ (rest_b ++ rest_a)) turned
      front-IsMapOf)

  -- a first dart of the pairs is a partner
  pair_first : (d : ℕ) → Has d (map (λ p. p.0) ps)
      → (x : ℕ) × Has x (list_of a u) × (n + mate x ≡ d)
  pair_first d h =
      let m = map_on-Has (λ x. n + mate x) d (reverse (list_of a u))
      (subst (Has d) (pair_firsts (reverse (list_of a u))) h) in
      (m.0, reverse-Has m.0 (list_of a u) m.1, m.2)

  -- the two vertices are of different components
  pairs-Apart : Apart all sides (map (λ p. p.0) ps) (reverse (map (λ p. p.1) ps))
  pairs-Apart c d hc hd one =
      let f = pair_first c hc in
      let k : Has d (list_of a u) = reverse-Has d (list_of a u)
      (subst (Has d) (pair_seconds (reverse (list_of a u))) (reverse-Has d (map (λ p. p.1) ps) hd)) in
      apart_sides a b is_a is_b d (mate f.0) (at_first d k).0
      (sym one ∙ ap (labels (linked sides (2 * all) all)) (sym f.2))

  -- the twins of the partners are in other lists
  twins_there : HasNoLoopAt b w → (d : ℕ) → Has d (map (λ p. p.0) ps) → Has (twin d) (flat (rest_b ++ rest_a))
  twins_there no_b d h =
      let f = pair_first d h in
      let p = at_first f.0 f.1 in
      let y : ℕ = twin (mate f.0) in
      let lt : y < darts b = twin-below (darts b) (mate f.0) is_b.paired p.1 in
      let v : ℕ = vertex_of b y in
      let ne : v ≢ w = no_b (mate f.0) p.1 p.2 in
      let ltv : v < b.vertices = is_b.placed y lt in
      let rest : List (List ℕ) = rows_upto (λ x. list_of b (old_vertex w x)) (b.vertices - 1) in
      let has : Has y (flat rest) =
      rows_upto-Has (λ x. list_of b (old_vertex w x)) (b.vertices - 1) (count v (is_other w)) y
      (count_other-below b.vertices w v ltw ltv ne)
      (subst (λ x. Has y (list_of b x)) (sym (old_vertex-count w v ne)) ((Listed-system b is_b).own y lt)) in
      subst (λ z. Has z (flat (rest_b ++ rest_a))) (sym (twin-farther (edges a) (mate f.0)) ∙ ap twin f.2)
      (subst (Has (n + y)) (sym (flat-append rest_b rest_a))
      (Has-append_left (n + y) (flat rest_b) (flat rest_a)
      (subst (Has (n + y)) (sym (flat-map name rest)) (Has-map_on name y (flat rest) has))))

  module _ (no_b : HasNoLoopAt b w) (s : System) (result : IsGlued a u b w pairs s) where
    -- the number of a dart of b
    abbrev num : ℕ → ℕ
    num = number a b is_a is_b u w pairs partners

    -- what stands in the place of a dart of b is the name of its number
    onto_second : (d : ℕ) → d < darts b → vertex_of b d ≢ w → onto ps (n + d) ≡ j (num d)
    onto_second d lt ne = ⊎_elim
        (λ e.
        let lt_twin : twin d < darts b = twin-below (darts b) d is_b.paired lt in
        let q = partner_second a b u w pairs partners (twin d) lt_twin e in
        let own : Has (mate_back (twin d)) (list_of a u) =
        subst (λ v. Has (mate_back (twin d)) (list_of a v)) q.1
        ((Listed-system a is_a).own (mate_back (twin d)) q.0) in
        let partner_in : Has (twin d) (map mate (reverse (list_of a u))) =
        subst (λ y. Has y (map mate (reverse (list_of a u)))) q.2
        (Has-map_on mate (mate_back (twin d)) (reverse (list_of a u))
        (Has-reverse (mate_back (twin d)) (list_of a u) own)) in
        ap (λ (y : ℕ). onto ps (n + y)) (sym (twin-twin d))
        ∙ onto_joined (reverse (list_of a u)) (twin d)
        (λ x h. (at_first x (reverse-Has x (list_of a u) h)).3) partner_in
        ∙ sym (glued_name_low a b w (mate_back (twin d)) (omega (arith, q.0, is_a.paired)))
        ∙ ap j (sym (number_joined a b is_a is_b u w pairs partners d e)))
        (λ nt.
        let rank : ℕ → ℕ = λ e. count e (edge_avoids b w) in
        let back : pass a b w (rank (d / 2)) ≡ d / 2 =
        pass-rank a b w (d / 2) (omega (arith, lt, is_b.paired))
        (avoids_dart a b is_a is_b u w pairs partners d ne nt) in
        let half : on_edges rank d / 2 ≡ rank (d / 2) = omega arith in
        let bit : on_edges rank d % 2 ≡ d % 2 = omega arith in
        let whole : 2 * (d / 2) + d % 2 ≡ d = omega arith in
        onto_kept (reverse (list_of a u)) d
        (λ x h e. nt (ap (vertex_of b) (sym e) ∙ (at_first x (reverse-Has x (list_of a u) h)).2))
        ∙ ap (λ (z : ℕ). n + z) (sym whole ∙ sym (ap₂ (λ (x y : ℕ). 2 * pass a b w x + y) half bit
        ∙ ap (λ (z : ℕ). 2 * z + d % 2) back))
        ∙ sym (glued_name_high a b w (on_edges rank d))
        ∙ ap j (sym (number_kept a b is_a is_b u w pairs partners d nt)))
        (cases_eq (vertex_of b (twin d)) w)

    -- the lists that come from a are those of the result
    first_row : (x : ℕ) → x < a.vertices - 1
        → map (onto ps) (list_of a (old_vertex u x)) ≡ map j (list_of s x)
    first_row x lt =
        let v : ℕ = old_vertex u x in
        let ltv : v < a.vertices = old_vertex-below a.vertices u x ltu lt in
        map_agree_on (onto ps) j (list_of a v)
        (λ d h. let l : d < n = omega (arith, ((Listed-system a is_a).item v d ltv h).0, is_a.paired) in
        onto_low (reverse (list_of a u)) d l ∙ sym (glued_name_low a b w d l))
        ∙ ap (map j) (sym (ap (list_of s) (sym (count-old_vertex u x))
        ∙ result.first_lists v ltv (old_vertex-other u x)))

    -- so are those that come from b
    second_row : (x : ℕ) → x < b.vertices - 1
        → map (onto ps) (map name (list_of b (old_vertex w x))) ≡ map j (list_of s ((a.vertices - 1) + x))
    second_row x lt =
        let v : ℕ = old_vertex w x in
        let ltv : v < b.vertices = old_vertex-below b.vertices w x ltw lt in
        maps_agree name (onto ps) (λ d. j (num d)) (list_of b v)
        (λ d h. let i = (Listed-system b is_b).item v d ltv h in
        onto_second d i.0 (λ e. old_vertex-other w x (sym i.1 ∙ e)))
        ∙ sym (maps_agree num j (λ d. j (num d)) (list_of b v) (λ d h. refl))
        ∙ ap (map j) (sym (ap (λ (y : ℕ). list_of s ((a.vertices - 1) + y)) (sym (count-old_vertex w x))
        ∙ result.second_lists v ltv (old_vertex-other w x)))

    -- the glued lists are those of the result, under the names of its darts
    rows_glued : map (map (onto ps)) (rest_b ++ rest_a) ≡ map (map j) (rows_of s)
    rows_glued =
        let size : (a.vertices - 1) + (b.vertices - 1) ≡ s.vertices = omega (arith, result.vertices, ltu, ltw) in
        let lists : ℕ → List ℕ = λ x. list_of s ((a.vertices - 1) + x) in
        map-append (map (onto ps)) rest_b rest_a
        ∙ ap₂ (λ ys zs. ys ++ zs)
        (ap (map (map (onto ps))) (rows_upto-map name (λ x. list_of b (old_vertex w x)) (b.vertices - 1))
        ∙ rows_upto-names (onto ps) j (λ x. map name (list_of b (old_vertex w x))) lists (b.vertices - 1) second_row)
        (rows_upto-names (onto ps) j (λ x. list_of a (old_vertex u x)) (list_of s) (a.vertices - 1) first_row)
        ∙ sym (map-append (map j) (rows_upto lists (b.vertices - 1)) (rows_upto (list_of s) (a.vertices - 1)))
        ∙ ap (map (map j)) (sym (rows_upto-more (list_of s) (a.vertices - 1) (b.vertices - 1))
        ∙ ap (rows_upto (list_of s)) size)

  -- what is glued has genus zero
  pub glued-HasGenusZero : HasNoLoopAt b w → AreReversed a u b w pairs → HasGenusZero a → HasGenusZero b
      → (s : System) → IsGlued a u b w pairs s → darts s ≡ 2 * edges s → length s.lists ≡ s.vertices → HasGenusZero s
  glued-HasGenusZero no_b reversed zero_a zero_b s result even lists =
      let flat_map : CanBeFlat all (map (map (onto ps)) (rest_b ++ rest_a)) =
      glued all sides ps (rest_b ++ rest_a) (pairs-IsMapOf reversed) pairs-Apart (twins_there no_b)
      (side-IsFlat a b is_a is_b zero_a zero_b) in
      let is_s = IsRotation-glued a b is_a is_b u w pairs partners ltu ltw no_b s result even lists in
      (system_names s all j flat_map.0 is_s (omega (arith, result.size, count-le (edges b) (edge_avoids b w)))
      (Names-glued a b w (edges s) result.size)
      (subst (IsMapOf (2 * all) flat_map.0) (rows_glued no_b s result) flat_map.1)).1 flat_map.2
