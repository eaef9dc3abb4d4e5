-- The last stage of a sweep: where all vertices but the last are taken, its pairs are the orders that are realised.
use Rattle.std.proofs.Common.{◌≡◌, ◌≢◌, ℕ, ◌*◌, ◌<◌, ◌↔◌, Bool, Option, List, [], ◌∷◌, map, reverse, eqb, cond, sym, refl, ap, ap₂, ◌∙◌, subst, inl, inr, ⊎_elim}
use Rattle.std.proofs.lemmas.Bool.{cases_eq, eq-eqb, ne_eqb}
use Rattle.cp_lists.specs.CyclicLists.{Has, Distinct}
use Rattle.cp_lists.specs.Turns.{IsTurn}
use Rattle.cp_lists.proofs.DistinctLists.{has_lacks, Lacks-from}
use Rattle.cp_lists.proofs.MappedLists.{Distinct-map_on}
use Rattle.cp_lists.proofs.ReversedLists.{Has-reverse, reverse-Has, Distinct-reverse}
use Rattle.cp_lists.proofs.TurnedLists.{turn-map, turn-refl, turn-sym, turn-Has, Has-of_turn, turn-Distinct, turn_to_item, turn_to_item-unique}
use Rattle.cp_faces.specs.Twins.{twin}
use Rattle.cp_faces.proofs.Twins.{same_half}
use Rattle.cp_maps.specs.Genus.{CanBeFlat, IsFlat}
use Rattle.cp_maps.specs.Maps.{IsMapOf}
use Rattle.cp_maps.proofs.FewerDarts.{CanBeFlat-IsFlat}
use Rattle.cp_maps.proofs.ListFacts.{map-agree}
use Rattle.cp_maps.proofs.MapLists.{IsMapOf-turn}
use Rattle.cp_rot.proofs.ListSystems.{Listed, turn}
use Rattle.cp_embed.specs.Directions.{edge_of}
use Rattle.cp_embed.specs.Arrangements.{IsArrangementOf}
use Rattle.cp_embed.specs.Sweeps.{darts_at, KeepsList, AreListsOf, LeadsInto, IsStagePair, IsSweep}
use Rattle.cp_embed.proofs.DartLists.{darts_at-Has}
use Rattle.cp_embed.proofs.Sweeps.{twin_within}
use Rattle.cp_embed.proofs.VertexLists.{IsMapOf-names, AreListsOf-names, names-AreListsOf}

-- lists of darts of all vertices that make a map in the plane, have the cyclic order of edges at t and keep the given
-- lists
pub record AreDrawn (n e : ℕ) (at : ℕ → ℕ) (psi : ℕ → Option (List ℕ)) (t : ℕ) (order : List ℕ) (bit : ℕ → Bool)
    (lists : ℕ → List ℕ) : Type 0 where
  pub listed : Listed n (2 * e) at lists
  pub plane : IsFlat e (turn at lists)
  pub order_is : IsTurn order (map edge_of (lists t))
  pub kept : (v : ℕ) → v < n → v ≢ t → KeepsList psi bit v (lists v)

-- the vertices of a sweep are distinct
pub IsSweep-Distinct : (at : ℕ → ℕ) (e r : ℕ) (taken : List ℕ) → IsSweep at e r taken → Distinct taken
IsSweep-Distinct at e r [] sweep = absurd sweep
IsSweep-Distinct at e r (s ∷ []) sweep = (tt, tt)
IsSweep-Distinct at e r (x ∷ y ∷ taken) sweep = (sweep.0.new, IsSweep-Distinct at e r (y ∷ taken) sweep.1)

-- a map of darts without loops at n vertices, given lists, and a sweep that has taken all vertices but t
module _ (n e : ℕ) (at : ℕ → ℕ) (r t : ℕ) (psi : ℕ → Option (List ℕ)) (placed : (d : ℕ) → d < 2 * e → at d < n)
    (no_loop : (d : ℕ) → d < 2 * e → at (twin d) ≢ at d) (lt_r : r < 2 * e) (root : at r ≡ t) (taken : List ℕ)
    (sweep : IsSweep at e r taken) (all : (v : ℕ) → Has v taken ↔ ((v < n) × (v ≢ t))) where
  -- all vertices, in the order of the lists
  abbrev names : List ℕ
  names = t ∷ reverse taken

  -- t is one of them
  lt_t : t < n
  lt_t = subst (λ v. v < n) root (placed r lt_r)

  -- each vertex once
  names_once : Distinct names
  names_once = (
    Lacks-from t (reverse taken) (λ h. ((all t).0 (reverse-Has t taken h)).1 refl),
    Distinct-reverse taken (IsSweep-Distinct at e r taken sweep),
  )

  -- and no other
  names_all : (v : ℕ) → Has v names ↔ (v < n)
  names_all v = (
    λ h. ⊎_elim (λ k. subst (λ u. u < n) k lt_t) (λ k. ((all v).0 (reverse-Has v taken k)).0) h,
    λ lt. ⊎_elim (λ k. inl (sym k)) (λ nk. inr (Has-reverse v taken ((all v).1 (lt, nk)))) (cases_eq v t),
  )

  -- a dart at t leads into what is taken
  from_t : (d : ℕ) → d < 2 * e → at d ≡ t → LeadsInto at e taken d
  from_t d lt same = record {
    within = lt;
    outside = Lacks-from (at d) taken (λ h. ((all (at d)).0 h).1 same);
    into = (all (at (twin d))).1 (placed (twin d) (twin_within at e r d lt), λ h. no_loop d lt (h ∙ sym same));
  }

  -- and only such a dart does
  at_t : (d : ℕ) → LeadsInto at e taken d → at d ≡ t
  at_t d q = ⊎_elim
      (λ h. h)
      (λ nh. absurd (has_lacks (at d) taken ((all (at d)).1 (placed d q.within, nh)) q.outside))
      (cases_eq (at d) t)

  -- a pair of the stage is drawn
  module _ (word : List ℕ) (bit : ℕ → Bool) (p : IsStagePair at e psi r taken word bit) where
    -- the lists of the vertices that are taken
    named : (lists : ℕ → List ℕ) × (p.drawn.0 ∷ p.drawn.1 ≡ map lists (reverse taken))
        × ((v : ℕ) → Has v taken → IsArrangementOf (lists v) (darts_at at e v) × KeepsList psi bit v (lists v))
    named = AreListsOf-names at e r psi bit taken p.drawn.0 p.drawn.1 sweep p.drawn.2

    -- all lists
    abbrev lists : ℕ → List ℕ
    lists v = cond (eqb v t) (r ∷ p.row) (named.0 v)

    -- that of t
    lists_t : (v : ℕ) → v ≡ t → lists v ≡ r ∷ p.row
    lists_t v h = ap (λ b. cond b (r ∷ p.row) (named.0 v)) (eq-eqb v t h)

    -- and those of the others
    lists_other : (v : ℕ) → v ≢ t → lists v ≡ named.0 v
    lists_other v h = ap (λ b. cond b (r ∷ p.row) (named.0 v)) (ne_eqb v t h)

    -- what is true of the lists of t and of the others is true of all
    each_list : (P : ℕ → List ℕ → Type 0) → P t (r ∷ p.row) → ((v : ℕ) → v < n → v ≢ t → P v (named.0 v)) → (v : ℕ)
        → v < n → P v (lists v)
    each_list P of_t of_other v lt = ⊎_elim
        (λ h. subst (P v) (sym (lists_t v h)) (subst (λ u. P u (r ∷ p.row)) (sym h) of_t))
        (λ nh. subst (P v) (sym (lists_other v nh)) (of_other v lt nh))
        (cases_eq v t)

    -- each list has exactly the darts of its vertex
    list_items : (v : ℕ) → v < n → (d : ℕ) → Has d (lists v) ↔ ((d < 2 * e) × (at d ≡ v))
    list_items = each_list (λ v ws. (d : ℕ) → Has d ws ↔ ((d < 2 * e) × (at d ≡ v)))
        (λ d. (
          λ h. let q = (p.all d).0 h in (q.within, at_t d q),
          λ h. (p.all d).1 (from_t d h.0 h.1),
        ))
        (λ v lt nh d. let a = (named.2 v ((all v).1 (lt, nh))).0 in (
          λ h. (darts_at-Has at e d v).0 ((a.items d).0 h),
          λ h. (a.items d).1 ((darts_at-Has at e d v).1 h),
        ))

    -- the lists are those of a map
    all_listed : Listed n (2 * e) at lists
    all_listed = record {
      placed = placed;
      distinct = each_list (λ v ws. Distinct ws) p.once (λ v lt nh. (named.2 v ((all v).1 (lt, nh))).0.distinct);
      own = λ d lt. (list_items (at d) (placed d lt) d).1 (lt, refl);
      item = λ v d lt h. (list_items v lt d).0 h;
    }

    -- in the order in which the vertices were taken
    rows_are : (r ∷ p.row) ∷ (p.drawn.0 ∷ p.drawn.1) ≡ map lists names
    rows_are = ap₂ (λ ws rows. ws ∷ rows) (sym (lists_t t refl))
        (named.1 ∙ map-agree named.0 lists (reverse taken)
        (λ v h. sym (lists_other v ((all v).0 (reverse-Has v taken h)).1)))

    -- they are drawn
    stage_pair-AreDrawn : AreDrawn n e at psi t (edge_of r ∷ word) bit lists
    stage_pair-AreDrawn = record {
      listed = all_listed;
      plane = CanBeFlat-IsFlat e (turn at lists) (map lists names)
          (IsMapOf-names n (2 * e) at lists all_listed names names_once names_all)
          (subst (CanBeFlat e) rows_are p.drawn.3);
      order_is = subst (IsTurn (edge_of r ∷ word))
          (ap (λ ws. edge_of r ∷ ws) p.word_is ∙ ap (map edge_of) (sym (lists_t t refl)))
          (turn-refl (edge_of r ∷ word));
      kept = λ v lt nh. subst (KeepsList psi bit v) (sym (lists_other v nh)) (named.2 v ((all v).1 (lt, nh))).1;
    }

  -- what is drawn is a pair of the stage
  module _ (word : List ℕ) (bit : ℕ → Bool) (lists : ℕ → List ℕ)
      (drawn : AreDrawn n e at psi t (edge_of r ∷ word) bit lists) where
    -- the list of t, from r on
    from_root : (row : List ℕ) × IsTurn (lists t) (r ∷ row)
    from_root = turn_to_item r (lists t) (subst (λ v. Has r (lists v)) root (drawn.listed.own r lt_r))

    -- its edges are distinct
    edges_once : Distinct (map edge_of (lists t))
    edges_once = Distinct-map_on edge_of (lists t)
        (λ c d hc hd same.
        let v = drawn.listed.item t c lt_t hc in
        let w = drawn.listed.item t d lt_t hd in
        ⊎_elim (λ h. h) (λ h. absurd (no_loop c v.0 (sym (ap at h) ∙ w.1 ∙ sym v.1))) (same_half c d same))
        (drawn.listed.distinct t lt_t)

    -- so the word is its edges behind that of r
    word_edges : word ≡ map edge_of from_root.0
    word_edges = turn_to_item-unique (edge_of r) (map edge_of (lists t)) word (map edge_of from_root.0) edges_once
        (turn-sym (edge_of r ∷ word) (map edge_of (lists t)) drawn.order_is)
        (turn-map edge_of (lists t) (r ∷ from_root.0) from_root.1)

    -- the lists of the vertices that are taken
    prefix_lists : (zs : List ℕ) × (group : List (List ℕ)) × (zs ∷ group ≡ map lists (reverse taken))
        × AreListsOf at e psi bit taken zs group
    prefix_lists = names-AreListsOf at e r psi bit lists taken sweep (λ v h.
        let w = (all v).0 h in (
          record {
            distinct = drawn.listed.distinct v w.0;
            items = λ d. (
              λ k. (darts_at-Has at e d v).1 (drawn.listed.item v d w.0 k),
              λ k. let s = (darts_at-Has at e d v).0 k in subst (λ u. Has d (lists u)) s.1 (drawn.listed.own d s.0),
            );
          },
          drawn.kept v w.0 w.1,
        ))

    -- the map with the list of t from r on
    drawn_map : IsMapOf (2 * e) (turn at lists) ((r ∷ from_root.0) ∷ prefix_lists.0 ∷ prefix_lists.1)
    drawn_map = IsMapOf-turn (2 * e) (turn at lists) (lists t) (r ∷ from_root.0)
        (prefix_lists.0 ∷ prefix_lists.1) from_root.1
        (subst (λ rows. IsMapOf (2 * e) (turn at lists) (lists t ∷ rows)) (sym prefix_lists.2)
        (IsMapOf-names n (2 * e) at lists drawn.listed names names_once names_all))

    -- a pair of the stage
    drawn-IsStagePair : IsStagePair at e psi r taken word bit
    drawn-IsStagePair = record {
      row = from_root.0;
      word_is = word_edges;
      once = turn-Distinct (lists t) (r ∷ from_root.0) from_root.1 (drawn.listed.distinct t lt_t);
      all = λ d. (
        λ h. let w = drawn.listed.item t d lt_t (Has-of_turn (lists t) (r ∷ from_root.0) d from_root.1 h) in from_t d
            w.0 w.1,
        λ q. turn-Has (lists t) (r ∷ from_root.0) d from_root.1
            (subst (λ v. Has d (lists v)) (at_t d q) (drawn.listed.own d q.within)),
      );
      drawn = (prefix_lists.0, prefix_lists.1, prefix_lists.3, (turn at lists, drawn_map, drawn.plane));
    }

  -- the pairs of the last stage are those with lists that are drawn
  pub IsStagePair-AreDrawn : (word : List ℕ) (bit : ℕ → Bool) → IsStagePair at e psi r taken word bit
      ↔ ((lists : ℕ → List ℕ) × AreDrawn n e at psi t (edge_of r ∷ word) bit lists)
  IsStagePair-AreDrawn word bit = (
    λ p. (lists word bit p, stage_pair-AreDrawn word bit p),
    λ d. drawn-IsStagePair word bit d.0 d.1,
  )
