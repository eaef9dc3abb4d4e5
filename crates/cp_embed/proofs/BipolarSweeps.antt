-- A bipolar order is a sweep: up to each of its vertices but the last, and up to that one all others are taken.
use Rattle.std.proofs.Common.{◌≡◌, ◌≢◌, ℕ, zero, suc, ◌+◌, ◌-◌, ◌*◌, ◌/◌, ◌%◌, ◌<◌, ◌≤◌, ◌↔◌, Bool, true, Option, List, [], ◌∷◌, ◌++◌, length, slice_index, take, drop, reverse, take-append-drop, sym, refl, ap, ◌∙◌, subst, inl, inr, ⊎_elim, arith}
use Rattle.std.proofs.lemmas.Bool.{cases_eq}
use Rattle.std.proofs.lemmas.List.{reverse-append}
use Rattle.cp_lists.specs.CyclicLists.{Has, Lacks, Distinct}
use Rattle.cp_lists.specs.Turns.{IsTurn}
use Rattle.cp_lists.proofs.DistinctLists.{has_lacks, Lacks-from, Has_at, Has-append_left, Has-append_cases, Distinct-apart, Exactly-Distinct, Exactly-Has}
use Rattle.cp_lists.proofs.ReversedLists.{Has-reverse, reverse-Has}
use Rattle.cp_lists.proofs.TurnedLists.{turn-sym, turn-trans}
use Rattle.cp_faces.specs.Twins.{twin}
use Rattle.cp_base.specs.Graphs.{PlainGraph, AreWithin}
use Rattle.cp_conn.specs.Blocks.{HaveNoLoop}
use Rattle.cp_conn.specs.Darts.{start}
use Rattle.cp_conn.proofs.BlockSteps.{start_twin}
use Rattle.cp_conn.proofs.DartChains.{start_even, start_odd, finish_even, finish_odd, start_within, dart_of}
use Rattle.cp_ears.specs.Bipolar.{AreAdjacent, IsBipolar}
use Rattle.cp_embed.specs.Directions.{KeepsDirection, edge_of}
use Rattle.cp_embed.specs.Realisations.{IsRealised, edges_round}
use Rattle.cp_embed.specs.Sweeps.{IsStagePair, IsNext, IsSweep}
use Rattle.cp_embed.proofs.DartLists.{ins_of-Has, outs_of-Has}
use Rattle.cp_embed.proofs.LastStages.{IsStagePair-AreDrawn}
use Rattle.cp_embed.proofs.RealisedOrders.{AreDrawn-IsRealised}
use Rattle.cp_embed.proofs.StagePairs.{IsStagePair-step}

-- one item more of a list
take_more : (xs : List ℕ) (k : ℕ) → k < length xs → take (suc k) xs ≡ take k xs ++ slice_index xs k ∷ []
take_more [] k lt = absurd (omega arith)
take_more (x ∷ xs) zero lt = refl
take_more (x ∷ xs) (suc k) lt = ap (λ ys. x ∷ ys) (take_more xs k (omega arith))

-- all items of a list
take_whole : (xs : List ℕ) → take (length xs) xs ≡ xs
take_whole [] = refl
take_whole (x ∷ xs) = ap (λ ys. x ∷ ys) (take_whole xs)

-- an item in front of place k
pub Has-take : (xs : List ℕ) (j k : ℕ) → j < k → j < length xs → Has (slice_index xs j) (take k xs)
Has-take [] j k less lt = absurd (omega arith)
Has-take (x ∷ xs) j zero less lt = absurd (omega arith)
Has-take (x ∷ xs) zero (suc k) less lt = inl refl
Has-take (x ∷ xs) (suc j) (suc k) less lt = inr (Has-take xs j k (omega arith) (omega arith))

-- an item from place k on
Has-drop : (xs : List ℕ) (j k : ℕ) → k ≤ j → j < length xs → Has (slice_index xs j) (drop k xs)
Has-drop [] j k le lt = absurd (omega arith)
Has-drop (x ∷ xs) j zero le lt = Has_at (x ∷ xs) j lt
Has-drop (x ∷ xs) zero (suc k) le lt = absurd (omega arith)
Has-drop (x ∷ xs) (suc j) (suc k) le lt = Has-drop xs j k (omega arith) (omega arith)

-- a sweep goes on with a vertex that can be next
IsSweep-more : (at : ℕ → ℕ) (e r : ℕ) (taken : List ℕ) (x : ℕ) → IsSweep at e r taken → IsNext at e r taken x
    → IsSweep at e r (x ∷ taken)
IsSweep-more at e r [] x sweep next = absurd sweep
IsSweep-more at e r (y ∷ taken) x sweep next = (next, sweep)

-- a graph without loops, a bipolar order of it, and the dart r at its last vertex of an edge to the first
module _ (g : PlainGraph) (within : AreWithin g.vertices g.ends) (none : HaveNoLoop g.ends) (s t : ℕ) (order : List ℕ)
    (bipolar : IsBipolar g s t order) (r : ℕ) (lt_r : r < 2 * length g.ends) (at_s : start g.ends (twin r) ≡ s)
    (at_t : start g.ends r ≡ t) where
  -- how many edges it has
  abbrev e : ℕ
  e = length g.ends

  -- where the darts stand
  abbrev at : ℕ → ℕ
  at = start g.ends

  -- the vertices up to place k, the last first
  abbrev upto : ℕ → List ℕ
  upto k = reverse (take k order)

  -- no dart leads back to its vertex
  pub darts_differ : (d : ℕ) → d < 2 * e → at (twin d) ≢ at d
  darts_differ d lt same = ⊎_elim
      (λ even. none (d / 2) (omega arith)
      (sym (start_even g.ends d even) ∙ sym same ∙ start_twin g.ends d ∙ finish_even g.ends d even))
      (λ odd. none (d / 2) (omega arith)
      (sym (finish_odd g.ends d odd) ∙ sym (start_twin g.ends d) ∙ same ∙ start_odd g.ends d odd))
      (cases_eq (d % 2) 0)

  -- the order has each vertex once
  pub order_once : Distinct order
  order_once = Exactly-Distinct g.vertices (λ v. true) order bipolar.each_once

  -- and no other
  pub order_all : (v : ℕ) → Has v order ↔ (v < g.vertices)
  order_all v = (
    λ h. ((Exactly-Has g.vertices (λ u. true) order bipolar.each_once v).0 h).0,
    λ lt. (Exactly-Has g.vertices (λ u. true) order bipolar.each_once v).1 (lt, refl),
  )

  -- what stands in front of place k does not stand behind it
  parted : (k v : ℕ) → Has v (upto k) → Has v (drop k order) → ⊥
  parted k v h l = has_lacks v (drop k order) l
      (Distinct-apart v (take k order) (drop k order) (subst Distinct (sym (take-append-drop k order)) order_once)
      (reverse-Has v (take k order) h))

  -- a dart to an adjacent vertex
  dart_to : (x y : ℕ) → AreAdjacent g.ends x y → (d : ℕ) × (d < 2 * e) × (at d ≡ x) × (at (twin d) ≡ y)
  dart_to x y a =
      let w = dart_of g.ends a.pair x y a.contained a.joined in (w.0, w.1, w.2, start_twin g.ends w.0 ∙ w.3)

  -- each vertex between the first and the last can be taken next
  place-IsNext : (k : ℕ) → 0 < k → k + 1 < length order → IsNext at e r (upto k) (slice_index order k)
  place-IsNext k some lt =
      let x : ℕ = slice_index order k in
      let lower = bipolar.before k some lt in
      let upper = bipolar.after k some lt in
      let down = dart_to x (slice_index order lower.0) lower.2 in
      let up = dart_to x (slice_index order upper.0) upper.3 in
      record {
        new = Lacks-from x (upto k) (λ h. parted k x h (Has-drop order k k (omega arith) (omega arith)));
        not_last = λ same.
            let place : length order - 1 ≡ k =
            bipolar.each_once.each_once (length order - 1) k (omega arith) (omega arith)
            (bipolar.last ∙ sym at_t ∙ same)
            in
            omega (arith, place, lt);
        enters = (
          down.0,
          (ins_of-Has at e (upto k) x down.0).1 (
            down.1,
            down.2,
            subst (λ v. Has v (upto k)) (sym down.3)
                (Has-reverse (slice_index order lower.0) (take k order)
                (Has-take order lower.0 k lower.1 (omega (arith, lower.1)))),
          ),
        );
        leaves = (
          up.0,
          (outs_of-Has at e (upto k) x up.0).1 (
            up.1,
            up.2,
            subst (λ v. Lacks v (upto k)) (sym up.3)
                (Lacks-from (slice_index order upper.0) (upto k) (λ h. parted k (slice_index order upper.0) h
                (Has-drop order upper.0 k (omega (arith, upper.1)) upper.2))),
          ),
        );
      }

  -- the vertices up to the next place
  pub upto_more : (k : ℕ) → k < length order → upto (suc k) ≡ slice_index order k ∷ upto k
  upto_more k lt = ap (λ xs. reverse xs) (take_more order k lt)
      ∙ reverse-append (take k order) (slice_index order k ∷ [])

  -- up to each place but the last the order is a sweep
  pub bipolar-IsSweep : (k : ℕ) → suc k < length order → IsSweep at e r (upto (suc k))
  bipolar-IsSweep zero lt = subst (IsSweep at e r) (sym (upto_more 0 (omega arith))) (
    at_s ∙ sym bipolar.first,
    λ same. darts_differ r lt_r (at_s ∙ sym bipolar.first ∙ sym same),
  )
  bipolar-IsSweep (suc k) lt = subst (IsSweep at e r) (sym (upto_more (suc k) (omega arith)))
      (IsSweep-more at e r (upto (suc k)) (slice_index order (suc k)) (bipolar-IsSweep k (omega arith))
      (place-IsNext (suc k) (omega arith) (omega arith)))

  -- the order has two vertices at least
  pub order_long : 1 < length order
  order_long = at_least (length order) refl
    where
      at_least : (m : ℕ) → length order ≡ m → 1 < length order
      at_least zero same = absurd (none_of order same (at r)
          ((order_all (at r)).1 (start_within g.vertices g.ends r within lt_r)))
        where
          none_of : (xs : List ℕ) → length xs ≡ 0 → (v : ℕ) → Has v xs → ⊥
          none_of [] z v h = h
          none_of (x ∷ xs) z v h = omega (arith, z)
      at_least (suc zero) same = absurd (darts_differ r lt_r
          (at_s ∙ sym bipolar.first
          ∙ ap (λ i. slice_index order i) (let last : 0 ≡ length order - 1 = omega (arith, same) in last)
          ∙ bipolar.last ∙ sym at_t))
      at_least (suc (suc m)) same = omega (arith, same)

  -- the last stage of the order
  abbrev last_taken : List ℕ
  last_taken = upto (length order - 1)

  -- it is a sweep
  pub last-IsSweep : IsSweep at e r last_taken
  last-IsSweep =
      let place : suc (length order - 2) ≡ length order - 1 = omega (arith, order_long) in
      subst (λ k. IsSweep at e r (upto k)) place (bipolar-IsSweep (length order - 2) (omega (arith, order_long)))

  -- at the last place all vertices but t are taken
  pub last_taken-Has : (v : ℕ) → Has v last_taken ↔ ((v < g.vertices) × (v ≢ t))
  last_taken-Has v =
      let m : ℕ = length order - 1 in
      let suc_m : suc m ≡ length order = omega (arith, order_long) in
      let whole : order ≡ take m order ++ slice_index order m ∷ [] =
      sym (take_whole order) ∙ ap (λ k. take k order) (sym suc_m) ∙ take_more order m (omega (arith, order_long))
      in (
        λ h. (
          (order_all v).0 (subst (Has v) (sym whole)
              (Has-append_left v (take m order) (slice_index order m ∷ []) (reverse-Has v (take m order) h))),
          λ same. parted m v h (subst (λ u. Has u (drop m order)) (bipolar.last ∙ sym same)
              (Has-drop order m m (omega arith) (omega (arith, order_long)))),
        ),
        λ w. ⊎_elim
            (λ h. Has-reverse v (take m order) h)
            (λ h. ⊎_elim (λ same. absurd (w.1 (sym same ∙ bipolar.last))) (λ no. absurd no) h)
            (Has-append_cases v (take m order) (slice_index order m ∷ []) (subst (Has v) whole ((order_all v).1 w.0))),
      )

  -- the pairs of the last stage are the cyclic orders of the edges of t, written from the edge of r on, that are
  -- realised
  -- with the bits
  pub last_stage-IsRealised : (psi : ℕ → Option (List ℕ)) (word : List ℕ) (bit : ℕ → Bool)
      → IsStagePair at e psi r last_taken word bit ↔ IsRealised g psi t (edge_of r ∷ word) bit
  last_stage-IsRealised psi word bit =
      let lt_t : t < g.vertices = subst (λ v. v < g.vertices) at_t (start_within g.vertices g.ends r within lt_r) in
      let one = IsStagePair-AreDrawn g.vertices e at r t psi (λ d lt. start_within g.vertices g.ends d within lt)
      darts_differ
      lt_r at_t last_taken last-IsSweep last_taken-Has word bit
      in
      let two = AreDrawn-IsRealised g psi t lt_t (edge_of r ∷ word) bit in
      ((λ p. two.0 (one.0 p)), (λ z. one.1 (two.1 z)))

  -- where a stage has no pair, the next one has none
  none_next : (psi : ℕ → Option (List ℕ)) (bit : ℕ → Bool) (taken : List ℕ) (x : ℕ) → IsSweep at e r (x ∷ taken)
      → (taken ≡ [] → ⊥)
      → ((word : List ℕ) → IsStagePair at e psi r taken word bit → ⊥) → (word : List ℕ)
      → IsStagePair at e psi r (x ∷ taken) word bit → ⊥
  none_next psi bit [] x sweep some none_here word p = some refl
  none_next psi bit (y ∷ taken) x sweep some none_here word p =
      let w = (IsStagePair-step at e r psi darts_differ x y taken sweep word bit).0 p in
      none_here (w.front ++ (w.us ++ w.behind)) w.taken_from

  -- the stage up to a place has a vertex
  upto_some : (k : ℕ) → k < length order → upto (suc k) ≡ [] → ⊥
  upto_some k lt same = absurd (subst (Has (slice_index order k)) (sym (upto_more k lt) ∙ same) (inl refl))

  -- where the stage up to a place has no pair with some bits, no order is realised with them
  pub none_later : (psi : ℕ → Option (List ℕ)) (bit : ℕ → Bool) (m k : ℕ) → suc (k + m) + 1 ≡ length order
      → ((word : List ℕ) → IsStagePair at e psi r (upto (suc k)) word bit → ⊥) → (word : List ℕ)
      → IsRealised g psi t (edge_of r ∷ word) bit → ⊥
  none_later psi bit zero k place none_here word z =
      let same : suc k ≡ length order - 1 = omega (arith, place) in
      none_here word (subst (λ i. IsStagePair at e psi r (upto i) word bit) (sym same)
      ((last_stage-IsRealised psi word bit).1 z))
  none_later psi bit (suc m) k place none_here word z =
      none_later psi bit m (suc k) (omega (arith, place))
      (λ v p. none_next psi bit (upto (suc k)) (slice_index order (suc k))
      (subst (IsSweep at e r) (upto_more (suc k) (omega (arith, place)))
      (bipolar-IsSweep (suc k) (omega (arith, place))))
      (upto_some k (omega (arith, place))) none_here v
      (subst (λ us. IsStagePair at e psi r us v bit) (upto_more (suc k) (omega (arith, place))) p))
      word z

-- a cyclic order is realised with each of its turns
pub IsRealised-turn : (g : PlainGraph) (psi : ℕ → Option (List ℕ)) (t : ℕ) (order turned : List ℕ) (bit : ℕ → Bool)
    → IsTurn order turned → IsRealised g psi t order bit → IsRealised g psi t turned bit
IsRealised-turn g psi t order turned bit turn z = (
  z.0,
  record {
    of_graph = z.1.of_graph;
    plane = z.1.plane;
    order_is = turn-trans turned order (edges_round z.0 t) (turn-sym order turned turn) z.1.order_is;
    lists_kept = z.1.lists_kept;
  },
)

-- what is realised with some bits is so with others that agree on all vertices but t
pub IsRealised-bits : (g : PlainGraph) (psi : ℕ → Option (List ℕ)) (t : ℕ) (order : List ℕ) (bit other : ℕ → Bool)
    → ((v : ℕ) → v < g.vertices → v ≢ t → bit v ≡ other v) → IsRealised g psi t order bit
    → IsRealised g psi t order other
IsRealised-bits g psi t order bit other same z = (
  z.0,
  record {
    of_graph = z.1.of_graph;
    plane = z.1.plane;
    order_is = z.1.order_is;
    lists_kept = λ v lt nt. subst (λ b. KeepsDirection (psi v) b (edges_round z.0 v)) (same v lt nt)
        (z.1.lists_kept v lt nt);
  },
)
