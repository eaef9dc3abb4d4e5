-- Where no blocks cross at a Q-vertex, the darts of no two blocks stand crosswise in a list that is its psi in either
-- direction, up to a turn.
use Rattle.std.proofs.Common.{◌≡◌, ◌≢◌, ℕ, suc, ◌+◌, ◌-◌, ◌/◌, ◌<◌, Bool, true, false, eqb, List, [], ◌∷◌, length, map, drop, reverse, slice_index, sym, ap, ◌∙◌, subst, ⊎_elim, arith}
use Rattle.std.specs.List.{Contains}
use Rattle.std.proofs.lemmas.Bool.{cases_eq}
use Rattle.std.proofs.lemmas.List.{drop-drop, get_or-drop, get_or-map, length-drop, length-map}
use Rattle.cp_lists.specs.Crossings.{InOrder, NoCross}
use Rattle.cp_lists.specs.Turns.{IsTurn}
use Rattle.cp_lists.proofs.Crossings.{Crosses-weaker, NoCross-from, NoCross-turn, NoCross-uncrossed, map-Crosses, reverse-Crosses}
use Rattle.cp_conn.specs.Blocks.{AreInOneBlock}
use Rattle.cp_conn.specs.NamedGraphs.{rank}
use Rattle.cp_conn.specs.Numbering.{AreNumbered}
use Rattle.cp_sync.specs.Numbering.{numbered}
use Rattle.cp_board.specs.Instances.{IsSynchronized, Synchronized, edge_names, graph, is_q, psi_at, vert_names}
use Rattle.cp_board.specs.Blocks.{HaveCrossing}
use Rattle.cp_board.specs.Rotations.{dart}
use Rattle.cp_board.specs.Solutions.{directed}
use Rattle.cp_embed.proofs.BoardBlocks.{live_ends}
use Rattle.cp_flip.specs.TakingTurns.{TakeTurns}
use Rattle.cp_flip.proofs.CrossingLists.{turns-HaveCrossing}
use Rattle.cp_flip.proofs.FlatBlocks.{dart_half}

-- the place of the first of some items that stand in order, and the others behind it
first_place : (w : ℕ) (ws xs : List ℕ) → InOrder (w ∷ ws) xs
    → (k : ℕ) × (k < length xs) × (slice_index xs k ≡ w) × InOrder ws (drop (suc k) xs)
first_place w ws [] h = absurd h
first_place w ws (x ∷ xs) h = ⊎_elim
    (λ p. (0, omega arith, p.0, p.1))
    (λ q. let r = first_place w ws xs q in (suc r.0, omega (arith, r.1), r.2, r.3))
    h

-- and of the next one, counted from the front
next_place : (w : ℕ) (ws xs : List ℕ) (n : ℕ) → InOrder (w ∷ ws) (drop (suc n) xs)
    → (k : ℕ) × (n < k) × (k < length xs) × (slice_index xs k ≡ w) × InOrder ws (drop (suc k) xs)
next_place w ws xs n h =
    let r = first_place w ws (drop (suc n) xs) h in
    let size : length (drop (suc n) xs) ≡ length xs - suc n = length-drop (suc n) xs in
    let front : suc n + suc r.0 ≡ suc (suc n + r.0) = omega arith in (
      suc n + r.0,
      omega arith,
      omega (arith, r.1, size),
      sym (get_or-drop (suc n) xs r.0 0) ∙ r.2,
      subst (λ (k : ℕ). InOrder ws (drop k xs)) front (subst (InOrder ws) (drop-drop (suc r.0) (suc n) xs) r.3),
    )

-- classes of items in order take turns where the first and third are of one class, and the second and fourth of another
pub order-TakeTurns : (class : ℕ → ℕ) (xs : List ℕ) (w x y z : ℕ) → InOrder (w ∷ x ∷ y ∷ z ∷ []) xs → class w ≡ class y
    → class x ≡ class z → class w ≢ class x → TakeTurns (map class xs)
order-TakeTurns class xs w x y z order one two apart =
    let a = first_place w (x ∷ y ∷ z ∷ []) xs order in
    let b = next_place x (y ∷ z ∷ []) xs a.0 a.3 in
    let c = next_place y (z ∷ []) xs b.0 b.4 in
    let d = next_place z [] xs c.0 c.4 in
    let at = λ (k : ℕ) (lt : k < length xs). get_or-map class xs k 0 0 lt in
    record {
      first = a.0;
      second = b.0;
      third = c.0;
      fourth = d.0;
      in_order = (b.1, c.1, d.1, omega (arith, d.2, length-map xs class));
      one = at a.0 a.1 ∙ ap class a.2 ∙ one ∙ sym (at c.0 c.2 ∙ ap class c.3);
      other = at b.0 b.2 ∙ ap class b.3 ∙ two ∙ sym (at d.0 d.2 ∙ ap class d.3);
      apart = λ same. apart (sym (at a.0 a.1 ∙ ap class a.2) ∙ same ∙ at b.0 b.2 ∙ ap class b.3);
    }

-- classes that do not stand crosswise do not so in reverse
pub NoCross-reverse : (class : ℕ → ℕ) (xs : List ℕ) → NoCross class xs → NoCross class (reverse xs)
NoCross-reverse class xs apart =
    NoCross-from class (reverse xs) (λ k m ne cross.
    NoCross-uncrossed class xs k m apart ne
    (reverse-Crosses (λ x. eqb (class x) k) (λ x. eqb (class x) m) xs cross))

-- nor do those of images with the same classes
pub NoCross-map : (f class of : ℕ → ℕ) (xs : List ℕ) → ((x : ℕ) → class (f x) ≡ of x) → NoCross of xs
    → NoCross class (map f xs)
NoCross-map f class of xs same apart =
    NoCross-from class (map f xs) (λ k m ne cross.
    NoCross-uncrossed of xs k m apart ne
    (Crosses-weaker (λ x. eqb (class (f x)) k) (λ x. eqb (class (f x)) m) (λ x. eqb (of x) k) (λ x. eqb (of x) m) xs
    (λ x h t. sym (ap (λ c. eqb c k) (same x)) ∙ t)
    (λ x h t. sym (ap (λ c. eqb c m) (same x)) ∙ t)
    (map-Crosses f (λ x. eqb (class x) k) (λ x. eqb (class x) m) xs cross)))

-- in either direction
NoCross-directed : (class : ℕ → ℕ) (back : Bool) (xs : List ℕ) → NoCross class xs → NoCross class (directed back xs)
NoCross-directed class true xs apart = NoCross-reverse class xs apart
NoCross-directed class false xs apart = apart

module _ (i : Synchronized) (is : IsSynchronized i) (numbers : List ℕ)
    (are : AreNumbered (AreInOneBlock (numbered (graph i)).ends) (length (edge_names i)) numbers) (q : ℕ)
    (live : Contains (vert_names i) q) (t : is_q i q ≡ true) (none : HaveCrossing i q → ⊥) where
  -- the number of the block of an edge
  abbrev number : ℕ → ℕ
  number e = slice_index numbers (rank (edge_names i) e)

  -- the blocks do not stand crosswise in psi
  psi-NoCross : NoCross number (psi_at i q)
  psi-NoCross w x y z order one two = ⊎_elim
      (λ same. same)
      (λ apart. absurd (none (turns-HaveCrossing i is numbers are q live t
      (order-TakeTurns number (psi_at i q) w x y z order one two apart))))
      (cases_eq (number w) (number x))

  -- nor do their darts in a list that is psi in either direction, up to a turn
  pub darts-NoCross : (back : Bool) (xs : List ℕ) → IsTurn (directed back (psi_at i q)) xs
      → NoCross (λ d. slice_index numbers (d / 2)) (map (dart (graph i) q) xs)
  darts-NoCross back xs turn =
      NoCross-map (dart (graph i) q) (λ d. slice_index numbers (d / 2)) number xs
      (λ e. ap (slice_index numbers) (dart_half (graph i) (λ f c. (live_ends i is f c).2) q e))
      (NoCross-turn number (directed back (psi_at i q)) xs turn
      (NoCross-directed number back (psi_at i q) psi-NoCross))
