-- Parts of a bipolar order induce connected graphs.
use Rattle.std.proofs.Common.{◌≡◌, ℕ, zero, suc, ◌+◌, ◌-◌, ◌<◌, ◌≤◌, min, true, ◌&&◌, eqb, List, [], ◌∷◌, length, get_or, take, drop, sym, refl, ap, ◌∙◌, subst, ⊎_elim, arith, length-drop}
use Rattle.std.proofs.lemmas.Bool.{and_from, cases_eq, eq-eqb, or_left, or_right}
use Rattle.std.proofs.lemmas.List.{get_or-drop, get_or-take, length-take}
use Rattle.cp_base.specs.Graphs.{PlainGraph}
use Rattle.cp_orbits.specs.Connected.{Connected, here, step}
use Rattle.cp_orbits.proofs.ClassLabels.{Connected-trans, Connected-sym}
use Rattle.cp_conn.proofs.DartChains.{Joins-sym}
use Rattle.cp_conn.proofs.CutVertices.{kept_of}
use Rattle.cp_ears.specs.Bipolar.{AreAdjacent, IsBipolar}
use Rattle.cp_ears.specs.Induced.{is_item, induced, InduceConnected}

-- adjacency can be read the other way
pub AreAdjacent-sym : (es : List (ℕ × ℕ)) (x y : ℕ) → AreAdjacent es x y → AreAdjacent es y x
AreAdjacent-sym es x y a = record { pair = a.pair; contained = a.contained; joined = Joins-sym a.pair x y a.joined }

-- what stands at a place of a list is an item of it
item_at : (xs : List ℕ) (i : ℕ) → i < length xs → is_item xs (get_or xs i 0) ≡ true
item_at [] i lt = absurd (omega arith)
item_at (x ∷ xs) zero lt = or_left (eqb x x) (is_item xs x) (eq-eqb x x refl)
item_at (x ∷ xs) (suc i) lt = or_right (eqb x (get_or xs i 0)) (is_item xs (get_or xs i 0)) (item_at xs i (omega arith))

-- adjacent items are connected
step_within : (es : List (ℕ × ℕ)) (xs : List ℕ) (i j : ℕ) → i < length xs → j < length xs
    → AreAdjacent es (get_or xs i 0) (get_or xs j 0) → Connected (induced xs es) (get_or xs i 0) (get_or xs j 0)
step_within es xs i j lti ltj a =
    step here a.pair
    (kept_of (λ e. is_item xs e.0 && is_item xs e.1) es a.pair a.contained
    (⊎_elim
    (λ h. and_from (is_item xs a.pair.0) (is_item xs a.pair.1) (ap (is_item xs) h.0 ∙ item_at xs i lti)
    (ap (is_item xs) h.1 ∙ item_at xs j ltj))
    (λ h. and_from (is_item xs a.pair.0) (is_item xs a.pair.1) (ap (is_item xs) h.0 ∙ item_at xs j ltj)
    (ap (is_item xs) h.1 ∙ item_at xs i lti))
    a.joined))
    a.joined

-- items that are each adjacent to one before are all connected
connected_down : (es : List (ℕ × ℕ)) (xs : List ℕ)
    → ((i : ℕ) → 0 < i → i < length xs → (j : ℕ) × (j < i) × AreAdjacent es (get_or xs i 0) (get_or xs j 0))
    → InduceConnected es xs
connected_down es xs near i j lti ltj =
    Connected-trans (induced xs es) (get_or xs i 0) (get_or xs 0 0) (get_or xs j 0) (down (suc i) i (omega arith) lti)
    (Connected-sym (induced xs es) (get_or xs j 0) (get_or xs 0 0) (down (suc j) j (omega arith) ltj))
  where
    -- each item is connected with the first, by steps to earlier ones
    down : (k i : ℕ) → i < k → i < length xs → Connected (induced xs es) (get_or xs i 0) (get_or xs 0 0)
    down zero i less lt = absurd (omega arith)
    down (suc k) i less lt = ⊎_elim
        (λ e. subst (λ (z : ℕ). Connected (induced xs es) (get_or xs z 0) (get_or xs 0 0)) (sym e) here)
        (λ ne. let n = near i (omega arith) lt in
        Connected-trans (induced xs es) (get_or xs i 0) (get_or xs n.0 0) (get_or xs 0 0)
        (step_within es xs i n.0 lt (omega (arith, n.1, lt)) n.2)
        (down k n.0 (omega (arith, n.1)) (omega (arith, n.1, lt))))
        (cases_eq i 0)

-- items that are each adjacent to one behind are all connected
connected_up : (es : List (ℕ × ℕ)) (xs : List ℕ)
    → ((i : ℕ) → i + 1 < length xs
    → (j : ℕ) × (i < j) × (j < length xs) × AreAdjacent es (get_or xs i 0) (get_or xs j 0)) → InduceConnected es xs
connected_up es xs near i j lti ltj =
    Connected-trans (induced xs es) (get_or xs i 0) (get_or xs (length xs - 1) 0) (get_or xs j 0)
    (rise (length xs - i) i (omega arith) lti)
    (Connected-sym (induced xs es) (get_or xs j 0) (get_or xs (length xs - 1) 0)
    (rise (length xs - j) j (omega arith) ltj))
  where
    -- each item is connected with the last, by steps to later ones
    rise : (k i : ℕ) → length xs ≤ k + i → i < length xs
        → Connected (induced xs es) (get_or xs i 0) (get_or xs (length xs - 1) 0)
    rise zero i less lt = absurd (omega arith)
    rise (suc k) i less lt = ⊎_elim
        (λ e. let last : i ≡ length xs - 1 = omega arith in
        subst (λ (z : ℕ). Connected (induced xs es) (get_or xs z 0) (get_or xs (length xs - 1) 0)) (sym last) here)
        (λ ne. let n = near i (omega arith) in
        Connected-trans (induced xs es) (get_or xs i 0) (get_or xs n.0 0) (get_or xs (length xs - 1) 0)
        (step_within es xs i n.0 lt n.2 n.3) (rise k n.0 (omega (arith, n.1)) n.2))
        (cases_eq (i + 1) (length xs))

-- each item of a bipolar order but the first is adjacent to one before it, where the ends are adjacent
before_each : (g : PlainGraph) (s t : ℕ) (order : List ℕ) (i : ℕ) → AreAdjacent g.ends s t → IsBipolar g s t order
    → 0 < i → i < length order → (j : ℕ) × (j < i) × AreAdjacent g.ends (get_or order i 0) (get_or order j 0)
before_each g s t order i a b some lt = ⊎_elim
    (λ e. let last : length order - 1 ≡ i = omega arith in (
      0,
      some,
      subst (λ (z : ℕ). AreAdjacent g.ends z (get_or order 0 0))
          (sym b.last ∙ ap (λ (z : ℕ). get_or order z 0) last)
          (subst (AreAdjacent g.ends t) (sym b.first) (AreAdjacent-sym g.ends s t a)),
    ))
    (λ ne. b.before i some (omega arith))
    (cases_eq (i + 1) (length order))

-- each item of a bipolar order but the last is adjacent to one behind it, where the ends are adjacent
after_each : (g : PlainGraph) (s t : ℕ) (order : List ℕ) (i : ℕ) → AreAdjacent g.ends s t → IsBipolar g s t order
    → i + 1 < length order → (j : ℕ) × (i < j) × (j < length order)
    × AreAdjacent g.ends (get_or order i 0) (get_or order j 0)
after_each g s t order i a b lt = ⊎_elim
    (λ e. (
      length order - 1,
      omega arith,
      omega arith,
      subst
          (λ (z : ℕ). AreAdjacent g.ends z (get_or order (length order - 1) 0))
          (sym b.first ∙ ap (λ (z : ℕ). get_or order z 0) (sym e)) (subst (AreAdjacent g.ends s) (sym b.last) a),
    ))
    (λ ne. b.after i (omega arith) lt)
    (cases_eq i 0)

-- each beginning of a bipolar order induces a connected graph, where the ends are adjacent
pub prefix_connected : (g : PlainGraph) (s t : ℕ) (order : List ℕ) (count : ℕ) → AreAdjacent g.ends s t
    → IsBipolar g s t order → InduceConnected g.ends (take count order)
prefix_connected g s t order count a b = connected_down g.ends (take count order) (λ i some lt.
    let short : (length (take count order) ≤ count) × (length (take count order) ≤ length order) =
    let m : length (take count order) ≡ min count (length order) = length-take count order in
    (omega (arith, m), omega (arith, m)) in
    let n = before_each g s t order i a b some (omega (arith, lt, short.1)) in (
      n.0,
      n.1,
      subst (λ (z : ℕ). AreAdjacent g.ends z (get_or (take count order) n.0 0))
          (sym (get_or-take count order i 0 (omega (arith, lt, short.0))))
          (subst (AreAdjacent g.ends (get_or order i 0))
          (sym (get_or-take count order n.0 0 (omega (arith, lt, short.0, n.1)))) n.2),
    ))

-- each end of a bipolar order induces a connected graph, where the ends are adjacent
pub suffix_connected : (g : PlainGraph) (s t : ℕ) (order : List ℕ) (count : ℕ) → AreAdjacent g.ends s t
    → IsBipolar g s t order → InduceConnected g.ends (drop count order)
suffix_connected g s t order count a b = connected_up g.ends (drop count order) (λ i lt.
    let size : length (drop count order) ≡ length order - count = length-drop count order in
    let n = after_each g s t order (count + i) a b (omega (arith, lt, size)) in
    let at : (k : ℕ) → get_or (drop count order) k 0 ≡ get_or order (count + k) 0 = λ k. get_or-drop count order k 0 in
    let same : count + (n.0 - count) ≡ n.0 = omega (arith, n.1) in (
      n.0 - count,
      omega (arith, n.1),
      omega (arith, n.1, n.2, size),
      subst
          (λ (z : ℕ). AreAdjacent g.ends z (get_or (drop count order) (n.0 - count) 0)) (sym (at i))
          (subst (AreAdjacent g.ends (get_or order (count + i) 0))
          (sym (at (n.0 - count) ∙ ap (λ (z : ℕ). get_or order z 0) same)) n.3),
    ))
