-- Pairs of the darts at two vertices in the order of the lists.
use Rattle.std.proofs.Common.{◌≡◌, ℕ, ◌<◌, eqb, List, length, map, reverse, take, drop, sym, ap, ◌∙◌, subst, arith, take-append-drop, ext_get_or}
use Rattle.std.proofs.lemmas.List.{get_or-map, length-map, reverse-reverse}
use Rattle.cp_lists.specs.Turns.{IsTurn}
use Rattle.cp_lists.specs.Count.{Exactly}
use Rattle.cp_lists.specs.CyclicLists.{Distinct}
use Rattle.cp_lists.proofs.DistinctLists.{Distinct-turn, Exactly-from, Exactly-Distinct, Exactly-Has}
use Rattle.cp_rot.specs.Systems.{System, darts, vertex_of, list_of, IsRotation}
use Rattle.cp_rotlaw.specs.Glue.{ArePartners, AreReversed, partner_of_first}
use Rattle.cp_lists.proofs.ReversedLists.{Has-reverse, reverse-Has, Distinct-reverse}
use Rattle.cp_lists.proofs.TurnedLists.{turn-Has, Has-of_turn}
use Rattle.cp_rotlaw.proofs.GluedPairs.{partner-first}

-- the seconds of pairs are the partners of the firsts
seconds_are : (pairs : List (ℕ × ℕ)) → Distinct (map (λ pair. pair.0) pairs)
    → map (λ pair. pair.1) pairs ≡ map (partner_of_first pairs) (map (λ pair. pair.0) pairs)
seconds_are pairs distinct =
    let size : length (map (λ (pair : ℕ × ℕ). pair.1) pairs) ≡ length pairs = length-map pairs (λ (pair : ℕ × ℕ). pair.1) in
    let size_first : length (map (λ (pair : ℕ × ℕ). pair.0) pairs) ≡ length pairs = length-map pairs (λ (pair : ℕ × ℕ). pair.0) in
    ext_get_or 0 (map (λ pair. pair.1) pairs) (map (partner_of_first pairs) (map (λ pair. pair.0) pairs))
    (omega (arith, size, size_first, length-map (map (λ (pair : ℕ × ℕ). pair.0) pairs) (partner_of_first pairs)))
    (λ i lt.
    let l : i < length pairs = omega arith in
    get_or-map {X = ℕ × ℕ} {Y = ℕ} (λ pair. pair.1) pairs i (0, 0) 0 l ∙ sym (partner-first pairs i distinct l)
    ∙ sym (get_or-map (partner_of_first pairs) (map (λ pair. pair.0) pairs) i 0 0 (omega (arith, size_first)) ∙ ap (partner_of_first pairs) (get_or-map {X = ℕ × ℕ} {Y = ℕ} (λ pair. pair.0) pairs i (0, 0) 0 l)))

-- pairs whose firsts are the list of u and whose seconds are that of w in reverse, up to a turn
module _ (a b : System) (is_a : IsRotation a) (is_b : IsRotation b) (u w : ℕ) (ltu : u < a.vertices)
    (ltw : w < b.vertices) (pairs : List (ℕ × ℕ)) (firsts : map (λ pair. pair.0) pairs ≡ list_of a u)
    (seconds : IsTurn (reverse (map (λ pair. pair.1) pairs)) (list_of b w)) where
  -- the seconds are the darts at w
  exact_seconds : Exactly (darts b) (λ d. eqb (vertex_of b d) w) (map (λ pair. pair.1) pairs)
  exact_seconds =
      let back : List ℕ = reverse (map (λ pair. pair.1) pairs) in
      let arranged = is_b.arranged w ltw in
      let distinct : Distinct back = subst Distinct (take-append-drop seconds.0 back) (Distinct-turn (drop seconds.0 back) (take seconds.0 back) (subst Distinct seconds.2 (Exactly-Distinct (darts b) (λ d. eqb (vertex_of b d) w) (list_of b w) arranged))) in
      Exactly-from (darts b) (λ d. eqb (vertex_of b d) w) (map (λ pair. pair.1) pairs)
      (subst Distinct (reverse-reverse (map (λ pair. pair.1) pairs)) (Distinct-reverse back distinct))
      (λ x has. (Exactly-Has (darts b) (λ d. eqb (vertex_of b d) w) (list_of b w) arranged x).0 (turn-Has back (list_of b w) x seconds (Has-reverse x (map (λ pair. pair.1) pairs) has)))
      (λ x lt t. reverse-Has x (map (λ pair. pair.1) pairs) (Has-of_turn back (list_of b w) x seconds ((Exactly-Has (darts b) (λ d. eqb (vertex_of b d) w) (list_of b w) arranged x).1 (lt, t))))

  -- so they are partners
  pub partners_listed : ArePartners a u b w pairs
  partners_listed = record { first = subst (Exactly (darts a) (λ d. eqb (vertex_of a d) u)) (sym firsts) (is_a.arranged u ltu); second = exact_seconds }

  -- and the lists are reverse
  pub reversed_listed : AreReversed a u b w pairs
  reversed_listed = subst (λ ys. IsTurn (reverse ys) (list_of b w)) (seconds_are pairs (subst Distinct (sym firsts) (Exactly-Distinct (darts a) (λ d. eqb (vertex_of a d) u) (list_of a u) (is_a.arranged u ltu))) ∙ ap (map (partner_of_first pairs)) firsts) seconds
