-- Cyclic lists as orbits: the step to the item behind, and maps that turn a list.
use Rattle.std.proofs.Common.{◌≡◌, ℕ, zero, suc, ◌+◌, ◌-◌, ◌<◌, List, length, map, slice_index, sym, refl, ap, ◌∙◌, subst, arith}
use Rattle.std.specs.Fn.{iterate}
use Rattle.cp_lists.specs.CyclicLists.{Has, Distinct, follow}
use Rattle.cp_lists.specs.Turns.{IsTurn}
use Rattle.cp_lists.proofs.DistinctLists.{Has-place}
use Rattle.cp_lists.proofs.CyclicLists.{follow-Has}
use Rattle.cp_lists.proofs.FollowedLists.{follow_last, follow_steps}
use Rattle.cp_lists.proofs.MappedLists.{Has-map_on, Distinct-map_on_apart, follow-map_on}
use Rattle.cp_lists.proofs.TurnedLists.{turn-follow, turn-Distinct, Has-of_turn}
use Rattle.cp_orbits.specs.Orbits.{Reaches, CycleLength}
use Rattle.cp_orbits.proofs.OrbitLaws.{Reaches-trans}

-- from each item of a cyclic list each other is reached
pub follow-reaches : (xs : List ℕ) (c d : ℕ) → Distinct xs → Has c xs → Has d xs → Reaches (follow xs) c d
follow-reaches xs c d dis hc hd =
    let from : (i : ℕ) × (i < length xs) × (slice_index xs i ≡ c) = Has-place c xs hc in
    let to : (i : ℕ) × (i < length xs) × (slice_index xs i ≡ d) = Has-place d xs hd in
    let low : from.0 < length xs = from.1 in
    let last : from.0 + (length xs - 1 - from.0) ≡ length xs - 1 = omega arith in
    let end : Reaches (follow xs) c (slice_index xs (length xs - 1)) = (length xs - 1 - from.0, ap (iterate (follow xs) (length xs - 1 - from.0)) (sym from.2) ∙ follow_steps xs (length xs - 1 - from.0) from.0 dis (omega arith) ∙ ap (slice_index xs) last) in
    let turn : Reaches (follow xs) (slice_index xs (length xs - 1)) (slice_index xs 0) = (1, follow_last xs (length xs - 1) dis (omega arith)) in
    let back : Reaches (follow xs) (slice_index xs 0) d = (to.0, follow_steps xs to.0 0 dis (omega (arith, to.1)) ∙ ap (slice_index xs) (omega arith) ∙ to.2) in
    Reaches-trans (follow xs) c (slice_index xs (length xs - 1)) d end (Reaches-trans (follow xs) (slice_index xs (length xs - 1)) (slice_index xs 0) d turn back)

-- a list that m turns
module _ (m : ℕ → ℕ) (xs : List ℕ) (dis : Distinct xs) (turn : IsTurn xs (map m xs)) where
  -- different items have different images
  turned_apart : (x y : ℕ) → Has x xs → Has y xs → m x ≡ m y → x ≡ y
  turned_apart x y hx hy e = Distinct-map_on_apart m xs x y (turn-Distinct xs (map m xs) turn dis) hx hy e

  -- m leads from item to item
  pub turned_item : (d : ℕ) → Has d xs → Has (m d) xs
  turned_item d has = Has-of_turn xs (map m xs) (m d) turn (Has-map_on m d xs has)

  -- m and the step along the list commute
  pub turned_follow : (d : ℕ) → Has d xs → m (follow xs d) ≡ follow xs (m d)
  turned_follow d has =
      sym (follow-map_on m d xs (λ x hx e. turned_apart x d hx has e) has)
      ∙ turn-follow xs (map m xs) (m d) dis turn (turned_item d has)

  -- so do its powers
  power_follow : (c d : ℕ) → Has d xs → iterate m c (follow xs d) ≡ follow xs (iterate m c d)
  power_follow zero d has = refl
  power_follow (suc c) d has = ap (iterate m c) (turned_follow d has) ∙ power_follow c (m d) (turned_item d has)

  -- what a power keeps it keeps further on along the list
  power_fixes : (c k x : ℕ) → Has x xs → iterate m c x ≡ x →
      iterate m c (iterate (follow xs) k x) ≡ iterate (follow xs) k x
  power_fixes c zero x has e = e
  power_fixes c (suc k) x has e =
      power_fixes c k (follow xs x) (follow-Has x xs has) (power_follow c x has ∙ ap (follow xs) e)

  -- a power that keeps one item keeps all
  pub turned_returns : (c x y : ℕ) → Has x xs → Has y xs → iterate m c x ≡ x → iterate m c y ≡ y
  turned_returns c x y hx hy e =
      let r = follow-reaches xs x y dis hx hy in
      subst (λ z. iterate m c z ≡ z) r.1 (power_fixes c r.0 x hx e)

  -- all items have one cycle length
  pub turned_CycleLength : (x y k : ℕ) → Has x xs → Has y xs → CycleLength m x k → CycleLength m y k
  turned_CycleLength x y k hx hy cycle = record {
    some = cycle.some;
    returns = turned_returns k x y hx hy cycle.returns;
    first = λ i low lt e. cycle.first i low lt (turned_returns i y x hy hx e);
  }
