-- The list of a pole, as the program puts it together.
use Rattle.std.proofs.Common.{◌≡◌, ◌≢◌, ℕ, ◌<◌, Bool, false, not, eqb, List, length, slice_index, slice_index_or, sym, ap, ◌∙◌, subst, arith}
use Rattle.std.proofs.lemmas.Bool.{eqb-true}
use Rattle.std.specs.List.{filter}
use Rattle.cp_lists.specs.CyclicLists.{Has}
use Rattle.cp_lists.specs.Turns.{IsTurn}
use Rattle.cp_lists.proofs.DistinctLists.{Exactly-Has, Has_at}
use Rattle.cp_lists.proofs.FilteredLists.{Has-filter, filter-Has}
use Rattle.cp_lists.proofs.TurnedLists.{Has-of_turn}
use Rattle.cp_rot.specs.Systems.{Arranges, IsRotation, System, darts, list_of, vertex_of}
use Rattle.cp_rot.proofs.ListSystems.{Listed-system}
use Rattle.cp_rotlaw.specs.PoleClasses.{ArePoleParts, HasEndsApart, IsEnteredTest, IsPermutedRow, joined_rows}
use Rattle.cp_rotlaw.specs.Stars.{IsDartOf}

-- an item of some darts of a vertex is a dart
pub kept_dart : (r : System) → IsRotation r → (v : ℕ) → v < r.vertices → (p : ℕ → Bool) (xs : List ℕ)
    → xs ≡ filter p (list_of r v) → (d : ℕ) → Has d xs → d < darts r
kept_dart r is v ltv p xs made d h =
    ((Listed-system r is).item v d ltv (filter-Has p d (list_of r v) (subst (Has d) made h)).0).0

-- so is one of them turned
pub turned_dart : (r : System) → IsRotation r → (v : ℕ) → v < r.vertices → (p : ℕ → Bool) (xs ys : List ℕ)
    → xs ≡ filter p (list_of r v) → IsTurn xs ys → (d : ℕ) → Has d ys → d < darts r
turned_dart r is v ltv p xs ys made turn d h = kept_dart r is v ltv p xs made d (Has-of_turn xs ys d turn h)

-- an item of an order of the darts of a vertex is a dart there
pub order_dart : (r : System) (u : ℕ) (order : List ℕ) → Arranges r.at u order → (d : ℕ) → Has d order → IsDartOf r u d
order_dart r u order arr d h =
    let k = (Exactly-Has (darts r) (λ x. eqb (vertex_of r x) u) order arr d).0 h in
    record { within = k.0; stands = eqb-true (vertex_of r d) u k.1 }

-- what the program puts together is the list of the pole
pub IsPermutedRow-made : (r : System) → IsRotation r → (u v : ℕ) → v < r.vertices → (order : List ℕ)
    → Arranges r.at u order → 1 < length order → (ps : List ℕ) (ms : List Bool)
    → ((number : ℕ → ℕ) × ArePoleParts r u v number (slice_index ps))
    → IsEnteredTest r u (slice_index ps) (λ c. slice_index_or ms c false) → {held free ws row : List ℕ}
    → held ≡ filter (λ d. slice_index_or ms (slice_index ps d) false) (list_of r v)
    → free ≡ filter (λ d. not (slice_index_or ms (slice_index ps d) false)) (list_of r v) → IsTurn held ws
    → ((d f : ℕ) → Has d held → Has f held → slice_index ps d ≢ slice_index ps f → HasEndsApart (slice_index ps) ws)
    → row ≡ joined_rows (slice_index ps) free ws order → IsPermutedRow r u v order row
IsPermutedRow-made r is u v ltv order arr many ps ms parts test {held} {free} {ws} {row} held_is free_is turn ends
    row_is = record {
      number = parts.0;
      part = part;
      entered = entered;
      ws = ws;
      parts = parts.1;
      test = test;
      turn = subst (λ xs. IsTurn xs ws) held_is turn;
      ends = ends (there x at_x).0 (there y at_y).0 (held_has x at_x) (held_has y at_y)
          (λ e. apart (parts.1.one_each x y at_x at_y (sym (there x at_x).2 ∙ e ∙ (there y at_y).2)));
      row_is = row_is ∙ ap (λ zs. joined_rows part zs ws order) free_is;
    }
  where
    part : ℕ → ℕ
    part = slice_index ps

    entered : ℕ → Bool
    entered c = slice_index_or ms c false

    x : ℕ
    x = slice_index order 0

    y : ℕ
    y = slice_index order 1

    at_x : IsDartOf r u x
    at_x = order_dart r u order arr x (Has_at order 0 (omega arith))

    at_y : IsDartOf r u y
    at_y = order_dart r u order arr y (Has_at order 1 many)

    apart : x ≢ y
    apart e = let same : 0 ≡ 1 = arr.each_once 0 1 (omega arith) many e in omega (arith, same)

    there : (z : ℕ) → IsDartOf r u z → (f : ℕ) × IsDartOf r v f × (part f ≡ part z)
    there z at = parts.1.reach z at

    held_has : (z : ℕ) (at : IsDartOf r u z) → Has (there z at).0 held
    held_has z at =
        let k = there z at in
        subst (Has k.0) (sym held_is) (Has-filter (λ d. entered (part d)) k.0 (list_of r v)
        (subst (λ w. Has k.0 (list_of r w)) k.1.stands ((Listed-system r is).own k.0 k.1.within))
        (ap entered k.2 ∙ test.yes z at))
