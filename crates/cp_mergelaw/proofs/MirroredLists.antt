-- A vertex of a flat map reads the list of another one in reverse, and two such vertices do not cross in it.
use Rattle.std.proofs.Common.{◌≡◌, ℕ, ◌*◌, Bool, ◌||◌, List, [], ◌∷◌, ◌++◌, map, sym, refl, ap, ap₂, ◌∙◌, subst, inl, inr, ⊎_elim, arith}
use Rattle.std.specs.List.{filter}
use Rattle.cp_lists.specs.CyclicLists.{Distinct, Has, Lacks}
use Rattle.cp_lists.specs.Turns.{IsTurn}
use Rattle.cp_lists.proofs.Crossings.{parts_of_Crosses}
use Rattle.cp_lists.proofs.DistinctLists.{Distinct-append_right, Distinct-apart, Has-append_right, Lacks-append_left, has_lacks}
use Rattle.cp_lists.proofs.FilteredLists.{Has-filter, filter-Has, filter_agree, filter_all}
use Rattle.cp_lists.proofs.TurnedLists.{Has-of_turn, turn-Has, turn-sym, turn-trans, turn_reverse_head, turn_to_item}
use Rattle.cp_faces.specs.Twins.{twin}
use Rattle.cp_faces.proofs.Twins.{twin-twin}
use Rattle.cp_maps.specs.Genus.{CanBeFlat}
use Rattle.cp_maps.specs.Maps.{IsMapOf, has}
use Rattle.cp_maps.specs.Mirrors.{mirror}
use Rattle.cp_maps.proofs.CrossedVertices.{flat-no_crossing}
use Rattle.cp_maps.proofs.Dipoles.{flat_dipole-mirror}
use Rattle.cp_maps.proofs.FewerDarts.{first_lists-CanBeFlat}
use Rattle.cp_maps.proofs.KeptDarts.{kept_darts-CanBeFlat}
use Rattle.cp_maps.proofs.ListFacts.{has_no, has_true, has_yes}
use Rattle.cp_maps.proofs.MapLists.{IsMapOf-swap, IsMapOf-turn}
use Rattle.cp_mergelaw.specs.Sides.{IsMirrorIn, Uncrossed, leads_to}

-- two vertices alone with their edges in a flat map: the one is, up to a turn, the mirror of the other
pub dipole-IsTurn_mirror : (e : ℕ) (xs ys : List ℕ) → CanBeFlat e (xs ∷ ys ∷ [])
    → ((d : ℕ) → Has d xs → Has (twin d) ys) → ((d : ℕ) → Has d ys → Has (twin d) xs) → IsTurn ys (mirror xs)
dipole-IsTurn_mirror e [] [] can there back = (0, omega arith, refl)
dipole-IsTurn_mirror e [] (y ∷ ys) can there back = absurd (back y (inl refl))
dipole-IsTurn_mirror e (x ∷ xs) ys can there back =
    let w : (past : List ℕ) × IsTurn ys (twin x ∷ past) = turn_to_item (twin x) ys (there x (inl refl)) in
    let is : IsMapOf (2 * e) can.0 ((x ∷ xs) ∷ (twin x ∷ w.0) ∷ []) =
    IsMapOf-swap (2 * e) can.0 (twin x ∷ w.0) (x ∷ xs) []
    (IsMapOf-turn (2 * e) can.0 ys (twin x ∷ w.0) ((x ∷ xs) ∷ []) w.1 (IsMapOf-swap (2 * e) can.0 (x ∷ xs) ys [] can.1))
    in
    let same : w.0 ≡ mirror xs = flat_dipole-mirror e can.0 x xs w.0 is
    (λ d h. ⊎_elim
    (λ k. absurd (has_lacks d xs h
    (subst (λ y. Lacks y xs) (sym (twin-twin x) ∙ ap twin k ∙ twin-twin d) is.rings.0.distinct.0)))
    (λ k. k) (turn-Has ys (twin x ∷ w.0) (twin d) w.1 (there d (inr h))))
    (λ d h. ⊎_elim
    (λ k. absurd (has_lacks d w.0 h
    (subst (λ y. Lacks y w.0) (ap twin k ∙ twin-twin d) is.rings.1.0.distinct.0)))
    (λ k. k) (back d (Has-of_turn ys (twin x ∷ w.0) d w.1 (inr h))))
    can.2 in
    turn-trans ys (twin x ∷ w.0) (mirror (x ∷ xs)) w.1
    (subst (λ zs. IsTurn (twin x ∷ zs) (mirror (x ∷ xs))) (sym same)
    (turn-sym (mirror (x ∷ xs)) (twin x ∷ mirror xs) (turn_reverse_head (twin x) (map twin xs))))

-- a vertex all of whose edges lead to another one reads it in reverse
pub flat-IsMirrorIn : (e : ℕ) (whole xs : List ℕ) (rows : List (List ℕ)) → CanBeFlat e (whole ∷ xs ∷ rows)
    → ((d : ℕ) → Has d xs → Has (twin d) whole) → IsMirrorIn whole xs
flat-IsMirrorIn e whole xs rows can back =
    dipole-IsTurn_mirror e kept xs alone (λ d h. has_true (twin d) xs (filter-Has (leads_to xs) d whole h).1)
    (λ d h. Has-filter (leads_to xs) (twin d) whole (back d h)
    (has_yes (twin (twin d)) xs (subst (λ y. Has y xs) (sym (twin-twin d)) h)))
  where
    kept : List ℕ
    kept = filter (leads_to xs) whole

    keep : ℕ → Bool
    keep d = has d xs || leads_to xs d

    two : CanBeFlat e (whole ∷ xs ∷ [])
    two = first_lists-CanBeFlat e (whole ∷ xs ∷ []) rows can

    apart : (d : ℕ) → Has d whole → Lacks d xs
    apart d h = Lacks-append_left d xs [] (Distinct-apart d whole (xs ++ []) two.1.once h)

    alone : CanBeFlat e (kept ∷ xs ∷ [])
    alone = subst (CanBeFlat e)
        (ap₂ (λ us vs. us ∷ vs ∷ [])
        (filter_agree keep (leads_to xs) whole (λ d h. ap (λ b. b || leads_to xs d) (has_no d xs (apart d h))))
        (filter_all keep xs (λ d h. ap (λ b. b || leads_to xs d) (has_yes d xs h))))
        (kept_darts-CanBeFlat e two.0 (whole ∷ xs ∷ []) two.1 two.2 keep)

-- two vertices of a flat map are not crossed in the list of a third
pub flat-Uncrossed : (e : ℕ) (whole xs ys : List ℕ) (rows : List (List ℕ)) → CanBeFlat e (whole ∷ xs ∷ ys ∷ rows)
    → Uncrossed leads_to whole xs ys
flat-Uncrossed e whole xs ys rows can cross =
    let w = parts_of_Crosses (leads_to xs) (leads_to ys) whole cross in
    let a : ℕ = cross.first in
    let b : ℕ = cross.second in
    let c : ℕ = cross.third in
    let d : ℕ = cross.fourth in
    let turned : List ℕ = a ∷ (w.0 ++ b ∷ (w.1 ++ c ∷ (w.2 ++ d ∷ w.3))) in
    let is : IsMapOf (2 * e) can.0 (turned ∷ xs ∷ ys ∷ rows) =
    IsMapOf-turn (2 * e) can.0 whole turned (xs ∷ ys ∷ rows) w.4 can.1 in
    let dis : Distinct turned = is.rings.0.distinct in
    let past_a : Has c (w.0 ++ b ∷ (w.1 ++ c ∷ (w.2 ++ d ∷ w.3))) =
    Has-append_right c w.0 (b ∷ (w.1 ++ c ∷ (w.2 ++ d ∷ w.3)))
    (inr (Has-append_right c w.1 (c ∷ (w.2 ++ d ∷ w.3)) (inl refl))) in
    let past_b : Has d (w.1 ++ c ∷ (w.2 ++ d ∷ w.3)) =
    Has-append_right d w.1 (c ∷ (w.2 ++ d ∷ w.3)) (inr (Has-append_right d w.2 (d ∷ w.3) (inl refl))) in
    let behind_b : Distinct (b ∷ (w.1 ++ c ∷ (w.2 ++ d ∷ w.3))) =
    Distinct-append_right w.0 (b ∷ (w.1 ++ c ∷ (w.2 ++ d ∷ w.3))) dis.1 in
    flat-no_crossing e can.0 a b c d w.0 w.1 w.2 w.3 xs ys rows is
    (has_true (twin a) xs cross.first_passes) (has_true (twin c) xs cross.third_passes)
    (has_true (twin b) ys cross.second_passes) (has_true (twin d) ys cross.fourth_passes)
    (λ s. has_lacks c (w.0 ++ b ∷ (w.1 ++ c ∷ (w.2 ++ d ∷ w.3))) past_a
    (subst (λ y. Lacks y (w.0 ++ b ∷ (w.1 ++ c ∷ (w.2 ++ d ∷ w.3)))) s dis.0))
    (λ s. has_lacks d (w.1 ++ c ∷ (w.2 ++ d ∷ w.3)) past_b
    (subst (λ y. Lacks y (w.1 ++ c ∷ (w.2 ++ d ∷ w.3))) s behind_b.0))
    can.2
