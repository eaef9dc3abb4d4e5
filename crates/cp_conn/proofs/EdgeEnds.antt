-- The ends of an edge: the vertices that it touches, and its other end at a vertex.
use Rattle.std.proofs.Common.{◌≡◌, ◌≢◌, ℕ, ◌<◌, ◌⊎◌, true, eqb, List, length, get_or, sym, refl, ◌∙◌, inl, inr, ⊎_elim}
use Rattle.std.proofs.lemmas.Bool.{cases_eq, eq-eqb, eqb-true, ne_eqb, or_cases, or_left, or_right}
use Rattle.cp_base.specs.Graphs.{AreWithin}
use Rattle.cp_orbits.specs.Connected.{Joins}
use Rattle.cp_conn.specs.Grouping.{touches, other_end}
use Rattle.cp_conn.specs.Blocks.{HaveNoLoop, Touches}
use Rattle.cp_conn.proofs.DartChains.{Contains-at, within_joined}

-- the test tells whether the edge touches the vertex
pub touches_true : (es : List (ℕ × ℕ)) (v e : ℕ) → touches es v e ≡ true → Touches es v e
touches_true es v e t =
    ⊎_elim
    (λ h. inl (eqb-true (get_or es e (0, 0)).0 v h))
    (λ h. inr (eqb-true (get_or es e (0, 0)).1 v h))
    (or_cases (eqb (get_or es e (0, 0)).0 v) (eqb (get_or es e (0, 0)).1 v) t)

-- an edge that touches the vertex passes the test
pub touches_of : (es : List (ℕ × ℕ)) (v e : ℕ) → Touches es v e → touches es v e ≡ true
touches_of es v e t =
    ⊎_elim
    (λ h. or_left (eqb (get_or es e (0, 0)).0 v) (eqb (get_or es e (0, 0)).1 v) (eq-eqb (get_or es e (0, 0)).0 v h))
    (λ h. or_right (eqb (get_or es e (0, 0)).0 v) (eqb (get_or es e (0, 0)).1 v) (eq-eqb (get_or es e (0, 0)).1 v h))
    t

-- an edge that touches a vertex joins it to a vertex
pub touch_joins : (es : List (ℕ × ℕ)) (v e : ℕ) → Touches es v e → (w : ℕ) × Joins (get_or es e (0, 0)) v w
touch_joins es v e t =
    ⊎_elim (λ h. ((get_or es e (0, 0)).1, inl (h, refl))) (λ h. ((get_or es e (0, 0)).0, inr (refl, h))) t

-- an edge touches a vertex that it joins
pub joins_touch : (es : List (ℕ × ℕ)) (v w e : ℕ) → Joins (get_or es e (0, 0)) v w → Touches es v e
joins_touch es v w e j = ⊎_elim (λ h. inl h.0) (λ h. inr h.1) j

-- an end of a pair that joins u and y is one of the two
pub end_cases : (e : ℕ × ℕ) (u y z w : ℕ) → Joins e u y → Joins e z w → (z ≡ u) ⊎ (z ≡ y)
end_cases e u y z w j k =
    ⊎_elim
    (λ h. ⊎_elim (λ i. inl (sym i.0 ∙ h.0)) (λ i. inr (sym i.1 ∙ h.1)) k)
    (λ h. ⊎_elim (λ i. inr (sym i.0 ∙ h.0)) (λ i. inl (sym i.1 ∙ h.1)) k)
    j

-- without loops the two ends of an edge differ
pub ends_differ : (es : List (ℕ × ℕ)) (e v x : ℕ) → HaveNoLoop es → e < length es → Joins (get_or es e (0, 0)) v x
    → x ≢ v
ends_differ es e v x none lt j same =
    ⊎_elim (λ h. none e lt (h.0 ∙ sym same ∙ sym h.1)) (λ h. none e lt (h.0 ∙ same ∙ sym h.1)) j

-- an edge that touches v joins v and its other end
pub other_joins : (es : List (ℕ × ℕ)) (v e : ℕ) → touches es v e ≡ true
    → Joins (get_or es e (0, 0)) v (other_end es v e)
other_joins es v e t =
    ⊎_elim
    (λ h. inl (h, sym (rw (eq-eqb (get_or es e (0, 0)).0 v h) refl)))
    (λ nh. ⊎_elim
    (λ k. absurd (nh k))
    (λ k. inr (sym (rw (ne_eqb (get_or es e (0, 0)).0 v nh) refl), k))
    (touches_true es v e t))
    (cases_eq (get_or es e (0, 0)).0 v)

-- without loops the other end is another vertex
pub other_differs : (es : List (ℕ × ℕ)) (v e : ℕ) → HaveNoLoop es → e < length es → touches es v e ≡ true
    → other_end es v e ≢ v
other_differs es v e none lt t = ends_differ es e v (other_end es v e) none lt (other_joins es v e t)

-- the other end is a vertex
pub other_within : (es : List (ℕ × ℕ)) (n v e : ℕ) → AreWithin n es → e < length es → touches es v e ≡ true
    → other_end es v e < n
other_within es n v e w lt t =
    within_joined n es (get_or es e (0, 0)) v (other_end es v e) w (Contains-at es e lt) (other_joins es v e t)
