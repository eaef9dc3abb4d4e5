-- Low points: what each step keeps, and what holds at the end.
use Rattle.std.proofs.Common.{◌≡◌, ℕ, ◌+◌, ◌-◌, ◌*◌, ◌<◌, ◌≤◌, List, length, get_or, set, min, sym, refl, ap, ◌∙◌, subst, ⊎_elim, arith}
use Rattle.std.proofs.lemmas.Bool.{cases_eq, cases_lt}
use Rattle.std.proofs.lemmas.List.{get_or_read, length-set}
use Rattle.cp_base.specs.Graphs.{AreWithin}
use Rattle.cp_conn.specs.Darts.{start, finish}
use Rattle.cp_conn.specs.SearchForest.{Forest, Above, itself, child, IsSearchForest}
use Rattle.cp_conn.specs.LowPoints.{IsReached, AreLowPoints, AreReached, AreLow}
use Rattle.cp_conn.specs.Deepening.{IsGrown}
use Rattle.cp_conn.proofs.DartChains.{start_within, finish_within}
use Rattle.cp_conn.proofs.Forests.{Above-trans, above-le}
use Rattle.cp_conn.proofs.Deepening.{read_met, set_at, set_other}

-- from the vertices of higher numbers the low points do not fall on the way up
abbrev pub AreRising : ℕ → Forest → List ℕ → ℕ → Type 0
AreRising n forest low first =
    (v : ℕ) → v < n → first ≤ get_or forest.number v 0 → get_or low (get_or forest.parent v 0) 0 ≤ get_or low v 0

-- the low point of one vertex is lowered to a number
pub record Lowers (n : ℕ) (low low' : List ℕ) (v k : ℕ) : Type 0 where
  pub size : length low ≡ n
  pub within : v < n
  pub is : low' ≡ set low v (min (get_or low v 0) k)

-- at the vertex the low point is the lesser of what it was and the number
lowered_at : (n : ℕ) (low low' : List ℕ) (v k x : ℕ) → Lowers n low low' v k → x ≡ v
    → get_or low' x 0 ≡ min (get_or low v 0) k
lowered_at n low low' v k x l e = set_at low low' v (min (get_or low v 0) k) x l.is (omega (arith, l.size, l.within)) e

-- the low point of another vertex stays
lowered_other : (n : ℕ) (low low' : List ℕ) (v k x : ℕ) → Lowers n low low' v k → (x ≡ v → ⊥)
    → get_or low' x 0 ≡ get_or low x 0
lowered_other n low low' v k x l ne = set_other low low' v (min (get_or low v 0) k) x l.is ne

-- no low point rises
lowered-le : (n : ℕ) (low low' : List ℕ) (v k x : ℕ) → Lowers n low low' v k → get_or low' x 0 ≤ get_or low x 0
lowered-le n low low' v k x l =
    ⊎_elim (λ e. omega (arith, lowered_at n low low' v k x l e, ap (λ (z : ℕ). get_or low z 0) e))
    (λ ne. omega (arith, lowered_other n low low' v k x l ne)) (cases_eq x v)

-- low points stay reached where one is lowered to a number that is reached, if it is lower than the vertex
reached_lower : (es : List (ℕ × ℕ)) (n : ℕ) (forest : Forest) (low low' : List ℕ) (v k : ℕ) → AreReached es n forest low
    → Lowers n low low' v k → (k < get_or low v 0 → k < get_or forest.number v 0 → IsReached es forest v k)
    → AreReached es n forest low'
reached_lower es n forest low low' v k r l at = record {
  each = ap length l.is ∙ length-set low v (min (get_or low v 0) k) ∙ l.size;
  reached = λ x ltx less. ⊎_elim
      (λ e. subst (λ (z : ℕ). IsReached es forest z (get_or low' x 0)) (sym e)
      (own x e (omega (arith, less, ap (λ (z : ℕ). get_or forest.number z 0) e))))
      (λ ne. subst (IsReached es forest x) (sym (lowered_other n low low' v k x l ne))
      (r.reached x ltx (omega (arith, less, lowered_other n low low' v k x l ne))))
      (cases_eq x v);
}
  where
    -- where the lowered low point is below the number of its vertex, it is reached
    own : (x : ℕ) → x ≡ v → get_or low' x 0 < get_or forest.number v 0 → IsReached es forest v (get_or low' x 0)
    own x e less = ⊎_elim
        (λ lt. let is : k ≡ get_or low' x 0 = omega (arith, lowered_at n low low' v k x l e, lt) in
        subst (IsReached es forest v) is (at lt (omega (arith, less, is))))
        (λ ge. let is : get_or low v 0 ≡ get_or low' x 0 = omega (arith, lowered_at n low low' v k x l e, ge) in
        subst (IsReached es forest v) is (r.reached v l.within (omega (arith, less, is))))
        (cases_lt k (get_or low v 0))

-- at the start all low points are the number of vertices
pub reached_none : (es : List (ℕ × ℕ)) (n : ℕ) (forest : Forest) (low : List ℕ) → length low ≡ n
    → ((v : ℕ) → v < n → get_or low v 0 ≡ n) → ((v : ℕ) → v < n → get_or forest.number v 0 < n)
    → AreReached es n forest low
reached_none es n forest low size high all =
    record { each = size; reached = λ v lt less. absurd (omega (arith, less, high v lt, all v lt)) }

-- one dart more: the low point of the vertex that it starts at is lowered to the number of its end
pub near_step : (es : List (ℕ × ℕ)) (n : ℕ) (forest : Forest) (low low' : List ℕ) (d from to seen : ℕ) → AreWithin n es
    → length forest.number ≡ n → AreReached es n forest low → AreLow es forest low d → d < 2 * length es
    → from ≡ start es d
    → to ≡ finish es d → seen ≡ get_or forest.number to seen
    → low' ≡ set low from (min (get_or low from 0) seen)
    → AreReached es n forest low' × AreLow es forest low' (d + 1)
near_step es n forest low low' d from to seen w size r near lt from_is to_is seen_is is = (
  reached_lower es n forest low low' from seen r l
      (λ less lower. (d, lt, subst (Above forest from) from_is itself, sym value)),
  λ c ltc. ⊎_elim
      (λ e. omega (
        arith,
        lowered_at n low low' from seen (start es c) l (ap (start es) e ∙ sym from_is),
        value,
        ap
            (λ (z : ℕ). get_or forest.number (finish es z) 0) e,
      ))
      (λ ne. omega (arith, near c (omega arith), lowered-le n low low' from seen (start es c) l))
      (cases_eq c d),
)
  where
    -- the low point of the start of the dart is lowered to the number of its end
    l : Lowers n low low' from seen
    l = record { size = r.each; within = subst (λ (z : ℕ). z < n) (sym from_is) (start_within n es d w lt); is = is }

    -- what was read is the number of the end of the dart
    value : seen ≡ get_or forest.number (finish es d) 0
    value = read_met n forest.number to (finish es d) seen size (finish_within n es d w lt) to_is seen_is

-- the low point of a parent is lowered to that of the last vertex that is left
rise_at : (es : List (ℕ × ℕ)) (n : ℕ) (forest : Forest) (low low' : List ℕ) (left v : ℕ)
    → IsGrown es n forest → IsSearchForest es n forest → AreReached es n forest low
    → AreLow es forest low (2 * length es) → AreRising n forest low (left + 1) → v < n → get_or forest.number v 0 ≡ left
    → get_or forest.order left 0 ≡ v
    → ((u : ℕ) → u < n → get_or forest.number u 0 < n)
    → low' ≡ set low (get_or forest.parent v 0) (min (get_or low (get_or forest.parent v 0) 0) (get_or low v 0))
    → AreReached es n forest low' × AreLow es forest low' (2 * length es) × AreRising n forest low' left
rise_at es n forest low low' left v g searched r near rising ltv number_is order_is all is = (
  reached_lower es n forest low low' p (get_or low v 0) r l lift,
  λ d lt. omega (arith, near d lt, lowered-le n low low' p (get_or low v 0) (start es d) l),
  λ u ltu le. ⊎_elim (λ e. same u e) (λ ne. differ u ltu le ne) (cases_eq u v),
)
  where
    -- the parent of v
    p : ℕ
    p = get_or forest.parent v 0

    -- the parent is above v
    over : Above forest p v
    over = child itself

    -- the parent is a vertex and has no higher number than v
    bounds : (p < n) × (get_or forest.number p 0 ≤ get_or forest.number v 0)
    bounds = above-le es n forest p v searched.placed ltv over

    -- the low point of the parent is lowered to that of v
    l : Lowers n low low' p (get_or low v 0)
    l = record { size = r.each; within = bounds.0; is = is }

    -- the low point of v is reached from the parent, where it is below the number of that
    lift : get_or low v 0 < get_or low p 0 → get_or low v 0 < get_or forest.number p 0
        → IsReached es forest p (get_or low v 0)
    lift less lower = let h = r.reached v ltv (omega (arith, lower, bounds.1)) in
        (h.0, h.1, Above-trans forest p v (start es h.0) over h.2, h.3)

    -- the low point of the parent of v is no higher than that of v
    same : (u : ℕ) → u ≡ v → get_or low' (get_or forest.parent u 0) 0 ≤ get_or low' u 0
    same u e = ⊎_elim
        (λ root. omega (
          arith,
          ap (λ (z : ℕ). get_or low' z 0) (ap (λ (z : ℕ). get_or forest.parent z 0) e),
          ap
              (λ (z : ℕ). get_or low' z 0) root,
          ap (λ (z : ℕ). get_or low' z 0) e,
        ))
        (λ ne. omega (
          arith,
          ap (λ (z : ℕ). get_or low' z 0) (ap (λ (z : ℕ). get_or forest.parent z 0) e),
          lowered_at n low low' p
              (get_or low v 0) p l refl,
          ap (λ (z : ℕ). get_or low' z 0) e,
          lowered_other n low low' p
              (get_or low v 0) v l (λ f. ne (sym f)),
        ))
        (cases_eq p v)

    -- for the other vertices that are done the low point of the parent is still no higher
    differ : (u : ℕ) → u < n → left ≤ get_or forest.number u 0 → (u ≡ v → ⊥)
        → get_or low' (get_or forest.parent u 0) 0 ≤ get_or low' u 0
    differ u ltu le ne =
        let higher : left + 1 ≤ get_or forest.number u 0 =
        ⊎_elim (λ e. absurd (ne (sym (g.ordered u ltu (all u ltu)).1 ∙ ap (λ (z : ℕ). get_or forest.order z 0) e
        ∙ order_is))) (λ nf. omega arith) (cases_eq (get_or forest.number u 0) left) in
        let other : get_or low' u 0 ≡ get_or low u 0 =
        lowered_other n low low' p (get_or low v 0) u l
        (λ f. omega (arith, higher, number_is, bounds.1, ap (λ (z : ℕ). get_or forest.number z 0) f)) in
        omega (arith, other, rising u ltu higher, lowered-le n low low' p (get_or low v 0) (get_or forest.parent u 0) l)

-- one vertex less is left, as a program reads it
pub rise_step : (es : List (ℕ × ℕ)) (n : ℕ) (forest : Forest) (low low' : List ℕ) (left v value parent : ℕ)
    → IsGrown es n forest → IsSearchForest es n forest → AreReached es n forest low
    → AreLow es forest low (2 * length es) → AreRising n forest low left → left ≤ length forest.order → 0 < left
    → ((u : ℕ) → u < n → get_or forest.number u 0 < n) → v ≡ get_or forest.order (left - 1) v
    → value ≡ get_or low v value
    → parent ≡ get_or forest.parent v parent → low' ≡ set low parent (min (get_or low parent 0) value)
    → AreReached es n forest low' × AreLow es forest low' (2 * length es) × AreRising n forest low' (left - 1)
rise_step es n forest low low' left v value parent g searched r near rising le some all v_is value_is
    parent_is is =
    let v_at : v ≡ get_or forest.order (left - 1) 0 = get_or_read forest.order (left - 1) v (omega arith) v_is 0 in
    let h = g.numbered (left - 1) (omega arith) in
    let ltv : v < n = subst (λ (z : ℕ). z < n) (sym v_at) h.0 in
    let number_v : get_or forest.number v 0 ≡ left - 1 = ap (λ (z : ℕ). get_or forest.number z 0) v_at ∙ h.1 in
    let p_at : parent ≡ get_or forest.parent v 0 = get_or_read forest.parent v parent
    (omega (arith, ltv, g.parent_each)) parent_is 0 in
    let value_at : value ≡ get_or low v 0 = get_or_read low v value (omega (arith, ltv, r.each)) value_is 0 in
    rise_at es n forest low low' (left - 1) v g searched r near
    (λ u ltu leu. rising u ltu (omega arith)) ltv number_v (sym v_at) all
    (is ∙ ap (λ (z : ℕ). set low z (min (get_or low z 0) value)) p_at
    ∙ ap (λ (k : ℕ). set low (get_or forest.parent v 0) (min (get_or low (get_or forest.parent v 0) 0) k)) value_at)

-- where no vertex is left the low points are found
pub low_points_found : (es : List (ℕ × ℕ)) (n : ℕ) (forest : Forest) (low : List ℕ) (left : ℕ)
    → AreReached es n forest low
    → AreLow es forest low (2 * length es) → AreRising n forest low left → left ≡ 0 → AreLowPoints es n forest low
low_points_found es n forest low left r near rising none = record {
  each = r.each;
  darts = near;
  rises = λ v lt. rising v lt (omega arith);
  reached = r.reached;
}
