-- A dart put in behind another, and an edge put in behind two darts, for rotations as functions on numbers.
use Rattle.std.proofs.Common.{◌≡◌, ℕ, zero, suc, ◌+◌, ◌*◌, ◌<◌, ◌≤◌, ◌⊎◌, ◌≢◌, cond, List, eqb, sym, refl, ap, ap₂, ◌∙◌, subst, inl, inr, ⊎_elim, arith}
use Rattle.std.specs.Fn.{iterate}
use Rattle.std.proofs.lemmas.Bool.{cases_eq, cases_lt, eq-eqb, ne_eqb, cond-true, cond-false}
use Rattle.cp_orbits.specs.Classes.{joined, labels, graph}
use Rattle.cp_orbits.specs.Orbits.{exchange, Permutes, Reaches, splice, put}
use Rattle.cp_faces.specs.Faces.{Rotates, Turns, face_upto, faces, components, drop_edge, put_edge, contracted}
use Rattle.cp_faces.proofs.ListRotations.{Rotates-agree}
use Rattle.cp_faces.proofs.Merges.{faces-contracted, components-contracted, contracted-zero_back}
use Rattle.cp_orbits.proofs.OrbitLaws.{exchange-below, exchange-exchange, Reaches-trans, label_step, graph_agree}
use Rattle.cp_orbits.proofs.Exchanges.{joined_at, joined_other, splice_at, splice_other}
use Rattle.cp_faces.proofs.Faces.{faces_upto-agree, components-agree, face_upto-past, drop_edge-labels, insert-zero, zero-agree, face_upto-agree}

-- behind d comes x
pub put_behind : (f : ℕ → ℕ) (x d y : ℕ) → y ≡ d → put f x d y ≡ x
put_behind f x d y e = rw (eq-eqb y d e) refl

-- behind x comes what was behind d
pub put_new : (f : ℕ → ℕ) (x d y : ℕ) → (y ≡ d → ⊥) → y ≡ x → put f x d y ≡ f d
put_new f x d y nd e = rw (ne_eqb y d nd, eq-eqb y x e) refl

-- behind all others comes what was there
pub put_other : (f : ℕ → ℕ) (x d y : ℕ) → (y ≡ d → ⊥) → (y ≡ x → ⊥) → put f x d y ≡ f y
put_other f x d y nd nx = rw (ne_eqb y d nd, ne_eqb y x nx) refl

-- a new dart n put in behind a dart d
module _ (v n d : ℕ) (at next : ℕ → ℕ) (rot : Rotates v n at next) (ltd : d < n) (new : at n ≡ at d) where
  -- the new dart
  put_last : put next n d n ≡ next d
  put_last = put_new next n d n (λ e. omega arith) refl

  -- the next dart of an old dart, with the new one passed over
  old_step : (y : ℕ) → y < n → Reaches (put next n d) y (next y)
  old_step y lt = ⊎_elim
      (λ e. (2, ap (put next n d) (put_behind next n d y e) ∙ put_last ∙ ap next (sym e)))
      (λ ne. (1, put_other next n d y ne (λ e. omega arith)))
      (cases_eq y d)

  -- old walks are walks
  old_walk : (k y : ℕ) → y < n → Reaches (put next n d) y (iterate next k y)
  old_walk zero y lt = (0, refl)
  old_walk (suc k) y lt = Reaches-trans (put next n d) y (next y) (iterate next k (next y)) (old_step y lt) (old_walk k (next y) (rot.permutes.below y lt))

  -- a dart is d, the new one, or another old one, and what is behind it accordingly
  put_cases : (y : ℕ) → y < suc n
      → ((y ≡ d) × (put next n d y ≡ n)) ⊎ (((y ≡ n) × (put next n d y ≡ next d))
      ⊎ ((y < n) × (y ≢ d) × (put next n d y ≡ next y)))
  put_cases y lt = ⊎_elim
      (λ e. inl (e, put_behind next n d y e))
      (λ nd. inr (⊎_elim (λ e. inl (e, put_new next n d y nd e)) (λ ny. inr (omega arith, nd, put_other next n d y nd ny)) (cases_eq y n)))
      (cases_eq y d)

  -- the dart behind an old one is old
  old_below : (y : ℕ) → y < n → next y < n
  old_below y lt = rot.permutes.below y lt

  -- it is a permutation
  put_permutes : Permutes (suc n) (put next n d)
  put_permutes = record {
    below = λ y lt. ⊎_elim (λ h. omega (arith, h.1)) (λ q. ⊎_elim (λ h. omega (arith, h.1, old_below d ltd)) (λ h. omega (arith, h.2, old_below y h.0)) q) (put_cases y lt);
    apart = λ x y ltx lty e. ⊎_elim
        (λ h. ⊎_elim (λ k. h.0 ∙ sym k.0) (λ q. absurd (⊎_elim (λ k. omega (arith, e, h.1, k.1, old_below d ltd)) (λ k. omega (arith, e, h.1, k.2, old_below y k.0)) q)) (put_cases y lty))
        (λ p. ⊎_elim
        (λ h. ⊎_elim
        (λ k. absurd (omega (arith, e, h.1, k.1, old_below d ltd)))
        (λ q. ⊎_elim (λ k. h.0 ∙ sym k.0) (λ k. absurd (k.1 (sym (rot.permutes.apart d y ltd k.0 (sym h.1 ∙ e ∙ k.2))))) q)
        (put_cases y lty))
        (λ h. ⊎_elim
        (λ k. absurd (omega (arith, e, h.2, k.1, old_below x h.0)))
        (λ q. ⊎_elim (λ k. absurd (h.1 (rot.permutes.apart x d h.0 ltd (sym h.2 ∙ e ∙ k.1)))) (λ k. rot.permutes.apart x y h.0 k.0 (sym h.2 ∙ e ∙ k.2)) q)
        (put_cases y lty))
        p)
        (put_cases x ltx);
  }

  -- each dart goes to an old dart of its vertex and back
  to_old : (c : ℕ) → c < suc n → (b : ℕ) × (b < n) × (at b ≡ at c) × Reaches (put next n d) c b
      × Reaches (put next n d) b c
  to_old c lt = ⊎_elim
      (λ l. (c, l, refl, (0, refl), (0, refl)))
      (λ g.
      let last : c ≡ n = omega arith in
      let r : Reaches next (next d) d = rot.around (next d) d (old_below d ltd) ltd (rot.kept d ltd) in
      let back : Reaches (put next n d) (next d) d = subst (λ y. Reaches (put next n d) (next d) y) r.1 (old_walk r.0 (next d) (old_below d ltd)) in (
        d,
        ltd,
        sym new ∙ ap at (sym last),
        Reaches-trans (put next n d) c (next d) d (1, ap (put next n d) last ∙ put_last) back,
        (1, put_behind next n d d refl ∙ sym last),
      ))
      (cases_lt c n)

  -- with the new dart it is a rotation
  pub Rotates-put : Rotates v (suc n) at (put next n d)
  Rotates-put = record {
    permutes = put_permutes;
    placed = λ y lt. ⊎_elim (λ l. rot.placed y l) (λ g. let last : n ≡ y = omega arith in subst (λ x. x < v) (sym new ∙ ap at last) (rot.placed d ltd)) (cases_lt y n);
    kept = λ y lt. ⊎_elim
        (λ h. ap at h.1 ∙ new ∙ ap at (sym h.0))
        (λ q. ⊎_elim (λ h. ap at h.1 ∙ rot.kept d ltd ∙ sym new ∙ ap at (sym h.0)) (λ h. ap at h.2 ∙ rot.kept y h.0) q)
        (put_cases y lt);
    around = λ c e ltc lte same.
        let from : (b : ℕ) × (b < n) × (at b ≡ at c) × Reaches (put next n d) c b × Reaches (put next n d) b c = to_old c ltc in
        let to : (b : ℕ) × (b < n) × (at b ≡ at e) × Reaches (put next n d) e b × Reaches (put next n d) b e = to_old e lte in
        let r : Reaches next from.0 to.0 = rot.around from.0 to.0 from.1 to.1 (from.2 ∙ same ∙ sym to.2) in
        let between : Reaches (put next n d) from.0 to.0 = subst (λ y. Reaches (put next n d) from.0 y) r.1 (old_walk r.0 from.0 from.1) in
        Reaches-trans (put next n d) c from.0 e from.3 (Reaches-trans (put next n d) from.0 to.0 e between to.4);
  }

  -- without the new dart it is the old rotation
  pub splice-put : (y : ℕ) → y < n → splice (put next n d) n y ≡ next y
  splice-put y lt = ⊎_elim
      (λ e. splice_at (put next n d) n y (put_behind next n d y e) ∙ put_last ∙ ap next (sym e))
      (λ ne.
      let same : put next n d y ≡ next y = put_other next n d y ne (λ e. omega arith) in
      splice_other (put next n d) n y (λ h. omega (arith, same, rot.permutes.below y lt)) ∙ same)
      (cases_eq y d)

-- leaving out agrees where the functions do
splice-agree : (f g : ℕ → ℕ) (z y : ℕ) → f y ≡ g y → f z ≡ g z → splice f z y ≡ splice g z y
splice-agree f g z y ey ez = ap₂ (λ (a b : ℕ). cond (eqb a z) b a) ey ez

-- an edge more, from behind d to behind f; where the two are one dart, its second dart comes behind its first
module _ (v e d f : ℕ) (at next : ℕ → ℕ) (rot : Turns v e at next) (ltd : d < 2 * e) (ltf : f < 2 * e)
    (one : at (2 * e) ≡ at d) (two : at (2 * e + 1) ≡ at f) where
  -- where the second dart is put in
  second_at : (at (cond (eqb f d) (2 * e) f) ≡ at f) × (cond (eqb f d) (2 * e) f < suc (2 * e))
  second_at = ⊎_elim
      (λ h. let c : cond (eqb f d) (2 * e) f ≡ 2 * e = cond-true (eqb f d) (2 * e) f (eq-eqb f d h) in (ap at c ∙ one ∙ ap at (sym h), omega arith))
      (λ nh. let c : cond (eqb f d) (2 * e) f ≡ f = cond-false (eqb f d) (2 * e) f (ne_eqb f d nh) in (ap at c, omega arith))
      (cases_eq f d)

  -- with the first dart
  with_first : Rotates v (suc (2 * e)) at (put next (2 * e) d)
  with_first = Rotates-put v (2 * e) d at next rot ltd one

  -- with the edge it is a rotation
  pub Turns-put_edge : Turns v (suc e) at (put_edge e d f next)
  Turns-put_edge =
      let odd : suc (2 * e) ≡ 2 * e + 1 = omega arith in
      let more : suc (2 * e + 1) ≡ 2 * suc e = omega arith in
      subst (λ (n : ℕ). Rotates v n at (put_edge e d f next)) more
      (Rotates-put v (2 * e + 1) (cond (eqb f d) (2 * e) f) at (put next (2 * e) d) (subst (λ (n : ℕ). Rotates v n at (put next (2 * e) d)) odd with_first) (omega (arith, second_at.1)) (two ∙ sym second_at.0))

  -- without the edge it is the old rotation
  pub drop_edge-put_edge : (y : ℕ) → y < 2 * e → drop_edge e (put_edge e d f next) y ≡ next y
  drop_edge-put_edge y lt =
      let odd : suc (2 * e) ≡ 2 * e + 1 = omega arith in
      let inner : (z : ℕ) → z < 2 * e + 1 → splice (put_edge e d f next) (2 * e + 1) z ≡ put next (2 * e) d z = λ z l. splice-put v (2 * e + 1) (cond (eqb f d) (2 * e) f) at (put next (2 * e) d) (subst (λ (n : ℕ). Rotates v n at (put next (2 * e) d)) odd with_first) (omega (arith, second_at.1)) (two ∙ sym second_at.0) z l in
      splice-agree (splice (put_edge e d f next) (2 * e + 1)) (put next (2 * e) d) (2 * e) y (inner y (omega arith)) (inner (2 * e) (omega arith))
      ∙ splice-put v (2 * e) d at next rot ltd one y lt

  -- put in within a face, genus zero stays
  pub put_edge-zero : labels (graph (face_upto next e) (2 * e)) (next d) ≡ labels (graph (face_upto next e) (2 * e))
      (next f) → v + faces v e at next ≡ e + 2 * components v e at
      → v + faces v (suc e) at (put_edge e d f next) ≡ suc e + 2 * components v (suc e) at
  put_edge-zero same zero_genus = insert-zero v e at (put_edge e d f next) Turns-put_edge
      (⊎_elim equal differ (cases_eq f d))
      (zero-agree v e at next at (drop_edge e (put_edge e d f next)) (λ y lt. refl) (λ y lt. sym (drop_edge-put_edge y lt)) zero_genus)
    where
      label : ℕ → ℕ
      label = labels (graph (face_upto (put_edge e d f next) e) (2 * suc e))

      after_step : (y : ℕ) → 2 * e ≤ y → y < 2 * suc e → label y ≡ label (put_edge e d f next y)
      after_step y le lt = label_step (face_upto (put_edge e d f next) e) (2 * suc e) y lt ∙ ap label (face_upto-past e (put_edge e d f next) y le)

      old : (y : ℕ) → y < 2 * e → label y ≡ labels (graph (face_upto next e) (2 * e)) y
      old y lt =
          drop_edge-labels v e at (put_edge e d f next) Turns-put_edge y lt
          ∙ ap (λ (es : List (ℕ × ℕ)). labels es y) (graph_agree (face_upto (drop_edge e (put_edge e d f next)) e) (face_upto next e) (2 * e) (face_upto-agree (2 * e) e (drop_edge e (put_edge e d f next)) next drop_edge-put_edge (omega arith)))

      equal : f ≡ d → label (2 * e) ≡ label (2 * e + 1)
      equal h =
          let c : cond (eqb f d) (2 * e) f ≡ 2 * e = cond-true (eqb f d) (2 * e) f (eq-eqb f d h) in
          after_step (2 * e) (omega arith) (omega arith) ∙ ap label (put_behind (put next (2 * e) d) (2 * e + 1) (cond (eqb f d) (2 * e) f) (2 * e) (sym c))

      differ : (f ≡ d → ⊥) → label (2 * e) ≡ label (2 * e + 1)
      differ nh =
          let c : cond (eqb f d) (2 * e) f ≡ f = cond-false (eqb f d) (2 * e) f (ne_eqb f d nh) in
          let first : put_edge e d f next (2 * e) ≡ next d = put_other (put next (2 * e) d) (2 * e + 1) (cond (eqb f d) (2 * e) f) (2 * e) (λ h. omega arith) (λ h. omega arith) ∙ put_new next (2 * e) d (2 * e) (λ h. omega arith) refl in
          let second : put_edge e d f next (2 * e + 1) ≡ next f = put_new (put next (2 * e) d) (2 * e + 1) (cond (eqb f d) (2 * e) f) (2 * e + 1) (λ h. omega arith) refl ∙ ap (put next (2 * e) d) c ∙ put_other next (2 * e) d f nh (λ h. omega arith) in
          after_step (2 * e) (omega arith) (omega arith) ∙ ap label first ∙ old (next d) (rot.permutes.below d ltd) ∙ same
          ∙ sym (after_step (2 * e + 1) (omega arith) (omega arith) ∙ ap label second ∙ old (next f) (rot.permutes.below f ltf))

-- functions that agree on all darts agree without the last edge
pub drop_edge-agree : (e : ℕ) (f g : ℕ → ℕ) → ((y : ℕ) → y < 2 * suc e → f y ≡ g y) → (y : ℕ) → y < 2 * suc e
    → drop_edge e f y ≡ drop_edge e g y
drop_edge-agree e f g same y lt = splice-agree (splice f (2 * e + 1)) (splice g (2 * e + 1)) (2 * e) y (inner y lt) (inner (2 * e) (omega arith))
  where
    inner : (z : ℕ) → z < 2 * suc e → splice f (2 * e + 1) z ≡ splice g (2 * e + 1) z
    inner z l = splice-agree f g (2 * e + 1) z (same z l) (same (2 * e + 1) (omega arith))

-- vertex w expanded to an edge with the new vertex v: what is behind d up to f goes to v, behind the second dart;
-- behind the two new darts is exchanged what would be behind them if the edge were put in as a loop
module _ (v e d f w : ℕ) (at next at' next' : ℕ → ℕ) (rot : Turns v e at next) (rot' : Turns (suc v) (suc e) at' next')
    (ltd : d < 2 * e) (ltf : f < 2 * e) (stand_d : at d ≡ w) (stand_f : at f ≡ w)
    (behind : (y : ℕ) → y < 2 * suc e → next' y ≡ put_edge e d f next (exchange (2 * e) (2 * e + 1) y))
    (stand : (y : ℕ) → y < 2 * e → joined w v (at' y) ≡ at y) (first : at' (2 * e) ≡ w)
    (second : at' (2 * e + 1) ≡ v) where
  -- the expanded vertex is one of the old ones
  expanded_below : w < v
  expanded_below = subst (λ y. y < v) stand_d (rot.placed d ltd)

  -- the old rotation, its vertices by the new rotation
  old_turns : Turns v e (λ y. joined w v (at' y)) next
  old_turns = Rotates-agree v (2 * e) at next (λ y. joined w v (at' y)) next (λ y lt. sym (stand y lt)) (λ y lt. refl) rot

  -- contracting the new edge gives the old rotation back
  pub contracted-expanded : (y : ℕ) → y < 2 * e → contracted e next' y ≡ next y
  contracted-expanded y lt =
      drop_edge-agree e (λ z. next' (exchange (2 * e) (2 * e + 1) z)) (put_edge e d f next)
      (λ z l. behind (exchange (2 * e) (2 * e + 1) z) (exchange-below (2 * suc e) (2 * e) (2 * e + 1) z (omega arith) (omega arith) l) ∙ ap (put_edge e d f next) (exchange-exchange (2 * e) (2 * e + 1) z)) y (omega arith)
      ∙ drop_edge-put_edge v e d f (λ z. joined w v (at' z)) next old_turns ltd ltf
      (ap (joined w v) first ∙ joined_other w v w (λ h. omega (arith, expanded_below)) ∙ sym stand_d ∙ sym (stand d ltd))
      (ap (joined w v) second ∙ joined_at w v v refl ∙ sym stand_f ∙ sym (stand f ltf)) y lt

  -- expanded, genus zero stays
  pub expanded-zero : v + faces v e at next ≡ e + 2 * components v e at
      → suc v + faces (suc v) (suc e) at' next' ≡ suc e + 2 * components (suc v) (suc e) at'
  expanded-zero zero_genus = contracted-zero_back v e w at' next' rot' first second expanded_below
      (zero-agree v e at next (λ y. joined w v (at' y)) (contracted e next') (λ y lt. sym (stand y lt)) (λ y lt. sym (contracted-expanded y lt)) zero_genus)

  -- it has as many faces
  pub faces-expanded : faces (suc v) (suc e) at' next' ≡ faces v e at next
  faces-expanded = sym (faces-contracted v e w at' next' rot' first second expanded_below) ∙ sym (faces_upto-agree v (2 * e) e at next (λ y. joined w v (at' y)) (contracted e next') (λ y lt. sym (stand y lt)) (λ y lt. sym (contracted-expanded y lt)) (omega arith))

  -- it has as many components
  pub components-expanded : components (suc v) (suc e) at' ≡ components v e at
  components-expanded = sym (components-contracted v e w at' first second expanded_below) ∙ components-agree v e (λ y. joined w v (at' y)) at stand
