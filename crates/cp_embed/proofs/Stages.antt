-- The stages of an embedding, with all that the lists of the prefix may be.
use Rattle.std.proofs.Common.{◌≡◌, ℕ, ◌*◌, ◌⊎◌, ◌↔◌, List, [], ◌∷◌, ◌++◌, append_assoc, append-nil, sym, refl, ap, ◌∙◌, subst, inl, inr, ⊎_elim}
use Rattle.cp_lists.specs.CyclicLists.{Distinct, Has, Lacks}
use Rattle.cp_lists.specs.Rows.{flat}
use Rattle.cp_lists.specs.Turns.{IsTurn}
use Rattle.cp_lists.proofs.DistinctLists.{Distinct-apart, Distinct-append, Distinct-append_left, Has-append_cases, Has-append_left, Has-append_right, Lacks-from, has_lacks}
use Rattle.cp_lists.proofs.FlatLists.{flat-append}
use Rattle.cp_faces.specs.Twins.{twin}
use Rattle.cp_faces.proofs.Twins.{twin-twin}
use Rattle.cp_maps.specs.Genus.{CanBeFlat}
use Rattle.cp_maps.specs.Gluings.{Grows}
use Rattle.cp_maps.specs.Maps.{Below, IsMapOf, next_by}
use Rattle.cp_maps.specs.Mirrors.{mirror}
use Rattle.cp_maps.proofs.ListFacts.{Below-from, below_item}
use Rattle.cp_maps.proofs.MapLists.{IsMapOf-among, IsMapOf-by, IsMapOf-front}
use Rattle.cp_embed.specs.Arrangements.{IsArrangementOf}
use Rattle.cp_embed.specs.Stages.{HasVertexMore, IsPrefix, IsStageOrder}
use Rattle.cp_embed.proofs.StepOrders.{step_orders}

-- a list more
grows_more : (all : List ℕ) (group : List (List ℕ)) (row : List ℕ) (x : ℕ) → Grows all group
    → Has x (all ++ flat group) → Has (twin x) row → Grows all (group ++ row ∷ [])
grows_more all [] row x g h k = ((x, subst (Has x) (append-nil all) h, k), tt)
grows_more all (ys ∷ group) row x g h k =
    (g.0, grows_more (all ++ ys) group row x g.1 (subst (Has x) (sym (append_assoc all ys (flat group))) h) k)

module _ (e : ℕ) (r i o : ℕ) (ins outs all w : List ℕ) (may : List ℕ → List (List ℕ) → Type 0)
    (good : List ℕ → Type 0) (pre : IsPrefix all may) (dis : Distinct (((ins ++ outs) ++ (r ∷ w)) ++ all))
    (below : Below (2 * e) (((ins ++ outs) ++ (r ∷ w)) ++ all)) (root : Has (twin r) all) (one : Has i ins)
    (other : Has o outs) (of_ins : (d : ℕ) → Has d ins → Has (twin d) all)
    (of_outs : (d : ℕ) → Has d outs → Has (twin d) w)
    (of_w : (d : ℕ) → Has d w → Has (twin d) all ⊎ Has (twin d) outs)
    (turns : (us vs : List ℕ) → IsTurn us vs → good us → good vs) where
  -- what is not in the prefix
  abbrev outside : List ℕ
  outside = (ins ++ outs) ++ (r ∷ w)

  -- the lists have a map
  lists_map : (zs : List ℕ) (group : List (List ℕ)) → may zs group
      → IsMapOf (2 * e) (next_by ((ins ++ outs) ∷ (r ∷ w) ∷ zs ∷ group)) ((ins ++ outs) ∷ (r ∷ w) ∷ zs ∷ group)
  lists_map zs group m =
      let a : IsArrangementOf (zs ++ flat group) all = pre.darts zs group m in
      let regroup : outside ++ (zs ++ flat group) ≡ (ins ++ outs) ++ ((r ∷ w) ++ (zs ++ flat group)) = append_assoc
      (ins ++ outs) (r ∷ w) (zs ++ flat group) in
      IsMapOf-by (2 * e) ((ins ++ outs) ∷ (r ∷ w) ∷ zs ∷ group)
      (subst Distinct regroup (Distinct-append outside (zs ++ flat group)
      (Distinct-append_left outside all dis) a.distinct
      (λ d h. Lacks-from d (zs ++ flat group)
      (λ k. has_lacks d all ((a.items d).0 k) (Distinct-apart d outside all dis h)))))
      (subst (Below (2 * e)) regroup (Below-from (2 * e) (outside ++ (zs ++ flat group))
      (λ d h. below_item (2 * e) d (outside ++ all) below
      (⊎_elim (λ k. Has-append_left d outside all k) (λ k. Has-append_right d outside all ((a.items d).0 k))
      (Has-append_cases d outside (zs ++ flat group) h)))))

  -- the step for lists of the prefix
  orders_of : (zs : List ℕ) (group : List (List ℕ)) → may zs group
      → ((row : List ℕ) × IsArrangementOf row (ins ++ outs) × good row × CanBeFlat e (row ∷ (r ∷ w) ∷ zs ∷ group))
      ↔ ((us : List ℕ) × (vs : List ℕ) × (front : List ℕ) × (behind : List ℕ) × IsArrangementOf us ins ×
      IsArrangementOf vs outs × good (us ++ vs) × (w ≡ front ++ (mirror vs ++ behind)) × CanBeFlat e
      ((r ∷ (front ++ (us ++ behind))) ∷ zs ∷ group))
  orders_of zs group m =
      let a : IsArrangementOf (zs ++ flat group) all = pre.darts zs group m in
      step_orders e (next_by ((ins ++ outs) ∷ (r ∷ w) ∷ zs ∷ group)) r i o ins outs zs group w (lists_map zs group m)
      (pre.grows zs group m) ((a.items (twin r)).1 root) one other
      (λ d h. (a.items (twin d)).1 (of_ins d h)) of_outs
      (λ d h. ⊎_elim (λ k. inl ((a.items (twin d)).1 k)) (λ k. inr k) (of_w d h)) good turns

  -- the orders of the next stage are those of this one with a run of ins exchanged for outs
  pub stage_step : IsStageOrder e r (HasVertexMore may good (ins ++ outs)) w
      ↔ ((us : List ℕ) × (vs : List ℕ) × (front : List ℕ) × (behind : List ℕ) × IsArrangementOf us ins ×
      IsArrangementOf vs outs × good (us ++ vs) × (w ≡ front ++ (mirror vs ++ behind)) × IsStageOrder e r may
      (front ++ (us ++ behind)))
  stage_step = (
    λ s.
        let zs : List ℕ = s.0 in
        let group : List (List ℕ) = s.2.0 in
        let row : List ℕ = s.2.1 in
        let can : CanBeFlat e ((r ∷ w) ∷ zs ∷ (group ++ row ∷ [])) = subst
        (λ gs. CanBeFlat e ((r ∷ w) ∷ zs ∷ gs)) s.2.2 s.3 in
        let is_f : IsMapOf (2 * e) can.0 (row ∷ (r ∷ w) ∷ zs ∷ group) = subst
        (λ gs. IsMapOf (2 * e) can.0 (row ∷ (r ∷ w) ∷ zs ∷ gs)) (append-nil group)
        (IsMapOf-front (2 * e) can.0 row ((r ∷ w) ∷ zs ∷ group) [] can.1) in
        let q = (orders_of zs group s.2.3).0 (row, s.2.4, s.2.5, (can.0, is_f, can.2)) in
        (q.0, q.1, q.2, q.3, q.4, q.5, q.6, q.7, (zs, group, s.2.3, q.8)),
    λ q.
        let zs : List ℕ = q.8.0 in
        let group : List (List ℕ) = q.8.1 in
        let t : (row : List ℕ) × IsArrangementOf row (ins ++ outs) × good row × CanBeFlat e
        (row ∷ (r ∷ w) ∷ zs ∷ group) = (orders_of zs group q.8.2).1
        (q.0, q.1, q.2, q.3, q.4, q.5, q.6, q.7, q.8.3) in (
          zs,
          group ++ t.0 ∷ [],
          (group, t.0, refl, q.8.2, t.1, t.2),
          (
            t.3.0,
            IsMapOf-among (2 * e) t.3.0 t.0 ((r ∷ w) ∷ zs ∷ group) []
                (subst (λ gs. IsMapOf (2 * e) t.3.0 (t.0 ∷ (r ∷ w) ∷ zs ∷ gs)) (sym (append-nil group)) t.3.1),
            t.3.2,
          ),
        ),
  )

-- and a prefix with a vertex more is connected
pub IsPrefix-more : (i : ℕ) (items all : List ℕ) (may : List ℕ → List (List ℕ) → Type 0) (good : List ℕ → Type 0)
    → IsPrefix all may → Has i items → Has (twin i) all → ((d : ℕ) → Has d all → Lacks d items)
    → IsPrefix (all ++ items) (HasVertexMore may good items)
IsPrefix-more i items all may good pre one joined apart = record {
  grows = λ zs more s. subst (Grows zs) (sym s.2)
      (grows_more zs s.0 s.1 (twin i) (pre.grows zs s.0 s.3) (((pre.darts zs s.0 s.3).items (twin i)).1 joined)
      (subst (λ y. Has y s.1) (sym (twin-twin i)) ((s.4.items i).1 one)));
  darts = λ zs more s.
      let a : IsArrangementOf (zs ++ flat s.0) all = pre.darts zs s.0 s.3 in
      let whole : (zs ++ flat s.0) ++ s.1 ≡ zs ++ flat more =
      append_assoc zs (flat s.0) s.1 ∙ ap (λ us. zs ++ (flat s.0 ++ us)) (sym (append-nil s.1))
      ∙ ap (λ us. zs ++ us) (sym (flat-append s.0 (s.1 ∷ []))) ∙ ap (λ gs. zs ++ flat gs) (sym s.2)
      in
      subst (λ us. IsArrangementOf us (all ++ items)) whole (record {
        distinct = Distinct-append (zs ++ flat s.0) s.1 a.distinct s.4.distinct
            (λ d h. Lacks-from d s.1 (λ k. has_lacks d items ((s.4.items d).0 k) (apart d ((a.items d).0 h))));
        items = λ d. (
          λ k. ⊎_elim (λ l. Has-append_left d all items ((a.items d).0 l))
              (λ l. Has-append_right d all items ((s.4.items d).0 l))
              (Has-append_cases d (zs ++ flat s.0) s.1 k),
          λ k. ⊎_elim (λ l. Has-append_left d (zs ++ flat s.0) s.1 ((a.items d).1 l))
              (λ l. Has-append_right d (zs ++ flat s.0) s.1 ((s.4.items d).1 l)) (Has-append_cases d all items k),
        );
      });
}
