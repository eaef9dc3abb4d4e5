-- The first stage of an embedding: one vertex and the rest.
use Rattle.std.proofs.Common.{◌≡◌, ℕ, ◌*◌, ◌↔◌, List, [], ◌∷◌, ◌++◌, map, append-nil, sym, refl, ap, ◌∙◌, subst, inl, inr, ⊎_elim}
use Rattle.cp_lists.specs.CyclicLists.{Distinct, Has, Lacks}
use Rattle.cp_lists.specs.Rows.{flat}
use Rattle.cp_lists.specs.Turns.{IsTurn}
use Rattle.cp_lists.proofs.DistinctLists.{Distinct-apart, Distinct-append, Distinct-append_left, Has-append_cases, Has-append_left, Has-append_right, Lacks-append_left, Lacks-from, has_lacks}
use Rattle.cp_lists.proofs.ReversedLists.{Distinct-reverse}
use Rattle.cp_lists.proofs.TurnedLists.{turn_parts}
use Rattle.cp_faces.specs.Twins.{twin}
use Rattle.cp_faces.proofs.Twins.{twin-twin}
use Rattle.cp_maps.specs.Genus.{CanBeFlat}
use Rattle.cp_maps.specs.Gluings.{Grows}
use Rattle.cp_maps.specs.Maps.{Below, IsMapOf, next_by}
use Rattle.cp_maps.specs.Mirrors.{mirror}
use Rattle.cp_maps.proofs.Dipoles.{flat_dipole-mirror, mirrored_dipole-IsFlat}
use Rattle.cp_maps.proofs.ListFacts.{Below-from, below_item, from_dart, its_item, other_item}
use Rattle.cp_maps.proofs.MapLists.{IsMapOf-by, IsMapOf-swap, IsMapOf-turn}
use Rattle.cp_embed.specs.Arrangements.{IsArrangementOf}
use Rattle.cp_embed.specs.Stages.{IsFirstVertex, IsPrefix, IsStageOrder}
use Rattle.cp_embed.proofs.Lists.{Has-mirror, mirror-Has}
use Rattle.cp_rot.proofs.ListEdits.{Distinct-map}

-- it is connected
pub IsPrefix-first : (good : List ℕ → Type 0) (items : List ℕ) → IsPrefix items (IsFirstVertex good items)
IsPrefix-first good items = record {
  grows = λ zs group m. subst (Grows zs) (sym m.0) tt;
  darts = λ zs group m. subst (λ us. IsArrangementOf us items)
      (sym (append-nil zs) ∙ ap (λ gs. zs ++ flat gs) (sym m.0)) m.1;
}

module _ (e : ℕ) (r : ℕ) (items w : List ℕ) (good : List ℕ → Type 0) (dis : Distinct ((r ∷ w) ++ items))
    (below : Below (2 * e) ((r ∷ w) ++ items)) (root : Has (twin r) items)
    (of_items : (d : ℕ) → Has d items → Has (twin d) (r ∷ w)) (of_w : (d : ℕ) → Has d w → Has (twin d) items)
    (turns : (us vs : List ℕ) → IsTurn us vs → good us → good vs) where
  -- the list of the vertex, by that of the rest
  abbrev mine : List ℕ
  mine = twin r ∷ mirror w

  -- the root does not stand again
  far : Lacks r w
  far = Lacks-append_left r w items dis.0

  -- it has the darts that it should
  mine_items : IsArrangementOf mine items
  mine_items = record {
    distinct = (
      Lacks-from (twin r) (mirror w)
          (λ h. has_lacks r w (subst (λ y. Has y w) (twin-twin r) (mirror-Has (twin r) w h)) far),
      Distinct-reverse
          (map twin w) (Distinct-map twin twin-twin w (Distinct-append_left w items dis.1)),
    );
    items = λ d. (
      λ h. ⊎_elim (λ k. subst (λ y. Has y items) k root)
          (λ k. subst (λ y. Has y items) (twin-twin d) (of_w (twin d) (mirror-Has d w k))) h,
      λ h. ⊎_elim (λ k. inl (ap twin k ∙ twin-twin d))
          (λ k. inr (subst (λ y. Has y (mirror w)) (twin-twin d) (Has-mirror (twin d) w k))) (of_items d h),
    );
  }

  -- the map of it
  mine_map : IsMapOf (2 * e) (next_by ((r ∷ w) ∷ mine ∷ [])) ((r ∷ w) ∷ mine ∷ [])
  mine_map = IsMapOf-by (2 * e) ((r ∷ w) ∷ mine ∷ [])
      (subst (λ us. Distinct ((r ∷ w) ++ us)) (sym (append-nil mine))
      (Distinct-append (r ∷ w) mine (Distinct-append_left (r ∷ w) items dis) mine_items.distinct
      (λ d h. Lacks-from d mine (λ k. has_lacks d items ((mine_items.items d).0 k)
      (Distinct-apart d (r ∷ w) items dis h)))))
      (subst (λ us. Below (2 * e) ((r ∷ w) ++ us)) (sym (append-nil mine))
      (Below-from (2 * e) ((r ∷ w) ++ mine)
      (λ d h. below_item (2 * e) d ((r ∷ w) ++ items) below
      (⊎_elim (λ k. Has-append_left d (r ∷ w) items k)
      (λ k. Has-append_right d (r ∷ w) items ((mine_items.items d).0 k)) (Has-append_cases d (r ∷ w) mine h)))))

  -- each list of the vertex is this one, up to a turn
  mirrored : (zs : List ℕ) → IsArrangementOf zs items → good zs → CanBeFlat e ((r ∷ w) ∷ zs ∷ []) → good mine
  mirrored zs a g can =
      let s : (us : List ℕ) × (vs : List ℕ) × (zs ≡ us ++ twin r ∷ vs) = from_dart (twin r) zs
      ((a.items (twin r)).1 root) in
      let around : List ℕ = s.1 ++ s.0 in
      let is : IsMapOf (2 * e) can.0 ((r ∷ w) ∷ (twin r ∷ around) ∷ []) = IsMapOf-swap (2 * e) can.0 (twin r ∷ around)
      (r ∷ w) []
      (IsMapOf-turn (2 * e) can.0 (s.0 ++ twin r ∷ s.1) (twin r ∷ around) ((r ∷ w) ∷ []) (turn_parts s.0 (twin r ∷ s.1))
      (subst (λ us. IsMapOf (2 * e) can.0 (us ∷ (r ∷ w) ∷ [])) s.2 (IsMapOf-swap (2 * e) can.0 (r ∷ w) zs [] can.1))) in
      let same : around ≡ mirror w = flat_dipole-mirror e can.0 r w around is
      (λ d h. ⊎_elim
      (λ k. absurd (has_lacks r w (subst (λ y. Has y w) (sym (twin-twin d) ∙ ap twin (sym k) ∙ twin-twin r) h) far))
      (λ k. k)
      (other_item (twin d) (twin r) zs s.0 s.1 s.2 ((a.items (twin d)).1 (of_w d h))))
      (λ d h. ⊎_elim
      (λ k. absurd (has_lacks (twin r) around (subst (λ y. Has y around) (sym (twin-twin d) ∙ ap twin (sym k)) h)
      is.rings.1.0.distinct.0))
      (λ k. k)
      (of_items d ((a.items d).0 (its_item d (twin r) zs s.0 s.1 s.2 h))))
      can.2 in
      subst (λ us. good (twin r ∷ us)) same
      (turns (s.0 ++ twin r ∷ s.1) (twin r ∷ around) (turn_parts s.0 (twin r ∷ s.1)) (subst good s.2 g))

  -- the orders of the first stage
  pub first_stage : IsStageOrder e r (IsFirstVertex good items) w ↔ good mine
  first_stage = (
    λ s. mirrored s.0 s.2.1 s.2.2 (subst (λ gs. CanBeFlat e ((r ∷ w) ∷ s.0 ∷ gs)) s.2.0 s.3),
    λ g. (
      mine,
      [],
      (refl, mine_items, g),
      (
        next_by ((r ∷ w) ∷ mine ∷ []),
        mine_map,
        mirrored_dipole-IsFlat e
            (next_by ((r ∷ w) ∷ mine ∷ [])) r w mine_map,
      ),
    ),
  )
