-- The smallest step: a triangle.
use Rattle.std.proofs.Common.{ℕ, List, [], ◌∷◌, refl, subst, inl, inr, ⊎_elim, arith}
use Rattle.cp_lists.specs.CyclicLists.{Has}
use Rattle.cp_faces.specs.Twins.{twin}
use Rattle.cp_maps.specs.Genus.{CanBeFlat}
use Rattle.cp_maps.specs.Maps.{IsMapOf, next_by}
use Rattle.cp_maps.proofs.Dipoles.{mirrored_dipole-IsFlat}
use Rattle.cp_maps.proofs.MapLists.{IsMapOf-by}
use Rattle.cp_embed.specs.Arrangements.{IsArrangementOf}
use Rattle.cp_embed.specs.Stages.{HasVertexMore, IsFirstVertex, IsStageOrder}
use Rattle.cp_embed.proofs.FirstStages.{IsPrefix-first, first_stage}
use Rattle.cp_embed.proofs.Stages.{stage_step}
use Rattle.cp_embed.proofs.StepOrders.{step_orders}

-- the prefix has the darts 1 and 3, the rest 0 and 5, and the vertex 2 and 4
triangle_lists : IsMapOf 6 (next_by ((2 ∷ 4 ∷ []) ∷ (0 ∷ 5 ∷ []) ∷ (1 ∷ 3 ∷ []) ∷ []))
    ((2 ∷ 4 ∷ []) ∷ (0 ∷ 5 ∷ []) ∷ (1 ∷ 3 ∷ []) ∷ [])
triangle_lists = IsMapOf-by 6 ((2 ∷ 4 ∷ []) ∷ (0 ∷ 5 ∷ []) ∷ (1 ∷ 3 ∷ []) ∷ []) (
  ((λ h. omega arith), ((λ h. omega arith), ((λ h. omega arith), ((λ h. omega arith), ((λ h. omega arith), tt))))),
  (
    ((λ h. omega arith), ((λ h. omega arith), ((λ h. omega arith), ((λ h. omega arith), tt)))),
    (
      ((λ h. omega arith), ((λ h. omega arith), ((λ h. omega arith), tt))),
      (
        ((λ h. omega arith), ((λ h. omega arith), tt)),
        (((λ h. omega arith), tt), (tt, tt)),
      ),
    ),
  ),
)
    (omega arith, (omega arith, (omega arith, (omega arith, (omega arith, (omega arith, tt))))))

-- before the step
before_lists : IsMapOf 6 (next_by ((0 ∷ 2 ∷ []) ∷ (1 ∷ 3 ∷ []) ∷ [])) ((0 ∷ 2 ∷ []) ∷ (1 ∷ 3 ∷ []) ∷ [])
before_lists = IsMapOf-by 6 ((0 ∷ 2 ∷ []) ∷ (1 ∷ 3 ∷ []) ∷ []) (
  ((λ h. omega arith), ((λ h. omega arith), ((λ h. omega arith), tt))),
  (
    ((λ h. omega arith), ((λ h. omega arith), tt)),
    (((λ h. omega arith), tt), (tt, tt)),
  ),
)
    (omega arith, (omega arith, (omega arith, (omega arith, tt))))

-- one item
alone : (d : ℕ) → IsArrangementOf (d ∷ []) (d ∷ [])
alone d = record { distinct = (tt, tt); items = λ x. ((λ h. h), (λ h. h)) }

-- the triangle has a flat map
triangle : (row : List ℕ) × IsArrangementOf row (2 ∷ 4 ∷ []) × Unit {0} × CanBeFlat 3
    (row ∷ (0 ∷ 5 ∷ []) ∷ (1 ∷ 3 ∷ []) ∷ [])
triangle = (step_orders 3 (next_by ((2 ∷ 4 ∷ []) ∷ (0 ∷ 5 ∷ []) ∷ (1 ∷ 3 ∷ []) ∷ [])) 0 2 4 (2 ∷ []) (4 ∷ [])
    (1 ∷ 3 ∷ []) [] (5 ∷ []) triangle_lists tt (inl refl) (inl refl) (inl refl)
    (λ d h. ⊎_elim (λ e. subst (λ y. Has (twin y) (1 ∷ 3 ∷ [])) e (inr (inl refl))) (λ k. absurd k) h)
    (λ d h. ⊎_elim (λ e. subst (λ y. Has (twin y) (5 ∷ [])) e (inl refl)) (λ k. absurd k) h)
    (λ d h. inr (⊎_elim (λ e. subst (λ y. Has (twin y) (4 ∷ [])) e (inl refl)) (λ k. absurd k) h))
    (λ row. Unit {0}) (λ us vs t g. tt)).1 (
      2 ∷ [],
      4 ∷ [],
      [],
      [],
      alone 2,
      alone 4,
      tt,
      refl,
      (
        next_by ((0 ∷ 2 ∷ []) ∷ (1 ∷ 3 ∷ []) ∷ []),
        before_lists,
        mirrored_dipole-IsFlat 3
            (next_by ((0 ∷ 2 ∷ []) ∷ (1 ∷ 3 ∷ []) ∷ [])) 0 (2 ∷ []) before_lists,
      ),
    )

-- the same by the stages, from the first on
triangle_stage : IsStageOrder 3 0
    (HasVertexMore (IsFirstVertex (λ us. Unit {0}) (1 ∷ 3 ∷ [])) (λ us. Unit {0}) (2 ∷ 4 ∷ [])) (5 ∷ [])
triangle_stage = (stage_step 3 0 2 4 (2 ∷ []) (4 ∷ []) (1 ∷ 3 ∷ []) (5 ∷ [])
    (IsFirstVertex (λ us. Unit {0}) (1 ∷ 3 ∷ [])) (λ us. Unit {0}) (IsPrefix-first (λ us. Unit {0}) (1 ∷ 3 ∷ []))
    triangle_lists.once triangle_lists.below (inl refl) (inl refl) (inl refl)
    (λ d h. ⊎_elim (λ e. subst (λ y. Has (twin y) (1 ∷ 3 ∷ [])) e (inr (inl refl))) (λ k. absurd k) h)
    (λ d h. ⊎_elim (λ e. subst (λ y. Has (twin y) (5 ∷ [])) e (inl refl)) (λ k. absurd k) h)
    (λ d h. inr (⊎_elim (λ e. subst (λ y. Has (twin y) (4 ∷ [])) e (inl refl)) (λ k. absurd k) h))
    (λ us vs t g. tt)).1 (
      2 ∷ [],
      4 ∷ [],
      [],
      [],
      alone 2,
      alone 4,
      tt,
      refl,
      (first_stage 3 0 (1 ∷ 3 ∷ []) (2 ∷ []) (λ us. Unit {0}) before_lists.once before_lists.below (inl refl)
          (λ d h. ⊎_elim (λ e. subst (λ y. Has (twin y) (0 ∷ 2 ∷ [])) e (inl refl))
          (λ k. ⊎_elim (λ e. subst (λ y. Has (twin y) (0 ∷ 2 ∷ [])) e (inr (inl refl))) (λ l. absurd l) k) h)
          (λ d h. ⊎_elim (λ e. subst (λ y. Has (twin y) (1 ∷ 3 ∷ [])) e (inr (inl refl))) (λ k. absurd k) h)
          (λ us vs t g. tt)).1 tt,
    )
