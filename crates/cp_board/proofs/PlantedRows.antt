-- Planting a branch gives one vertex and one edge from above for each inner node.
use Rattle.std.proofs.Common.{◌≡◌, ℕ, suc, ◌+◌, List, length, sym, refl, ap, ◌∙◌}
use Rattle.std.proofs.lemmas.List.{length-append}
use Rattle.cp_base.specs.declared.shape.Branch.{Branch}
use Rattle.cp_board.specs.Plantings.{Planted, Plants, PlantsAll}

-- one vertex and one edge from above for each inner node
mutual
  pub planted_sizes : (f : ℕ → ℕ) (b : Branch) (top : ℕ) (vs es : List ℕ) (rows : List Planted)
      → Plants f b top vs es rows → (length vs ≡ length rows) × (length es ≡ length rows)
  planted_sizes f _ _ _ _ _ (Plants.leaf x) = (refl, refl)
  planted_sizes f _ _ _ _ _ (Plants.free kids top v tops vs es rows all) = let h = all_sizes f kids tops vs es rows all in (ap suc h.0, ap suc h.1)
  planted_sizes f _ _ _ _ _ (Plants.fixed kids top v tops vs es rows all) = let h = all_sizes f kids tops vs es rows all in (ap suc h.0, ap suc h.1)

  all_sizes : (f : ℕ → ℕ) (ks : List Branch) (tops vs es : List ℕ) (rows : List Planted)
      → PlantsAll f ks tops vs es rows → (length vs ≡ length rows) × (length es ≡ length rows)
  all_sizes f _ _ _ _ _ PlantsAll.none = (refl, refl)
  all_sizes f _ _ _ _ _ (PlantsAll.more k ks top tops us vs ds es rows more_rows one rest) =
      let g = planted_sizes f k top us ds rows one in
      let h = all_sizes f ks tops vs es more_rows rest in
      (length-append us vs ∙ ap (λ n. n + length vs) g.0 ∙ ap (λ n. length rows + n) h.0 ∙ sym (length-append rows more_rows), length-append ds es ∙ ap (λ n. n + length es) g.1 ∙ ap (λ n. length rows + n) h.1 ∙ sym (length-append rows more_rows))
