-- What is planted at both ends of a pipe makes the rewrite of the step.
use Rattle.std.proofs.Common.{◌≡◌, ℕ, suc, ◌+◌, not, cond, arith, ◌^◌, ◌<◌, Bool, true, false, eqb, List, [], ◌∷◌, ◌++◌, length, sym, refl, ap, ap₂, ◌∙◌, subst, subst₂, ⊎_elim}
use Rattle.std.specs.Prelude.{None, Some, find}
use Rattle.std.proofs.lemmas.Bool.{cases_Bool, cond-false, cond-true, eqb-true}
use Rattle.std.proofs.lemmas.List.Elements.{Contains-append_right}
use Rattle.cp_lists.specs.CyclicLists.{Has}
use Rattle.cp_lists.proofs.DistinctLists.{Has-Contains}
use Rattle.cp_base.specs.declared.shape.Shape.{Shape}
use Rattle.cp_board.specs.declared.parts.Pipe.{Pipe}
use Rattle.cp_board.specs.declared.steps.Step.TheVariants.{Propagate}
use Rattle.cp_board.specs.Instances.{Synchronized, IsSynchronized, cells, edge_names, names_of_verts, pipe_named, pipe_names, vert_names}
use Rattle.cp_board.specs.Names.{AreNew, new_names}
use Rattle.cp_board.specs.Plantings.{Planted, fixed_nodes, free_nodes}
use Rattle.cp_board.specs.Reductions.{Performs}
use Rattle.cp_board.specs.Rewrites.{verts_with}
use Rattle.cp_board.specs.Steps.{IsFitting}
use Rattle.cp_board.proofs.NumberOfNewNames.{length-new_names}
use Rattle.cp_plant.specs.Rewriting.{ArePlanted, PlantedEnd, planted_verts, propagating}
use Rattle.cp_plant.proofs.PropagatedMoves.{moved_all, moves_fit}
use Rattle.cp_plant.proofs.PropagateRewrites.{Performs-propagating, at_end, at_other, here, made, names_added, prop, rewrite}

-- what is found passes the test
pub found_passes : {A : Type 0} (test : A → Bool) (xs : List A) (x : A) → find test xs ≡ Some x → test x ≡ true
found_passes {A} test [] x e = let none : None ≡ Some x = e in absurd cc
found_passes {A} test (y ∷ ys) x e = ⊎_elim
    (λ (t : test y ≡ true).
    let same : Some y ≡ Some x = sym (cond-true (test y) (Some y) (find test ys) t) ∙ e in
    let one : y ≡ x = cc in
    subst (λ z. test z ≡ true) one t)
    (λ f. found_passes test ys x (sym (cond-false (test y) (Some y) (find test ys) f) ∙ e))
    (cases_Bool (test y))

-- a pipe that is found has its name
pub own_name : (i : Synchronized) (pipe : ℕ) (p : Pipe) → pipe_named i pipe ≡ Some p → p.name ≡ pipe
own_name i pipe p live = eqb-true p.name pipe (found_passes (λ (q : Pipe). eqb q.name pipe) i.pipes p live)

-- names that are asked for are new
pub asked_new : (live names : List ℕ) (n : ℕ) → names ≡ new_names live n → AreNew live names
asked_new live names n e = e ∙ ap (new_names live) (sym (length-new_names live n) ∙ ap length (sym e))

-- each row is a P-node or a Q-node
pub kinds_number : (rows : List Planted) → length (free_nodes rows) + length (fixed_nodes rows) ≡ length rows
kinds_number [] = refl
kinds_number (r ∷ rows) = by_test r.fixed (kinds_number rows)
  where
    by_test : (b : Bool) → length (free_nodes rows) + length (fixed_nodes rows) ≡ length rows
        → length (cond (not b) (r ∷ free_nodes rows) (free_nodes rows)) + length (cond b (r ∷ fixed_nodes rows) (fixed_nodes rows))
        ≡ suc (length rows)
    by_test true e = omega (arith, e)
    by_test false e = omega (arith, e)

module _ (i : Synchronized) (is : IsSynchronized i) (pipe : ℕ) (p : Pipe) (live : pipe_named i pipe ≡ Some p)
    (end : ℕ) (shape : Shape) (fits : IsFitting i p end shape) (u w : PlantedEnd) (h : ArePlanted i p end shape u w)
    (tints names : List ℕ) (one_cell : length tints ≡ length (fixed_nodes u.rows)) (new_tints : AreNew (cells i) tints)
    (one_name : length names ≡ length (free_nodes u.rows)) (named : AreNew (pipe_names i) names) where
  -- the pipe is found under its name
  live_own : pipe_named i p.name ≡ Some p
  live_own = ap (pipe_named i) (own_name i pipe p live) ∙ live

  -- what is planted at the end is told
  end_told : u ≡ at_end i is p live_own end shape fits u w h tints names one_cell new_tints one_name named
  end_told = ap₂ (λ (x : ℕ) (xs : List ℕ). record { end = x; own = xs; rows = u.rows; edges = u.edges }) h.end_u h.own_u

  -- and at the other end
  other_told : w ≡ at_other i is p live_own end shape fits u w h tints names one_cell new_tints one_name named
  other_told = ap₂ (λ (x : ℕ) (xs : List ℕ). record { end = x; own = xs; rows = w.rows; edges = w.edges }) h.end_w h.own_w

  -- so the rewrite performs the step
  pub told_performs : length (vert_names i) < 2 ^ 60 → length (edge_names i) < 2 ^ 60
      → Performs i (Propagate pipe end shape) (propagating pipe u w tints names)
  told_performs few_verts few_edges =
      let after = made i is p live_own end shape fits u w h tints names one_cell new_tints one_name named in
      let step = prop i is p live_own end shape fits u w h tints names one_cell new_tints one_name named in
      let one = here i is p live_own end shape fits u w h tints names one_cell new_tints one_name named in
      subst (λ n. Performs i (Propagate n end shape) (propagating n u w tints names)) (own_name i pipe p live)
      (subst₂ (λ x y. Performs i (Propagate p.name end shape) (propagating p.name x y tints names))
      (sym end_told) (sym other_told)
      (Performs-propagating i is p live_own end shape fits u w h tints names one_cell new_tints one_name named
      (moves_fit i after is p one end fits.end shape fits.leaves step
      (verts_with (rewrite i is p live_own end shape fits u w h tints names one_cell new_tints one_name named) i)
      (λ x k. Contains-append_right (vert_names i)
      (names_of_verts (planted_verts false tints 0 u.rows ++ planted_verts true tints 0 w.rows)) x
      ((Has-Contains x (names_of_verts (planted_verts false tints 0 u.rows ++ planted_verts true tints 0 w.rows))).0
      (subst (Has x) (sym (names_added i is p live_own end shape fits u w h tints names one_cell new_tints one_name
      named)) k))))
      (moved_all i after is p one end fits.end shape fits.leaves step) few_verts few_edges))
