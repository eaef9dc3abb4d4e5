-- Propagate as a step: an instance is solvable exactly where what it makes of it is, and solutions are turned back.
use Rattle.std.proofs.Common.{◌≡◌, ℕ, Bool, true, false, ◌↔◌, eqb, List, [], ◌∷◌, map, sym, refl, ◌∙◌, subst, ⊎_elim, arith, suc}
use Rattle.std.specs.Prelude.{None, Some, find}
use Rattle.std.specs.List.{Contains}
use Rattle.std.proofs.lemmas.Bool.{cases_Bool, cond-false, cond-true}
use Rattle.cp_base.specs.declared.shape.Shape.{Shape}
use Rattle.cp_base.specs.Shapes.{Admits, leaves}
use Rattle.cp_board.specs.declared.parts.Pipe.{Pipe}
use Rattle.cp_board.specs.declared.steps.Step.TheVariants.{Propagate}
use Rattle.cp_board.specs.Effects.{After}
use Rattle.cp_board.specs.Instances.{Synchronized, IsSynchronized, edges_of, vert_names}
use Rattle.cp_board.specs.Solutions.{IsSolution, IsSolvable, Solves, list_in}
use Rattle.cp_board.specs.Steps.{Allowed, IsFitting}
use Rattle.cp_board.proofs.NamedLists.{arranged}
use Rattle.std.proofs.lemmas.List.Sorted.{Contains-permutation, IsPermutation-sym}
use Rattle.cp_plantlaw.specs.Readings.{IsReadBack}
use Rattle.cp_plantlaw.proofs.PropagateLaw.{IsSolvable-before, IsSolvable-propagated, read_back-Solves}
use Rattle.cp_plantlaw.proofs.PropagatedRules.{AreSmall, IsSynchronized-propagated}
use Rattle.cp_plantlaw.proofs.SolvedBlocks.{Solves-IsBlockOrder}

-- what is found is one of the items
pub found-Contains : {A : Type 0} (test : A → Bool) (xs : List A) (x : A) → find test xs ≡ Some x → Contains xs x
found-Contains {A} test [] x e = let none : None ≡ Some x = e in absurd cc
found-Contains {A} test (y ∷ ys) x e = ⊎_elim
    (λ (t : test y ≡ true).
    let same : Some y ≡ Some x = sym (cond-true (test y) (Some y) (find test ys) t) ∙ e in
    let one : y ≡ x = cc in
    (0, omega arith, one))
    (λ (f : test y ≡ false).
    let rest = found-Contains test ys x (sym (cond-false (test y) (Some y) (find test ys) f) ∙ e) in
    (suc rest.0, omega (arith, rest.1), rest.2))
    (cases_Bool (test y))

-- a step that is allowed on an instance keeps the rules, where its new names are small enough
pub propagate-IsSynchronized : (i j : Synchronized) → IsSynchronized i → (pipe u : ℕ) (shape : Shape)
    → Allowed i (Propagate pipe u shape)
    → (after : After i (Propagate pipe u shape) j)
    → AreSmall i j after.0 u shape after.2
    → IsSynchronized j
propagate-IsSynchronized i j is pipe u shape allowed after small =
    let both : Some allowed.0 ≡ Some after.0 = sym allowed.1 ∙ after.1 in
    let same : allowed.0 ≡ after.0 = cc in
    let fits : IsFitting i after.0 u shape = subst (λ (q : Pipe). IsFitting i q u shape) same allowed.2 in
    IsSynchronized-propagated i j is after.0
    (found-Contains (λ q. eqb q.name pipe) i.pipes after.0 after.1) u fits.end shape
    fits.leaves after.2 small

-- a step that is allowed on an instance, and what it makes of it
module _ (i j : Synchronized) (is_i : IsSynchronized i) (is_j : IsSynchronized j) (pipe u : ℕ) (shape : Shape)
    (allowed : Allowed i (Propagate pipe u shape)) (after : After i (Propagate pipe u shape) j) where
  -- the pipe
  abbrev pub p : Pipe
  p = after.0

  -- it is one of the instance
  pub live : Contains i.pipes p
  live = found-Contains (λ q. eqb q.name pipe) i.pipes p after.1

  -- the step fits it
  pub fitting : IsFitting i p u shape
  fitting =
      let both : Some allowed.0 ≡ Some p = sym allowed.1 ∙ after.1 in
      let same : allowed.0 ≡ p = cc in
      subst (λ (q : Pipe). IsFitting i q u shape) same allowed.2

  -- the root is an edge of the end
  root_edge : Contains (edges_of i u) shape.root
  root_edge =
      Contains-permutation (shape.root ∷ leaves shape.body) (edges_of i u) shape.root
      (IsPermutation-sym (edges_of i u) (shape.root ∷ leaves shape.body)
      (arranged (edges_of i u) (shape.root ∷ leaves shape.body) fitting.leaves)) (0, omega arith, refl)

  -- the shape admits the list of the end in each solution
  pub solution-Admits : (s : ℕ → List ℕ) → Solves i s → Admits shape (s u)
  solution-Admits s sol = fitting.admits (s u) (Solves-IsBlockOrder i is_i s sol u shape.root root_edge fitting.uncut)

  -- lists read back from a solution after the step solve the instance before it
  pub propagate-Solves_before : (t s : ℕ → List ℕ) → Solves j t → IsReadBack i p u shape.root after.2.rows_u t s
      → Solves i s
  propagate-Solves_before t s sol back =
      read_back-Solves i j is_i is_j p live u fitting.end shape fitting.leaves after.2 t sol s back

  -- also as lists with names
  pub propagate-IsSolution_before : (lists before : List (ℕ × List ℕ)) → IsSolution j lists
      → map (λ x. x.0) before ≡ vert_names i
      → IsReadBack i p u shape.root after.2.rows_u (list_in lists) (list_in before)
      → IsSolution i before
  propagate-IsSolution_before lists before sol names back =
      record { names = names; solves = propagate-Solves_before (list_in lists) (list_in before) sol.solves back }

  -- the step keeps solvability
  pub propagate-IsSolvable : IsSolvable i ↔ IsSolvable j
  propagate-IsSolvable = (
    λ h. IsSolvable-propagated i j is_i is_j p live u fitting.end shape fitting.leaves after.2 h.0 h.1
        (solution-Admits h.0 h.1),
    λ h. IsSolvable-before i j is_i is_j p live u fitting.end shape fitting.leaves after.2 h.0 h.1,
  )
