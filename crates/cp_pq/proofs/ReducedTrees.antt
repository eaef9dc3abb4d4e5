-- A tree with a change at the place of a set is reduced by the set.
use Rattle.std.proofs.Common.{◌≡◌, ℕ, ◌+◌, ◌<◌, Bool, true, false, List, [], ◌∷◌, ◌++◌, refl, sym, ◌∙◌, subst, subst₂, arith}
use Rattle.std.specs.Prelude.{nat_lt}
use Rattle.std.specs.List.{list_all}
use Rattle.std.proofs.lemmas.Bool.{and_parts}
use Rattle.std.proofs.lemmas.List.Folds.{list_all-append}
use Rattle.cp_base.specs.declared.equation.Equation.{Equation}
use Rattle.cp_pq.specs.declared.node.Node.{Node}
use Rattle.cp_pq.specs.declared.frame.Label.{Label}
use Rattle.cp_pq.specs.declared.frame.Frame.{Frame}
use Rattle.cp_pq.specs.declared.step.Place.{Place}
use Rattle.cp_pq.specs.declared.change.Change.{Change}
use Rattle.cp_pq.specs.Nodes.{has_vars_below}
use Rattle.cp_pq.specs.Trees.{make_tree, IsWellFormed}
use Rattle.cp_pq.specs.Orders.{inside, outside}
use Rattle.cp_pq.specs.Promises.{IsReduced, IsNeverConsecutive}
use Rattle.cp_pq.specs.Words.{Licensed}
use Rattle.cp_pq.specs.Keeping.{any_bound, Keeps}
use Rattle.cp_pq.specs.Frames.{node_of, fill}
use Rattle.cp_pq.specs.Steps.{IsPlace}
use Rattle.cp_pq.specs.Roots.{IsChange}
use Rattle.cp_pq.specs.Ties.{tie_equations}
use Rattle.cp_pq.proofs.NodeTests.{below_P, below_Q}
use Rattle.cp_pq.proofs.NodeReadings.{below_more}
use Rattle.cp_pq.proofs.FilledChanges.{done_filled, never_filled, keeps_filled}
use Rattle.cp_pq.proofs.Reductions.{refused, still_formed, reduced_kept, reduced_old, over_old, reduced_new, over_new}

-- the vars of what stands at the place are vars of the whole
below_node : (m : ℕ) (label : Label) (ks : List Node) → has_vars_below m (node_of label ks) ≡ true
    → list_all (has_vars_below m) ks ≡ true
below_node m (Label.P o) ks h = sym (below_P m o ks) ∙ h
below_node m (Label.Q v) ks h = (and_parts (nat_lt v m) (list_all (has_vars_below m) ks) (sym (below_Q m v ks) ∙ h)).1

-- where the vars of the whole are below a number, those of what stands at the place are
below_filled : (m : ℕ) (fs : List Frame) (k n : Node) → n ∷ [] ≡ fill fs (k ∷ []) → has_vars_below m n ≡ true
    → has_vars_below m k ≡ true
below_filled m [] k n e h = let a : n ≡ k = cc in subst (λ z. has_vars_below m z ≡ true) a h
below_filled m (f ∷ fs) k n e h =
    let g = below_filled m fs (node_of f.label (f.before ++ k ∷ f.after)) n e h in
    let a = below_node m f.label (f.before ++ k ∷ f.after) g in
    let b = and_parts (list_all (has_vars_below m) f.before) (list_all (has_vars_below m) (k ∷ f.after)) (sym (list_all-append (has_vars_below m) f.before (k ∷ f.after)) ∙ a) in
    (and_parts (has_vars_below m k) (list_all (has_vars_below m) f.after) b.1).0

module _ (set : List ℕ) (root vars : ℕ) (body : Node) (eqs : List Equation) (wf : IsWellFormed
    (make_tree root body vars eqs)) (apart : outside set root ≡ true)
    (place : Place) (at : IsPlace (outside set) (inside set) body place) where
  -- whether a leaf is outside the set
  abbrev q : ℕ → Bool
  q = outside set

  -- whether a leaf is in the set
  abbrev p : ℕ → Bool
  p = inside set

  -- the whole keeps what the node at the place keeps
  keeps_whole : (V : ℕ → Type 0) (m new : Node) → new ∷ [] ≡ fill place.frames (m ∷ []) → Keeps V (at.0 ∷ []) (m ∷ [])
      → Keeps V (body ∷ []) (new ∷ [])
  keeps_whole V m new e k = subst₂ (Keeps V) (sym at.1) (sym e) (keeps_filled V place.frames at.0 m k)

  -- where the set is never together at the place, it is consecutive in no order of the tree
  pub never_at : IsChange q p vars at.0 Change.Never → IsNeverConsecutive set (make_tree root body vars eqs)
  never_at c = refused set root vars body eqs wf apart (never_filled q p (λ x. refl) place.frames at.0 body at.2 at.1 c)

  -- where the node there becomes one without ties, the tree with it is well formed and is reduced by the set
  pub kept_at : (m new : Node) → new ∷ [] ≡ fill place.frames (m ∷ []) → IsChange q p vars at.0 (Change.Kept m)
      → IsWellFormed (make_tree root new vars eqs) × IsReduced set (make_tree root body vars eqs)
      (make_tree root new vars eqs)
  kept_at m new e c =
      let k = keeps_whole any_bound m new e c.1 in (
        still_formed set root vars body eqs wf apart new any_bound vars eqs k tt wf.vars_below wf.equations_below,
        reduced_kept set root vars body eqs wf apart new (λ y. done_filled q p (λ x. refl) false y (λ may. Unit {0}) place.frames at.0 m body new at.2 at.1 e (c.0 y)) k,
      )

  -- and where it becomes one with ties to the bit of a var that it has
  pub old_at : (m new : Node) (y : ℕ) (ties : List (ℕ × Bool)) (all : List Equation)
      → new ∷ [] ≡ fill place.frames (m ∷ []) → all ≡ eqs ++ tie_equations y ties
      → IsChange q p vars at.0 (Change.Old m y ties)
      → IsWellFormed (make_tree root new vars all) × IsReduced set (make_tree root body vars eqs)
      (make_tree root new vars all)
  old_at m new y ties all e es c =
      let k = keeps_whole any_bound m new e c.1 in
      let lt = c.2 vars (below_filled vars place.frames at.0 body at.1 wf.vars_below) in
      let d = done_filled q p (λ x. refl) true y (λ may. Licensed false may ties) place.frames at.0 m body new at.2 at.1 e c.0 in
      subst (λ z. IsWellFormed (make_tree root new vars z) × IsReduced set (make_tree root body vars eqs) (make_tree root new vars z)) (sym es) (
        still_formed set root vars body eqs wf apart new any_bound vars (eqs ++ tie_equations y ties) k tt wf.vars_below (over_old set root vars body eqs wf apart new ties y d lt),
        reduced_old set root vars body eqs wf apart new ties y d k lt,
      )

  -- and where it becomes one with ties to the bit of a new var
  pub new_at : (m new : Node) (ties : List (ℕ × Bool)) (all : List Equation) → new ∷ [] ≡ fill place.frames (m ∷ [])
      → all ≡ eqs ++ tie_equations vars ties → IsChange q p vars at.0 (Change.New m ties)
      → IsWellFormed (make_tree root new (vars + 1) all) × IsReduced set (make_tree root body vars eqs)
      (make_tree root new (vars + 1) all)
  new_at m new ties all e es c =
      let k = keeps_whole (λ n. vars < n) m new e c.1 in
      let d = done_filled q p (λ x. refl) false vars (λ may. Licensed false may ties) place.frames at.0 m body new at.2 at.1 e c.0 in
      subst (λ z. IsWellFormed (make_tree root new (vars + 1) z) × IsReduced set (make_tree root body vars eqs) (make_tree root new (vars + 1) z)) (sym es) (
        still_formed set root vars body eqs wf apart new (λ n. vars < n) (vars + 1) (eqs ++ tie_equations vars ties) k (omega arith) (below_more vars (vars + 1) (omega arith) body wf.vars_below) (over_new set root vars body eqs wf apart new ties d),
        reduced_new set root vars body eqs wf apart new ties d k,
      )
