-- A set of leaves of a tree: the root is not in it, and the body holds it whole.
use Rattle.std.proofs.Common.{◌≡◌, ◌≢◌, ℕ, ◌<◌, ◌≤◌, Bool, true, List, [], ◌∷◌, length, refl, sym, ◌∙◌, subst, arith}
use Rattle.std.specs.List.Sorted.{IsStrictlyIncreasing}
use Rattle.cp_lists.proofs.DistinctLists.{Lacks-from, has_lacks}
use Rattle.cp_pq.specs.declared.node.Node.{Node}
use Rattle.cp_pq.specs.declared.found.Found.{Found}
use Rattle.cp_pq.specs.declared.step.Step.{Step}
use Rattle.cp_pq.specs.declared.step.Place.{Place}
use Rattle.cp_pq.specs.Nodes.{leaves, is_branching}
use Rattle.cp_pq.specs.Trees.{PQTree, IsWellFormed}
use Rattle.cp_pq.specs.Orders.{inside, outside}
use Rattle.cp_pq.specs.Promises.{IsLeafSet}
use Rattle.cp_pq.specs.Steps.{count_in, IsStep, IsPlace}
use Rattle.cp_pq.proofs.LeafSets.{lacks_outside, set_count}

-- the root is not in the set
pub root_apart : (set : List ℕ) (tree : PQTree) → IsWellFormed tree → IsLeafSet set tree → outside set tree.root ≡ true
root_apart set tree wf s =
    lacks_outside set tree.root
    (Lacks-from tree.root set (λ h. has_lacks tree.root (leaves tree.body) (s.leaves_of tree.root h) wf.distinct.0))

-- the body holds as many leaves of the set as the set has
pub whole_count : (set : List ℕ) (tree : PQTree) → IsWellFormed tree → IsLeafSet set tree
    → count_in (inside set) tree.body ≡ length set
unfolding count_in
whole_count set tree wf s = set_count set (leaves tree.body) s.rising wf.distinct.1 s.leaves_of

-- a set that is not empty has an item
pub some_items : (set : List ℕ) → set ≢ [] → 0 < length set
some_items [] some = absurd (some refl)
some_items (x ∷ set) some = omega arith

-- what the step on the body says
pub step_is : (set : List ℕ) (tree : PQTree) (total : ℕ) (step : Step) → IsWellFormed tree → IsLeafSet set tree
    → total ≡ length set
    → (IsStrictlyIncreasing set → is_branching tree.body ≡ true → 0 < total → count_in (inside set) tree.body ≤ total
    → IsStep (outside set) (inside set) total tree.body step)
    → IsStep (outside set) (inside set) total tree.body step × (count_in (inside set) tree.body ≡ total)
step_is set tree total step wf s e f =
    let a = whole_count set tree wf s in
    let b = some_items set s.not_empty in
    (f s.rising wf.branching (omega (arith, b, e)) (omega (arith, a, e)), a ∙ sym e)

-- what holds the whole set is no open step
pub not_open : (q p : ℕ → Bool) (total : ℕ) (n : Node) (step : Step) (found : Found) (count : ℕ)
    → IsStep q p total n step → count_in p n ≡ total → step ≡ Step.Open found count → ⊥
not_open q p total n step found count s whole e =
    let g = subst (IsStep q p total n) e s in let a = g.1 in let b = g.2 in omega (arith, a, b, whole)

-- and has its place
pub placed : (q p : ℕ → Bool) (total : ℕ) (n : Node) (step : Step) (place : Place) → IsStep q p total n step
    → step ≡ Step.Root place → IsPlace q p n place
placed q p total n step place s e = (subst (IsStep q p total n) e s).1
