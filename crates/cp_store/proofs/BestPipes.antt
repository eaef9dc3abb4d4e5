-- The best of some pipes and of one more, and the pipe that is it.
use Rattle.std.proofs.Common.{◌≡◌, ◌⊎◌, ℕ, ◌+◌, ◌<◌, ◌≤◌, eqb, List, [], ◌∷◌, ◌++◌, length, inl, inr, ◌∙◌, subst, arith, ⊎_elim}
use Rattle.std.specs.Prelude.{Some, find, slice_index_or}
use Rattle.std.specs.List.{All, Contains}
use Rattle.std.proofs.lemmas.List.{get_or-append-add, length-append}
use Rattle.std.proofs.Math.ListN.{get_or-append}
use Rattle.std.proofs.lemmas.List.Elements.{All-append, All-cons, All-nil}
use Rattle.cp_board.specs.declared.parts.Pipe.{Pipe}
use Rattle.cp_board.specs.Instances.{Synchronized, IsSynchronized, pipe_names}
use Rattle.cp_board.specs.Runs.{IsGreatestName}
use Rattle.cp_board.proofs.NamedLists.{rises_from, found_at}
use Rattle.cp_store.specs.BestPipe.{IsBestOf}

-- what a pipe is worse than
abbrev IsWorse : ℕ → ℕ → Pipe → Type 0
IsWorse degree name q = (length q.pairs < degree) ⊎ ((length q.pairs ≡ degree) × (name ≤ q.name))

-- a pipe of some pipes is one of them and one more
kept_live : (ps : List Pipe) (p q : Pipe) → Contains ps q → Contains (ps ++ p ∷ []) q
kept_live ps p q c = (c.0, omega (arith, c.1, length-append ps (p ∷ [])), get_or-append ps (p ∷ []) q c.0 c.1 ∙ c.2)

-- and so is the one more
new_live : (ps : List Pipe) (p : Pipe) → Contains (ps ++ p ∷ []) p
new_live ps p = (length ps + 0, omega (arith, length-append ps (p ∷ [])), get_or-append-add ps (p ∷ []) 0 p)

-- what is worse than a pipe among some and one more
all_worse : (ps : List Pipe) (p : Pipe) (degree name : ℕ) → All (IsWorse degree name) ps → IsWorse degree name p → All (IsWorse degree name) (ps ++ p ∷ [])
all_worse ps p degree name all it = All-append (IsWorse degree name) ps (p ∷ []) all (All-cons (IsWorse degree name) p [] it (All-nil (IsWorse degree name)))

-- the best stays
pub best-stays : (ps : List Pipe) (p : Pipe) (degree name : ℕ) → IsBestOf ps degree name → IsWorse degree name p → IsBestOf (ps ++ p ∷ []) degree name
best-stays ps p degree name best it = record {
  pipe = best.pipe;
  live = kept_live ps p best.pipe best.live;
  has_degree = best.has_degree;
  has_name = best.has_name;
  others = all_worse ps p degree name best.others it;
}

-- the new one is the best
pub best-new : (ps : List Pipe) (p : Pipe) (degree name : ℕ) → length p.pairs ≡ degree → p.name ≡ name → All (IsWorse degree name) ps → IsBestOf (ps ++ p ∷ []) degree name
best-new ps p degree name d n all = record {
  pipe = p;
  live = new_live ps p;
  has_degree = d;
  has_name = n;
  others = all_worse ps p degree name all (inr (d, omega (arith, n)));
}

-- what is worse than the best so far is worse than a better one
pub worse-greater : (ps : List Pipe) (degree name more other : ℕ) → degree < more → All (IsWorse degree name) ps → All (IsWorse more other) ps
worse-greater ps degree name more other lt all k d within =
    ⊎_elim (λ (l : length (slice_index_or ps k d).pairs < degree). inl (omega (arith, l, lt)))
    (λ (e : (length (slice_index_or ps k d).pairs ≡ degree) × (name ≤ (slice_index_or ps k d).name)). inl (omega (arith, e.0, lt))) (all k d within)

-- of equal degrees the lesser name is better
pub worse-earlier : (ps : List Pipe) (degree name other : ℕ) → other < name → All (IsWorse degree name) ps → All (IsWorse degree other) ps
worse-earlier ps degree name other lt all k d within =
    ⊎_elim (λ (l : length (slice_index_or ps k d).pairs < degree). inl l)
    (λ (e : (length (slice_index_or ps k d).pairs ≡ degree) × (name ≤ (slice_index_or ps k d).name)). inr (e.0, omega (arith, e.1, lt))) (all k d within)

-- of no pipes all are worse
pub worse-none : (degree name : ℕ) → All (IsWorse degree name) []
worse-none degree name = All-nil (IsWorse degree name)

-- the best pipe of an instance is the one of greatest degree and least name
pub IsGreatestName-best : (i : Synchronized) (degree name : ℕ) → IsSynchronized i → IsBestOf i.pipes degree name → IsGreatestName i name
IsGreatestName-best i degree name is best =
    let c = best.live in
    let p = best.pipe in (
      p,
      best.has_name,
      record {
        live = subst (λ q. find (λ x. eqb x.name q.name) i.pipes ≡ Some q) c.2 (found_at (λ (x : Pipe). x.name) i.pipes c.0 p (rises_from (pipe_names i) is.pipes_named.rise) c.1);
        others = λ k d lt.
            ⊎_elim (λ (l : length (slice_index_or i.pipes k d).pairs < degree). inl (omega (arith, l, best.has_degree)))
            (λ (e : (length (slice_index_or i.pipes k d).pairs ≡ degree) × (name ≤ (slice_index_or i.pipes k d).name)). inr (omega (arith, e.0, best.has_degree), omega (arith, e.1, best.has_name)))
            (best.others k d lt);
      },
    )
