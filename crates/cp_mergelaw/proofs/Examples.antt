-- Small maps on which the laws are tried.
use Rattle.std.proofs.Common.{◌≢◌, ℕ, List, [], ◌∷◌, ap, sym, ◌∙◌, inl, inr, ⊎_elim, arith, refl}
use Rattle.std.specs.List.{filter}
use Rattle.cp_lists.specs.CyclicLists.{Distinct, Has}
use Rattle.cp_lists.specs.Turns.{IsTurn}
use Rattle.cp_faces.specs.Twins.{twin}
use Rattle.cp_faces.proofs.Twins.{twin-twin}
use Rattle.cp_maps.specs.Genus.{CanBeFlat}
use Rattle.cp_maps.specs.Maps.{IsMapOf, has, next_by}
use Rattle.cp_maps.proofs.MapLists.{IsMapOf-by}
use Rattle.cp_mergelaw.specs.Branches.{Branch, HasTwins, IsBranchOf, all_darts}
use Rattle.cp_mergelaw.specs.Sides.{AreSides, IsMergedSide}
use Rattle.cp_mergelaw.proofs.JoinedBranches.{permuted_branches-CanBeFlat}
use Rattle.cp_mergelaw.proofs.MergedSides.{merged_side-IsMergedSide}

-- two vertices of a side, each with one edge to one other vertex
abbrev two_leaves : List (List ℕ)
two_leaves = (0 ∷ []) ∷ (2 ∷ []) ∷ (1 ∷ 3 ∷ []) ∷ []

-- their map
two_leaves-IsMapOf : IsMapOf 4 (next_by two_leaves) two_leaves
two_leaves-IsMapOf = IsMapOf-by 4 two_leaves (
  ((λ h. omega arith), ((λ h. omega arith), ((λ h. omega arith), tt))),
  (((λ h. omega arith), ((λ h. omega arith), tt)), (((λ h. omega arith), tt), (tt, tt))),
)
    (omega arith, (omega arith, (omega arith, (omega arith, tt))))

-- the two sides
two_leaves-AreSides : AreSides ((0 ∷ []) ∷ (2 ∷ []) ∷ []) ((1 ∷ 3 ∷ []) ∷ [])
two_leaves-AreSides = record {
  across = λ d h. ⊎_elim (λ k. inl (ap twin k)) (λ l. ⊎_elim (λ k. inr (inl (ap twin k))) (λ m. absurd m) l) h;
  back = λ d h. ⊎_elim (λ k. inl (ap twin k)) (λ l. ⊎_elim (λ k. inr (inl (ap twin k))) (λ m. absurd m) l) h;
}

-- the two are made one vertex
two_leaves-IsMergedSide : (whole : List ℕ) × IsMergedSide 2 ((0 ∷ []) ∷ (2 ∷ []) ∷ []) ((1 ∷ 3 ∷ []) ∷ []) whole
two_leaves-IsMergedSide =
    merged_side-IsMergedSide 2 (next_by two_leaves) (0 ∷ []) ((2 ∷ []) ∷ []) ((1 ∷ 3 ∷ []) ∷ []) two_leaves-IsMapOf tt
    two_leaves-AreSides (omega arith)

-- an edge as a branch
abbrev edge_branch : ℕ → Branch
edge_branch x = record { head = x; tail = twin x ∷ []; inner = [] }

-- three edges between two poles, in the order in which they are to be put
abbrev three_edges : List Branch
three_edges = edge_branch 2 ∷ edge_branch 0 ∷ edge_branch 4 ∷ []

-- the poles
abbrev two_poles : List (List ℕ)
two_poles = (0 ∷ 2 ∷ 4 ∷ []) ∷ (5 ∷ 3 ∷ 1 ∷ []) ∷ []

-- their map
two_poles-IsMapOf : IsMapOf 6 (next_by two_poles) two_poles
two_poles-IsMapOf = IsMapOf-by 6 two_poles (
  ((λ h. omega arith), ((λ h. omega arith), ((λ h. omega arith), ((λ h. omega arith), ((λ h. omega arith), tt))))),
  (
    ((λ h. omega arith), ((λ h. omega arith), ((λ h. omega arith), ((λ h. omega arith), tt)))),
    (
      ((λ h. omega arith), ((λ h. omega arith), ((λ h. omega arith), tt))),
      (((λ h. omega arith), ((λ h. omega arith), tt)), (((λ h. omega arith), tt), (tt, tt))),
    ),
  ),
)
    (omega arith, (omega arith, (omega arith, (omega arith, (omega arith, (omega arith, tt))))))

-- an edge has both its darts
edge-HasTwins : (x : ℕ) → HasTwins (edge_branch x)
edge-HasTwins x d h = ⊎_elim (λ k. inr (inl (sym (twin-twin x) ∙ ap twin k)))
    (λ l. ⊎_elim (λ k. inl (ap twin k)) (λ m. absurd m) l) h

-- no dart is in two of them
three_edges-once : Distinct (all_darts [] [] three_edges)
three_edges-once = (
  ((λ h. omega arith), ((λ h. omega arith), ((λ h. omega arith), ((λ h. omega arith), ((λ h. omega arith), tt))))),
  (
    ((λ h. omega arith), ((λ h. omega arith), ((λ h. omega arith), ((λ h. omega arith), tt)))),
    (
      ((λ h. omega arith), ((λ h. omega arith), ((λ h. omega arith), tt))),
      (((λ h. omega arith), ((λ h. omega arith), tt)), (((λ h. omega arith), tt), (tt, tt))),
    ),
  ),
)

-- the first edge beside the second, read from the dart of the first
edge-IsBranchOf : (x y : ℕ) → Has x (0 ∷ 2 ∷ 4 ∷ []) → Has y (0 ∷ 2 ∷ 4 ∷ []) → y ≢ x
    → IsTurn (filter (λ d. has d (twin y ∷ twin x ∷ [])) (5 ∷ 3 ∷ 1 ∷ [])) (twin y ∷ twin x ∷ [])
    → IsBranchOf 3 (0 ∷ 2 ∷ 4 ∷ []) (5 ∷ 3 ∷ 1 ∷ []) [] (edge_branch x)
edge-IsBranchOf x y hx hy two order = record {
  y = y;
  q = twin y;
  keep = λ d. has d (twin y ∷ twin x ∷ []);
  at_one = hx;
  other = hy;
  two = two;
  order = order;
  linked = inr (record { others = []; beside = λ f is. is; twins = refl });
}

-- so they can be put in this order
three_edges-CanBeFlat : CanBeFlat 3 ((2 ∷ 0 ∷ 4 ∷ []) ∷ (5 ∷ 1 ∷ 3 ∷ []) ∷ [])
three_edges-CanBeFlat =
    permuted_branches-CanBeFlat 3 (next_by two_poles) (0 ∷ 2 ∷ 4 ∷ []) (5 ∷ 3 ∷ 1 ∷ []) [] [] [] three_edges
    two_poles-IsMapOf (omega arith) (
      edge-IsBranchOf 2 0 (inr (inl refl)) (inl refl) (λ h. omega arith) (1, omega arith, refl),
      (
        edge-IsBranchOf 0 2 (inl refl) (inr (inl refl)) (λ h. omega arith) (0, omega arith, refl),
        (edge-IsBranchOf 4 0 (inr (inr (inl refl))) (inl refl) (λ h. omega arith) (1, omega arith, refl), tt),
      ),
    )
    (edge-HasTwins 2, (edge-HasTwins 0, (edge-HasTwins 4, tt))) three_edges-once
    (next_by ([] ∷ []), IsMapOf-by 6 ([] ∷ []) tt tt, omega arith)
