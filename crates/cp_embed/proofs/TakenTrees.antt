-- The calls on an order tree in which a vertex is taken: what they ask and what they give.
use Rattle.std.proofs.Common.{◌≡◌, ◌≢◌, ℕ, ◌<◌, ◌↔◌, Bool, true, false, List, [], ◌∷◌, ◌++◌, reverse, sym, refl, ap, ◌∙◌, subst, inl, inr, ⊎_elim}
use Rattle.std.specs.List.Sorted.{IsPermutation}
use Rattle.std.proofs.lemmas.Bool.{false≢true}
use Rattle.std.proofs.lemmas.List.Sorted.{IsPermutation-sym}
use Rattle.cp_lists.specs.CyclicLists.{Has, Distinct}
use Rattle.cp_lists.proofs.DistinctLists.{Lacks-from, has_lacks, Has-append_left, Has-append_right, Has-append_cases, Distinct-append_left, Distinct-append_right}
use Rattle.cp_lists.proofs.ReversedLists.{Has-reverse, reverse-Has}
use Rattle.cp_lists.proofs.TurnedLists.{turn-Has, turn-Distinct, Has-of_turn}
use Rattle.cp_pq.specs.declared.node.Node.{Node}
use Rattle.cp_pq.specs.declared.part.Part.{Part}
use Rattle.cp_pq.specs.Nodes.{leaves}
use Rattle.cp_pq.specs.Orders.{IsConsecutive}
use Rattle.cp_pq.specs.Promises.{IsLeafSet, IsReduced, IsForced, IsReplaced, IsFreshNode, star_body}
use Rattle.cp_pq.specs.Readings.{any_bit}
use Rattle.cp_pq.specs.Trees.{PQTree, Admits, IsWellFormed}
use Rattle.cp_pq.proofs.PermutedLists.{Has-IsPermutation, Distinct-IsPermutation}
use Rattle.cp_pq.proofs.ReadingLaws.{read_leaves}
use Rattle.cp_pq.proofs.Stars.{star_leaves, star_formed}
use Rattle.cp_embed.specs.Arrangements.{IsArrangementOf}
use Rattle.cp_embed.specs.Cuts.{IsCut}
use Rattle.cp_embed.specs.Splits.{IsSplit}
use Rattle.cp_embed.specs.TreeSteps.{IsFreeStep, IsListedStep, IsFreshSet, ReadsAnyOrder, ReadsRow, row_body}
use Rattle.cp_embed.proofs.DirectedSplits.{IsSplit-unique}
use Rattle.cp_embed.proofs.RowNodes.{row_leaves, row_branching, row_below, row-ReadsRow, star-ReadsAnyOrder}
use Rattle.cp_embed.proofs.StageSteps.{run-IsConsecutive}

-- a list that is not empty has an item
pub some_item : (xs : List ℕ) → xs ≢ [] → (k : ℕ) × Has k xs
some_item [] some = absurd (some refl)
some_item (x ∷ xs) some = (x, inl refl)

-- a tree with the same root and leaves as another
module _ (old mid : PQTree) (mid_root : mid.root ≡ old.root)
    (mid_leaves : IsPermutation (leaves old.body) (leaves mid.body)) where
  -- a set of leaves is one of it too
  pub IsLeafSet-kept : (set : List ℕ) → IsLeafSet set old → IsLeafSet set mid
  IsLeafSet-kept set s = record {
    rising = s.rising;
    not_empty = s.not_empty;
    leaves_of = λ x h. Has-IsPermutation x (leaves old.body) (leaves mid.body) mid_leaves (s.leaves_of x h);
  }

  -- what is no leaf of the one is none of the other
  kept_fresh : (items : List ℕ) → IsFreshSet items old → (k : ℕ) → Has k items → Has k (mid.root ∷ leaves mid.body) → ⊥
  kept_fresh items f k h l = f.fresh k h (⊎_elim
      (λ e. inl (sym mid_root ∙ e))
      (λ m. inr (Has-IsPermutation k (leaves mid.body) (leaves old.body)
      (IsPermutation-sym (leaves old.body) (leaves mid.body) mid_leaves) m))
      l)

  -- a star of new leaves may be put into it
  pub star-IsFreshNode : (set items : List ℕ) (owner : ℕ) (node : Node) → node ≡ star_body owner items
      → IsFreshSet items old → IsFreshNode set node mid
  star-IsFreshNode set items owner node is f = subst (λ n. IsFreshNode set n mid) (sym is)
      (let formed : IsWellFormed (record { root = old.root; body = star_body owner items; vars = mid.vars; equations = [] }) =
      star_formed old.root owner mid.vars items f.not_empty
      (Lacks-from old.root items (λ h. f.fresh old.root h (inl refl)), f.once)
      in
      record {
        branching = formed.branching;
        distinct = subst Distinct (sym (star_leaves owner items)) f.once;
        fresh = λ x h l. absurd (kept_fresh items f x (subst (Has x) (star_leaves owner items) h) l);
        vars_below = formed.vars_below;
      })

  -- and so may a row of new leaves
  pub row-IsFreshNode : (set items row : List ℕ) (var : ℕ) (node : Node) → node ≡ row_body var row → var < mid.vars
      → IsFreshSet items old → Distinct row → ((k : ℕ) → Has k row ↔ Has k items) → IsFreshNode set node mid
  row-IsFreshNode set items row var node is lt f once same = subst (λ n. IsFreshNode set n mid) (sym is) (record {
    branching = row_branching var row (λ none.
        let w = some_item items f.not_empty in subst (Has w.0) none ((same w.0).1 w.1));
    distinct = subst Distinct (sym (row_leaves var row)) once;
    fresh = λ x h l. absurd (kept_fresh items f x ((same x).0 (subst (Has x) (row_leaves var row) h)) l);
    vars_below = row_below mid.vars var row lt;
  })

-- the steps of a vertex without a given list
pub free-IsFreeStep : (ins outs : List ℕ) (owner : ℕ) (old mid new : PQTree) (node : Node) (part : Part)
    → node ≡ star_body owner outs → Distinct outs → IsReduced ins old mid → IsReplaced ins node mid new part
    → IsFreeStep owner ins outs old new part
free-IsFreeStep ins outs owner old mid new node part is once reduced replaced = record {
  mid = mid;
  node = node;
  reduced = reduced;
  replaced = replaced;
  node_is = is;
  reads = subst (λ n. ReadsAnyOrder n outs) (sym is) (star-ReadsAnyOrder owner outs once);
  node_leaves = λ k. (
    subst (Has k) (ap leaves is ∙ star_leaves owner outs),
    subst (Has k) (sym (ap leaves is ∙ star_leaves owner outs)),
  );
}

-- a given list, and a test that tells its edges to vertices before from its others
module _ (p : ℕ → Bool) (list ins outs : List ℕ) (once : Distinct list)
    (ins_are : (k : ℕ) → Has k ins ↔ (Has k list × (p k ≡ true)))
    (outs_are : (k : ℕ) → Has k outs ↔ (Has k list × (p k ≡ false))) where
  -- a cut is a split
  pub cut-IsSplit : (first second : List ℕ) → IsCut p list first second → IsSplit list ins outs first second
  cut-IsSplit first second cut =
      let whole : Distinct (first ++ second) = turn-Distinct list (first ++ second) cut.turn once in record {
        turn = cut.turn;
        first_is = record {
          distinct = Distinct-append_left first second whole;
          items = λ k. (
            λ h. (ins_are k).1 (
              Has-of_turn list (first ++ second) k cut.turn (Has-append_left k first second h),
              cut.first_passes k h,
            ),
            λ h. ⊎_elim
                (λ f. f)
                (λ s. absurd (false≢true (sym (cut.second_fails k s) ∙ ((ins_are k).0 h).1)))
                (Has-append_cases k first second (turn-Has list (first ++ second) k cut.turn ((ins_are k).0 h).0)),
          );
        };
        second_is = record {
          distinct = Distinct-append_right first second whole;
          items = λ k. (
            λ h. (outs_are k).1 (
              Has-of_turn list (first ++ second) k cut.turn (Has-append_right k first second h),
              cut.second_fails k h,
            ),
            λ h. ⊎_elim
                (λ f. absurd (false≢true (sym ((outs_are k).0 h).1 ∙ cut.first_passes k f)))
                (λ s. s)
                (Has-append_cases k first second (turn-Has list (first ++ second) k cut.turn ((outs_are k).0 h).0)),
          );
        };
      }

  -- and a split is a cut
  pub split-IsCut : (first second : List ℕ) → IsSplit list ins outs first second → IsCut p list first second
  split-IsCut first second s = record {
    turn = s.turn;
    first_passes = λ k h. ((ins_are k).0 ((s.first_is.items k).0 h)).1;
    second_fails = λ k h. ((outs_are k).0 ((s.second_is.items k).0 h)).1;
  }

  -- some edge leads to a vertex before
  pub some-passes : ins ≢ [] → (k : ℕ) × Has k list × (p k ≡ true)
  some-passes some = let w = some_item ins some in (w.0, ((ins_are w.0).0 w.1).0, ((ins_are w.0).0 w.1).1)

  -- and some does not
  pub some-fails : outs ≢ [] → (k : ℕ) × Has k list × (p k ≡ false)
  some-fails some = let w = some_item outs some in (w.0, ((outs_are w.0).0 w.1).0, ((outs_are w.0).0 w.1).1)

-- the first part of a split is not empty
pub split-some : (list ins outs first second : List ℕ) → IsSplit list ins outs first second → ins ≢ [] → first ≢ []
split-some list ins outs first second s some none =
    let w = some_item ins some in subst (Has w.0) none ((s.first_is.items w.0).1 w.1)

-- two splits of one list have the same first part
pub split_first_same : (list ins outs first second us vs : List ℕ) → Distinct list → ins ≢ [] → outs ≢ []
    → IsSplit list ins outs first second → IsSplit list ins outs us vs → first ≡ us
split_first_same list ins outs first second us vs once some_in some_out one two =
    let i = some_item ins some_in in
    let o = some_item outs some_out in
    sym ((IsSplit-unique false list ins outs first second us vs i.0 o.0 once i.1 o.1 one two.first_is two.second_is).0
    two.turn).0

-- an order that a shape admits has no leaf twice
pub Admits-Distinct : (tree : PQTree) (order : List ℕ) → IsWellFormed tree → Admits tree order → Distinct order
Admits-Distinct tree order formed a =
    let perm : IsPermutation (leaves tree.body) a.0 = read_leaves any_bit tree.body a.0 a.2 in
    subst Distinct (sym a.1) (
      Lacks-from tree.root a.0 (λ h. has_lacks tree.root (leaves tree.body)
          (Has-IsPermutation tree.root a.0 (leaves tree.body) (IsPermutation-sym (leaves tree.body) a.0 perm) h)
          formed.distinct.0),
      Distinct-IsPermutation (leaves tree.body) a.0 perm formed.distinct.1,
    )

-- where the row stands in each order of a shape, its items are consecutive
pub forced-IsConsecutive : (row set : List ℕ) (var : ℕ) (old mid : PQTree) → IsWellFormed old → IsForced row var old mid
    → IsArrangementOf row set → (order : List ℕ) → Admits mid order → IsConsecutive set order
forced-IsConsecutive row set var old mid formed forced a order admits =
    let w = (forced.shape order).0 admits in
    let once : Distinct order = Admits-Distinct old order formed w.0 in
    ⊎_elim
    (λ h. subst (IsConsecutive set) (sym h.2) (run-IsConsecutive set h.0 row h.1 (subst Distinct h.2 once) a.items))
    (λ h. subst (IsConsecutive set) (sym h.2) (run-IsConsecutive set h.0 (reverse row) h.1 (subst Distinct h.2 once)
    (λ d. (
      (λ k. (a.items d).0 (reverse-Has d row k)),
      (λ k. Has-reverse d row ((a.items d).1 k)),
    ))))
    w.1

-- the steps of a vertex with a given list
pub listed-IsListedStep : (x : ℕ) (list ins outs first second row : List ℕ) (old mid new : PQTree) (node : Node)
    (part : Part) → IsSplit list ins outs first second → row ≡ reverse second → node ≡ row_body x row → x < mid.vars
    → IsForced first x old mid → IsReplaced ins node mid new part → IsListedStep x list ins outs old new part
listed-IsListedStep x list ins outs first second row old mid new node part split row_is is lt forced replaced = record {
  mid = mid;
  node = node;
  first = first;
  second = second;
  split = split;
  forced = forced;
  replaced = replaced;
  node_is = body;
  reads = subst (λ n. ReadsRow n (reverse second) x mid.vars) (sym body) (row-ReadsRow x mid.vars (reverse second) lt);
  node_leaves = λ k. (
    λ h. (split.second_is.items k).0 (reverse-Has k second (subst (Has k) (ap leaves body ∙ row_leaves x (reverse second)) h)),
    λ h. subst (Has k) (sym (ap leaves body ∙ row_leaves x (reverse second)))
        (Has-reverse k second ((split.second_is.items k).1 h)),
  );
}
  where
    body : node ≡ row_body x (reverse second)
    body = is ∙ ap (row_body x) row_is
