-- What becomes of the node that holds a whole set.
use Rattle.std.proofs.Common.{◌≡◌, ℕ, ◌<◌, ◌≤◌, Bool, true, false, cond, ◌↔◌, List, [], ◌∷◌, ◌++◌, length, length-append, filter, reverse, refl, sym, ap, ◌∙◌, subst, subst₂, arith, IsPermutation}
use Rattle.std.specs.Prelude.{nat_lt}
use Rattle.std.specs.List.{list_all, list_any, AllZip}
use Rattle.std.proofs.lemmas.Bool.{both_ways, false≢true, and_parts, ltb-true}
use Rattle.std.proofs.lemmas.Slice.Zip.{AllZip-long}
use Rattle.std.proofs.lemmas.List.Sorted.{IsPermutation-refl, IsPermutation-sym, IsPermutation-trans}
use Rattle.cp_pq.specs.declared.node.Node.{Node}
use Rattle.cp_pq.specs.declared.node.Node.TheVariants.{P, Q}
use Rattle.cp_pq.specs.declared.found.Found.{Found}
use Rattle.cp_pq.specs.declared.change.Change.{Change}
use Rattle.cp_pq.specs.Readings.{any_order}
use Rattle.cp_pq.specs.Nodes.{leaves, has_vars_below}
use Rattle.cp_pq.specs.Words.{Opposite, together, has_all, Licensed, IsNever, is_mixed, is_met, is_clear}
use Rattle.cp_pq.specs.Changes.{by_bit, IsDone}
use Rattle.cp_pq.specs.Founds.{IsGiven, Sorts, is_torn, found_run, flat_line, flat_ties, turn_behind}
use Rattle.cp_pq.specs.Keeping.{any_bound, Keeps}
use Rattle.cp_pq.specs.Grants.{Grants}
use Rattle.cp_pq.specs.Roots.{IsCore, IsChange}
use Rattle.cp_pq.proofs.NodeLayers.{all_leaves_one}
use Rattle.cp_pq.proofs.NodeTests.{below_Q}
use Rattle.cp_pq.proofs.Permutations.{all_filter}
use Rattle.cp_pq.proofs.WordLaws.{sorted_last, sorted_together}
use Rattle.cp_pq.proofs.ReadingLaws.{read_wider, ReadsAll_one, Reads_P}
use Rattle.cp_pq.proofs.Rows.{class_read}
use Rattle.cp_pq.proofs.Tops.{Q_done, P_frame}
use Rattle.cp_pq.proofs.TopP.{P_grouped}
use Rattle.cp_pq.proofs.Closes.{has_all_P, all_second}
use Rattle.cp_pq.proofs.Zips.{grants_torn, grants_licensed}
use Rattle.cp_pq.proofs.Runs.{zip_found_run, zip_run, keeps_run, Q_refused, P_refused}
use Rattle.cp_pq.proofs.FittingSides.{Fits_permuted, Fits_frame}
use Rattle.cp_pq.proofs.KeepingLaws.{Keeps_refl, Keeps_trans, Keeps_append, Keeps_permuted, Keeps_P, Keeps_Q, Keeps_parted}
use Rattle.cp_pq.proofs.Cores.{done_again, parted, met_inside}

-- a node inside is done as it stands
pub same_done : (q p : ℕ → Bool) → Opposite q p → (y : ℕ) (n : Node) → has_all p n ≡ true
    → IsDone q p false y (λ may. Unit {0}) n n
same_done q p opp y n full = record {
  to = λ may xs r t. (false, λ e. absurd (false≢true e), tt, λ wide w h. read_wider may wide w n xs r);
  fro = λ may xs r tie. (r, sorted_together q p opp xs (sorted_last q p opp xs (class_read p may n xs r ∙ full)));
}

-- the kids outside, and what the others become
pub P_root : (q p : ℕ → Bool) → Opposite q p
    → (old : Bool) (y : ℕ) (L : (ℕ → Bool → Bool) → Type 0) (o : ℕ) (ks e c : List Node) (m : Node)
    → IsPermutation ks (e ++ c) → list_all (is_clear q p) ks ≡ true → list_all (has_all q) e ≡ true
    → list_all (is_met q) c ≡ true
    → IsDone q p old y L (P o c) m → IsDone q p old y L (P o ks) (P o (e ++ m ∷ []))
P_root q p opp old y L o ks e c m perm clear out met d = record {
  to = λ may xs r t. let g = (P_grouped q p opp o ks e c perm clear out met may xs).0 (r, t) in frame.to may xs g.0 g.1;
  fro = λ may xs r tie. let g = frame.fro may xs r tie in (P_grouped q p opp o ks e c perm clear out met may xs).1 g;
}
  where
    frame : IsDone q p old y L (P o (e ++ P o c ∷ [])) (P o (e ++ m ∷ []))
    frame = P_frame q p opp old y L o (e ++ P o c ∷ []) e (P o c) m (IsPermutation-refl _) out d

-- kids of a P-node in another order
P_permuted : (q p : ℕ → Bool) (old : Bool) (y : ℕ) (L : (ℕ → Bool → Bool) → Type 0) (o : ℕ) (ks c : List Node)
    (m : Node)
    → IsPermutation ks c → IsPermutation c ks → IsDone q p old y L (P o c) m → IsDone q p old y L (P o ks) m
P_permuted q p old y L o ks c m there back d = record {
  to = λ may xs r t. let g = Reads_P may o ks xs r in d.to may xs (any_order o c g.0 xs (IsPermutation-trans _ _ _ back g.1) g.2) t;
  fro = λ may xs r tie. let f = d.fro may xs r tie in let g = Reads_P may o c xs f.0 in (any_order o ks g.0 xs (IsPermutation-trans _ _ _ there g.1) g.2, f.1);
}

-- where the ties can not hold there is no reading
done_never : (q p : ℕ → Bool) (old : Bool) (y : ℕ) (L : (ℕ → Bool → Bool) → Type 0) (n m : Node)
    → ((may : ℕ → Bool → Bool) → L may → ⊥) → IsDone q p old y L n m → IsNever (together q p) (n ∷ [])
done_never q p old y L n m none d may xs r t = let g = d.to may xs (ReadsAll_one may n xs r) t in none (by_bit g.0 may) g.2

module _ (q p : ℕ → Bool) (opp : Opposite q p) (vars : ℕ) where
  -- a node inside as a whole is kept
  pub whole_change : (k m : Node) → has_all p k ≡ true → m ≡ k → IsChange q p vars k (Change.Kept m)
  whole_change k m full e = subst (λ z. IsChange q p vars k (Change.Kept z)) (sym e) (λ y. same_done q p opp y k full, Keeps_refl any_bound (k ∷ []))

  -- a Q-node
  pub refused_Q : (v : ℕ) (ks : List Node) (fs : List Found) → AllZip (IsGiven q p) ks fs → found_run fs ≡ false
      → IsChange q p vars (Q v ks) Change.Never
  refused_Q v ks fs z bad = Q_refused q p opp v ks (zip_found_run q p opp ks fs z ∙ bad)

  -- the var of a Q-node is below each number that its vars are below
  below_var : (v : ℕ) (ks : List Node) (n : ℕ) → has_vars_below n (Q v ks) ≡ true → v < n
  below_var v ks n h = ltb-true v n (and_parts (nat_lt v n) (list_all (has_vars_below n) ks) (sym (below_Q n v ks) ∙ h)).0

  -- a Q-node over a run of kids that is torn, when turned behind its entry, never has the set together
  pub torn_Q : (v : ℕ) (ks : List Node) (fs : List Found) → AllZip (IsGiven q p) ks fs
      → 2 ≤ length (filter (is_met q) ks) → found_run fs ≡ true → list_any is_torn (turn_behind fs) ≡ true
      → IsChange q p vars (Q v ks) Change.Never
  torn_Q v ks fs z two run t =
      done_never q p true v (λ may. Grants may (turn_behind fs)) (Q v ks) (Q v (flat_line (turn_behind fs))) (λ may g. grants_torn may (turn_behind fs) t g)
      (Q_done q p opp (λ may. Grants may (turn_behind fs)) v ks (flat_line (turn_behind fs)) (zip_run q p opp ks fs z two run))

  -- a row with two kids that meet the set has two kids
  long_met : (ks : List Node) → 2 ≤ length (filter (is_met q) ks) → 2 ≤ length ks
  long_met ks two = let l = short ks in omega (arith, l, two)
    where
      short : (js : List Node) → length (filter (is_met q) js) ≤ length js
      short [] = omega arith
      short (j ∷ js) = let l = short js in elim (is_met q j) as (λ b. length (cond b (j ∷ filter (is_met q) js) (filter (is_met q) js)) ≤ length (j ∷ js)) [ true ↦ omega (arith, l) | false ↦ omega (arith, l) ]

  -- a Q-node over a run of kids becomes the line of these, with the ties that they ask of its var
  pub change_Q : (v : ℕ) (ks : List Node) (fs : List Found) (kids : List Node) (ties : List (ℕ × Bool))
      → AllZip (IsGiven q p) ks fs → 2 ≤ length (filter (is_met q) ks) → found_run fs ≡ true
      → list_any is_torn (turn_behind fs) ≡ false
      → kids ≡ flat_line (turn_behind fs) → ties ≡ flat_ties (reverse (turn_behind fs)) ++ []
      → IsChange q p vars (Q v ks) (Change.Old (Q v kids) v ties)
  change_Q v ks fs kids ties z two run t e1 e2 =
      subst₂ (λ a b. IsChange q p vars (Q v ks) (Change.Old (Q v a) v b)) (sym e1) (sym e2) (
        done_again q p true v (λ may. Grants may (turn_behind fs)) (λ may. Licensed false may (flat_ties (reverse (turn_behind fs)) ++ [])) (Q v ks) (Q v (flat_line (turn_behind fs)))
            (λ may. let g = grants_licensed may (turn_behind fs) [] t in (λ x. g.0 (tt, x), λ x. (g.1 x).1))
            (Q_done q p opp (λ may. Grants may (turn_behind fs)) v ks (flat_line (turn_behind fs)) (zip_run q p opp ks fs z two run)),
        (let k = keeps_run q p opp ks fs z t in let l1 = k.1 in let l2 = long_met ks two in Keeps_Q any_bound v ks (flat_line (turn_behind fs)) k.0 (λ x. omega (arith, l1, l2))),
        below_var v ks,
      )

  -- a P-node
  module _ (o : ℕ) (ks : List Node) (clear : list_all (is_clear q p) ks ≡ true) (two : 2 ≤ length (filter
      (is_met q) ks)) where
    -- the kids are those outside and those that meet the set
    parts : IsPermutation ks (filter (has_all q) ks ++ filter (is_met q) ks)
    parts = parted (has_all q) ks

    -- those outside are outside
    all_outside : list_all (has_all q) (filter (has_all q) ks) ≡ true
    all_outside = all_filter (has_all q) ks

    -- those that meet the set meet it
    all_met : list_all (is_met q) (filter (is_met q) ks) ≡ true
    all_met = all_filter (is_met q) ks

    -- beside kids outside
    beside : (old : Bool) (y : ℕ) (L : (ℕ → Bool → Bool) → Type 0) (m : Node)
        → IsDone q p old y L (P o (filter (is_met q) ks)) m
        → IsDone q p old y L (P o ks) (P o (filter (has_all q) ks ++ m ∷ []))
    beside old y L m d = P_root q p opp old y L o ks (filter (has_all q) ks) (filter (is_met q) ks) m parts clear all_outside all_met d

    -- a P-node of the kids outside and a node keeps all where this node keeps all of those that meet the set
    keeps_beside : (V : ℕ → Type 0) (m : Node) → 1 ≤ length (filter (has_all q) ks)
        → Keeps V (P o (filter (is_met q) ks) ∷ []) (m ∷ [])
        → Keeps V (P o ks ∷ []) (P o (filter (has_all q) ks ++ m ∷ []) ∷ [])
    keeps_beside V m one k =
        let e = filter (has_all q) ks in let c = filter (is_met q) ks in
        let same : IsPermutation (leaves (P o c)) (leaves m) = subst₂ IsPermutation (all_leaves_one (P o c)) (all_leaves_one m) k.leaves_kept in
        let l = length-append e (m ∷ []) in
        Keeps_trans V _ _ _ (Keeps_parted V o ks e c parts one two)
        (Keeps_P V o (e ++ P o c ∷ []) (e ++ m ∷ []) (Keeps_append V e e (P o c ∷ []) (m ∷ []) (Keeps_refl V e) k) (λ d. Fits_frame e [] (P o c) m same) (λ x. omega (arith, l, one)))

    -- all kids inside or outside
    pub change_whole : (outs ins : List Node) → Sorts q p ks outs ins [] → has_all p (P o ks) ≡ false
        → IsChange q p vars (P o ks) (Change.Kept (P o (outs ++ P o ins ∷ [])))
    change_whole outs ins s part =
        subst₂ (λ a b. IsChange q p vars (P o ks) (Change.Kept (P o (a ++ P o b ∷ [])))) (sym s.outs_are) (met ∙ sym s.ins_are)
        (λ y. beside false y (λ may. Unit {0}) (P o c) (same_done q p opp y (P o c) inner), keeps_beside any_bound (P o c) some (Keeps_refl any_bound (P o c ∷ [])))
      where
        c : List Node
        c = filter (is_met q) ks

        no_mixed : filter (is_mixed q p) ks ≡ []
        no_mixed = let l : 0 ≡ length (filter (is_mixed q p) ks) = AllZip-long (IsGiven q p) (filter (is_mixed q p) ks) [] s.mixed_are in none (filter (is_mixed q p) ks) l
          where
            none : (js : List Node) → 0 ≡ length js → js ≡ []
            none [] e = refl
            none (j ∷ js) e = absurd (omega (arith, e))

        met : filter (is_met q) ks ≡ filter (has_all p) ks
        met = met_inside q p opp ks clear no_mixed

        inner : has_all p (P o (filter (is_met q) ks)) ≡ true
        inner = has_all_P p o (filter (is_met q) ks) ∙ ap (list_all (has_all p)) met ∙ all_filter (has_all p) ks

        some : 1 ≤ length (filter (has_all q) ks)
        some = go (filter (has_all q) ks) refl
          where
            go : (e : List Node) → filter (has_all q) ks ≡ e → 1 ≤ length e
            go [] h = absurd (both_ways (has_all p (P o ks)) part (has_all_P p o ks ∙ all_second (has_all q) (has_all p) ks h no_mixed))
            go (x ∷ e) h = omega arith

    -- three kids neither outside nor inside
    pub refused_P : (outs ins : List Node) (mixed : List Found) → Sorts q p ks outs ins mixed → 3 ≤ length mixed
        → IsChange q p vars (P o ks) Change.Never
    refused_P outs ins mixed s three =
        let l = AllZip-long (IsGiven q p) (filter (is_mixed q p) ks) mixed s.mixed_are in
        P_refused q p opp o ks (omega (arith, l, three))

    -- one or two such kids
    module _ (row : List Found) (core : IsCore q p vars o (filter (is_met q) ks) row) where
      -- where no kid is outside, all meet the set
      none_out : filter (has_all q) ks ≡ [] → IsPermutation ks (filter (is_met q) ks)
      none_out e = subst (λ z. IsPermutation ks (z ++ filter (is_met q) ks)) e parts

      -- the P-node as it becomes, whether or not kids are outside
      pub core_torn : list_any is_torn row ≡ true → IsChange q p vars (P o ks) Change.Never
      core_torn t = done_never q p false vars (λ may. Grants may row) (P o ks) _ (λ may g. grants_torn may row t g) (beside false vars (λ may. Grants may row) (Q vars (flat_line row)) core.done)

      -- where no kid of the row is torn, what it asks of a licence is its ties, from the last kid on
      licensed : list_any is_torn row ≡ false → (may : ℕ → Bool → Bool)
          → Grants may row ↔ Licensed false may (flat_ties (reverse row) ++ [])
      licensed t may = let g = grants_licensed may row [] t in (λ x. g.0 (tt, x), λ x. (g.1 x).1)

      -- a P-node with no kid outside becomes a Q-node with a new var over its line
      pub core_alone : (line : List Node) (ties : List (ℕ × Bool)) → list_any is_torn row ≡ false → line ≡ flat_line row
          → ties ≡ flat_ties (reverse row) ++ [] → filter (has_all q) ks ≡ []
          → IsChange q p vars (P o ks) (Change.New (Q vars line) ties)
      core_alone line ties t e1 e2 none =
          subst₂ (λ a b. IsChange q p vars (P o ks) (Change.New (Q vars a) b)) (sym e1) (sym e2) (
            done_again q p false vars (λ may. Grants may row) (λ may. Licensed false may (flat_ties (reverse row) ++ [])) (P o ks) (Q vars (flat_line row)) (licensed t)
                (P_permuted q p false vars (λ may. Grants may row) o ks (filter (is_met q) ks) (Q vars (flat_line row)) (none_out none) (IsPermutation-sym _ _ (none_out none)) core.done),
            Keeps_trans (λ n. vars < n) _ _ _ (Keeps_P (λ n. vars < n) o ks (filter (is_met q) ks) (Keeps_permuted (λ n. vars < n) ks (filter (is_met q) ks) (none_out none)) (λ d. Fits_permuted ks (filter (is_met q) ks) (none_out none)) (λ x. two)) (core.keeps t),
          )

      -- a P-node with kids outside becomes a P-node of these and of such a Q-node
      pub core_beside : (outs line : List Node) (ties : List (ℕ × Bool)) → list_any is_torn row ≡ false
          → line ≡ flat_line row → ties ≡ flat_ties (reverse row) ++ [] → outs ≡ filter (has_all q) ks → 1 ≤ length outs
          → IsChange q p vars (P o ks) (Change.New (P o (outs ++ Q vars line ∷ [])) ties)
      core_beside outs line ties t e1 e2 e3 one =
          subst (λ d. IsChange q p vars (P o ks) (Change.New (P o (d ++ Q vars line ∷ [])) ties)) (sym e3)
          (subst₂ (λ a b. IsChange q p vars (P o ks) (Change.New (P o (filter (has_all q) ks ++ Q vars a ∷ [])) b)) (sym e1) (sym e2) (
            done_again q p false vars (λ may. Grants may row) (λ may. Licensed false may (flat_ties (reverse row) ++ [])) (P o ks) (P o (filter (has_all q) ks ++ Q vars (flat_line row) ∷ [])) (licensed t)
                (beside false vars (λ may. Grants may row) (Q vars (flat_line row)) core.done),
            keeps_beside (λ n. vars < n) (Q vars (flat_line row)) (subst (λ z. 1 ≤ length z) e3 one) (core.keeps t),
          ))
