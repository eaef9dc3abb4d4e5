-- What a P-node is, by the kinds of its kids.
use Rattle.std.proofs.Common.{◌≡◌, ℕ, ◌<◌, ◌≤◌, Bool, true, false, cond, not, ◌&&◌, List, [], ◌∷◌, ◌++◌, length, filter, reverse, refl, sym, ap, ◌∙◌, subst, subst₂, inl, inr, arith, IsPermutation}
use Rattle.std.specs.List.{list_all}
use Rattle.std.proofs.lemmas.Bool.{both_ways, false≢true, and_parts}
use Rattle.std.proofs.lemmas.List.Sorted.{IsPermutation-refl, IsPermutation-sym, IsPermutation-trans, IsPermutation-cons, IsPermutation-middle, IsPermutation-append_right}
use Rattle.cp_pq.specs.declared.node.Node.{Node}
use Rattle.cp_pq.specs.declared.node.Node.TheVariants.{P, Q}
use Rattle.cp_pq.specs.declared.found.Found.{Found}
use Rattle.cp_pq.specs.Words.{Opposite, sorted, has_all, Licensed, IsLike, group_of, IsNever, is_mixed}
use Rattle.cp_pq.specs.Founds.{IsGiven, Sorts}
use Rattle.cp_pq.specs.Keeping.{any_bound, Keeps}
use Rattle.cp_pq.proofs.NodeLayers.{leaves_P, leaves_Q}
use Rattle.cp_pq.proofs.Permutations.{filter_all, filter_none, all_filter}
use Rattle.cp_pq.proofs.Rows.{row_all}
use Rattle.cp_pq.proofs.Lines.{IsMiddle, Sorting, P_line, P_never, all_weaker}
use Rattle.cp_pq.proofs.KeepingLaws.{Keeps_refl, Keeps_trans, Keeps_append, Keeps_grouped}
use Rattle.std.specs.List.{AllZip}
use Rattle.std.proofs.lemmas.Slice.Zip.{AllZip-long}

-- a P-node passes a test of leaves where all its kids do
pub has_all_P : (p : ℕ → Bool) (o : ℕ) (ks : List Node) → has_all p (P o ks) ≡ list_all (has_all p) ks
unfolding has_all
has_all_P p o ks = ap (list_all p) (leaves_P o ks) ∙ row_all p ks

-- and so does a Q-node
pub has_all_Q : (p : ℕ → Bool) (o : ℕ) (ks : List Node) → has_all p (Q o ks) ≡ list_all (has_all p) ks
unfolding has_all
has_all_Q p o ks = ap (list_all p) (leaves_Q o ks) ∙ row_all p ks

module _ (f g : Node → Bool) where
  -- whether a node does not pass both of two tests
  abbrev pub clear_of : Node → Bool
  clear_of k = not (f k && g k)

  -- whether a node passes neither of two tests
  abbrev pub mixed_of : Node → Bool
  mixed_of k = not (f k) && not (g k)

  -- nodes none of which passes both tests are a permutation of those of the first, of neither and of the second
  pub sort_kinds : (ks : List Node) → list_all clear_of ks ≡ true
      → IsPermutation ks (filter f ks ++ (filter mixed_of ks ++ filter g ks))
  sort_kinds [] h = IsPermutation-refl []
  sort_kinds (k ∷ ks) h = go (f k) (g k) (and_parts _ _ h).0 (sort_kinds ks (and_parts _ _ h).1)
    where
      go : (x y : Bool) → not (x && y) ≡ true → IsPermutation ks (filter f ks ++ (filter mixed_of ks ++ filter g ks))
          → IsPermutation (k ∷ ks)
          (cond x (k ∷ filter f ks) (filter f ks) ++ (cond (not x && not y) (k ∷ filter mixed_of ks)
          (filter mixed_of ks) ++ cond y (k ∷ filter g ks) (filter g ks)))
      go true true c ih = absurd (false≢true c)
      go true false c ih = IsPermutation-cons k _ _ ih
      go false false c ih = IsPermutation-trans _ _ _ (IsPermutation-cons k _ _ ih) (IsPermutation-sym _ _ (IsPermutation-middle (filter f ks) k (filter mixed_of ks ++ filter g ks)))
      go false true c ih = IsPermutation-trans _ _ _ (IsPermutation-cons k _ _ ih)
          (IsPermutation-sym _ _ (IsPermutation-trans _ _ _ (IsPermutation-append_right (filter f ks) _ _ (IsPermutation-middle (filter mixed_of ks) k (filter g ks))) (IsPermutation-middle (filter f ks) k (filter mixed_of ks ++ filter g ks))))

  -- where no node passes the second test and none passes neither, all pass the first
  pub all_first : (ks : List Node) → filter g ks ≡ [] → filter mixed_of ks ≡ [] → list_all f ks ≡ true
  all_first [] = λ a b. refl
  all_first (k ∷ ks) = go (f k) (g k) (all_first ks)
    where
      go : (x y : Bool) → (filter g ks ≡ [] → filter mixed_of ks ≡ [] → list_all f ks ≡ true)
          → cond y (k ∷ filter g ks) (filter g ks) ≡ []
          → cond (not x && not y) (k ∷ filter mixed_of ks) (filter mixed_of ks) ≡ [] → (x && list_all f ks) ≡ true
      go true true ih a b = absurd cc
      go true false ih a b = ih a b
      go false true ih a b = absurd cc
      go false false ih a b = absurd cc

  -- where no node passes the first test and none passes neither, all pass the second
  pub all_second : (ks : List Node) → filter f ks ≡ [] → filter mixed_of ks ≡ [] → list_all g ks ≡ true
  all_second [] = λ a b. refl
  all_second (k ∷ ks) = go (f k) (g k) (all_second ks)
    where
      go : (x y : Bool) → (filter f ks ≡ [] → filter mixed_of ks ≡ [] → list_all g ks ≡ true)
          → cond x (k ∷ filter f ks) (filter f ks) ≡ []
          → cond (not x && not y) (k ∷ filter mixed_of ks) (filter mixed_of ks) ≡ [] → (y && list_all g ks) ≡ true
      go true y ih a b = absurd cc
      go false true ih a b = ih a b
      go false false ih a b = absurd cc

  -- where all nodes pass the first test and none passes both, none passes the second and none passes neither
  pub none_second : (ks : List Node) → list_all clear_of ks ≡ true → list_all f ks ≡ true
      → (filter g ks ≡ []) × (filter mixed_of ks ≡ [])
  none_second ks c h = (filter_none g ks (all_weaker clear_of f _ (λ k x y. second _ _ x y) ks c h), filter_none mixed_of ks (all_weaker f f _ (λ k x y. mix _ _ x) ks h h))
    where
      second : (x y : Bool) → not (x && y) ≡ true → x ≡ true → not y ≡ true
      second true true a b = absurd (false≢true a)
      second true false a b = refl
      second false y a b = absurd (false≢true b)

      mix : (x y : Bool) → x ≡ true → not (not x && not y) ≡ true
      mix true y a = refl
      mix false y a = absurd (false≢true a)

  -- where all nodes pass the second test and none passes both, none passes the first and none passes neither
  pub none_first : (ks : List Node) → list_all clear_of ks ≡ true → list_all g ks ≡ true
      → (filter f ks ≡ []) × (filter mixed_of ks ≡ [])
  none_first ks c h = (filter_none f ks (all_weaker clear_of g _ (λ k x y. first _ _ x y) ks c h), filter_none mixed_of ks (all_weaker g g _ (λ k x y. mix _ _ x) ks h h))
    where
      first : (x y : Bool) → not (x && y) ≡ true → y ≡ true → not x ≡ true
      first true true a b = absurd (false≢true a)
      first false y a b = refl
      first true false a b = absurd (false≢true b)

      mix : (x y : Bool) → y ≡ true → not (not x && not y) ≡ true
      mix true y a = refl
      mix false true a = refl
      mix false false a = absurd (false≢true a)

-- a row with a node, all of which pass a test, has one that passes it
some_one : (f : Node → Bool) (ks : List Node) → filter f ks ≡ ks → 0 < length ks → filter f ks ≡ [] → ⊥
some_one f [] a lt b = absurd (omega arith)
some_one f (k ∷ ks) a lt b = let h : k ∷ ks ≡ [] = sym a ∙ b in absurd cc

-- a bit that is not true is false
pub false_unless : (b : Bool) → (b ≡ true → ⊥) → b ≡ false
false_unless true h = absurd (h refl)
false_unless false h = refl

-- a row with no reading that passes the test is like any line under a condition that never holds
pub never_like : (test : List ℕ → Bool) (row line : List Node) → IsNever test row → IsLike test (λ may. ⊥) row line
never_like test row line h may xs = (λ r. absurd (h may xs r.0 r.1), λ r. absurd r.0)

-- a row of which nothing was found has no nodes
zip_nil : (q p : ℕ → Bool) (ks : List Node) → AllZip (IsGiven q p) ks [] → ks ≡ []
zip_nil q p [] z = refl
zip_nil q p (k ∷ ks) z = absurd z

-- what is said of the one item of a row
zip_one : (q p : ℕ → Bool) (ks : List Node) (f : Found) → AllZip (IsGiven q p) ks (f ∷ [])
    → (k : Node) × (ks ≡ k ∷ []) × IsGiven q p k f
zip_one q p [] f z = absurd z
zip_one q p (k ∷ ks) f z = (k, ap (λ js. k ∷ js) (zip_nil q p ks z.1), z.0)

-- the one mixed kid of a row is mixed
mixed_kid : (q p : ℕ → Bool) (k : Node) (ks : List Node) → filter (is_mixed q p) ks ≡ k ∷ [] → is_mixed q p k ≡ true
mixed_kid q p k ks e = (and_parts (is_mixed q p k) true (sym (ap (list_all (is_mixed q p)) e) ∙ all_filter (is_mixed q p) ks)).0

-- what a P-node is, from its kids sorted by their kinds
module _ (q p : ℕ → Bool) (o : ℕ) (ks outs ins : List Node) (mixed : List Found) (h : Sorts q p ks outs ins mixed) where
  -- where no kid was found mixed, none is
  no_mixed : mixed ≡ [] → filter (is_mixed q p) ks ≡ []
  no_mixed m = zip_nil q p (filter (is_mixed q p) ks) (subst (AllZip (IsGiven q p) (filter (is_mixed q p) ks)) m h.mixed_are)

  -- a P-node with kids outside alone is outside
  pub close_out : 2 ≤ length ks → mixed ≡ [] → ins ≡ [] → IsGiven q p (P o ks) (Found.Out (P o outs))
  close_out two m none =
      let all = all_first (has_all q) (has_all p) ks (sym h.ins_are ∙ none) (no_mixed m) in
      let kept : filter (has_all q) ks ≡ ks = filter_all (has_all q) ks all in (
        has_all_P q o ks ∙ all,
        has_all_P p o ks ∙ false_unless _ (λ x. some_one (has_all q) ks kept (omega arith) (none_first (has_all q) (has_all p) ks h.clear x).0),
        ap (λ z. P o z) (h.outs_are ∙ kept),
      )

  -- a P-node with kids inside alone is inside
  pub close_in : 2 ≤ length ks → mixed ≡ [] → outs ≡ [] → IsGiven q p (P o ks) (Found.In (P o ins))
  close_in two m none =
      let all = all_second (has_all q) (has_all p) ks (sym h.outs_are ∙ none) (no_mixed m) in
      let kept : filter (has_all p) ks ≡ ks = filter_all (has_all p) ks all in (
        has_all_P q o ks ∙ false_unless _ (λ x. some_one (has_all p) ks kept (omega arith) (none_second (has_all q) (has_all p) ks h.clear x).0),
        has_all_P p o ks ∙ all,
        ap (λ z. P o z) (h.ins_are ∙ kept),
      )

  -- the kids are those outside, the middle and those inside
  sorting : (L : (ℕ → Bool → Bool) → Type 0) (line : List Node) → IsMiddle q p L (filter (is_mixed q p) ks) line
      → Sorting q p L ks (filter (has_all q) ks) (filter (is_mixed q p) ks) (filter (has_all p) ks) line
  sorting L line mid = record {
    is = sort_kinds (has_all q) (has_all p) ks h.clear;
    clear = h.clear;
    out = all_filter (has_all q) ks;
    middle = mid;
    full = all_filter (has_all p) ks;
  }

  -- a P-node with a mixed kid is neither outside nor inside
  torn_by : (filter (is_mixed q p) ks ≡ [] → ⊥) → (has_all q (P o ks) ≡ false) × (has_all p (P o ks) ≡ false)
  torn_by some = (
    has_all_P q o ks ∙ false_unless _ (λ x. some (none_second (has_all q) (has_all p) ks h.clear x).1),
    has_all_P p o ks ∙ false_unless _ (λ x. some (none_first (has_all q) (has_all p) ks h.clear x).1),
  )

  -- the line of a P-node keeps what its middle keeps
  keeps_line : (line : List Node) → Keeps any_bound (filter (is_mixed q p) ks) line
      → Keeps any_bound (P o ks ∷ []) (group_of o outs ++ (line ++ group_of o ins))
  keeps_line line k = subst₂ (λ a b. Keeps any_bound (P o ks ∷ []) (group_of o a ++ (line ++ group_of o b))) (sym h.outs_are) (sym h.ins_are)
      (Keeps_trans any_bound _ _ _ (Keeps_grouped any_bound o ks (filter (has_all q) ks) (filter (is_mixed q p) ks) (filter (has_all p) ks) (sort_kinds (has_all q) (has_all p) ks h.clear))
      (Keeps_append any_bound _ _ _ _ (Keeps_refl any_bound (group_of o (filter (has_all q) ks))) (Keeps_append any_bound _ _ _ _ k (Keeps_refl any_bound (group_of o (filter (has_all p) ks))))))

  -- a P-node is the group of its kids outside, the line of the middle and the group of its kids inside
  like_line : (L : (ℕ → Bool → Bool) → Type 0) (line : List Node) → Opposite q p
      → IsMiddle q p L (filter (is_mixed q p) ks) line
      → IsLike (sorted q p) L (P o ks ∷ []) (group_of o outs ++ (line ++ group_of o ins))
  like_line L line opp mid = subst₂ (λ a b. IsLike (sorted q p) L (P o ks ∷ []) (group_of o a ++ (line ++ group_of o b))) (sym h.outs_are) (sym h.ins_are)
      (P_line q p L opp o ks _ _ _ line (sorting L line mid))

  -- a P-node with kids outside and inside and no mixed one is a line of two groups, without ties
  pub close_two : Opposite q p → mixed ≡ [] → (ins ≡ [] → ⊥) → (outs ≡ [] → ⊥)
      → (front back : List Node) (ties : List (ℕ × Bool)) → ties ≡ []
      → reverse front ++ back ≡ group_of o outs ++ ([] ++ group_of o ins)
      → IsGiven q p (P o ks) (Found.Line front back ties)
  close_two opp m some_in some_out front back ties none e = (
    has_all_P q o ks ∙ false_unless _ (λ x. some_in (h.ins_are ∙ (none_second (has_all q) (has_all p) ks h.clear x).0)),
    has_all_P p o ks ∙ false_unless _ (λ x. some_out (h.outs_are ∙ (none_first (has_all q) (has_all p) ks h.clear x).0)),
    subst₂ (λ z ts. IsLike (sorted q p) (λ may. Licensed false may ts) (P o ks ∷ []) z) (sym e) (sym none) (like_line (λ may. Unit {0}) [] opp (inl (no_mixed m, refl, λ may. tt))),
    subst (Keeps any_bound (P o ks ∷ [])) (sym e) (keeps_line [] (subst (λ z. Keeps any_bound z []) (sym (no_mixed m)) (Keeps_refl any_bound []))),
  )

  -- a P-node with one mixed kid, which is a line, is this line between the two groups, with its ties
  pub close_line : Opposite q p → (f b : List Node) (ties : List (ℕ × Bool)) → mixed ≡ Found.Line f b ties ∷ []
      → (front back : List Node)
      → reverse front ++ back ≡ group_of o outs ++ ((reverse f ++ b) ++ group_of o ins)
      → IsGiven q p (P o ks) (Found.Line front back ties)
  close_line opp f b ties m front back e =
      let g = zip_one q p (filter (is_mixed q p) ks) (Found.Line f b ties) (subst (AllZip (IsGiven q p) (filter (is_mixed q p) ks)) m h.mixed_are) in
      let torn = torn_by (λ z. let x : g.0 ∷ [] ≡ [] = sym g.1 ∙ z in absurd cc) in (
        torn.0,
        torn.1,
        subst (IsLike (sorted q p) (λ may. Licensed false may ties) (P o ks ∷ [])) (sym e) (like_line (λ may. Licensed false may ties) (reverse f ++ b) opp (inr (g.0, g.1, g.2.0, g.2.1, g.2.2))),
        subst (Keeps any_bound (P o ks ∷ [])) (sym e) (keeps_line (reverse f ++ b) (subst (λ z. Keeps any_bound z (reverse f ++ b)) (sym g.1) g.2.3)),
      )

  -- a P-node with one mixed kid, which is torn, is torn
  pub close_torn : Opposite q p → mixed ≡ Found.Torn ∷ [] → IsGiven q p (P o ks) Found.Torn
  close_torn opp m =
      let g = zip_one q p (filter (is_mixed q p) ks) Found.Torn (subst (AllZip (IsGiven q p) (filter (is_mixed q p) ks)) m h.mixed_are) in
      let torn = torn_by (λ e. let x : g.0 ∷ [] ≡ [] = sym g.1 ∙ e in absurd cc) in
      let like = like_line (λ may. ⊥) [] opp (inr (g.0, g.1, g.2.0, g.2.1, never_like (sorted q p) (g.0 ∷ []) [] g.2.2)) in
      (torn.0, torn.1, λ may xs r t. ((like may xs).0 (r, t)).0)

  -- a mixed kid is not outside
  pub close_not_out : (m : Node) → mixed ≡ Found.Out m ∷ [] → ⊥
  close_not_out n m =
      let g = zip_one q p (filter (is_mixed q p) ks) (Found.Out n) (subst (AllZip (IsGiven q p) (filter (is_mixed q p) ks)) m h.mixed_are) in
      both_ways (not (has_all q g.0)) (ap (λ z. not z) g.2.0) (and_parts (not (has_all q g.0)) (not (has_all p g.0)) (mixed_kid q p g.0 ks g.1)).0

  -- and not inside
  pub close_not_in : (m : Node) → mixed ≡ Found.In m ∷ [] → ⊥
  close_not_in n m =
      let g = zip_one q p (filter (is_mixed q p) ks) (Found.In n) (subst (AllZip (IsGiven q p) (filter (is_mixed q p) ks)) m h.mixed_are) in
      both_ways (not (has_all p g.0)) (ap (λ z. not z) g.2.1) (and_parts (not (has_all q g.0)) (not (has_all p g.0)) (mixed_kid q p g.0 ks g.1)).1

  -- a P-node with two mixed kids is torn
  pub close_many : 2 ≤ length mixed → IsGiven q p (P o ks) Found.Torn
  close_many two =
      let long : length mixed ≡ length (filter (is_mixed q p) ks) = AllZip-long (IsGiven q p) (filter (is_mixed q p) ks) mixed h.mixed_are in
      let many : 2 ≤ length (filter (is_mixed q p) ks) = omega arith in
      let torn = torn_by (λ e. let x : length (filter (is_mixed q p) ks) ≡ 0 = ap length e in absurd (omega arith)) in
      (torn.0, torn.1, P_never q p o ks h.clear many)

  -- a P-node with one mixed kid, which is no line, is torn
  pub close_rest : Opposite q p → (f : Found) → mixed ≡ f ∷ []
      → ((front back : List Node) (ties : List (ℕ × Bool)) → f ≡ Found.Line front back ties → ⊥)
      → IsGiven q p (P o ks) Found.Torn
  close_rest opp (Found.Out m) e other = absurd (close_not_out m e)
  close_rest opp (Found.In m) e other = absurd (close_not_in m e)
  close_rest opp (Found.Line front back ties) e other = absurd (other front back ties refl)
  close_rest opp Found.Torn e other = close_torn opp e
