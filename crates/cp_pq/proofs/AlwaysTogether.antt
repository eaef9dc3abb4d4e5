-- Nodes each reading of which has the set together: the kids that meet the set are a run of kids inside.
use Rattle.std.proofs.Common.{◌≡◌, ℕ, ◌≤◌, Bool, true, false, cond, not, ◌&&◌, ◌⊎◌, List, [], ◌∷◌, ◌++◌, length, filter}
use Rattle.std.proofs.Common.{reverse, inl, inr, ⊎_elim, refl, sym, ap, ◌∙◌, subst, arith, IsPermutation}
use Rattle.std.specs.List.{list_all}
use Rattle.std.proofs.lemmas.Bool.{both_ways, true≢false, false≢true, cases_Bool, and_parts, and_from}
use Rattle.std.proofs.lemmas.List.{reverse-append}
use Rattle.std.proofs.lemmas.List.Folds.{list_all-append}
use Rattle.std.proofs.lemmas.List.Sorted.{IsPermutation-trans, IsPermutation-middle}
use Rattle.cp_pq.specs.declared.node.Node.{Node}
use Rattle.cp_pq.specs.declared.node.Node.TheVariants.{P}
use Rattle.cp_pq.specs.Nodes.{leaves, all_leaves}
use Rattle.cp_pq.specs.Readings.{Reads, ReadsAll, any_bit, any_order, none, more}
use Rattle.cp_pq.specs.Words.{Opposite, sorted, together, has_all, is_clear, is_met}
use Rattle.cp_pq.specs.Cuts.{IsAlwaysTogether}
use Rattle.cp_pq.proofs.NodeLayers.{all_leaves_nil, all_leaves_cons}
use Rattle.cp_pq.proofs.Permutations.{list_all-IsPermutation, all_filter}
use Rattle.cp_pq.proofs.WordLaws.{opposite_sym, sorted_front, sorted_cut, sorted_all, sorted_reverse, sorted_together}
use Rattle.cp_pq.proofs.WordLaws.{together_all, together_start, together_whole, together_reverse}
use Rattle.cp_pq.proofs.ReadingLaws.{read_wider}
use Rattle.cp_pq.proofs.NodeReadings.{as_it_stands}
use Rattle.cp_pq.proofs.Mirrors.{mirror}
use Rattle.cp_pq.proofs.Rows.{class_read, row_all}
use Rattle.cp_pq.proofs.Closes.{has_all_P}
use Rattle.cp_pq.proofs.Runs.{met_rest, met_later}
use Rattle.cp_pq.proofs.Cores.{parted}

-- a node reads its leaves as they stand
stands : (k : Node) → Reads any_bit k (leaves k)
stands k = as_it_stands any_bit (λ v. refl) k

-- so does a row
row_stands : (ks : List Node) → ReadsAll any_bit ks (all_leaves ks)
row_stands [] = subst (ReadsAll any_bit []) (sym all_leaves_nil) none
row_stands (k ∷ ks) =
    subst (ReadsAll any_bit (k ∷ ks)) (sym (all_leaves_cons k ks))
    (more k ks (leaves k) (all_leaves ks) (stands k) (row_stands ks))

-- what a node reads, it reads from right to left too
read_back : (k : Node) (u : List ℕ) → Reads any_bit k u → Reads any_bit k (reverse u)
read_back k u r = read_wider _ any_bit (λ v b e. refl) k (reverse u) (mirror any_bit k u r)

module _ (q p : ℕ → Bool) (opp : Opposite q p) where
  -- the beginning of a word that has the set together has it together
  prefix_together : (u v : List ℕ) → together q p (u ++ v) ≡ true → together q p u ≡ true
  prefix_together u v t = ⊎_elim
      (λ a. together_all q p u a)
      (λ n. ⊎_elim (λ s. sorted_together q p opp u s)
      (λ s. (and_parts (together q p u) (list_all q v) (sym (together_whole q p u v s) ∙ t)).0)
      (cases_Bool (sorted q p u)))
      (cases_Bool (list_all q u))

  -- so has its end
  suffix_together : (u v : List ℕ) → together q p (u ++ v) ≡ true → together q p v ≡ true
  suffix_together u v t =
      sym (together_reverse q p opp v)
      ∙ prefix_together (reverse v) (reverse u)
      (ap (together q p) (sym (reverse-append u v)) ∙ together_reverse q p opp (u ++ v) ∙ t)

  -- a part of a word that has the set together has it together
  pub middle_together : (u v w : List ℕ) → together q p (u ++ (v ++ w)) ≡ true → together q p v ≡ true
  middle_together u v w t = prefix_together v w (suffix_together u (v ++ w) t)

  -- the beginning of a sorted word is sorted
  prefix_sorted : (u v : List ℕ) → sorted q p (u ++ v) ≡ true → sorted q p u ≡ true
  prefix_sorted u v t = ⊎_elim
      (λ a. sorted_all q p u a)
      (λ n. (and_parts (sorted q p u) (list_all p v) (sym (sorted_cut q p u v n) ∙ t)).0)
      (cases_Bool (list_all q u))

  -- a word that is sorted from both ends is of one kind
  one_kind : (u : List ℕ) → sorted q p u ≡ true → sorted p q u ≡ true → (list_all q u ≡ true) ⊎ (list_all p u ≡ true)
  one_kind [] s t = inl refl
  one_kind (x ∷ u) s t = go (q x) (p x) (opp x) s t
    where
      go : (a b : Bool) → a ≡ not b → cond a (sorted q p u) (list_all p u) ≡ true
          → cond b (sorted p q u) (list_all q u) ≡ true → ((a && list_all q u) ≡ true) ⊎ ((b && list_all p u) ≡ true)
      go true true e s t = absurd (true≢false e)
      go true false e s t = inl t
      go false true e s t = inr s
      go false false e s t = absurd (false≢true e)

  -- a node whose readings are all sorted is outside or inside
  clear_of : (k : Node) → ((u : List ℕ) → Reads any_bit k u → sorted q p u ≡ true)
      → (has_all q k ≡ true) ⊎ (has_all p k ≡ true)
  clear_of k f =
      let u = leaves k in let r = stands k in
      let back : sorted p q u ≡ true = sym (sorted_reverse p q (opposite_sym q p opp) u)
      ∙ f (reverse u) (read_back k u r) in
      ⊎_elim
      (λ a. inl (sym (class_read q any_bit k u r) ∙ a))
      (λ a. inr (sym (class_read p any_bit k u r) ∙ a))
      (one_kind u (f u r) back)

-- kids inside, then kids outside
pub record Leaving (q p : ℕ → Bool) (ks : List Node) : Type 0 where
  pub ins : List Node
  pub outs : List Node
  pub is : ks ≡ ins ++ outs
  pub all_in : list_all (has_all p) ins ≡ true
  pub all_out : list_all (has_all q) outs ≡ true

-- a row all readings of which begin inside and end outside
leaving : (q p : ℕ → Bool) → Opposite q p → (ks : List Node)
    → ((u : List ℕ) → ReadsAll any_bit ks u → sorted p q u ≡ true) → Leaving q p ks
leaving q p opp [] f = record { ins = []; outs = []; is = refl; all_in = refl; all_out = refl }
leaving q p opp (k ∷ ks) f = ⊎_elim
    (λ full. let g = leaving q p opp ks
    (λ v r. sym (sorted_front p q (leaves k) v (class_read p any_bit k (leaves k) (stands k) ∙ full))
    ∙ f (leaves k ++ v) (more k ks (leaves k) v (stands k) r)) in
    record {
      ins = k ∷ g.ins;
      outs = g.outs;
      is = ap (λ z. k ∷ z) g.is;
      all_in = and_from (has_all p k) (list_all (has_all p) g.ins) full g.all_in;
      all_out = g.all_out;
    })
    (λ part. let out = ⊎_elim (λ x. absurd (both_ways (has_all p k) part x)) (λ x. x)
    (clear_of p q (opposite_sym q p opp) k first) in
    let rest : list_all q (all_leaves ks) ≡ true =
    (and_parts (sorted p q (leaves k)) (list_all q (all_leaves ks))
    (sym (sorted_cut p q (leaves k) (all_leaves ks) (class_read p any_bit k (leaves k) (stands k) ∙ part))
    ∙ f (leaves k ++ all_leaves ks) (more k ks (leaves k) (all_leaves ks) (stands k) (row_stands ks)))).1 in
    record {
      ins = [];
      outs = k ∷ ks;
      is = refl;
      all_in = refl;
      all_out = and_from (has_all q k) (list_all (has_all q) ks) out (sym (row_all q ks) ∙ rest);
    })
    (cases_Bool (has_all p k))
  where
    first : (u : List ℕ) → Reads any_bit k u → sorted p q u ≡ true
    first u r = prefix_sorted p q (opposite_sym q p opp) u (all_leaves ks)
        (f (u ++ all_leaves ks) (more k ks u (all_leaves ks) r (row_stands ks)))

-- kids outside, then kids inside, then kids outside
pub record Run (q p : ℕ → Bool) (ks : List Node) : Type 0 where
  pub before : List Node
  pub run : List Node
  pub after : List Node
  pub is : ks ≡ before ++ (run ++ after)
  pub out_before : list_all (has_all q) before ≡ true
  pub all_in : list_all (has_all p) run ≡ true
  pub out_after : list_all (has_all q) after ≡ true

module _ (q p : ℕ → Bool) (opp : Opposite q p) where
  -- each reading of the row has the set together
  abbrev RowTogether : List Node → Type 0
  RowTogether ks = (u : List ℕ) → ReadsAll any_bit ks u → together q p u ≡ true

  -- the first kid that is met is inside, and behind it the row leaves the set
  enters : (k : Node) (ks : List Node) → RowTogether (k ∷ ks) → has_all q k ≡ false → list_all (has_all q) ks ≡ false
      → (has_all p k ≡ true) × Leaving q p ks
  enters k ks f met left = (
    ⊎_elim (λ x. absurd (both_ways (has_all q k) met x)) (λ x. x) (clear_of q p opp k first),
    leaving q p opp ks (λ v r. sym
        (together_start q p (leaves k) v (class_read q any_bit k (leaves k) (stands k) ∙ met)
        (first (leaves k) (stands k))) ∙ f (leaves k ++ v) (more k ks (leaves k) v (stands k) r)),
  )
    where
      first : (u : List ℕ) → Reads any_bit k u → sorted q p u ≡ true
      first u r = ⊎_elim
          (λ s. s)
          (λ s. absurd (both_ways (list_all (has_all q) ks) left
          (sym (row_all q ks) ∙ (and_parts (together q p u) (list_all q (all_leaves ks))
          (sym (together_whole q p u (all_leaves ks) s)
          ∙ f (u ++ all_leaves ks) (more k ks u (all_leaves ks) r (row_stands ks)))).1)))
          (cases_Bool (sorted q p u))

  -- the kids of a Q-node
  pub run_of : (ks : List Node) → RowTogether ks → 2 ≤ length (filter (is_met q) ks) → Run q p ks
  run_of [] f two = absurd (omega (arith, two))
  run_of (k ∷ ks) f two = ⊎_elim
      (λ out. let g = run_of ks
      (λ v r. suffix_together q p opp (leaves k) v (f (leaves k ++ v) (more k ks (leaves k) v (stands k) r)))
      (met_later q p opp k ks out two) in
      record {
        before = k ∷ g.before;
        run = g.run;
        after = g.after;
        is = ap (λ z. k ∷ z) g.is;
        out_before = and_from (has_all q k) (list_all (has_all q) g.before) out g.out_before;
        all_in = g.all_in;
        out_after = g.out_after;
      })
      (λ met. let g = enters k ks f met (met_rest q p opp k ks met two) in
      record {
        before = [];
        run = k ∷ g.1.ins;
        after = g.1.outs;
        is = ap (λ z. k ∷ z) g.1.is;
        out_before = refl;
        all_in = and_from (has_all p k) (list_all (has_all p) g.1.ins) g.0 g.1.all_in;
        out_after = g.1.all_out;
      })
      (cases_Bool (has_all q k))

  -- a kid that is met is not outside
  met_not_out : (k : Node) → is_met q k ≡ true → has_all q k ≡ true → ⊥
  met_not_out k m h = both_ways (not (has_all q k)) (ap (λ b. not b) h) m

  -- kids inside alone leave no kid met behind
  all_in_of : (ks : List Node) → list_all (is_met q) ks ≡ true → Leaving q p ks → list_all (has_all p) ks ≡ true
  all_in_of ks m g = go g.outs g.is g.all_out
    where
      go : (outs : List Node) → ks ≡ g.ins ++ outs → list_all (has_all q) outs ≡ true → list_all (has_all p) ks ≡ true
      go [] e o = ap (list_all (has_all p)) e ∙ list_all-append (has_all p) g.ins []
          ∙ and_from (list_all (has_all p) g.ins) true g.all_in refl
      go (x ∷ outs) e o =
          let a = and_parts (list_all (is_met q) g.ins) (list_all (is_met q) (x ∷ outs))
          (sym (list_all-append (is_met q) g.ins (x ∷ outs)) ∙ ap (list_all (is_met q)) (sym e) ∙ m) in
          absurd (met_not_out x (and_parts (is_met q x) (list_all (is_met q) outs) a.1).0
          (and_parts (has_all q x) (list_all (has_all q) outs) o).0)

  -- a row that begins outside does not leave the set later
  none_first : (x c : Node) (xs cs : List Node) → has_all q x ≡ true → has_all p x ≡ false → is_met q c ≡ true
      → Leaving q p (x ∷ (xs ++ c ∷ cs)) → ⊥
  none_first x c xs cs out part met g = go g.ins g.is g.all_in
    where
      go : (ins : List Node) → x ∷ (xs ++ c ∷ cs) ≡ ins ++ g.outs → list_all (has_all p) ins ≡ true → ⊥
      go [] e i =
          let a : list_all (has_all q) (x ∷ (xs ++ c ∷ cs)) ≡ true = ap (list_all (has_all q)) e ∙ g.all_out in
          let b = and_parts (has_all q x) (list_all (has_all q) (xs ++ c ∷ cs)) a in
          let d = and_parts (list_all (has_all q) xs) (list_all (has_all q) (c ∷ cs))
          (sym (list_all-append (has_all q) xs (c ∷ cs)) ∙ b.1) in
          met_not_out c met (and_parts (has_all q c) (list_all (has_all q) cs) d.1).0
      go (y ∷ ins) e i =
          let same : x ≡ y = cc in
          both_ways (has_all p x) part (ap (has_all p) same ∙ (and_parts (has_all p y) (list_all (has_all p) ins) i).0)

  -- a P-node with two kids met has some order with the set apart, if the set is not the whole node
  pub never_P : (o : ℕ) (ks : List Node) → list_all (is_clear q p) ks ≡ true → IsAlwaysTogether q p (P o ks)
      → has_all p (P o ks) ≡ false → 2 ≤ length (filter (is_met q) ks) → ⊥
  never_P o ks clear f part two =
      go (filter (has_all q) ks) (filter (is_met q) ks) (parted (has_all q) ks) (all_filter (has_all q) ks)
      (all_filter (is_met q) ks) two
    where
      go : (e c : List Node) → IsPermutation ks (e ++ c) → list_all (has_all q) e ≡ true → list_all (is_met q) c ≡ true
          → 2 ≤ length c → ⊥
      go e [] perm out met le = omega (arith, le)
      go e (c ∷ []) perm out met le = omega (arith, le)
      go e (c ∷ d ∷ cs) perm out met le =
          let m = and_parts (is_met q c) (list_all (is_met q) (d ∷ cs)) met in
          let m2 = and_parts (is_met q d) (list_all (is_met q) cs) m.1 in
          let met_c : has_all q c ≡ false =
          ⊎_elim (λ x. absurd (met_not_out c m.0 x)) (λ x. x) (cases_Bool (has_all q c)) in
          let order : IsPermutation ks (c ∷ (e ++ d ∷ cs)) =
          IsPermutation-trans _ _ _ perm (IsPermutation-middle e c (d ∷ cs)) in
          let left : list_all (has_all q) (e ++ d ∷ cs) ≡ false =
          ⊎_elim
          (λ x. let a = and_parts (list_all (has_all q) e) (list_all (has_all q) (d ∷ cs))
          (sym (list_all-append (has_all q) e (d ∷ cs)) ∙ x) in
          absurd (met_not_out d m2.0 (and_parts (has_all q d) (list_all (has_all q) cs) a.1).0))
          (λ x. x) (cases_Bool (list_all (has_all q) (e ++ d ∷ cs))) in
          let g = enters c (e ++ d ∷ cs) (λ u r. f u (any_order o ks (c ∷ (e ++ d ∷ cs)) u order r)) met_c left in
          first e perm out g.0 g.1 m.1 m2.0
        where
          first : (e : List Node) → IsPermutation ks (e ++ c ∷ d ∷ cs) → list_all (has_all q) e ≡ true
              → has_all p c ≡ true
              → Leaving q p (e ++ d ∷ cs) → list_all (is_met q) (d ∷ cs) ≡ true → is_met q d ≡ true → ⊥
          first [] perm out full g m md =
              let a = and_from (has_all p c) (list_all (has_all p) (d ∷ cs)) full (all_in_of (d ∷ cs) m g) in
              both_ways (has_all p (P o ks)) part
              (has_all_P p o ks ∙ list_all-IsPermutation (has_all p) ks (c ∷ d ∷ cs) perm ∙ a)
          first (x ∷ e) perm out full g m md =
              let h = and_parts (has_all q x) (list_all (has_all q) e) out in
              let k : list_all (is_clear q p) (x ∷ (e ++ c ∷ d ∷ cs)) ≡ true =
              sym (list_all-IsPermutation (is_clear q p) ks (x ∷ (e ++ c ∷ d ∷ cs)) perm) ∙ clear in
              none_first x d e cs h.0
              (clear_part (has_all q x) (has_all p x) h.0
              (and_parts (is_clear q p x) (list_all (is_clear q p) (e ++ c ∷ d ∷ cs)) k).0) md g
            where
              clear_part : (a b : Bool) → a ≡ true → not (a && b) ≡ true → b ≡ false
              clear_part true true e h = absurd (false≢true h)
              clear_part true false e h = refl
              clear_part false b e h = absurd (false≢true e)
