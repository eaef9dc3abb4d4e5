-- The kids of a P-node that meet the set, put under a Q-node with a new var.
use Rattle.std.proofs.Common.{◌≡◌, ℕ, ◌<◌, ◌≤◌, Bool, true, false, cond, not, ◌&&◌, ◌||◌, ◌↔◌, List, [], ◌∷◌, ◌++◌, length, length-append, map, filter, reverse, refl, sym, ap, ap₂, ◌∙◌, subst, subst₂, inl, inr, append-nil, arith, IsPermutation}
use Rattle.std.specs.List.{list_all, list_any, AllZip}
use Rattle.std.proofs.lemmas.Bool.{both_ways, true≢false, false≢true, and_parts}
use Rattle.std.proofs.lemmas.List.{reverse-append, reverse-reverse}
use Rattle.std.proofs.lemmas.List.Concat.{flat_map-append}
use Rattle.std.proofs.lemmas.List.Sorted.{IsPermutation-refl, IsPermutation-sym, IsPermutation-trans, IsPermutation-cons, IsPermutation-middle, IsPermutation-append_comm, length_permutation}
use Rattle.cp_pq.specs.declared.node.Node.{Node}
use Rattle.cp_pq.specs.declared.node.Node.TheVariants.{P, Q}
use Rattle.cp_pq.specs.declared.found.Found.{Found}
use Rattle.cp_pq.specs.Words.{Opposite, sorted, has_all, Licensed, turned, is_mixed, is_met, is_clear, group_of}
use Rattle.cp_pq.specs.Bits.{differ}
use Rattle.cp_pq.specs.Changes.{by_bit, IsDone}
use Rattle.cp_pq.specs.Founds.{IsGiven, Sorts, is_torn, line_of, flat_line, turn_found}
use Rattle.cp_pq.specs.Keeping.{any_bound, Keeps}
use Rattle.cp_pq.specs.Grants.{Grant, Grants}
use Rattle.cp_pq.specs.Roots.{IsCore}
use Rattle.cp_pq.proofs.Permutations.{all_filter}
use Rattle.cp_pq.proofs.Mirrors.{turned_licence, licence_turned, ties_turned, turned_ties}
use Rattle.cp_pq.proofs.Lines.{IsMiddle}
use Rattle.cp_pq.proofs.Closes.{never_like}
use Rattle.cp_pq.proofs.Zips.{zip_keeps, zip_long}
use Rattle.cp_pq.proofs.Runs.{given_turn}
use Rattle.cp_pq.proofs.KeepingLaws.{Keeps_refl, Keeps_weaken, Keeps_trans, Keeps_append, Keeps_permuted, Keeps_grouped, Keeps_into_Q}
use Rattle.cp_pq.proofs.TopP.{middle_done}
use Rattle.cp_pq.proofs.WordLaws.{opposite_sym}

-- the same ties, said in another way
pub done_again : (q p : ℕ → Bool) (old : Bool) (y : ℕ) (L M : (ℕ → Bool → Bool) → Type 0) (n m : Node)
    → ((may : ℕ → Bool → Bool) → L may ↔ M may) → IsDone q p old y L n m → IsDone q p old y M n m
done_again q p old y L M n m same d = record {
  to = λ may xs r t. let g = d.to may xs r t in (g.0, g.1, (same (by_bit g.0 may)).0 g.2, g.3);
  fro = λ may xs r tie. d.fro may xs r (λ b e. (same (by_bit b may)).1 (tie b e));
}

-- licences turned twice
not_twice : (b : Bool) → not (not b) ≡ b
not_twice true = refl
not_twice false = refl

-- ties are licensed where they are by the licence that is turned twice
licensed_twice : (d : Bool) (may : ℕ → Bool → Bool) (ts : List (ℕ × Bool))
    → Licensed d may ts ↔ Licensed d (turned (turned may)) ts
licensed_twice d may [] = (λ x. x, λ x. x)
licensed_twice d may (t ∷ ts) =
    let g = licensed_twice d may ts in
    let e : not (not (differ d t.1)) ≡ differ d t.1 = not_twice (differ d t.1) in
    (λ x. (subst (λ b. may t.0 b ≡ true) (sym e) x.0, g.0 x.1), λ x. (subst (λ b. may t.0 b ≡ true) e x.0, g.1 x.1))

-- what a node was found to be asks the same of a licence that is turned twice
grant_twice : (f : Found) (may : ℕ → Bool → Bool) → Grant may f ↔ Grant (turned (turned may)) f
grant_twice (Found.Out m) may = (λ x. x, λ x. x)
grant_twice (Found.In m) may = (λ x. x, λ x. x)
grant_twice (Found.Line front back ties) may = licensed_twice false may ties
grant_twice Found.Torn may = (λ x. x, λ x. x)

-- against the other leaves it asks the same of the turned licence
grant_turn : (f : Found) (may : ℕ → Bool → Bool) → Grant (turned may) f ↔ Grant may (turn_found f)
grant_turn (Found.Out m) may = (λ x. x, λ x. x)
grant_turn (Found.In m) may = (λ x. x, λ x. x)
grant_turn (Found.Line front back ties) may = (λ h. ties_turned false may ties (turned_licence false may ties h), λ h. licence_turned false may ties (turned_ties false may ties h))
grant_turn Found.Torn may = (λ x. x, λ x. x)

-- a grouped row as nodes inside
flat_ins : (row : List Node) → flat_line (map Found.In row) ≡ row
flat_ins [] = refl
flat_ins (k ∷ row) = ap (λ z. k ∷ z) (flat_ins row)

-- nodes inside ask nothing of a licence
grants_ins : (may : ℕ → Bool → Bool) (row : List Node) → Grants may (map Found.In row)
grants_ins may [] = tt
grants_ins may (k ∷ row) = (tt, grants_ins may row)

-- the group of some nodes is not empty
group_long : (o : ℕ) (f : List Node) → 1 ≤ length f → 1 ≤ length (group_of o f)
group_long o [] le = absurd (omega (arith, le))
group_long o (k ∷ []) le = omega arith
group_long o (k ∷ j ∷ ks) le = omega arith

-- a group has one node at most
pub group_short : (o : ℕ) (f : List Node) → length (group_of o f) ≤ 1
group_short o [] = omega arith
group_short o (k ∷ []) = omega arith
group_short o (k ∷ j ∷ ks) = omega arith

-- a row in two parts by a test
pub parted : (f : Node → Bool) (ks : List Node) → IsPermutation ks (filter f ks ++ filter (λ k. not (f k)) ks)
parted f [] = IsPermutation-refl []
parted f (k ∷ ks) = go (f k) (parted f ks)
  where
    go : (b : Bool) → IsPermutation ks (filter f ks ++ filter (λ k. not (f k)) ks)
        → IsPermutation (k ∷ ks) (cond b (k ∷ filter f ks) (filter f ks) ++ cond (not b)
        (k ∷ filter (λ k. not (f k)) ks) (filter (λ k. not (f k)) ks))
    go true ih = IsPermutation-cons k _ _ ih
    go false ih = IsPermutation-trans _ _ _ (IsPermutation-cons k _ _ ih) (IsPermutation-sym _ _ (IsPermutation-middle (filter f ks) k (filter (λ k. not (f k)) ks)))

module _ (q p : ℕ → Bool) (opp : Opposite q p) where
  -- the kids that meet the set are the mixed ones and those inside
  pub met_parts : (ks : List Node) → list_all (is_clear q p) ks ≡ true
      → IsPermutation (filter (is_met q) ks) (filter (is_mixed q p) ks ++ filter (has_all p) ks)
  met_parts [] c = IsPermutation-refl []
  met_parts (k ∷ ks) c = go (has_all q k) (has_all p k) (and_parts (is_clear q p k) (list_all (is_clear q p) ks) c).0 (met_parts ks (and_parts (is_clear q p k) (list_all (is_clear q p) ks) c).1)
    where
      go : (x y : Bool) → not (x && y) ≡ true
          → IsPermutation (filter (is_met q) ks) (filter (is_mixed q p) ks ++ filter (has_all p) ks)
          → IsPermutation (cond (not x) (k ∷ filter (is_met q) ks) (filter (is_met q) ks))
          (cond (not x && not y) (k ∷ filter (is_mixed q p) ks)
          (filter (is_mixed q p) ks) ++ cond y (k ∷ filter (has_all p) ks) (filter (has_all p) ks))
      go true true e ih = absurd (false≢true e)
      go true false e ih = ih
      go false true e ih = IsPermutation-trans _ _ _ (IsPermutation-cons k _ _ ih) (IsPermutation-sym _ _ (IsPermutation-middle (filter (is_mixed q p) ks) k (filter (has_all p) ks)))
      go false false e ih = IsPermutation-cons k _ _ ih

  -- with no mixed kid they are those inside, in their order
  pub met_inside : (ks : List Node) → list_all (is_clear q p) ks ≡ true → filter (is_mixed q p) ks ≡ []
      → filter (is_met q) ks ≡ filter (has_all p) ks
  met_inside [] c e = refl
  met_inside (k ∷ ks) c e = go (has_all q k) (has_all p k) (and_parts (is_clear q p k) (list_all (is_clear q p) ks) c).0 e (met_inside ks (and_parts (is_clear q p k) (list_all (is_clear q p) ks) c).1)
    where
      go : (x y : Bool) → not (x && y) ≡ true
          → cond (not x && not y) (k ∷ filter (is_mixed q p) ks) (filter (is_mixed q p) ks) ≡ []
          → (filter (is_mixed q p) ks ≡ [] → filter (is_met q) ks ≡ filter (has_all p) ks)
          → cond (not x) (k ∷ filter (is_met q) ks) (filter (is_met q) ks) ≡ cond y (k ∷ filter (has_all p) ks)
          (filter (has_all p) ks)
      go true true d f ih = absurd (false≢true d)
      go true false d f ih = ih f
      go false true d f ih = ap (λ z. k ∷ z) (ih f)
      go false false d f ih = absurd cc

  -- a mixed kid with what it was found to be is the middle of a row
  middle_of : (k : Node) (f : Found) → is_mixed q p k ≡ true → IsGiven q p k f
      → IsMiddle q p (λ may. Grant may f) (k ∷ []) (line_of f)
  middle_of k (Found.Out m) e g = absurd (both_ways (not (has_all q k)) (ap (λ z. not z) g.0) (and_parts (not (has_all q k)) (not (has_all p k)) e).0)
  middle_of k (Found.In m) e g = absurd (both_ways (not (has_all p k)) (ap (λ z. not z) g.1) (and_parts (not (has_all q k)) (not (has_all p k)) e).1)
  middle_of k (Found.Line front back ties) e g = inr (k, refl, g.0, g.1, g.2)
  middle_of k Found.Torn e g = inr (k, refl, g.0, g.1, never_like (sorted q p) (k ∷ []) [] g.2)

  -- a row with no line torn keeps what its one node keeps, and is not empty
  one_keeps : (k : Node) (f : Found) → IsGiven q p k f → is_torn f ≡ false
      → Keeps any_bound (k ∷ []) (line_of f) × (1 ≤ length (line_of f))
  one_keeps k f g t =
      let z : AllZip (IsGiven q p) (k ∷ []) (f ∷ []) = (g, tt) in
      let head : list_any is_torn (f ∷ []) ≡ false = ap (λ x. x || false) t in
      let e : flat_line (f ∷ []) ≡ line_of f = append-nil (line_of f) in
      (subst (Keeps any_bound (k ∷ [])) e (zip_keeps q p (k ∷ []) (f ∷ []) z head), subst (λ z. 1 ≤ length z) e (zip_long q p (k ∷ []) (f ∷ []) z head))

-- where no bit of two is true, both are false
or_false : (a b : Bool) → (a || b) ≡ false → (a ≡ false) × (b ≡ false)
or_false true b e = absurd (true≢false e)
or_false false b e = (refl, e)

-- where none of a row is torn, its first and its last are not
torn_ends : (fs gs : List Found) (f g : Found) → list_any is_torn (f ∷ (fs ++ g ∷ [])) ≡ false
    → (is_torn f ≡ false) × (is_torn g ≡ false)
torn_ends fs gs f g h = let x = or_false (is_torn f) (list_any is_torn (fs ++ g ∷ [])) h in (x.0, last fs x.1)
  where
    last : (es : List Found) → list_any is_torn (es ++ g ∷ []) ≡ false → is_torn g ≡ false
    last [] e = (or_false (is_torn g) false e).0
    last (d ∷ es) e = last es (or_false (is_torn d) (list_any is_torn (es ++ g ∷ [])) e).1

module _ (q p : ℕ → Bool) (opp : Opposite q p) (y o : ℕ) (ks outs ins : List Node) where
  -- a row of which two things were found has two nodes, each with its own
  two_given : (f g : Found) (ms : List Node) → AllZip (IsGiven q p) ms (f ∷ g ∷ [])
      → (k j : Node) × (ms ≡ k ∷ j ∷ []) × IsGiven q p k f × IsGiven q p j g
  two_given f g [] z = absurd z
  two_given f g (k ∷ []) z = absurd z.1
  two_given f g (k ∷ j ∷ []) z = (k, j, refl, z.0, z.1.0)
  two_given f g (k ∷ j ∷ i ∷ ms) z = absurd z.1.1

  -- a row of which one thing was found has one node
  one_given : (f : Found) (ms : List Node) → AllZip (IsGiven q p) ms (f ∷ [])
      → (k : Node) × (ms ≡ k ∷ []) × IsGiven q p k f
  one_given f [] z = absurd z
  one_given f (k ∷ []) z = (k, refl, z.0)
  one_given f (k ∷ j ∷ ms) z = absurd z.1

  -- the kids that meet the set all meet it
  all_met : list_all (is_met q) (filter (is_met q) ks) ≡ true
  all_met = all_filter (is_met q) ks

  -- the kids that meet the set, one of them mixed, become a Q-node of this one and the group of those inside
  pub core_one : (f : Found) (row : List Found) → Sorts q p ks outs ins (f ∷ []) → 2 ≤ length (filter (is_met q) ks)
      → row ≡ f ∷ map Found.In (group_of o ins) → IsCore q p y o (filter (is_met q) ks) row
  core_one f row s two e = subst (IsCore q p y o (filter (is_met q) ks)) (sym e) (record { done = made; keeps = kept })
    where
      h : (k : Node) × (filter (is_mixed q p) ks ≡ k ∷ []) × IsGiven q p k f
      h = one_given f (filter (is_mixed q p) ks) s.mixed_are

      mixed : is_mixed q p h.0 ≡ true
      mixed = (and_parts (is_mixed q p h.0) true (sym (ap (list_all (is_mixed q p)) h.1) ∙ all_filter (is_mixed q p) ks)).0

      perm : IsPermutation (filter (is_met q) ks) ((h.0 ∷ []) ++ ([] ++ ins))
      perm = subst₂ (λ a b. IsPermutation (filter (is_met q) ks) (a ++ b)) h.1 (sym s.ins_are) (met_parts q p opp ks s.clear)

      full : list_all (has_all p) ins ≡ true
      full = ap (list_all (has_all p)) s.ins_are ∙ all_filter (has_all p) ks

      line : line_of f ++ (group_of o ins ++ reverse []) ≡ flat_line (f ∷ map Found.In (group_of o ins))
      line = ap (λ z. line_of f ++ z) (append-nil (group_of o ins) ∙ sym (flat_ins (group_of o ins)))

      made : IsDone q p false y (λ may. Grants may (f ∷ map Found.In (group_of o ins))) (P o (filter (is_met q) ks))
          (Q y (flat_line (f ∷ map Found.In (group_of o ins))))
      made = subst (λ z. IsDone q p false y (λ may. Grants may (f ∷ map Found.In (group_of o ins))) (P o (filter (is_met q) ks)) (Q y z)) line
          (done_again q p false y (λ may. Grant may f × Unit {0}) (λ may. Grants may (f ∷ map Found.In (group_of o ins))) (P o (filter (is_met q) ks)) _
          (λ may. (λ x. (x.0, grants_ins may (group_of o ins)), λ x. (x.0, tt)))
          (middle_done q p opp o y (λ may. Grant may f) (λ may. Unit {0}) (filter (is_met q) ks) (h.0 ∷ []) (line_of f) [] [] ins
          (λ may. (λ x. x, λ x. x)) perm all_met full (middle_of q p opp h.0 f mixed h.2) (inl (refl, refl, λ may. tt)) (λ x. absurd cc) two))

      kept : list_any is_torn (f ∷ map Found.In (group_of o ins)) ≡ false
          → Keeps (λ n. y < n) (P o (filter (is_met q) ks) ∷ [])
          (Q y (flat_line (f ∷ map Found.In (group_of o ins))) ∷ [])
      kept t =
          let k = one_keeps q p opp h.0 f h.2 (or_false (is_torn f) _ t).0 in
          let l1 = length_permutation _ _ perm in
          let l2 = group_long o ins (omega (arith, l1, two)) in
          let l3 = k.1 in
          let l4 = length-append (line_of f) (group_of o ins) in
          let long : 2 ≤ length (line_of f ++ group_of o ins) = omega (arith, l2, l3, l4) in
          subst (λ z. Keeps (λ n. y < n) (P o (filter (is_met q) ks) ∷ []) (Q y z ∷ [])) (ap (λ z. line_of f ++ z) (sym (flat_ins (group_of o ins))))
          (Keeps_trans (λ n. y < n) _ _ _
          (Keeps_weaken (λ n. y < n) _ _ (Keeps_trans any_bound _ _ _ (Keeps_grouped any_bound o (filter (is_met q) ks) [] (h.0 ∷ []) ins perm)
          (Keeps_append any_bound (h.0 ∷ []) (line_of f) (group_of o ins) (group_of o ins) k.0 (Keeps_refl any_bound (group_of o ins)))))
          (Keeps_into_Q y (line_of f ++ group_of o ins) long))

  -- with two mixed kids, the group of those inside stands between the first and the second turned
  pub core_two : (f g : Found) (row : List Found) → Sorts q p ks outs ins (f ∷ g ∷ [])
      → 2 ≤ length (filter (is_met q) ks)
      → row ≡ f ∷ (map Found.In (group_of o ins) ++ turn_found g ∷ []) → IsCore q p y o (filter (is_met q) ks) row
  core_two f g row s two e = subst (IsCore q p y o (filter (is_met q) ks)) (sym e) (record { done = made; keeps = kept })
    where
      h : (k j : Node) × (filter (is_mixed q p) ks ≡ k ∷ j ∷ []) × IsGiven q p k f × IsGiven q p j g
      h = two_given f g (filter (is_mixed q p) ks) s.mixed_are

      both : (is_mixed q p h.0 ≡ true) × ((is_mixed q p h.1 && true) ≡ true)
      both = and_parts (is_mixed q p h.0) (is_mixed q p h.1 && true) (sym (ap (list_all (is_mixed q p)) h.2) ∙ all_filter (is_mixed q p) ks)

      second : is_mixed q p h.1 ≡ true
      second = (and_parts (is_mixed q p h.1) true both.1).0

      perm : IsPermutation (filter (is_met q) ks) ((h.0 ∷ []) ++ ((h.1 ∷ []) ++ ins))
      perm = subst₂ (λ a b. IsPermutation (filter (is_met q) ks) (a ++ b)) h.2 (sym s.ins_are) (met_parts q p opp ks s.clear)

      full : list_all (has_all p) ins ≡ true
      full = ap (list_all (has_all p)) s.ins_are ∙ all_filter (has_all p) ks

      turned_line : (d : Found) → reverse (line_of d) ≡ line_of (turn_found d)
      turned_line (Found.Out m) = refl
      turned_line (Found.In m) = refl
      turned_line (Found.Line front back ties) = reverse-append (reverse front) back ∙ ap (λ z. reverse back ++ z) (reverse-reverse front)
      turned_line Found.Torn = refl

      flat_row : flat_line (f ∷ (map Found.In (group_of o ins) ++ turn_found g ∷ []))
          ≡ line_of f ++ (group_of o ins ++ line_of (turn_found g))
      flat_row = ap (λ z. line_of f ++ z) (flat_map-append line_of (map Found.In (group_of o ins)) (turn_found g ∷ []) ∙ ap₂ (λ a b. a ++ b) (flat_ins (group_of o ins)) (append-nil (line_of (turn_found g))))

      line : line_of f ++ (group_of o ins ++ reverse (line_of g))
          ≡ flat_line (f ∷ (map Found.In (group_of o ins) ++ turn_found g ∷ []))
      line = ap (λ z. line_of f ++ (group_of o ins ++ z)) (turned_line g) ∙ sym flat_row

      grants_row : (may : ℕ → Bool → Bool) (js : List Node)
          → Grant may (turn_found g) ↔ Grants may (map Found.In js ++ turn_found g ∷ [])
      grants_row may [] = (λ x. (x, tt), λ x. x.0)
      grants_row may (j ∷ js) = let r = grants_row may js in (λ x. (tt, r.0 x), λ x. r.1 x.1)

      made : IsDone q p false y (λ may. Grants may (f ∷ (map Found.In (group_of o ins) ++ turn_found g ∷ [])))
          (P o (filter (is_met q) ks)) (Q y (flat_line (f ∷ (map Found.In (group_of o ins) ++ turn_found g ∷ []))))
      made = subst (λ z. IsDone q p false y (λ may. Grants may (f ∷ (map Found.In (group_of o ins) ++ turn_found g ∷ []))) (P o (filter (is_met q) ks)) (Q y z)) line
          (done_again q p false y (λ may. Grant may f × Grant (turned may) g) (λ may. Grants may (f ∷ (map Found.In (group_of o ins) ++ turn_found g ∷ []))) (P o (filter (is_met q) ks)) _
          (λ may. let t = grant_turn g may in let r = grants_row may (group_of o ins) in (λ x. (x.0, r.0 (t.0 x.1)), λ x. (x.0, t.1 (r.1 x.1))))
          (middle_done q p opp o y (λ may. Grant may f) (λ may. Grant may g) (filter (is_met q) ks) (h.0 ∷ []) (line_of f) (h.1 ∷ []) (line_of g) ins
          (grant_twice g) perm all_met full (middle_of q p opp h.0 f both.0 h.3) (middle_of q p opp h.1 g second h.4) (λ x. absurd cc) two))

      kept : list_any is_torn (f ∷ (map Found.In (group_of o ins) ++ turn_found g ∷ [])) ≡ false
          → Keeps (λ n. y < n) (P o (filter (is_met q) ks) ∷ [])
          (Q y (flat_line (f ∷ (map Found.In (group_of o ins) ++ turn_found g ∷ []))) ∷ [])
      kept t =
          let ends = torn_ends (map Found.In (group_of o ins)) [] f (turn_found g) t in
          let k = one_keeps q p opp h.0 f h.3 ends.0 in
          let j = one_keeps p q (opposite_sym q p opp) h.1 (turn_found g) (given_turn q p opp h.1 g h.4) ends.1 in
          let l1 = k.1 in let l2 = j.1 in
          let l3 = length-append (line_of f) (group_of o ins ++ line_of (turn_found g)) in
          let l4 = length-append (group_of o ins) (line_of (turn_found g)) in
          let long : 2 ≤ length (line_of f ++ (group_of o ins ++ line_of (turn_found g))) = omega (arith, l1, l2, l3, l4) in
          let turn : IsPermutation (h.0 ∷ h.1 ∷ group_of o ins) (h.0 ∷ (group_of o ins ++ h.1 ∷ [])) = IsPermutation-cons h.0 _ _ (IsPermutation-append_comm (h.1 ∷ []) (group_of o ins)) in
          subst (λ z. Keeps (λ n. y < n) (P o (filter (is_met q) ks) ∷ []) (Q y z ∷ [])) (sym flat_row)
          (Keeps_trans (λ n. y < n) _ _ _
          (Keeps_weaken (λ n. y < n) _ _ (Keeps_trans any_bound _ _ _ (Keeps_grouped any_bound o (filter (is_met q) ks) [] (h.0 ∷ h.1 ∷ []) ins perm)
          (Keeps_trans any_bound _ _ _ (Keeps_permuted any_bound (h.0 ∷ h.1 ∷ group_of o ins) (h.0 ∷ (group_of o ins ++ h.1 ∷ [])) turn)
          (Keeps_append any_bound (h.0 ∷ []) (line_of f) (group_of o ins ++ h.1 ∷ []) (group_of o ins ++ line_of (turn_found g)) k.0
          (Keeps_append any_bound (group_of o ins) (group_of o ins) (h.1 ∷ []) (line_of (turn_found g)) (Keeps_refl any_bound (group_of o ins)) j.0)))))
          (Keeps_into_Q y (line_of f ++ (group_of o ins ++ line_of (turn_found g))) long))
