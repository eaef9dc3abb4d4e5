-- Counting the numbers below a bound that pass a test.
use Rattle.std.proofs.Common.{◌≡◌, ℕ, zero, suc, ◌+◌, ◌<◌, ◌≤◌, ◌⊎◌, ◌↔◌, Bool, true, false, cond, not, ◌&&◌, eqb, sym, refl, ap, ap₂, ◌∙◌, subst, inl, inr, ⊎_elim, arith, lt-suc_self, add-one}
use Rattle.std.proofs.lemmas.Bool.{cases_Bool, cases_eq, eq-eqb, ne_eqb, false≢true, and_right, not_from_true}
use Rattle.cp_lists.specs.Count.{count, without, IsCount}

-- what holds below n and at n holds below the next number
pub below_next : (P : ℕ → Type 0) (n : ℕ) → ((x : ℕ) → x < n → P x) → P n → (x : ℕ) → x < suc n → P x
below_next P n before here x lt = ⊎_elim (λ e. subst P (sym e) here) (λ ne. before x (omega arith)) (cases_eq x n)

-- two tests that pass at the same places are equal
pub same_tests : (a b : Bool) → (a ≡ true → b ≡ true) → (b ≡ true → a ≡ true) → a ≡ b
same_tests true b there back = sym (there refl)
same_tests false true there back = back refl
same_tests false false there back = refl

-- one number adds at most one to a count
pub one-le : (b : Bool) → cond b 1 0 ≤ 1
one-le true = omega arith
one-le false = omega arith

-- a test and its negation together pass once
one_both : (b : Bool) → cond b 1 0 + cond (not b) 1 0 ≡ 1
one_both true = refl
one_both false = refl

-- where one test passes only if another does, it adds no more
one_weaker : (a b : Bool) → (a ≡ true → b ≡ true) → cond a 1 0 ≤ cond b 1 0
one_weaker true b weaker = rw (weaker refl) (omega arith)
one_weaker false b weaker = omega arith

-- a number that passes adds one
pub count_yes : (n : ℕ) (p : ℕ → Bool) → p n ≡ true → count (suc n) p ≡ suc (count n p)
count_yes n p passes = rw passes (omega arith)

-- a number that fails adds nothing
pub count_no : (n : ℕ) (p : ℕ → Bool) → p n ≡ false → count (suc n) p ≡ count n p
count_no n p fails = rw fails (omega arith)

-- tests that agree below n have one count
pub count_agree : (n : ℕ) (p q : ℕ → Bool) → ((x : ℕ) → x < n → p x ≡ q x) → count n p ≡ count n q
count_agree zero p q same = refl
count_agree (suc n) p q same = ap₂ (λ (b : Bool) (c : ℕ). cond b 1 0 + c) (same n (lt-suc_self n)) (count_agree n p q (λ x lt. same x (omega arith)))

-- at most n numbers below n pass a test
pub count-le : (n : ℕ) (p : ℕ → Bool) → count n p ≤ n
count-le zero p = omega arith
count-le (suc n) p = omega (arith, one-le (p n), count-le n p)

-- a test that passes everywhere below n counts n
pub count_all : (n : ℕ) (p : ℕ → Bool) → ((x : ℕ) → x < n → p x ≡ true) → count n p ≡ n
count_all zero p all = refl
count_all (suc n) p all = rw (all n (lt-suc_self n)) (omega (arith, count_all n p (λ x lt. all x (omega arith))))

-- a test that passes nowhere below n counts nothing
pub count_none : (n : ℕ) (p : ℕ → Bool) → ((x : ℕ) → x < n → p x ≡ false) → count n p ≡ 0
count_none zero p none = refl
count_none (suc n) p none = rw (none n (lt-suc_self n)) (omega (arith, count_none n p (λ x lt. none x (omega arith))))

-- the numbers that pass and those that fail are all numbers
pub count_both : (n : ℕ) (p : ℕ → Bool) → count n p + count n (λ x. not (p x)) ≡ n
count_both zero p = refl
count_both (suc n) p = omega (arith, one_both (p n), count_both n p)

-- a weaker test counts at least as many
pub count_weaker : (n : ℕ) (p q : ℕ → Bool) → ((x : ℕ) → x < n → p x ≡ true → q x ≡ true) → count n p ≤ count n q
count_weaker zero p q weaker = omega arith
count_weaker (suc n) p q weaker = omega (arith, one_weaker (p n) (q n) (weaker n (lt-suc_self n)), count_weaker n p q (λ x lt. weaker x (omega arith)))

-- a higher bound counts at least as many
pub count_higher : (n m : ℕ) (p : ℕ → Bool) → n ≤ m → count n p ≤ count m p
count_higher n zero p le = let e : n ≡ 0 = omega arith in rw e (omega arith)
count_higher n (suc m) p le = ⊎_elim (λ e. rw e (omega arith)) (λ ne. omega (arith, count_higher n m p (omega arith))) (cases_eq n (suc m))

-- a itself fails the test that leaves a out
pub without_at : (p : ℕ → Bool) (a x : ℕ) → x ≡ a → without p a x ≡ false
without_at p a x e = and_right (p x) (not (eqb x a)) (not_from_true (eqb x a) (eq-eqb x a e))

-- a test and true is the test
and_true : (b : Bool) → (b && true) ≡ b
and_true true = refl
and_true false = refl

-- the test that leaves a out is the old one elsewhere
pub without_other : (p : ℕ → Bool) (a x : ℕ) → (x ≡ a → ⊥) → without p a x ≡ p x
without_other p a x ne = rw (ne_eqb x a ne) (and_true (p x))

-- leaving out a number that passes lowers the count by one
pub count_without : (n : ℕ) (p : ℕ → Bool) (a : ℕ) → a < n → p a ≡ true → count n p ≡ suc (count n (without p a))
count_without zero p a lt passes = omega arith
count_without (suc n) p a lt passes =
    ⊎_elim
    (λ e.
    let now : p n ≡ true = ap p e ∙ passes in
    let gone : without p a n ≡ false = without_at p a n e in
    let rest : count n (without p a) ≡ count n p = count_agree n (without p a) p (λ x lt. without_other p a x (λ f. omega arith)) in
    count_yes n p now ∙ ap suc (sym rest) ∙ ap suc (sym (count_no n (without p a) gone)))
    (λ ne.
    let kept : without p a n ≡ p n = without_other p a n ne in
    let rest : count n p ≡ suc (count n (without p a)) = count_without n p a (omega arith) passes in
    let shift : cond (p n) 1 0 + count n p ≡ suc (cond (p n) 1 0 + count n (without p a)) = omega arith in
    shift ∙ ap (λ (b : Bool). suc (cond b 1 0 + count n (without p a))) (sym kept))
    (cases_eq n a)

-- the pigeonhole principle: what maps the numbers that pass p to different numbers that pass q shows that as many pass q
pub count_inject : (n m : ℕ) (p q : ℕ → Bool) (h : ℕ → ℕ)
    → ((x : ℕ) → x < n → p x ≡ true → (h x < m) × (q (h x) ≡ true))
    → ((x y : ℕ) → x < n → y < n → p x ≡ true → p y ≡ true → h x ≡ h y → x ≡ y) → count n p ≤ count m q
count_inject zero m p q h into apart = omega arith
count_inject (suc n) m p q h into apart =
    ⊎_elim
    (λ passes.
    let there : (h n < m) × (q (h n) ≡ true) = into n (lt-suc_self n) passes in
    let fewer : count m q ≡ suc (count m (without q (h n))) = count_without m q (h n) there.0 there.1 in
    let rest : count n p ≤ count m (without q (h n)) = count_inject n m p (without q (h n)) h
    (λ x lt px. ((into x (omega arith) px).0, without_other q (h n) (h x) (λ e. let same : x ≡ n = apart x n (omega arith) (lt-suc_self n) px passes e in omega arith) ∙ (into x (omega arith) px).1))
    (λ x y ltx lty. apart x y (omega arith) (omega arith)) in
    rw passes (omega arith))
    (λ fails.
    let rest : count n p ≤ count m q = count_inject n m p q h (λ x lt. into x (omega arith)) (λ x y ltx lty. apart x y (omega arith) (omega arith)) in
    rw fails (omega arith))
    (cases_Bool (p n))

-- the first number below n that passes, or that none passes
pub first_below : (n : ℕ) (p : ℕ → Bool) → ((k : ℕ) × (k < n) × (p k ≡ true) × ((i : ℕ) → i < k → p i ≡ false))
    ⊎ ((k : ℕ) → k < n → p k ≡ false)
first_below zero p = inr (λ k lt. absurd (omega arith))
first_below (suc n) p =
    ⊎_elim
    (λ found. inl (found.0, omega (arith, found.1), found.2, found.3))
    (λ none. ⊎_elim (λ passes. inl (n, lt-suc_self n, passes, none)) (λ fails. inr (below_next (λ k. p k ≡ false) n none fails)) (cases_Bool (p n)))
    (first_below n p)

-- where a count is not zero, some number passes
pub count_some : (n : ℕ) (p : ℕ → Bool) → 0 < count n p → (k : ℕ) × (k < n) × (p k ≡ true)
count_some n p some = ⊎_elim (λ found. (found.0, found.1, found.2)) (λ none. let zero_count : count n p ≡ 0 = count_none n p none in absurd (omega arith)) (first_below n p)

-- a count has one value
pub IsCount-unique : (P : ℕ → Type 0) (n c d : ℕ) → IsCount P n c → IsCount P n d → c ≡ d
IsCount-unique P n c d one two = one.counted ∙ count_agree n one.test two.test (λ x lt. same_tests (one.test x) (two.test x) (λ t. (two.decides x lt).1 ((one.decides x lt).0 t)) (λ t. (one.decides x lt).1 ((two.decides x lt).0 t))) ∙ sym two.counted

-- below zero nothing is counted
pub IsCount-none : (P : ℕ → Type 0) → IsCount P 0 0
IsCount-none P = record { test = λ x. false; decides = λ x lt. absurd (omega arith); counted = refl }

-- the numbers that pass a test are as many as it counts
pub IsCount-test : (n : ℕ) (p : ℕ → Bool) → IsCount (λ x. p x ≡ true) n (count n p)
IsCount-test n p = record { test = p; decides = λ x lt. (λ t. t, λ t. t); counted = refl }

-- a count carries over to a property that holds of the same numbers below n
pub IsCount-same : (P Q : ℕ → Type 0) (n c : ℕ) → ((x : ℕ) → x < n → P x ↔ Q x) → IsCount P n c → IsCount Q n c
IsCount-same P Q n c same one = record { test = one.test; decides = λ x lt. (λ t. (same x lt).0 ((one.decides x lt).0 t), λ h. (one.decides x lt).1 ((same x lt).1 h)); counted = one.counted }

-- a count is at most the bound
pub IsCount-le : (P : ℕ → Type 0) (n c : ℕ) → IsCount P n c → c ≤ n
IsCount-le P n c one = omega (arith, one.counted, count-le n one.test)

-- a property that implies another has no higher count
pub IsCount-weaker : (P Q : ℕ → Type 0) (n c d : ℕ) → ((x : ℕ) → x < n → P x → Q x) → IsCount P n c → IsCount Q n d
    → c ≤ d
IsCount-weaker P Q n c d weaker one two = omega (arith, one.counted, two.counted, count_weaker n one.test two.test (λ x lt t. (two.decides x lt).1 (weaker x lt ((one.decides x lt).0 t))))

-- the test of a count, with one answer more at n
extended : (ℕ → Bool) → ℕ → Bool → ℕ → Bool
extended p n b x = cond (eqb x n) b (p x)

-- at n it answers as said
extended_at : (p : ℕ → Bool) (n : ℕ) (b : Bool) → extended p n b n ≡ b
unfolding extended
extended_at p n b = rw (eq-eqb n n refl) refl

-- below n it answers as before
extended_below : (p : ℕ → Bool) (n : ℕ) (b : Bool) (x : ℕ) → x < n → extended p n b x ≡ p x
unfolding extended
extended_below p n b x lt = rw (ne_eqb x n (λ e. omega arith)) refl

-- one number more that has the property
pub IsCount-next_yes : (P : ℕ → Type 0) (n c : ℕ) → IsCount P n c → P n → IsCount P (suc n) (suc c)
IsCount-next_yes P n c one here = record {
  test = extended one.test n true;
  decides = below_next (λ x. (extended one.test n true x ≡ true) ↔ P x) n
      (λ x lt. (λ t. (one.decides x lt).0 (sym (extended_below one.test n true x lt) ∙ t), λ h. extended_below one.test n true x lt ∙ (one.decides x lt).1 h))
      (λ t. here, λ h. extended_at one.test n true);
  counted = rw (extended_at one.test n true) (omega (arith, one.counted, count_agree n (extended one.test n true) one.test (extended_below one.test n true)));
}

-- one number more that has not the property
pub IsCount-next_no : (P : ℕ → Type 0) (n c : ℕ) → IsCount P n c → (P n → ⊥) → IsCount P (suc n) c
IsCount-next_no P n c one fails = record {
  test = extended one.test n false;
  decides = below_next (λ x. (extended one.test n false x ≡ true) ↔ P x) n
      (λ x lt. (λ t. (one.decides x lt).0 (sym (extended_below one.test n false x lt) ∙ t), λ h. extended_below one.test n false x lt ∙ (one.decides x lt).1 h))
      (λ t. absurd (false≢true (sym (extended_at one.test n false) ∙ t)), λ h. absurd (fails h));
  counted = rw (extended_at one.test n false) (omega (arith, one.counted, count_agree n (extended one.test n false) one.test (extended_below one.test n false)));
}

-- a loop's step: one number more that has the property
pub IsCount-more_yes : (P : ℕ → Type 0) (n c : ℕ) → IsCount P n c → P n → IsCount P (n + 1) (c + 1)
IsCount-more_yes P n c one here = rw (add-one n, add-one c) (IsCount-next_yes P n c one here)

-- a loop's step: one number more that has not the property
pub IsCount-more_no : (P : ℕ → Type 0) (n c : ℕ) → IsCount P n c → (P n → ⊥) → IsCount P (n + 1) c
IsCount-more_no P n c one fails = rw (add-one n) (IsCount-next_no P n c one fails)
