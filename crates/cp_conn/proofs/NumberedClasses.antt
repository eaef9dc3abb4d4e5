-- Numbers of classes tell the classes apart.
use Rattle.std.proofs.Common.{◌≡◌, ℕ, suc, ◌<◌, ◌≤◌, List, get_or, sym, refl, subst, ⊎_elim, arith}
use Rattle.std.proofs.lemmas.Bool.{cases_order}
use Rattle.cp_lists.specs.Count.{count, IsCount}
use Rattle.cp_lists.proofs.Counting.{IsCount-next_yes, IsCount-unique, IsCount-le, count_higher}
use Rattle.cp_orbits.specs.Connected.{Connected}
use Rattle.cp_orbits.proofs.ClassLabels.{Connected-sym, Connected-trans}
use Rattle.cp_conn.specs.Numbering.{IsLeast, HasNumber, AreNumbered}

-- a number with the property makes the count above it higher
count_apart : (P : ℕ → Type 0) (l m c : ℕ) → IsCount P l c → IsCount P m c → P l → l < m → ⊥
count_apart P l m c one two is lt =
    let below : IsCount P (suc l) (count (suc l) two.test) = record {
      test = two.test;
      decides = λ x ltx. two.decides x (omega arith);
      counted = refl;
    } in
    omega (
      arith,
      IsCount-unique P (suc l) (suc c) (count (suc l) two.test) (IsCount-next_yes P l c one is) below,
      count_higher (suc l) m two.test (omega arith),
      two.counted,
    )

-- classes of one number have one least member
pub same_least : (R : ℕ → ℕ → Type 0) (x y c : ℕ) (h : HasNumber R x c) (k : HasNumber R y c) → h.least ≡ k.least
same_least R x y c h k =
    ⊎_elim
    (λ same. same)
    (λ other. ⊎_elim
    (λ lt. absurd (count_apart (IsLeast R) h.least k.least c h.counted k.counted h.leads lt))
    (λ gt. absurd (count_apart (IsLeast R) k.least h.least c k.counted h.counted k.leads gt))
    other)
    (cases_order h.least k.least)

-- numbers below n with equal class numbers are related to one
pub same_number : (R : ℕ → ℕ → Type 0) (n : ℕ) (numbers : List ℕ) (x y : ℕ) → AreNumbered R n numbers → x < n → y < n
    → get_or numbers x 0 ≡ get_or numbers y 0 → (l : ℕ) × R l x × R l y
same_number R n numbers x y are ltx lty same =
    let a : HasNumber R x (get_or numbers x 0) = are.by_least x ltx in
    let b : HasNumber R y (get_or numbers x 0) = subst (HasNumber R y) (sym same) (are.by_least y lty) in
    (a.least, a.related, subst (λ (l : ℕ). R l y) (sym (same_least R x y (get_or numbers x 0) a b)) b.related)

module _ (es : List (ℕ × ℕ)) (n : ℕ) (numbers : List ℕ) (are : AreNumbered (Connected es) n numbers) where
  -- vertices of one number are connected
  pub connected_by_number : (x y : ℕ) → x < n → y < n → get_or numbers x 0 ≡ get_or numbers y 0 → Connected es x y
  connected_by_number x y ltx lty same =
      let l : (l : ℕ) × Connected es l x × Connected es l y =
      same_number (Connected es) n numbers x y are ltx lty same in
      Connected-trans es x l.0 y (Connected-sym es l.0 x l.1) l.2

  -- connected vertices have one number
  pub number_of_connected : (x y : ℕ) → x < n → y < n → Connected es x y → get_or numbers x 0 ≡ get_or numbers y 0
  number_of_connected x y ltx lty c =
      let h = are.by_least x ltx in
      let k = are.by_least y lty in
      let there : h.least ≤ k.least =
      h.leads k.least
      (Connected-trans es h.least y k.least (Connected-trans es h.least x y h.related c)
      (Connected-sym es k.least y k.related)) in
      let back : k.least ≤ h.least =
      k.leads h.least
      (Connected-trans es k.least x h.least
      (Connected-trans es k.least y x k.related (Connected-sym es x y c))
      (Connected-sym es h.least x h.related)) in
      let same : h.least ≡ k.least = omega arith in
      IsCount-unique (IsLeast (Connected es)) k.least (get_or numbers x 0) (get_or numbers y 0)
      (subst (λ (m : ℕ). IsCount (IsLeast (Connected es)) m (get_or numbers x 0)) same h.counted) k.counted

  -- a number is below the number of vertices
  pub number-below : (x : ℕ) → x < n → get_or numbers x 0 < n
  number-below x lt =
      let h = are.by_least x lt in
      omega (arith, IsCount-le (IsLeast (Connected es)) h.least (get_or numbers x 0) h.counted, h.leads x h.related)
