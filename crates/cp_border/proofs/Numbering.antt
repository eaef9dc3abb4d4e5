-- Numbering by prefix sums: the items of piece i are numbered behind those of all earlier pieces.
use Rattle.std.proofs.Common.{◌≡◌, ℕ, zero, suc, ◌+◌, ◌-◌, ◌*◌, ◌<◌, ◌≤◌, Bool, false, cond, List, [], ◌∷◌, ◌++◌, length, get_or, slice_index, sym, refl, ap, ap₂, ◌∙◌, ⊎_elim, arith, length-append, lt-suc_self}
use Rattle.std.specs.List.{flat_map, range_with_len}
use Rattle.std.proofs.lemmas.Bool.{cases_lt, cases_eq, cases_order}
use Rattle.std.proofs.lemmas.List.{get_or_append_left, get_or-append-add, append_assoc, append-nil}
use Rattle.cp_lists.specs.Count.{count}
use Rattle.cp_border.specs.Borders.{sum_below}

-- sums of values that agree below n
pub sum_below-agree : (f h : ℕ → ℕ) (n : ℕ) → ((k : ℕ) → k < n → f k ≡ h k) → sum_below f n ≡ sum_below h n
sum_below-agree f h zero same = refl
sum_below-agree f h (suc n) same =
    ap₂ (λ (a b : ℕ). a + b) (sum_below-agree f h n (λ k lt. same k (omega arith))) (same n (lt-suc_self n))

-- prefix sums rise
pub sum_below-le : (f : ℕ → ℕ) (i n : ℕ) → i ≤ n → sum_below f i ≤ sum_below f n
sum_below-le f i zero le = let e : i ≡ 0 = omega arith in rw e (omega arith)
sum_below-le f i (suc n) le = ⊎_elim (λ e. rw e (omega arith)) (λ ne. omega (arith, sum_below-le f i n (omega arith)))
    (cases_eq i (suc n))

-- a piece ends before the next begins
pub sum_below-next : (f : ℕ → ℕ) (i n : ℕ) → i < n → sum_below f i + f i ≤ sum_below f n
sum_below-next f i n lt = let h : sum_below f (suc i) ≤ sum_below f n = sum_below-le f (suc i) n (omega arith) in h

-- a place in a piece lies below the sum of all pieces
pub sum_below-within : (f : ℕ → ℕ) (i j n : ℕ) → i < n → j < f i → sum_below f i + j < sum_below f n
sum_below-within f i j n lt within = omega (arith, sum_below-next f i n lt)

-- each number below the sum lies in a piece
pub record Place (f : ℕ → ℕ) (n x : ℕ) : Type 0 where
  pub piece : ℕ
  pub place : ℕ
  pub is_piece : piece < n
  pub is_place : place < f piece
  pub is : x ≡ sum_below f piece + place

-- each number below the sum of all pieces lies in one piece, at one place
pub located : (f : ℕ → ℕ) (n x : ℕ) → x < sum_below f n → Place f n x
located f zero x lt = absurd (omega arith)
located f (suc n) x lt =
    ⊎_elim
    (λ less. let p = located f n x less in record {
      piece = p.piece;
      place = p.place;
      is_piece = omega
          (arith, p.is_piece);
      is_place = p.is_place;
      is = p.is;
    })
    (λ more. record {
      piece = n;
      place = x - sum_below f n;
      is_piece = omega arith;
      is_place = omega arith;
      is =
          omega arith;
    })
    (cases_lt x (sum_below f n))

-- and in one piece only, at one place
pub sum_below-apart : (f : ℕ → ℕ) (i j h k : ℕ) → j < f i → k < f h → sum_below f i + j ≡ sum_below f h + k
    → (i ≡ h) × (j ≡ k)
sum_below-apart f i j h k within_i within_h e =
    ⊎_elim
    (λ same. let s : sum_below f i ≡ sum_below f h = ap (sum_below f) same in (same, omega arith))
    (⊎_elim
    (λ less. absurd (omega (arith, sum_below-next f i h less)))
    (λ more. absurd (omega (arith, sum_below-next f h i more))))
    (cases_order i h)

-- one piece more
flat_map_last : {A : Type 0} (F : ℕ → List A) (a n : ℕ) →
    flat_map F (range_with_len a (suc n)) ≡ flat_map F (range_with_len a n) ++ F (a + n)
flat_map_last F a zero = append-nil (F a) ∙ ap F (let e : a ≡ a + 0 = omega arith in e)
flat_map_last {A = A} F a (suc n) =
    ap (λ (xs : List A). F a ++ xs) (flat_map_last F (a + 1) n)
    ∙ sym (append_assoc (F a) (flat_map F (range_with_len (a + 1) n)) (F (a + 1 + n)))
    ∙ ap (λ (m : ℕ). (F a ++ flat_map F (range_with_len (a + 1) n)) ++ F m)
    (let e : a + 1 + n ≡ a + suc n = omega arith in e)

-- the pieces together are as long as the sum of their lengths
pub pieces_length : {A : Type 0} (F : ℕ → List A) (f : ℕ → ℕ) (a n : ℕ) → ((k : ℕ) → k < n → length (F (a + k)) ≡ f k) →
    length (flat_map F (range_with_len a n)) ≡ sum_below f n
pieces_length F f a zero same = refl
pieces_length F f a (suc n) same =
    ap length (flat_map_last F a n) ∙ length-append (flat_map F (range_with_len a n)) (F (a + n))
    ∙ ap₂ (λ (x y : ℕ). x + y) (pieces_length F f a n (λ k lt. same k (omega arith))) (same n (lt-suc_self n))

-- item j of piece i stands behind the earlier pieces
pub piece_at : {A : Type 0} (F : ℕ → List A) (f : ℕ → ℕ) (a n i j : ℕ) (d : A) →
    ((k : ℕ) → k < n → length (F (a + k)) ≡ f k) → i < n → j < f i →
    get_or (flat_map F (range_with_len a n)) (sum_below f i + j) d ≡ get_or (F (a + i)) j d
piece_at F f a zero i j d same lt within = absurd (omega arith)
piece_at {A = A} F f a (suc n) i j d same lt within =
    let so_long : length (flat_map F (range_with_len a n)) ≡ sum_below f n =
    pieces_length F f a n (λ k l. same k (omega arith)) in
    ap (λ (xs : List A). get_or xs (sum_below f i + j) d) (flat_map_last F a n)
    ∙ ⊎_elim
    (λ e.
    ap (λ (m : ℕ). get_or (flat_map F (range_with_len a n) ++ F (a + n)) (m + j) d) (ap (sum_below f) e ∙ sym so_long)
    ∙ get_or-append-add (flat_map F (range_with_len a n)) (F (a + n)) j d
    ∙ ap (λ (m : ℕ). get_or (F (a + m)) j d) (sym e))
    (λ ne.
    get_or_append_left (flat_map F (range_with_len a n)) (F (a + n)) d (sum_below f i + j)
    (omega (arith, sum_below-within f i j n (omega arith) within))
    ∙ piece_at F f a n i j d (λ k l. same k (omega arith)) (omega arith) within)
    (cases_eq i n)

-- a list of pairs, one for each number of a range
abbrev pub pairs : (ℕ → ℕ) → (ℕ → ℕ) → ℕ → ℕ → List ℕ
pairs A B a n = flat_map (λ i. A i ∷ B i ∷ []) (range_with_len a n)

-- the list of pairs has two items for each
pub length-pairs : (A B : ℕ → ℕ) (a n : ℕ) → length (pairs A B a n) ≡ 2 * n
length-pairs A B a zero = refl
length-pairs A B a (suc n) = omega (arith, length-pairs A B (a + 1) n)

-- the first item of a pair
pub pairs_first : (A B : ℕ → ℕ) (a n k : ℕ) → k < n → slice_index (pairs A B a n) (2 * k) ≡ A (a + k)
pairs_first A B a zero k lt = absurd (omega arith)
pairs_first A B a (suc n) zero lt = ap A (let e : a ≡ a + 0 = omega arith in e)
pairs_first A B a (suc n) (suc k) lt =
    ap (slice_index (pairs A B a (suc n))) (let e : 2 * suc k ≡ suc (suc (2 * k)) = omega arith in e)
    ∙ pairs_first A B (a + 1) n k (omega arith) ∙ ap A (let e : a + 1 + k ≡ a + suc k = omega arith in e)

-- the second item of a pair
pub pairs_second : (A B : ℕ → ℕ) (a n k : ℕ) → k < n → slice_index (pairs A B a n) (2 * k + 1) ≡ B (a + k)
pairs_second A B a zero k lt = absurd (omega arith)
pairs_second A B a (suc n) zero lt = ap B (let e : a ≡ a + 0 = omega arith in e)
pairs_second A B a (suc n) (suc k) lt =
    ap (slice_index (pairs A B a (suc n))) (let e : 2 * suc k + 1 ≡ suc (suc (2 * k + 1)) = omega arith in e)
    ∙ pairs_second A B (a + 1) n k (omega arith) ∙ ap B (let e : a + 1 + k ≡ a + suc k = omega arith in e)

-- sums of sums, and of what counts one by one
sum_below-sum : (f h : ℕ → ℕ) (n : ℕ) → sum_below (λ k. f k + h k) n ≡ sum_below f n + sum_below h n
sum_below-sum f h zero = refl
sum_below-sum f h (suc n) = omega (arith, sum_below-sum f h n)

-- the sum of ones for what passes is how many pass
sum_below-ones : (p : ℕ → Bool) (n : ℕ) → sum_below (λ e. cond (p e) 1 0) n ≡ count n p
sum_below-ones p zero = refl
sum_below-ones p (suc n) = omega (arith, sum_below-ones p n)

-- the sum of zeros is zero
sum_below-nothing : (n : ℕ) → sum_below (λ e. 0) n ≡ 0
sum_below-nothing zero = refl
sum_below-nothing (suc n) = omega (arith, sum_below-nothing n)

-- counting pairs by the first number and by the second gives one sum
pub counted_twice : (p : ℕ → ℕ → Bool) (m n : ℕ)
    → sum_below (λ k. count n (p k)) m ≡ sum_below (λ e. count m (λ k. p k e)) n
counted_twice p zero n = sym (sum_below-nothing n)
counted_twice p (suc m) n =
    let rest : sum_below (λ k. count n (p k)) m ≡ sum_below (λ e. count m (λ k. p k e)) n = counted_twice p m n in
    let now : sum_below (λ e. cond (p m e) 1 0) n ≡ count n (p m) = sum_below-ones (p m) n in
    let split : sum_below (λ e. cond (p m e) 1 0 + count m (λ k. p k e)) n ≡ sum_below (λ e. cond (p m e) 1 0) n
    + sum_below (λ e. count m (λ k. p k e)) n =
    sum_below-sum (λ e. cond (p m e) 1 0) (λ e. count m (λ k. p k e)) n in
    ap₂ (λ (a b : ℕ). a + b) rest (sym now)
    ∙ (let e : sum_below (λ e. count m (λ k. p k e)) n + sum_below (λ e. cond (p m e) 1 0) n ≡ sum_below
    (λ e. cond (p m e) 1 0) n + sum_below (λ e. count m (λ k. p k e)) n = omega arith in e) ∙ sym split

-- a test that fails at 0 counts as much from 1 on
pub count_from_one : (n : ℕ) (p : ℕ → Bool) → p 0 ≡ false → count (suc n) p ≡ count n (λ k. p (k + 1))
count_from_one zero p fails = rw fails refl
count_from_one (suc n) p fails =
    ap₂ (λ (b : Bool) (c : ℕ). cond b 1 0 + c) (ap p (let e : suc n ≡ n + 1 = omega arith in e))
    (count_from_one n p fails)
