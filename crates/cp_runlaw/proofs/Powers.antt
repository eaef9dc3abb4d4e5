-- Sums of powers of three.
use Rattle.std.proofs.Common.{◌≡◌, ℕ, zero, suc, ◌+◌, ◌*◌, ◌^◌, ◌<◌, ◌≤◌, add-one, refl, ap, ◌∙◌, arith}
use Rattle.std.proofs.Math.Nat.{pow-succ', pow-le-pow_right}

-- the next power is three times the power
pub three_more : (n m : ℕ) → m ≡ n + 1 → 3 ^ m ≡ 3 * 3 ^ n
three_more n m e = ap (λ k. 3 ^ k) (e ∙ add-one n) ∙ pow-succ' 3 n

-- a power of a greater number is no smaller
pub three_le : (n m : ℕ) → n ≤ m → 3 ^ n ≤ 3 ^ m
three_le n m le = pow-le-pow_right (omega arith) le

-- a power is positive
pub three_pos : (n : ℕ) → 1 ≤ 3 ^ n
three_pos n = three_le 0 n (omega arith)

-- two powers of numbers that are not 0, and not both 1, are less than half the power of the sum
pub two_powers : (a b : ℕ) → 1 ≤ a → 1 ≤ b → 3 ≤ a + b → 2 * (3 ^ a + 3 ^ b) < 3 ^ (a + b)
two_powers zero b pa pb le = absurd (omega arith)
two_powers (suc a) zero pa pb le = absurd (omega arith)
two_powers (suc zero) (suc b) pa pb le =
    let nine : 9 ≤ 3 ^ suc b = three_le 2 (suc b) (omega arith) in
    let more = three_more (suc b) (suc zero + suc b) (omega arith) in
    let one : 3 ^ suc zero ≡ 3 = refl in
    omega (arith, nine, more, one)
two_powers (suc (suc a)) (suc zero) pa pb le =
    let nine : 9 ≤ 3 ^ suc (suc a) = three_le 2 (suc (suc a)) (omega arith) in
    let more = three_more (suc (suc a)) (suc (suc a) + suc zero) (omega arith) in
    let one : 3 ^ suc zero ≡ 3 = refl in
    omega (arith, nine, more, one)
two_powers (suc (suc a)) (suc (suc b)) pa pb le =
    let less = two_powers (suc a) (suc (suc b)) (omega arith) pb (omega arith) in
    let more = three_more (suc a + suc (suc b)) (suc (suc a) + suc (suc b)) (omega arith) in
    let first = three_more (suc a) (suc (suc a)) (omega arith) in
    omega (arith, less, more, first)

-- three times two powers of numbers from 2 up are at most the power of the sum
pub thrice_powers : (a b : ℕ) → 2 ≤ a → 2 ≤ b → 3 * (3 ^ a + 3 ^ b) ≤ 3 ^ (a + b)
thrice_powers zero b pa pb = absurd (omega arith)
thrice_powers (suc zero) b pa pb = absurd (omega arith)
thrice_powers (suc (suc zero)) b pa pb =
    let nine : 9 ≤ 3 ^ b = three_le 2 b pb in
    let one = three_more b (b + 1) refl in
    let two = three_more (b + 1) (suc (suc zero) + b) (omega arith) in
    let nine_two : 3 ^ suc (suc zero) ≡ 9 = refl in
    omega (arith, nine, one, two, nine_two)
thrice_powers (suc (suc (suc a))) b pa pb =
    let less = thrice_powers (suc (suc a)) b (omega arith) pb in
    let more = three_more (suc (suc a) + b) (suc (suc (suc a)) + b) (omega arith) in
    let first = three_more (suc (suc a)) (suc (suc (suc a))) (omega arith) in
    omega (arith, less, more, first)

-- two powers of numbers that are not 0 are at most the power of the sum
pub both_powers : (a b : ℕ) → 1 ≤ a → 1 ≤ b → 3 ^ a + 3 ^ b ≤ 3 ^ (a + b)
both_powers zero b pa pb = absurd (omega arith)
both_powers (suc a) zero pa pb = absurd (omega arith)
both_powers (suc zero) (suc zero) pa pb = omega arith
both_powers (suc zero) (suc (suc b)) pa pb =
    let less = two_powers (suc zero) (suc (suc b)) pa pb (omega arith) in
    omega (arith, less)
both_powers (suc (suc a)) (suc b) pa pb =
    let less = two_powers (suc (suc a)) (suc b) pa pb (omega arith) in
    omega (arith, less)
