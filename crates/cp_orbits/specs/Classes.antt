-- Classes of numbers that pairs join, named by labels. Proofs count by these; contracts do not.
use Rattle.std.specs.Prelude.{◌≡◌, ℕ, zero, suc, ◌+◌, ◌-◌, min, max, eqb, ltb, cond, List, [], ◌∷◌, map}
use Rattle.cp_lists.specs.Count.{count}

-- y, but the lower of a and b where y is the higher
abbrev pub merge : ℕ → ℕ → ℕ → ℕ
merge a b y = cond (eqb y (max a b)) (min a b) y

-- the least number that the pairs join to x
abbrev pub labels : List (ℕ × ℕ) → ℕ → ℕ
labels [] x = x
labels (e ∷ es) x = merge (labels es e.0) (labels es e.1) (labels es x)

-- how many of the numbers below n are the least of their class
abbrev pub classes : ℕ → List (ℕ × ℕ) → ℕ
classes n es = count n (λ x. eqb (labels es x) x)

-- the pairs of the numbers below n and their values
abbrev pub graph : (ℕ → ℕ) → ℕ → List (ℕ × ℕ)
graph f zero = []
graph f (suc n) = (n, f n) ∷ graph f n

-- how many orbits f has on the numbers below n
abbrev pub orbits : ℕ → (ℕ → ℕ) → ℕ
orbits n f = classes n (graph f n)

-- g has one value at the two ends of each pair
abbrev pub Respects : {A : Type 0} → (ℕ → A) → List (ℕ × ℕ) → Type 0
Respects g [] = Unit {0}
Respects g (e ∷ es) = (g e.0 ≡ g e.1) × Respects g es

-- x, but u in place of v
abbrev pub joined : ℕ → ℕ → ℕ → ℕ
joined u v x = cond (eqb x v) u x

-- the pairs with new names for their ends
abbrev pub rename : (ℕ → ℕ) → List (ℕ × ℕ) → List (ℕ × ℕ)
rename h es = map (λ e. (h e.0, h e.1)) es

-- the label of x by es below v, and by fs, v higher, from v on
abbrev pub beside : ℕ → List (ℕ × ℕ) → List (ℕ × ℕ) → ℕ → ℕ
beside v es fs x = cond (ltb x v) (labels es x) (v + labels fs (x - v))
