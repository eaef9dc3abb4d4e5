-- Sets that are consecutive in an order, and words with the set together.
use Rattle.std.proofs.Common.{◌≡◌, ℕ, Bool, true, false, cond, not, List, [], ◌∷◌, ◌++◌, refl, sym, ap, ◌∙◌, ⊎_elim}
use Rattle.std.specs.List.{list_all}
use Rattle.std.proofs.lemmas.Bool.{both_ways, true≢false, cases_Bool, and_parts, and_from}
use Rattle.cp_pq.specs.Orders.{inside, outside, IsConsecutive}
use Rattle.cp_pq.specs.Words.{Opposite, sorted, together}
use Rattle.cp_pq.proofs.WordLaws.{sorted_front, sorted_last, together_front, together_all, opposite_sym}

-- no leaf is outside and inside at once
not_inside : (set : List ℕ) (x : ℕ) → outside set x ≡ true → inside set x ≡ true → ⊥
not_inside set x o i = both_ways (not (inside set x)) (ap (λ b. not b) i) o

-- a run and what stands behind it
run_together : (q p : ℕ → Bool) → Opposite q p → (run after : List ℕ) → list_all p run ≡ true → list_all q after ≡ true
    → together q p (run ++ after) ≡ true
run_together q p opp [] after i o = together_all q p after o
run_together q p opp (x ∷ run) after i o =
    let g = and_parts (p x) (list_all p run) i in
    let out : q x ≡ false = opp x ∙ ap (λ b. not b) g.0 in
    ap (λ b. cond b (together q p (run ++ after)) (sorted p q (run ++ after))) out ∙ sorted_front p q run after g.1 ∙ sorted_last p q (opposite_sym q p opp) after o

-- an order behind a root that is not in the set has the set together
pub consecutive_together : (set : List ℕ) (root : ℕ) (word : List ℕ) → outside set root ≡ true
    → IsConsecutive set (root ∷ word) → together (outside set) (inside set) word ≡ true
consecutive_together set root word out c = go c.before c.run c.order_is c.none_before c.all_inside
  where
    go : (before run : List ℕ) → root ∷ word ≡ before ++ (run ++ c.after) → list_all (outside set) before ≡ true
        → list_all (inside set) run ≡ true → together (outside set) (inside set) word ≡ true
    go [] [] e b i = together_all (outside set) (inside set) word (and_parts (outside set root) (list_all (outside set) word) (ap (list_all (outside set)) e ∙ c.none_after)).1
    go [] (x ∷ run) e b i =
        let same : root ≡ x = cc in
        absurd (not_inside set root out (ap (inside set) same ∙ (and_parts (inside set x) (list_all (inside set) run) i).0))
    go (x ∷ before) run e b i =
        let w : word ≡ before ++ (run ++ c.after) = cc in
        ap (together (outside set) (inside set)) w ∙ together_front (outside set) (inside set) before (run ++ c.after) (and_parts (outside set x) (list_all (outside set) before) b).1
        ∙ run_together (outside set) (inside set) (λ z. refl) run c.after i c.none_after

-- a word with leaves outside, then a run inside, then leaves outside
record Parted (set word : List ℕ) : Type 0 where
  before : List ℕ
  run : List ℕ
  after : List ℕ
  is : word ≡ before ++ (run ++ after)
  out : list_all (outside set) before ≡ true
  full : list_all (inside set) run ≡ true
  rest : list_all (outside set) after ≡ true

-- a sorted word, from the inside out
run_part : (set word : List ℕ) → sorted (inside set) (outside set) word ≡ true
    → (run after : List ℕ) × (word ≡ run ++ after) × (list_all (inside set) run ≡ true)
    × (list_all (outside set) after ≡ true)
run_part set [] s = ([], [], refl, refl, refl)
run_part set (x ∷ word) s =
    ⊎_elim
    (λ i. let g = run_part set word (sym (ap (λ b. cond b (sorted (inside set) (outside set) word) (list_all (outside set) word)) i) ∙ s) in
    (x ∷ g.0, g.1, ap (λ z. x ∷ z) g.2, and_from (inside set x) (list_all (inside set) g.0) i g.3, g.4))
    (λ i. ([], x ∷ word, refl, refl, and_from (outside set x) (list_all (outside set) word) (ap (λ b. not b) i) (sym (ap (λ b. cond b (sorted (inside set) (outside set) word) (list_all (outside set) word)) i) ∙ s)))
    (cases_Bool (inside set x))

-- a word with the set together has these parts
word_parts : (set word : List ℕ) → together (outside set) (inside set) word ≡ true → Parted set word
word_parts set [] t = record { before = []; run = []; after = []; is = refl; out = refl; full = refl; rest = refl }
word_parts set (x ∷ word) t =
    ⊎_elim
    (λ o. let g = word_parts set word (sym (ap (λ b. cond b (together (outside set) (inside set) word) (sorted (inside set) (outside set) word)) o) ∙ t) in
    record { before = x ∷ g.before; run = g.run; after = g.after; is = ap (λ z. x ∷ z) g.is; out = and_from (outside set x) (list_all (outside set) g.before) o g.out; full = g.full; rest = g.rest })
    (λ o. let g = run_part set word (sym (ap (λ b. cond b (together (outside set) (inside set) word) (sorted (inside set) (outside set) word)) o) ∙ t) in
    record { before = []; run = x ∷ g.0; after = g.1; is = ap (λ z. x ∷ z) g.2; out = refl; full = and_from (inside set x) (list_all (inside set) g.0) (in_of (inside set x) o) g.3; rest = g.4 })
    (cases_Bool (outside set x))
  where
    in_of : (b : Bool) → not b ≡ false → b ≡ true
    in_of true e = refl
    in_of false e = absurd (true≢false e)

-- and back
pub together_consecutive : (set : List ℕ) (root : ℕ) (word : List ℕ) → outside set root ≡ true
    → together (outside set) (inside set) word ≡ true → IsConsecutive set (root ∷ word)
together_consecutive set root word out t =
    let g = word_parts set word t in
    record { before = root ∷ g.before; run = g.run; after = g.after; order_is = ap (λ z. root ∷ z) g.is; none_before = and_from (outside set root) (list_all (outside set) g.before) out g.out; all_inside = g.full; none_after = g.rest }
