-- Rows in orders of distinct leaves: where the leaves of a set stand, and rows behind a root.
use Rattle.std.proofs.Common.{◌≡◌, ◌≢◌, ℕ, Bool, true, false, not, ◌&&◌, ◌||◌, List, [], ◌∷◌, ◌++◌, length, take, drop, refl, sym, ap, ap₂, ◌∙◌, subst, inl, inr, ⊎_elim, arith, IsPermutation}
use Rattle.std.specs.Prelude.{eqb}
use Rattle.std.specs.List.{list_all}
use Rattle.std.proofs.lemmas.Bool.{eq-eqb, ne_eqb}
use Rattle.std.proofs.lemmas.List.Sorted.{IsPermutation-refl, IsPermutation-reverse, IsPermutation-sym, length_permutation}
use Rattle.std.proofs.Math.Seq.{take-append_seam, drop-append_seam}
use Rattle.cp_lists.specs.CyclicLists.{Has, Lacks, Distinct}
use Rattle.cp_lists.proofs.DistinctLists.{has_lacks, Lacks-from, Has-append_left, Has-append_right, Distinct-append_right, Distinct-apart, Distinct-apart_right}
use Rattle.cp_pq.specs.Orders.{inside, outside, IsConsecutive, HasRow}
use Rattle.cp_pq.specs.Promises.{in_direction}
use Rattle.cp_pq.proofs.PermutedLists.{Has-IsPermutation}

-- an item of the set is inside
pub has_inside : (set : List ℕ) (x : ℕ) → Has x set → inside set x ≡ true
has_inside [] x h = absurd h
has_inside (y ∷ ys) x h = ⊎_elim
    (λ e. subst (λ b. (b || inside ys x) ≡ true) (sym (eq-eqb y x e)) refl)
    (λ t. subst (λ b. (eqb y x || b) ≡ true) (sym (has_inside ys x t)) (or_true (eqb y x))) h
  where
    or_true : (b : Bool) → (b || true) ≡ true
    or_true true = refl
    or_true false = refl

-- what the set lacks is not inside
pub lacks_inside : (set : List ℕ) (x : ℕ) → Lacks x set → inside set x ≡ false
lacks_inside [] x h = refl
lacks_inside (y ∷ ys) x h =
    subst (λ b. (b || inside ys x) ≡ false) (sym (ne_eqb y x h.0)) (lacks_inside ys x h.1)

-- a word with all its items in the set
all_in : (set xs : List ℕ) → ((x : ℕ) → Has x xs → Has x set) → list_all (inside set) xs ≡ true
all_in set [] h = refl
all_in set (x ∷ xs) h = ap₂ (λ a b. a && b) (has_inside set x (h x (inl refl))) (all_in set xs (λ y t. h y (inr t)))

-- a word without items of the set
all_out : (set xs : List ℕ) → ((x : ℕ) → Has x xs → Lacks x set) → list_all (outside set) xs ≡ true
all_out set [] h = refl
all_out set (x ∷ xs) h =
    ap₂ (λ a b. not a && b) (lacks_inside set x (h x (inl refl))) (all_out set xs (λ y t. h y (inr t)))

-- what a permutation lacks
lacks_of : (set row : List ℕ) → IsPermutation set row → (x : ℕ) → Lacks x row → Lacks x set
lacks_of set row p x l = Lacks-from x set (λ h. has_lacks x row (Has-IsPermutation x set row p h) l)

-- where the set is a row of the order, it is consecutive
pub row_consecutive : (set row order : List ℕ) → IsPermutation set row → Distinct order → HasRow row order
    → IsConsecutive set order
row_consecutive set row order p d has =
    let before = has.0 in let after = has.1 in
    let whole : Distinct (before ++ (row ++ after)) = subst Distinct has.2 d in
    record {
      before = before;
      run = row;
      after = after;
      order_is = has.2;
      none_before = all_out set before (λ x h. lacks_of set row p x (left before after whole x h));
      all_inside = all_in set row (λ x h. Has-IsPermutation x row set (IsPermutation-sym set row p) h);
      none_after = all_out set after (λ x h. lacks_of set row p x
          (Distinct-apart_right x row after (Distinct-append_right before (row ++ after) whole) h));
    }
  where
    left : (before after : List ℕ) → Distinct (before ++ (row ++ after)) → (x : ℕ) → Has x before → Lacks x row
    left before after whole x h = Lacks-from x row
        (λ r. has_lacks x (row ++ after) (Has-append_left x row after r) (Distinct-apart x before
        (row ++ after) whole h))

-- two cuts of a list at one length are one
same_cut : (r s a b : List ℕ) → length r ≡ length s → r ++ a ≡ s ++ b → (r ≡ s) × (a ≡ b)
same_cut r s a b l e = (
  sym (take-append_seam r a) ∙ ap (take (length r)) e ∙ ap (λ n. take n (s ++ b)) l ∙ take-append_seam s b,
  sym (drop-append_seam r a) ∙ ap (drop (length r)) e ∙ ap (λ n. drop n (s ++ b)) l ∙ drop-append_seam s b,
)

-- a word that starts with an item of a row, at the head of the row, is not where the row starts later
not_later : (r s a b : List ℕ) (x : ℕ) → IsPermutation r s → r ≢ [] → Distinct (x ∷ b)
    → r ++ a ≡ x ∷ b → ((y : ℕ) → Has y s → Has y b) → ⊥
not_later [] s a b x p some d e later = some refl
not_later (y ∷ r) s a b x p some d e later =
    let head : y ≡ x = cc in
    has_lacks x b (later x (Has-IsPermutation x (y ∷ r) s p (inl head))) d.0

-- in an order of distinct leaves the leaves of a set make one run
pub same_run : (b1 r1 a1 b2 r2 a2 : List ℕ) → IsPermutation r1 r2 → r1 ≢ [] → Distinct (b1 ++ (r1 ++ a1))
    → b1 ++ (r1 ++ a1) ≡ b2 ++ (r2 ++ a2) → (b1 ≡ b2) × (r1 ≡ r2) × (a1 ≡ a2)
same_run [] r1 a1 [] r2 a2 p some d e =
    let cut = same_cut r1 r2 a1 a2 (sym (length_permutation r1 r2 p)) e in (refl, cut.0, cut.1)
same_run [] r1 a1 (y ∷ b2) r2 a2 p some d e =
    absurd (not_later r1 r2 a1 (b2 ++ (r2 ++ a2)) y p some (subst Distinct e d) e
    (λ z h. Has-append_right z b2 (r2 ++ a2) (Has-append_left z r2 a2 h)))
same_run (x ∷ b1) r1 a1 [] r2 a2 p some d e =
    absurd (not_later r2 r1 a2 (b1 ++ (r1 ++ a1)) x (IsPermutation-sym r1 r2 p)
    (λ none. some (nothing r1 (sym (length_permutation r1 r2 p) ∙ ap length none))) d (sym e)
    (λ z h. Has-append_right z b1 (r1 ++ a1) (Has-append_left z r1 a1 h)))
  where
    nothing : (xs : List ℕ) → length xs ≡ 0 → xs ≡ []
    nothing [] h = refl
    nothing (z ∷ zs) h = absurd (omega (arith, h))
same_run (x ∷ b1) r1 a1 (y ∷ b2) r2 a2 p some d e =
    let head : x ≡ y = cc in
    let tail : b1 ++ (r1 ++ a1) ≡ b2 ++ (r2 ++ a2) = cc in
    let rest = same_run b1 r1 a1 b2 r2 a2 p some d.1 tail in
    (ap₂ (λ z zs. z ∷ zs) head rest.0, rest.1, rest.2)

-- a row without the root stands behind it
pub behind_root : (root : ℕ) (word row : List ℕ) → Lacks root row → row ≢ [] → HasRow row (root ∷ word)
    → HasRow row word
behind_root root word [] l some has = absurd (some refl)
behind_root root word (x ∷ row) l some (before, after, e) = from before e
  where
    from : (before : List ℕ) → root ∷ word ≡ before ++ (x ∷ row ++ after) → HasRow (x ∷ row) word
    from [] e = let head : root ≡ x = cc in absurd (l.0 (sym head))
    from (y ∷ before) e = let tail : word ≡ before ++ (x ∷ row ++ after) = cc in (before, after, tail)

-- a row in either direction has the same items
pub direction_permuted : (b : Bool) (row : List ℕ) → IsPermutation row (in_direction b row)
direction_permuted true row = IsPermutation-reverse row
direction_permuted false row = IsPermutation-refl row
