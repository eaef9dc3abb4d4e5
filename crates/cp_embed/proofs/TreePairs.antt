-- What reducing and forcing an order tree make of its set of pairs.
use Rattle.std.proofs.Common.{◌≡◌, ℕ, zero, suc, ◌<◌, ◌≤◌, Bool, true, false, not, ◌&&◌, eqb, List, [], ◌∷◌, ◌++◌, length, take, drop, sym, refl, ap, ◌∙◌, subst, inl, inr, ⊎_elim, arith}
use Rattle.std.specs.List.{list_all}
use Rattle.std.proofs.lemmas.Bool.{cases_Bool, eq-eqb, eqb-true, or_left, or_right, or_cases, false≢true}
use Rattle.std.proofs.lemmas.List.{get_or_append_left}
use Rattle.cp_lists.specs.CyclicLists.{Has, Distinct, head_or}
use Rattle.cp_lists.proofs.DistinctLists.{has_lacks, Has-append_left, Has-append_cases, Distinct-apart, Distinct-append_left, Distinct-append_right}
use Rattle.cp_pq.specs.Bits.{bit_of}
use Rattle.cp_pq.specs.Orders.{inside, outside, IsConsecutive}
use Rattle.cp_pq.specs.Promises.{IsReduced, IsForced, in_direction}
use Rattle.cp_pq.specs.Trees.{PQTree, IsPair}
use Rattle.cp_embed.specs.Directions.{directed}
use Rattle.cp_embed.specs.Pairs.{HasTogether, HasRun, SamePairs}
use Rattle.cp_embed.specs.TreePairs.{pairs_of}

-- an item inside a set is one of it
pub inside-Has : (set : List ℕ) (d : ℕ) → inside set d ≡ true → Has d set
inside-Has [] d t = absurd (false≢true t)
inside-Has (x ∷ set) d t = ⊎_elim
    (λ h. inl (eqb-true x d h))
    (λ h. inr (inside-Has set d h))
    (or_cases (eqb x d) (inside set d) t)

-- and back
pub Has-inside : (set : List ℕ) (d : ℕ) → Has d set → inside set d ≡ true
Has-inside [] d h = absurd h
Has-inside (x ∷ set) d h = ⊎_elim
    (λ k. or_left (eqb x d) (inside set d) (eq-eqb x d k))
    (λ k. or_right (eqb x d) (inside set d) (Has-inside set d k))
    h

-- an item of a list whose items all pass
list_all-Has : (p : ℕ → Bool) (xs : List ℕ) (d : ℕ) → list_all p xs ≡ true → Has d xs → p d ≡ true
list_all-Has p [] d t h = absurd h
list_all-Has p (x ∷ xs) d t h = ⊎_elim
    (λ px. ⊎_elim
    (λ k. ap p (sym k) ∙ px)
    (λ k. list_all-Has p xs d (sym (ap (λ b. b && list_all p xs) px) ∙ t) k)
    h)
    (λ fx. absurd (false≢true (sym (ap (λ b. b && list_all p xs) fx) ∙ t)))
    (cases_Bool (p x))

-- and back
pub Has-list_all : (p : ℕ → Bool) (xs : List ℕ) → ((d : ℕ) → Has d xs → p d ≡ true) → list_all p xs ≡ true
Has-list_all p [] each = refl
Has-list_all p (x ∷ xs) each =
    ap (λ b. b && list_all p xs) (each x (inl refl)) ∙ Has-list_all p xs (λ d h. each d (inr h))

-- what is outside a set is none of it
outside-Lacks : (set : List ℕ) (d : ℕ) → outside set d ≡ true → Has d set → ⊥
outside-Lacks set d t h = false≢true (ap not (sym (Has-inside set d h)) ∙ t)

-- and back
pub Lacks-outside : (set : List ℕ) (d : ℕ) → (Has d set → ⊥) → outside set d ≡ true
Lacks-outside set d none = ⊎_elim
    (λ t. absurd (none (inside-Has set d t)))
    (λ f. ap not f)
    (cases_Bool (inside set d))

-- a bit among the first ones
bit_of-take : (m : ℕ) (bits : List Bool) (v : ℕ) → v < m → bit_of (take m bits) v ≡ bit_of bits v
bit_of-take zero bits v lt = absurd (omega arith)
bit_of-take (suc m) [] v lt = refl
bit_of-take (suc m) (b ∷ bits) zero lt = refl
bit_of-take (suc m) (b ∷ bits) (suc v) lt = bit_of-take m bits v (omega arith)

-- a bit in front of further ones
bit_of-append : (bits more : List Bool) (v : ℕ) → v < length bits → bit_of (bits ++ more) v ≡ bit_of bits v
bit_of-append bits more v lt = get_or_append_left bits more false v lt

-- the two ways to write a direction
in_direction-directed : (bit : Bool) (row : List ℕ) → in_direction bit row ≡ directed bit row
in_direction-directed false row = refl
in_direction-directed true row = refl

-- a run behind the root
behind_root : (root : ℕ) (word before run after : List ℕ) → (Has root run → ⊥) → root ∷ word ≡ before ++ (run ++ after)
    → (front : List ℕ) × (behind : List ℕ) × (word ≡ front ++ (run ++ behind))
    × ((d : ℕ) → Has d front → Has d before) × ((d : ℕ) → Has d behind → Has d after)
behind_root root word (b ∷ before) run after out whole =
    (before, after, ap (drop 1) whole, (λ d h. inr h), (λ d h. h))
behind_root root word [] (y ∷ run) after out whole = absurd (out (inl (sym (ap (head_or root) whole))))
behind_root root word [] [] [] out whole = absurd cc
behind_root root word [] [] (a ∷ after) out whole = ([], after, ap (drop 1) whole, (λ d h. absurd h), (λ d h. inr h))

-- two trees with one root, of which the second has further vars
module _ (n : ℕ) (old new : PQTree) (le : n ≤ old.vars) (root_is : new.root ≡ old.root) where
  -- a pair of the first tree, by the first bits of one of the second
  first_bits : (word : List ℕ) (bit : ℕ → Bool) (bits : List Bool) → IsPair old (new.root ∷ word) (take old.vars bits)
      → ((v : ℕ) → v < n → bit_of bits v ≡ bit v) → pairs_of n old word bit
  first_bits word bit bits pair agree = (
    take old.vars bits,
    subst (λ root. IsPair old (root ∷ word) (take old.vars bits)) root_is pair,
    λ v lt. bit_of-take old.vars bits v (omega (arith, lt, le)) ∙ agree v lt,
  )

  -- a pair of the second tree, by further bits behind those of one of the first
  further_bits : (word : List ℕ) (bit : ℕ → Bool) (p : pairs_of n old word bit) (more : List Bool)
      → IsPair new (old.root ∷ word) (p.0 ++ more) → pairs_of n new word bit
  further_bits word bit p more pair = (
    p.0 ++ more,
    subst (λ root. IsPair new (root ∷ word) (p.0 ++ more)) (sym root_is) pair,
    λ v lt. bit_of-append p.0 more v (omega (arith, lt, le, p.1.bits_count)) ∙ p.2 v lt,
  )

-- reducing keeps the pairs in which the set is consecutive: each word has all items of the set once, and the root is
-- none
pub reduced-SamePairs : (n : ℕ) (set : List ℕ) (old new : PQTree) → n ≤ old.vars → IsReduced set old new
    → (Has old.root set → ⊥)
    → ((word : List ℕ) (bit : ℕ → Bool) → pairs_of n old word bit → Distinct word × ((d : ℕ) → Has d set → Has d word))
    → SamePairs (pairs_of n new) (HasTogether set (pairs_of n old))
reduced-SamePairs n set old new le red root_out words word bit = (to, from)
  where
    to : pairs_of n new word bit → HasTogether set (pairs_of n old) word bit
    to p =
        let w = red.only (new.root ∷ word) p.0 p.1 in
        let q : pairs_of n old word bit = first_bits n old new le red.root word bit p.0 w.0 p.2 in
        let c : IsConsecutive set (new.root ∷ word) = w.1 in
        let b = behind_root new.root word c.before c.run c.after
        (λ h. root_out (subst (λ root. Has root set) red.root
        (inside-Has set new.root (list_all-Has (inside set) c.run new.root c.all_inside h))))
        c.order_is
        in
        let whole = words word bit q in
        let once : Distinct (b.0 ++ (c.run ++ b.1)) = subst Distinct b.2 whole.0 in
        record {
          front = b.0;
          run = c.run;
          behind = b.1;
          word_is = b.2;
          run_is = record {
            distinct = Distinct-append_left c.run b.1 (Distinct-append_right b.0 (c.run ++ b.1) once);
            items = λ d. (
              λ h. inside-Has set d (list_all-Has (inside set) c.run d c.all_inside h),
              λ h. ⊎_elim
                  (λ k. absurd (outside-Lacks set d (list_all-Has (outside set) c.before d c.none_before (b.3 d k)) h))
                  (λ k. ⊎_elim (λ l. l)
                  (λ l. absurd (outside-Lacks set d (list_all-Has (outside set) c.after d c.none_after (b.4 d l)) h))
                  (Has-append_cases d c.run b.1 k))
                  (Has-append_cases d b.0 (c.run ++ b.1) (subst (Has d) b.2 (whole.1 d h))),
            );
          };
          pair = q;
        }

    from : HasTogether set (pairs_of n old) word bit → pairs_of n new word bit
    from h =
        let once : Distinct (h.front ++ (h.run ++ h.behind)) = subst Distinct h.word_is (words word bit h.pair).0 in
        let rest : Distinct (h.run ++ h.behind) = Distinct-append_right h.front (h.run ++ h.behind) once in
        let k = red.keeps (old.root ∷ word) h.pair.0 h.pair.1 (record {
          before = old.root ∷ h.front;
          run = h.run;
          after = h.behind;
          order_is = ap (λ ws. old.root ∷ ws) h.word_is;
          none_before = Has-list_all (outside set) (old.root ∷ h.front) (λ d m. ⊎_elim
              (λ s. Lacks-outside set d (λ z. root_out (subst (λ u. Has u set) (sym s) z)))
              (λ l. Lacks-outside set d (λ z. has_lacks d (h.run ++ h.behind)
              (Has-append_left d h.run h.behind ((h.run_is.items d).1 z))
              (Distinct-apart d h.front (h.run ++ h.behind) once l)))
              m);
          all_inside = Has-list_all (inside set) h.run (λ d m. Has-inside set d ((h.run_is.items d).0 m));
          none_after = Has-list_all (outside set) h.behind (λ d m. Lacks-outside set d
              (λ z. has_lacks d h.behind m (Distinct-apart d h.run h.behind rest ((h.run_is.items d).1 z))));
        })
        in
        further_bits n old new le red.root word bit h.pair k.0 k.1

-- forcing keeps the pairs that have the row in the direction of the bit of v: the root is none of the row
pub forced-SamePairs : (n : ℕ) (row : List ℕ) (v : ℕ) (old new : PQTree) → n ≤ old.vars → v < n → IsForced row v old new
    → ((b : Bool) → Has old.root (directed b row) → ⊥) → SamePairs (pairs_of n new) (HasRun row v (pairs_of n old))
forced-SamePairs n row v old new le lt forced root_out word bit = (
  λ p.
      let w = forced.only (new.root ∷ word) p.0 p.1 in
      let q : pairs_of n old word bit = first_bits n old new le forced.root word bit p.0 w.0 p.2 in
      let way : in_direction (bit_of p.0 v) row ≡ directed (bit v) row =
      in_direction-directed (bit_of p.0 v) row ∙ ap (λ b. directed b row) (p.2 v lt)
      in
      let b = behind_root new.root word w.1.0 (directed (bit v) row) w.1.1
      (λ h. root_out (bit v) (subst (λ root. Has root (directed (bit v) row)) forced.root h))
      (w.1.2 ∙ ap (λ ws. w.1.0 ++ (ws ++ w.1.1)) way)
      in
      record { front = b.0; behind = b.1; word_is = b.2; pair = q },
  λ h.
      let way : directed (bit v) row ≡ in_direction (bit_of h.pair.0 v) row =
      ap (λ b. directed b row) (sym (h.pair.2 v lt)) ∙ sym (in_direction-directed (bit_of h.pair.0 v) row)
      in
      let k = forced.keeps (old.root ∷ word) h.pair.0 h.pair.1
      (old.root ∷ h.front, h.behind, ap (λ ws. old.root ∷ ws) (h.word_is ∙ ap (λ ws. h.front ++ (ws ++ h.behind)) way))
      in
      further_bits n old new le forced.root word bit h.pair k.0 k.1,
)
