-- A tree whose body was changed so that a set is consecutive: pairs, shape, owners and what makes it a tree.
use Rattle.std.proofs.Common.{◌≡◌, ℕ, zero, suc, ◌+◌, ◌<◌, ◌≤◌, ◌↔◌, Bool, true, false, List, [], ◌∷◌, ◌++◌, length, length-append, take, refl, sym, ap, ◌∙◌, subst, subst₂, append-nil, arith, IsPermutation}
use Rattle.std.specs.Prelude.{nat_lt}
use Rattle.std.specs.List.{AllByRecursion}
use Rattle.std.proofs.lemmas.Bool.{ltb-true, lt-ltb}
use Rattle.std.proofs.lemmas.List.Sorted.{IsPermutation-cons}
use Rattle.cp_lists.specs.CyclicLists.{Distinct}
use Rattle.cp_base.specs.declared.equation.Equation.{Equation}
use Rattle.cp_pq.specs.declared.node.Node.{Node}
use Rattle.cp_pq.specs.declared.node.Node.TheVariants.{P}
use Rattle.cp_pq.specs.Nodes.{leaves, is_branching, has_vars_below}
use Rattle.cp_pq.specs.Bits.{differ, bit_of, IsMet, IsOverVars}
use Rattle.cp_pq.specs.Readings.{Reads, given, any_bit}
use Rattle.cp_pq.specs.Trees.{PQTree, make_tree, IsWellFormed, IsPair, Admits}
use Rattle.cp_pq.specs.Orders.{inside, outside, IsConsecutive}
use Rattle.cp_pq.specs.Owners.{KeepsOwners}
use Rattle.cp_pq.specs.Promises.{IsReduced, IsNeverConsecutive}
use Rattle.cp_pq.specs.Words.{together, Licensed, IsNever}
use Rattle.cp_pq.specs.Changes.{Wider, by_bit, IsDone}
use Rattle.cp_pq.specs.Keeping.{any_bound, Keeps}
use Rattle.cp_pq.specs.Ties.{tie_equations}
use Rattle.cp_lists.proofs.EachItem.{all-append, all_parts}
use Rattle.cp_pq.proofs.NodeLayers.{all_leaves_one}
use Rattle.cp_pq.proofs.NodeTests.{all_one}
use Rattle.cp_pq.proofs.PermutedLists.{Distinct-IsPermutation}
use Rattle.cp_pq.proofs.ReadingLaws.{one_ReadsAll}
use Rattle.cp_pq.proofs.NodesIn.{one_in_row, in_row_one}
use Rattle.cp_pq.proofs.NodeReadings.{as_it_stands, read_below, WiderBelow}
use Rattle.cp_pq.proofs.ConsecutiveWords.{consecutive_together, together_consecutive}
use Rattle.cp_pq.proofs.GivenBits.{given_parts, given_from, bit_last, given_wider, given_below, met_append, append_met, ties_met, met_ties}

-- equations over so many vars are over more
over_more : (m n : ℕ) → m ≤ n → (eqs : List Equation) → AllByRecursion (IsOverVars m) eqs
    → AllByRecursion (IsOverVars n) eqs
over_more m n le [] h = tt
over_more m n le (e ∷ eqs) h = let a = h.0.0 in let b = h.0.1 in ((omega (arith, a, le), omega (arith, b, le)), over_more m n le eqs h.1)

-- the first items of a list with others behind are the list
take_front : (xs ys : List Bool) (n : ℕ) → length xs ≡ n → take n (xs ++ ys) ≡ xs
take_front [] ys zero e = refl
take_front [] ys (suc n) e = absurd (omega (arith, e))
take_front (x ∷ xs) ys zero e = absurd (omega (arith, e))
take_front (x ∷ xs) ys (suc n) e = ap (λ z. x ∷ z) (take_front xs ys n (omega (arith, e)))

-- a list of bits is all but the last, and the last
split_last : (bits : List Bool) (n : ℕ) → length bits ≡ suc n
    → (old : List Bool) × (c : Bool) × (bits ≡ old ++ c ∷ []) × (length old ≡ n)
split_last [] n e = absurd (omega (arith, e))
split_last (x ∷ []) zero e = ([], x, refl, refl)
split_last (x ∷ []) (suc n) e = absurd (omega (arith, e))
split_last (x ∷ y ∷ bits) zero e = absurd (omega (arith, e))
split_last (x ∷ y ∷ bits) (suc n) e = let g = split_last (y ∷ bits) n (omega (arith, e)) in (x ∷ g.0, g.1, ap (λ z. x ∷ z) g.2, ap (λ (k : ℕ). suc k) g.3)

-- equal lists have equal tails
tails : (x y : ℕ) (xs ys : List ℕ) → x ∷ xs ≡ y ∷ ys → xs ≡ ys
tails x y xs ys e = cc

-- the licence of a shape allows all ties
any_ties : (b : Bool) (ts : List (ℕ × Bool)) → Licensed false (by_bit b any_bit) ts
any_ties b [] = tt
any_ties b (t ∷ ts) = (refl, any_ties b ts)

-- any bit of a var below m
abbrev below_m : ℕ → ℕ → Bool → Bool
below_m m v b = nat_lt v m

-- ties of vars below a number, to a var below it, are equations over so many vars
ties_over : (m y : ℕ) (b : Bool) (ts : List (ℕ × Bool)) → y < m → Licensed false (by_bit b (below_m m)) ts
    → AllByRecursion (IsOverVars m) (tie_equations y ts)
ties_over m y b [] lt h = tt
ties_over m y b (t ∷ ts) lt h = ((ltb-true t.0 m h.0, lt), ties_over m y b ts lt h.1)

-- and over more, where the var that they are tied to is one of these
ties_low : (m n y : ℕ) (b : Bool) (ts : List (ℕ × Bool)) → m ≤ n → y < n → Licensed false (by_bit b (below_m m)) ts
    → AllByRecursion (IsOverVars n) (tie_equations y ts)
ties_low m n y b [] le lt h = tt
ties_low m n y b (t ∷ ts) le lt h = let a = ltb-true t.0 m h.0 in ((omega (arith, a, le), lt), ties_low m n y b ts le lt h.1)

-- a wider licence allows the ties that a licence allows, read by the same bit
wider_ties : (may wide : ℕ → Bool → Bool) → Wider may wide → (b : Bool) (ts : List (ℕ × Bool))
    → Licensed false (by_bit b may) ts → Licensed false (by_bit b wide) ts
wider_ties may wide w b [] h = tt
wider_ties may wide w b (t ∷ ts) h = (w t.0 (differ b t.1) h.0, wider_ties may wide w b ts h.1)

-- a bit behind others is licensed for the var behind theirs
given_last : (bits : List Bool) (c : Bool) → given (bits ++ c ∷ []) (length bits) c ≡ true
given_last bits c =
    let l = length-append bits (c ∷ []) in
    subst (λ z. given (bits ++ c ∷ []) (length bits) z ≡ true) (bit_last bits c) (given_from (bits ++ c ∷ []) (length bits) (omega (arith, l)))

module _ (set : List ℕ) (root vars : ℕ) (body : Node) (eqs : List Equation) (wf : IsWellFormed
    (make_tree root body vars eqs)) (apart : outside set root ≡ true) where
  -- whether a leaf is outside the set
  abbrev q : ℕ → Bool
  q = outside set

  -- whether a leaf is in the set
  abbrev p : ℕ → Bool
  p = inside set

  -- the tree before the change
  abbrev old : PQTree
  old = make_tree root body vars eqs

  -- refusal
  pub refused : IsNever (together q p) (body ∷ []) → IsNeverConsecutive set old
  refused never order a c = never any_bit a.0 (one_ReadsAll any_bit body a.0 a.2) (consecutive_together set root a.0 apart (subst (IsConsecutive set) a.1 c))

  module _ (new : Node) where
    -- a body that keeps what the old one has keeps its owners
    owners_kept : (V : ℕ → Type 0) → Keeps V (body ∷ []) (new ∷ []) → KeepsOwners body new
    owners_kept V k o ks h =
        let g = k.owners (subst Distinct (sym (all_leaves_one body)) wf.distinct.1) o ks (one_in_row (P o ks) new h) in
        (g.0, in_row_one (P o g.0) body g.1, g.2)

    -- and its leaves
    same_leaves : (V : ℕ → Type 0) → Keeps V (body ∷ []) (new ∷ []) → IsPermutation (leaves body) (leaves new)
    same_leaves V k = subst₂ IsPermutation (all_leaves_one body) (all_leaves_one new) k.leaves_kept

    -- the tree with it is well formed, with any equations over its vars
    pub still_formed : (V : ℕ → Type 0) (n : ℕ) (more : List Equation) → Keeps V (body ∷ []) (new ∷ []) → V n
        → has_vars_below n body ≡ true → AllByRecursion (IsOverVars n) more → IsWellFormed (make_tree root new n more)
    still_formed V n more k v low over = record {
      branching = sym (all_one is_branching new) ∙ k.branching (all_one is_branching body ∙ wf.branching);
      distinct = Distinct-IsPermutation (root ∷ leaves body) (root ∷ leaves new) (IsPermutation-cons root (leaves body) (leaves new) (same_leaves V k)) wf.distinct;
      vars_below = sym (all_one (has_vars_below n) new) ∙ k.vars_below n v (all_one (has_vars_below n) body ∙ low);
      equations_below = over;
    }

    -- the new body is read as it stands
    new_stands : Reads any_bit new (leaves new)
    new_stands = as_it_stands any_bit (λ v. refl) new

    -- the shape, from any of the changes
    shape_of : (old_var : Bool) (y : ℕ) (ts : List (ℕ × Bool))
        → IsDone q p old_var y (λ may. Licensed false may ts) body new → (n : ℕ) (more : List Equation) (order : List ℕ)
        → Admits (make_tree root new n more) order ↔ (Admits old order × IsConsecutive set order)
    shape_of old_var y ts d n more order = (
      λ a. let g = d.fro any_bit a.0 a.2 (λ b e. any_ties b ts) in ((a.0, a.1, g.0), subst (IsConsecutive set) (sym a.1) (together_consecutive set root a.0 apart g.1)),
      λ a. let t = consecutive_together set root a.0.0 apart (subst (IsConsecutive set) a.0.1 a.1) in let g = d.to any_bit a.0.0 a.0.2 t in (a.0.0, a.0.1, g.3 any_bit (λ v b e. e) refl),
    )

    -- an order of the old tree has the set consecutive, where the new body has its readings
    possible_of : (old_var : Bool) (y : ℕ) (ts : List (ℕ × Bool))
        → IsDone q p old_var y (λ may. Licensed false may ts) body new
        → (order : List ℕ) × Admits old order × IsConsecutive set order
    possible_of old_var y ts d =
        let g = d.fro any_bit (leaves new) new_stands (λ b e. any_ties b ts) in
        (root ∷ leaves new, (leaves new, refl, g.0), together_consecutive set root (leaves new) apart g.1)

    -- the vars of ties are vars of the body
    tie_vars : (old_var : Bool) (y : ℕ) (ts : List (ℕ × Bool))
        → IsDone q p old_var y (λ may. Licensed false may ts) body new
        → (b : Bool) × Licensed false (by_bit b (below_m vars)) ts
    tie_vars old_var y ts d =
        let g = d.fro any_bit (leaves new) new_stands (λ b e. any_ties b ts) in
        let r = read_below vars any_bit (below_m vars) wide body (leaves new) g.0 wf.vars_below in
        let h = d.to (below_m vars) (leaves new) r g.1 in
        (h.0, h.2)
      where
        wide : WiderBelow vars any_bit (below_m vars)
        wide v b lt e = lt-ltb v vars lt

    -- all bits of a pair, as the first so many
    all_bits : (bits : List Bool) → length bits ≡ vars → take vars bits ≡ bits
    all_bits bits e = ap (take vars) (sym (append-nil bits)) ∙ take_front bits [] vars e

    -- a pair of the old tree with the set consecutive
    old_pair : (order : List ℕ) (bits all : List Bool) (word : List ℕ) → bits ≡ all → order ≡ root ∷ word
        → length all ≡ vars → Reads (given all) body word → AllByRecursion (IsMet all) eqs → together q p word ≡ true
        → IsPair old order bits × IsConsecutive set order
    old_pair order bits all word e o n r m t =
        (subst (IsPair old order) (sym e) (record { word = word; order_is = o; bits_count = n; reads = r; met = m }), subst (IsConsecutive set) (sym o) (together_consecutive set root word apart t))

    -- no tie
    pub reduced_kept : ((y : ℕ) → IsDone q p false y (λ may. Unit {0}) body new)
        → Keeps any_bound (body ∷ []) (new ∷ []) → IsReduced set old (make_tree root new vars eqs)
    reduced_kept done k = record {
      keeps = λ order bits h c.
          let t = consecutive_together set root h.word apart (subst (IsConsecutive set) h.order_is c) in
          let g = (done vars).to (given bits) h.word h.reads t in
          let wide = given (bits ++ g.0 ∷ []) in
          let r = g.3 wide (given_wider bits (g.0 ∷ [])) (subst (λ z. given (bits ++ g.0 ∷ []) z g.0 ≡ true) h.bits_count (given_last bits g.0)) in
          let low : WiderBelow vars wide (given bits) = λ v b lt e. given_below bits (g.0 ∷ []) v b (subst (λ z. v < z) (sym h.bits_count) lt) e in (
            [],
            subst (IsPair (make_tree root new vars eqs) order) (sym (append-nil bits)) (record {
              word = h.word;
              order_is = h.order_is;
              bits_count = h.bits_count;
              reads = read_below vars wide (given bits) low new h.word r (sym (all_one (has_vars_below vars) new) ∙ k.vars_below vars tt (all_one (has_vars_below vars) body ∙ wf.vars_below));
              met = h.met;
            }),
          );
      only = λ order bits h.
          let g = (done vars).fro (given bits) h.word h.reads (λ b e. tt) in
          old_pair order (take vars bits) bits h.word (all_bits bits h.bits_count) h.order_is h.bits_count g.0 h.met g.1;
      shape = shape_of false vars [] (done vars) vars eqs;
      possible = possible_of false vars [] (done vars);
      vars_kept = omega arith;
      root = refl;
      leaves_kept = same_leaves any_bound k;
      owners = owners_kept any_bound k;
    }

    module _ (ts : List (ℕ × Bool)) where
      -- ties to a var of the tree
      pub over_old : (y : ℕ) → IsDone q p true y (λ may. Licensed false may ts) body new → y < vars
          → AllByRecursion (IsOverVars vars) (eqs ++ tie_equations y ts)
      over_old y d lt = let g = tie_vars true y ts d in all-append (IsOverVars vars) eqs (tie_equations y ts) wf.equations_below (ties_over vars y g.0 ts lt g.1)

      -- where the body is tied to a var that it has, the tree with it and the ties is the old one reduced by the set
      pub reduced_old : (y : ℕ) → IsDone q p true y (λ may. Licensed false may ts) body new
          → Keeps any_bound (body ∷ []) (new ∷ []) → y < vars
          → IsReduced set old (make_tree root new vars (eqs ++ tie_equations y ts))
      reduced_old y d k lt = record {
        keeps = λ order bits h c.
            let t = consecutive_together set root h.word apart (subst (IsConsecutive set) h.order_is c) in
            let g = d.to (given bits) h.word h.reads t in
            let here = given_parts bits y g.0 (g.1 refl) in (
              [],
              subst (IsPair (make_tree root new vars (eqs ++ tie_equations y ts)) order) (sym (append-nil bits)) (record {
                word = h.word;
                order_is = h.order_is;
                bits_count = h.bits_count;
                reads = g.3 (given bits) (λ v b e. e) (g.1 refl);
                met = all-append (IsMet bits) eqs (tie_equations y ts) h.met (ties_met bits y ts (subst (λ b. Licensed false (by_bit b (given bits)) ts) here.1 g.2));
              }),
            );
        only = λ order bits h.
            let m = all_parts (IsMet bits) eqs (tie_equations y ts) h.met in
            let o = all_parts (IsOverVars vars) eqs (tie_equations y ts) (over_old y d lt) in
            let over : AllByRecursion (IsOverVars (length bits)) (tie_equations y ts) = subst (λ z. AllByRecursion (IsOverVars z) (tie_equations y ts)) (sym h.bits_count) o.1 in
            let g = d.fro (given bits) h.word h.reads (λ b e. subst (λ z. Licensed false (by_bit z (given bits)) ts) (sym (given_parts bits y b e).1) (met_ties bits y ts over m.1)) in
            old_pair order (take vars bits) bits h.word (all_bits bits h.bits_count) h.order_is h.bits_count g.0 m.0 g.1;
        shape = shape_of true y ts d vars (eqs ++ tie_equations y ts);
        possible = possible_of true y ts d;
        vars_kept = omega arith;
        root = refl;
        leaves_kept = same_leaves any_bound k;
        owners = owners_kept any_bound k;
      }

      -- ties to one new var
      pub over_new : IsDone q p false vars (λ may. Licensed false may ts) body new
          → AllByRecursion (IsOverVars (vars + 1)) (eqs ++ tie_equations vars ts)
      over_new d =
          let g = tie_vars false vars ts d in
          all-append (IsOverVars (vars + 1)) eqs (tie_equations vars ts) (over_more vars (vars + 1) (omega arith) eqs wf.equations_below) (ties_low vars (vars + 1) vars g.0 ts (omega arith) (omega arith) g.1)

      -- and where it is tied to a new var
      pub reduced_new : IsDone q p false vars (λ may. Licensed false may ts) body new
          → Keeps (λ n. vars < n) (body ∷ []) (new ∷ [])
          → IsReduced set old (make_tree root new (vars + 1) (eqs ++ tie_equations vars ts))
      reduced_new d k = record {
        keeps = λ order bits h c.
            let t = consecutive_together set root h.word apart (subst (IsConsecutive set) h.order_is c) in
            let g = d.to (given bits) h.word h.reads t in
            let all = bits ++ g.0 ∷ [] in
            let bit : bit_of all vars ≡ g.0 = subst (λ z. bit_of all z ≡ g.0) h.bits_count (bit_last bits g.0) in
            let over : AllByRecursion (IsOverVars (length bits)) eqs = subst (λ z. AllByRecursion (IsOverVars z) eqs) (sym h.bits_count) wf.equations_below in (
              g.0 ∷ [],
              record {
                word = h.word;
                order_is = h.order_is;
                bits_count = length-append bits (g.0 ∷ []) ∙ ap (λ z. z + 1) h.bits_count;
                reads = g.3 (given all) (given_wider bits (g.0 ∷ [])) (subst (λ z. given all z g.0 ≡ true) h.bits_count (given_last bits g.0));
                met = all-append (IsMet all) eqs (tie_equations vars ts) (met_append bits (g.0 ∷ []) eqs over h.met)
                    (ties_met all vars ts (subst (λ b. Licensed false (by_bit b (given all)) ts) (sym bit) (wider_ties (given bits) (given all) (given_wider bits (g.0 ∷ [])) g.0 ts g.2)));
              },
            );
        only = λ order bits h.
            let s = split_last bits vars (h.bits_count ∙ add_one vars) in
            let m = all_parts (IsMet bits) eqs (tie_equations vars ts) h.met in
            let o = all_parts (IsOverVars (vars + 1)) eqs (tie_equations vars ts) (over_new d) in
            let over : AllByRecursion (IsOverVars (length bits)) (tie_equations vars ts) = subst (λ z. AllByRecursion (IsOverVars z) (tie_equations vars ts)) (sym h.bits_count) o.1 in
            let g = d.fro (given bits) h.word h.reads (λ b e. subst (λ z. Licensed false (by_bit z (given bits)) ts) (sym (given_parts bits vars b e).1) (met_ties bits vars ts over m.1)) in
            let low : WiderBelow vars (given bits) (given s.0) = subst₂ (λ z w. WiderBelow z (given w) (given s.0)) s.3 (sym s.2) (λ v b lt e. given_below s.0 (s.1 ∷ []) v b lt e) in
            let over_eqs : AllByRecursion (IsOverVars (length s.0)) eqs = subst (λ z. AllByRecursion (IsOverVars z) eqs) (sym s.3) wf.equations_below in
            old_pair order (take vars bits) s.0 h.word (ap (take vars) s.2 ∙ take_front s.0 (s.1 ∷ []) vars s.3) h.order_is s.3 (read_below vars (given bits) (given s.0) low body h.word g.0 wf.vars_below)
            (append_met s.0 (s.1 ∷ []) eqs over_eqs (subst (λ z. AllByRecursion (IsMet z) eqs) s.2 m.0)) g.1;
        shape = shape_of false vars ts d (vars + 1) (eqs ++ tie_equations vars ts);
        possible = possible_of false vars ts d;
        vars_kept = omega arith;
        root = refl;
        leaves_kept = same_leaves (λ n. vars < n) k;
        owners = owners_kept (λ n. vars < n) k;
      }
        where
          add_one : (n : ℕ) → n + 1 ≡ suc n
          add_one n = omega arith
