-- Nodes with one reading have no P-node in them: its kids could be exchanged. A tree that is forced to a row of all its
-- leaves has one reading.
use Rattle.std.proofs.Common.{◌≡◌, ℕ, ◌<◌, ◌≤◌, ◌⊎◌, Bool, true, false, List, [], ◌∷◌, ◌++◌, length, reverse, drop, refl, sym, ap, ◌∙◌, subst, inl, inr, ⊎_elim, append_assoc, append-nil, arith}
use Rattle.std.specs.List.Sorted.{IsPermutation}
use Rattle.std.proofs.lemmas.List.{append_cancel_left, append_cancel_right, length-append, length-reverse}
use Rattle.std.proofs.lemmas.List.Sorted.{IsPermutation-reverse, IsPermutation-sym, IsPermutation-trans, IsPermutation-middle, length_permutation}
use Rattle.cp_lists.specs.CyclicLists.{Has, Lacks, Distinct, head_or}
use Rattle.cp_lists.proofs.DistinctLists.{Distinct-apart, Has-append_left, Lacks-from, has_lacks}
use Rattle.cp_lists.proofs.PermutedLists.{Distinct-IsPermutation, Has-IsPermutation}
use Rattle.cp_pq.specs.declared.node.Node.{Node}
use Rattle.cp_pq.specs.declared.node.Node.TheVariants.{P, Q}
use Rattle.cp_pq.specs.Bits.{bit_of}
use Rattle.cp_pq.specs.Nodes.{leaves, all_leaves, is_branching, IsKid, IsIn, itself, under_P, under_Q}
use Rattle.cp_pq.specs.Promises.{IsForced, in_direction}
use Rattle.cp_pq.specs.Readings.{Reads, ReadsAll, given, any_order, forward, backward, none, more}
use Rattle.cp_pq.specs.Trees.{PQTree, IsPair, IsWellFormed}
use Rattle.cp_pq.proofs.NodeLayers.{all_leaves_cons}
use Rattle.cp_pq.proofs.ReadingLaws.{Reads_P, Reads_Q, ReadsAll_cons, IsPermutation-all_leaves, read_leaves}
use Rattle.cp_embed.proofs.EveryOrders.{kid-permuted, branching-P, branching-Q, each_branches, long}
use Rattle.cp_embed.proofs.Sides.{no_kid, kid_or, kids-Distinct}
use Rattle.cp_lists.proofs.ReversedLists.{reverse-Has}

-- all readings of the node are one word
abbrev pub HasOneReading : (ℕ → Bool → Bool) → Node → Type 0
HasOneReading may n = (u v : List ℕ) → Reads may n u → Reads may n v → u ≡ v

-- in a reading of a row the reading of a kid may be exchanged for another
row_exchange : (may : ℕ → Bool → Bool) (ks : List Node) (w : List ℕ) → ReadsAll may ks w → (k : Node) → IsKid k ks
    → (p : List ℕ) × (u : List ℕ) × (q : List ℕ) × Reads may k u
    × ((t : List ℕ) → Reads may k t → ReadsAll may ks (p ++ (t ++ q)))
row_exchange may _ _ none k h = absurd (no_kid k h)
row_exchange may _ _ (more m ks xs ys a b) k h = ⊎_elim
    (λ e. (
      [],
      xs,
      ys,
      subst (λ n. Reads may n xs) e a,
      λ t r. more m ks t ys (subst (λ n. Reads may n t) (sym e) r) b,
    ))
    (λ later. let r = row_exchange may ks ys b k later in (
      xs ++ r.0,
      r.1,
      r.2,
      r.3,
      λ t s. subst (ReadsAll may (m ∷ ks)) (sym (append_assoc xs r.0 (t ++ r.2)))
          (more m ks xs (r.0 ++ (t ++ r.2)) a (r.4 t s)),
    ))
    (kid_or k m ks h)

-- the kids of an inner node
abbrev AreKidsOf : List Node → Node → Type 0
AreKidsOf kids n = ((o : ℕ) × (n ≡ P o kids)) ⊎ ((v : ℕ) × (n ≡ Q v kids))

-- and in one of an inner node
kid_exchange : (may : ℕ → Bool → Bool) (n : Node) (kids : List Node) → AreKidsOf kids n → (k : Node) → IsKid k kids
    → (w : List ℕ) → Reads may n w
    → (p : List ℕ) × (u : List ℕ) × (q : List ℕ) × Reads may k u
    × ((t : List ℕ) → Reads may k t → Reads may n (p ++ (t ++ q)))
kid_exchange may n kids inner k h w r = ⊎_elim
    (λ o.
    let z = Reads_P may o.0 kids w (subst (λ m. Reads may m w) o.1 r) in
    let e = row_exchange may z.0 w z.2 k (kid-permuted k kids z.0 z.1 h) in (
      e.0,
      e.1,
      e.2,
      e.3,
      λ t s. subst (λ m. Reads may m (e.0 ++ (t ++ e.2))) (sym o.1)
          (any_order o.0 kids z.0 (e.0 ++ (t ++ e.2)) z.1 (e.4 t s)),
    ))
    (λ v. ⊎_elim
    (λ f.
    let e = row_exchange may kids w f.1 k h in (
      e.0,
      e.1,
      e.2,
      e.3,
      λ t s. subst (λ m. Reads may m (e.0 ++ (t ++ e.2))) (sym v.1)
          (forward v.0 kids (e.0 ++ (t ++ e.2)) f.0 (e.4 t s)),
    ))
    (λ b.
    let e = row_exchange may (reverse kids) w b.1 k (kid-permuted k kids (reverse kids) (IsPermutation-reverse kids) h)
    in (
      e.0,
      e.1,
      e.2,
      e.3,
      λ t s. subst (λ m. Reads may m (e.0 ++ (t ++ e.2))) (sym v.1)
          (backward v.0 kids (e.0 ++ (t ++ e.2)) b.0 (e.4 t s)),
    ))
    (Reads_Q may v.0 kids w (subst (λ m. Reads may m w) v.1 r)))
    inner

-- a kid of a node that has one reading has a reading, and one only
kid-HasOneReading : (may : ℕ → Bool → Bool) (n : Node) (kids : List Node) → AreKidsOf kids n → (k : Node)
    → IsKid k kids → (w : List ℕ) → Reads may n w → HasOneReading may n
    → ((u : List ℕ) × Reads may k u) × HasOneReading may k
kid-HasOneReading may n kids inner k h w r one =
    let e = kid_exchange may n kids inner k h w r in (
      (e.1, e.3),
      λ s t rs rt. append_cancel_right s t e.2 (append_cancel_left e.0 (s ++ e.2) (t ++ e.2)
          (one (e.0 ++ (s ++ e.2)) (e.0 ++ (t ++ e.2)) (e.4 s rs) (e.4 t rt))),
    )

-- where two words may be exchanged and each has an item, they have an item together
same_first : (u v x : List ℕ) → 1 ≤ length u → 1 ≤ length v → u ++ (v ++ x) ≡ v ++ (u ++ x)
    → (a : ℕ) × Has a u × Has a v
same_first [] v x some_u some_v e = absurd (omega (arith, some_u))
same_first (a ∷ u) [] x some_u some_v e = absurd (omega (arith, some_v))
same_first (a ∷ u) (b ∷ v) x some_u some_v e =
    let same : a ≡ b = ap (head_or a) e in (a, inl refl, inl (sym same))

-- a P-node of two kids at least, with distinct leaves, has a second reading
no_row : (may : ℕ → Bool → Bool) (o : ℕ) (ks turn : List Node) (w : List ℕ) → IsPermutation ks turn
    → ReadsAll may turn w → 1 < length turn → ((k : Node) → IsKid k turn → is_branching k ≡ true)
    → Distinct (all_leaves turn) → HasOneReading may (P o ks) → ⊥
no_row may o ks [] w p all two branch once one = absurd (omega (arith, two))
no_row may o ks (j ∷ []) w p all two branch once one = absurd (omega (arith, two))
no_row may o ks (j ∷ k ∷ turn) w p all two branch once one =
    let h = ReadsAll_cons may j (k ∷ turn) w all in
    let g = ReadsAll_cons may k turn h.1 h.4 in
    let u = h.0 in
    let v = g.0 in
    let x = g.1 in
    let turned : IsPermutation ks (k ∷ j ∷ turn) =
    IsPermutation-trans ks (j ∷ k ∷ turn) (k ∷ j ∷ turn) p (IsPermutation-middle (j ∷ []) k turn) in
    let same : u ++ (v ++ x) ≡ v ++ (u ++ x) =
    one (u ++ (v ++ x)) (v ++ (u ++ x))
    (any_order o ks (j ∷ k ∷ turn) (u ++ (v ++ x)) p
    (more j (k ∷ turn) u (v ++ x) h.3 (more k turn v x g.3 g.4)))
    (any_order o ks (k ∷ j ∷ turn) (v ++ (u ++ x)) turned
    (more k (j ∷ turn) v (u ++ x) g.3 (more j turn u x h.3 g.4))) in
    let a = same_first u v x (long may j u h.3 (branch j ([], k ∷ turn, refl)))
    (long may k v g.3 (branch k (j ∷ [], turn, refl))) same in
    let in_j : Has a.0 (leaves j) =
    Has-IsPermutation a.0 u (leaves j) (IsPermutation-sym (leaves j) u (read_leaves may j u h.3)) a.1 in
    let in_k : Has a.0 (leaves k) =
    Has-IsPermutation a.0 v (leaves k) (IsPermutation-sym (leaves k) v (read_leaves may k v g.3)) a.2 in
    has_lacks a.0 (all_leaves (k ∷ turn))
    (subst (Has a.0) (sym (all_leaves_cons k turn)) (Has-append_left a.0 (leaves k) (all_leaves turn) in_k))
    (Distinct-apart a.0 (leaves j) (all_leaves (k ∷ turn)) (subst Distinct (all_leaves_cons j (k ∷ turn)) once) in_j)

-- no P-node is in a node that has one reading
no_P : (may : ℕ → Bool → Bool) (o : ℕ) (ks : List Node) → Distinct (all_leaves ks) → (n : Node) → IsIn (P o ks) n
    → is_branching n ≡ true → (w : List ℕ) → Reads may n w → HasOneReading may n → ⊥
no_P may o ks once _ itself branch w r one =
    let z = Reads_P may o ks w r in
    let b = branching-P o ks branch in
    no_row may o ks z.0 w z.1 z.2 (omega (arith, b.0, length_permutation ks z.0 z.1))
    (λ k h. each_branches ks b.1 k (kid-permuted k z.0 ks (IsPermutation-sym ks z.0 z.1) h))
    (Distinct-IsPermutation (all_leaves ks) (all_leaves z.0) (IsPermutation-all_leaves ks z.0 z.1) once) one
no_P may o ks once _ (under_P v js k h i) branch w r one =
    let s = kid-HasOneReading may (P v js) js (inl (v, refl)) k h w r one in
    no_P may o ks once k i (each_branches js (branching-P v js branch).1 k h) s.0.0 s.0.1 s.1
no_P may o ks once _ (under_Q v js k h i) branch w r one =
    let s = kid-HasOneReading may (Q v js) js (inr (v, refl)) k h w r one in
    no_P may o ks once k i (each_branches js (branching-Q v js branch).1 k h) s.0.0 s.0.1 s.1

-- a word behind the root that has the row and no other item is the row
only_row : (root : ℕ) (word row before after : List ℕ) → root ∷ word ≡ before ++ (row ++ after) → Lacks root row
    → length word ≡ length row → word ≡ row
only_row root word [] [] after e lacks long = no_items word long
  where
    no_items : (xs : List ℕ) → length xs ≡ 0 → xs ≡ []
    no_items [] l = refl
    no_items (x ∷ xs) l = absurd (omega (arith, l))
only_row root word (y ∷ row) [] after e lacks long = absurd (lacks.0 (sym (ap (head_or root) e)))
only_row root word row (b ∷ []) after e lacks long =
    let rest : word ≡ row ++ after = ap (drop 1) e in
    let none_after : length after ≡ 0 = omega (arith, ap length rest, length-append row after, long) in
    rest ∙ ap (λ us. row ++ us) (no_items after none_after) ∙ append-nil row
  where
    no_items : (xs : List ℕ) → length xs ≡ 0 → xs ≡ []
    no_items [] l = refl
    no_items (x ∷ xs) l = absurd (omega (arith, l))
only_row root word row (b ∷ c ∷ before) after e lacks long =
    absurd (omega (arith, ap length e, length-append before (row ++ after), length-append row after, long))

-- in a tree that is forced to a row of all its leaves there is no P-node
pub forced-no_P : (row : List ℕ) (var : ℕ) (old new : PQTree) → IsForced row var old new → IsWellFormed new
    → Lacks old.root row → length (leaves old.body) ≡ length row
    → ((order : List ℕ) × (bits : List Bool) × IsPair new order bits) → (o : ℕ) (ks : List Node)
    → IsIn (P o ks) new.body → ⊥
forced-no_P row var old new forced formed lacks size pair o ks h =
    no_P (given pair.1) o ks (kids-Distinct o ks new.body h formed.distinct.1) new.body h formed.branching
    pair.2.word pair.2.reads one
  where
    -- the row in the direction of the bit
    there : List ℕ
    there = in_direction (bit_of pair.1 var) row

    there_lacks : (b : Bool) → Lacks old.root (in_direction b row)
    there_lacks false = lacks
    there_lacks true = Lacks-from old.root (reverse row)
        (λ h. has_lacks old.root row (reverse-Has old.root row h) lacks)

    there_long : (b : Bool) → length (in_direction b row) ≡ length row
    there_long false = refl
    there_long true = length-reverse row

    is_row : (u : List ℕ) → Reads (given pair.1) new.body u → u ≡ there
    is_row u r =
        let f = forced.only (new.root ∷ u) pair.1 (record {
          word = u;
          order_is = refl;
          bits_count = pair.2.bits_count;
          reads = r;
          met = pair.2.met;
        }) in
        only_row new.root u there f.1.0 f.1.1 f.1.2 (subst (λ k. Lacks k there) (sym forced.root)
        (there_lacks (bit_of pair.1 var)))
        (length_permutation (leaves new.body) u (read_leaves (given pair.1) new.body u r)
        ∙ length_permutation (leaves old.body) (leaves new.body) forced.leaves_kept ∙ size
        ∙ sym (there_long (bit_of pair.1 var)))

    one : HasOneReading (given pair.1) new.body
    one u v r s = is_row u r ∙ sym (is_row v s)
