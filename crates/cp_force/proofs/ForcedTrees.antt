-- A reduced tree in which the part of the set is exchanged for the row and tied to the var is forced to the row.
use Rattle.std.proofs.Common.{◌≡◌, ◌≢◌, ℕ, ◌<◌, Bool, true, false, ◌↔◌, ◌⊎◌, List, [], ◌∷◌, ◌++◌, length, take, reverse, refl, sym, ap, ◌∙◌, subst, inl, inr, ⊎_elim, arith, IsPermutation}
use Rattle.std.proofs.lemmas.List.Sorted.{IsPermutation-sym, IsPermutation-trans, length_permutation}
use Rattle.cp_lists.specs.CyclicLists.{Lacks, Distinct}
use Rattle.cp_base.specs.declared.equation.Equation.{Equation}
use Rattle.cp_pq.specs.declared.node.Node.{Node}
use Rattle.cp_pq.specs.Nodes.{leaves}
use Rattle.cp_pq.specs.Bits.{bit_of, IsMet}
use Rattle.cp_pq.specs.Readings.{Reads, given, any_bit}
use Rattle.cp_pq.specs.Trees.{PQTree, make_tree, IsPair, IsWellFormed, Admits}
use Rattle.cp_pq.specs.Orders.{IsConsecutive, HasRow}
use Rattle.cp_pq.specs.Owners.{KeepsOwners}
use Rattle.cp_pq.specs.Promises.{in_direction, IsReduced, IsForced, IsNeverInRow, IsNeverConsecutive}
use Rattle.cp_pq.specs.Words.{Licensed}
use Rattle.cp_pq.specs.Ties.{tie_equations}
use Rattle.cp_pq.proofs.PermutedLists.{Lacks-IsPermutation, Distinct-IsPermutation}
use Rattle.cp_pq.proofs.ReadingLaws.{read_leaves}
use Rattle.cp_force.specs.Fits.{AreBelow}
use Rattle.cp_pq.proofs.Holes.{Around}
use Rattle.cp_force.proofs.RowsInOrders.{row_consecutive, same_run, behind_root, direction_permuted}
use Rattle.cp_force.proofs.TiedParts.{IsTiedPart, HasOneBit}
use Rattle.cp_force.proofs.BitLicences.{given_one, met-Licensed, ties-IsMet}
use Rattle.cp_lists.proofs.EachItem.{all-append, all_parts}
use Rattle.cp_pq.proofs.GivenBits.{bit_append, given_from}

-- a permutation of something is something
pub some_permuted : (xs ys : List ℕ) → IsPermutation xs ys → xs ≢ [] → ys ≢ []
some_permuted [] ys p some e = some refl
some_permuted (x ∷ xs) ys p some e =
    let l = length_permutation (x ∷ xs) ys p in
    let z : length ys ≡ 0 = ap length e in omega (arith, l, z)

-- a row in either direction
either : (row order : List ℕ) (b : Bool) → HasRow (in_direction b row) order
    → HasRow row order ⊎ HasRow (reverse row) order
either row order true h = inr h
either row order false h = inl h

-- and the direction
direction_of : (row order : List ℕ) → HasRow row order ⊎ HasRow (reverse row) order
    → (b : Bool) × HasRow (in_direction b row) order
direction_of row order h = ⊎_elim (λ a. (false, a)) (λ a. (true, a)) h

-- a row behind a root
rooted : (root : ℕ) (word row : List ℕ) → HasRow row word → HasRow row (root ∷ word)
rooted root word row (before, after, e) = (root ∷ before, after, ap (λ z. root ∷ z) e)

-- an order behind a root of a reading has distinct leaves
pub read_distinct : (may : ℕ → Bool → Bool) (tree : PQTree) (word : List ℕ) → IsWellFormed tree
    → Reads may tree.body word → Distinct (tree.root ∷ word)
read_distinct may tree word wf r =
    let p = read_leaves may tree.body word r in (
      Lacks-IsPermutation tree.root (leaves tree.body) word p wf.distinct.0,
      Distinct-IsPermutation (leaves tree.body) word p wf.distinct.1,
    )

-- fitting is handed on
pub owners_on : (a b c : Node) → KeepsOwners a b → KeepsOwners b c → KeepsOwners a c
owners_on a b c one two owner kids is =
    let h = two owner kids is in
    let g = one owner h.0 h.1 in
    (g.0, g.1, λ x y s. h.2 x y (g.2 x y s))

-- an order of a tree that has the row of the set has the set consecutive
pub row_together : (set row : List ℕ) (tree : PQTree) → IsPermutation set row → IsWellFormed tree
    → (may : ℕ → Bool → Bool) (order word : List ℕ) (b : Bool) → order ≡ tree.root ∷ word → Reads may tree.body word
    → HasRow (in_direction b row) order → IsConsecutive set order
row_together set row tree perm wf may order word b e r has =
    row_consecutive set (in_direction b row) order
    (IsPermutation-trans set row (in_direction b row) perm (direction_permuted b row))
    (subst Distinct (sym e) (read_distinct may tree word wf r)) has

-- where the set is never consecutive, its row never stands in an order
pub never_together : (set row : List ℕ) (tree : PQTree) → IsPermutation set row → IsWellFormed tree
    → IsNeverConsecutive set tree → IsNeverInRow row tree
never_together set row tree perm wf never order admits has =
    let way = direction_of row order has in
    never order admits (row_together set row tree perm wf any_bit order admits.0 way.0 admits.1 admits.2 way.1)

-- a row behind the root of an order
has_behind : (root : ℕ) (row order word : List ℕ) (b : Bool) → row ≢ [] → Lacks root row → order ≡ root ∷ word
    → HasRow (in_direction b row) order → HasRow (in_direction b row) word
has_behind root row order word b some apart e has =
    behind_root root word (in_direction b row)
    (Lacks-IsPermutation root row (in_direction b row) (direction_permuted b row) apart)
    (some_permuted row (in_direction b row) (direction_permuted b row) some)
    (subst (HasRow (in_direction b row)) e has)

-- where the reduced tree never reads the row, it never stands in an order
pub never_read : (set row : List ℕ) (old red : PQTree) → IsPermutation set row → row ≢ [] → IsWellFormed old
    → IsWellFormed red → IsReduced set old red → Lacks red.root row
    → ((word : List ℕ) (b : Bool) → Distinct word → Reads any_bit red.body word → HasRow (in_direction b row) word → ⊥)
    → IsNeverInRow row old
never_read set row old red perm some wf formed reduced apart never order admits has =
    let way = direction_of row order has in
    let a = (reduced.shape order).1
    (admits, row_together set row old perm wf any_bit order admits.0 way.0 admits.1 admits.2 way.1) in
    never a.0 way.0 (read_distinct any_bit red a.0 formed a.2).1 a.2
    (has_behind red.root row order a.0 way.0 some apart a.1 way.1)

-- a word with a run of the leaves of the row has the row where the run stands
pub run_is_row : (row : List ℕ) → row ≢ [] → (G : Bool → Type 0) (one other : List ℕ → Type 0)
    (K J : Bool → List ℕ → Type 0) → ((way : Bool) (u : List ℕ) → K way u → IsPermutation row u)
    → (word : List ℕ) (b : Bool) → Distinct word → (a : Around G one other K J word)
    → HasRow (in_direction b row) word → (a.run ≡ in_direction b row) × K a.d (in_direction b row)
run_is_row row some G one other K J leaves_of word b d a has =
    let perm : IsPermutation row a.run = leaves_of a.d a.run a.reads in
    let same = same_run a.before a.run a.after has.0 (in_direction b row) has.1
    (IsPermutation-trans a.run row (in_direction b row) (IsPermutation-sym row a.run perm) (direction_permuted b row))
    (some_permuted row a.run perm some) (subst Distinct a.is d) (sym a.is ∙ has.2) in
    (same.1, subst (K a.d) same.1 a.reads)

module _ (row : List ℕ) (some : row ≢ []) (var : ℕ) (ties : List (ℕ × Bool)) (n m : Node)
    (G : (ℕ → Bool → Bool) → Bool → Type 0) (K J : (ℕ → Bool → Bool) → Bool → List ℕ → Type 0)
    (part : (may : ℕ → Bool → Bool) → IsTiedPart may var row ties (G may) (K may) (J may))
    (forth : (may : ℕ → Bool → Bool) (word : List ℕ) → Reads may n word
    → Around (G may) (Reads may n) (Reads may m) (K may) (J may) word)
    (back : (may : ℕ → Bool → Bool) (word : List ℕ) → Reads may m word
    → Around (G may) (Reads may m) (Reads may n) (J may) (K may) word) where
  -- a reading that has the row in a direction: the ties are licensed in it, and the row may stand in place of the part
  swap_keeps : (may : ℕ → Bool → Bool) (word : List ℕ) (b : Bool) → Distinct word → Reads may n word
      → HasRow (in_direction b row) word → Licensed b may ties × (may var b ≡ true → Reads may m word)
  swap_keeps may word b d r has =
      let a = forth may word r in
      let t = part may in
      let same = run_is_row row some (G may) (Reads may n) (Reads may m) (K may) (J may) t.same_leaves word b d a has in
      let k = same.1 in (
        t.tied a.d b a.allowed k,
        λ may_be. subst (Reads may m) (ap (λ z. a.before ++ (z ++ a.after)) (sym same.0) ∙ sym a.is)
            (a.exchanged (in_direction b row) (t.put a.d b a.allowed k may_be)),
      )

  -- by bits, with the ties licensed, a new reading is an old one with the row in the direction of var
  swap_only : (may : ℕ → Bool → Bool) → HasOneBit may → (word : List ℕ) (c : Bool) → may var c ≡ true
      → Licensed c may ties → Reads may m word → Reads may n word × HasRow (in_direction c row) word
  swap_only may one word c may_be l r =
      let a = back may word r in
      let h = (part may).bound one a.d a.run c a.allowed a.reads may_be l in (
        subst (Reads may n) (sym a.is) (a.exchanged a.run h.1),
        (a.before, a.after, a.is ∙ ap (λ z. a.before ++ (z ++ a.after)) h.0),
      )

  -- where all ties are licensed, a new reading is an old one with the row in a direction
  swap_any : (may : ℕ → Bool → Bool) → ((b : Bool) → Licensed b may ties) → (word : List ℕ) → Reads may m word
      → Reads may n word × ((b : Bool) × HasRow (in_direction b row) word)
  swap_any may all word r =
      let a = back may word r in
      let h = (part may).read a.d a.run a.allowed a.reads in (
        subst (Reads may n) (sym a.is) (a.exchanged a.run (h.2 (all h.0))),
        (h.0, (a.before, a.after, a.is ∙ ap (λ z. a.before ++ (z ++ a.after)) h.1)),
      )

  -- and from each old reading there is one with the row in a direction
  swap_able : (may : ℕ → Bool → Bool) → ((b : Bool) → Licensed b may ties) → (word : List ℕ) → Reads may n word
      → (line : List ℕ) × Reads may n line × ((b : Bool) × HasRow (in_direction b row) line)
  swap_able may all word r =
      let a = forth may word r in
      let h = (part may).able all a.d a.allowed in (
        a.before ++ (in_direction h.0 row ++ a.after),
        a.again (in_direction h.0 row) h.1,
        (h.0, (a.before, a.after, refl)),
      )

  -- ties are licensed where each bit may be
  any_ties : (b : Bool) (ts : List (ℕ × Bool)) → Licensed b any_bit ts
  any_ties b [] = tt
  any_ties b (t ∷ ts) = (refl, any_ties b ts)

  module _ (set : List ℕ) (old red : PQTree) (root vars : ℕ) (equations : List Equation) (perm : IsPermutation set row)
      (old_formed : IsWellFormed old) (red_is : red ≡ make_tree root n vars equations) (reduced : IsReduced set old red)
      (apart : Lacks root row) (low : AreBelow vars ties) (lt : var < old.vars) where
    -- the tree with the row in place of the part, and with the ties
    abbrev new : PQTree
    new = make_tree root m vars (equations ++ tie_equations var ties)

    -- the reduced tree, by its parts, is the old one reduced by the set
    reduced_to : IsReduced set old (make_tree root n vars equations)
    reduced_to = subst (IsReduced set old) red_is reduced

    -- the leaves behind the root of a reduced order are distinct
    red_distinct : (may : ℕ → Bool → Bool) (word : List ℕ) → Reads may n word → Distinct word
    red_distinct may word r =
        Distinct-IsPermutation (leaves old.body) word
        (IsPermutation-trans (leaves old.body) (leaves n) word reduced_to.leaves_kept (read_leaves may n word r))
        old_formed.distinct.1

    -- the pairs that have the row are kept
    forced_keeps : (order : List ℕ) (bits : List Bool) → IsPair old order bits
        → HasRow (in_direction (bit_of bits var) row) order → (more : List Bool) × IsPair new order (bits ++ more)
    forced_keeps order bits pair has =
        let b = bit_of bits var in
        let step = reduced_to.keeps order bits pair
        (row_together set row old perm old_formed (given bits) order pair.word b pair.order_is pair.reads has) in
        let all = bits ++ step.0 in
        let p = step.1 in
        let long : var < length bits = subst (λ z. var < z) (sym pair.bits_count) lt in
        let bit : bit_of all var ≡ b = bit_append bits step.0 var long in
        let in_range : var < length all =
        subst (λ z. var < z) (sym p.bits_count) (omega (arith, lt, reduced_to.vars_kept)) in
        let may_be : given all var b ≡ true = subst (λ z. given all var z ≡ true) bit (given_from all var in_range) in
        let k = swap_keeps (given all) p.word b (red_distinct (given all) p.word p.reads) p.reads
        (has_behind root row order p.word b some apart p.order_is has) in (
          step.0,
          record {
            word = p.word;
            order_is = p.order_is;
            bits_count = p.bits_count;
            reads = k.1 may_be;
            met = all-append (IsMet all) equations (tie_equations var ties) p.met (ties-IsMet all var b ties
                (sym bit) k.0);
          },
        )

    -- the pairs of the new tree are pairs of the old one with the row
    forced_only : (order : List ℕ) (bits : List Bool) → IsPair new order bits
        → IsPair old order (take old.vars bits) × HasRow (in_direction (bit_of bits var) row) order
    forced_only order bits p =
        let c = bit_of bits var in
        let in_range : var < length bits =
        subst (λ z. var < z) (sym p.bits_count) (omega (arith, lt, reduced_to.vars_kept)) in
        let parts = all_parts (IsMet bits) equations (tie_equations var ties) p.met in
        let l : Licensed c (given bits) ties =
        met-Licensed bits var ties (subst (λ z. AreBelow z ties) (sym p.bits_count) low) in_range parts.1 in
        let h = swap_only (given bits) (given_one bits) p.word c (given_from bits var in_range) l p.reads in
        let pair : IsPair (make_tree root n vars equations) order bits = record {
          word = p.word;
          order_is = p.order_is;
          bits_count = p.bits_count;
          reads = h.0;
          met = parts.0;
        } in (
          (reduced_to.only order bits pair).0,
          subst (HasRow (in_direction c row)) (sym p.order_is) (rooted root p.word (in_direction c row) h.1),
        )

    -- the orders that the new shape admits
    forced_shape : (order : List ℕ)
        → Admits new order ↔ (Admits old order × (HasRow row order ⊎ HasRow (reverse row) order))
    forced_shape order = (to, fro)
      where
        to : Admits new order → Admits old order × (HasRow row order ⊎ HasRow (reverse row) order)
        to (word, e, r) =
            let h = swap_any any_bit (λ b. any_ties b ties) word r in
            let has : HasRow (in_direction h.1.0 row) order =
            subst (HasRow (in_direction h.1.0 row)) (sym e) (rooted root word (in_direction h.1.0 row) h.1.1) in
            (((reduced_to.shape order).0 (word, e, h.0)).0, either row order h.1.0 has)

        fro : Admits old order × (HasRow row order ⊎ HasRow (reverse row) order) → Admits new order
        fro (admits, has) =
            let way = direction_of row order has in
            let red_admits = (reduced_to.shape order).1
            (admits, row_together set row old perm old_formed any_bit order admits.0 way.0 admits.1 admits.2 way.1) in
            let word = red_admits.0 in (
              word,
              red_admits.1,
              (swap_keeps any_bit word way.0 (red_distinct any_bit word red_admits.2) red_admits.2
                  (has_behind root row order word way.0 some apart red_admits.1 way.1)).1 refl,
            )

    -- there is one
    forced_possible : (order : List ℕ) × Admits old order × (HasRow row order ⊎ HasRow (reverse row) order)
    forced_possible =
        let some_order = reduced_to.possible in
        let admits = (reduced_to.shape some_order.0).1 (some_order.1, some_order.2) in
        let h = swap_able any_bit (λ b. any_ties b ties) admits.0 admits.2 in
        let order = root ∷ h.0 in (
          order,
          ((reduced_to.shape order).0 (h.0, refl, h.1)).0,
          either row order h.2.0 (rooted root h.0 (in_direction h.2.0 row) h.2.1),
        )

    -- the tree is forced
    pub forced_tree : IsPermutation (leaves n) (leaves m) → KeepsOwners n m → IsForced row var old new
    forced_tree same owners = record {
      keeps = forced_keeps;
      only = forced_only;
      shape = forced_shape;
      possible = forced_possible;
      vars_kept = reduced_to.vars_kept;
      root = reduced_to.root;
      leaves_kept = IsPermutation-trans (leaves old.body) (leaves n) (leaves m) reduced_to.leaves_kept same;
      owners = owners_on old.body n m reduced_to.owners owners;
    }
