-- Trees with the part of an order taken out: what is put in gives the forced tree, and when there is none.
use Rattle.std.proofs.Common.{◌≡◌, ◌≢◌, ℕ, ◌+◌, ◌<◌, ◌≤◌, Bool, true, false, not, Option, Some, None, ◌&&◌, List, [], ◌∷◌, ◌++◌, map, length, get_or, refl, sym, ap, ◌∙◌, subst, subst₂, arith, IsPermutation}
use Rattle.std.specs.Prelude.{nat_lt}
use Rattle.std.specs.List.{list_all}
use Rattle.std.specs.List.Sorted.{IsNonDecreasingBy, IsStrictlyIncreasing}
use Rattle.std.proofs.lemmas.Bool.{and_parts, ltb-true}
use Rattle.std.proofs.lemmas.List.{length-map}
use Rattle.std.proofs.lemmas.List.Sorted.{IsPermutation-sym, IsPermutation-trans, length_permutation}
use Rattle.cp_lists.specs.CyclicLists.{Has, Lacks, Distinct}
use Rattle.cp_lists.proofs.DistinctLists.{Lacks-from, has_lacks}
use Rattle.cp_pq.specs.declared.node.Node.{Node}
use Rattle.cp_pq.specs.declared.node.Node.TheVariants.{Leaf, Q}
use Rattle.cp_pq.specs.declared.frame.Frame.{Frame}
use Rattle.cp_pq.specs.declared.hole.Hole.{Hole}
use Rattle.cp_pq.specs.declared.part.Part.{Part}
use Rattle.cp_pq.specs.Nodes.{leaves, all_leaves, is_branching, has_vars_below}
use Rattle.cp_pq.specs.Bits.{IsOverVars}
use Rattle.cp_pq.specs.Readings.{Reads, ReadsAll, any_bit}
use Rattle.cp_pq.specs.Trees.{PQTree, make_tree, IsWellFormed}
use Rattle.cp_pq.specs.Orders.{HasRow}
use Rattle.cp_pq.specs.Promises.{IsForced, IsLeafSet, IsNeverInRow, IsReduced, in_direction}
use Rattle.cp_pq.specs.Words.{turned}
use Rattle.cp_pq.specs.Ties.{tie_equations}
use Rattle.cp_pq.specs.Frames.{node_of, kids_round, fill}
use Rattle.cp_pq.specs.Holes.{IsInQ}
use Rattle.cp_pq.specs.Keeping.{Keeps}
use Rattle.cp_pq.proofs.NodeLayers.{all_leaves_one}
use Rattle.cp_pq.proofs.PermutedLists.{Has-IsPermutation, Lacks-IsPermutation, Distinct-IsPermutation}
use Rattle.cp_pq.proofs.ReadingLaws.{read_leaves}
use Rattle.cp_pq.proofs.Holes.{Around, filled_node, filled_run, filled_node_keeps, filled_run_keeps}
use Rattle.cp_force.specs.Fits.{AreBelow, IsTiedReading, IsTiedRow}
use Rattle.cp_force.specs.Forced.{forced_node, IsOpened}
use Rattle.cp_pq.proofs.NodeTests.{below_Q}
use Rattle.cp_force.proofs.Mirrors.{reverse_read, reverse_read_row}
use Rattle.cp_force.proofs.RowsInOrders.{direction_permuted}
use Rattle.cp_force.proofs.BitLicences.{ties_over}
use Rattle.cp_force.proofs.PlacedOrders.{apart}
use Rattle.cp_force.proofs.LeafRows.{row_keeps, node_keeps, owners_of_one}
use Rattle.cp_force.proofs.TiedParts.{IsTiedPart, Taken, Put, TakenRow, PutRow, tied_node, tied_run, turned_leaves}
use Rattle.cp_force.proofs.ForcedTrees.{some_permuted, never_read, run_is_row, forced_tree}
use Rattle.cp_pq.proofs.FilledRows.{below_inner, branching_inner, below_kids, fill_one, test_inner}
use Rattle.cp_lists.proofs.EachItem.{all-append}

-- the test of the one node
one_passes : (test : Node → Bool) (n : Node) (row : List Node) → n ∷ [] ≡ row → test n ≡ true → list_all test row ≡ true
one_passes test n row e h = subst (λ z. list_all test z ≡ true) e (ap (λ b. b && true) h)

-- the var of a Q-node round the hole is a var of the whole
place_below : (vars v : ℕ) (fs : List Frame) (row : List Node) → IsInQ v fs
    → list_all (has_vars_below vars) (fill fs row) ≡ true → v < vars
place_below vars v [] row h all = absurd h
place_below vars v (f ∷ fs) row h all =
    let node = node_of f.label (kids_round f row) in
    let one = (and_parts (has_vars_below vars node) true
    (test_inner (has_vars_below vars) (below_kids vars) fs (node ∷ []) all)).0 in
    let q : has_vars_below vars (Q v (kids_round f row)) ≡ true =
    subst (λ l. has_vars_below vars (node_of l (kids_round f row)) ≡ true) h.0 one in
    ltb-true v vars
    (and_parts (nat_lt v vars) (list_all (has_vars_below vars) (kids_round f row))
    (sym (below_Q vars v (kids_round f row)) ∙ q)).0

-- a row of kids of a Q-node in the hole makes one node
pub fill_row : (v : ℕ) (fs : List Frame) → IsInQ v fs → (row : List Node) → (n : Node) × (n ∷ [] ≡ fill fs row)
fill_row v [] h row = absurd h
fill_row v (f ∷ fs) h row = let n = fill_one fs (node_of f.label (kids_round f row)) in (n.0, sym n.1)

-- a tree in which a part is exchanged for what keeps its leaves is well formed, also with the ties
closed_formed : (V : ℕ → Type 0) (tree : PQTree) (m : Node) (var : ℕ) (ties : List (ℕ × Bool)) → IsWellFormed tree
    → Keeps V (tree.body ∷ []) (m ∷ []) → V tree.vars → AreBelow tree.vars ties → var < tree.vars
    → IsWellFormed (make_tree tree.root m tree.vars (tree.equations ++ tie_equations var ties))
closed_formed V tree m var ties wf k on low lt =
    let n = tree.body in
    let same : IsPermutation (leaves n) (leaves m) =
    subst₂ IsPermutation (all_leaves_one n) (all_leaves_one m) k.leaves_kept in
    record {
      branching = (and_parts (is_branching m) true (k.branching (ap (λ b. b && true) wf.branching))).0;
      distinct = (
        Lacks-IsPermutation tree.root (leaves n) (leaves m) same wf.distinct.0,
        Distinct-IsPermutation (leaves n) (leaves m) same wf.distinct.1,
      );
      vars_below = (and_parts (has_vars_below tree.vars m) true
          (k.vars_below tree.vars on (ap (λ b. b && true) wf.vars_below))).0;
      equations_below = all-append (IsOverVars tree.vars) tree.equations (tie_equations var ties) wf.equations_below
          (ties_over tree.vars var ties low lt);
    }

-- what the root is apart from
root_apart : (order : List ℕ) (tree : PQTree) → IsWellFormed tree → ((x : ℕ) → Has x order → Has x (leaves tree.body))
    → Lacks tree.root order
root_apart order tree wf inside =
    Lacks-from tree.root order (λ h. has_lacks tree.root (leaves tree.body) (inside tree.root h) wf.distinct.0)

module _ (order : List ℕ) (var : ℕ) (tree : PQTree) (hole : Hole) (kids : List Node) (own : Option ℕ) where
  -- the part
  abbrev the_part : Part
  the_part = record { kids = kids; var = own }

  module _ (o : IsOpened order var tree hole the_part) where
    -- the tree that is closed by a node
    abbrev pub closed_tree : Node → List (ℕ × Bool) → PQTree
    closed_tree m ties = make_tree hole.root m hole.vars (hole.equations ++ tie_equations var ties)

    -- the leaves of the part are those of the order
    order_permuted : IsPermutation order (all_leaves kids)
    order_permuted = IsPermutation-trans order o.set (all_leaves kids)
        (IsPermutation-sym o.set order o.set_is) o.opened.set_is

    -- the reduced tree, by the parts of the hole
    reduced_is : o.reduced_tree ≡ make_tree hole.root o.reduced_tree.body hole.vars hole.equations
    reduced_is =
        ap (λ r. make_tree r o.reduced_tree.body o.reduced_tree.vars o.reduced_tree.equations) (sym o.opened.root_is)
        ∙ ap (λ v. make_tree hole.root o.reduced_tree.body v o.reduced_tree.equations) (sym o.opened.vars_are)
        ∙ ap (make_tree hole.root o.reduced_tree.body hole.vars) (sym o.opened.equations_are)

    -- it is well formed
    hole_formed : IsWellFormed (make_tree hole.root o.reduced_tree.body hole.vars hole.equations)
    hole_formed = subst IsWellFormed reduced_is o.formed

    -- the root is not in the order
    order_apart : Lacks hole.root order
    order_apart = subst (λ r. Lacks r order) (sym (o.opened.root_is ∙ o.reduced.root))
        (root_apart order tree o.order_of.formed o.order_of.leaves_of)

    -- the var is one of the reduced tree
    within : var < hole.vars
    within =
        let e = o.opened.vars_are in let le = o.reduced.vars_kept in let lt = o.order_of.var_within in omega
        (arith, e, le, lt)

    -- the kids of the part branch
    pub kids_branch : list_all is_branching kids ≡ true
    kids_branch = branching_inner hole.frames kids o.reduced_tree.body o.opened.body_is o.formed.branching

    -- their vars are vars of the tree
    kids_below : list_all (has_vars_below hole.vars) kids ≡ true
    kids_below = below_inner hole.vars hole.frames kids o.reduced_tree.body o.opened.body_is hole_formed.vars_below

    -- where the reduced tree never reads the row, the order never stands in a row
    never_opened : ((word : List ℕ) (b : Bool) → Distinct word → Reads any_bit o.reduced_tree.body word
        → HasRow (in_direction b order) word → ⊥) → IsNeverInRow order tree
    never_opened never =
        never_read o.set order tree o.reduced_tree o.set_is o.order_of.not_empty o.order_of.formed o.formed o.reduced
        (subst (λ r. Lacks r order) o.opened.root_is order_apart) never

    -- the closed tree is well formed and forced
    closed_forced : (V : ℕ → Type 0) (m : Node) (ties : List (ℕ × Bool)) (G : (ℕ → Bool → Bool) → Bool → Type 0)
        (K J : (ℕ → Bool → Bool) → Bool → List ℕ → Type 0)
        → Keeps V (o.reduced_tree.body ∷ []) (m ∷ []) → V hole.vars → AreBelow hole.vars ties
        → ((may : ℕ → Bool → Bool) → IsTiedPart may var order ties (G may) (K may) (J may))
        → ((may : ℕ → Bool → Bool) (word : List ℕ) → Reads may o.reduced_tree.body word
        → Around (G may) (Reads may o.reduced_tree.body) (Reads may m) (K may) (J may) word)
        → ((may : ℕ → Bool → Bool) (word : List ℕ) → Reads may m word
        → Around (G may) (Reads may m) (Reads may o.reduced_tree.body) (J may) (K may) word)
        → IsWellFormed (closed_tree m ties) × IsForced order var tree (closed_tree m ties)
    closed_forced V m ties G K J k on low part forth back =
        let n = o.reduced_tree.body in
        let t = make_tree hole.root n hole.vars hole.equations in (
          closed_formed V t m var ties hole_formed k on low within,
          forced_tree order o.order_of.not_empty var ties n m G K J part forth back o.set tree o.reduced_tree
              hole.root hole.vars
              hole.equations o.set_is o.order_of.formed reduced_is o.reduced order_apart low o.order_of.var_within
              (subst₂ IsPermutation (all_leaves_one n) (all_leaves_one m) k.leaves_kept)
              (owners_of_one V n m k hole_formed.distinct.1),
        )

module _ (order : List ℕ) (var : ℕ) (tree : PQTree) (hole : Hole) (kids : List Node)
    (o : IsOpened order var tree hole (record { kids = kids; var = None })) where
  -- the one kid
  pub the_kid : (k : Node) × (kids ≡ k ∷ [])
  the_kid = o.opened.part_is

  -- the kid at the first place is the one
  pub first_kid : (items : List Node) (k : Node) → items ≡ kids → k ≡ get_or items 0 k → kids ≡ k ∷ []
  first_kid items k i h =
      let one = the_kid in
      one.1 ∙ ap (λ z. z ∷ []) (sym (h ∙ ap (λ z. get_or z 0 k) (i ∙ one.1)))

  module _ (k : Node) (one : kids ≡ k ∷ []) where
    -- the reduced body is the hole filled with it
    body_of_kid : o.reduced_tree.body ∷ [] ≡ fill hole.frames (k ∷ [])
    body_of_kid = o.opened.body_is ∙ ap (fill hole.frames) one

    -- its leaves are those of the order
    kid_permuted : IsPermutation order (leaves k)
    kid_permuted = subst (IsPermutation order) (ap all_leaves one ∙ all_leaves_one k)
        (order_permuted order var tree hole kids None o)

    -- with the order in place of the kid the tree is forced
    pub node_forced : (ties : List (ℕ × Bool)) → IsTiedReading k order ties → (m : Node)
        → m ∷ [] ≡ fill hole.frames (forced_node var order ∷ [])
        → IsWellFormed (closed_tree order var tree hole kids None o m ties)
        × IsForced order var tree (closed_tree order var tree hole kids None o m ties)
    node_forced ties fit m e =
        let n = o.reduced_tree.body in
        let j = forced_node var order in
        let V : ℕ → Type 0 = λ vars. var < vars in
        let keeps : Keeps V (n ∷ []) (m ∷ []) = subst₂ (Keeps V) (sym body_of_kid) (sym e)
        (filled_node_keeps V hole.frames k j
        (node_keeps k var order o.order_of.not_empty (IsPermutation-sym order (leaves k) kid_permuted))) in
        let below : has_vars_below hole.vars k ≡ true = (and_parts (has_vars_below hole.vars k) true
        (subst (λ z. list_all (has_vars_below hole.vars) z ≡ true) one
        (kids_below order var tree hole kids None o))).0 in
        closed_forced order var tree hole kids None o V m ties (λ may way. Unit {0})
        (λ may. Taken may var k order ties fit kid_permuted) (λ may. Put may var k order ties fit kid_permuted)
        keeps (within order var tree hole kids None o) (fit.below hole.vars below)
        (λ may. tied_node may var k order ties fit kid_permuted o.order_of.not_empty)
        (λ may word r. filled_node may hole.frames k j n m body_of_kid e word r)
        (λ may word r. filled_node may hole.frames j k m n e body_of_kid word r)

    -- the kid branches
    pub kid_branches : is_branching k ≡ true
    kid_branches = (and_parts (is_branching k) true
        (subst (λ z. list_all is_branching z ≡ true) one (kids_branch order var tree hole kids None o))).0

    -- where the order is no reading of the kid, the order never stands in a row
    pub node_never : ((may : ℕ → Bool → Bool) → Reads may k order → ⊥) → IsNeverInRow order tree
    node_never none = never_opened order var tree hole kids None o
        (λ word b d r has.
        no_way b (run_is_row order o.order_of.not_empty (λ way. Unit {0}) (Reads any_bit o.reduced_tree.body)
        (Reads any_bit o.reduced_tree.body) (λ way. Reads any_bit k) (λ way. Reads any_bit k)
        (λ way u h. IsPermutation-trans order (leaves k) u kid_permuted (read_leaves any_bit k u h)) word b d
        (filled_node any_bit hole.frames k k o.reduced_tree.body o.reduced_tree.body body_of_kid body_of_kid word r)
        has).1)
      where
        no_way : (b : Bool) → Reads any_bit k (in_direction b order) → ⊥
        no_way false r = none any_bit r
        no_way true r = none (turned any_bit) ((reverse_read any_bit k order).0 r)

module _ (order : List ℕ) (var : ℕ) (tree : PQTree) (hole : Hole) (kids : List Node) (v : ℕ)
    (o : IsOpened order var tree hole (record { kids = kids; var = Some v })) where
  -- the place is in the Q-node
  pub in_place : IsInQ v hole.frames
  in_place = o.opened.part_is.1

  -- the leaves of the kids are those of the order
  run_permuted : IsPermutation order (all_leaves kids)
  run_permuted = order_permuted order var tree hole kids (Some v) o

  -- the var of the Q-node is a var of the tree
  own_below : v < hole.vars
  own_below = place_below hole.vars v hole.frames kids in_place
      (one_passes (has_vars_below hole.vars) o.reduced_tree.body (fill hole.frames kids) o.opened.body_is
      (hole_formed order var tree hole kids (Some v) o).vars_below)

  -- with the order in place of the kids the tree is forced
  pub run_forced : (d : Bool) (ties : List (ℕ × Bool)) → IsTiedRow kids order d ties → (m : Node)
      → m ∷ [] ≡ fill hole.frames (map Leaf (in_direction d order))
      → IsWellFormed (closed_tree order var tree hole kids (Some v) o m (ties ++ (v, d) ∷ []))
      × IsForced order var tree (closed_tree order var tree hole kids (Some v) o m (ties ++ (v, d) ∷ []))
  run_forced d ties fit m e =
      let n = o.reduced_tree.body in
      let js = map Leaf (in_direction d order) in
      let V : ℕ → Type 0 = λ vars. Unit {0} in
      let keeps : Keeps V (n ∷ []) (m ∷ []) = subst₂ (Keeps V) (sym o.opened.body_is) (sym e)
      (filled_run_keeps V v hole.frames in_place kids js
      (row_keeps V kids (in_direction d order)
      (IsPermutation-trans (all_leaves kids) order (in_direction d order)
      (IsPermutation-sym order (all_leaves kids) run_permuted) (turned_permuted d))) some_row) in
      closed_forced order var tree hole kids (Some v) o V m (ties ++ (v, d) ∷ []) (λ may way. may v way ≡ true)
      (λ may. TakenRow may var v kids order d ties fit run_permuted)
      (λ may. PutRow may var v kids order d ties fit run_permuted) keeps tt
      (all-append (λ (t : ℕ × Bool). t.0 < hole.vars) ties ((v, d) ∷ [])
      (fit.below hole.vars (kids_below order var tree hole kids (Some v) o)) (own_below, tt))
      (λ may. tied_run may var v kids order d ties fit run_permuted)
      (λ may word r. filled_run may v kids js hole.frames in_place n m o.opened.body_is e word r)
      (λ may word r. filled_run may v js kids hole.frames in_place m n e o.opened.body_is word r)
    where
      turned_permuted : (b : Bool) → IsPermutation order (in_direction b order)
      turned_permuted b = direction_permuted b order

      some_length : (xs : List ℕ) → xs ≢ [] → 1 ≤ length xs
      some_length [] some = absurd (some refl)
      some_length (x ∷ xs) some = omega arith

      some_row : 1 ≤ length (map Leaf (in_direction d order))
      some_row =
          let a = length-map (in_direction d order) Leaf in
          let b = length_permutation order (in_direction d order) (turned_permuted d) in
          let c = some_length order o.order_of.not_empty in omega (arith, a, b, c)

  -- where the order is no reading of the kids in either direction, the order never stands in a row
  pub run_never : ((may : ℕ → Bool → Bool) (way : Bool) → ReadsAll may (in_direction way kids) order → ⊥)
      → IsNeverInRow order tree
  run_never none = never_opened order var tree hole kids (Some v) o
      (λ word b d r has.
      let a = filled_run any_bit v kids kids hole.frames in_place o.reduced_tree.body o.reduced_tree.body
      o.opened.body_is o.opened.body_is word r in
      let h = run_is_row order o.order_of.not_empty (λ way. any_bit v way ≡ true) (Reads any_bit o.reduced_tree.body)
      (Reads any_bit o.reduced_tree.body) (λ way. ReadsAll any_bit (in_direction way kids))
      (λ way. ReadsAll any_bit (in_direction way kids))
      (λ way u x. IsPermutation-trans order (all_leaves kids) u run_permuted
      (turned_leaves any_bit way kids u x)) word b d a has in
      no_way b a.d h.1)
    where
      no_way : (b way : Bool) → ReadsAll any_bit (in_direction way kids) (in_direction b order) → ⊥
      no_way false way r = none any_bit way r
      no_way true way r = none (turned any_bit) (not way) ((reverse_read_row any_bit way kids order).0 r)

-- distinct sorted numbers rise
pub sorted_rising : (xs : List ℕ) → IsNonDecreasingBy (λ (x : ℕ). x) xs → Distinct xs → IsStrictlyIncreasing xs
sorted_rising xs s d k lt =
    let le : get_or xs k 0 ≤ get_or xs (k + 1) 0 = s k (k + 1) 0 (omega arith) lt in
    let ne : get_or xs (k + 1) 0 ≡ get_or xs k 0 → ⊥ = apart xs d (k + 1) k lt (omega arith) in
    below (get_or xs k 0) (get_or xs (k + 1) 0) le ne
  where
    below : (a b : ℕ) → a ≤ b → (b ≡ a → ⊥) → a < b
    below a b le ne = omega arith

-- the leaves of an order as a set of leaves of a tree
pub leaf_set_of : (set order : List ℕ) (tree : PQTree) → IsPermutation set order → IsStrictlyIncreasing set
    → order ≢ [] → ((x : ℕ) → Has x order → Has x (leaves tree.body)) → IsLeafSet set tree
leaf_set_of set order tree perm rising some inside = record {
  rising = rising;
  not_empty = some_permuted order set (IsPermutation-sym set order perm) some;
  leaves_of = λ x h. inside x (Has-IsPermutation x set order perm h);
}

-- the leaves of an order as a set of leaves of the reduced tree
pub reduced_set : (set order : List ℕ) (tree reduced : PQTree) → IsLeafSet set tree → IsReduced set tree reduced
    → IsLeafSet set reduced
reduced_set set order tree reduced leaf_set r = record {
  rising = leaf_set.rising;
  not_empty = leaf_set.not_empty;
  leaves_of = λ x h. Has-IsPermutation x (leaves tree.body) (leaves reduced.body) r.leaves_kept
      (leaf_set.leaves_of x h);
}
