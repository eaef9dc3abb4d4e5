-- A tree whose part is replaced by a node: pairs, shape, leaves, owners and what makes it a tree.
use Rattle.std.proofs.Common.{◌≡◌, ℕ, ◌<◌, ◌⊎◌, Bool, true, false, Option, Some, None, List, [], ◌∷◌, ◌++◌}
use Rattle.std.proofs.Common.{inl, inr, ⊎_elim, refl, sym, ap, ◌∙◌, subst, IsPermutation}
use Rattle.std.specs.List.{list_all}
use Rattle.std.proofs.lemmas.List.Sorted.{IsPermutation-sym, IsPermutation-trans, IsPermutation-append_left}
use Rattle.cp_lists.specs.CyclicLists.{Has, Distinct}
use Rattle.cp_lists.proofs.DistinctLists.{Lacks-from, has_lacks, Has-append_cases, Has-append_right, Distinct-append}
use Rattle.cp_lists.proofs.DistinctLists.{Distinct-append_right}
use Rattle.cp_base.specs.declared.equation.Equation.{Equation}
use Rattle.cp_pq.specs.declared.node.Node.{Node}
use Rattle.cp_pq.specs.declared.node.Node.TheVariants.{Q}
use Rattle.cp_pq.specs.declared.frame.Frame.{Frame}
use Rattle.cp_pq.specs.declared.hole.Hole.{Hole}
use Rattle.cp_pq.specs.declared.part.Part.{Part}
use Rattle.cp_pq.specs.Nodes.{leaves, all_leaves, has_vars_below}
use Rattle.cp_pq.specs.Bits.{bit_of}
use Rattle.cp_pq.specs.Readings.{Reads, ReadsAll, given, any_bit, forward, backward}
use Rattle.cp_pq.specs.Trees.{PQTree, make_tree, IsWellFormed}
use Rattle.cp_pq.specs.Orders.{outside}
use Rattle.cp_pq.specs.Promises.{IsLeafSet, reading_of, IsFreshNode, IsReplaced, in_direction}
use Rattle.cp_pq.specs.Frames.{fill}
use Rattle.cp_pq.specs.Holes.{IsPartAt, IsTakenOut}
use Rattle.cp_pq.proofs.NodeLayers.{leaves_Q, all_leaves_one}
use Rattle.cp_pq.proofs.Permutations.{IsPermutation-same}
use Rattle.cp_pq.proofs.PermutedLists.{Has-IsPermutation, Distinct-IsPermutation}
use Rattle.cp_pq.proofs.NodeTests.{all_one}
use Rattle.cp_pq.proofs.ReadingLaws.{ReadsAll_one, one_ReadsAll, Reads_Q, read_leaves}
use Rattle.cp_pq.proofs.GivenBits.{given_parts, given_from}
use Rattle.cp_pq.proofs.SomeReadings.{AllowsBelow, row_back, some_reading, some_row}
use Rattle.cp_pq.proofs.Holes.{filled_node, filled_run}
use Rattle.cp_pq.proofs.FilledRows.{beside_leaves, filled_leaves, beside_outside, branching_part, below_part}
use Rattle.cp_pq.proofs.FilledRows.{below_inner}
use Rattle.cp_pq.proofs.SwappedOwners.{owners_part}
use Rattle.cp_pq.proofs.TakenParts.{all_has, outside_lacks}

-- a licence that may be asked for one bit of each var
abbrev HasOneBit : (ℕ → Bool → Bool) → Type 0
HasOneBit may = (v : ℕ) (b c : Bool) → may v b ≡ true → may v c ≡ true → b ≡ c

-- a reading of the old tree: words round a reading of the part
record RoundPart (may : ℕ → Bool → Bool) (var : Option ℕ) (kids : List Node) (n m j : Node) (word : List ℕ) : Type 0
  where
    before : List ℕ
    run : List ℕ
    after : List ℕ
    is : word ≡ before ++ (run ++ after)
    reads : reading_of may var kids run
    again : (var ≡ None) ⊎ HasOneBit may → (u : List ℕ) → reading_of may var kids u
        → Reads may n (before ++ (u ++ after))
    exchanged : (u : List ℕ) → Reads may j u → Reads may m (before ++ (u ++ after))

-- a reading of the new tree: words round a reading of the node that was put in
record RoundNode (may : ℕ → Bool → Bool) (var : Option ℕ) (kids : List Node) (n j : Node) (word : List ℕ) : Type 0 where
  before : List ℕ
  run : List ℕ
  after : List ℕ
  is : word ≡ before ++ (run ++ after)
  reads : Reads may j run
  taken : (u : List ℕ) × reading_of may var kids u × Reads may n (before ++ (u ++ after))

module _ (may : ℕ → Bool → Bool) where
  -- a row in a direction that the licence allows is a reading of the Q-node
  Q_from : (v : ℕ) (ks : List Node) (u : List ℕ) (d : Bool) → may v d ≡ true → ReadsAll may (in_direction d ks) u
      → Reads may (Q v ks) u
  Q_from v ks u false e r = forward v ks u e r
  Q_from v ks u true e r = backward v ks u e r

  -- and back, where the licence allows this direction alone
  Q_to : HasOneBit may → (v : ℕ) (ks : List Node) (u : List ℕ) (d : Bool) → may v d ≡ true → Reads may (Q v ks) u
      → ReadsAll may (in_direction d ks) u
  Q_to one v ks u d e r = ⊎_elim
      (λ h. subst (λ z. ReadsAll may (in_direction z ks) u) (one v false d h.0 e) h.1)
      (λ h. subst (λ z. ReadsAll may (in_direction z ks) u) (one v true d h.0 e) h.1)
      (Reads_Q may v ks u r)

  -- one node from either end
  one_from : (j : Node) (u : List ℕ) (d : Bool) → ReadsAll may (in_direction d (j ∷ [])) u → Reads may j u
  one_from j u false r = ReadsAll_one may j u r
  one_from j u true r = ReadsAll_one may j u r

  -- and back
  one_to : (j : Node) (u : List ℕ) (d : Bool) → Reads may j u → ReadsAll may (in_direction d (j ∷ [])) u
  one_to j u false r = one_ReadsAll may j u r
  one_to j u true r = one_ReadsAll may j u r

  module _ (fs : List Frame) (kids : List Node) (n m j : Node) (e1 : n ∷ [] ≡ fill fs kids)
      (e2 : m ∷ [] ≡ fill fs (j ∷ [])) where
    -- readings of the old tree
    round_part : (var : Option ℕ) → IsPartAt fs var kids → (word : List ℕ) → Reads may n word
        → RoundPart may var kids n m j word
    round_part None p word r =
        let g = filled_node may fs p.0 j n m (e1 ∙ ap (fill fs) p.1) e2 word r in
        record {
          before = g.before;
          run = g.run;
          after = g.after;
          is = g.is;
          reads = (p.0, p.1, g.reads);
          again = λ free u h. let same : h.0 ∷ [] ≡ p.0 ∷ [] = sym h.1 ∙ p.1 in let a : h.0 ≡ p.0 = cc in
              g.again u (subst (λ z. Reads may z u) a h.2);
          exchanged = g.exchanged;
        }
    round_part (Some v) p word r =
        let g = filled_run may v kids (j ∷ []) fs p.1 n m e1 e2 word r in
        record {
          before = g.before;
          run = g.run;
          after = g.after;
          is = g.is;
          reads = Q_from v kids g.run g.d g.allowed g.reads;
          again = λ free u h. ⊎_elim (λ e. absurd (some_none e)) (λ one. g.again u (Q_to one v kids u g.d g.allowed h))
              free;
          exchanged = λ u h. g.exchanged u (one_to j u g.d h);
        }
      where
        some_none : Some v ≡ None → ⊥
        some_none e = cc

    -- readings of the new tree
    round_node : (b : ℕ) → AllowsBelow b may → list_all (has_vars_below b) kids ≡ true → (var : Option ℕ)
        → IsPartAt fs var kids → (word : List ℕ) → Reads may m word → RoundNode may var kids n j word
    round_node b allows low None p word r =
        let g = filled_node may fs j p.0 m n e2 (e1 ∙ ap (fill fs) p.1) word r in
        let u = some_reading may b allows p.0
        (sym (all_one (has_vars_below b) p.0) ∙ ap (list_all (has_vars_below b)) (sym p.1) ∙ low) in
        record {
          before = g.before;
          run = g.run;
          after = g.after;
          is = g.is;
          reads = g.reads;
          taken = (u.0, (p.0, p.1, u.1), g.exchanged u.0 u.1);
        }
    round_node b allows low (Some v) p word r =
        let g = filled_run may v (j ∷ []) kids fs p.1 m n e2 e1 word r in
        let u = some_word g.d in
        record {
          before = g.before;
          run = g.run;
          after = g.after;
          is = g.is;
          reads = one_from j g.run g.d g.reads;
          taken = (u.0, Q_from v kids u.0 g.d g.allowed u.1, g.exchanged u.0 u.1);
        }
      where
        some_word : (d : Bool) → (u : List ℕ) × ReadsAll may (in_direction d kids) u
        some_word false = some_row may b allows kids low
        some_word true = let u = some_row may b allows kids low in row_back may kids u.0 u.1

-- a reading of the part has the leaves of its kids
part_leaves : (may : ℕ → Bool → Bool) (var : Option ℕ) (kids : List Node) (u : List ℕ) → reading_of may var kids u
    → IsPermutation (all_leaves kids) u
part_leaves may None kids u r =
    IsPermutation-trans _ _ _ (IsPermutation-same _ _ (ap all_leaves r.1 ∙ all_leaves_one r.0))
    (read_leaves may r.0 u r.2)
part_leaves may (Some v) kids u r =
    IsPermutation-trans _ _ _ (IsPermutation-same _ _ (sym (leaves_Q v kids))) (read_leaves may (Q v kids) u r)

-- bits allow one bit of each var
given_one : (bits : List Bool) → HasOneBit (given bits)
given_one bits v b c x y = (given_parts bits v b x).1 ∙ sym (given_parts bits v c y).1

module _ (set : List ℕ) (old : PQTree) (wf : IsWellFormed old) (ls : IsLeafSet set old) (hole : Hole) (part : Part)
    (t : IsTakenOut set old hole part) (node : Node) (fresh : IsFreshNode set node old) (m : Node)
    (e2 : m ∷ [] ≡ fill hole.frames (node ∷ [])) where
  -- the new tree
  abbrev new : PQTree
  new = make_tree old.root m old.vars old.equations

  -- the leaves beside the hole
  abbrev rest : List ℕ
  rest = beside_leaves hole.frames

  -- the old leaves
  old_are : IsPermutation (leaves old.body) (all_leaves part.kids ++ rest)
  old_are = IsPermutation-trans _ _ _ (IsPermutation-same _ _ (sym (all_leaves_one old.body) ∙ ap all_leaves t.body_is))
      (filled_leaves hole.frames part.kids)

  -- the new leaves
  new_are : IsPermutation (leaves m) (leaves node ++ rest)
  new_are = IsPermutation-trans _ _ _ (IsPermutation-same _ _ (sym (all_leaves_one m) ∙ ap all_leaves e2))
      (IsPermutation-trans _ _ _ (filled_leaves hole.frames (node ∷ []))
      (IsPermutation-same _ _ (ap (λ z. z ++ rest) (all_leaves_one node))))

  -- leaves beside the hole are leaves of the old body
  rest_in_body : (x : ℕ) → Has x rest → Has x (leaves old.body)
  rest_in_body x h = Has-IsPermutation x _ _ (IsPermutation-sym _ _ old_are)
      (Has-append_right x (all_leaves part.kids) rest h)

  -- and not in the set
  rest_not_set : (x : ℕ) → Has x rest → Has x set → ⊥
  rest_not_set x h s = outside_lacks set x
      (all_has (outside set) rest x (beside_outside (outside set) hole.frames t.beside) h) s

  -- and not in the node
  rest_not_node : (x : ℕ) → Has x rest → Has x (leaves node) → ⊥
  rest_not_node x h s = rest_not_set x h (fresh.fresh x s (inr (rest_in_body x h)))

  -- what makes it a tree
  pub replaced_formed : IsWellFormed new
  replaced_formed = record {
    branching = branching_part hole.frames part.var part.kids t.part_is node old.body m t.body_is e2 wf.branching
        fresh.branching;
    distinct = (
      Lacks-from old.root (leaves m) no_root,
      Distinct-IsPermutation _ _ (IsPermutation-sym _ _ new_are)
          once,
    );
    vars_below = below_part old.vars hole.frames part.var part.kids t.part_is node old.body m t.body_is e2 wf.vars_below
        fresh.vars_below;
    equations_below = wf.equations_below;
  }
    where
      no_root : Has old.root (leaves m) → ⊥
      no_root h = ⊎_elim
          (λ x. has_lacks old.root (leaves old.body) (ls.leaves_of old.root (fresh.fresh old.root x (inl refl)))
          wf.distinct.0)
          (λ x. has_lacks old.root (leaves old.body) (rest_in_body old.root x) wf.distinct.0)
          (Has-append_cases old.root (leaves node) rest (Has-IsPermutation old.root _ _ new_are h))

      once : Distinct (leaves node ++ rest)
      once = Distinct-append (leaves node) rest fresh.distinct
          (Distinct-append_right (all_leaves part.kids) rest (Distinct-IsPermutation _ _ old_are wf.distinct.1))
          (λ d h. Lacks-from d rest (λ x. rest_not_node d x h))

  module _ (may : ℕ → Bool → Bool) where
    -- readings of the old body
    read_old : (word : List ℕ) → Reads may old.body word → RoundPart may part.var part.kids old.body m node word
    read_old word r = round_part may hole.frames part.kids old.body m node t.body_is e2 part.var t.part_is word r

    -- readings of the new body
    read_new : AllowsBelow old.vars may → (word : List ℕ) → Reads may m word
        → RoundNode may part.var part.kids old.body node word
    read_new allows word r =
        round_node may hole.frames part.kids old.body m node t.body_is e2 old.vars allows
        (below_inner old.vars hole.frames part.kids old.body t.body_is wf.vars_below) part.var t.part_is word r

    -- the run has the leaves of the set
    run_is : (u : List ℕ) → reading_of may part.var part.kids u → IsPermutation set u
    run_is u r = IsPermutation-trans _ _ _ t.set_is (part_leaves may part.var part.kids u r)

  -- the part is replaced by the node
  pub replaced : IsReplaced set node old new part
  replaced = record {
    keeps = λ order bits h.
        let g = read_old (given bits) h.word h.reads in
        record {
          before = old.root ∷ g.before;
          run = g.run;
          after = g.after;
          order_is = h.order_is ∙ ap (λ z. old.root ∷ z) g.is;
          run_is = run_is (given bits) g.run g.reads;
          reads = g.reads;
          again = λ u r. record {
            word = g.before ++ (u ++ g.after);
            order_is = refl;
            bits_count = h.bits_count;
            reads = g.again (inr (given_one bits)) u r;
            met = h.met;
          };
          exchanged = λ u r. record {
            word = g.before ++ (u ++ g.after);
            order_is = refl;
            bits_count = h.bits_count;
            reads = g.exchanged u r;
            met = h.met;
          };
        };
    only = λ order bits h.
        let g = read_new (given bits)
        (λ v lt. (bit_of bits v, given_from bits v (subst (λ z. v < z) (sym h.bits_count) lt))) h.word h.reads in
        record {
          before = old.root ∷ g.before;
          run = g.run;
          after = g.after;
          order_is = h.order_is ∙ ap (λ z. old.root ∷ z) g.is;
          reads = g.reads;
          taken = (
            g.taken.0,
            g.taken.1,
            record {
              word = g.before ++ (g.taken.0 ++ g.after);
              order_is = refl;
              bits_count = h.bits_count;
              reads = g.taken.2;
              met = h.met;
            },
          );
        };
    shape_keeps = λ order h.
        let g = read_old any_bit h.0 h.2 in
        record {
          before = old.root ∷ g.before;
          run = g.run;
          after = g.after;
          order_is = h.1 ∙ ap (λ z. old.root ∷ z) g.is;
          run_is = run_is any_bit g.run g.reads;
          reads = g.reads;
          again = λ e u r. (g.before ++ (u ++ g.after), refl, g.again (inl e) u r);
          exchanged = λ u r. (g.before ++ (u ++ g.after), refl, g.exchanged u r);
        };
    shape_only = λ order h.
        let g = read_new any_bit (λ v lt. (false, refl)) h.0 h.2 in
        record {
          before = old.root ∷ g.before;
          run = g.run;
          after = g.after;
          order_is = h.1 ∙ ap (λ z. old.root ∷ z) g.is;
          reads = g.reads;
          taken = (g.taken.0, g.taken.1, (g.before ++ (g.taken.0 ++ g.after), refl, g.taken.2));
        };
    root = refl;
    vars = refl;
    equations = refl;
    leaves_exchanged = record {
      rest = rest;
      old_are = IsPermutation-trans _ _ _ old_are (IsPermutation-append_left rest _ _ (IsPermutation-sym _ _ t.set_is));
      new_are = new_are;
    };
    owners = owners_part set node hole.frames part.var part.kids old.body m t.part_is
        (λ x h. (Lacks-from x set (rest_not_set x h), Lacks-from x (leaves node) (rest_not_node x h)))
        (λ x h. Has-IsPermutation x _ _ t.set_is h)
        (λ x h. Has-IsPermutation x _ _ (IsPermutation-sym _ _ t.set_is) h) t.body_is e2;
  }

  -- the same, by the parts of the hole
  pub hole_formed : IsWellFormed (make_tree hole.root m hole.vars hole.equations)
  hole_formed = subst IsWellFormed parts replaced_formed
    where
      parts : new ≡ make_tree hole.root m hole.vars hole.equations
      parts = ap (λ z. make_tree z m old.vars old.equations) (sym t.root_is)
          ∙ ap (λ z. make_tree hole.root m z old.equations) (sym t.vars_are)
          ∙ ap (λ (z : List Equation). make_tree hole.root m hole.vars z) (sym t.equations_are)

-- a tree that has these parts
module _ (set : List ℕ) (old : PQTree) (wf : IsWellFormed old) (ls : IsLeafSet set old) (hole : Hole) (part : Part)
    (t : IsTakenOut set old hole part) (node : Node) (fresh : IsFreshNode set node old) (new : PQTree)
    (eb : new.body ∷ [] ≡ fill hole.frames (node ∷ [])) (er : new.root ≡ hole.root) (ev : new.vars ≡ hole.vars)
    (ee : new.equations ≡ hole.equations) where
  -- the tree by its parts
  parts_are : new ≡ make_tree old.root new.body old.vars old.equations
  parts_are = ap (λ z. make_tree z new.body new.vars new.equations) (er ∙ t.root_is)
      ∙ ap (λ z. make_tree old.root new.body z new.equations) (ev ∙ t.vars_are)
      ∙ ap (λ (z : List Equation). make_tree old.root new.body old.vars z) (ee ∙ t.equations_are)

  -- the part is replaced by the node
  pub replaced_tree : IsReplaced set node old new part
  replaced_tree =
      subst (λ z. IsReplaced set node old z part) (sym parts_are)
      (replaced set old wf ls hole part t node fresh new.body eb)

  -- and it is a tree
  pub tree_formed : IsWellFormed new
  tree_formed = subst IsWellFormed (sym parts_are) (replaced_formed set old wf ls hole part t node fresh new.body eb)
