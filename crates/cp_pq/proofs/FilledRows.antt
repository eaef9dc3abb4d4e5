-- Rows put into frames: their leaves, and tests of nodes.
use Rattle.std.proofs.Common.{◌≡◌, ℕ, ◌≤◌, Bool, true, Option, Some, None, List, [], ◌∷◌, ◌++◌, length, length-append}
use Rattle.std.proofs.Common.{refl, sym, ap, ◌∙◌, subst, append_assoc, append-nil, arith, IsPermutation}
use Rattle.std.specs.Prelude.{nat_lt}
use Rattle.std.specs.List.{list_all}
use Rattle.std.proofs.lemmas.Bool.{and_parts, and_from}
use Rattle.std.proofs.lemmas.List.Folds.{list_all-append}
use Rattle.std.proofs.lemmas.List.Sorted.{IsPermutation-trans, IsPermutation-append_left}
use Rattle.std.proofs.lemmas.List.Sorted.{IsPermutation-append_comm}
use Rattle.cp_pq.specs.declared.node.Node.{Node}
use Rattle.cp_pq.specs.declared.frame.Label.{Label}
use Rattle.cp_pq.specs.declared.frame.Frame.{Frame}
use Rattle.cp_pq.specs.Nodes.{leaves, all_leaves, is_branching, has_vars_below}
use Rattle.cp_pq.specs.Frames.{node_of, fill, AreOutside}
use Rattle.cp_pq.specs.Holes.{IsInQ, IsPartAt}
use Rattle.cp_pq.proofs.NodeLayers.{leaves_P, leaves_Q, all_leaves_one, all_leaves_append}
use Rattle.cp_pq.proofs.NodeTests.{all_one, below_P, below_Q, branching_P_parts, branching_Q_parts, branching_P_from}
use Rattle.cp_pq.proofs.NodeTests.{branching_Q_from}
use Rattle.cp_pq.proofs.Permutations.{IsPermutation-same}
use Rattle.cp_pq.proofs.Rows.{row_all}
use Rattle.cp_pq.proofs.KeepingLaws.{all_split, all_join}

-- a row in the inner frames and then in the outer ones
pub fill_append : (fs gs : List Frame) (row : List Node) → fill (fs ++ gs) row ≡ fill gs (fill fs row)
fill_append [] gs row = refl
fill_append (f ∷ fs) gs row = fill_append fs gs (node_of f.label (f.before ++ (row ++ f.after)) ∷ [])

-- frames outside one behind the other
pub outside_append : (q : ℕ → Bool) (fs gs : List Frame) → AreOutside q fs → AreOutside q gs → AreOutside q (fs ++ gs)
outside_append q [] gs h g = g
outside_append q (f ∷ fs) gs h g = (h.0, h.1, outside_append q fs gs h.2 g)

-- one node in frames is one node
pub fill_one : (fs : List Frame) (k : Node) → (n : Node) × (fill fs (k ∷ []) ≡ n ∷ [])
fill_one [] k = (k, refl)
fill_one (f ∷ fs) k = fill_one fs (node_of f.label (f.before ++ k ∷ f.after))

-- a row with a last node is not empty
pub not_nil : (xs : List Node) (x : Node) → xs ++ x ∷ [] ≡ [] → ⊥
not_nil [] x e = cc
not_nil (y ∷ xs) x e = cc

-- the last node of a row of one
pub last_one : (xs : List Node) (x y : Node) → xs ++ x ∷ [] ≡ y ∷ [] → x ≡ y
last_one [] x y e = cc
last_one (z ∷ xs) x y e = let nil : xs ++ x ∷ [] ≡ [] = cc in absurd (not_nil xs x nil)

-- the leaves beside the hole
abbrev pub beside_leaves : List Frame → List ℕ
beside_leaves [] = []
beside_leaves (f ∷ fs) = (all_leaves f.before ++ all_leaves f.after) ++ beside_leaves fs

-- the leaves of an inner node are those of its kids
pub leaves_node : (label : Label) (ks : List Node) → leaves (node_of label ks) ≡ all_leaves ks
leaves_node (Label.P o) ks = leaves_P o ks
leaves_node (Label.Q v) ks = leaves_Q v ks

-- the leaves of a row in frames are its own and those beside it
pub filled_leaves : (fs : List Frame) (ks : List Node)
    → IsPermutation (all_leaves (fill fs ks)) (all_leaves ks ++ beside_leaves fs)
filled_leaves [] ks = IsPermutation-same _ _ (sym (append-nil (all_leaves ks)))
filled_leaves (f ∷ fs) ks =
    let a = all_leaves f.before in let b = all_leaves f.after in let k = all_leaves ks in
    let node = node_of f.label (f.before ++ (ks ++ f.after)) in
    let are : all_leaves (node ∷ []) ≡ a ++ (k ++ b) =
    all_leaves_one node ∙ leaves_node f.label (f.before ++ (ks ++ f.after)) ∙ all_leaves_append f.before (ks ++ f.after)
    ∙ ap (λ z. a ++ z) (all_leaves_append ks f.after) in
    let swapped : IsPermutation (a ++ (k ++ b)) (k ++ (a ++ b)) =
    IsPermutation-trans _ _ _ (IsPermutation-same _ _ (sym (append_assoc a k b)))
    (IsPermutation-trans _ _ _ (IsPermutation-append_left b _ _ (IsPermutation-append_comm a k))
    (IsPermutation-same _ _ (append_assoc k a b))) in
    IsPermutation-trans _ _ _ (filled_leaves fs (node ∷ []))
    (IsPermutation-trans _ _ _ (IsPermutation-same _ _ (ap (λ z. z ++ beside_leaves fs) are))
    (IsPermutation-trans _ _ _ (IsPermutation-append_left (beside_leaves fs) _ _ swapped)
    (IsPermutation-same _ _ (append_assoc k (a ++ b) (beside_leaves fs)))))

-- leaves beside a hole whose frames are outside are outside
pub beside_outside : (q : ℕ → Bool) (fs : List Frame) → AreOutside q fs → list_all q (beside_leaves fs) ≡ true
beside_outside q [] h = refl
beside_outside q (f ∷ fs) h =
    let a = row_all q f.before ∙ h.0 in let b = row_all q f.after ∙ h.1 in
    let c : list_all q (all_leaves f.before ++ all_leaves f.after) ≡ true =
    list_all-append q (all_leaves f.before) (all_leaves f.after) ∙ and_from _ _ a b in
    list_all-append q (all_leaves f.before ++ all_leaves f.after) (beside_leaves fs)
    ∙ and_from _ _ c (beside_outside q fs h.2)

-- where the first row has two nodes the second has
abbrev StaysLong : List Node → List Node → Type 0
StaysLong ks js = 2 ≤ length ks → 2 ≤ length js

-- a test of nodes that an inner node passes only where its kids do
module _ (t : Node → Bool) (parts : (l : Label) (ks : List Node) → t (node_of l ks) ≡ true → list_all t ks ≡ true) where
  -- what stands in a frame passes the test where the node does
  sides : (f : Frame) (ks : List Node) → t (node_of f.label (f.before ++ (ks ++ f.after))) ≡ true
      → (list_all t f.before ≡ true) × (list_all t ks ≡ true) × (list_all t f.after ≡ true)
  sides f ks h =
      let a = all_split t f.before (ks ++ f.after) (parts f.label (f.before ++ (ks ++ f.after)) h) in
      let b = all_split t ks f.after a.1 in
      (a.0, b.0, b.1)

  -- the row in the hole passes the test where the whole does
  pub test_inner : (fs : List Frame) (ks : List Node) → list_all t (fill fs ks) ≡ true → list_all t ks ≡ true
  test_inner [] ks h = h
  test_inner (f ∷ fs) ks h =
      let node = node_of f.label (f.before ++ (ks ++ f.after)) in
      (sides f ks (sym (all_one t node) ∙ test_inner fs (node ∷ []) h)).1

-- and that it passes with other kids too that pass it
module _ (t : Node → Bool) (parts : (l : Label) (ks : List Node) → t (node_of l ks) ≡ true → list_all t ks ≡ true)
    (again : (l : Label) (ks js : List Node) → t (node_of l ks) ≡ true → StaysLong ks js → list_all t js ≡ true
    → t (node_of l js) ≡ true) where
  -- a frame passes the test with another row in it that does
  frame_test : (f : Frame) (ks js : List Node) → StaysLong (f.before ++ (ks ++ f.after)) (f.before ++ (js ++ f.after))
      → t (node_of f.label (f.before ++ (ks ++ f.after))) ≡ true → list_all t js ≡ true
      → t (node_of f.label (f.before ++ (js ++ f.after))) ≡ true
  frame_test f ks js long h g =
      let s = sides t parts f ks h in
      again f.label (f.before ++ (ks ++ f.after)) (f.before ++ (js ++ f.after)) h long
      (all_join t f.before (js ++ f.after) s.0 (all_join t js f.after g s.2))

  -- a node in place of a node
  test_one : (fs : List Frame) (k j : Node) → list_all t (fill fs (k ∷ [])) ≡ true → t j ≡ true
      → list_all t (fill fs (j ∷ [])) ≡ true
  test_one [] k j h g = all_one t j ∙ g
  test_one (f ∷ fs) k j h g =
      let node = node_of f.label (f.before ++ k ∷ f.after) in
      let same : StaysLong (f.before ++ k ∷ f.after) (f.before ++ j ∷ f.after) =
      (λ two. let a = length-append f.before (k ∷ f.after) in let b = length-append f.before (j ∷ f.after) in
      omega (arith, a, b, two)) in
      let whole : t node ≡ true = sym (all_one t node) ∙ test_inner t parts fs (node ∷ []) h in
      test_one fs node (node_of f.label (f.before ++ j ∷ f.after)) h
      (frame_test f (k ∷ []) (j ∷ []) same whole (all_one t j ∙ g))

  -- a node in place of a run
  test_run : (v : ℕ) (fs : List Frame) → IsInQ v fs → (ks : List Node) (j : Node) → list_all t (fill fs ks) ≡ true
      → t j ≡ true → list_all t (fill fs (j ∷ [])) ≡ true
  test_run v [] i ks j h g = absurd i
  test_run v (f ∷ fs) i ks j h g =
      let node = node_of f.label (f.before ++ (ks ++ f.after)) in
      let some = i.1 in
      let long : 2 ≤ length (f.before ++ j ∷ f.after) =
      (let a = length-append f.before (j ∷ f.after) in let b = length-append f.before f.after in
      omega (arith, a, b, some)) in
      let whole : t node ≡ true = sym (all_one t node) ∙ test_inner t parts fs (node ∷ []) h in
      test_one fs node (node_of f.label (f.before ++ j ∷ f.after)) h
      (frame_test f ks (j ∷ []) (λ two. long) whole (all_one t j ∙ g))

  -- a node in place of the part
  test_part : (fs : List Frame) (var : Option ℕ) (ks : List Node) → IsPartAt fs var ks → (j : Node)
      → list_all t (fill fs ks) ≡ true → t j ≡ true → list_all t (fill fs (j ∷ [])) ≡ true
  test_part fs None ks p j h g = test_one fs p.0 j (subst (λ z. list_all t (fill fs z) ≡ true) p.1 h) g
  test_part fs (Some v) ks p j h g = test_run v fs p.1 ks j h g

-- each kid branches
pub branching_kids : (l : Label) (ks : List Node) → is_branching (node_of l ks) ≡ true → list_all is_branching ks ≡ true
branching_kids (Label.P o) ks h = (branching_P_parts o ks h).1
branching_kids (Label.Q v) ks h = (branching_Q_parts v ks h).1

-- kids that branch, at least two
branching_again : (l : Label) (ks js : List Node) → is_branching (node_of l ks) ≡ true → StaysLong ks js
    → list_all is_branching js ≡ true → is_branching (node_of l js) ≡ true
branching_again (Label.P o) ks js h long g = branching_P_from o js (long (branching_P_parts o ks h).0) g
branching_again (Label.Q v) ks js h long g = branching_Q_from v js (long (branching_Q_parts v ks h).0) g

-- the vars of kids
pub below_kids : (m : ℕ) (l : Label) (ks : List Node) → has_vars_below m (node_of l ks) ≡ true
    → list_all (has_vars_below m) ks ≡ true
below_kids m (Label.P o) ks h = sym (below_P m o ks) ∙ h
below_kids m (Label.Q v) ks h = (and_parts (nat_lt v m) (list_all (has_vars_below m) ks) (sym (below_Q m v ks) ∙ h)).1

-- kids with vars below the number
below_again : (m : ℕ) (l : Label) (ks js : List Node) → has_vars_below m (node_of l ks) ≡ true → StaysLong ks js
    → list_all (has_vars_below m) js ≡ true → has_vars_below m (node_of l js) ≡ true
below_again m (Label.P o) ks js h long g = below_P m o js ∙ g
below_again m (Label.Q v) ks js h long g =
    below_Q m v js ∙ and_from (nat_lt v m) (list_all (has_vars_below m) js)
    (and_parts (nat_lt v m) (list_all (has_vars_below m) ks) (sym (below_Q m v ks) ∙ h)).0 g

-- a tree with a node in place of a part has two kids at each inner node where the old tree and the node have
pub branching_part : (fs : List Frame) (var : Option ℕ) (ks : List Node) → IsPartAt fs var ks → (j n m : Node)
    → n ∷ [] ≡ fill fs ks → m ∷ [] ≡ fill fs (j ∷ []) → is_branching n ≡ true → is_branching j ≡ true
    → is_branching m ≡ true
branching_part fs var ks p j n m e1 e2 h g =
    sym (all_one is_branching m) ∙ ap (list_all is_branching) e2
    ∙ test_part is_branching branching_kids branching_again fs var ks p j
    (ap (list_all is_branching) (sym e1) ∙ all_one is_branching n ∙ h) g

-- and its vars are among so many where those of the old tree and the node are
pub below_part : (b : ℕ) (fs : List Frame) (var : Option ℕ) (ks : List Node) → IsPartAt fs var ks → (j n m : Node)
    → n ∷ [] ≡ fill fs ks → m ∷ [] ≡ fill fs (j ∷ []) → has_vars_below b n ≡ true → has_vars_below b j ≡ true
    → has_vars_below b m ≡ true
below_part b fs var ks p j n m e1 e2 h g =
    let t = has_vars_below b in
    sym (all_one t m) ∙ ap (list_all t) e2
    ∙ test_part t (below_kids b) (below_again b) fs var ks p j (ap (list_all t) (sym e1) ∙ all_one t n ∙ h) g

-- the vars of the part are vars of the tree
pub below_inner : (b : ℕ) (fs : List Frame) (ks : List Node) (n : Node) → n ∷ [] ≡ fill fs ks
    → has_vars_below b n ≡ true
    → list_all (has_vars_below b) ks ≡ true
below_inner b fs ks n e h =
    let t = has_vars_below b in
    test_inner t (below_kids b) fs ks (ap (list_all t) (sym e) ∙ all_one t n ∙ h)

-- the part has two kids at each inner node
pub branching_inner : (fs : List Frame) (ks : List Node) (n : Node) → n ∷ [] ≡ fill fs ks → is_branching n ≡ true
    → list_all is_branching ks ≡ true
branching_inner fs ks n e h =
    test_inner is_branching branching_kids fs ks
    (ap (list_all is_branching) (sym e) ∙ all_one is_branching n ∙ h)
