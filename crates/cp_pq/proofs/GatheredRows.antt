-- Rows gathered from their ends, and the bounds of their nodes.
use Rattle.std.proofs.Common.{◌≡◌, ℕ, ◌<◌, ◌≤◌, ◌^◌, Bool, true, false, not, ◌&&◌, List, [], ◌∷◌, ◌++◌, length, reverse, append_assoc, refl, sym, ap, ◌∙◌, subst, arith}
use Rattle.std.specs.Prelude.{nat_lt}
use Rattle.std.specs.List.{list_all, AllZip}
use Rattle.std.specs.List.Sorted.{IsStrictlyIncreasing}
use Rattle.std.proofs.lemmas.Bool.{and_parts, and_from}
use Rattle.std.proofs.lemmas.List.{reverse-append, reverse-reverse}
use Rattle.std.proofs.lemmas.List.Folds.{list_all-append}
use Rattle.std.proofs.lemmas.List.Sorted.{IsPermutation-reverse}
use Rattle.cp_pq.specs.declared.node.Node.{Node}
use Rattle.cp_pq.specs.declared.frame.Label.{Label}
use Rattle.cp_pq.specs.declared.found.Found.{Found}
use Rattle.cp_pq.specs.declared.step.Place.{Place}
use Rattle.cp_pq.specs.declared.step.Row.{Row}
use Rattle.cp_pq.specs.declared.step.Step.{Step}
use Rattle.cp_pq.specs.declared.look.Mark.{Mark}
use Rattle.cp_pq.specs.Nodes.{is_branching}
use Rattle.cp_pq.specs.Orders.{inside, outside}
use Rattle.cp_pq.specs.Words.{has_all}
use Rattle.cp_pq.specs.Founds.{IsGiven}
use Rattle.cp_pq.specs.Frames.{node_of}
use Rattle.cp_pq.specs.Steps.{IsStep, IsGathered, count_in, count_all}
use Rattle.cp_pq.specs.Marks.{AreMarks, none, IsLooked, IsLow}
use Rattle.cp_pq.proofs.Permutations.{list_all-IsPermutation}
use Rattle.cp_pq.proofs.NodeTests.{all_one, branching_P_parts, branching_Q_parts}
use Rattle.cp_pq.proofs.Counts.{count_nil, count_push, count_cons, count_append, count_node, has_all_node, out_count}
use Rattle.cp_pq.proofs.Zips.{zip_reverse}
use Rattle.cp_pq.proofs.MarkLaws.{IsFirstMark, count_one, count_inner, marks_out, marks_in}

-- a row in reverse holds what the row holds
pub count_reverse : (p : ℕ → Bool) (ks : List Node) → count_all p (reverse ks) ≡ count_all p ks
count_reverse p [] = refl
count_reverse p (k ∷ ks) =
    let a = ap (count_all p) (reverse-append (k ∷ []) ks) ∙ count_push p (reverse ks) k in
    let b = count_cons p k ks in let c = count_reverse p ks in omega (arith, a, b, c)

-- a test of all nodes holds in reverse where it holds
pub all_reverse : (f : Node → Bool) (ks : List Node) → list_all f (reverse ks) ≡ list_all f ks
all_reverse f ks = sym (list_all-IsPermutation f ks (reverse ks) (IsPermutation-reverse ks))

-- the empty row
pub none_gathered : (q p : ℕ → Bool) (total : ℕ) (row : Row) → row ≡ Row.Open [] 0 → IsGathered q p total [] row
none_gathered q p total row e = subst (IsGathered q p total []) (sym e) (tt, sym (count_nil p), refl)

-- a row gathered from its end is gathered, where the order of what was found is turned
pub turned_open : (q p : ℕ → Bool) (total : ℕ) (ks : List Node) (founds back : List Found) (count : ℕ) → back ≡ reverse founds
    → IsGathered q p total (reverse ks) (Row.Open founds count) → IsGathered q p total ks (Row.Open back count)
turned_open q p total ks founds back count e g = (
  subst (AllZip (IsGiven q p) ks) (sym e)
      (subst (λ z. AllZip (IsGiven q p) z (reverse founds)) (reverse-reverse ks) (zip_reverse q p (reverse ks) founds g.0)),
  g.1 ∙ count_reverse p ks,
  sym (all_reverse (λ k. nat_lt (count_in p k) total) ks) ∙ g.2,
)

-- and the same of a row with a place
pub turned_root : (q p : ℕ → Bool) (total : ℕ) (ks : List Node) (before after front back : List Found) (place : Place)
    → front ≡ reverse after → back ≡ reverse before
    → IsGathered q p total (reverse ks) (Row.Root before place after) → IsGathered q p total ks (Row.Root front place back)
turned_root q p total ks before after front back place f b g = (
  reverse g.1,
  reverse g.0,
  g.2,
  sym (reverse-reverse ks) ∙ ap reverse g.3 ∙ reverse-append g.0 (g.2 ∷ g.1)
      ∙ ap (λ z. z ++ reverse g.0) (reverse-append (g.2 ∷ []) g.1) ∙ append_assoc (reverse g.1) (g.2 ∷ []) (reverse g.0),
  subst (AllZip (IsGiven q p) (reverse g.1)) (sym f) (zip_reverse q p g.1 after g.5),
  subst (AllZip (IsGiven q p) (reverse g.0)) (sym b) (zip_reverse q p g.0 before g.4),
  g.6,
  g.7,
)

-- what is at most a number below a bound is below it
below_bound : (x y b : ℕ) → x ≤ y → y < b → x < b
below_bound x y b le lt = omega (arith, le, lt)

module _ (set : List ℕ) (total : ℕ) where
  -- a row is low in reverse
  pub low_reverse : (ks : List Node) → IsLow set total ks → IsLow set total (reverse ks)
  low_reverse ks l = record {
    rising = l.rising;
    branching = all_reverse is_branching ks ∙ l.branching;
    some = l.some;
    low = subst (λ z. z ≤ total) (sym (count_reverse (inside set) ks)) l.low;
  }

  -- a node of a low row is low, and so are the nodes up to it
  pub low_parts : (ds es : List Node) (k : Node) → IsLow set total (ds ++ k ∷ es)
      → IsLow set total (k ∷ []) × (count_all (inside set) (ds ++ k ∷ []) ≤ total)
  low_parts ds es k l =
      let g = and_parts _ _ (sym (list_all-append is_branching ds (k ∷ es)) ∙ l.branching) in
      let h = and_parts _ _ g.1 in
      let a = count_append (inside set) ds (k ∷ es) in let b = count_cons (inside set) k es in
      let c = count_one (inside set) k in let d = count_push (inside set) ds k in let e = l.low in (
        record {
          rising = l.rising;
          branching = and_from _ _ h.0 refl;
          some = l.some;
          low = omega (arith, a, b, c, e);
        },
        omega (arith, a, b, d, e),
      )

  -- the kids of an inner node that branches are two at least, which branch
  kids_branch : (label : Label) (ks : List Node) → is_branching (node_of label ks) ≡ true
      → (2 ≤ length ks) × (list_all is_branching ks ≡ true)
  kids_branch (Label.P o) ks h = branching_P_parts o ks h
  kids_branch (Label.Q v) ks h = branching_Q_parts v ks h

  -- the kids of a low node are a low row of two at least
  pub low_kids : (label : Label) (ks : List Node) → IsLow set total (node_of label ks ∷ [])
      → IsLow set total ks × (2 ≤ length ks)
  low_kids label ks l =
      let h = kids_branch label ks (sym (all_one is_branching (node_of label ks)) ∙ l.branching) in (
        record {
          rising = l.rising;
          branching = h.1;
          some = l.some;
          low = subst (λ z. z ≤ total) (count_inner (inside set) label ks) l.low;
        },
        h.0,
      )

  -- an inner node whose mark says that it is outside
  pub inner_out : (label : Label) (js rest : List Node) (before : List Mark) (m : Mark) (n : Node)
      → n ≡ node_of label js → IsLow set total (node_of label js ∷ []) → (m.outs && not m.ins) ≡ true
      → IsFirstMark (outside set) (inside set) js rest before m
      → IsStep (outside set) (inside set) total (node_of label js) (Step.Open (Found.Out n) 0)
      × AreMarks (outside set) (inside set) rest before
  inner_out label js rest before m n e l o f =
      let h = marks_out (outside set) (inside set) js rest before m o f in
      let out : has_all (outside set) (node_of label js) ≡ true = has_all_node (outside set) label js ∙ sym f.0.outs ∙ h.0 in
      let not_in : has_all (inside set) (node_of label js) ≡ false = has_all_node (inside set) label js ∙ sym f.0.ins ∙ h.1 in
      (((out, not_in, e), sym (out_count (outside set) (inside set) (λ x. refl) (node_of label js) out), l.some), h.2)

  -- and one whose mark says that it is inside
  pub inner_in : (label : Label) (js rest : List Node) (before : List Mark) (m : Mark)
      → IsLow set total (node_of label js ∷ []) → (m.ins && not m.outs) ≡ true
      → IsFirstMark (outside set) (inside set) js rest before m
      → (has_all (outside set) (node_of label js) ≡ false) × (has_all (inside set) (node_of label js) ≡ true)
      × (m.count ≡ count_in (inside set) (node_of label js)) × (count_in (inside set) (node_of label js) ≤ total)
      × AreMarks (outside set) (inside set) rest before
  inner_in label js rest before m l o f =
      let h = marks_in (outside set) (inside set) js rest before m o f in (
        has_all_node (outside set) label js ∙ sym f.0.outs ∙ h.0,
        has_all_node (inside set) label js ∙ sym f.0.ins ∙ h.1,
        f.0.count ∙ sym (count_node (inside set) label js),
        subst (λ z. z ≤ total) (count_one (inside set) (node_of label js)) l.low,
        h.2,
      )

  -- one node more taken from the end of a row
  pub taken_last : (ks ds left new : List Node) (k : Node) → reverse ks ≡ ds ++ reverse left → left ≡ new ++ k ∷ []
      → (reverse ks ≡ (ds ++ k ∷ []) ++ reverse new) × (reverse left ≡ k ∷ reverse new)
  taken_last ks ds left new k e f =
      let g : reverse left ≡ k ∷ reverse new = ap reverse f ∙ reverse-append new (k ∷ []) in
      (e ∙ ap (λ z. ds ++ z) g ∙ sym (append_assoc ds (k ∷ []) (reverse new)), g)

  -- the bounds of this node
  pub low_last : (ks ds new : List Node) (k : Node) → reverse ks ≡ (ds ++ k ∷ []) ++ reverse new → IsLow set total ks
      → IsLow set total (k ∷ []) × (count_all (inside set) (ds ++ k ∷ []) ≤ total)
  low_last ks ds new k e l =
      low_parts ds (reverse new) k
      (subst (IsLow set total) (e ∙ append_assoc ds (k ∷ []) (reverse new)) (low_reverse ks l))

  -- the marks of a tree that was looked through, where there were none before
  pub marks_all : (n : Node) (old new : List Mark) (m : Mark) → old ≡ [] → IsLooked set (n ∷ []) old new m → total < 2 ^ 64
      → IsLow set total (n ∷ []) → AreMarks (outside set) (inside set) (n ∷ []) new
  marks_all n old new m e k small l =
      k.marks l.rising (below_bound _ total (2 ^ 64) l.low small) []
      (subst (AreMarks (outside set) (inside set) []) (sym e) none)

  -- a node that branches and holds no more than the set is low
  pub low_one : (n : Node) → IsStrictlyIncreasing set → is_branching n ≡ true → 0 < total → count_in (inside set) n ≤ total
      → IsLow set total (n ∷ [])
  low_one n r b pos le = record {
    rising = r;
    branching = all_one is_branching n ∙ b;
    some = pos;
    low = subst (λ z. z ≤ total) (sym (count_one (inside set) n)) le;
  }
