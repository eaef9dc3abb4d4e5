-- Rows that are looked through, and the marks of their nodes.
use Rattle.std.proofs.Common.{◌≡◌, ℕ, ◌+◌, ◌<◌, ◌^◌, Bool, true, false, not, ◌&&◌, ◌⊎◌, Option, Some, None, MatchOption, List, [], ◌∷◌, ◌++◌, length, length-append, take, reverse, append-nil, append_assoc, refl, sym, ap, ap₂, ◌∙◌, subst, inl, inr, ⊎_elim, arith}
use Rattle.std.specs.List.Sorted.{IsStrictlyIncreasing}
use Rattle.std.proofs.lemmas.Bool.{true≢false, false≢true}
use Rattle.std.proofs.lemmas.List.{reverse-append, take-append-le}
use Rattle.std.proofs.Math.Seq.{take-append_seam}
use Rattle.std.proofs.lemmas.List.Folds.{list_all-append}
use Rattle.cp_pq.specs.declared.node.Node.{Node}
use Rattle.cp_pq.specs.declared.node.Node.TheVariants.{Leaf}
use Rattle.cp_pq.specs.declared.frame.Label.{Label}
use Rattle.cp_pq.specs.declared.look.Mark.{Mark}
use Rattle.cp_pq.specs.Orders.{inside, outside}
use Rattle.cp_pq.specs.Words.{has_all}
use Rattle.cp_pq.specs.Frames.{node_of}
use Rattle.cp_pq.specs.Steps.{count_in, count_all}
use Rattle.cp_pq.specs.Marks.{IsMark, AreMarks, none, leaf, whole, parted, IsLooked}
use Rattle.cp_pq.proofs.NodeLayers.{P_P, Q_Q, P_Q, Leaf_P, Leaf_Q}
use Rattle.cp_pq.proofs.NodeTests.{all_one, has_all_Leaf}
use Rattle.cp_pq.proofs.Counts.{count_nil, count_cons, count_push, count_node, count_Leaf, has_all_node}

-- a row of one node holds what this node holds
pub count_one : (p : ℕ → Bool) (k : Node) → count_all p (k ∷ []) ≡ count_in p k
count_one p k = let a = count_cons p k [] in let b = count_nil p in omega (arith, a, b)

-- a row of one inner node holds what its kids hold
pub count_inner : (p : ℕ → Bool) (label : Label) (ks : List Node) → count_all p (node_of label ks ∷ []) ≡ count_all p ks
count_inner p label ks = count_one p (node_of label ks) ∙ count_node p label ks

-- the mark of the kids is the mark of their parent
pub mark_inner : (q p : ℕ → Bool) (label : Label) (ks : List Node) (m : Mark) → IsMark q p ks m
    → IsMark q p (node_of label ks ∷ []) m
mark_inner q p label ks m h = record {
  outs = h.outs ∙ sym (has_all_node q label ks) ∙ sym (all_one (has_all q) (node_of label ks));
  ins = h.ins ∙ sym (has_all_node p label ks) ∙ sym (all_one (has_all p) (node_of label ks));
  count = h.count ∙ sym (count_inner p label ks);
}

-- the empty row
pub looked_none : (set : List ℕ) (ms : List Mark) (m : Mark) → m ≡ record { count = 0; outs = true; ins = true }
    → IsLooked set [] ms ms m
looked_none set ms m e = subst (IsLooked set [] ms ms) (sym e) (record {
  mark = λ r c. record { outs = refl; ins = refl; count = sym (count_nil (inside set)) };
  marks = λ r c rest a. a;
  behind = ([], sym (append-nil ms));
})

-- a leaf inside
pub looked_in : (set : List ℕ) (ms : List Mark) (x : ℕ) → (IsStrictlyIncreasing set → inside set x ≡ true)
    → IsLooked set (Leaf x ∷ []) ms ms (record { count = 1; outs = false; ins = true })
looked_in set ms x e = record {
  mark = λ r c. record {
    outs = sym (all_one (has_all (outside set)) (Leaf x) ∙ has_all_Leaf (outside set) x ∙ ap not (e r));
    ins = sym (all_one (has_all (inside set)) (Leaf x) ∙ has_all_Leaf (inside set) x ∙ e r);
    count = sym (count_one (inside set) (Leaf x) ∙ count_Leaf (inside set) x true (e r));
  };
  marks = λ r c rest a. leaf x rest ms a;
  behind = ([], sym (append-nil ms));
}

-- a leaf outside
pub looked_out : (set : List ℕ) (ms : List Mark) (x : ℕ) → (IsStrictlyIncreasing set → inside set x ≡ false)
    → IsLooked set (Leaf x ∷ []) ms ms (record { count = 0; outs = true; ins = false })
looked_out set ms x e = record {
  mark = λ r c. record {
    outs = sym (all_one (has_all (outside set)) (Leaf x) ∙ has_all_Leaf (outside set) x ∙ ap not (e r));
    ins = sym (all_one (has_all (inside set)) (Leaf x) ∙ has_all_Leaf (inside set) x ∙ e r);
    count = sym (count_one (inside set) (Leaf x) ∙ count_Leaf (inside set) x false (e r));
  };
  marks = λ r c rest a. leaf x rest ms a;
  behind = ([], sym (append-nil ms));
}

-- a summand is below what the sum is below
below_left : (x y z b : ℕ) → z ≡ x + y → z < b → x < b
below_left x y z b e lt = omega (arith, e, lt)

below_right : (x y z b : ℕ) → z ≡ x + y → z < b → y < b
below_right x y z b e lt = omega (arith, e, lt)

-- one node more
pub looked_more : (set : List ℕ) (ks : List Node) (k : Node) (a b c : List Mark) (m n s : Mark)
    → IsLooked set ks a b m → IsLooked set (k ∷ []) b c n → s.outs ≡ (m.outs && n.outs) → s.ins ≡ (m.ins && n.ins)
    → (m.count + n.count < 2 ^ 64 → s.count ≡ m.count + n.count) → IsLooked set (ks ++ k ∷ []) a c s
looked_more set ks k a b c m n s f g outs ins count = record {
  mark = λ r h. let u = f.mark r (first h) in let v = g.mark r (last h) in record {
    outs = outs ∙ ap₂ (λ x y. x && y) u.outs v.outs ∙ sym (list_all-append (has_all (outside set)) ks (k ∷ []));
    ins = ins ∙ ap₂ (λ x y. x && y) u.ins v.ins ∙ sym (list_all-append (has_all (inside set)) ks (k ∷ []));
    count = let e : m.count + n.count ≡ count_all (inside set) (ks ++ k ∷ []) = ap₂ (λ x y. x + y) u.count v.count ∙ sym sum in
        count (subst (λ z. z < 2 ^ 64) (sym e) h) ∙ e;
  };
  marks = λ r h rest x. subst (λ z. AreMarks (outside set) (inside set) (z ++ rest) c) (sym (reverse-append ks (k ∷ [])))
      (g.marks r (last h) (reverse ks ++ rest) (f.marks r (first h) rest x));
  behind = (f.behind.0 ++ g.behind.0, g.behind.1 ∙ ap (λ z. z ++ g.behind.0) f.behind.1 ∙ append_assoc a f.behind.0 g.behind.0);
}
  where
    sum : count_all (inside set) (ks ++ k ∷ []) ≡ count_all (inside set) ks + count_all (inside set) (k ∷ [])
    sum = count_push (inside set) ks k ∙ ap (λ z. count_all (inside set) ks + z) (sym (count_one (inside set) k))

    first : count_all (inside set) (ks ++ k ∷ []) < 2 ^ 64 → count_all (inside set) ks < 2 ^ 64
    first = below_left _ (count_all (inside set) (k ∷ [])) _ (2 ^ 64) sum

    last : count_all (inside set) (ks ++ k ∷ []) < 2 ^ 64 → count_all (inside set) (k ∷ []) < 2 ^ 64
    last = below_right (count_all (inside set) ks) _ _ (2 ^ 64) sum

module _ (set : List ℕ) (label : Label) (ks : List Node) (old new : List Mark) (m : Mark) (l : IsLooked set ks old new m) where
  low : count_all (inside set) (node_of label ks ∷ []) < 2 ^ 64 → count_all (inside set) ks < 2 ^ 64
  low = subst (λ z. z < 2 ^ 64) (count_inner (inside set) label ks)

  -- an inner node that is outside or inside as a whole has its own mark alone
  pub looked_whole : m.outs ≡ not m.ins → IsLooked set (node_of label ks ∷ []) old (old ++ m ∷ []) m
  looked_whole e = record {
    mark = λ r c. mark_inner (outside set) (inside set) label ks m (l.mark r (low c));
    marks = λ r c rest a. whole label ks rest old m (l.mark r (low c)) e a;
    behind = (m ∷ [], refl);
  }

  -- any other has it behind those of its kids
  pub looked_parted : m.outs ≡ m.ins → IsLooked set (node_of label ks ∷ []) old (new ++ m ∷ []) m
  looked_parted e = record {
    mark = λ r c. mark_inner (outside set) (inside set) label ks m (l.mark r (low c));
    marks = λ r c rest a. parted label ks rest new m (l.mark r (low c)) e (l.marks r (low c) rest a);
    behind = (l.behind.0 ++ m ∷ [], ap (λ z. z ++ m ∷ []) l.behind.1 ∙ append_assoc old l.behind.0 (m ∷ []));
  }

  -- the marks before a row are the first of those behind it
  pub looked_first : (start : ℕ) → start ≡ length old → take start new ≡ old
  looked_first start e = ap₂ take e l.behind.1 ∙ take-append_seam old l.behind.0

-- the marks that stay where the last one is taken away
pub popped_first : (count : ℕ) (old new : List Mark) (r : Option Mark)
    → MatchOption r ((old ≡ []) × (new ≡ [])) (λ m. old ≡ new ++ m ∷ []) → count < length old
    → (take count old ≡ take count new) × (length new < length old)
popped_first count old new None h lt = let e = ap length h.0 in absurd (omega (arith, e, lt))
popped_first count old new (Some m) h lt =
    let e = ap length h ∙ length-append new (m ∷ []) in
    (ap (take count) h ∙ take-append-le count new (m ∷ []) (omega (arith, e, lt)), omega (arith, e))

-- no marks are those before one more
none_more : (ms : List Mark) (m : Mark) → [] ≡ ms ++ m ∷ [] → ⊥
none_more [] m e = cc
none_more (x ∷ ms) m e = cc

-- equal marks with one more have the same first ones and the same last one
pub same_last : (xs ys : List Mark) (x y : Mark) → xs ++ x ∷ [] ≡ ys ++ y ∷ [] → (xs ≡ ys) × (x ≡ y)
same_last [] [] x y e = (refl, cc)
same_last [] (b ∷ ys) x y e = let f : [] ≡ ys ++ y ∷ [] = cc in absurd (none_more ys y f)
same_last (a ∷ xs) [] x y e = let f : [] ≡ xs ++ x ∷ [] = cc in absurd (none_more xs x f)
same_last (a ∷ xs) (b ∷ ys) x y e =
    let f : xs ++ x ∷ [] ≡ ys ++ y ∷ [] = cc in let g : a ≡ b = cc in
    let s = same_last xs ys x y f in (ap₂ (λ u v. u ∷ v) g s.0, s.1)

-- an inner node is no leaf
inner_Leaf : (label : Label) (js : List Node) (x : ℕ) → node_of label js ≡ Leaf x → ⊥
inner_Leaf (Label.P o) js x e = Leaf_P x o js (sym e)
inner_Leaf (Label.Q v) js x e = Leaf_Q x v js (sym e)

-- equal inner nodes have the same kids
inner_kids : (a b : Label) (ks js : List Node) → node_of a ks ≡ node_of b js → ks ≡ js
inner_kids (Label.P a) (Label.P b) ks js e = (P_P a b ks js e).1
inner_kids (Label.P a) (Label.Q b) ks js e = absurd (P_Q a b ks js e)
inner_kids (Label.Q a) (Label.P b) ks js e = absurd (P_Q b a js ks (sym e))
inner_kids (Label.Q a) (Label.Q b) ks js e = (Q_Q a b ks js e).1

-- the one and not the other
one_side : (a b : Bool) → (a && not b) ≡ true → (a ≡ true) × (b ≡ false)
one_side true true e = absurd (false≢true e)
one_side true false e = (refl, refl)
one_side false b e = absurd (false≢true e)

-- what the last mark of a stack says of the inner node that is first
abbrev pub IsFirstMark : (ℕ → Bool) → (ℕ → Bool) → List Node → List Node → List Mark → Mark → Type 0
IsFirstMark q p js rest before m = IsMark q p js m × (((m.outs ≡ not m.ins) × AreMarks q p rest before)
    ⊎ ((m.outs ≡ m.ins) × AreMarks q p (reverse js ++ rest) before))

module _ (q p : ℕ → Bool) where
  -- a leaf has no mark
  pub marks_Leaf : (ns : List Node) (ms : List Mark) → AreMarks q p ns ms → (x : ℕ) (rest : List Node)
      → ns ≡ Leaf x ∷ rest → AreMarks q p rest ms
  marks_Leaf _ _ none x rest e = absurd (let f : ⊥ = cc in f)
  marks_Leaf _ _ (leaf y ks ms a) x rest e = let f : ks ≡ rest = cc in subst (λ z. AreMarks q p z ms) f a
  marks_Leaf _ _ (whole label js ks ms m i w a) x rest e =
      let f : node_of label js ≡ Leaf x = cc in absurd (inner_Leaf label js x f)
  marks_Leaf _ _ (parted label js ks ms m i w a) x rest e =
      let f : node_of label js ≡ Leaf x = cc in absurd (inner_Leaf label js x f)

  -- an inner node has the last mark
  marks_inner : (ns : List Node) (ms : List Mark) → AreMarks q p ns ms → (label : Label) (js rest : List Node)
      → ns ≡ node_of label js ∷ rest
      → (before : List Mark) × (m : Mark) × (ms ≡ before ++ m ∷ []) × IsFirstMark q p js rest before m
  marks_inner _ _ none label js rest e = absurd (let f : ⊥ = cc in f)
  marks_inner _ _ (leaf y ks ms a) label js rest e =
      let f : Leaf y ≡ node_of label js = cc in absurd (inner_Leaf label js y (sym f))
  marks_inner _ _ (whole l is ks ms m i w a) label js rest e =
      let f : node_of l is ≡ node_of label js = cc in let g : ks ≡ rest = cc in
      let h = inner_kids l label is js f in
      (ms, m, refl, (subst (λ z. IsMark q p z m) h i, inl (w, subst (λ z. AreMarks q p z ms) g a)))
  marks_inner _ _ (parted l is ks ms m i w a) label js rest e =
      let f : node_of l is ≡ node_of label js = cc in let g : ks ≡ rest = cc in
      let h = inner_kids l label is js f in
      (ms, m, refl, (subst (λ z. IsMark q p z m) h i, inr (w, subst (λ z. AreMarks q p z ms) (ap₂ (λ x y. reverse x ++ y) h g) a)))

  -- what the mark says that was taken from the stack
  pub marks_taken : (label : Label) (js rest : List Node) (ms before : List Mark) (m : Mark)
      → AreMarks q p (node_of label js ∷ rest) ms
      → ((b : List Mark) (n : Mark) → ms ≡ b ++ n ∷ [] → (m ≡ n) × (before ≡ b)) → IsFirstMark q p js rest before m
  marks_taken label js rest ms before m a taken =
      let f = marks_inner (node_of label js ∷ rest) ms a label js rest refl in
      let t = taken f.0 f.1 f.2 in
      subst (IsFirstMark q p js rest before) (sym t.0) (subst (λ z. IsFirstMark q p js rest z f.1) (sym t.1) f.3)

  -- a mark that says outside and not inside is of a node that is outside as a whole
  pub marks_out : (js rest : List Node) (before : List Mark) (m : Mark) → (m.outs && not m.ins) ≡ true
      → IsFirstMark q p js rest before m → (m.outs ≡ true) × (m.ins ≡ false) × AreMarks q p rest before
  marks_out js rest before m o f =
      let h = one_side m.outs m.ins o in
      (h.0, h.1, ⊎_elim (λ w. w.1) (λ w. absurd (true≢false (sym h.0 ∙ w.0 ∙ h.1))) f.1)

  -- and one that says inside and not outside is of a node that is inside as a whole
  pub marks_in : (js rest : List Node) (before : List Mark) (m : Mark) → (m.ins && not m.outs) ≡ true
      → IsFirstMark q p js rest before m → (m.outs ≡ false) × (m.ins ≡ true) × AreMarks q p rest before
  marks_in js rest before m o f =
      let h = one_side m.ins m.outs o in
      (h.1, h.0, ⊎_elim (λ w. w.1) (λ w. absurd (true≢false (sym h.0 ∙ sym w.0 ∙ h.1))) f.1)

  -- a mark that says both or neither is of another
  pub marks_parted : (js rest : List Node) (before : List Mark) (m : Mark) → (m.outs && not m.ins) ≡ false
      → (m.ins && not m.outs) ≡ false → IsFirstMark q p js rest before m → AreMarks q p (reverse js ++ rest) before
  marks_parted js rest before m o i f =
      ⊎_elim (λ h. absurd (apart m.outs m.ins o i h.0)) (λ h. h.1) f.1
    where
      apart : (a b : Bool) → (a && not b) ≡ false → (b && not a) ≡ false → a ≡ not b → ⊥
      apart true true o i e = true≢false e
      apart true false o i e = true≢false o
      apart false true o i e = true≢false i
      apart false false o i e = false≢true e
