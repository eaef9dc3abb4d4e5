-- A change at a place is a change of the whole.
use Rattle.std.proofs.Common.{◌≡◌, ℕ, ◌≤◌, Bool, true, List, [], ◌∷◌, ◌++◌, length, length-append, reverse, refl, sym, ap, ◌∙◌, subst, subst₂, ⊎_elim, append_assoc, arith, IsPermutation}
use Rattle.std.specs.List.{list_all}
use Rattle.std.proofs.lemmas.Bool.{and_parts, and_from}
use Rattle.std.proofs.lemmas.List.{reverse-append}
use Rattle.std.proofs.lemmas.List.Folds.{list_all-append}
use Rattle.std.proofs.lemmas.List.Sorted.{IsPermutation-sym, IsPermutation-trans, IsPermutation-middle, IsPermutation-append_comm, IsPermutation-reverse}
use Rattle.cp_pq.specs.declared.node.Node.{Node}
use Rattle.cp_pq.specs.declared.node.Node.TheVariants.{P, Q}
use Rattle.cp_pq.specs.declared.frame.Label.{Label}
use Rattle.cp_pq.specs.declared.frame.Frame.{Frame}
use Rattle.cp_pq.specs.Readings.{ReadsAll, any_order}
use Rattle.cp_pq.specs.Nodes.{leaves}
use Rattle.cp_pq.specs.Words.{Opposite, together, has_all, IsNever}
use Rattle.cp_pq.specs.Changes.{IsDone}
use Rattle.cp_pq.specs.Keeping.{Keeps}
use Rattle.cp_pq.specs.Frames.{node_of, fill, AreOutside}
use Rattle.cp_pq.proofs.NodeLayers.{all_leaves_one}
use Rattle.cp_pq.proofs.Permutations.{list_all-IsPermutation}
use Rattle.cp_pq.proofs.WordLaws.{together_front, together_end}
use Rattle.cp_pq.proofs.ReadingLaws.{ReadsAll_one, one_ReadsAll, ReadsAll_cut, ReadsAll_cons, Reads_P, Reads_Q}
use Rattle.cp_pq.proofs.Rows.{class_row}
use Rattle.cp_pq.proofs.Tops.{Q_frame, P_frame, find_in}
use Rattle.cp_pq.proofs.FittingSides.{Fits_frame}
use Rattle.cp_pq.proofs.KeepingLaws.{Keeps_refl, Keeps_append, Keeps_P, Keeps_Q}

module _ (q p : ℕ → Bool) (opp : Opposite q p) where
  -- one frame
  P_around : (old : Bool) (y : ℕ) (L : (ℕ → Bool → Bool) → Type 0) (o : ℕ) (a b : List Node) (k m : Node)
      → list_all (has_all q) a ≡ true → list_all (has_all q) b ≡ true → IsDone q p old y L k m
      → IsDone q p old y L (P o (a ++ k ∷ b)) (P o (a ++ m ∷ b))
  P_around old y L o a b k m ea eb d = record {
    to = λ may xs r t. let g = frame.to may xs r t in
        (g.0, g.1, g.2, λ wide w h. let f = Reads_P wide o ((a ++ b) ++ m ∷ []) xs (g.3 wide w h) in any_order o (a ++ m ∷ b) f.0 xs (IsPermutation-trans _ _ _ (ends m) f.1) f.2);
    fro = λ may xs r tie. let f = Reads_P may o (a ++ m ∷ b) xs r in frame.fro may xs (any_order o ((a ++ b) ++ m ∷ []) f.0 xs (IsPermutation-trans _ _ _ (IsPermutation-sym _ _ (ends m)) f.1) f.2) tie;
  }
    where
      ends : (n : Node) → IsPermutation (a ++ n ∷ b) ((a ++ b) ++ n ∷ [])
      ends n = IsPermutation-trans _ _ _ (IsPermutation-middle a n b) (IsPermutation-append_comm (n ∷ []) (a ++ b))

      frame : IsDone q p old y L (P o (a ++ k ∷ b)) (P o ((a ++ b) ++ m ∷ []))
      frame = P_frame q p opp old y L o (a ++ k ∷ b) (a ++ b) k m (ends k) (list_all-append (has_all q) a b ∙ and_from _ _ ea eb) d

  -- an inner node with kids outside round one kid changes as this kid does
  done_around : (old : Bool) (y : ℕ) (L : (ℕ → Bool → Bool) → Type 0) (label : Label) (a b : List Node) (k m : Node)
      → list_all (has_all q) a ≡ true → list_all (has_all q) b ≡ true → IsDone q p old y L k m
      → IsDone q p old y L (node_of label (a ++ k ∷ b)) (node_of label (a ++ m ∷ b))
  done_around old y L (Label.P o) a b k m ea eb d = P_around old y L o a b k m ea eb d
  done_around old y L (Label.Q v) a b k m ea eb d = Q_frame q p opp old y L v a b k m ea eb d

  -- all frames
  pub done_filled : (old : Bool) (y : ℕ) (L : (ℕ → Bool → Bool) → Type 0) (fs : List Frame) (k m n j : Node)
      → AreOutside q fs → n ∷ [] ≡ fill fs (k ∷ []) → j ∷ [] ≡ fill fs (m ∷ []) → IsDone q p old y L k m
      → IsDone q p old y L n j
  done_filled old y L [] k m n j out e1 e2 d = let a : n ≡ k = cc in let b : j ≡ m = cc in subst₂ (IsDone q p old y L) (sym a) (sym b) d
  done_filled old y L (f ∷ fs) k m n j out e1 e2 d =
      done_filled old y L fs (node_of f.label (f.before ++ k ∷ f.after)) (node_of f.label (f.before ++ m ∷ f.after)) n j out.2 e1 e2 (done_around old y L f.label f.before f.after k m out.0 out.1 d)

  -- what a kid refuses, its row refuses
  row_never : (a b : List Node) (k : Node) → list_all (has_all q) a ≡ true → list_all (has_all q) b ≡ true
      → IsNever (together q p) (k ∷ []) → IsNever (together q p) (a ++ k ∷ b)
  row_never a b k ea eb never may xs r t =
      let c = ReadsAll_cut may a (k ∷ b) xs r in
      let e = ReadsAll_cons may k b c.1 c.4 in
      let whole : together q p (c.0 ++ (e.0 ++ e.1)) ≡ true = ap (λ z. together q p (c.0 ++ z)) (sym e.2) ∙ ap (together q p) (sym c.2) ∙ t in
      never may e.0 (one_ReadsAll may k e.0 e.3) (together_end q p opp e.0 e.1 (class_row q may b e.1 e.4 ∙ eb) (sym (together_front q p c.0 (e.0 ++ e.1) (class_row q may a c.0 c.3 ∙ ea)) ∙ whole))

  -- where the set is never together in this kid, it is never in the inner node
  never_around : (label : Label) (a b : List Node) (k : Node) → list_all (has_all q) a ≡ true
      → list_all (has_all q) b ≡ true → IsNever (together q p) (k ∷ [])
      → IsNever (together q p) (node_of label (a ++ k ∷ b) ∷ [])
  never_around (Label.P o) a b k ea eb never may xs r t =
      let s = Reads_P may o (a ++ k ∷ b) xs (ReadsAll_one may (P o (a ++ k ∷ b)) xs r) in
      let f = find_in (a ++ k ∷ b) s.0 s.1 k a b refl in
      let sides = and_parts (list_all (has_all q) f.before) (list_all (has_all q) f.after) (sym (list_all-append (has_all q) f.before f.after) ∙ sym (list_all-IsPermutation (has_all q) (a ++ b) (f.before ++ f.after) f.rest) ∙ list_all-append (has_all q) a b ∙ and_from (list_all (has_all q) a) (list_all (has_all q) b) ea eb) in
      row_never f.before f.after k sides.0 sides.1 never may xs (subst (λ z. ReadsAll may z xs) f.is s.2) t
  never_around (Label.Q v) a b k ea eb never may xs r t =
      ⊎_elim
      (λ h. row_never a b k ea eb never may xs h.1 t)
      (λ h. row_never (reverse b) (reverse a) k (back b ∙ eb) (back a ∙ ea) never may xs (subst (λ z. ReadsAll may z xs) turn h.1) t)
      (Reads_Q may v (a ++ k ∷ b) xs (ReadsAll_one may (Q v (a ++ k ∷ b)) xs r))
    where
      back : (ks : List Node) → list_all (has_all q) (reverse ks) ≡ list_all (has_all q) ks
      back ks = sym (list_all-IsPermutation (has_all q) ks (reverse ks) (IsPermutation-reverse ks))

      turn : reverse (a ++ k ∷ b) ≡ reverse b ++ k ∷ reverse a
      turn = reverse-append a (k ∷ b) ∙ ap (λ z. z ++ reverse a) (reverse-append (k ∷ []) b) ∙ append_assoc (reverse b) (k ∷ []) (reverse a)

  -- and never in the whole round the place
  pub never_filled : (fs : List Frame) (k n : Node) → AreOutside q fs → n ∷ [] ≡ fill fs (k ∷ [])
      → IsNever (together q p) (k ∷ []) → IsNever (together q p) (n ∷ [])
  never_filled [] k n out e never = subst (IsNever (together q p)) (sym e) never
  never_filled (f ∷ fs) k n out e never = never_filled fs (node_of f.label (f.before ++ k ∷ f.after)) n out.2 e (never_around f.label f.before f.after k out.0 out.1 never)

-- what the node keeps, the whole keeps
module _ (V : ℕ → Type 0) where
  -- an inner node keeps what its one changed kid keeps
  keeps_around : (label : Label) (a b : List Node) (k m : Node) → Keeps V (k ∷ []) (m ∷ [])
      → Keeps V (node_of label (a ++ k ∷ b) ∷ []) (node_of label (a ++ m ∷ b) ∷ [])
  keeps_around label a b k m h = go label
    where
      kids : Keeps V (a ++ k ∷ b) (a ++ m ∷ b)
      kids = Keeps_append V a a (k ∷ b) (m ∷ b) (Keeps_refl V a) (Keeps_append V (k ∷ []) (m ∷ []) b b h (Keeps_refl V b))

      same : IsPermutation (leaves k) (leaves m)
      same = subst₂ IsPermutation (all_leaves_one k) (all_leaves_one m) h.leaves_kept

      long : 2 ≤ length (a ++ k ∷ b) → 2 ≤ length (a ++ m ∷ b)
      long two = let x = length-append a (k ∷ b) in let z = length-append a (m ∷ b) in omega (arith, x, z, two)

      go : (l : Label) → Keeps V (node_of l (a ++ k ∷ b) ∷ []) (node_of l (a ++ m ∷ b) ∷ [])
      go (Label.P o) = Keeps_P V o (a ++ k ∷ b) (a ++ m ∷ b) kids (λ d. Fits_frame a b k m same) long
      go (Label.Q v) = Keeps_Q V v (a ++ k ∷ b) (a ++ m ∷ b) kids long

  -- and so does the whole round the place
  pub keeps_filled : (fs : List Frame) (k m : Node) → Keeps V (k ∷ []) (m ∷ [])
      → Keeps V (fill fs (k ∷ [])) (fill fs (m ∷ []))
  keeps_filled [] k m h = h
  keeps_filled (f ∷ fs) k m h = keeps_filled fs (node_of f.label (f.before ++ k ∷ f.after)) (node_of f.label (f.before ++ m ∷ f.after)) (keeps_around f.label f.before f.after k m h)
