-- The walks outward from the two ends of an edge, counted, and places in two lists, of which the second
-- is read from its end.
use Rattle.std.proofs.Common.{◌≡◌, ℕ, suc, ◌+◌, ◌-◌, ◌<◌, ◌≤◌, List, [], ◌∷◌, ◌++◌, length, slice_index, sym, refl, ap, ap₂, ◌∙◌, arith, length-append}
use Rattle.std.specs.Prelude.{◌==◌, reverse}
use Rattle.std.specs.List.{position_or_len}
use Rattle.std.proofs.lemmas.List.{get_or-reverse, length-reverse, get_or_append_left, get_or-append-add, get_or_at}
use Rattle.cp_lists.proofs.ExactLists.{EachOnce, place_is}
use Rattle.cp_cgraph.specs.Clustered.{Clustered, IsClustered, clusters, source, target, home, parent}
use Rattle.cp_cgraph.specs.Crossings.{crossings}
use Rattle.cp_cgraph.proofs.Ancestors.{IsLower-clustered}
use Rattle.cp_cgraph.proofs.Crossing.{IsBetween, IsBetween-start, IsBetween-left, IsBetween-entered, IsBetween-end}

-- the walks stand at outer and inner, and have left so many clusters
pub record HasCounted (g : Clustered) (e outer inner left entered : ℕ) : Type 0 where
  pub left_list : List ℕ
  pub entered_list : List ℕ
  pub between : IsBetween g e outer inner left_list entered_list
  pub left_length : length left_list ≡ left
  pub entered_length : length entered_list ≡ entered
  pub fallen : left + entered + outer + inner ≤ home g (source g e) + home g (target g e)

-- at the two homes nothing is counted yet
pub HasCounted-start : (g : Clustered) (e : ℕ) → home g (source g e) < clusters g → home g (target g e) < clusters g
    → HasCounted g e (home g (source g e)) (home g (target g e)) 0 0
HasCounted-start g e s t = record {
  left_list = [];
  entered_list = [];
  between = IsBetween-start g e s t;
  left_length =
      refl;
  entered_length = refl;
  fallen = omega arith;
}

-- one more cluster is left
pub HasCounted-left : (g : Clustered) → IsClustered g → (e outer inner left entered : ℕ)
    → HasCounted g e outer inner left entered → inner < outer → HasCounted g e (parent g outer) inner (left + 1) entered
HasCounted-left g is e outer inner left entered so lt =
    let less : parent g outer < outer = (IsLower-clustered g is).lower outer (omega arith) in
    record {
      left_list = so.left_list ++ outer ∷ [];
      entered_list = so.entered_list;
      between = IsBetween-left g is e outer inner so.left_list so.entered_list so.between lt;
      left_length = length-append so.left_list (outer ∷ []) ∙ ap (λ (n : ℕ). n + 1) so.left_length;
      entered_length = so.entered_length;
      fallen = omega (arith, so.fallen);
    }

-- one more cluster is entered
pub HasCounted-entered : (g : Clustered) → IsClustered g → (e outer inner left entered : ℕ)
    → HasCounted g e outer inner left entered → outer < inner → HasCounted g e outer (parent g inner) left (entered + 1)
HasCounted-entered g is e outer inner left entered so lt =
    let less : parent g inner < inner = (IsLower-clustered g is).lower inner (omega arith) in
    record {
      left_list = so.left_list;
      entered_list = so.entered_list ++ inner ∷ [];
      between = IsBetween-entered g is e outer inner so.left_list so.entered_list so.between lt;
      left_length = so.left_length;
      entered_length = length-append so.entered_list (inner ∷ []) ∙ ap (λ (n : ℕ). n + 1) so.entered_length;
      fallen = omega (arith, so.fallen);
    }

-- where the walks meet, the borders are counted
pub HasCounted-end : (g : Clustered) → IsClustered g → (e outer inner left entered : ℕ)
    → HasCounted g e outer inner left entered → outer ≡ inner → left + entered ≡ length (crossings g e)
HasCounted-end g is e outer inner left entered so met =
    ap₂ (λ (a b : ℕ). a + b) (sym so.left_length) (sym so.entered_length ∙ sym (length-reverse so.entered_list))
    ∙ sym (length-append so.left_list (reverse so.entered_list))
    ∙ ap length (IsBetween-end g is e outer inner so.left_list so.entered_list so.between met)

-- the place of an item of the first list, in that list and another
pub place_front : (xs ys front rest : List ℕ) (x k : ℕ) → EachOnce (xs ++ ys) → xs ≡ front ++ x ∷ rest
    → length front ≡ k → position_or_len (λ y. y == x) (xs ++ ys) ≡ k
place_front xs ys front rest x k once split long =
    let size : length xs ≡ length front + suc (length rest) = ap length split ∙ length-append front (x ∷ rest) in
    let stands : slice_index (xs ++ ys) k ≡ x = get_or_append_left xs ys 0 k (omega arith)
    ∙ ap (λ (zs : List ℕ). slice_index zs k) split ∙ get_or_at front x rest 0 k long in
    place_is (xs ++ ys) k x once (omega (arith, length-append xs ys)) stands

-- the place of an item of the second list, behind the first and read from its end
pub place_back : (xs ys front rest : List ℕ) (x k : ℕ) → EachOnce (xs ++ reverse ys) → ys ≡ front ++ x ∷ rest
    → length front ≡ k → (k < length (xs ++ reverse ys))
    × (position_or_len (λ y. y == x) (xs ++ reverse ys) ≡ length (xs ++ reverse ys) - 1 - k)
place_back xs ys front rest x k once split long =
    let size : length ys ≡ length front + suc (length rest) = ap length split ∙ length-append front (x ∷ rest) in
    let whole : length (xs ++ reverse ys) ≡ length xs + length ys = length-append xs (reverse ys)
    ∙ ap (λ (n : ℕ). length xs + n) (length-reverse ys) in
    let stands : slice_index (xs ++ reverse ys) (length (xs ++ reverse ys) - 1 - k) ≡ x =
    ap (slice_index (xs ++ reverse ys)) (let e : length (xs ++ reverse ys) - 1 - k ≡ length xs + (length ys - 1 - k) =
    omega arith in e)
    ∙ get_or-append-add xs (reverse ys) (length ys - 1 - k) 0
    ∙ get_or-reverse ys (length ys - 1 - k) 0 (omega arith)
    ∙ ap (slice_index ys) (let e : length ys - 1 - (length ys - 1 - k) ≡ k = omega arith in e)
    ∙ ap (λ (zs : List ℕ). slice_index zs k) split ∙ get_or_at front x rest 0 k long in
    (omega arith, place_is (xs ++ reverse ys) (length (xs ++ reverse ys) - 1 - k) x once (omega arith) stands)
