-- Branches, each flat with its poles made one vertex, put between two poles in the order in which they are given.
use Rattle.std.proofs.Common.{◌≡◌, ℕ, ◌*◌, Bool, true, false, List, [], ◌∷◌, ◌++◌, ◌⊎◌, append_assoc, append-nil, sym, ◌∙◌, subst, inl, inr, ⊎_elim}
use Rattle.std.proofs.lemmas.Bool.{false≢true}
use Rattle.cp_lists.specs.CyclicLists.{Distinct, Has}
use Rattle.cp_lists.specs.Rows.{flat}
use Rattle.cp_lists.specs.Turns.{IsTurn}
use Rattle.cp_lists.proofs.DistinctLists.{Distinct-append, Distinct-append_right, Distinct-apart, Has-append_cases, Has-append_left, Has-append_right, Lacks-from, has_cases, has_lacks}
use Rattle.cp_lists.proofs.FlatLists.{flat-append}
use Rattle.cp_lists.proofs.TurnedLists.{turn_parts}
use Rattle.cp_faces.specs.Twins.{twin}
use Rattle.cp_faces.proofs.Twins.{twin-twin}
use Rattle.cp_maps.specs.Genus.{Apart, Becomes, CanBeFlat, IsFlat}
use Rattle.cp_maps.specs.Maps.{Below, IsMapOf, has, next_by, swapped}
use Rattle.cp_maps.proofs.DividedMaps.{divided-IsFlat}
use Rattle.cp_maps.proofs.Genus.{SameGenus-IsFlat}
use Rattle.cp_maps.proofs.GluedVertices.{concatenated-Becomes}
use Rattle.cp_maps.proofs.Growth.{Evenly-append, Evenly-same}
use Rattle.cp_maps.proofs.ListFacts.{Below-from, below_item, has_no, has_yes}
use Rattle.cp_maps.proofs.MapLists.{IsMapOf-bare, IsMapOf-by, IsMapOf-front, IsMapOf-split, IsMapOf-swap, IsMapOf-turn}
use Rattle.cp_maps.proofs.MergedVertices.{split_list-IsFlat}
use Rattle.cp_maps.proofs.Parts.{Evenly-two_parts}
use Rattle.cp_mergelaw.specs.Branches.{Branch, EachBranch, HasTwins, IsBranchOf, all_darts, closed_lists, heads, inners, tails}
use Rattle.cp_mergelaw.proofs.ClosedBranches.{closed_branch-CanBeFlat}

-- a list of lists that can be flat made two
pub parted-CanBeFlat : (e : ℕ) (xs ys : List ℕ) (rows : List (List ℕ)) → CanBeFlat e ((xs ++ ys) ∷ rows)
    → CanBeFlat e (xs ∷ ys ∷ rows)
parted-CanBeFlat e [] ys rows can = (can.0, IsMapOf-bare (2 * e) can.0 (ys ∷ rows) can.1, can.2)
parted-CanBeFlat e (x ∷ xs) [] rows can =
    let whole : IsMapOf (2 * e) can.0 ((x ∷ xs) ∷ rows) =
    subst (λ us. IsMapOf (2 * e) can.0 (us ∷ rows)) (append-nil (x ∷ xs)) can.1 in (
      can.0,
      IsMapOf-swap (2 * e) can.0 [] (x ∷ xs) rows (IsMapOf-bare (2 * e) can.0 ((x ∷ xs) ∷ rows) whole),
      can.2,
    )
parted-CanBeFlat e (x ∷ xs) (y ∷ ys) rows can =
    let is : IsMapOf (2 * e) (swapped x y can.0) ((x ∷ xs) ∷ (y ∷ ys) ∷ rows) =
    IsMapOf-split (2 * e) can.0 x y xs ys rows can.1 in (
      swapped x y can.0,
      is,
      split_list-IsFlat e can.0 (swapped x y can.0) x y xs ys rows can.1 is can.2,
    )

-- lists that can be flat and whose darts a test tells apart
module _ (e : ℕ) (p : ℕ → Bool) (rows others : List (List ℕ)) (twins : (d : ℕ) → p (twin d) ≡ p d)
    (first : (d : ℕ) → Has d (flat rows) → p d ≡ true) (second : (d : ℕ) → Has d (flat others) → p d ≡ false) where
  -- both
  abbrev both : List (List ℕ)
  both = rows ++ others

  -- they can be flat together
  pub united-CanBeFlat : CanBeFlat e rows → CanBeFlat e others → CanBeFlat e (rows ++ others)
  united-CanBeFlat one two =
      let dis : Distinct (flat rows ++ flat others) =
      Distinct-append (flat rows) (flat others) one.1.once two.1.once
      (λ d h. Lacks-from d (flat others) (λ k. false≢true (sym (second d k) ∙ first d h))) in
      let below : Below (2 * e) (flat both) = Below-from (2 * e) (flat both) (λ d h. ⊎_elim
      (λ k. below_item (2 * e) d (flat rows) one.1.below k)
      (λ k. below_item (2 * e) d (flat others) two.1.below k)
      (Has-append_cases d (flat rows) (flat others) (subst (Has d) (flat-append rows others) h))) in
      let is : IsMapOf (2 * e) (next_by both) both =
      IsMapOf-by (2 * e) both (subst Distinct (sym (flat-append rows others)) dis) below in (
        next_by both,
        is,
        (divided-IsFlat e (next_by both) one.0 two.0 rows others p is one.1 two.1 (λ d lt. twins d) first second).1
            (one.2, two.2),
      )

  -- and no dart of the first is then of a component of one of the others
  united-Apart : (f : ℕ → ℕ) (xs ys : List ℕ) → IsMapOf (2 * e) f (rows ++ others)
      → ((d : ℕ) → Has d xs → Has d (flat rows)) → ((d : ℕ) → Has d ys → Has d (flat others)) → Apart e f xs ys
  united-Apart f xs ys is in_rows in_others c d hc hd =
      Evenly-two_parts e f both p c d is
      (Evenly-append p rows others (Evenly-same p true rows first) (Evenly-same p false others second))
      (λ y lt. sym (twins y))
      (λ same. false≢true (sym (second d (in_others d hd)) ∙ sym same ∙ first c (in_rows c hc)))

-- a branch more, with the poles made one vertex
branch_added-CanBeFlat : (e : ℕ) (p : ℕ → Bool) (b : Branch) (hs ts : List ℕ) (rows : List (List ℕ))
    → ((d : ℕ) → p (twin d) ≡ p d) → ((d : ℕ) → Has d (flat (closed_lists b)) → p d ≡ true)
    → ((d : ℕ) → Has d (flat ((hs ++ ts) ∷ rows)) → p d ≡ false) → CanBeFlat e (closed_lists b)
    → CanBeFlat e ((hs ++ ts) ∷ rows) → CanBeFlat e (((b.head ∷ hs) ++ (ts ++ b.tail)) ∷ (b.inner ++ rows))
branch_added-CanBeFlat e p b hs ts rows twins first second one two =
    let mine : List ℕ = b.tail ++ b.head ∷ [] in
    let lists : List (List ℕ) = b.inner ++ rows in
    let both : CanBeFlat e ((mine ∷ b.inner) ++ (hs ++ ts) ∷ rows) =
    united-CanBeFlat e p (mine ∷ b.inner) ((hs ++ ts) ∷ rows) twins first second one two in
    let is : IsMapOf (2 * e) both.0 (mine ∷ (hs ++ ts) ∷ lists) =
    IsMapOf-swap (2 * e) both.0 (hs ++ ts) mine lists
    (IsMapOf-front (2 * e) both.0 (hs ++ ts) (mine ∷ b.inner) rows both.1) in
    let last : Becomes e both.0 ((mine ++ (hs ++ ts)) ∷ lists) =
    concatenated-Becomes e both.0 mine (hs ++ ts) lists is
    (united-Apart e p (mine ∷ b.inner) ((hs ++ ts) ∷ rows) twins first second both.0 mine (hs ++ ts) both.1
    (λ d h. Has-append_left d mine (flat b.inner) h) (λ d h. Has-append_left d (hs ++ ts) (flat rows) h)) in
    let turn : IsTurn (mine ++ (hs ++ ts)) ((b.head ∷ hs) ++ (ts ++ b.tail)) =
    subst (λ us. IsTurn us ((b.head ∷ hs) ++ (ts ++ b.tail))) (sym (append_assoc b.tail (b.head ∷ []) (hs ++ ts)))
    (subst (λ us. IsTurn (b.tail ++ b.head ∷ (hs ++ ts)) (b.head ∷ us)) (append_assoc hs ts b.tail)
    (turn_parts b.tail (b.head ∷ (hs ++ ts)))) in (
      last.0,
      IsMapOf-turn (2 * e) last.0 (mine ++ (hs ++ ts)) ((b.head ∷ hs) ++ (ts ++ b.tail)) lists turn last.1,
      SameGenus-IsFlat e both.0 last.0 last.2 both.2,
    )

-- a dart of the branches put together is one of the first branch or of the others put together
joined_dart_cases : (d : ℕ) (b : Branch) (hs ts : List ℕ) (rows : List (List ℕ))
    → Has d (flat (((b.head ∷ hs) ++ (ts ++ b.tail)) ∷ (b.inner ++ rows)))
    → Has d (flat (closed_lists b)) ⊎ Has d (flat ((hs ++ ts) ∷ rows))
joined_dart_cases d b hs ts rows h = ⊎_elim
    (λ k. ⊎_elim
    (λ s. inl (Has-append_left d mine (flat b.inner) (Has-append_right d b.tail (b.head ∷ []) (inl s))))
    (λ l. ⊎_elim
    (λ q. inr (Has-append_left d (hs ++ ts) (flat rows) (Has-append_left d hs ts q)))
    (λ q. ⊎_elim
    (λ r. inr (Has-append_left d (hs ++ ts) (flat rows) (Has-append_right d hs ts r)))
    (λ r. inl (Has-append_left d mine (flat b.inner) (Has-append_left d b.tail (b.head ∷ []) r)))
    (Has-append_cases d ts b.tail q))
    (Has-append_cases d hs (ts ++ b.tail) l))
    k)
    (λ k. ⊎_elim
    (λ l. inl (Has-append_right d mine (flat b.inner) l))
    (λ l. inr (Has-append_right d (hs ++ ts) (flat rows) l))
    (Has-append_cases d (flat b.inner) (flat rows) (subst (Has d) (flat-append b.inner rows) k)))
    (Has-append_cases d ((b.head ∷ hs) ++ (ts ++ b.tail)) (flat (b.inner ++ rows)) h)
  where
    mine : List ℕ
    mine = b.tail ++ b.head ∷ []

-- a dart of the branches put together is one of all darts
joined_dart : (d : ℕ) (zs : List ℕ) (rows : List (List ℕ)) (bs : List Branch)
    → Has d (flat ((heads bs ++ tails zs bs) ∷ inners rows bs)) → Has d (all_darts zs rows bs)
joined_dart d zs rows [] h = h
joined_dart d zs rows (b ∷ bs) h = ⊎_elim
    (λ k. Has-append_left d (flat (closed_lists b)) (all_darts zs rows bs) k)
    (λ k. Has-append_right d (flat (closed_lists b)) (all_darts zs rows bs) (joined_dart d zs rows bs k))
    (joined_dart_cases d b (heads bs) (tails zs bs) (inners rows bs) h)

-- the test for the darts of a branch has one value on twins
branch_test-twins : (b : Branch) → HasTwins b → (d : ℕ)
    → has (twin d) (flat (closed_lists b)) ≡ has d (flat (closed_lists b))
branch_test-twins b closed d = ⊎_elim
    (λ h. has_yes (twin d) darts (closed d h) ∙ sym (has_yes d darts h))
    (λ l. has_no (twin d) darts (Lacks-from (twin d) darts
    (λ k. has_lacks d darts (subst (λ y. Has y darts) (twin-twin d) (closed (twin d) k)) l)) ∙ sym (has_no d darts l))
    (has_cases d darts)
  where
    darts : List ℕ
    darts = flat (closed_lists b)

-- closed branches without a dart in common, put together with the poles made one vertex
joined_poles-CanBeFlat : (e : ℕ) (zs : List ℕ) (rows : List (List ℕ)) (bs : List Branch)
    → Distinct (all_darts zs rows bs) → EachBranch HasTwins bs → EachBranch (λ b. CanBeFlat e (closed_lists b)) bs
    → CanBeFlat e (zs ∷ rows) → CanBeFlat e ((heads bs ++ tails zs bs) ∷ inners rows bs)
joined_poles-CanBeFlat e zs rows [] dis closed each rest = rest
joined_poles-CanBeFlat e zs rows (b ∷ bs) dis closed each rest =
    let darts : List ℕ = flat (closed_lists b) in
    branch_added-CanBeFlat e (λ d. has d darts) b (heads bs) (tails zs bs) (inners rows bs)
    (branch_test-twins b closed.0) (λ d h. has_yes d darts h)
    (λ d h. has_no d darts (Lacks-from d darts (λ k.
    has_lacks d (all_darts zs rows bs) (joined_dart d zs rows bs h)
    (Distinct-apart d darts (all_darts zs rows bs) dis k))))
    each.0
    (joined_poles-CanBeFlat e zs rows bs (Distinct-append_right darts (all_darts zs rows bs) dis) closed.1 each.1 rest)

-- closed branches without a dart in common can be put between two poles in any order
pub joined_branches-CanBeFlat : (e : ℕ) (zs : List ℕ) (rows : List (List ℕ)) (bs : List Branch)
    → Distinct (all_darts zs rows bs) → EachBranch HasTwins bs → EachBranch (λ b. CanBeFlat e (closed_lists b)) bs
    → CanBeFlat e (zs ∷ rows) → CanBeFlat e (heads bs ∷ tails zs bs ∷ inners rows bs)
joined_branches-CanBeFlat e zs rows bs dis closed each rest =
    parted-CanBeFlat e (heads bs) (tails zs bs) (inners rows bs)
    (joined_poles-CanBeFlat e zs rows bs dis closed each rest)

-- the branches of two poles of a flat map, each closed
closed_branches-CanBeFlat : (e : ℕ) (f : ℕ → ℕ) (us vs : List ℕ) (rows : List (List ℕ)) (bs : List Branch)
    → IsMapOf (2 * e) f (us ∷ vs ∷ rows) → IsFlat e f → EachBranch (IsBranchOf e us vs rows) bs
    → EachBranch (λ b. CanBeFlat e (closed_lists b)) bs
closed_branches-CanBeFlat e f us vs rows [] is z each = tt
closed_branches-CanBeFlat e f us vs rows (b ∷ bs) is z each = (
  closed_branch-CanBeFlat e f us vs rows b is z each.0,
  closed_branches-CanBeFlat e f us vs rows bs is z each.1,
)

-- the branches between two poles of a flat map can be put in any order: the one pole then has their darts in this
-- order, and the other the darts of each in a run, in the reverse order
pub permuted_branches-CanBeFlat : (e : ℕ) (f : ℕ → ℕ) (us vs zs : List ℕ) (rows others : List (List ℕ))
    (bs : List Branch) → IsMapOf (2 * e) f (us ∷ vs ∷ rows) → IsFlat e f → EachBranch (IsBranchOf e us vs rows) bs
    → EachBranch HasTwins bs → Distinct (all_darts zs others bs) → CanBeFlat e (zs ∷ others)
    → CanBeFlat e (heads bs ∷ tails zs bs ∷ inners others bs)
permuted_branches-CanBeFlat e f us vs zs rows others bs is z each closed dis rest =
    joined_branches-CanBeFlat e zs others bs dis closed (closed_branches-CanBeFlat e f us vs rows bs is z each) rest
