-- Rows of two trees that stand place by place: the pipes and cells that they make.
use Rattle.std.proofs.Common.{suc, ◌≡◌, ℕ, Bool, true, false, List, [], ◌∷◌, ◌++◌, length, map, reverse, sym, refl, ap, ◌∙◌, subst, ⊎_elim, arith, IsPermutation}
use Rattle.std.specs.Prelude.{filter}
use Rattle.std.specs.List.{All, AllZip, Contains, zip}
use Rattle.std.proofs.lemmas.Bool.{cases_Bool, false≢true}
use Rattle.std.proofs.lemmas.List.Elements.{All-cons, All-head, All-nil, All-tail}
use Rattle.std.proofs.lemmas.List.Sorted.{IsPermutation-append_comm}
use Rattle.cp_lists.specs.Turns.{IsTurn, turned_to_least}
use Rattle.cp_lists.proofs.TurnedLists.{parts_of_turn}
use Rattle.cp_board.specs.declared.parts.Kind.TheVariants.{Q}
use Rattle.cp_board.specs.declared.parts.Vert.{Vert}
use Rattle.cp_board.specs.declared.parts.Pipe.{Pipe}
use Rattle.cp_board.specs.Changes.{pairs_by_first}
use Rattle.cp_board.specs.Plantings.{Planted}
use Rattle.cp_board.specs.Propagations.{fixed_verts, node_pipes}

-- a turn has the same items
pub turn-IsPermutation : (xs ys : List ℕ) → IsTurn xs ys → IsPermutation xs ys
turn-IsPermutation xs ys turn =
    let w = parts_of_turn xs ys turn in
    subst (λ zs. IsPermutation zs ys) (sym w.2)
    (subst (IsPermutation (w.0 ++ w.1)) (sym w.3) (IsPermutation-append_comm w.0 w.1))

-- the firsts of pairs of two lists
pub first_zip : (xs ys : List ℕ) → length ys ≡ length xs → map (λ (x : ℕ × ℕ). x.0) (zip xs ys) ≡ xs
first_zip [] [] e = refl
first_zip [] (y ∷ ys) e = refl
first_zip (x ∷ xs) [] e = absurd (omega (arith, e))
first_zip (x ∷ xs) (y ∷ ys) e = ap (λ zs. x ∷ zs) (first_zip xs ys (omega (arith, e)))

-- and the seconds
pub second_zip : (xs ys : List ℕ) → length ys ≡ length xs → map (λ (x : ℕ × ℕ). x.1) (zip xs ys) ≡ ys
second_zip [] [] e = refl
second_zip [] (y ∷ ys) e = absurd (omega (arith, e))
second_zip (x ∷ xs) [] e = absurd (omega (arith, e))
second_zip (x ∷ xs) (y ∷ ys) e = ap (λ zs. y ∷ zs) (second_zip xs ys (omega (arith, e)))

-- two relations at once
pub zip_both : {A B : Type 0} (R S : A → B → Type 0) (xs : List A) (ys : List B) → AllZip R xs ys → AllZip S xs ys
    → AllZip (λ x y. R x y × S x y) xs ys
zip_both R S [] [] r s = tt
zip_both R S [] (y ∷ ys) r s = absurd r
zip_both R S (x ∷ xs) [] r s = absurd r
zip_both R S (x ∷ xs) (y ∷ ys) r s = ((r.0, s.0), zip_both R S xs ys r.1 s.1)

-- a relation that follows from another
pub zip_then : {A B : Type 0} (R S : A → B → Type 0) (xs : List A) (ys : List B) → ((x : A) (y : B) → R x y → S x y)
    → AllZip R xs ys → AllZip S xs ys
zip_then R S [] [] h r = tt
zip_then R S [] (y ∷ ys) h r = absurd r
zip_then R S (x ∷ xs) [] h r = absurd r
zip_then R S (x ∷ xs) (y ∷ ys) h r = (h x y r.0, zip_then R S xs ys h r.1)

-- the rows that a test keeps
module _ (keep : Planted → Bool) (R : Planted → Planted → Type 0) where
  -- related rows that are kept are related
  pub zip_kept : (hs bs : List Planted) → AllZip (λ a b. (keep b ≡ keep a) × (keep a ≡ true → R a b)) hs bs
      → AllZip R (filter keep hs) (filter keep bs)
  zip_kept [] [] z = tt
  zip_kept [] (b ∷ bs) z = absurd z
  zip_kept (a ∷ hs) [] z = absurd z
  zip_kept (a ∷ hs) (b ∷ bs) z = ⊎_elim
      (λ (t : keep a ≡ true). let tb : keep b ≡ true = z.0.0 ∙ t in rw (t, tb) (z.0.1 t, zip_kept hs bs z.1))
      (λ (f : keep a ≡ false). let fb : keep b ≡ false = z.0.0 ∙ f in rw (f, fb) (zip_kept hs bs z.1))
      (cases_Bool (keep a))

  -- where those that are kept are related, each is if it is kept
  pub zip_from_kept : (hs bs : List Planted) → AllZip (λ a b. keep b ≡ keep a) hs bs
      → AllZip R (filter keep hs) (filter keep bs) → AllZip (λ a b. keep a ≡ true → R a b) hs bs
  zip_from_kept [] [] z r = tt
  zip_from_kept [] (b ∷ bs) z r = absurd z
  zip_from_kept (a ∷ hs) [] z r = absurd z
  zip_from_kept (a ∷ hs) (b ∷ bs) z r = ⊎_elim
      (λ (t : keep a ≡ true).
      let tb : keep b ≡ true = z.0 ∙ t in
      let s : R a b × AllZip R (filter keep hs) (filter keep bs) = rw (t, tb) at r in
      ((λ h. s.0), zip_from_kept hs bs z.1 s.1))
      (λ (f : keep a ≡ false).
      let fb : keep b ≡ false = z.0 ∙ f in
      let s : AllZip R (filter keep hs) (filter keep bs) = rw (f, fb) at r in
      ((λ h. absurd (false≢true (sym f ∙ h))), zip_from_kept hs bs z.1 s))
      (cases_Bool (keep a))

-- the pipe of two P-nodes
abbrev pub node_pipe : ℕ → Planted → Planted → Pipe
node_pipe n a b = record { name = n; a = a.vertex; b = b.vertex; pairs = pairs_by_first (zip a.edges b.edges) }

-- the Q-vertex of a Q-node
abbrev pub node_vert : (List ℕ → List ℕ) → ℕ → Planted → Vert
node_vert direction c a = record { name = a.vertex; kind = Q c (turned_to_least (direction a.edges)) }

-- what holds of all pipes of P-nodes holds of each two
pub each_pipe : (P : Pipe → Type 0) (names : List ℕ) (hs bs : List Planted) → length names ≡ length hs
    → length bs ≡ length hs → All P (node_pipes names hs bs)
    → AllZip (λ a b. (n : ℕ) × P (node_pipe n a b)) hs bs
each_pipe P [] [] [] e d all = tt
each_pipe P [] [] (b ∷ bs) e d all = absurd (omega (arith, d))
each_pipe P [] (a ∷ hs) bs e d all = absurd (omega (arith, e))
each_pipe P (n ∷ names) [] bs e d all = absurd (omega (arith, e))
each_pipe P (n ∷ names) (a ∷ hs) [] e d all = absurd (omega (arith, d))
each_pipe P (n ∷ names) (a ∷ hs) (b ∷ bs) e d all = (
  (n, All-head P (node_pipe n a b) (node_pipes names hs bs) all),
  each_pipe P names hs bs (omega (arith, e)) (omega (arith, d))
      (All-tail P (node_pipe n a b) (node_pipes names hs bs) all),
)

-- and the other way round
pub all_pipes : (P : Pipe → Type 0) (names : List ℕ) (hs bs : List Planted)
    → AllZip (λ a b. (n : ℕ) → P (node_pipe n a b)) hs bs → All P (node_pipes names hs bs)
all_pipes P [] hs bs z = All-nil P
all_pipes P (n ∷ names) [] [] z = All-nil P
all_pipes P (n ∷ names) [] (b ∷ bs) z = absurd z
all_pipes P (n ∷ names) (a ∷ hs) [] z = absurd z
all_pipes P (n ∷ names) (a ∷ hs) (b ∷ bs) z =
    All-cons P (node_pipe n a b) (node_pipes names hs bs) (z.0 n) (all_pipes P names hs bs z.1)

-- what holds of all Q-vertices of both trees holds of each two, which are of one cell
pub each_vert : (P : Vert → Type 0) (cells : List ℕ) (hs bs : List Planted) → length cells ≡ length hs
    → length bs ≡ length hs → All P (fixed_verts (λ es. es) cells hs) → All P (fixed_verts reverse cells bs)
    → AllZip (λ a b. (c : ℕ) × P (node_vert (λ es. es) c a) × P (node_vert reverse c b)) hs bs
each_vert P [] [] [] e d one two = tt
each_vert P [] [] (b ∷ bs) e d one two = absurd (omega (arith, d))
each_vert P [] (a ∷ hs) bs e d one two = absurd (omega (arith, e))
each_vert P (c ∷ cells) [] bs e d one two = absurd (omega (arith, e))
each_vert P (c ∷ cells) (a ∷ hs) [] e d one two = absurd (omega (arith, d))
each_vert P (c ∷ cells) (a ∷ hs) (b ∷ bs) e d one two = (
  (
    c,
    All-head P (node_vert (λ es. es) c a) (fixed_verts (λ es. es) cells hs) one,
    All-head P (node_vert reverse c b) (fixed_verts reverse cells bs) two,
  ),
  each_vert P cells hs bs (omega (arith, e)) (omega (arith, d))
      (All-tail P (node_vert (λ es. es) c a) (fixed_verts (λ es. es) cells hs) one)
      (All-tail P (node_vert reverse c b) (fixed_verts reverse cells bs) two),
)

-- each row is one of all
pub own_rows : (all hs bs : List Planted) → ((r : Planted) → Contains hs r → Contains all r)
    → (R : Planted → Planted → Type 0)
    → AllZip R hs bs → AllZip (λ a b. Contains all a) hs bs
own_rows all [] [] inside R z = tt
own_rows all [] (b ∷ bs) inside R z = absurd z
own_rows all (a ∷ hs) [] inside R z = absurd z
own_rows all (a ∷ hs) (b ∷ bs) inside R z = (
  inside a (0, omega arith, refl),
  own_rows all hs bs (λ r c. inside r (suc c.0, omega (arith, c.1), c.2)) R z.1,
)

-- each row of the second list is one of all
pub own_others : (all hs bs : List Planted) → ((r : Planted) → Contains bs r → Contains all r)
    → (R : Planted → Planted → Type 0)
    → AllZip R hs bs → AllZip (λ a b. Contains all b) hs bs
own_others all [] [] inside R z = tt
own_others all [] (b ∷ bs) inside R z = absurd z
own_others all (a ∷ hs) [] inside R z = absurd z
own_others all (a ∷ hs) (b ∷ bs) inside R z = (
  inside b (0, omega arith, refl),
  own_others all hs bs (λ r c. inside r (suc c.0, omega (arith, c.1), c.2)) R z.1,
)
