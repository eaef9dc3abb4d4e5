-- An edge between two lists.
use Rattle.std.proofs.Common.{◌≡◌, ℕ, ◌<◌, List, [], ◌∷◌, sym, refl, inl, ⊎_elim, ◌*◌, arith, ◌↔◌}
use Rattle.std.proofs.lemmas.Bool.{cases_eq}
use Rattle.cp_lists.specs.CyclicLists.{Has, Lacks}
use Rattle.cp_lists.specs.Rows.{flat}
use Rattle.cp_lists.proofs.DistinctLists.{Distinct-middle, Has-append_right, Lacks-append, Lacks-append_left, Lacks-append_right, has_other}
use Rattle.cp_orbits.specs.Classes.{graph, labels}
use Rattle.cp_orbits.specs.Orbits.{Permutes}
use Rattle.cp_faces.specs.Faces.{face_upto}
use Rattle.cp_faces.specs.Twins.{twin}
use Rattle.cp_faces.proofs.Twins.{twin-other}
use Rattle.cp_maps.specs.Genus.{IsFlat, OneFace, OnePart, RaisesGenus, SameGenus}
use Rattle.cp_maps.specs.Maps.{IsMapOf, swapped}
use Rattle.cp_maps.proofs.Edges.{lt_twin, put_between-SameGenus, put_between-one_face, put_edge-RaisesGenus, put_within-SameGenus, put_within-two_faces}
use Rattle.cp_maps.proofs.Genus.{OneFace-agree, RaisesGenus-not_flat, SameGenus-trans}
use Rattle.cp_maps.proofs.ListFacts.{below_item}
use Rattle.cp_maps.proofs.MapLists.{IsMapOf-Permutes, IsMapOf-loose, IsMapOf-merged, IsMapOf-swap, IsMapOf-unique}
use Rattle.cp_maps.proofs.MergedVertices.{same_lists-SameGenus}

-- an edge between two lists
module _ (e : ℕ) (f g : ℕ → ℕ) (x a b : ℕ) (xs ys : List ℕ) (rows : List (List ℕ))
    (is_f : IsMapOf (2 * e) f ((a ∷ xs) ∷ (b ∷ ys) ∷ rows))
    (is_g : IsMapOf (2 * e) g ((x ∷ a ∷ xs) ∷ (twin x ∷ b ∷ ys) ∷ rows)) where
  -- the items of f
  abbrev old : List ℕ
  old = flat ((a ∷ xs) ∷ (b ∷ ys) ∷ rows)

  -- x is a dart
  lt_x : x < 2 * e
  lt_x = is_g.below.0

  -- f is a permutation
  perm_f : Permutes (2 * e) f
  perm_f = IsMapOf-Permutes (2 * e) f ((a ∷ xs) ∷ (b ∷ ys) ∷ rows) is_f

  -- x is not in the lists of f
  x_new : Lacks x old
  x_new =
      Lacks-append x (a ∷ xs) (flat ((b ∷ ys) ∷ rows))
      (Lacks-append_left x (a ∷ xs) (flat ((twin x ∷ b ∷ ys) ∷ rows)) is_g.once.0)
      (Lacks-append_right x (a ∷ xs) (flat ((twin x ∷ b ∷ ys) ∷ rows)) is_g.once.0).1

  -- nor is its twin
  twin_new : Lacks (twin x) old
  twin_new =
      Lacks-append (twin x) (a ∷ xs) (flat ((b ∷ ys) ∷ rows))
      (Distinct-middle (twin x) (a ∷ xs) (flat ((b ∷ ys) ∷ rows)) is_g.once.1).0
      (Distinct-middle (twin x) (a ∷ xs) (flat ((b ∷ ys) ∷ rows)) is_g.once.1).1

  -- b is an item of f
  b_old : Has b old
  b_old = Has-append_right b (a ∷ xs) (flat ((b ∷ ys) ∷ rows)) (inl refl)

  -- the lists with x
  is_hung : IsMapOf (2 * e) (swapped x a f) ((x ∷ a ∷ xs) ∷ (b ∷ ys) ∷ rows)
  is_hung =
      IsMapOf-merged (2 * e) f x a [] xs ((b ∷ ys) ∷ rows)
      (IsMapOf-loose (2 * e) f ((a ∷ xs) ∷ (b ∷ ys) ∷ rows) is_f x lt_x x_new)

  -- its twin is not in them
  twin_free : Lacks (twin x) (flat ((b ∷ ys) ∷ (x ∷ a ∷ xs) ∷ rows))
  twin_free =
      let first : Lacks (twin x) (a ∷ xs) = Lacks-append_left (twin x) (a ∷ xs) (flat ((b ∷ ys) ∷ rows)) twin_new in
      let rest : Lacks (twin x) (flat ((b ∷ ys) ∷ rows)) =
      Lacks-append_right (twin x) (a ∷ xs) (flat ((b ∷ ys) ∷ rows)) twin_new in
      Lacks-append (twin x) (b ∷ ys) (flat ((x ∷ a ∷ xs) ∷ rows)) (Lacks-append_left (twin x) (b ∷ ys) (flat rows) rest)
      (Lacks-append (twin x) (x ∷ a ∷ xs) (flat rows) ((λ h. twin-other x (sym h)), first)
      (Lacks-append_right (twin x) (b ∷ ys) (flat rows) rest))

  -- with both
  abbrev put_in : ℕ → ℕ
  put_in = swapped (twin x) b (swapped x a f)

  -- the lists with both
  is_put : IsMapOf (2 * e) put_in ((x ∷ a ∷ xs) ∷ (twin x ∷ b ∷ ys) ∷ rows)
  is_put =
      let is : IsMapOf (2 * e) (swapped x a f) ((b ∷ ys) ∷ (x ∷ a ∷ xs) ∷ rows) =
      IsMapOf-swap (2 * e) (swapped x a f) (x ∷ a ∷ xs) (b ∷ ys) rows is_hung in
      IsMapOf-swap (2 * e) put_in (twin x ∷ b ∷ ys) (x ∷ a ∷ xs) rows
      (IsMapOf-merged (2 * e) (swapped x a f) (twin x) b [] ys ((x ∷ a ∷ xs) ∷ rows)
      (IsMapOf-loose (2 * e) (swapped x a f) ((b ∷ ys) ∷ (x ∷ a ∷ xs) ∷ rows) is (twin x)
      (lt_twin e f perm_f x lt_x) twin_free))

  -- that is g
  after : SameGenus e put_in g
  after = same_lists-SameGenus e put_in g ((x ∷ a ∷ xs) ∷ (twin x ∷ b ∷ ys) ∷ rows) is_put is_g

  -- x is loose in f
  x_loose : f x ≡ x
  x_loose = is_f.loose x lt_x x_new

  -- and its twin
  twin_loose : f (twin x) ≡ twin x
  twin_loose = is_f.loose (twin x) (lt_twin e f perm_f x lt_x) twin_new

  -- b is a dart
  lt_b : b < 2 * e
  lt_b = below_item (2 * e) b old is_f.below b_old

  -- an edge put in between two lists within one face keeps the genus
  pub edge_within-SameGenus : OneFace e f a b → SameGenus e f g
  edge_within-SameGenus one =
      SameGenus-trans e f put_in g (put_within-SameGenus e f perm_f x lt_x x_loose twin_loose a b is_f.below.0 lt_b
      x_new.0 twin_new.0 (has_other b x old b_old x_new) (has_other b (twin x) old b_old twin_new) one) after

  -- the two darts of an edge put in within a face are in different faces
  pub edge_within-two_faces : OneFace e f a b → OneFace e g x (twin x) → ⊥
  edge_within-two_faces one h =
      put_within-two_faces e f perm_f x lt_x x_loose twin_loose a b is_f.below.0 lt_b x_new.0 twin_new.0
      (has_other b x old b_old x_new) (has_other b (twin x) old b_old twin_new) one
      (OneFace-agree e g put_in x (twin x)
      (IsMapOf-unique (2 * e) g ((x ∷ a ∷ xs) ∷ (twin x ∷ b ∷ ys) ∷ rows) is_g put_in is_put) h)

  -- an edge put in between two lists of two components keeps the genus
  pub edge_between-SameGenus : (OnePart e f a b → ⊥) → SameGenus e f g
  edge_between-SameGenus two =
      SameGenus-trans e f put_in g (put_between-SameGenus e f perm_f x lt_x x_loose twin_loose a b is_f.below.0 lt_b
      x_new.0 twin_new.0 (has_other b x old b_old x_new) (has_other b (twin x) old b_old twin_new) two) after

  -- the two darts of an edge put in between two components are in one face
  pub edge_between-one_face : (OnePart e f a b → ⊥) → OneFace e g x (twin x)
  edge_between-one_face two =
      OneFace-agree e put_in g x (twin x)
      (IsMapOf-unique (2 * e) put_in ((x ∷ a ∷ xs) ∷ (twin x ∷ b ∷ ys) ∷ rows) is_put g is_g)
      (put_between-one_face e f perm_f x lt_x x_loose twin_loose a b is_f.below.0 lt_b x_new.0 twin_new.0
      (has_other b x old b_old x_new) (has_other b (twin x) old b_old twin_new) two)

  -- an edge put in between two lists of one component and two faces raises the genus
  pub edge-RaisesGenus : OnePart e f a b → (OneFace e f a b → ⊥) → RaisesGenus e f g
  edge-RaisesGenus one two =
      omega (
        arith,
        put_edge-RaisesGenus e f perm_f x lt_x x_loose twin_loose a b is_f.below.0 lt_b x_new.0 twin_new.0
            (has_other b x old b_old x_new) (has_other b (twin x) old b_old twin_new) one two,
        after,
      )

-- in a flat map the two darts of an edge are in one face exactly where its ends are of different components without it
pub flat_edge-one_face : (e : ℕ) (f g : ℕ → ℕ) (x a b : ℕ) (xs ys : List ℕ) (rows : List (List ℕ))
    → IsMapOf (2 * e) f ((a ∷ xs) ∷ (b ∷ ys) ∷ rows) → IsMapOf (2 * e) g ((x ∷ a ∷ xs) ∷ (twin x ∷ b ∷ ys) ∷ rows)
    → IsFlat e g → OneFace e g x (twin x) ↔ (OnePart e f a b → ⊥)
flat_edge-one_face e f g x a b xs ys rows is_f is_g z = (
  λ face one. ⊎_elim
      (λ within. edge_within-two_faces e f g x a b xs ys rows is_f is_g within face)
      (λ between. RaisesGenus-not_flat e f g (IsMapOf-Permutes (2 * e) f ((a ∷ xs) ∷ (b ∷ ys) ∷ rows) is_f)
      (edge-RaisesGenus e f g x a b xs ys rows is_f is_g one between) z)
      (cases_eq (labels (graph (face_upto f e) (2 * e)) a) (labels (graph (face_upto f e) (2 * e)) b)),
  λ two. edge_between-one_face e f g x a b xs ys rows is_f is_g two,
)
