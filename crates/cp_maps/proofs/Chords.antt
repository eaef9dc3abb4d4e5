-- An edge between two places of one list.
use Rattle.std.proofs.Common.{◌≡◌, ℕ, ◌<◌, List, [], ◌∷◌, ◌++◌, append_assoc, sym, refl, subst, inl, ◌*◌, arith}
use Rattle.cp_lists.specs.CyclicLists.{Distinct, Has, Lacks}
use Rattle.cp_lists.specs.Rows.{flat}
use Rattle.cp_lists.proofs.DistinctLists.{Distinct-middle, Has-append_left, Has-append_right, Lacks-append, Lacks-append_left, Lacks-append_right, has_other}
use Rattle.cp_lists.proofs.TurnedLists.{turn_parts}
use Rattle.cp_orbits.specs.Orbits.{Permutes}
use Rattle.cp_faces.specs.Twins.{twin}
use Rattle.cp_faces.proofs.Twins.{twin-other}
use Rattle.cp_maps.specs.Genus.{OneFace, RaisesGenus, SameGenus}
use Rattle.cp_maps.specs.Maps.{IsMapOf, swapped}
use Rattle.cp_maps.proofs.Edges.{lt_twin, put_edge-RaisesGenus, put_within-SameGenus}
use Rattle.cp_maps.proofs.Genus.{SameGenus-trans}
use Rattle.cp_maps.proofs.ListFacts.{below_item}
use Rattle.cp_maps.proofs.MapLists.{IsMapOf-Permutes, IsMapOf-loose, IsMapOf-merged, IsMapOf-turn, one_vertex}
use Rattle.cp_maps.proofs.MergedVertices.{same_lists-SameGenus}
use Rattle.cp_maps.proofs.Swaps.{vertex-OnePart}

-- an edge between two places of a list
module _ (e : ℕ) (f g : ℕ → ℕ) (x a b : ℕ) (xs ys : List ℕ) (rows : List (List ℕ))
    (is_f : IsMapOf (2 * e) f ((a ∷ (xs ++ b ∷ ys)) ∷ rows))
    (is_g : IsMapOf (2 * e) g ((x ∷ a ∷ (xs ++ twin x ∷ b ∷ ys)) ∷ rows)) where
  -- the items of f
  abbrev old : List ℕ
  old = flat ((a ∷ (xs ++ b ∷ ys)) ∷ rows)

  -- x is a dart
  lt_x : x < 2 * e
  lt_x = is_g.below.0

  -- f is a permutation
  perm_f : Permutes (2 * e) f
  perm_f = IsMapOf-Permutes (2 * e) f ((a ∷ (xs ++ b ∷ ys)) ∷ rows) is_f

  -- the items of g but x, with the twin in the middle
  regroup : (a ∷ (xs ++ twin x ∷ b ∷ ys)) ++ flat rows ≡ (a ∷ xs) ++ (twin x ∷ ((b ∷ ys) ++ flat rows))
  regroup = append_assoc (a ∷ xs) (twin x ∷ b ∷ ys) (flat rows)

  -- the items of f likewise
  regroup_old : old ≡ (a ∷ xs) ++ ((b ∷ ys) ++ flat rows)
  regroup_old = append_assoc (a ∷ xs) (b ∷ ys) (flat rows)

  -- x is not in the lists of f
  x_new : Lacks x old
  x_new =
      let all : Lacks x ((a ∷ xs) ++ (twin x ∷ ((b ∷ ys) ++ flat rows))) = subst (Lacks x) regroup is_g.once.0 in
      subst (Lacks x) (sym regroup_old)
      (Lacks-append x (a ∷ xs) ((b ∷ ys) ++ flat rows)
      (Lacks-append_left x (a ∷ xs) (twin x ∷ ((b ∷ ys) ++ flat rows)) all)
      (Lacks-append_right x (a ∷ xs) (twin x ∷ ((b ∷ ys) ++ flat rows)) all).1)

  -- nor is its twin
  twin_new : Lacks (twin x) old
  twin_new =
      let m : Lacks (twin x) (a ∷ xs) × Lacks (twin x) ((b ∷ ys) ++ flat rows) =
      Distinct-middle (twin x) (a ∷ xs) ((b ∷ ys) ++ flat rows) (subst Distinct regroup is_g.once.1) in
      subst (Lacks (twin x)) (sym regroup_old) (Lacks-append (twin x) (a ∷ xs) ((b ∷ ys) ++ flat rows) m.0 m.1)

  -- b is an item of f
  b_old : Has b old
  b_old = Has-append_left b (a ∷ (xs ++ b ∷ ys)) (flat rows) (Has-append_right b (a ∷ xs) (b ∷ ys) (inl refl))

  -- b is a dart
  lt_b : b < 2 * e
  lt_b = below_item (2 * e) b old is_f.below b_old

  -- with both darts
  abbrev put_in : ℕ → ℕ
  put_in = swapped (twin x) b (swapped x a f)

  -- the lists with the first
  is_hung : IsMapOf (2 * e) (swapped x a f) (((b ∷ ys) ++ (x ∷ a ∷ xs)) ∷ rows)
  is_hung =
      IsMapOf-turn (2 * e) (swapped x a f) ((x ∷ a ∷ xs) ++ (b ∷ ys)) ((b ∷ ys) ++ (x ∷ a ∷ xs)) rows
      (turn_parts (x ∷ a ∷ xs) (b ∷ ys))
      (IsMapOf-merged (2 * e) f x a [] (xs ++ b ∷ ys) rows
      (IsMapOf-loose (2 * e) f ((a ∷ (xs ++ b ∷ ys)) ∷ rows) is_f x lt_x x_new))

  -- the twin is not in them
  twin_free : Lacks (twin x) (((b ∷ ys) ++ (x ∷ a ∷ xs)) ++ flat rows)
  twin_free =
      let one : Lacks (twin x) (a ∷ (xs ++ b ∷ ys)) =
      Lacks-append_left (twin x) (a ∷ (xs ++ b ∷ ys)) (flat rows) twin_new in
      Lacks-append (twin x) ((b ∷ ys) ++ (x ∷ a ∷ xs)) (flat rows)
      (Lacks-append (twin x) (b ∷ ys) (x ∷ a ∷ xs) (Lacks-append_right (twin x) (a ∷ xs) (b ∷ ys) one)
      ((λ h. twin-other x (sym h)), Lacks-append_left (twin x) (a ∷ xs) (b ∷ ys) one))
      (Lacks-append_right (twin x) (a ∷ (xs ++ b ∷ ys)) (flat rows) twin_new)

  -- that is g
  after : SameGenus e put_in g
  after = same_lists-SameGenus e put_in g ((x ∷ a ∷ (xs ++ twin x ∷ b ∷ ys)) ∷ rows)
      (IsMapOf-turn (2 * e) put_in ((twin x ∷ b ∷ ys) ++ (x ∷ a ∷ xs)) ((x ∷ a ∷ xs) ++ (twin x ∷ b ∷ ys)) rows
      (turn_parts (twin x ∷ b ∷ ys) (x ∷ a ∷ xs))
      (IsMapOf-merged (2 * e) (swapped x a f) (twin x) b [] (ys ++ x ∷ a ∷ xs) rows
      (IsMapOf-loose (2 * e) (swapped x a f) (((b ∷ ys) ++ (x ∷ a ∷ xs)) ∷ rows) is_hung (twin x)
      (lt_twin e f perm_f x lt_x) twin_free)))
      is_g

  -- an edge put in between two places of a list that are in one face keeps the genus
  pub chord_within-SameGenus : OneFace e f a b → SameGenus e f g
  chord_within-SameGenus one =
      SameGenus-trans e f put_in g (put_within-SameGenus e f perm_f x lt_x (is_f.loose x lt_x x_new)
      (is_f.loose (twin x) (lt_twin e f perm_f x lt_x) twin_new) a b is_f.below.0 lt_b x_new.0 twin_new.0
      (has_other b x old b_old x_new) (has_other b (twin x) old b_old twin_new) one) after

  -- an edge put in between two places of a list that are in two faces raises the genus
  pub chord-RaisesGenus : (OneFace e f a b → ⊥) → RaisesGenus e f g
  chord-RaisesGenus two = omega (
    arith,
    put_edge-RaisesGenus e f perm_f x lt_x (is_f.loose x lt_x x_new)
        (is_f.loose (twin x) (lt_twin e f perm_f x lt_x) twin_new) a b is_f.below.0 lt_b x_new.0 twin_new.0
        (has_other b x old b_old x_new) (has_other b (twin x) old b_old twin_new)
        (vertex-OnePart e f perm_f a b is_f.below.0 lt_b a b
        (one_vertex (2 * e) f (a ∷ (xs ++ b ∷ ys)) rows is_f a b (inl refl)
        (Has-append_right b (a ∷ xs) (b ∷ ys) (inl refl)))) two,
    after,
  )
