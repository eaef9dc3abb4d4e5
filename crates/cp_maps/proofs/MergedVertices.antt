-- Two vertices made one, and one made two.
use Rattle.std.proofs.Common.{◌≡◌, ℕ, ◌<◌, ◌≢◌, List, ◌∷◌, ◌++◌, sym, refl, ap, ◌∙◌, subst, inl, ◌*◌, arith}
use Rattle.cp_lists.specs.CyclicLists.{Has, Lacks}
use Rattle.cp_lists.specs.Rows.{flat}
use Rattle.cp_lists.proofs.DistinctLists.{Distinct-apart_right, Has-append_left, Has-append_right, has_lacks}
use Rattle.cp_orbits.specs.Classes.{graph, labels}
use Rattle.cp_orbits.specs.Orbits.{Permutes}
use Rattle.cp_orbits.proofs.OrbitLaws.{Permutes-exchange}
use Rattle.cp_maps.specs.Genus.{IsFlat, OneFace, OnePart, RaisesGenus, SameGenus}
use Rattle.cp_maps.specs.Maps.{IsMapOf, swapped}
use Rattle.cp_maps.proofs.FlatMaps.{IsFlat-agree, exchanged, split-IsFlat}
use Rattle.cp_maps.proofs.Genus.{SameGenus-agree, SameGenus-trans}
use Rattle.cp_maps.proofs.ListFacts.{below_item}
use Rattle.cp_maps.proofs.MapLists.{IsMapOf-Permutes, IsMapOf-merged, IsMapOf-split, IsMapOf-unique, one_vertex, other_vertex}
use Rattle.cp_maps.proofs.Swaps.{before_a, before_b, label_before_a, label_before_b, swapped-RaisesGenus, swapped-before, swapped_apart-SameGenus, swapped_within_face-SameGenus}

-- two maps with the same lists have one genus
pub same_lists-SameGenus : (e : ℕ) (f g : ℕ → ℕ) (rows : List (List ℕ)) → IsMapOf (2 * e) f rows
    → IsMapOf (2 * e) g rows → SameGenus e f g
same_lists-SameGenus e f g rows is_f is_g =
    SameGenus-agree e f g (IsMapOf-Permutes (2 * e) f rows is_f) (IsMapOf-unique (2 * e) f rows is_f g is_g)

-- two vertices made one, or one made two
module _ (e : ℕ) (f g : ℕ → ℕ) (a b : ℕ) (xs ys : List ℕ) (rows : List (List ℕ))
    (is_f : IsMapOf (2 * e) f ((a ∷ xs) ∷ (b ∷ ys) ∷ rows))
    (is_g : IsMapOf (2 * e) g ((a ∷ (xs ++ b ∷ ys)) ∷ rows)) where
  -- f is a permutation
  perm_f : Permutes (2 * e) f
  perm_f = IsMapOf-Permutes (2 * e) f ((a ∷ xs) ∷ (b ∷ ys) ∷ rows) is_f

  -- a is a dart
  lt_a : a < 2 * e
  lt_a = is_f.below.0

  -- b is a dart
  lt_b : b < 2 * e
  lt_b = below_item (2 * e) b (flat ((a ∷ xs) ∷ (b ∷ ys) ∷ rows)) is_f.below
      (Has-append_right b (a ∷ xs) (flat ((b ∷ ys) ∷ rows)) (inl refl))

  -- the map with the two values exchanged is g
  after : SameGenus e (swapped a b f) g
  after =
      same_lists-SameGenus e (swapped a b f) g ((a ∷ (xs ++ b ∷ ys)) ∷ rows)
      (IsMapOf-merged (2 * e) f a b xs ys rows is_f) is_g

  -- the vertices differ
  vertices_differ : labels (graph f (2 * e)) a ≢ labels (graph f (2 * e)) b
  vertices_differ =
      other_vertex (2 * e) f (a ∷ xs) ((b ∷ ys) ∷ rows) is_f a b (inl refl)
      (Distinct-apart_right b (a ∷ xs) (flat ((b ∷ ys) ∷ rows)) is_f.once (inl refl))

  -- two vertices made one within a face, or one made two, keep the genus
  pub merged_within-SameGenus : OneFace e f a b → SameGenus e f g
  merged_within-SameGenus one =
      SameGenus-trans e f (swapped a b f) g
      (swapped_within_face-SameGenus e f perm_f a b lt_a lt_b vertices_differ one) after

  -- two vertices of two components made one keep the genus
  pub merged_between-SameGenus : (OnePart e f a b → ⊥) → SameGenus e f g
  merged_between-SameGenus two =
      SameGenus-trans e f (swapped a b f) g (swapped_apart-SameGenus e f perm_f a b lt_a lt_b two) after

  -- two vertices of one component and two faces made one raise the genus
  pub merged-RaisesGenus : OnePart e f a b → (OneFace e f a b → ⊥) → RaisesGenus e f g
  merged-RaisesGenus one two =
      omega (arith, swapped-RaisesGenus e f perm_f a b lt_a lt_b one vertices_differ two, after)

-- two darts of one vertex, exchanged: what is flat stays flat
pub swapped_at_vertex-IsFlat : (e : ℕ) (f : ℕ → ℕ) (perm : Permutes (2 * e) f) (a b : ℕ) (lta : a < 2 * e)
    (ltb : b < 2 * e) → a ≢ b → labels (graph f (2 * e)) a ≡ labels (graph f (2 * e)) b → IsFlat e f
    → IsFlat e (swapped a b f)
swapped_at_vertex-IsFlat e f perm a b lta ltb differ one z =
    let p = before_a (2 * e) f perm a b lta ltb in
    let q = before_b (2 * e) f perm a b lta ltb in
    IsFlat-agree e (exchanged f p.0 q.0) (swapped a b f) (Permutes-exchange (2 * e) f p.0 q.0 perm p.1 q.1)
    (λ x lt. sym (swapped-before (2 * e) f perm a b lta ltb x lt))
    (split-IsFlat e f perm p.0 q.0 p.1 q.1 (λ h. differ (sym p.2 ∙ ap f h ∙ q.2))
    (label_before_a (2 * e) f perm a b lta ltb ∙ one ∙ sym (label_before_b (2 * e) f perm a b lta ltb)) z)

-- a vertex made two: what is flat stays flat
pub split_list-IsFlat : (e : ℕ) (f g : ℕ → ℕ) (a b : ℕ) (xs ys : List ℕ) (rows : List (List ℕ))
    → IsMapOf (2 * e) f ((a ∷ (xs ++ b ∷ ys)) ∷ rows) → IsMapOf (2 * e) g ((a ∷ xs) ∷ (b ∷ ys) ∷ rows) → IsFlat e f
    → IsFlat e g
split_list-IsFlat e f g a b xs ys rows is_f is_g z =
    let is : IsMapOf (2 * e) (swapped a b f) ((a ∷ xs) ∷ (b ∷ ys) ∷ rows) =
    IsMapOf-split (2 * e) f a b xs ys rows is_f in
    let perm = IsMapOf-Permutes (2 * e) f ((a ∷ (xs ++ b ∷ ys)) ∷ rows) is_f in
    let hb : Has b (a ∷ (xs ++ b ∷ ys)) = Has-append_right b (a ∷ xs) (b ∷ ys) (inl refl) in
    let ltb : b < 2 * e =
    below_item (2 * e) b (flat ((a ∷ (xs ++ b ∷ ys)) ∷ rows)) is_f.below
    (Has-append_left b (a ∷ (xs ++ b ∷ ys)) (flat rows) hb) in
    IsFlat-agree e (swapped a b f) g (IsMapOf-Permutes (2 * e) (swapped a b f) ((a ∷ xs) ∷ (b ∷ ys) ∷ rows) is)
    (IsMapOf-unique (2 * e) (swapped a b f) ((a ∷ xs) ∷ (b ∷ ys) ∷ rows) is g is_g)
    (swapped_at_vertex-IsFlat e f perm a b is_f.below.0 ltb
    (λ h. has_lacks b (xs ++ b ∷ ys) (Has-append_right b xs (b ∷ ys) (inl refl))
    (subst (λ y. Lacks y (xs ++ b ∷ ys)) h is_f.rings.0.distinct.0))
    (one_vertex (2 * e) f (a ∷ (xs ++ b ∷ ys)) rows is_f a b (inl refl) hb) z)
