-- A loop cut open: what it encloses is of other components than the rest.
use Rattle.std.proofs.Common.{◌≡◌, ℕ, ◌<◌, List, [], ◌∷◌, ◌++◌, append_assoc, sym, refl, ◌∙◌, subst, inl, inr, ⊎_elim, ◌*◌}
use Rattle.std.proofs.lemmas.Bool.{cases_eq}
use Rattle.cp_lists.specs.CyclicLists.{Distinct, Has}
use Rattle.cp_lists.specs.Rows.{flat}
use Rattle.cp_lists.proofs.DistinctLists.{Distinct-less, Has-append_cases, Has-append_left, Has-append_right}
use Rattle.cp_lists.proofs.TurnedLists.{turn_parts}
use Rattle.cp_orbits.specs.Classes.{graph, labels}
use Rattle.cp_orbits.specs.Orbits.{Permutes}
use Rattle.cp_faces.specs.Faces.{face_upto}
use Rattle.cp_faces.specs.Twins.{twin}
use Rattle.cp_faces.proofs.Twins.{twin-twin}
use Rattle.cp_maps.specs.Genus.{Apart, Becomes, CanBeFlat, IsFlat, OneFace, OnePart, SameGenus}
use Rattle.cp_maps.specs.Maps.{IsMapOf, next_by, swapped}
use Rattle.cp_maps.proofs.ContractedEdges.{trivial_loop-SameGenus}
use Rattle.cp_maps.proofs.Edges.{twin-OnePart}
use Rattle.cp_maps.proofs.EdgesBetween.{edge-RaisesGenus, edge_between-SameGenus, edge_between-one_face, edge_within-two_faces}
use Rattle.cp_maps.proofs.Genus.{RaisesGenus-not_flat, SameGenus-IsFlat, SameGenus-sym, SameGenus-trans}
use Rattle.cp_maps.proofs.MapLists.{IsMapOf-Permutes, IsMapOf-some, IsMapOf-split, IsMapOf-swap, IsMapOf-turn, IsMapOf-unbare, one_vertex}
use Rattle.cp_maps.proofs.MergedVertices.{merged-RaisesGenus, merged_within-SameGenus}
use Rattle.cp_maps.proofs.Swaps.{vertex-OnePart}

-- a loop cut open, where what it encloses is apart from the rest, keeps the genus
pub cut_loop-SameGenus : (e : ℕ) (f g : ℕ → ℕ) (x : ℕ) (xs ys : List ℕ) (rows : List (List ℕ))
    → IsMapOf (2 * e) f ((x ∷ (xs ++ twin x ∷ ys)) ∷ rows) → IsMapOf (2 * e) g (xs ∷ ys ∷ rows) → Apart e g xs ys
    → SameGenus e g f
cut_loop-SameGenus e f g x [] ys rows is_f is_g apart =
    trivial_loop-SameGenus e g f x ys rows (IsMapOf-unbare (2 * e) g (ys ∷ rows) is_g) is_f
cut_loop-SameGenus e f g x (a ∷ xs) [] rows is_f is_g apart =
    trivial_loop-SameGenus e g f (twin x) (a ∷ xs) rows
    (IsMapOf-unbare (2 * e) g ((a ∷ xs) ∷ rows) (IsMapOf-swap (2 * e) g (a ∷ xs) [] rows is_g))
    (subst (λ y. IsMapOf (2 * e) f ((twin x ∷ y ∷ a ∷ xs) ∷ rows)) (sym (twin-twin x))
    (IsMapOf-turn (2 * e) f (x ∷ (a ∷ xs ++ twin x ∷ [])) (twin x ∷ x ∷ a ∷ xs) rows
    (turn_parts (x ∷ a ∷ xs) (twin x ∷ [])) is_f))
cut_loop-SameGenus e f g x (a ∷ xs) (b ∷ ys) rows is_f is_g apart =
    let h : ℕ → ℕ = swapped x (twin x) f in
    let is_h : IsMapOf (2 * e) h ((x ∷ a ∷ xs) ∷ (twin x ∷ b ∷ ys) ∷ rows) =
    IsMapOf-split (2 * e) f x (twin x) (a ∷ xs) (b ∷ ys) rows is_f in
    let two : OnePart e g a b → ⊥ = apart a b (inl refl) (inl refl) in
    SameGenus-trans e g h f (edge_between-SameGenus e g h x a b xs ys rows is_g is_h two)
    (merged_within-SameGenus e h f x (twin x) (a ∷ xs) (b ∷ ys) rows is_h is_f
    (edge_between-one_face e g h x a b xs ys rows is_g is_h two))

-- two darts of two lists are not of one component if two others are not
module _ (e : ℕ) (f g : ℕ → ℕ) (x a b : ℕ) (xs ys : List ℕ) (rows : List (List ℕ))
    (is_f : IsMapOf (2 * e) f ((x ∷ ((a ∷ xs) ++ twin x ∷ b ∷ ys)) ∷ rows))
    (is_g : IsMapOf (2 * e) g ((a ∷ xs) ∷ (b ∷ ys) ∷ rows)) (z : IsFlat e f) where
  -- the loop as an edge between two vertices
  abbrev h : ℕ → ℕ
  h = swapped x (twin x) f

  -- its lists
  is_h : IsMapOf (2 * e) h ((x ∷ a ∷ xs) ∷ (twin x ∷ b ∷ ys) ∷ rows)
  is_h = IsMapOf-split (2 * e) f x (twin x) (a ∷ xs) (b ∷ ys) rows is_f

  -- g is a permutation
  perm_g : Permutes (2 * e) g
  perm_g = IsMapOf-Permutes (2 * e) g ((a ∷ xs) ∷ (b ∷ ys) ∷ rows) is_g

  -- h too
  perm_h : Permutes (2 * e) h
  perm_h = IsMapOf-Permutes (2 * e) h ((x ∷ a ∷ xs) ∷ (twin x ∷ b ∷ ys) ∷ rows) is_h

  -- the first darts are of different components
  pub cut_loop-two_parts : OnePart e g a b → ⊥
  cut_loop-two_parts one = ⊎_elim
      (λ (face : OneFace e h x (twin x)).
      let flat_h : IsFlat e h =
      SameGenus-IsFlat e f h (SameGenus-sym e h f
      (merged_within-SameGenus e h f x (twin x) (a ∷ xs) (b ∷ ys) rows is_h is_f face)) z in
      ⊎_elim
      (λ (within : OneFace e g a b). edge_within-two_faces e g h x a b xs ys rows is_g is_h within face)
      (λ (between : OneFace e g a b → ⊥). RaisesGenus-not_flat e g h perm_g
      (edge-RaisesGenus e g h x a b xs ys rows is_g is_h one between) flat_h)
      (cases_eq (labels (graph (face_upto g e) (2 * e)) a) (labels (graph (face_upto g e) (2 * e)) b)))
      (λ (faces : OneFace e h x (twin x) → ⊥). RaisesGenus-not_flat e h f perm_h
      (merged-RaisesGenus e h f x (twin x) (a ∷ xs) (b ∷ ys) rows is_h is_f
      (sym (twin-OnePart e h perm_h x is_h.below.0)) faces) z)
      (cases_eq (labels (graph (face_upto h e) (2 * e)) x) (labels (graph (face_upto h e) (2 * e)) (twin x)))

-- a loop of a flat map encloses what is of other components than the rest
pub cut_loop-Apart : (e : ℕ) (f g : ℕ → ℕ) (x : ℕ) (xs ys : List ℕ) (rows : List (List ℕ))
    → IsMapOf (2 * e) f ((x ∷ (xs ++ twin x ∷ ys)) ∷ rows) → IsMapOf (2 * e) g (xs ∷ ys ∷ rows) → IsFlat e f
    → Apart e g xs ys
cut_loop-Apart e f g x [] ys rows is_f is_g z c d hc hd one = hc
cut_loop-Apart e f g x (a ∷ xs) [] rows is_f is_g z c d hc hd one = hd
cut_loop-Apart e f g x (a ∷ xs) (b ∷ ys) rows is_f is_g z c d hc hd one =
    let perm : Permutes (2 * e) g = IsMapOf-Permutes (2 * e) g ((a ∷ xs) ∷ (b ∷ ys) ∷ rows) is_g in
    let is_g' : IsMapOf (2 * e) g ((b ∷ ys) ∷ (a ∷ xs) ∷ rows) = IsMapOf-swap (2 * e) g (a ∷ xs) (b ∷ ys) rows is_g in
    let lta : a < 2 * e = is_g.below.0 in
    let ltb : b < 2 * e = is_g'.below.0 in
    cut_loop-two_parts e f g x a b xs ys rows is_f is_g z
    (vertex-OnePart e g perm a b lta ltb a c (one_vertex (2 * e) g (a ∷ xs) ((b ∷ ys) ∷ rows) is_g a c (inl refl) hc)
    ∙ one
    ∙ vertex-OnePart e g perm a b lta ltb d b (one_vertex (2 * e) g (b ∷ ys) ((a ∷ xs) ∷ rows) is_g' d b hd (inl refl)))

-- there is a map with the lists of a loop cut open
pub cut_loop-IsMapOf : (n : ℕ) (f : ℕ → ℕ) (x : ℕ) (xs ys : List ℕ) (rows : List (List ℕ))
    → IsMapOf n f ((x ∷ (xs ++ twin x ∷ ys)) ∷ rows) → IsMapOf n (next_by (xs ∷ ys ∷ rows)) (xs ∷ ys ∷ rows)
cut_loop-IsMapOf n f x xs ys rows is =
    let regroup : (xs ++ twin x ∷ ys) ++ flat rows ≡ xs ++ (twin x ∷ (ys ++ flat rows)) =
    append_assoc xs (twin x ∷ ys) (flat rows) in
    IsMapOf-some n f ((x ∷ (xs ++ twin x ∷ ys)) ∷ rows) (xs ∷ ys ∷ rows) is
    (Distinct-less xs (twin x) (ys ++ flat rows) (subst Distinct regroup is.once.1))
    (λ d h. inr (subst (Has d) (sym regroup) (⊎_elim
    (λ k. Has-append_left d xs (twin x ∷ (ys ++ flat rows)) k)
    (λ k. Has-append_right d xs (twin x ∷ (ys ++ flat rows)) (inr k))
    (Has-append_cases d xs (ys ++ flat rows) h))))

-- a loop of a flat map can be cut open
pub cut_loop-Becomes : (e : ℕ) (f : ℕ → ℕ) (x : ℕ) (xs ys : List ℕ) (rows : List (List ℕ))
    → IsMapOf (2 * e) f ((x ∷ (xs ++ twin x ∷ ys)) ∷ rows) → IsFlat e f → Becomes e f (xs ∷ ys ∷ rows)
cut_loop-Becomes e f x xs ys rows is z =
    let g : ℕ → ℕ = next_by (xs ∷ ys ∷ rows) in
    let is_g : IsMapOf (2 * e) g (xs ∷ ys ∷ rows) = cut_loop-IsMapOf (2 * e) f x xs ys rows is in (
      g,
      is_g,
      SameGenus-sym e g f
          (cut_loop-SameGenus e f g x xs ys rows is is_g (cut_loop-Apart e f g x xs ys rows is is_g z)),
    )

-- a loop of a flat map can be cut open, and what is left is flat
pub cut_loop-CanBeFlat : (e : ℕ) (f : ℕ → ℕ) (x : ℕ) (xs ys : List ℕ) (rows : List (List ℕ))
    → IsMapOf (2 * e) f ((x ∷ (xs ++ twin x ∷ ys)) ∷ rows) → IsFlat e f → CanBeFlat e (xs ∷ ys ∷ rows)
cut_loop-CanBeFlat e f x xs ys rows is z =
    let cut : Becomes e f (xs ∷ ys ∷ rows) = cut_loop-Becomes e f x xs ys rows is z in
    (cut.0, cut.1, SameGenus-IsFlat e f cut.0 cut.2 z)
