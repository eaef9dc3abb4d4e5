-- Two vertices of a side made one: at a corner of another vertex, or between two components.
use Rattle.std.proofs.Common.{◌≡◌, ℕ, ◌*◌, ◌<◌, List, [], ◌∷◌, ◌++◌, append_assoc, sym, refl, ap, ◌∙◌, subst, inl}
use Rattle.cp_lists.specs.CyclicLists.{Has}
use Rattle.cp_lists.specs.Turns.{IsTurn}
use Rattle.cp_lists.proofs.CyclicLists.{next_from_at}
use Rattle.cp_lists.proofs.TurnedLists.{turn-refl, turn_parts}
use Rattle.cp_orbits.specs.Classes.{graph, labels}
use Rattle.cp_orbits.specs.Orbits.{Permutes}
use Rattle.cp_faces.specs.Faces.{face_upto}
use Rattle.cp_faces.specs.Twins.{twin}
use Rattle.cp_faces.proofs.Twins.{twin-twin}
use Rattle.cp_maps.specs.Genus.{Becomes, OneFace, OnePart}
use Rattle.cp_maps.specs.Maps.{IsMapOf, swapped}
use Rattle.cp_maps.proofs.Edges.{lt_twin, step-OneFace}
use Rattle.cp_maps.proofs.ListFacts.{from_dart}
use Rattle.cp_maps.proofs.MapLists.{IsMapOf-Permutes, IsMapOf-among, IsMapOf-front, IsMapOf-merged, IsMapOf-swap, IsMapOf-third, IsMapOf-turn}
use Rattle.cp_maps.proofs.MergedVertices.{merged_between-SameGenus, merged_within-SameGenus}
use Rattle.cp_mergelaw.specs.Merges.{CanMerge}

-- where y follows x, the twin of x and the dart behind the twin of y are in one face
pub corner-OneFace : (e : ℕ) (f : ℕ → ℕ) (x y b : ℕ) → Permutes (2 * e) f → x < 2 * e → y < 2 * e → f x ≡ y
    → f (twin y) ≡ b → OneFace e f (twin x) b
corner-OneFace e f x y b perm ltx lty next behind =
    let label : ℕ → ℕ = labels (graph (face_upto f e) (2 * e)) in
    step-OneFace e f perm (twin x) (lt_twin e f perm x ltx) ∙ ap label (ap f (twin-twin x) ∙ next)
    ∙ step-OneFace e f perm y lty ∙ ap label behind

-- two lists, the one begun with the twin of x, the other behind the twin of y, where y follows x in a third
module _ (e : ℕ) (f : ℕ → ℕ) (x y b : ℕ) (xs ys zs : List ℕ) (rows : List (List ℕ))
    (is : IsMapOf (2 * e) f ((twin x ∷ xs) ∷ (b ∷ ys) ∷ (x ∷ y ∷ zs) ∷ rows)) (behind : f (twin y) ≡ b) where
  -- the third list in front
  front : IsMapOf (2 * e) f ((x ∷ y ∷ zs) ∷ (twin x ∷ xs) ∷ (b ∷ ys) ∷ rows)
  front = IsMapOf-third (2 * e) f (twin x ∷ xs) (b ∷ ys) (x ∷ y ∷ zs) rows is

  -- their first darts are in one face
  firsts-OneFace : OneFace e f (twin x) b
  firsts-OneFace =
      corner-OneFace e f x y b (IsMapOf-Permutes (2 * e) f ((x ∷ y ∷ zs) ∷ (twin x ∷ xs) ∷ (b ∷ ys) ∷ rows) front)
      front.below.0 front.below.1.0 (front.rings.0.along x (inl refl) ∙ next_from_at x x x (y ∷ zs) refl) behind

  -- so the lists can be put one behind the other
  corner_merged-Becomes : Becomes e f ((twin x ∷ (xs ++ b ∷ ys)) ∷ (x ∷ y ∷ zs) ∷ rows)
  corner_merged-Becomes =
      let is_g = IsMapOf-merged (2 * e) f (twin x) b xs ys ((x ∷ y ∷ zs) ∷ rows) is in (
        swapped (twin x) b f,
        is_g,
        merged_within-SameGenus e f (swapped (twin x) b f) (twin x) b xs ys ((x ∷ y ∷ zs) ∷ rows) is is_g
            firsts-OneFace,
      )

-- two lists begun with the twins of x and y, where y follows x in a third: the one, and then the other from behind its
-- first dart on
pub twins_merged-Becomes : (e : ℕ) (f : ℕ → ℕ) (x y : ℕ) (xs ys zs : List ℕ) (rows : List (List ℕ))
    → IsMapOf (2 * e) f ((twin x ∷ xs) ∷ (twin y ∷ ys) ∷ (x ∷ y ∷ zs) ∷ rows)
    → Becomes e f ((twin x ∷ (xs ++ (ys ++ twin y ∷ []))) ∷ (x ∷ y ∷ zs) ∷ rows)
twins_merged-Becomes e f x y xs [] zs rows is =
    corner_merged-Becomes e f x y (twin y) xs [] zs rows is
    (is.rings.1.0.along (twin y) (inl refl) ∙ next_from_at (twin y) (twin y) (twin y) [] refl)
twins_merged-Becomes e f x y xs (b ∷ ys) zs rows is =
    corner_merged-Becomes e f x y b xs (ys ++ twin y ∷ []) zs rows
    (IsMapOf-swap (2 * e) f (b ∷ (ys ++ twin y ∷ [])) (twin x ∷ xs) ((x ∷ y ∷ zs) ∷ rows)
    (IsMapOf-turn (2 * e) f (twin y ∷ b ∷ ys) (b ∷ (ys ++ twin y ∷ [])) ((twin x ∷ xs) ∷ (x ∷ y ∷ zs) ∷ rows)
    (turn_parts (twin y ∷ []) (b ∷ ys))
    (IsMapOf-swap (2 * e) f (twin x ∷ xs) (twin y ∷ b ∷ ys) ((x ∷ y ∷ zs) ∷ rows) is)))
    (is.rings.1.0.along (twin y) (inl refl) ∙ next_from_at (twin y) (twin y) (twin y) (b ∷ ys) refl)

-- it is the same which of the two lists comes first
pub CanMerge-swap : (e : ℕ) (f : ℕ → ℕ) (xs ys : List ℕ) (rows : List (List ℕ)) → CanMerge e f xs ys rows
    → CanMerge e f ys xs rows
CanMerge-swap e f xs ys rows m =
    let b : Becomes e f ((m.0 ++ m.1) ∷ rows) = m.4 in
    (m.1, m.0, m.3, m.2, (b.0, IsMapOf-turn (2 * e) b.0 (m.0 ++ m.1) (m.1 ++ m.0) rows (turn_parts m.0 m.1) b.1, b.2))

-- two lists to which two darts that follow each other at another vertex lead can be merged
pub corner-CanMerge : (e : ℕ) (f : ℕ → ℕ) (first second : List ℕ) (x y : ℕ) (us vs : List ℕ)
    (rest before behind : List (List ℕ)) → Has (twin x) first → Has (twin y) second
    → IsMapOf (2 * e) f (first ∷ second ∷ (rest ++ (before ++ (us ++ x ∷ y ∷ vs) ∷ behind)))
    → CanMerge e f first second (rest ++ (before ++ (us ++ x ∷ y ∷ vs) ∷ behind))
corner-CanMerge e f first second x y us vs rest before behind hx hy is = (
  twin x ∷ xs,
  ys ++ twin y ∷ [],
  subst (λ ws. IsTurn ws (twin x ∷ xs)) (sym s.2) (turn_parts s.0 (twin x ∷ s.1)),
  subst (λ ws. IsTurn ws (ys ++ twin y ∷ [])) (sym t.2)
      (subst (IsTurn (t.0 ++ twin y ∷ t.1)) (sym (append_assoc t.1 t.0 (twin y ∷ [])))
      (subst (λ ws. IsTurn ws (t.1 ++ (t.0 ++ twin y ∷ []))) (append_assoc t.0 (twin y ∷ []) t.1)
      (turn_parts (t.0 ++ twin y ∷ []) t.1))),
  (b.0, back, b.2),
)
  where
    n : ℕ
    n = 2 * e

    s : (ps : List ℕ) × (qs : List ℕ) × (first ≡ ps ++ twin x ∷ qs)
    s = from_dart (twin x) first hx

    t : (ps : List ℕ) × (qs : List ℕ) × (second ≡ ps ++ twin y ∷ qs)
    t = from_dart (twin y) second hy

    xs : List ℕ
    xs = s.1 ++ s.0

    ys : List ℕ
    ys = t.1 ++ t.0

    o : List ℕ
    o = us ++ x ∷ y ∷ vs

    turned : List ℕ
    turned = x ∷ y ∷ (vs ++ us)

    kept : List (List ℕ)
    kept = (rest ++ before) ++ behind

    in_front : IsMapOf n f (turned ∷ first ∷ second ∷ kept)
    in_front =
        IsMapOf-turn n f o turned (first ∷ second ∷ kept) (turn_parts us (x ∷ y ∷ vs))
        (IsMapOf-front n f o (first ∷ second ∷ (rest ++ before)) behind
        (subst (λ rows. IsMapOf n f (first ∷ second ∷ rows)) (sym (append_assoc rest before (o ∷ behind))) is))

    second_turned : IsMapOf n f ((twin y ∷ ys) ∷ turned ∷ first ∷ kept)
    second_turned =
        IsMapOf-turn n f (t.0 ++ twin y ∷ t.1) (twin y ∷ ys) (turned ∷ first ∷ kept) (turn_parts t.0 (twin y ∷ t.1))
        (subst (λ ws. IsMapOf n f (ws ∷ turned ∷ first ∷ kept)) t.2
        (IsMapOf-third n f turned first second kept in_front))

    first_turned : IsMapOf n f ((twin x ∷ xs) ∷ (twin y ∷ ys) ∷ turned ∷ kept)
    first_turned =
        IsMapOf-turn n f (s.0 ++ twin x ∷ s.1) (twin x ∷ xs) ((twin y ∷ ys) ∷ turned ∷ kept)
        (turn_parts s.0 (twin x ∷ s.1))
        (subst (λ ws. IsMapOf n f (ws ∷ (twin y ∷ ys) ∷ turned ∷ kept)) s.2
        (IsMapOf-third n f (twin y ∷ ys) turned first kept second_turned))

    all : List ℕ
    all = twin x ∷ (xs ++ (ys ++ twin y ∷ []))

    b : Becomes e f (all ∷ turned ∷ kept)
    b = twins_merged-Becomes e f x y xs ys (vs ++ us) kept first_turned

    back : IsMapOf n b.0 (all ∷ (rest ++ (before ++ o ∷ behind)))
    back = subst (λ rows. IsMapOf n b.0 (all ∷ rows)) (append_assoc rest before (o ∷ behind))
        (IsMapOf-among n b.0 o (all ∷ (rest ++ before)) behind
        (IsMapOf-turn n b.0 turned o (all ∷ kept) (turn_parts (x ∷ y ∷ vs) us)
        (IsMapOf-swap n b.0 all turned kept b.1)))

-- two lists of two components can be merged
pub two_parts-CanMerge : (e : ℕ) (f : ℕ → ℕ) (a b : ℕ) (xs ys : List ℕ) (rows : List (List ℕ))
    → IsMapOf (2 * e) f ((a ∷ xs) ∷ (b ∷ ys) ∷ rows) → (OnePart e f a b → ⊥) → CanMerge e f (a ∷ xs) (b ∷ ys) rows
two_parts-CanMerge e f a b xs ys rows is two =
    let is_g = IsMapOf-merged (2 * e) f a b xs ys rows is in (
      a ∷ xs,
      b ∷ ys,
      turn-refl (a ∷ xs),
      turn-refl (b ∷ ys),
      (swapped a b f, is_g, merged_between-SameGenus e f (swapped a b f) a b xs ys rows is is_g two),
    )
