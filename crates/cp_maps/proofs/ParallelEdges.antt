-- Edges side by side are as one.
use Rattle.std.proofs.Common.{◌≡◌, ℕ, List, [], ◌∷◌, ◌++◌, append_assoc, sym, refl, ap, ◌∙◌, subst, inl, inr, ⊎_elim, ◌*◌}
use Rattle.std.proofs.lemmas.List.{append-nil}
use Rattle.cp_lists.specs.Rows.{flat}
use Rattle.cp_lists.proofs.DistinctLists.{Distinct-less, Has-append_cases, Has-append_left, Has-append_right}
use Rattle.cp_lists.proofs.TurnedLists.{turn_parts}
use Rattle.cp_faces.specs.Twins.{twin}
use Rattle.cp_faces.proofs.Twins.{twin-twin}
use Rattle.cp_maps.specs.Genus.{Becomes, SameGenus}
use Rattle.cp_maps.specs.Maps.{IsMapOf, next_by}
use Rattle.cp_maps.specs.Mirrors.{mirror}
use Rattle.cp_maps.proofs.ContractedEdges.{contracted_edge-IsMapOf, contracted_edge-SameGenus, trivial_loop-SameGenus}
use Rattle.cp_maps.proofs.Genus.{SameGenus-sym, SameGenus-trans}
use Rattle.cp_maps.proofs.MapLists.{IsMapOf-some, IsMapOf-swap, IsMapOf-turn}
use Rattle.cp_maps.proofs.MergedVertices.{same_lists-SameGenus}
use Rattle.cp_maps.proofs.Mirrors.{mirror-cons}

-- a second edge beside an edge keeps the genus
pub parallel_edge-SameGenus : (e : ℕ) (f g : ℕ → ℕ) (x y : ℕ) (xs ys : List ℕ) (rows : List (List ℕ))
    → IsMapOf (2 * e) f ((x ∷ y ∷ xs) ∷ (twin y ∷ twin x ∷ ys) ∷ rows)
    → IsMapOf (2 * e) g ((x ∷ xs) ∷ (twin x ∷ ys) ∷ rows) → SameGenus e f g
parallel_edge-SameGenus e f g x y xs ys rows is_f is_g =
    let turned : IsMapOf (2 * e) f ((x ∷ y ∷ xs) ∷ (twin x ∷ (ys ++ twin y ∷ [])) ∷ rows) =
    IsMapOf-swap (2 * e) f (twin x ∷ (ys ++ twin y ∷ [])) (x ∷ y ∷ xs) rows
    (IsMapOf-turn (2 * e) f (twin y ∷ twin x ∷ ys) (twin x ∷ (ys ++ twin y ∷ [])) ((x ∷ y ∷ xs) ∷ rows)
    (turn_parts (twin y ∷ []) (twin x ∷ ys))
    (IsMapOf-swap (2 * e) f (x ∷ y ∷ xs) (twin y ∷ twin x ∷ ys) rows is_f)) in
    let one : IsMapOf (2 * e) (next_by (((y ∷ xs) ++ (ys ++ twin y ∷ [])) ∷ rows))
    (((y ∷ xs) ++ (ys ++ twin y ∷ [])) ∷ rows) =
    contracted_edge-IsMapOf (2 * e) f x (y ∷ xs) (ys ++ twin y ∷ []) rows turned in
    let two : IsMapOf (2 * e) (next_by ((xs ++ ys) ∷ rows)) ((xs ++ ys) ∷ rows) =
    contracted_edge-IsMapOf (2 * e) g x xs ys rows is_g in
    let h : ℕ → ℕ = next_by (((y ∷ xs) ++ (ys ++ twin y ∷ [])) ∷ rows) in
    let k : ℕ → ℕ = next_by ((xs ++ ys) ∷ rows) in
    let is_h : IsMapOf (2 * e) h ((twin y ∷ y ∷ (xs ++ ys)) ∷ rows) =
    IsMapOf-turn (2 * e) h ((y ∷ (xs ++ ys)) ++ twin y ∷ []) (twin y ∷ y ∷ (xs ++ ys)) rows
    (turn_parts (y ∷ (xs ++ ys)) (twin y ∷ []))
    (subst (λ zs. IsMapOf (2 * e) h (zs ∷ rows)) (sym (append_assoc (y ∷ xs) ys (twin y ∷ []))) one) in
    SameGenus-trans e f h g (contracted_edge-SameGenus e f h x (y ∷ xs) (ys ++ twin y ∷ []) rows turned one)
    (SameGenus-trans e h k g
    (SameGenus-sym e k h (trivial_loop-SameGenus e k h (twin y) (xs ++ ys) rows two
    (subst (λ z. IsMapOf (2 * e) h ((twin y ∷ z ∷ (xs ++ ys)) ∷ rows)) (sym (twin-twin y)) is_h)))
    (SameGenus-sym e g k (contracted_edge-SameGenus e g k x xs ys rows is_g two)))

-- the lists of edges side by side, without the second
pub parallel_edge-IsMapOf : (n : ℕ) (f : ℕ → ℕ) (x y : ℕ) (xs ys : List ℕ) (rows : List (List ℕ))
    → IsMapOf n f ((x ∷ y ∷ xs) ∷ (twin y ∷ twin x ∷ ys) ∷ rows)
    → IsMapOf n (next_by ((x ∷ xs) ∷ (twin x ∷ ys) ∷ rows)) ((x ∷ xs) ∷ (twin x ∷ ys) ∷ rows)
parallel_edge-IsMapOf n f x y xs ys rows is =
    IsMapOf-some n f ((x ∷ y ∷ xs) ∷ (twin y ∷ twin x ∷ ys) ∷ rows) ((x ∷ xs) ∷ (twin x ∷ ys) ∷ rows) is
    (Distinct-less (x ∷ xs) (twin y) ((twin x ∷ ys) ++ flat rows)
    (Distinct-less (x ∷ []) y (xs ++ flat ((twin y ∷ twin x ∷ ys) ∷ rows)) is.once))
    (λ d h. ⊎_elim
    (λ k. Has-append_left d (x ∷ y ∷ xs) (flat ((twin y ∷ twin x ∷ ys) ∷ rows))
    (⊎_elim (λ e. inl e) (λ l. inr (inr l)) k))
    (λ k. Has-append_right d (x ∷ y ∷ xs) (flat ((twin y ∷ twin x ∷ ys) ∷ rows)) (inr k))
    (Has-append_cases d (x ∷ xs) (flat ((twin x ∷ ys) ∷ rows)) h))

-- a second edge beside an edge can be taken out
pub parallel_edge-Becomes : (e : ℕ) (f : ℕ → ℕ) (x y : ℕ) (xs ys : List ℕ) (rows : List (List ℕ))
    → IsMapOf (2 * e) f ((x ∷ y ∷ xs) ∷ (twin y ∷ twin x ∷ ys) ∷ rows) → Becomes e f ((x ∷ xs) ∷ (twin x ∷ ys) ∷ rows)
parallel_edge-Becomes e f x y xs ys rows is =
    let g : ℕ → ℕ = next_by ((x ∷ xs) ∷ (twin x ∷ ys) ∷ rows) in
    let is_g : IsMapOf (2 * e) g ((x ∷ xs) ∷ (twin x ∷ ys) ∷ rows) =
    parallel_edge-IsMapOf (2 * e) f x y xs ys rows is in
    (g, is_g, parallel_edge-SameGenus e f g x y xs ys rows is is_g)

-- edges side by side can be taken out but for one
pub parallel_edges-Becomes : (e : ℕ) (f : ℕ → ℕ) (x : ℕ) (zs xs ys : List ℕ) (rows : List (List ℕ))
    → IsMapOf (2 * e) f ((x ∷ (zs ++ xs)) ∷ (twin x ∷ (ys ++ mirror zs)) ∷ rows)
    → Becomes e f ((x ∷ xs) ∷ (twin x ∷ ys) ∷ rows)
parallel_edges-Becomes e f x [] xs ys rows is_f =
    (f, subst (λ us. IsMapOf (2 * e) f ((x ∷ xs) ∷ (twin x ∷ us) ∷ rows)) (append-nil ys) is_f, refl)
parallel_edges-Becomes e f x (y ∷ zs) xs ys rows is_f =
    let regroup : ys ++ mirror (y ∷ zs) ≡ (ys ++ mirror zs) ++ twin y ∷ [] = ap (λ us. ys ++ us) (mirror-cons y zs)
    ∙ sym (append_assoc ys (mirror zs) (twin y ∷ [])) in
    let turned : IsMapOf (2 * e) f ((x ∷ y ∷ (zs ++ xs)) ∷ (twin y ∷ twin x ∷ (ys ++ mirror zs)) ∷ rows) =
    IsMapOf-swap (2 * e) f (twin y ∷ twin x ∷ (ys ++ mirror zs)) (x ∷ y ∷ (zs ++ xs)) rows
    (IsMapOf-turn (2 * e) f (twin x ∷ ((ys ++ mirror zs) ++ twin y ∷ [])) (twin y ∷ twin x ∷ (ys ++ mirror zs))
    ((x ∷ y ∷ (zs ++ xs)) ∷ rows) (turn_parts (twin x ∷ (ys ++ mirror zs)) (twin y ∷ []))
    (IsMapOf-swap (2 * e) f (x ∷ y ∷ (zs ++ xs)) (twin x ∷ ((ys ++ mirror zs) ++ twin y ∷ [])) rows
    (subst (λ us. IsMapOf (2 * e) f ((x ∷ y ∷ (zs ++ xs)) ∷ (twin x ∷ us) ∷ rows)) regroup is_f))) in
    let one : Becomes e f ((x ∷ (zs ++ xs)) ∷ (twin x ∷ (ys ++ mirror zs)) ∷ rows) =
    parallel_edge-Becomes e f x y (zs ++ xs) (ys ++ mirror zs) rows turned in
    let rest : Becomes e one.0 ((x ∷ xs) ∷ (twin x ∷ ys) ∷ rows) =
    parallel_edges-Becomes e one.0 x zs xs ys rows one.1 in
    (rest.0, rest.1, SameGenus-trans e f one.0 rest.0 one.2 rest.2)

-- any number of edges beside an edge keep the genus
pub parallel_edges-SameGenus : (e : ℕ) (f g : ℕ → ℕ) (x : ℕ) (zs xs ys : List ℕ) (rows : List (List ℕ))
    → IsMapOf (2 * e) f ((x ∷ (zs ++ xs)) ∷ (twin x ∷ (ys ++ mirror zs)) ∷ rows)
    → IsMapOf (2 * e) g ((x ∷ xs) ∷ (twin x ∷ ys) ∷ rows) → SameGenus e f g
parallel_edges-SameGenus e f g x zs xs ys rows is_f is_g =
    let h : Becomes e f ((x ∷ xs) ∷ (twin x ∷ ys) ∷ rows) = parallel_edges-Becomes e f x zs xs ys rows is_f in
    SameGenus-trans e f h.0 g h.2 (same_lists-SameGenus e h.0 g ((x ∷ xs) ∷ (twin x ∷ ys) ∷ rows) h.1 is_g)
