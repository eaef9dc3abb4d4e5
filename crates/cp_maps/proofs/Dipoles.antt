-- Two vertices that are alone with their edges.
use Rattle.std.proofs.Common.{◌≡◌, ℕ, List, [], ◌∷◌, ◌++◌, append_assoc, sym, refl, ap, ◌∙◌, subst, inl, inr, ⊎_elim, suc, ◌*◌, arith, zero, ◌↔◌}
use Rattle.std.proofs.lemmas.List.{append-nil}
use Rattle.cp_lists.specs.CyclicLists.{Distinct, Has, Lacks}
use Rattle.cp_lists.specs.Rows.{flat}
use Rattle.cp_lists.proofs.DistinctLists.{Distinct-apart, Distinct-less, Distinct-middle, Has-append_cases, Has-append_left, Has-append_right, Has-split, Lacks-append_left, has_lacks}
use Rattle.cp_lists.proofs.TurnedLists.{turn_parts}
use Rattle.cp_orbits.proofs.OrbitLaws.{Permutes-same}
use Rattle.cp_faces.specs.Twins.{twin}
use Rattle.cp_faces.proofs.Twins.{twin-twin}
use Rattle.cp_maps.specs.Genus.{IsFlat, OneGenus}
use Rattle.cp_maps.specs.Maps.{IsMapOf, next_by}
use Rattle.cp_maps.specs.Mirrors.{mirror}
use Rattle.cp_maps.proofs.ContractedEdges.{contracted_edge-IsMapOf, contracted_edge-SameGenus}
use Rattle.cp_maps.proofs.CutLoops.{cut_loop-Apart}
use Rattle.cp_maps.proofs.Edges.{twin-OnePart}
use Rattle.cp_maps.proofs.FlatMaps.{IsFlat-agree}
use Rattle.cp_maps.proofs.Genus.{OneGenus-IsFlat, OneGenus-trans, SameGenus-IsFlat, SameGenus-sym}
use Rattle.cp_maps.proofs.MapLists.{IsMapOf-Permutes, IsMapOf-some, IsMapOf-swap, IsMapOf-turn, IsMapOf-unique, IsMapOf-unloose}
use Rattle.cp_maps.proofs.Mirrors.{mirror-cons}
use Rattle.cp_maps.proofs.ParallelEdges.{parallel_edge-IsMapOf, parallel_edge-SameGenus, parallel_edges-SameGenus}
use Rattle.cp_maps.proofs.Stocks.{loose_edge-OneGenus}

-- loose edges alone are flat
pub loose_edges-IsFlat : (e : ℕ) → IsFlat e (λ d. d)
loose_edges-IsFlat e = OneGenus-IsFlat 0 (λ d. d) e (λ d. d) (all e) (omega arith)
  where
    all : (k : ℕ) → OneGenus 0 (λ d. d) k (λ d. d)
    all zero = omega arith
    all (suc k) =
        OneGenus-trans 0 (λ d. d) k (λ d. d) (suc k) (λ d. d) (all k)
        (loose_edge-OneGenus k (λ d. d) (Permutes-same (2 * suc k)) refl refl)

-- two vertices that are alone with their edges, in reverse orders, make a flat map
pub mirrored_dipole-IsFlat : (e : ℕ) (f : ℕ → ℕ) (x : ℕ) (xs : List ℕ)
    → IsMapOf (2 * e) f ((x ∷ xs) ∷ (twin x ∷ mirror xs) ∷ []) → IsFlat e f
mirrored_dipole-IsFlat e f x xs is =
    let two : List (List ℕ) = (x ∷ []) ∷ (twin x ∷ []) ∷ [] in
    let ends : IsMapOf (2 * e) (next_by two) two = IsMapOf-some (2 * e) f ((x ∷ xs) ∷ (twin x ∷ mirror xs) ∷ []) two is
    (((λ h. (Distinct-apart x (x ∷ xs) (flat ((twin x ∷ mirror xs) ∷ [])) is.once (inl refl)).0 h), tt), (tt, tt))
    (λ d h. ⊎_elim (λ k. inl k) (λ k.
    ⊎_elim (λ l. Has-append_right d (x ∷ xs) (flat ((twin x ∷ mirror xs) ∷ [])) (inl l)) (λ l. absurd l) k) h) in
    let none : IsMapOf (2 * e) (next_by two) [] =
    IsMapOf-unloose (2 * e) (next_by two) (twin x) []
    (IsMapOf-unloose (2 * e) (next_by two) x ((twin x ∷ []) ∷ []) ends) in
    let plain : IsMapOf (2 * e) (λ d. d) [] = record { once = tt; below = tt; rings = tt; loose = λ d lt l. refl } in
    SameGenus-IsFlat e (next_by two) f
    (SameGenus-sym e f (next_by two)
    (parallel_edges-SameGenus e f (next_by two) x xs [] [] []
    (subst (λ us. IsMapOf (2 * e) f ((x ∷ us) ∷ (twin x ∷ mirror xs) ∷ [])) (sym (append-nil xs)) is) ends))
    (IsFlat-agree e (λ d. d) (next_by two) (Permutes-same (2 * e))
    (IsMapOf-unique (2 * e) (λ d. d) [] plain (next_by two) none) (loose_edges-IsFlat e))

-- what has a flat map stands behind no second edge
no_rest : (e : ℕ) (f : ℕ → ℕ) (x y : ℕ) (xs us vs : List ℕ)
    → IsMapOf (2 * e) f ((x ∷ y ∷ xs) ∷ (twin x ∷ (us ++ twin y ∷ vs)) ∷ [])
    → ((d : ℕ) → Has d (us ++ twin y ∷ vs) → Has (twin d) (y ∷ xs)) → IsFlat e f → vs ≡ []
no_rest e f x y xs us [] is back z = refl
no_rest e f x y xs us (b ∷ vs) is back z = absurd (
    cut_loop-Apart e g k y (xs ++ us) (b ∷ vs) [] is_g is_k
    (SameGenus-IsFlat e f g (contracted_edge-SameGenus e f g x (y ∷ xs) (us ++ twin y ∷ b ∷ vs) [] is whole) z)
    (twin b) b
    (Has-append_left (twin b) xs us (⊎_elim
    (λ h. absurd (lacks.0 (sym (twin-twin b) ∙ ap twin (sym h))))
    (λ h. h)
    (back b (Has-append_right b us (twin y ∷ b ∷ vs) (inr (inl refl))))))
    (inl refl)
    (twin-OnePart e k (IsMapOf-Permutes (2 * e) k ((xs ++ us) ∷ (b ∷ vs) ∷ []) is_k) b
    (IsMapOf-swap (2 * e) k (xs ++ us) (b ∷ vs) [] is_k).below.0)
    )
  where
    g : ℕ → ℕ
    g = next_by (((y ∷ xs) ++ (us ++ twin y ∷ b ∷ vs)) ∷ [])

    whole : IsMapOf (2 * e) g (((y ∷ xs) ++ (us ++ twin y ∷ b ∷ vs)) ∷ [])
    whole = contracted_edge-IsMapOf (2 * e) f x (y ∷ xs) (us ++ twin y ∷ b ∷ vs) [] is

    is_g : IsMapOf (2 * e) g ((y ∷ ((xs ++ us) ++ twin y ∷ b ∷ vs)) ∷ [])
    is_g = subst (λ ws. IsMapOf (2 * e) g ((y ∷ ws) ∷ [])) (sym (append_assoc xs us (twin y ∷ b ∷ vs))) whole

    k : ℕ → ℕ
    k = next_by ((xs ++ us) ∷ (b ∷ vs) ∷ [])

    is_k : IsMapOf (2 * e) k ((xs ++ us) ∷ (b ∷ vs) ∷ [])
    is_k = IsMapOf-some (2 * e) g ((y ∷ ((xs ++ us) ++ twin y ∷ b ∷ vs)) ∷ []) ((xs ++ us) ∷ (b ∷ vs) ∷ []) is_g
        (subst (λ ws. Distinct ((xs ++ us) ++ ws)) (sym (append-nil (b ∷ vs)))
        (Distinct-less (xs ++ us) (twin y) (b ∷ vs) is_g.rings.0.distinct.1))
        (λ d h. Has-append_left d (y ∷ ((xs ++ us) ++ twin y ∷ b ∷ vs)) [] (inr (⊎_elim
        (λ l. Has-append_left d (xs ++ us) (twin y ∷ b ∷ vs) l)
        (λ l. Has-append_right d (xs ++ us) (twin y ∷ b ∷ vs) (inr (subst (Has d) (append-nil (b ∷ vs)) l)))
        (Has-append_cases d (xs ++ us) ((b ∷ vs) ++ []) h))))

    lacks : Lacks (twin y) (b ∷ vs)
    lacks = (Distinct-middle (twin y) (xs ++ us) (b ∷ vs) is_g.rings.0.distinct.1).1

-- two vertices that are alone with their edges in a flat map have them in reverse orders
pub flat_dipole-mirror : (e : ℕ) (f : ℕ → ℕ) (x : ℕ) (xs ys : List ℕ)
    → IsMapOf (2 * e) f ((x ∷ xs) ∷ (twin x ∷ ys) ∷ []) → ((d : ℕ) → Has d xs → Has (twin d) ys)
    → ((d : ℕ) → Has d ys → Has (twin d) xs) → IsFlat e f → ys ≡ mirror xs
flat_dipole-mirror e f x [] [] is there back z = refl
flat_dipole-mirror e f x [] (b ∷ ys) is there back z = absurd (back b (inl refl))
flat_dipole-mirror e f x (y ∷ xs) ys is there back z =
    let s : (us : List ℕ) × (vs : List ℕ) × (ys ≡ us ++ twin y ∷ vs) × Lacks (twin y) us =
    Has-split (twin y) ys (there y (inl refl)) in
    let us : List ℕ = s.0 in
    let last : ys ≡ us ++ twin y ∷ [] = s.2 ∙ ap (λ ws. us ++ twin y ∷ ws)
    (no_rest e f x y xs us s.1 (subst (λ ws. IsMapOf (2 * e) f ((x ∷ y ∷ xs) ∷ (twin x ∷ ws) ∷ [])) s.2 is)
    (λ d h. back d (subst (Has d) (sym s.2) h)) z) in
    let is' : IsMapOf (2 * e) f ((x ∷ y ∷ xs) ∷ (twin x ∷ (us ++ twin y ∷ [])) ∷ []) =
    subst (λ ws. IsMapOf (2 * e) f ((x ∷ y ∷ xs) ∷ (twin x ∷ ws) ∷ [])) last is in
    let turned : IsMapOf (2 * e) f ((x ∷ y ∷ xs) ∷ (twin y ∷ twin x ∷ us) ∷ []) =
    IsMapOf-swap (2 * e) f (twin y ∷ twin x ∷ us) (x ∷ y ∷ xs) []
    (IsMapOf-turn (2 * e) f (twin x ∷ (us ++ twin y ∷ [])) (twin y ∷ twin x ∷ us) ((x ∷ y ∷ xs) ∷ [])
    (turn_parts (twin x ∷ us) (twin y ∷ []))
    (IsMapOf-swap (2 * e) f (x ∷ y ∷ xs) (twin x ∷ (us ++ twin y ∷ [])) [] is')) in
    let less : List (List ℕ) = (x ∷ xs) ∷ (twin x ∷ us) ∷ [] in
    let is_h : IsMapOf (2 * e) (next_by less) less = parallel_edge-IsMapOf (2 * e) f x y xs us [] turned in
    let fresh : Lacks y (xs ++ flat ((twin x ∷ ys) ∷ [])) = is.once.1.0 in
    let rest : us ≡ mirror xs = flat_dipole-mirror e (next_by less) x xs us is_h
    (λ d h. ⊎_elim (λ k. k)
    (λ k. ⊎_elim (λ q. absurd (has_lacks d xs h
    (subst (λ w. Lacks w xs) (sym (twin-twin y) ∙ ap twin q ∙ twin-twin d)
    (Lacks-append_left y xs (flat ((twin x ∷ ys) ∷ [])) fresh)))) (λ q. absurd q) k)
    (Has-append_cases (twin d) us (twin y ∷ []) (subst (Has (twin d)) last (there d (inr h)))))
    (λ d h. ⊎_elim (λ k. absurd (has_lacks d us h (subst (λ w. Lacks w us) (ap twin k ∙ twin-twin d) s.3))) (λ k. k)
    (back d (subst (Has d) (sym last) (Has-append_left d us (twin y ∷ []) h))))
    (SameGenus-IsFlat e f (next_by less) (parallel_edge-SameGenus e f (next_by less) x y xs us [] turned is_h) z) in
    last ∙ ap (λ ws. ws ++ twin y ∷ []) rest ∙ sym (mirror-cons y xs)

-- two vertices that are alone with their edges are flat where the orders are reverse
pub dipole-IsFlat : (e : ℕ) (f : ℕ → ℕ) (x : ℕ) (xs ys : List ℕ) → IsMapOf (2 * e) f ((x ∷ xs) ∷ (twin x ∷ ys) ∷ [])
    → ((d : ℕ) → Has d xs → Has (twin d) ys) → ((d : ℕ) → Has d ys → Has (twin d) xs) → IsFlat e f ↔ (ys ≡ mirror xs)
dipole-IsFlat e f x xs ys is there back = (
  flat_dipole-mirror e f x xs ys is there back,
  λ same. mirrored_dipole-IsFlat e f x xs
      (subst (λ ws. IsMapOf (2 * e) f ((x ∷ xs) ∷ (twin x ∷ ws) ∷ [])) same is),
)
