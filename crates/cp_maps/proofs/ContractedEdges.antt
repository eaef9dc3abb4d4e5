-- An edge hung in, an edge that is a loop with its darts side by side, an edge contracted, and a vertex expanded.
use Rattle.std.proofs.Common.{◌≡◌, ℕ, ◌<◌, ◌≢◌, List, [], ◌∷◌, ◌++◌, append_assoc, sym, refl, ap, ◌∙◌, subst, inl, inr, ⊎_elim, ◌*◌, arith, map}
use Rattle.std.proofs.lemmas.List.{append-nil}
use Rattle.cp_lists.specs.CyclicLists.{Distinct, Has, Lacks, but}
use Rattle.cp_lists.specs.Rows.{flat}
use Rattle.cp_lists.specs.Turns.{IsTurn}
use Rattle.cp_lists.proofs.CyclicLists.{next_from_at}
use Rattle.cp_lists.proofs.DistinctLists.{Distinct-apart, Distinct-apart_right, Distinct-append, Distinct-append_left, Distinct-append_right, Distinct-less, Has-append_cases, Has-append_left, Has-append_right, Has-but, Lacks-append, Lacks-append_left, Lacks-append_right, but-Distinct, but-Has, but-Lacks, has_lacks}
use Rattle.cp_orbits.specs.Classes.{graph, labels}
use Rattle.cp_orbits.specs.Orbits.{Permutes}
use Rattle.cp_orbits.proofs.OrbitLaws.{label_step}
use Rattle.cp_faces.specs.Faces.{face_upto}
use Rattle.cp_faces.specs.Twins.{twin}
use Rattle.cp_faces.proofs.Merges.{face_upto-twin}
use Rattle.cp_faces.proofs.Twins.{twin-below, twin-other, twin-twin}
use Rattle.cp_maps.specs.Genus.{Becomes, OneFace, SameGenus}
use Rattle.cp_maps.specs.Maps.{IsMapOf, next_by, swapped}
use Rattle.cp_maps.proofs.Edges.{lt_twin, slid-SameGenus, swapped_pendant-SameGenus}
use Rattle.cp_maps.proofs.Genus.{SameGenus-sym, SameGenus-trans}
use Rattle.cp_maps.proofs.ListFacts.{Below-from, below_item, map-agree}
use Rattle.cp_maps.proofs.MapLists.{IsMapOf-Permutes, IsMapOf-by, IsMapOf-loose, IsMapOf-merged, IsMapOf-some, IsMapOf-split, IsMapOf-swap, IsMapOf-third, IsMapOf-turn, IsMapOf-unbare, IsMapOf-unloose, other_vertex}
use Rattle.cp_maps.proofs.MergedVertices.{merged_within-SameGenus, same_lists-SameGenus}
use Rattle.cp_maps.proofs.NamedLists.{named_front, two_named_front}

-- an edge hung in at a vertex, whose other dart stands alone
pub pendant-SameGenus : (e : ℕ) (f g : ℕ → ℕ) (x : ℕ) (xs : List ℕ) (rows : List (List ℕ))
    → IsMapOf (2 * e) f (xs ∷ rows) → IsMapOf (2 * e) g ((x ∷ xs) ∷ rows) → Lacks (twin x) (flat (xs ∷ rows))
    → SameGenus e f g
pendant-SameGenus e f g x [] rows is_f is_g alone =
    same_lists-SameGenus e f g rows (IsMapOf-unbare (2 * e) f rows is_f) (IsMapOf-unloose (2 * e) g x rows is_g)
pendant-SameGenus e f g x (a ∷ xs) rows is_f is_g alone =
    let perm = IsMapOf-Permutes (2 * e) f ((a ∷ xs) ∷ rows) is_f in
    let ltx : x < 2 * e = is_g.below.0 in
    let far : Lacks x (flat ((a ∷ xs) ∷ rows)) = is_g.once.0 in
    SameGenus-trans e f (swapped x a f) g
    (swapped_pendant-SameGenus e f perm x ltx (is_f.loose x ltx far)
    (is_f.loose (twin x) (lt_twin e f perm x ltx) alone) a is_f.below.0 far.0 alone.0)
    (same_lists-SameGenus e (swapped x a f) g ((x ∷ a ∷ xs) ∷ rows)
    (IsMapOf-merged (2 * e) f x a [] xs rows (IsMapOf-loose (2 * e) f ((a ∷ xs) ∷ rows) is_f x ltx far)) is_g)

-- an edge whose two darts stand side by side
pub trivial_loop-SameGenus : (e : ℕ) (f g : ℕ → ℕ) (x : ℕ) (xs : List ℕ) (rows : List (List ℕ))
    → IsMapOf (2 * e) f (xs ∷ rows) → IsMapOf (2 * e) g ((x ∷ twin x ∷ xs) ∷ rows) → SameGenus e f g
trivial_loop-SameGenus e f g x xs rows is_f is_g =
    let far : Lacks x (twin x ∷ flat (xs ∷ rows)) = is_g.once.0 in
    let far_twin : Lacks (twin x) (flat (xs ∷ rows)) = is_g.once.1.0 in
    let ltx : x < 2 * e = is_g.below.0 in
    let hung : ℕ → ℕ = swapped x (twin x) g in
    let is_hung : IsMapOf (2 * e) hung ((x ∷ []) ∷ (twin x ∷ xs) ∷ rows) =
    IsMapOf-split (2 * e) g x (twin x) [] xs rows is_g in
    let perm : Permutes (2 * e) hung = IsMapOf-Permutes (2 * e) hung ((x ∷ []) ∷ (twin x ∷ xs) ∷ rows) is_hung in
    let alone : hung x ≡ x = is_hung.rings.0.along x (inl refl) ∙ next_from_at x x x [] refl in
    let face : OneFace e hung x (twin x) =
    sym (label_step (face_upto hung e) (2 * e) (twin x) (lt_twin e hung perm x ltx)
    ∙ ap (labels (graph (face_upto hung e) (2 * e)))
    (face_upto-twin e hung (twin x) (lt_twin e hung perm x ltx) ∙ ap hung (twin-twin x) ∙ alone)) in
    SameGenus-trans e f hung g
    (pendant-SameGenus e f hung (twin x) xs rows is_f (IsMapOf-unloose (2 * e) hung x ((twin x ∷ xs) ∷ rows) is_hung)
    (subst (λ y. Lacks y (flat (xs ∷ rows))) (sym (twin-twin x)) far.1))
    (merged_within-SameGenus e hung g x (twin x) [] xs rows is_hung is_g face)

-- an edge contracted, or a vertex expanded, keeps the genus
pub contracted_edge-SameGenus : (e : ℕ) (f g : ℕ → ℕ) (x : ℕ) (xs ys : List ℕ) (rows : List (List ℕ))
    → IsMapOf (2 * e) f ((x ∷ xs) ∷ (twin x ∷ ys) ∷ rows) → IsMapOf (2 * e) g ((xs ++ ys) ∷ rows) → SameGenus e f g
contracted_edge-SameGenus e f g x xs [] rows is_f is_g = SameGenus-sym e g f (pendant-SameGenus e g f x xs rows
    (subst (λ zs. IsMapOf (2 * e) g (zs ∷ rows)) (append-nil xs) is_g)
    (IsMapOf-unloose (2 * e) f (twin x) ((x ∷ xs) ∷ rows) (IsMapOf-swap (2 * e) f (x ∷ xs) (twin x ∷ []) rows is_f))
    (Lacks-append (twin x) xs (flat rows)
    (Distinct-apart_right (twin x) (x ∷ xs) (twin x ∷ flat rows) is_f.once (inl refl)).1
    (Distinct-append_right (x ∷ xs) (twin x ∷ flat rows) is_f.once).0))
contracted_edge-SameGenus e f g x xs (b ∷ ys) rows is_f is_g =
    let n : ℕ = 2 * e in
    let perm = IsMapOf-Permutes (2 * e) f ((x ∷ xs) ∷ (twin x ∷ b ∷ ys) ∷ rows) is_f in
    let far : Lacks (twin x) (x ∷ xs) =
    Distinct-apart_right (twin x) (x ∷ xs) (flat ((twin x ∷ b ∷ ys) ∷ rows)) is_f.once (inl refl) in
    let rest : Distinct (flat ((twin x ∷ b ∷ ys) ∷ rows)) =
    Distinct-append_right (x ∷ xs) (flat ((twin x ∷ b ∷ ys) ∷ rows)) is_f.once in
    let behind : f (twin x) ≡ b = is_f.rings.1.0.along (twin x) (inl refl)
    ∙ next_from_at (twin x) (twin x) (twin x) (b ∷ ys) refl in
    let freed : ℕ → ℕ = swapped (twin x) b f in
    let slid : ℕ → ℕ = swapped x b freed in
    let is_freed : IsMapOf (2 * e) freed ((twin x ∷ []) ∷ (b ∷ ys) ∷ (x ∷ xs) ∷ rows) =
    IsMapOf-split (2 * e) f (twin x) b [] ys ((x ∷ xs) ∷ rows)
    (IsMapOf-swap (2 * e) f (x ∷ xs) (twin x ∷ b ∷ ys) rows is_f) in
    let is_slid : IsMapOf (2 * e) slid ((x ∷ (xs ++ b ∷ ys)) ∷ rows) = IsMapOf-merged (2 * e) freed x b xs ys rows
    (IsMapOf-unloose (2 * e) freed (twin x) ((x ∷ xs) ∷ (b ∷ ys) ∷ rows)
    (IsMapOf-swap (2 * e) freed (x ∷ xs) (twin x ∷ []) ((b ∷ ys) ∷ rows)
    (IsMapOf-third (2 * e) freed (twin x ∷ []) (b ∷ ys) (x ∷ xs) rows is_freed))) in
    SameGenus-trans e f slid g
    (slid-SameGenus e f perm x is_f.below.0 b behind (λ h. rest.0.0 h)
    (other_vertex (2 * e) f (x ∷ xs) ((twin x ∷ b ∷ ys) ∷ rows) is_f x (twin x) (inl refl) far))
    (SameGenus-sym e g slid (pendant-SameGenus e g slid x (xs ++ b ∷ ys) rows is_g is_slid
    (Lacks-append (twin x) (xs ++ b ∷ ys) (flat rows)
    (Lacks-append (twin x) xs (b ∷ ys) far.1 (Lacks-append_left (twin x) (b ∷ ys) (flat rows) rest.0))
    (Lacks-append_right (twin x) (b ∷ ys) (flat rows) rest.0))))

-- there is a map with the lists of a contracted edge
pub contracted_edge-IsMapOf : (n : ℕ) (f : ℕ → ℕ) (x : ℕ) (xs ys : List ℕ) (rows : List (List ℕ))
    → IsMapOf n f ((x ∷ xs) ∷ (twin x ∷ ys) ∷ rows) → IsMapOf n (next_by ((xs ++ ys) ∷ rows)) ((xs ++ ys) ∷ rows)
contracted_edge-IsMapOf n f x xs ys rows is = IsMapOf-some n f ((x ∷ xs) ∷ (twin x ∷ ys) ∷ rows) ((xs ++ ys) ∷ rows) is
    (subst Distinct (sym (append_assoc xs ys (flat rows))) (Distinct-less xs (twin x) (ys ++ flat rows) is.once.1))
    (λ d h. inr (⊎_elim
    (λ k. Has-append_left d xs (twin x ∷ (ys ++ flat rows)) k)
    (λ k. Has-append_right d xs (twin x ∷ (ys ++ flat rows)) (inr k))
    (Has-append_cases d xs (ys ++ flat rows) (subst (Has d) (append_assoc xs ys (flat rows)) h))))

-- an edge can be contracted: some map with the lists then has the genus
pub contracted_edge-Becomes : (e : ℕ) (f : ℕ → ℕ) (x : ℕ) (xs ys : List ℕ) (rows : List (List ℕ))
    → IsMapOf (2 * e) f ((x ∷ xs) ∷ (twin x ∷ ys) ∷ rows) → Becomes e f ((xs ++ ys) ∷ rows)
contracted_edge-Becomes e f x xs ys rows is =
    let one : IsMapOf (2 * e) (next_by ((xs ++ ys) ∷ rows)) ((xs ++ ys) ∷ rows) =
    contracted_edge-IsMapOf (2 * e) f x xs ys rows is in
    (next_by ((xs ++ ys) ∷ rows), one, contracted_edge-SameGenus e f (next_by ((xs ++ ys) ∷ rows)) x xs ys rows is one)

-- an edge whose darts stand side by side can be taken out
pub trivial_loop-Becomes : (e : ℕ) (f : ℕ → ℕ) (x : ℕ) (xs : List ℕ) (rows : List (List ℕ))
    → IsMapOf (2 * e) f ((x ∷ twin x ∷ xs) ∷ rows) → Becomes e f (xs ∷ rows)
trivial_loop-Becomes e f x xs rows is =
    let one : IsMapOf (2 * e) (next_by (xs ∷ rows)) (xs ∷ rows) =
    IsMapOf-some (2 * e) f ((x ∷ twin x ∷ xs) ∷ rows) (xs ∷ rows) is is.once.1.1 (λ d h. inr (inr h)) in (
      next_by (xs ∷ rows),
      one,
      SameGenus-sym e (next_by (xs ∷ rows)) f
          (trivial_loop-SameGenus e (next_by (xs ∷ rows)) f x xs rows one is),
    )

-- a vertex expanded: with a loose edge there is a map
pub expanded_vertex-Becomes : (e : ℕ) (f : ℕ → ℕ) (x : ℕ) (xs ys : List ℕ) (rows : List (List ℕ))
    → IsMapOf (2 * e) f ((xs ++ ys) ∷ rows) → x < 2 * e → Lacks x (flat ((xs ++ ys) ∷ rows))
    → Lacks (twin x) (flat ((xs ++ ys) ∷ rows)) → Becomes e f ((x ∷ xs) ∷ (twin x ∷ ys) ∷ rows)
expanded_vertex-Becomes e f x xs ys rows is lt far far_twin =
    let regroup : (xs ++ ys) ++ flat rows ≡ xs ++ (ys ++ flat rows) = append_assoc xs ys (flat rows) in
    let lacks : Lacks x (xs ++ (ys ++ flat rows)) = subst (Lacks x) regroup far in
    let lacks_twin : Lacks (twin x) (xs ++ (ys ++ flat rows)) = subst (Lacks (twin x)) regroup far_twin in
    let once : Distinct (xs ++ (ys ++ flat rows)) = subst Distinct regroup is.once in
    let row : List (List ℕ) = (x ∷ xs) ∷ (twin x ∷ ys) ∷ rows in
    let lt_t : twin x < 2 * e = twin-below (2 * e) x (omega arith) lt in
    let one : IsMapOf (2 * e) (next_by row) row = IsMapOf-by (2 * e) row (
      Lacks-append x xs (twin x ∷ (ys ++ flat rows)) (Lacks-append_left x xs (ys ++ flat rows) lacks)
          ((λ h. twin-other x h), Lacks-append_right x xs (ys ++ flat rows) lacks),
      Distinct-append xs (twin x ∷ (ys ++ flat rows)) (Distinct-append_left xs (ys ++ flat rows) once)
          (Lacks-append_right (twin x) xs (ys ++ flat rows) lacks_twin, Distinct-append_right xs (ys ++ flat rows) once)
          (λ d h. (
            (λ k. has_lacks d xs h
                (subst (λ y. Lacks y xs) k (Lacks-append_left (twin x) xs (ys ++ flat rows) lacks_twin))),
            Distinct-apart d
                xs (ys ++ flat rows) once h,
          )),
    ) (
      lt,
      Below-from (2 * e) (xs ++ (twin x ∷ (ys ++ flat rows))) (λ d h. ⊎_elim
          (λ k. old d (Has-append_left d xs (ys ++ flat rows) k))
          (λ k. ⊎_elim (λ s. subst (λ y. y < 2 * e) s lt_t) (λ l. old d (Has-append_right d xs (ys ++ flat rows) l)) k)
          (Has-append_cases d xs (twin x ∷ (ys ++ flat rows)) h)),
    ) in (
      next_by row,
      one,
      SameGenus-sym e (next_by row) f
          (contracted_edge-SameGenus e (next_by row) f x xs ys rows one is),
    )
  where
    old : (d : ℕ) → Has d (xs ++ (ys ++ flat rows)) → d < 2 * e
    old d h =
        below_item (2 * e) d ((xs ++ ys) ++ flat rows) is.below (subst (Has d) (sym (append_assoc xs ys (flat rows))) h)

-- an edge contracted, where the lists have names: v goes, and u takes what was there
pub contracted_named_edge-SameGenus : (e : ℕ) (f g : ℕ → ℕ) (lists lists' : ℕ → List ℕ) (names : List ℕ) (u v x : ℕ)
    (xs ys : List ℕ) → Distinct names → Has u names → Has v names → u ≢ v → IsTurn (lists u) (x ∷ xs)
    → IsTurn (lists v) (twin x ∷ ys) → IsTurn (lists' u) (xs ++ ys) → ((w : ℕ) → w ≢ u → w ≢ v → lists w ≡ lists' w)
    → IsMapOf (2 * e) f (map lists names) → IsMapOf (2 * e) g (map lists' (but v names)) → SameGenus e f g
contracted_named_edge-SameGenus e f g lists lists' names u v x xs ys dis hu hv differ turn_u turn_v turn same is_f
    is_g =
    let rest : List ℕ = but u (but v names) in
    let agree : map lists' rest ≡ map lists rest = map-agree lists' lists rest (λ w h. sym (same w
    (λ q. has_lacks u rest (subst (λ y. Has y rest) q h) (but-Lacks u (but v names)))
    (λ q. has_lacks v (but v names) (subst (λ y. Has y (but v names)) q (Has-but u w (but v names) h))
    (but-Lacks v names)))) in
    contracted_edge-SameGenus e f g x xs ys (map lists rest)
    (IsMapOf-turn (2 * e) f (lists u) (x ∷ xs) ((twin x ∷ ys) ∷ map lists rest) turn_u
    (IsMapOf-swap (2 * e) f (twin x ∷ ys) (lists u) (map lists rest)
    (IsMapOf-turn (2 * e) f (lists v) (twin x ∷ ys) (lists u ∷ map lists rest) turn_v
    (IsMapOf-swap (2 * e) f (lists u) (lists v) (map lists rest)
    (two_named_front (2 * e) f lists u v names dis hu hv differ is_f)))))
    (IsMapOf-turn (2 * e) g (lists' u) (xs ++ ys) (map lists rest) turn
    (subst (λ rows. IsMapOf (2 * e) g (lists' u ∷ rows)) agree
    (named_front (2 * e) g lists' u (but v names) (but-Distinct v names dis) (but-Has v u names differ hu) is_g)))
