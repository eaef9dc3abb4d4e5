-- Lists of different components put one behind the other, and two vertices glued.
use Rattle.std.proofs.Common.{◌≡◌, ℕ, ◌≢◌, eqb, List, [], ◌∷◌, ◌++◌, append_assoc, sym, refl, ap, ◌∙◌, subst, inl, inr, ⊎_elim, ◌*◌, map, ap₂, reverse}
use Rattle.std.proofs.lemmas.Bool.{cases_eq, eq-eqb, ne_eqb, cond-true, cond-false}
use Rattle.std.proofs.lemmas.List.{append-nil, map-append, reverse-append}
use Rattle.cp_lists.specs.CyclicLists.{Distinct, Has, Lacks}
use Rattle.cp_lists.specs.Rows.{flat}
use Rattle.cp_lists.proofs.DistinctLists.{Distinct-apart, Distinct-apart_right, Distinct-append_right, Distinct-middle, Has-append_cases, Has-append_left, Has-append_right, Lacks-append_left, Lacks-append_right, has_lacks}
use Rattle.cp_lists.proofs.FlatLists.{flat-append, flat-map}
use Rattle.cp_lists.proofs.MappedLists.{Has-map_on}
use Rattle.cp_lists.proofs.TurnedLists.{turn_parts}
use Rattle.cp_faces.specs.Twins.{twin}
use Rattle.cp_faces.proofs.Twins.{twin-twin}
use Rattle.cp_maps.specs.Genus.{Apart, Becomes, CanBeFlat, IsFlat}
use Rattle.cp_maps.specs.Gluings.{in_place, onto}
use Rattle.cp_maps.specs.Maps.{IsMapOf, swapped}
use Rattle.cp_maps.proofs.ContractedEdges.{contracted_edge-Becomes}
use Rattle.cp_maps.proofs.Genus.{SameGenus-IsFlat}
use Rattle.cp_maps.proofs.ListFacts.{from_dart}
use Rattle.cp_maps.proofs.MapLists.{IsMapOf-among, IsMapOf-bare, IsMapOf-front, IsMapOf-merged, IsMapOf-split, IsMapOf-swap, IsMapOf-turn, IsMapOf-unbare}
use Rattle.cp_maps.proofs.MergedVertices.{merged_between-SameGenus, split_list-IsFlat}

-- two lists of different components can be put one behind the other
pub concatenated-Becomes : (e : ℕ) (f : ℕ → ℕ) (xs ys : List ℕ) (rows : List (List ℕ))
    → IsMapOf (2 * e) f (xs ∷ ys ∷ rows) → Apart e f xs ys → Becomes e f ((xs ++ ys) ∷ rows)
concatenated-Becomes e f [] ys rows is apart = (f, IsMapOf-unbare (2 * e) f (ys ∷ rows) is, refl)
concatenated-Becomes e f (a ∷ xs) [] rows is apart = (
  f,
  subst (λ zs. IsMapOf (2 * e) f (zs ∷ rows)) (sym (append-nil (a ∷ xs)))
      (IsMapOf-unbare (2 * e) f ((a ∷ xs) ∷ rows) (IsMapOf-swap (2 * e) f (a ∷ xs) [] rows is)),
  refl,
)
concatenated-Becomes e f (a ∷ xs) (b ∷ ys) rows is apart =
    let one : IsMapOf (2 * e) (swapped a b f) ((a ∷ (xs ++ b ∷ ys)) ∷ rows) =
    IsMapOf-merged (2 * e) f a b xs ys rows is in (
      swapped a b f,
      one,
      merged_between-SameGenus e f (swapped a b f) a b xs ys rows is one
          (apart a b (inl refl) (inl refl)),
    )

-- the first darts of pairs, and behind them the second ones, the last first
abbrev nested : List (ℕ × ℕ) → List ℕ
nested [] = []
nested (p ∷ ps) = p.0 ∷ (nested ps ++ p.1 ∷ [])

-- they are the first ones and the second ones in reverse
nested-append : (ps : List (ℕ × ℕ)) → nested ps ≡ map (λ p. p.0) ps ++ reverse (map (λ p. p.1) ps)
nested-append [] = refl
nested-append (p ∷ ps) =
    ap (λ zs. p.0 ∷ (zs ++ p.1 ∷ [])) (nested-append ps)
    ∙ ap (λ zs. p.0 ∷ zs) (append_assoc (map (λ q. q.0) ps) (reverse (map (λ q. q.1) ps)) (p.1 ∷ [])
    ∙ ap (λ zs. map (λ q. q.0) ps ++ zs) (sym (reverse-append (p.1 ∷ []) (map (λ q. q.1) ps))))

-- a first dart is one of them
nested-Has : (ps : List (ℕ × ℕ)) (d : ℕ) → Has d (map (λ p. p.0) ps) → Has d (nested ps)
nested-Has [] d h = absurd h
nested-Has (p ∷ ps) d h =
    ⊎_elim (λ e. inl e) (λ k. inr (Has-append_left d (nested ps) (p.1 ∷ []) (nested-Has ps d k))) h

-- the innermost pair of a list of pairs split off
pair_split : (e : ℕ) (f : ℕ → ℕ) (a b : ℕ) (zs : List ℕ) (rows : List (List ℕ))
    → IsMapOf (2 * e) f ((b ∷ a ∷ zs) ∷ rows) → IsFlat e f → CanBeFlat e (zs ∷ (b ∷ a ∷ []) ∷ rows)
pair_split e f a b [] rows is z = (f, IsMapOf-bare (2 * e) f ((b ∷ a ∷ []) ∷ rows) is, z)
pair_split e f a b (c ∷ zs) rows is z =
    let two : IsMapOf (2 * e) (swapped b c f) ((b ∷ a ∷ []) ∷ (c ∷ zs) ∷ rows) =
    IsMapOf-split (2 * e) f b c (a ∷ []) zs rows is in (
      swapped b c f,
      IsMapOf-swap (2 * e) (swapped b c f) (b ∷ a ∷ []) (c ∷ zs) rows two,
      split_list-IsFlat e f
          (swapped b c f) b c (a ∷ []) zs rows is two z,
    )

-- a dart that is not replaced stays
pub in_place_other : (t q d : ℕ) → d ≢ t → in_place t q d ≡ d
in_place_other t q d ne = cond-false (eqb d t) q d (ne_eqb d t ne)

-- a list without the dart that is replaced stays
pub lists_stay : (t q : ℕ) (xs : List ℕ) → Lacks t xs → map (in_place t q) xs ≡ xs
lists_stay t q [] l = refl
lists_stay t q (x ∷ xs) l = ap₂ (λ y ys. y ∷ ys) (in_place_other t q x l.0) (lists_stay t q xs l.1)

-- lists without the dart that is replaced stay
pub rows_stay : (t q : ℕ) (rows : List (List ℕ)) → Lacks t (flat rows) → map (map (in_place t q)) rows ≡ rows
rows_stay t q [] l = refl
rows_stay t q (xs ∷ rows) l =
    ap₂ (λ ys zs. ys ∷ zs) (lists_stay t q xs (Lacks-append_left t xs (flat rows) l))
    (rows_stay t q rows (Lacks-append_right t xs (flat rows) l))

-- a dart in several lists: the list that has it, and where it stands there
pub flat-split : (d : ℕ) (rows : List (List ℕ)) → Has d (flat rows)
    → (before : List (List ℕ)) × (us : List ℕ) × (vs : List ℕ) × (behind : List (List ℕ))
    × (rows ≡ before ++ (us ++ d ∷ vs) ∷ behind)
flat-split d [] h = absurd h
flat-split d (xs ∷ rows) h = ⊎_elim
    (λ k. let s = from_dart d xs k in ([], s.0, s.1, rows, ap (λ ys. ys ∷ rows) s.2))
    (λ k. let w = flat-split d rows k in (xs ∷ w.0, w.1, w.2, w.3, ap (λ zs. xs ∷ zs) w.4))
    (Has-append_cases d xs (flat rows) h)

-- a vertex of two darts contracted along the edge of one: the other takes the place of its twin
pub straightened-Becomes : (e : ℕ) (f : ℕ → ℕ) (q p : ℕ) (rows : List (List ℕ))
    → IsMapOf (2 * e) f ((q ∷ p ∷ []) ∷ rows) → Has (twin p) (flat rows)
    → Becomes e f (map (map (in_place (twin p) q)) rows)
straightened-Becomes e f q p rows is h = (
  one.0,
  subst (IsMapOf (2 * e) one.0) (sym whole)
      (IsMapOf-among (2 * e) one.0 (us ++ q ∷ vs) before behind placed),
  one.2,
)
  where
    s : (before : List (List ℕ)) × (us : List ℕ) × (vs : List ℕ) × (behind : List (List ℕ))
        × (rows ≡ before ++ (us ++ twin p ∷ vs) ∷ behind)
    s = flat-split (twin p) rows h

    before : List (List ℕ)
    before = s.0

    us : List ℕ
    us = s.1

    vs : List ℕ
    vs = s.2

    behind : List (List ℕ)
    behind = s.3

    others : List (List ℕ)
    others = before ++ behind

    front : IsMapOf (2 * e) f ((us ++ twin p ∷ vs) ∷ (q ∷ p ∷ []) ∷ others)
    front =
        IsMapOf-front (2 * e) f (us ++ twin p ∷ vs) ((q ∷ p ∷ []) ∷ before) behind
        (subst (λ zs. IsMapOf (2 * e) f ((q ∷ p ∷ []) ∷ zs)) s.4 is)

    ready : IsMapOf (2 * e) f ((p ∷ q ∷ []) ∷ (twin p ∷ (vs ++ us)) ∷ others)
    ready =
        IsMapOf-turn (2 * e) f (q ∷ p ∷ []) (p ∷ q ∷ []) ((twin p ∷ (vs ++ us)) ∷ others) (turn_parts (q ∷ []) (p ∷ []))
        (IsMapOf-swap (2 * e) f (twin p ∷ (vs ++ us)) (q ∷ p ∷ []) others
        (IsMapOf-turn (2 * e) f (us ++ twin p ∷ vs) (twin p ∷ (vs ++ us)) ((q ∷ p ∷ []) ∷ others)
        (turn_parts us (twin p ∷ vs)) front))

    one : Becomes e f ((q ∷ (vs ++ us)) ∷ others)
    one = contracted_edge-Becomes e f p (q ∷ []) (vs ++ us) others ready

    placed : IsMapOf (2 * e) one.0 ((us ++ q ∷ vs) ∷ others)
    placed = IsMapOf-turn (2 * e) one.0 ((q ∷ vs) ++ us) (us ++ q ∷ vs) others (turn_parts (q ∷ vs) us) one.1

    all : Distinct (flat before ++ ((us ++ twin p ∷ vs) ++ flat behind))
    all = subst Distinct (flat-append before ((us ++ twin p ∷ vs) ∷ behind))
        (subst (λ zs. Distinct (flat zs)) s.4 is.once.1.1)

    rest : Distinct (us ++ twin p ∷ (vs ++ flat behind))
    rest = subst Distinct (append_assoc us (twin p ∷ vs) (flat behind))
        (Distinct-append_right (flat before) ((us ++ twin p ∷ vs) ++ flat behind) all)

    far : Lacks (twin p) us × Lacks (twin p) (vs ++ flat behind)
    far = Distinct-middle (twin p) us (vs ++ flat behind) rest

    far_before : Lacks (twin p) (flat before)
    far_before =
        Distinct-apart_right (twin p) (flat before) ((us ++ twin p ∷ vs) ++ flat behind) all
        (Has-append_left (twin p) (us ++ twin p ∷ vs) (flat behind)
        (Has-append_right (twin p) us (twin p ∷ vs) (inl refl)))

    row : map (in_place (twin p) q) (us ++ twin p ∷ vs) ≡ us ++ q ∷ vs
    row = map-append (in_place (twin p) q) us (twin p ∷ vs) ∙ ap₂ (λ xs ys. xs ++ ys) (lists_stay (twin p) q us far.0)
        (ap₂ (λ y ys. y ∷ ys) (cond-true (eqb (twin p) (twin p)) q (twin p) (eq-eqb (twin p) (twin p) refl))
        (lists_stay (twin p) q vs (Lacks-append_left (twin p) vs (flat behind) far.1)))

    whole : map (map (in_place (twin p) q)) rows ≡ before ++ (us ++ q ∷ vs) ∷ behind
    whole = ap (map (map (in_place (twin p) q))) s.4
        ∙ map-append (map (in_place (twin p) q)) before ((us ++ twin p ∷ vs) ∷ behind)
        ∙ ap₂ (λ xs ys. xs ++ ys) (rows_stay (twin p) q before far_before)
        (ap₂ (λ y ys. y ∷ ys) row (rows_stay (twin p) q behind (Lacks-append_right (twin p) vs (flat behind) far.1)))

-- a dart that is no twin of a first dart stays
onto_other : (ps : List (ℕ × ℕ)) (d : ℕ) → ((c : ℕ) → Has c (map (λ p. p.0) ps) → d ≢ twin c) → onto ps d ≡ d
onto_other [] d far = refl
onto_other (p ∷ ps) d far = cond-false (eqb d (twin p.0)) p.1 (onto ps d) (ne_eqb d (twin p.0) (far p.0 (inl refl)))
    ∙ onto_other ps d (λ c h. far c (inr h))

-- a list under two names, one after the other, is a list under a third that agrees
pub maps_agree : (h k l : ℕ → ℕ) (xs : List ℕ) → ((d : ℕ) → Has d xs → k (h d) ≡ l d) → map k (map h xs) ≡ map l xs
maps_agree h k l [] same = refl
maps_agree h k l (x ∷ xs) same = ap₂ (λ y ys. y ∷ ys) (same x (inl refl)) (maps_agree h k l xs (λ d q. same d (inr q)))

-- all of them
rows_agree : (h k l : ℕ → ℕ) (rows : List (List ℕ)) → ((d : ℕ) → Has d (flat rows) → k (h d) ≡ l d)
    → map (map k) (map (map h) rows) ≡ map (map l) rows
rows_agree h k l [] same = refl
rows_agree h k l (xs ∷ rows) same =
    ap₂ (λ ys zs. ys ∷ zs) (maps_agree h k l xs (λ d q. same d (Has-append_left d xs (flat rows) q)))
    (rows_agree h k l rows (λ d q. same d (Has-append_right d xs (flat rows) q)))

-- pairs nested at one vertex, glued from the outermost on
glued_nested : (e : ℕ) (f : ℕ → ℕ) (ps : List (ℕ × ℕ)) (rows : List (List ℕ)) → IsMapOf (2 * e) f (nested ps ∷ rows)
    → ((d : ℕ) → Has d (map (λ p. p.0) ps) → Has (twin d) (flat rows)) → IsFlat e f
    → CanBeFlat e (map (map (onto ps)) rows)
glued_nested e f [] rows is there z =
    (f, subst (IsMapOf (2 * e) f) (sym (rows_same_map rows)) (IsMapOf-unbare (2 * e) f rows is), z)
  where
    list_same_map : (xs : List ℕ) → map (onto []) xs ≡ xs
    list_same_map [] = refl
    list_same_map (x ∷ xs) = ap (λ ys. x ∷ ys) (list_same_map xs)

    rows_same_map : (xss : List (List ℕ)) → map (map (onto [])) xss ≡ xss
    rows_same_map [] = refl
    rows_same_map (xs ∷ xss) = ap₂ (λ ys zs. ys ∷ zs) (list_same_map xs) (rows_same_map xss)
glued_nested e f (p ∷ ps) rows is there z =
    let t : ℕ = twin p.0 in
    let h : ℕ → ℕ = in_place t p.1 in
    let off : CanBeFlat e (nested ps ∷ (p.1 ∷ p.0 ∷ []) ∷ rows) = pair_split e f p.0 p.1 (nested ps) rows
    (IsMapOf-turn (2 * e) f ((p.0 ∷ nested ps) ++ p.1 ∷ []) (p.1 ∷ p.0 ∷ nested ps) rows
    (turn_parts (p.0 ∷ nested ps) (p.1 ∷ [])) is) z in
    let one : Becomes e off.0 (map (map h) (nested ps ∷ rows)) = straightened-Becomes e off.0 p.1 p.0 (nested ps ∷ rows)
    (IsMapOf-swap (2 * e) off.0 (nested ps) (p.1 ∷ p.0 ∷ []) rows off.1)
    (Has-append_right t (nested ps) (flat rows) (there p.0 (inl refl))) in
    let far : Lacks t (nested ps ++ p.1 ∷ []) =
    (Distinct-apart_right t (p.0 ∷ (nested ps ++ p.1 ∷ [])) (flat rows) is.once (there p.0 (inl refl))).1 in
    let is_one : IsMapOf (2 * e) one.0 (nested ps ∷ map (map h) rows) =
    subst (λ zs. IsMapOf (2 * e) one.0 (zs ∷ map (map h) rows))
    (lists_stay t p.1 (nested ps) (Lacks-append_left t (nested ps) (p.1 ∷ []) far)) one.1 in
    let first : Lacks p.0 (nested ps ++ p.1 ∷ []) = is.rings.0.distinct.0 in
    let rest : CanBeFlat e (map (map (onto ps)) (map (map h) rows)) = glued_nested e one.0 ps (map (map h) rows) is_one
    (λ d q. subst (λ y. Has y (flat (map (map h) rows)))
    (in_place_other t p.1 (twin d)
    (λ s. has_lacks d (nested ps) (nested-Has ps d q)
    (subst (λ y. Lacks y (nested ps)) (sym (twin-twin p.0) ∙ ap twin (sym s) ∙ twin-twin d)
    (Lacks-append_left p.0 (nested ps) (p.1 ∷ []) first))))
    (subst (Has (h (twin d))) (sym (flat-map h rows)) (Has-map_on h (twin d) (flat rows) (there d (inr q)))))
    (SameGenus-IsFlat e off.0 one.0 one.2 off.2) in
    let second : (c : ℕ) → Has c (map (λ q. q.0) ps)
    → p.1 ≢ twin c =
    λ c q s. has_lacks p.1 (flat rows) (subst (λ y. Has y (flat rows)) (sym s) (there c (inr q)))
    (Distinct-apart p.1 (p.0 ∷ (nested ps ++ p.1 ∷ [])) (flat rows) is.once
    (inr (Has-append_right p.1 (nested ps) (p.1 ∷ []) (inl refl)))) in
    subst (CanBeFlat e) (rows_agree h (onto ps) (onto (p ∷ ps)) rows (λ d q. ⊎_elim
    (λ s. ap (onto ps) (cond-true (eqb d t) p.1 d (eq-eqb d t s)) ∙ onto_other ps p.1 second
    ∙ sym (cond-true (eqb d t) p.1 (onto ps d) (eq-eqb d t s)))
    (λ ns. ap (onto ps) (in_place_other t p.1 d ns) ∙ sym (cond-false (eqb d t) p.1 (onto ps d) (ne_eqb d t ns)))
    (cases_eq d t))) rest

-- two vertices of different components with as many darts, in reverse orders, glued: both go, and the second dart of
-- each pair takes the place of the twin of the first, so that two edges become one; what is flat stays flat
pub glued : (e : ℕ) (f : ℕ → ℕ) (ps : List (ℕ × ℕ)) (rows : List (List ℕ))
    → IsMapOf (2 * e) f (map (λ p. p.0) ps ∷ reverse (map (λ p. p.1) ps) ∷ rows)
    → Apart e f (map (λ p. p.0) ps) (reverse (map (λ p. p.1) ps))
    → ((d : ℕ) → Has d (map (λ p. p.0) ps) → Has (twin d) (flat rows)) → IsFlat e f
    → CanBeFlat e (map (map (onto ps)) rows)
glued e f ps rows is apart there z =
    let one : Becomes e f ((map (λ p. p.0) ps ++ reverse (map (λ p. p.1) ps)) ∷ rows) =
    concatenated-Becomes e f (map (λ p. p.0) ps) (reverse (map (λ p. p.1) ps)) rows is apart in
    glued_nested e one.0 ps rows (subst (λ zs. IsMapOf (2 * e) one.0 (zs ∷ rows)) (sym (nested-append ps)) one.1)
    there (SameGenus-IsFlat e f one.0 one.2 z)
