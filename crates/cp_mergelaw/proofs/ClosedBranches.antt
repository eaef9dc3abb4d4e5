-- One branch between two poles of a flat map, with its poles made one vertex along the rest.
use Rattle.std.proofs.Common.{◌≡◌, ◌≢◌, ℕ, ◌*◌, Bool, true, false, ◌||◌, not, List, [], ◌∷◌, ◌++◌, map, append_assoc, sym, refl, ap, ap₂, ◌∙◌, subst, inl, ⊎_elim}
use Rattle.std.proofs.lemmas.Bool.{cases_Bool}
use Rattle.std.specs.List.{filter}
use Rattle.cp_lists.specs.CyclicLists.{Distinct, Has, Lacks}
use Rattle.cp_lists.specs.Rows.{flat}
use Rattle.cp_lists.specs.Turns.{IsTurn}
use Rattle.cp_lists.proofs.DistinctLists.{Distinct-apart, Distinct-append_left, Distinct-append_right, Has-append_left, Has-append_right, Lacks-append_left, Lacks-append_right, Lacks-from, has_lacks}
use Rattle.cp_lists.proofs.FilteredLists.{filter-Has, filter_agree, filter_all}
use Rattle.cp_lists.proofs.FlatLists.{flat-append}
use Rattle.cp_lists.proofs.TurnedLists.{Has-of_turn}
use Rattle.cp_faces.specs.Twins.{twin}
use Rattle.cp_faces.proofs.Twins.{twin-twin}
use Rattle.cp_maps.specs.Genus.{Becomes, CanBeFlat, IsFlat}
use Rattle.cp_maps.specs.Gluings.{Grows, HoldsLeaving}
use Rattle.cp_maps.specs.Maps.{IsMapOf, has}
use Rattle.cp_maps.proofs.CollapsedVertices.{collapsed-Becomes}
use Rattle.cp_maps.proofs.ContractedEdges.{contracted_edge-Becomes}
use Rattle.cp_maps.proofs.FewerDarts.{first_lists-CanBeFlat, swapped_lists-CanBeFlat, third_list-CanBeFlat, turned-CanBeFlat, two_kept-CanBeFlat}
use Rattle.cp_maps.proofs.Genus.{SameGenus-IsFlat}
use Rattle.cp_maps.proofs.KeptDarts.{kept_darts-CanBeFlat}
use Rattle.cp_maps.proofs.ListFacts.{has_no, has_yes}
use Rattle.cp_maps.proofs.MapLists.{IsMapOf-exchanged, IsMapOf-third, IsMapOf-turn}
use Rattle.cp_mergelaw.specs.Branches.{AreLinked, AreOfOneEdge, Branch, IsBranchOf, closed_lists}

-- lists whose items all pass a test stay
filter_all-rows : (p : ℕ → Bool) (rows : List (List ℕ)) → ((d : ℕ) → Has d (flat rows) → p d ≡ true)
    → map (filter p) rows ≡ rows
filter_all-rows p [] all = refl
filter_all-rows p (xs ∷ rows) all = ap₂ (λ ys zs. ys ∷ zs)
    (filter_all p xs (λ d h. all d (Has-append_left d xs (flat rows) h)))
    (filter_all-rows p rows (λ d h. all d (Has-append_right d xs (flat rows) h)))

-- what passes either of two tests
or_second : (a b : Bool) → b ≡ true → (a || b) ≡ true
or_second a b t = ⊎_elim (λ u. rw u refl) (λ u. rw u t) (cases_Bool a)

-- where the second of two tests passes nothing, the first decides
or_first : (a b : Bool) → b ≡ false → (a || b) ≡ a
or_first a b f = ⊎_elim (λ u. rw u refl) (λ u. rw u f) (cases_Bool a)

-- lists can be flat with only some darts of the first
pub filtered_list-CanBeFlat : (e : ℕ) (keep : ℕ → Bool) (xs : List ℕ) (rows : List (List ℕ)) → CanBeFlat e (xs ∷ rows)
    → CanBeFlat e (filter keep xs ∷ rows)
filtered_list-CanBeFlat e keep xs rows can =
    let p : ℕ → Bool = λ d. keep d || not (has d xs) in
    subst (CanBeFlat e) (ap₂ (λ ys zs. ys ∷ zs)
    (filter_agree p keep xs (λ d h. or_first (keep d) (not (has d xs)) (ap not (has_yes d xs h))))
    (filter_all-rows p rows (λ d h. or_second (keep d) (not (has d xs)) (ap not (has_no d xs
    (Lacks-from d xs (λ k. has_lacks d (flat rows) h (Distinct-apart d xs (flat rows) can.1.once k))))))))
    (kept_darts-CanBeFlat e can.0 (xs ∷ rows) can.1 can.2 p)

-- lists can be flat with the first turned
turned_list-CanBeFlat : (e : ℕ) (xs ys : List ℕ) (rows : List (List ℕ)) → IsTurn xs ys → CanBeFlat e (xs ∷ rows)
    → CanBeFlat e (ys ∷ rows)
turned_list-CanBeFlat e xs ys rows turn can = (can.0, IsMapOf-turn (2 * e) can.0 xs ys rows turn can.1, can.2)

-- lists can be flat with an edge between two vertices contracted
contracted-CanBeFlat : (e : ℕ) (x : ℕ) (xs ys : List ℕ) (rows : List (List ℕ))
    → CanBeFlat e ((x ∷ xs) ∷ (twin x ∷ ys) ∷ rows) → CanBeFlat e ((xs ++ ys) ∷ rows)
contracted-CanBeFlat e x xs ys rows can =
    let b : Becomes e can.0 ((xs ++ ys) ∷ rows) = contracted_edge-Becomes e can.0 x xs ys rows can.1 in
    (b.0, b.1, SameGenus-IsFlat e can.0 b.0 b.2 can.2)

-- two poles, of which the one is left with y and x and the other with q and ys
poles_left-CanBeFlat : (e : ℕ) (keep : ℕ → Bool) (us vs ys : List ℕ) (x y q : ℕ) (rows : List (List ℕ)) → Has x us
    → Has y us → y ≢ x → IsTurn (filter keep vs) (q ∷ ys) → CanBeFlat e (us ∷ vs ∷ rows)
    → CanBeFlat e ((y ∷ x ∷ []) ∷ (q ∷ ys) ∷ rows)
poles_left-CanBeFlat e keep us vs ys x y q rows hx hy two order can =
    two_kept-CanBeFlat e y x us ((q ∷ ys) ∷ rows) two hy hx
    (swapped_lists-CanBeFlat e (q ∷ ys) us rows
    (turned_list-CanBeFlat e (filter keep vs) (q ∷ ys) (us ∷ rows) order
    (filtered_list-CanBeFlat e keep vs (us ∷ rows) (swapped_lists-CanBeFlat e us vs rows can))))

-- one vertex alone between the poles beside the branch, along which they are made one
closed_along-CanBeFlat : (e : ℕ) (ys : List ℕ) (x y q : ℕ) (rows : List (List ℕ))
    → CanBeFlat e ((y ∷ x ∷ []) ∷ (q ∷ ys) ∷ (twin y ∷ twin q ∷ []) ∷ rows) → CanBeFlat e ((ys ++ x ∷ []) ∷ rows)
closed_along-CanBeFlat e ys x y q rows can =
    let middle : CanBeFlat e ((y ∷ x ∷ []) ∷ (twin y ∷ twin q ∷ []) ∷ (q ∷ ys) ∷ rows) =
    swapped_lists-CanBeFlat e (twin y ∷ twin q ∷ []) (y ∷ x ∷ []) ((q ∷ ys) ∷ rows)
    (third_list-CanBeFlat e (y ∷ x ∷ []) (q ∷ ys) (twin y ∷ twin q ∷ []) rows can) in
    let first : CanBeFlat e ((x ∷ twin q ∷ []) ∷ (q ∷ ys) ∷ rows) =
    contracted-CanBeFlat e y (x ∷ []) (twin q ∷ []) ((q ∷ ys) ∷ rows) middle in
    contracted-CanBeFlat e q ys (x ∷ []) rows
    (swapped_lists-CanBeFlat e (twin q ∷ x ∷ []) (q ∷ ys) rows
    (turned-CanBeFlat e (x ∷ []) (twin q ∷ []) ((q ∷ ys) ∷ rows) first))

-- the edge of y alone between the poles beside the branch
closed_edge-CanBeFlat : (e : ℕ) (ys : List ℕ) (x y : ℕ) (rows : List (List ℕ))
    → CanBeFlat e ((y ∷ x ∷ []) ∷ (twin y ∷ ys) ∷ rows) → CanBeFlat e ((ys ++ x ∷ []) ∷ rows)
closed_edge-CanBeFlat e ys x y rows can =
    turned-CanBeFlat e (x ∷ []) ys rows (contracted-CanBeFlat e y (x ∷ []) ys rows can)

-- a connected part between the poles made one vertex of two darts
linked-CanBeFlat : (e : ℕ) (f : ℕ → ℕ) (us vs first : List ℕ) (link rows : List (List ℕ)) (y q : ℕ)
    → IsMapOf (2 * e) f (us ∷ vs ∷ ((first ∷ link) ++ rows)) → IsFlat e f → Grows first link → Has y us → Has q vs
    → Has (twin y) (first ++ flat link) → Has (twin q) (first ++ flat link)
    → CanBeFlat e (us ∷ vs ∷ (twin y ∷ twin q ∷ []) ∷ rows)
linked-CanBeFlat e f us vs first link rows y q is z grows hy hq into out =
    third_list-CanBeFlat e vs (twin y ∷ twin q ∷ []) us rows
    (third_list-CanBeFlat e (twin y ∷ twin q ∷ []) us vs rows
    (two_kept-CanBeFlat e (twin y) (twin q) ws (us ∷ vs ∷ rows)
    (λ s. has_lacks q vs hq (subst (λ d. Lacks d vs) (sym (twin-twin y) ∙ ap twin s ∙ twin-twin q)
    (Lacks-append_left y vs (flat parts) (Distinct-apart y us (vs ++ flat parts) is.once hy))))
    (holds.outward (twin y) into (leaves y (λ d h. one_far y hy d h) into))
    (holds.outward (twin q) out (leaves q (λ d h. other_far q hq d h) out))
    last))
  where
    n : ℕ
    n = 2 * e

    all : List ℕ
    all = first ++ flat link

    parts : List (List ℕ)
    parts = first ∷ (link ++ rows)

    in_parts : (d : ℕ) → Has d all → Has d (flat parts)
    in_parts d h = subst (Has d) (append_assoc first (flat link) (flat rows)
        ∙ ap (λ zs. first ++ zs) (sym (flat-append link rows))) (Has-append_left d all (flat rows) h)

    one_far : (d : ℕ) → Has d us → (c : ℕ) → Has c all → d ≢ c
    one_far d h c k s = has_lacks c (flat parts) (in_parts c k)
        (subst (λ b. Lacks b (flat parts)) s
        (Lacks-append_right d vs (flat parts) (Distinct-apart d us (vs ++ flat parts) is.once h)))

    other_far : (d : ℕ) → Has d vs → (c : ℕ) → Has c all → d ≢ c
    other_far d h c k s = has_lacks c (flat parts) (in_parts c k)
        (subst (λ b. Lacks b (flat parts)) s
        (Distinct-apart d vs (flat parts) (Distinct-append_right us (vs ++ flat parts) is.once) h))

    leaves : (d : ℕ) → ((c : ℕ) → Has c all → d ≢ c) → Has (twin d) all → Lacks (twin (twin d)) all
    leaves d far h = Lacks-from (twin (twin d)) all (λ k. far (twin (twin d)) k (sym (twin-twin d)))

    is_first : IsMapOf n f (first ∷ (link ++ (rows ++ us ∷ vs ∷ [])))
    is_first = subst (λ zs. IsMapOf n f (first ∷ zs)) (append_assoc link rows (us ∷ vs ∷ []))
        (IsMapOf-exchanged n f (first ∷ []) (us ∷ vs ∷ []) (link ++ rows)
        (IsMapOf-third n f us vs first (link ++ rows) is))

    once : Distinct (first ++ flat link)
    once = Distinct-append_left all (flat (rows ++ us ∷ vs ∷ []))
        (subst Distinct (ap (λ zs. first ++ zs) (flat-append link (rows ++ us ∷ vs ∷ []))
        ∙ sym (append_assoc first (flat link) (flat (rows ++ us ∷ vs ∷ [])))) is_first.once)

    made : (ws : List ℕ) × Becomes e f (ws ∷ (rows ++ us ∷ vs ∷ [])) × HoldsLeaving ws all
    made = collapsed-Becomes e f first first link (rows ++ us ∷ vs ∷ []) is_first
        (record { within = λ d h. h; outward = λ d h l. h })
        (λ d h. Distinct-apart d first (flat link) once h) (Distinct-append_right first (flat link) once) grows

    ws : List ℕ
    ws = made.0

    holds : HoldsLeaving ws all
    holds = made.2

    last : CanBeFlat e (ws ∷ us ∷ vs ∷ rows)
    last = (
      made.1.0,
      IsMapOf-exchanged n made.1.0 (ws ∷ []) rows (us ∷ vs ∷ []) made.1.1,
      SameGenus-IsFlat e f made.1.0 made.1.2 z,
    )

-- a branch of a flat map with its poles made one vertex can be flat
pub closed_branch-CanBeFlat : (e : ℕ) (f : ℕ → ℕ) (us vs : List ℕ) (rows : List (List ℕ)) (b : Branch)
    → IsMapOf (2 * e) f (us ∷ vs ∷ rows) → IsFlat e f → IsBranchOf e us vs rows b → CanBeFlat e (closed_lists b)
closed_branch-CanBeFlat e f us vs rows b is z branch = ⊎_elim by_part by_edge branch.linked
  where
    closed : List ℕ
    closed = b.tail ++ b.head ∷ []

    at_other : Has branch.q vs
    at_other = (filter-Has branch.keep branch.q vs
        (Has-of_turn (filter branch.keep vs) (branch.q ∷ b.tail) branch.q branch.order (inl refl))).0

    by_part : AreLinked e us vs rows b.inner branch.y branch.q → CanBeFlat e (closed_lists b)
    by_part l =
        let y : ℕ = branch.y in
        let q : ℕ = branch.q in
        first_lists-CanBeFlat e (closed ∷ b.inner) l.others
        (closed_along-CanBeFlat e b.tail b.head y q (b.inner ++ l.others)
        (poles_left-CanBeFlat e branch.keep us vs b.tail b.head y q ((twin y ∷ twin q ∷ []) ∷ (b.inner ++ l.others))
        branch.at_one branch.other branch.two branch.order
        (linked-CanBeFlat e f us vs l.first l.link (b.inner ++ l.others) y q (l.beside f is) z l.grows branch.other
        at_other l.into l.out)))

    by_edge : AreOfOneEdge e us vs rows b.inner branch.y branch.q → CanBeFlat e (closed_lists b)
    by_edge w =
        let lists : List (List ℕ) = b.inner ++ w.others in
        first_lists-CanBeFlat e (closed ∷ b.inner) w.others
        (closed_edge-CanBeFlat e b.tail b.head branch.y lists
        (subst (λ d. CanBeFlat e ((branch.y ∷ b.head ∷ []) ∷ (d ∷ b.tail) ∷ lists)) w.twins
        (poles_left-CanBeFlat e branch.keep us vs b.tail b.head branch.y branch.q lists branch.at_one branch.other
        branch.two branch.order (f, w.beside f is, z))))
