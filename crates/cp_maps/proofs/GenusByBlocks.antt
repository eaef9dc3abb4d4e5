-- Genus by blocks: a map without loops is flat exactly where each block is and no two blocks cross at a vertex.
use Rattle.std.proofs.Common.{◌≡◌, ℕ, ◌<◌, ◌≢◌, eqb, List, [], ◌∷◌, ◌++◌, append_assoc, sym, refl, ap, ◌∙◌, subst, inl, inr, ⊎_elim, suc, ◌*◌, Bool, lt-suc_self, length, map, ◌↔◌, cond}
use Rattle.std.proofs.lemmas.Bool.{cases_eq, eq-eqb, ne_eqb, false≢true, cond-true, cond-false}
use Rattle.std.specs.List.{filter}
use Rattle.cp_lists.specs.Crossings.{InOrder, NoCross}
use Rattle.cp_lists.specs.CyclicLists.{Distinct, Has, Lacks, follow}
use Rattle.cp_lists.specs.Rows.{flat}
use Rattle.cp_lists.proofs.CyclicLists.{follow-Has}
use Rattle.cp_lists.proofs.DistinctLists.{Distinct-apart, Distinct-apart_right, Distinct-append, Distinct-append_left, Distinct-append_right, Has-append_cases, Has-append_left, Has-append_right, Lacks-from, has_cases, has_lacks}
use Rattle.cp_lists.proofs.FlatLists.{flat-append}
use Rattle.cp_lists.proofs.Orders.{order_cut}
use Rattle.cp_lists.proofs.TurnedLists.{turn_parts}
use Rattle.cp_orbits.specs.Classes.{labels}
use Rattle.cp_orbits.specs.Orbits.{Permutes}
use Rattle.cp_faces.specs.Twins.{twin}
use Rattle.cp_faces.proofs.Twins.{twin-twin}
use Rattle.cp_maps.specs.Blocks.{AllMade, AreBlocks, NoneCross}
use Rattle.cp_maps.specs.Genus.{AllApart, Becomes, CanBeFlat, Evenly, IsFlat, OnePart, linked}
use Rattle.cp_maps.specs.Gluings.{AreSplitBy, all_copies}
use Rattle.cp_maps.specs.ListClasses.{EachClassOf}
use Rattle.cp_maps.specs.Maps.{IsMapOf, Rings, has, next_by}
use Rattle.cp_maps.proofs.AssembledLists.{uncrossed-IsAssembled}
use Rattle.cp_maps.proofs.AssembledVertices.{assembled-Becomes, assembled-Distinct, assembled_item, item_assembled}
use Rattle.cp_maps.proofs.Copies.{split_classes-IsFlat}
use Rattle.cp_maps.proofs.CrossedParts.{flat-no_crossing_parts}
use Rattle.cp_maps.proofs.Edges.{twin-OnePart}
use Rattle.cp_maps.proofs.Genus.{SameGenus-IsFlat, SameGenus-trans}
use Rattle.cp_maps.proofs.Growth.{Evenly-append, Evenly-append_left, Evenly-append_right, middle_cases, middle_item}
use Rattle.cp_maps.proofs.KeptDarts.{kept_darts-CanBeFlat}
use Rattle.cp_maps.proofs.ListFacts.{below_item, has_no, has_yes}
use Rattle.cp_maps.proofs.MapLists.{IsMapOf-Permutes, IsMapOf-among, IsMapOf-exchanged, IsMapOf-front, IsMapOf-some, IsMapOf-turn}
use Rattle.cp_maps.proofs.MergedVertices.{same_lists-SameGenus}
use Rattle.cp_maps.proofs.Parts.{Evenly-two_parts, Ring-OnePart}
use Rattle.cp_maps.proofs.Rings.{Rings-append_left, Rings-append_right}

-- two equations that follow from each other have one test
eqb_same : (a b c d : ℕ) → (a ≡ b) ↔ (c ≡ d) → eqb a b ≡ eqb c d
eqb_same a b c d both = ⊎_elim
    (λ h. eq-eqb a b h ∙ sym (eq-eqb c d (both.0 h)))
    (λ n. ne_eqb a b n ∙ sym (ne_eqb c d (λ h. n (both.1 h))))
    (cases_eq a b)

-- there is a map of all lists but one
pub without_list : (e : ℕ) (f : ℕ → ℕ) (before : List (List ℕ)) (xs : List ℕ) (behind : List (List ℕ))
    → IsMapOf (2 * e) f (before ++ xs ∷ behind) → IsMapOf (2 * e) (next_by (before ++ behind)) (before ++ behind)
without_list e f before xs behind is =
    let front : IsMapOf (2 * e) f (xs ∷ (before ++ behind)) = IsMapOf-front (2 * e) f xs before behind is in
    IsMapOf-some (2 * e) f (xs ∷ (before ++ behind)) (before ++ behind) front
    (Distinct-append_right xs (flat (before ++ behind)) front.once)
    (λ d h. Has-append_right d xs (flat (before ++ behind)) h)

-- the blocks of a flat map do not cross at a vertex
blocks-NoCross : (e : ℕ) (f class : ℕ → ℕ) (rows before : List (List ℕ)) (xs : List ℕ) (behind : List (List ℕ))
    → IsMapOf (2 * e) f rows → AreBlocks e class rows → rows ≡ before ++ xs ∷ behind → IsFlat e f → NoCross class xs
blocks-NoCross e f class rows before xs behind is blocks whole z w x y v h wy xv =
    ⊎_elim (λ s. s) (λ n. absurd (crossing n)) (cases_eq (class w) (class x))
  where
    one : (p : List ℕ) × (q : List ℕ) × (xs ≡ p ++ w ∷ q) × InOrder (x ∷ y ∷ v ∷ []) q
    one = order_cut w (x ∷ y ∷ v ∷ []) xs h

    two : (p : List ℕ) × (q : List ℕ) × (one.1 ≡ p ++ x ∷ q) × InOrder (y ∷ v ∷ []) q
    two = order_cut x (y ∷ v ∷ []) one.1 one.3

    three : (p : List ℕ) × (q : List ℕ) × (two.1 ≡ p ++ y ∷ q) × InOrder (v ∷ []) q
    three = order_cut y (v ∷ []) two.1 two.3

    four : (p : List ℕ) × (q : List ℕ) × (three.1 ≡ p ++ v ∷ q) × InOrder [] q
    four = order_cut v [] three.1 three.3

    rest : List (List ℕ)
    rest = before ++ behind

    in_order : one.1 ≡ two.0 ++ x ∷ (three.0 ++ y ∷ (four.0 ++ v ∷ four.1))
    in_order = two.2 ∙ ap (λ zs. two.0 ++ x ∷ zs) (three.2 ∙ ap (λ zs. three.0 ++ y ∷ zs) four.2)

    turned : one.1 ++ one.0 ≡ two.0 ++ x ∷ (three.0 ++ y ∷ (four.0 ++ v ∷ (four.1 ++ one.0)))
    turned = ap (λ zs. zs ++ one.0) in_order ∙ append_assoc two.0 (x ∷ (three.0 ++ y ∷ (four.0 ++ v ∷ four.1))) one.0
        ∙ ap (λ zs. two.0 ++ x ∷ zs) (append_assoc three.0 (y ∷ (four.0 ++ v ∷ four.1)) one.0
        ∙ ap (λ zs. three.0 ++ y ∷ zs) (append_assoc four.0 (v ∷ four.1) one.0))

    is_rows : IsMapOf (2 * e) f (before ++ xs ∷ behind)
    is_rows = subst (IsMapOf (2 * e) f) whole is

    front : IsMapOf (2 * e) f ((w ∷ (two.0 ++ x ∷ (three.0 ++ y ∷ (four.0 ++ v ∷ (four.1 ++ one.0))))) ∷ rest)
    front = subst (λ zs. IsMapOf (2 * e) f ((w ∷ zs) ∷ rest)) turned
        (IsMapOf-turn (2 * e) f (one.0 ++ w ∷ one.1) (w ∷ (one.1 ++ one.0)) rest (turn_parts one.0 (w ∷ one.1))
        (subst (λ zs. IsMapOf (2 * e) f (zs ∷ rest)) one.2 (IsMapOf-front (2 * e) f xs before behind is_rows)))

    has_w : Has w xs
    has_w = subst (Has w) (sym one.2) (Has-append_right w one.0 (w ∷ one.1) (inl refl))

    behind_w : (d : ℕ) → Has d one.1 → Has d xs
    behind_w d k = subst (Has d) (sym one.2) (Has-append_right d one.0 (w ∷ one.1) (inr k))

    has_x : Has x one.1
    has_x =
        subst (Has x) (sym in_order) (Has-append_right x two.0 (x ∷ (three.0 ++ y ∷ (four.0 ++ v ∷ four.1))) (inl refl))

    has_y : Has y one.1
    has_y =
        subst (Has y) (sym in_order) (Has-append_right y two.0 (x ∷ (three.0 ++ y ∷ (four.0 ++ v ∷ four.1)))
        (inr (Has-append_right y three.0 (y ∷ (four.0 ++ v ∷ four.1)) (inl refl))))

    has_v : Has v one.1
    has_v =
        subst (Has v) (sym in_order) (Has-append_right v two.0 (x ∷ (three.0 ++ y ∷ (four.0 ++ v ∷ four.1)))
        (inr (Has-append_right v three.0 (y ∷ (four.0 ++ v ∷ four.1))
        (inr (Has-append_right v four.0 (v ∷ four.1) (inl refl))))))

    far : (d : ℕ) → Has d xs → Has (twin d) (flat rest)
    far d k = ⊎_elim
        (λ q. absurd (has_lacks (twin d) xs q (blocks.no_loop before xs behind whole d k)))
        (λ q. q)
        (middle_cases (twin d) before xs behind
        (subst (λ g. Has (twin d) (flat g)) whole
        (blocks.paired d (subst (λ g. Has d (flat g)) (sym whole) (middle_item d before xs behind (inl k))))))

    crossing : class w ≢ class x → ⊥
    crossing n =
        flat-no_crossing_parts e f (next_by rest) w x y v two.0 three.0 four.0 (four.1 ++ one.0) rest front
        (without_list e f before xs behind is_rows)
        (far w has_w) (far x (behind_w x has_x)) (far y (behind_w y has_y)) (far v (behind_w v has_v))
        ((blocks.at_vertex before xs behind whole w y has_w (behind_w y has_y)).0 wy)
        ((blocks.at_vertex before xs behind whole x v (behind_w x has_x) (behind_w v has_v)).0 xv)
        (λ same. n ((blocks.at_vertex before xs behind whole w x has_w (behind_w x has_x)).1 same)) z

-- at no vertex
all_blocks-NoneCross : (e : ℕ) (f class : ℕ → ℕ) (rows before behind : List (List ℕ)) → IsMapOf (2 * e) f rows
    → AreBlocks e class rows → rows ≡ before ++ behind → IsFlat e f → NoneCross class behind
all_blocks-NoneCross e f class rows before [] is blocks whole z = tt
all_blocks-NoneCross e f class rows before (xs ∷ behind) is blocks whole z = (
  blocks-NoCross e f class rows before xs behind is blocks whole z,
  all_blocks-NoneCross e f class rows (before ++ xs ∷ []) behind is blocks
      (whole ∙ sym (append_assoc before (xs ∷ []) behind)) z,
)

-- each list is made of its classes
made_of_classes : (class : ℕ → ℕ) (rows : List (List ℕ)) → Distinct (flat rows) → NoneCross class rows
    → (groups : List (List ℕ × List (List ℕ))) × (map (λ x. x.0) groups ≡ rows) × AllMade class groups
made_of_classes class [] dis uncrossed = ([], refl, tt)
made_of_classes class (xs ∷ rows) dis uncrossed =
    let a =
    uncrossed-IsAssembled (suc (length xs)) class xs (lt-suc_self (length xs))
    (Distinct-append_left xs (flat rows) dis) uncrossed.0 in
    let rest = made_of_classes class rows (Distinct-append_right xs (flat rows) dis) uncrossed.1 in
    ((xs, a.0) ∷ rest.0, ap (λ zs. xs ∷ zs) rest.1, ((a.1, a.2), rest.2))

-- the items of all copies are those of the lists
made_item : (class : ℕ → ℕ) (groups : List (List ℕ × List (List ℕ))) (d : ℕ) → AllMade class groups
    → Has d (flat (all_copies groups)) → Has d (flat (map (λ x. x.0) groups))
made_item class [] d made h = absurd h
made_item class (x ∷ groups) d made h = ⊎_elim
    (λ k. Has-append_left d x.0 (flat (map (λ y. y.0) groups)) (item_assembled x.0 x.1 d made.0.0 k))
    (λ k. Has-append_right d x.0 (flat (map (λ y. y.0) groups)) (made_item class groups d made.1 k))
    (Has-append_cases d (flat x.1) (flat (all_copies groups)) (subst (Has d) (flat-append x.1 (all_copies groups)) h))

-- and no dart stands twice
made-Distinct : (class : ℕ → ℕ) (groups : List (List ℕ × List (List ℕ))) → AllMade class groups
    → Distinct (flat (map (λ x. x.0) groups)) → Distinct (flat (all_copies groups))
made-Distinct class [] made dis = tt
made-Distinct class (x ∷ groups) made dis =
    subst Distinct (sym (flat-append x.1 (all_copies groups))) (Distinct-append (flat x.1) (flat (all_copies groups))
    (assembled-Distinct x.0 x.1 made.0.0 (Distinct-append_left x.0 (flat (map (λ y. y.0) groups)) dis))
    (made-Distinct class groups made.1 (Distinct-append_right x.0 (flat (map (λ y. y.0) groups)) dis))
    (λ d h. Lacks-from d (flat (all_copies groups))
    (λ k. has_lacks d (flat (map (λ y. y.0) groups)) (made_item class groups d made.1 k)
    (Distinct-apart d x.0 (flat (map (λ y. y.0) groups)) dis (item_assembled x.0 x.1 d made.0.0 h)))))

-- in the map of copies that are classes a dart leads to the next one of its class
copies-next : (class g : ℕ → ℕ) (xs : List ℕ) (copies : List (List ℕ)) (d : ℕ) → EachClassOf class xs copies
    → Rings g copies → Has d (flat copies)
    → (g d ≡ follow (filter (λ y. eqb (class y) (class d)) xs) d) × (class (g d) ≡ class d)
copies-next class g xs [] d each rings h = absurd h
copies-next class g xs (ys ∷ copies) d each rings h = ⊎_elim
    (λ k.
    let same : class d ≡ class each.0.one = ((each.0.items d).0 k).1 in (
      rings.0.along d k ∙ each.0.order d k ∙ ap (λ c. follow (filter (λ y. eqb (class y) c) xs) d) (sym same),
      ((each.0.items (g d)).0 (subst (λ y. Has y ys) (sym (rings.0.along d k)) (follow-Has d ys k))).1 ∙ sym same,
    ))
    (λ k. copies-next class g xs copies d each.1 rings.1 k)
    (Has-append_cases d ys (flat copies) h)

-- all lists
made-AreSplitBy : (class g : ℕ → ℕ) (groups : List (List ℕ × List (List ℕ))) → AllMade class groups
    → Rings g (all_copies groups) → AreSplitBy class g (map (λ x. x.0) groups)
made-AreSplitBy class g [] made rings = tt
made-AreSplitBy class g (x ∷ groups) made rings = (
  λ d h. (copies-next class g x.0 x.1 d made.0.1 (Rings-append_left g x.1 (all_copies groups) rings)
      (assembled_item x.0 x.1 d made.0.0 h)).0,
  made-AreSplitBy class g groups made.1 (Rings-append_right g x.1 (all_copies groups) rings),
)

-- and stays in its class
made_class : (class g : ℕ → ℕ) (groups : List (List ℕ × List (List ℕ))) (d : ℕ) → AllMade class groups
    → Rings g (all_copies groups) → Has d (flat (all_copies groups)) → class (g d) ≡ class d
made_class class g [] d made rings h = absurd h
made_class class g (x ∷ groups) d made rings h = ⊎_elim
    (λ k. (copies-next class g x.0 x.1 d made.0.1 (Rings-append_left g x.1 (all_copies groups) rings) k).1)
    (λ k. made_class class g groups d made.1 (Rings-append_right g x.1 (all_copies groups) rings) k)
    (Has-append_cases d (flat x.1) (flat (all_copies groups)) (subst (Has d) (flat-append x.1 (all_copies groups)) h))

-- a test with one value on the items of a list has one on its copies
Evenly-copies : (p : ℕ → Bool) (xs : List ℕ) (copies : List (List ℕ)) → ((c d : ℕ) → Has c xs → Has d xs → p c ≡ p d)
    → ((d : ℕ) → Has d (flat copies) → Has d xs) → Evenly p copies
Evenly-copies p xs [] same items = tt
Evenly-copies p xs (ys ∷ copies) same items = (
  (λ c d hc hd. same c d (items c (Has-append_left c ys (flat copies) hc))
      (items d (Has-append_left d ys (flat copies) hd))),
  Evenly-copies p xs copies same (λ d h. items d (Has-append_right d ys (flat copies) h)),
)

-- and on those of several
Evenly-made : (class : ℕ → ℕ) (p : ℕ → Bool) (groups : List (List ℕ × List (List ℕ))) → AllMade class groups
    → Evenly p (map (λ x. x.0) groups) → Evenly p (all_copies groups)
Evenly-made class p [] made even = tt
Evenly-made class p (x ∷ groups) made even =
    Evenly-append p x.1 (all_copies groups)
    (Evenly-copies p x.0 x.1 even.0 (λ d h. item_assembled x.0 x.1 d made.0.0 h))
    (Evenly-made class p groups made.1 even.1)

-- a list of a map, its blocks, and the map of all other lists
module _ (e : ℕ) (f class : ℕ → ℕ) (rows before : List (List ℕ)) (xs : List ℕ) (behind : List (List ℕ))
    (is : IsMapOf (2 * e) f rows) (blocks : AreBlocks e class rows) (whole : rows ≡ before ++ xs ∷ behind) where
  -- the map of all other lists
  abbrev rest : ℕ → ℕ
  rest = next_by (before ++ behind)

  -- it is one
  is_rest : IsMapOf (2 * e) rest (before ++ behind)
  is_rest = without_list e f before xs behind (subst (IsMapOf (2 * e) f) whole is)

  -- a permutation
  perm_rest : Permutes (2 * e) rest
  perm_rest = IsMapOf-Permutes (2 * e) rest (before ++ behind) is_rest

  -- the label of a component of the rest
  abbrev label : ℕ → ℕ
  label = labels (linked rest (2 * e) e)

  -- the list lacks the items of all others
  others_lack : (d : ℕ) → Has d (flat (before ++ behind)) → Lacks d xs
  others_lack d h =
      Distinct-apart_right d xs (flat (before ++ behind))
      (IsMapOf-front (2 * e) f xs before behind (subst (IsMapOf (2 * e) f) whole is)).once h

  -- the darts that belong to the block of c: those of its class at the vertex, and what the rest joins to its twin
  abbrev beyond : ℕ → ℕ → Bool
  beyond c d = cond (has d xs) (eqb (class d) (class c)) (eqb (label d) (label (twin c)))

  -- at the vertex
  beyond_in : (c d : ℕ) → Has d xs → beyond c d ≡ eqb (class d) (class c)
  beyond_in c d h = cond-true (has d xs) (eqb (class d) (class c)) (eqb (label d) (label (twin c))) (has_yes d xs h)

  -- elsewhere
  beyond_out : (c d : ℕ) → Lacks d xs → beyond c d ≡ eqb (label d) (label (twin c))
  beyond_out c d l = cond-false (has d xs) (eqb (class d) (class c)) (eqb (label d) (label (twin c))) (has_no d xs l)

  -- on other lists the test has one value
  beyond_even : (c : ℕ) (lists : List (List ℕ)) → Rings rest lists
      → ((d : ℕ) → Has d (flat lists) → (d < 2 * e) × Lacks d xs) → Evenly (beyond c) lists
  beyond_even c [] rings far = tt
  beyond_even c (ys ∷ lists) rings far = (
    λ a b ha hb.
        beyond_out c a (far a (Has-append_left a ys (flat lists) ha)).1
        ∙ ap (λ y. eqb y (label (twin c)))
        (Ring-OnePart e rest perm_rest ys rings.0 (λ d h. (far d (Has-append_left d ys (flat lists) h)).0) a b ha hb)
        ∙ sym (beyond_out c b (far b (Has-append_left b ys (flat lists) hb)).1),
    beyond_even c lists rings.1 (λ d h. far d (Has-append_right d ys (flat lists) h)),
  )

  -- a dart at the vertex and its twin
  beyond_at : (c d : ℕ) → Has c xs → Has d xs → beyond c d ≡ beyond c (twin d)
  beyond_at c d hc hd = beyond_in c d hd
      ∙ eqb_same (class d) (class c) (label (twin d)) (label (twin c))
      (blocks.at_vertex before xs behind whole d c hd hc)
      ∙ sym (beyond_out c (twin d) (blocks.no_loop before xs behind whole d hd))

  -- on twins it has one value
  beyond_twins : (c : ℕ) → Has c xs → (d : ℕ) → d < 2 * e → beyond c d ≡ beyond c (twin d)
  beyond_twins c hc d lt = ⊎_elim
      (λ h. beyond_at c d hc h)
      (λ l. ⊎_elim
      (λ k. ap (beyond c) (sym (twin-twin d)) ∙ sym (beyond_at c (twin d) hc k))
      (λ m. beyond_out c d l ∙ ap (λ y. eqb y (label (twin c))) (sym (twin-OnePart e rest perm_rest d lt))
      ∙ sym (beyond_out c (twin d) m))
      (has_cases (twin d) xs))
      (has_cases d xs)

  -- in a map with these lists or their copies, darts of different blocks at the vertex are of different components
  module _ (g : ℕ → ℕ) (copies done : List (List ℕ)) (groups : List (List ℕ × List (List ℕ)))
      (is_g : IsMapOf (2 * e) g (copies ++ (all_copies groups ++ before))) (made : AllMade class groups)
      (lists : map (λ x. x.0) groups ≡ behind) (each : EachClassOf class xs copies) where
    -- the test has one value on each copy of the list
    copies_even : (c : ℕ) (some : List (List ℕ)) → EachClassOf class xs some → Evenly (beyond c) some
    copies_even c [] all = tt
    copies_even c (ys ∷ some) all = (
      λ a b ha hb.
          let wa = (all.0.items a).0 ha in
          let wb = (all.0.items b).0 hb in
          beyond_in c a wa.0 ∙ ap (λ y. eqb y (class c)) (wa.1 ∙ sym wb.1) ∙ sym (beyond_in c b wb.0),
      copies_even c some all.1,
    )

    -- and on all lists
    all_even : (c : ℕ) → Evenly (beyond c) (copies ++ (all_copies groups ++ before))
    all_even c =
        let far : (d : ℕ) → Has d (flat (before ++ behind))
        → (d < 2 * e) × Lacks d xs =
        λ d h. (below_item (2 * e) d (flat (before ++ behind)) is_rest.below h, others_lack d h) in
        let even : Evenly (beyond c) (before ++ behind) = beyond_even c (before ++ behind) is_rest.rings far in
        Evenly-append (beyond c) copies (all_copies groups ++ before) (copies_even c copies each)
        (Evenly-append (beyond c) (all_copies groups) before
        (Evenly-made class (beyond c) groups made
        (subst (Evenly (beyond c)) (sym lists) (Evenly-append_right (beyond c) before behind even)))
        (Evenly-append_left (beyond c) before behind even))

    -- darts of different classes are apart
    classes_apart : (c d : ℕ) → Has c xs → Has d xs → class c ≢ class d → OnePart e g c d → ⊥
    classes_apart c d hc hd n =
        Evenly-two_parts e g (copies ++ (all_copies groups ++ before)) (beyond c) c d is_g (all_even c)
        (beyond_twins c hc)
        (λ s. false≢true (sym (ne_eqb (class d) (class c) (λ q. n (sym q))) ∙ sym (beyond_in c d hd) ∙ sym s
        ∙ beyond_in c c hc ∙ eq-eqb (class c) (class c) refl))

    -- so the copies are
    copies_apart : (some : List (List ℕ)) → Distinct (flat some) → EachClassOf class xs some → AllApart e g some
    copies_apart [] dis all = tt
    copies_apart (ys ∷ some) dis all = (
      λ c d hc hd one.
          let wc = (all.0.items c).0 hc in
          let hd' : Has d xs = classes_item some d all.1 hd in
          classes_apart c d wc.0 hd' (λ s. has_lacks d (flat some) hd
          (Distinct-apart d ys (flat some) dis ((all.0.items d).1 (hd', sym s ∙ wc.1)))) one,
      copies_apart some (Distinct-append_right ys (flat some) dis) all.1,
    )
      where
        classes_item : (some' : List (List ℕ)) (d : ℕ) → EachClassOf class xs some' → Has d (flat some') → Has d xs
        classes_item [] d all' h = absurd h
        classes_item (zs ∷ some') d all' h =
            ⊎_elim (λ k. ((all'.0.items d).0 k).0) (λ k. classes_item some' d all'.1 k)
            (Has-append_cases d zs (flat some') h)

-- copies made one, vertex by vertex
all_made_one : (e : ℕ) (f class : ℕ → ℕ) (rows before : List (List ℕ)) (groups : List (List ℕ × List (List ℕ)))
    (g : ℕ → ℕ) → IsMapOf (2 * e) f rows → AreBlocks e class rows → rows ≡ before ++ map (λ x. x.0) groups
    → AllMade class groups → IsMapOf (2 * e) g (before ++ all_copies groups) → Becomes e g rows
all_made_one e f class rows before [] g is blocks whole made is_g =
    (g, subst (IsMapOf (2 * e) g) (sym whole) is_g, refl)
all_made_one e f class rows before (x ∷ groups) g is blocks whole made is_g =
    let behind : List (List ℕ) = map (λ y. y.0) groups in
    let front : IsMapOf (2 * e) g (x.1 ++ (all_copies groups ++ before)) =
    subst (IsMapOf (2 * e) g) (append_assoc x.1 (all_copies groups) before)
    (IsMapOf-exchanged (2 * e) g [] before (x.1 ++ all_copies groups) is_g) in
    let dis : Distinct (flat x.1) =
    Distinct-append_left (flat x.1) (flat (all_copies groups ++ before))
    (subst Distinct (flat-append x.1 (all_copies groups ++ before)) front.once) in
    let one : Becomes e g (x.0 ∷ (all_copies groups ++ before)) =
    assembled-Becomes e g x.0 x.1 (all_copies groups ++ before) front
    (copies_apart e f class rows before x.0 behind is blocks whole g x.1 before groups front made.1 refl made.0.1 x.1
    dis made.0.1) made.0.0 in
    let next : IsMapOf (2 * e) one.0 ((before ++ x.0 ∷ []) ++ all_copies groups) =
    subst (IsMapOf (2 * e) one.0) (sym (append_assoc before (x.0 ∷ []) (all_copies groups)))
    (IsMapOf-among (2 * e) one.0 x.0 before (all_copies groups)
    (IsMapOf-exchanged (2 * e) one.0 (x.0 ∷ []) (all_copies groups) before one.1)) in
    let last : Becomes e one.0 rows =
    all_made_one e f class rows (before ++ x.0 ∷ []) groups one.0 is blocks
    (whole ∙ sym (append_assoc before (x.0 ∷ []) behind)) made.1 next in
    (last.0, last.1, SameGenus-trans e g one.0 last.0 one.2 last.2)

-- where each block is flat and no two cross, the map is flat
blocks-IsFlat_from : (e : ℕ) (f class : ℕ → ℕ) (rows : List (List ℕ)) → IsMapOf (2 * e) f rows
    → AreBlocks e class rows → ((c : ℕ) → c < 2 * e → CanBeFlat e (map (filter (λ d. eqb (class d) c)) rows))
    → NoneCross class rows → IsFlat e f
blocks-IsFlat_from e f class rows is blocks flat_each uncrossed =
    let made : (groups : List (List ℕ × List (List ℕ))) × (map (λ x. x.0) groups ≡ rows) × AllMade class groups =
    made_of_classes class rows is.once uncrossed in
    let copies : List (List ℕ) = all_copies made.0 in
    let g : ℕ → ℕ = next_by copies in
    let is_g : IsMapOf (2 * e) g copies = IsMapOf-some (2 * e) f rows copies is
    (made-Distinct class made.0 made.2 (subst (λ zs. Distinct (flat zs)) (sym made.1) is.once))
    (λ d h. subst (λ zs. Has d (flat zs)) made.1 (made_item class made.0 d made.2 h)) in
    let copied : (d : ℕ) → Lacks d (flat rows)
    → Lacks d (flat copies) =
    λ d l. Lacks-from d (flat copies)
    (λ h. has_lacks d (flat rows) (subst (λ zs. Has d (flat zs)) made.1 (made_item class made.0 d made.2 h)) l) in
    let flat_g : IsFlat e g =
    split_classes-IsFlat e g class rows (IsMapOf-Permutes (2 * e) g copies is_g) blocks.bound blocks.twins
    (λ d lt. ⊎_elim (λ h. made_class class g made.0 d made.2 is_g.rings h) (λ l. ap class (is_g.loose d lt l))
    (has_cases d (flat copies)))
    (subst (AreSplitBy class g) made.1 (made-AreSplitBy class g made.0 made.2 is_g.rings))
    (λ d lt l. is_g.loose d lt (copied d l)) flat_each in
    let one : Becomes e g rows = all_made_one e f class rows [] made.0 g is blocks (sym made.1) made.2 is_g in
    SameGenus-IsFlat e g f (SameGenus-trans e g one.0 f one.2 (same_lists-SameGenus e one.0 f rows one.1 is)) flat_g

-- genus by blocks: a map is flat exactly where each block alone is and no two blocks cross at a vertex
pub blocks-IsFlat : (e : ℕ) (f class : ℕ → ℕ) (rows : List (List ℕ)) → IsMapOf (2 * e) f rows → AreBlocks e class rows
    → IsFlat e f ↔ (((c : ℕ) → c < 2 * e → CanBeFlat e (map (filter (λ d. eqb (class d) c)) rows))
    × NoneCross class rows)
blocks-IsFlat e f class rows is blocks = (
  λ z. (
    (λ c lt. kept_darts-CanBeFlat e f rows is z (λ d. eqb (class d) c)),
    all_blocks-NoneCross e f class rows []
        rows is blocks refl z,
  ),
  λ w. blocks-IsFlat_from e f class rows is blocks w.0 w.1,
)
