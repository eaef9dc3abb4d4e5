-- The lists of inner vertices after Join: where they come from orders of both ends that mirror each other they can be
-- flat, and where the vertices of one end are made one vertex its list gives such orders.
use Rattle.std.proofs.Common.{◌≡◌, ◌⊎◌, ℕ, zero, suc, ◌+◌, ◌*◌, ◌/◌, ◌%◌, ◌<◌, ◌↔◌, List, [], ◌∷◌, ◌++◌, length, get_or, map, reverse, slice_index, slice_index_or, sym, refl, ap, ap₂, ◌∙◌, subst, inl, inr, ⊎_elim, arith, IsPermutation}
use Rattle.std.specs.List.{Contains, filter}
use Rattle.std.proofs.lemmas.Bool.{cases_eq}
use Rattle.std.proofs.lemmas.List.{get_or-map, length-map, map-append, reverse-reverse}
use Rattle.std.proofs.lemmas.List.Elements.{Contains-get_or}
use Rattle.std.proofs.lemmas.List.Sorted.{IsPermutation-sym}
use Rattle.cp_lists.specs.Crossings.{NoCross}
use Rattle.cp_lists.specs.CyclicLists.{Distinct, Has}
use Rattle.cp_lists.specs.Rows.{flat}
use Rattle.cp_lists.specs.Turns.{IsTurn}
use Rattle.cp_lists.proofs.DistinctLists.{Distinct-append_left, Distinct-apart, Has-Contains, Has-append_left, Has-append_right, Lacks-from, has_cases, has_lacks}
use Rattle.cp_lists.proofs.FilteredLists.{filter-Has, filter_agree}
use Rattle.cp_lists.proofs.FlatLists.{Has-flat, flat-Has}
use Rattle.cp_lists.proofs.MappedLists.{Distinct-map_on, Has-map_on, map_agree_on, map_on-Has}
use Rattle.cp_lists.proofs.PermutedLists.{Distinct-IsPermutation, Has-IsPermutation, IsPermutation-from}
use Rattle.cp_lists.proofs.ReversedLists.{Distinct-reverse, Has-reverse, filter-reverse, map-reverse, reverse-Has}
use Rattle.cp_lists.proofs.TurnedLists.{turn-Has, turn-map, turn-reverse, turn-sym, turn-trans, turn_mirrored}
use Rattle.cp_faces.specs.Twins.{twin}
use Rattle.cp_faces.proofs.Twins.{half_twin, twin-twin, twin_even}
use Rattle.cp_conn.specs.NamedGraphs.{NamedGraph, rank}
use Rattle.cp_conn.proofs.NamedGraphs.{rank_at, rank_is}
use Rattle.cp_maps.specs.Genus.{CanBeFlat}
use Rattle.cp_maps.specs.Maps.{has}
use Rattle.cp_maps.specs.Mirrors.{mirror}
use Rattle.cp_maps.proofs.ListFacts.{below_item, has_no, has_true, has_yes}
use Rattle.cp_maplaw.specs.NamedDarts.{dart_list}
use Rattle.cp_mergelaw.specs.Sides.{AreSides, EachList, IsMergedSide, RestrictsTo, is_of}
use Rattle.cp_board.specs.declared.parts.Pipe.{Pipe}
use Rattle.cp_board.specs.Instances.{Synchronized, edges_of, graph}
use Rattle.cp_board.specs.Joins.{part_of}
use Rattle.cp_board.specs.Rotations.{dart}
use Rattle.cp_board.specs.Steps.{partner}
use Rattle.cp_join.specs.declared.parted_ends.Parting.{Parting}
use Rattle.cp_join.proofs.CopiesApart.{HasOneValue, HaveOtherValues}
use Rattle.cp_join.proofs.DartsBeside.{rows_of}
use Rattle.cp_join.proofs.HatOrders.{first_order-NoCross, map_twice, mirror-hats, mirrored_ends-CanBeFlat, second_order-NoCross}
use Rattle.cp_join.proofs.InnerMaps.{mirror-Has}
use Rattle.cp_join.proofs.JoinNames.{HasPartings}
use Rattle.cp_join.proofs.JoinedGraph.{edges_a, hat, hats_all, once_at, partner_back, partner_forth, partner_of_a, partner_of_b}
use Rattle.cp_join.proofs.JoinedHalves.{inner_dart-a, inner_dart-b, inner_graph}
use Rattle.cp_join.proofs.JoinedLists.{IsHatOrder, merged_side-IsHatOrder}
use Rattle.cp_join.proofs.JoinedOuter.{filter-map, part_order}
use Rattle.cp_join.proofs.PartCopies.{TellsParts, part_copies, part_copy}
use Rattle.cp_join.proofs.PartLists.{all_from, all_has, all_once, part_has, part_is}
use Rattle.cp_join.proofs.PartValues.{part_value, part_value-Connected}
use Rattle.cp_join.proofs.RisingLists.{Has-flat_map}
use Rattle.cp_join.proofs.ToldParts.{ArePartsAt-TellsParts, key_in_part}

-- lists at names that are lists for as many parts, place by place
pub map-by_place : (f : ℕ → List ℕ) (k : List ℕ → List ℕ) (names : List ℕ) (parts : List (List ℕ))
    → length names ≡ length parts
    → ((j : ℕ) → j < length parts → f (slice_index names j) ≡ k (slice_index_or parts j []))
    → map f names ≡ map k parts
map-by_place f k [] [] size each = refl
map-by_place f k [] (part ∷ parts) size each = absurd (omega (arith, size))
map-by_place f k (n ∷ names) [] size each = absurd (omega (arith, size))
map-by_place f k (n ∷ names) (part ∷ parts) size each =
    ap₂ (λ xs rows. xs ∷ rows) (each 0 (omega arith))
    (map-by_place f k names parts (omega (arith, size)) (λ j lt. each (suc j) (omega (arith, lt))))

-- a property of each list, by its place
EachList-by_place : (good : List ℕ → Type 0) (rows : List (List ℕ))
    → ((k : ℕ) → k < length rows → good (get_or rows k [])) → EachList good rows
EachList-by_place good [] each = tt
EachList-by_place good (xs ∷ rows) each =
    (each 0 (omega arith), EachList-by_place good rows (λ k lt. each (suc k) (omega (arith, lt))))

-- and back
EachList-at : (good : List ℕ → Type 0) (rows : List (List ℕ)) → EachList good rows → (k : ℕ) → k < length rows
    → good (get_or rows k [])
EachList-at good [] each k lt = absurd (omega (arith, lt))
EachList-at good (xs ∷ rows) each zero lt = each.0
EachList-at good (xs ∷ rows) each (suc k) lt = EachList-at good rows each.1 k (omega (arith, lt))

-- lists whose items have the number of their list: a value that tells these numbers differs on two lists
HaveOtherValues-numbered : (value number : ℕ → ℕ) (rows : List (List ℕ)) (j : ℕ)
    → ((k d : ℕ) → k < length rows → Has d (get_or rows k []) → number d ≡ j + k)
    → ((c d : ℕ) → Has c (flat rows) → Has d (flat rows) → value c ≡ value d → number c ≡ number d)
    → HaveOtherValues value rows
HaveOtherValues-numbered value number [] j numbered tells = tt
HaveOtherValues-numbered value number (xs ∷ rows) j numbered tells = (
  (λ c d hc hd same.
      let w = flat-Has d rows hd in
      let one = numbered 0 c (omega arith) hc in
      let two = numbered (suc w.0) d (omega (arith, w.1)) w.2 in
      let q = tells c d (Has-append_left c xs (flat rows) hc) (Has-append_right d xs (flat rows) hd) same in
      omega (arith, one, two, q)),
  HaveOtherValues-numbered value number rows (suc j)
      (λ k d lt m. let q = numbered (suc k) d (omega (arith, lt)) m in omega (arith, q))
      (λ c d hc hd. tells c d (Has-append_right c xs (flat rows) hc) (Has-append_right d xs (flat rows) hd)),
)

-- and is one on each list
HasOneValue-numbered : (value number : ℕ → ℕ) (rows : List (List ℕ))
    → ((k d : ℕ) → k < length rows → Has d (get_or rows k []) → number d ≡ k)
    → ((c d : ℕ) → Has c (flat rows) → Has d (flat rows) → number c ≡ number d → value c ≡ value d)
    → EachList (HasOneValue value) rows
HasOneValue-numbered value number rows numbered tells = EachList-by_place (HasOneValue value) rows (λ k lt c d hc hd.
    tells c d (Has-flat c k rows lt hc) (Has-flat d k rows lt hd)
    (numbered k c lt hc ∙ sym (numbered k d lt hd)))

-- two tests for items agree where each item passes both or none
has_both : (d : ℕ) (xs : List ℕ) (e : ℕ) (ys : List ℕ) → (Has d xs → Has e ys) → (Has e ys → Has d xs)
    → has d xs ≡ has e ys
has_both d xs e ys to from = ⊎_elim
    (λ q. has_yes d xs q ∙ sym (has_yes e ys (to q)))
    (λ l. has_no d xs l ∙ sym (has_no e ys (Lacks-from e ys (λ q. has_lacks d xs (from q) l))))
    (has_cases d xs)

-- a list of darts that keeps the order of a row, whose keys tell what is of the row: the keys in reverse have, of the
-- part, the order that the row mirrors
restricted_part : (whole order row part : List ℕ) (key put name : ℕ → ℕ)
    → RestrictsTo whole (map put row) → ((d : ℕ) → Has d whole → has d (map put row) ≡ has (key d) part)
    → ((x : ℕ) → Has x order → key (put (name x)) ≡ x) → IsTurn (reverse (map name order)) row
    → IsTurn order (part_order (map key (reverse whole)) part)
restricted_part whole order row part key put name kept tells back turned =
    let one : IsTurn order (reverse (map (λ y. key (put y)) row)) =
    turn_mirrored name (λ y. key (put y)) row order back (turn-sym (reverse (map name order)) row turned) in
    let two : IsTurn (reverse (map key (map put row))) (reverse (map key (filter (is_of (map put row)) whole))) =
    turn-reverse (map key (map put row)) (map key (filter (is_of (map put row)) whole))
    (turn-map key (map put row) (filter (is_of (map put row)) whole) kept) in
    let same : reverse (map key (filter (is_of (map put row)) whole)) ≡ part_order (map key (reverse whole)) part =
    ap (λ zs. reverse (map key zs)) (filter_agree (is_of (map put row)) (λ d. has (key d) part) whole tells)
    ∙ ap reverse (sym (filter-map key (λ x. has x part) whole))
    ∙ sym (filter-reverse (λ x. has x part) (map key whole))
    ∙ ap (filter (λ x. has x part)) (sym (map-reverse key whole)) in
    turn-trans order (reverse (map (λ y. key (put y)) row)) (part_order (map key (reverse whole)) part) one
    (subst (λ zs. IsTurn zs (part_order (map key (reverse whole)) part)) (ap reverse (map_twice put key row))
    (subst (IsTurn (reverse (map key (map put row)))) same two))

module _ (i : Synchronized) (p : Pipe) (s t : Parting) (hats : List ℕ) (h : HasPartings i p s t hats) where
  -- the edges of the first end, for which there are new edges, and the names of these
  abbrev firsts : List ℕ
  firsts = edges_a i p s t hats h

  -- the new edge for an edge of the first end
  abbrev new_edge : ℕ → ℕ
  new_edge x = hat i p s t hats h x

  -- the graph of the inner vertices, and the dart of the new edge for an edge at its first end
  abbrev inner : NamedGraph
  inner = inner_graph i p s t hats h

  -- the dart of the new edge for an edge at its first end
  abbrev hat_dart : ℕ → ℕ
  hat_dart x = 2 * rank firsts x

  -- the edges of both ends for the dart of a new edge
  abbrev pub key_a : ℕ → ℕ
  key_a d = get_or firsts (d / 2) 0

  -- and of the second end
  abbrev pub key_b : ℕ → ℕ
  key_b d = partner p p.a (key_a d)

  -- there are as many new edges
  hats_size : length hats ≡ length firsts
  hats_size = ap length (sym (hats_all i p s t hats h)) ∙ length-map firsts (hat i p s t hats h)

  -- an edge has a place
  place_of : (x : ℕ) → Has x firsts → (rank firsts x < length firsts) × (get_or firsts (rank firsts x) 0 ≡ x)
  place_of x k = rank_at firsts x ((Has-Contains x firsts).0 k)

  -- the edge for the dart of an edge
  key_hat : (x : ℕ) → Has x firsts → key_a (hat_dart x) ≡ x
  key_hat x k =
      let half : hat_dart x / 2 ≡ rank firsts x = omega arith in
      ap (λ n. get_or firsts n 0) half ∙ (place_of x k).1

  -- twins are of one edge
  key_twin : (d : ℕ) → key_a (twin d) ≡ key_a d
  key_twin d = ap (λ n. get_or firsts n 0) (half_twin d)

  -- the twin of such a dart
  hat_twin : (x : ℕ) → twin (hat_dart x) ≡ hat_dart x + 1
  hat_twin x = twin_even (hat_dart x) (omega arith)

  -- each dart is of an edge: the first is at its first end
  hat_cases : (d : ℕ) → d < 2 * length hats → (x : ℕ) × Has x firsts × ((hat_dart x ≡ d) ⊎ (hat_dart x + 1 ≡ d))
  hat_cases d lt =
      let low : d / 2 < length firsts = omega (arith, lt, hats_size) in
      let x : ℕ = get_or firsts (d / 2) 0 in
      let place : rank firsts x ≡ d / 2 = rank_is firsts (d / 2) x (once_at i p s t hats h p.a) low refl in (
        x,
        (Has-Contains x firsts).1 (Contains-get_or firsts (d / 2) 0 low),
        ⊎_elim
            (λ even. inl (omega (arith, place, even)))
            (λ odd. inr (omega (arith, place, odd)))
            (cases_eq (d % 2) 0),
      )

  -- one dart is one edge
  hat_once : (x y : ℕ) → Has x firsts → Has y firsts → hat_dart x ≡ hat_dart y → x ≡ y
  hat_once x y hx hy same = sym (key_hat x hx) ∙ ap key_a same ∙ key_hat y hy

  -- the edges of a part of the first end are edges of it
  part_first : (k x : ℕ) → k < length s.parts → Has x (slice_index_or s.parts k []) → Has x firsts
  part_first k x lt m =
      (Has-Contains x firsts).1
      (all_from (graph i) p.a s.parts h.rules.edges_named.rise h.parts_a x (Has-flat_map x s.parts k lt m))

  -- and the same at the second
  part_second : (k y : ℕ) → k < length t.parts → Has y (slice_index_or t.parts k []) → Has y (edges_of i p.b)
  part_second k y lt m =
      (Has-Contains y (edges_of i p.b)).1
      (all_from (graph i) p.b t.parts h.rules.edges_named.rise h.parts_b y (Has-flat_map y t.parts k lt m))

  -- an order of the edges of the first end, which that of the second mirrors, and lists of inner vertices made from it
  module _ (us ws : List ℕ) (items : (x : ℕ) → Has x us → Has x firsts) (once : Distinct us)
      (mirrored : IsTurn (reverse (map (partner p p.a) us)) ws) (after : ℕ → List ℕ)
      (inner_a : (k : ℕ) → k < length s.parts → after (slice_index s.inner k)
      ≡ reverse (map new_edge (part_order us (slice_index_or s.parts k []))))
      (inner_b : (k : ℕ) → k < length t.parts → after (slice_index t.inner k)
      ≡ map new_edge (filter (λ x. has (partner p p.a x) (slice_index_or t.parts k [])) us)) where
    -- the darts of the new edges at the first end, in the reverse of this order
    abbrev darts : List ℕ
    darts = reverse (map hat_dart us)

    -- the components that edges of both ends lead to
    abbrev value_a : ℕ → ℕ
    value_a = part_value (graph i) p.a

    -- and at the second end
    abbrev value_b : ℕ → ℕ
    value_b = part_value (graph i) p.b

    -- the edge of the second end for a dart there
    key_back : (x : ℕ) → Has x us → key_b (twin (hat_dart x)) ≡ partner p p.a x
    key_back x k = ap (partner p p.a) (key_twin (hat_dart x) ∙ key_hat x (items x k))

    -- the twins of the darts, in this order
    mirror-darts : mirror darts ≡ map (λ x. twin (hat_dart x)) us
    mirror-darts = mirror-hats us ws (partner p p.a) hat_dart mirrored value_a value_b key_a key_b
        (λ x k. key_hat x (items x k)) key_back

    -- the list of an inner vertex of the first end
    row_a : (k : ℕ) → k < length s.parts → dart_list (dart inner) after (slice_index s.inner k)
        ≡ part_copy key_a darts (slice_index_or s.parts k [])
    row_a k lt =
        ap (map at) (inner_a k lt) ∙ map-reverse at (map new_edge mine)
        ∙ ap reverse (map_twice new_edge at mine
        ∙ map_agree_on (λ x. at (new_edge x)) hat_dart mine
        (λ x m. inner_dart-a i p s t hats h k x lt (has_true x part (filter-Has (λ y. has y part) x us m).1)))
        ∙ sym (filter-reverse (λ d. has (key_a d) part) (map hat_dart us)
        ∙ ap reverse (filter-map hat_dart (λ d. has (key_a d) part) us
        ∙ ap (map hat_dart) (filter_agree (λ x. has (key_a (hat_dart x)) part) (λ x. has x part) us
        (λ x m. ap (λ y. has y part) (key_hat x (items x m))))))
      where
        part : List ℕ
        part = slice_index_or s.parts k []

        mine : List ℕ
        mine = part_order us part

        at : ℕ → ℕ
        at = dart inner (slice_index s.inner k)

    -- the list of one of the second
    row_b : (k : ℕ) → k < length t.parts → dart_list (dart inner) after (slice_index t.inner k)
        ≡ part_copy key_b (mirror darts) (slice_index_or t.parts k [])
    row_b k lt =
        ap (map at) (inner_b k lt) ∙ map_twice new_edge at mine
        ∙ map_agree_on (λ x. at (new_edge x)) (λ x. twin (hat_dart x)) mine
        (λ x m. inner_dart-b i p s t hats h k x lt
        (items x (filter-Has (λ y. has (partner p p.a y) part) x us m).0) ∙ sym (hat_twin x))
        ∙ sym (ap (filter (λ d. has (key_b d) part)) mirror-darts
        ∙ filter-map (λ x. twin (hat_dart x)) (λ d. has (key_b d) part) us
        ∙ ap (map (λ x. twin (hat_dart x))) (filter_agree (λ x. has (key_b (twin (hat_dart x))) part)
        (λ x. has (partner p p.a x) part) us (λ x m. ap (λ y. has y part) (key_back x m))))
      where
        part : List ℕ
        part = slice_index_or t.parts k []

        mine : List ℕ
        mine = filter (λ x. has (partner p p.a x) part) us

        at : ℕ → ℕ
        at = dart inner (slice_index t.inner k)

    -- all of them
    inner_rows : rows_of inner after ≡ part_copies key_a darts s.parts ++ part_copies key_b (mirror darts) t.parts
    inner_rows =
        map-append (dart_list (dart inner) after) s.inner t.inner
        ∙ ap₂ (λ xs ys. xs ++ ys)
        (map-by_place (dart_list (dart inner) after) (part_copy key_a darts) s.inner s.parts
        h.parted.first_end.inner_each row_a)
        (map-by_place (dart_list (dart inner) after) (part_copy key_b (mirror darts)) t.inner t.parts
        h.parted.second_end.inner_each row_b)

    -- a dart is that of an edge
    dart_from : (d : ℕ) → Has d darts → (x : ℕ) × Has x us × (hat_dart x ≡ d)
    dart_from d k = map_on-Has hat_dart d us (reverse-Has d (map hat_dart us) k)

    -- the parts of the first end by components, and those of the second
    tells_a : TellsParts (λ d. value_a (key_a d)) key_a darts s.parts
    tells_a = ArePartsAt-TellsParts (graph i) p.a s.parts h.rules.edges_named.rise h.parts_a key_a darts (λ d k.
        let r = dart_from d k in
        subst (Contains firsts) (sym (key_hat r.0 (items r.0 r.1)) ∙ ap key_a r.2)
        ((Has-Contains r.0 firsts).0 (items r.0 r.1)))

    -- and those of the second
    tells_b : TellsParts (λ d. value_b (key_b d)) key_b (mirror darts) t.parts
    tells_b = ArePartsAt-TellsParts (graph i) p.b t.parts h.rules.edges_named.rise h.parts_b key_b (mirror darts)
        (λ d k.
        let r = map_on-Has (λ x. twin (hat_dart x)) d us (subst (Has d) mirror-darts k) in
        subst (Contains (edges_of i p.b)) (sym (key_back r.0 r.1) ∙ ap key_b r.2)
        ((Has-Contains (partner p p.a r.0) (edges_of i p.b)).0 (partner_of_a i p s t hats h r.0 (items r.0 r.1))))

    -- where the parts of each end do not cross in its order, the inner vertices can be flat
    pub inner-CanBeFlat : NoCross value_a us → NoCross value_b ws → CanBeFlat (length hats) (rows_of inner after)
    inner-CanBeFlat apart_a apart_b =
        subst (CanBeFlat (length hats)) (sym inner_rows)
        (mirrored_ends-CanBeFlat us ws (partner p p.a) hat_dart mirrored value_a value_b key_a key_b
        (λ x k. key_hat x (items x k)) key_back (length hats) s.parts t.parts
        (Distinct-reverse (map hat_dart us)
        (Distinct-map_on hat_dart us (λ x y hx hy. hat_once x y (items x hx) (items y hy)) once))
        (λ d k. let r = dart_from d k in let low = (place_of r.0 (items r.0 r.1)).0 in
        let same = r.2 in omega (arith, same, low, hats_size))
        (λ d k. Lacks-from (twin d) darts (λ l.
        let r = dart_from d k in
        let q = dart_from (twin d) l in
        let odd : twin d ≡ hat_dart r.0 + 1 = ap twin (sym r.2) ∙ hat_twin r.0 in
        let same = q.2 in omega (arith, odd, same)))
        tells_a tells_b
        (λ x k. key_in_part (graph i) p.a s.parts h.rules.edges_named.rise h.parts_a (λ y. y) us
        (λ y l. (Has-Contains y firsts).0 (items y l)) x k)
        (λ x k. key_in_part (graph i) p.b t.parts h.rules.edges_named.rise h.parts_b (partner p p.a) us
        (λ y l. (Has-Contains (partner p p.a y) (edges_of i p.b)).0 (partner_of_a i p s t hats h y (items y l))) x k)
        apart_a apart_b)

  -- lists of the inner vertices after Join, each an arrangement of its edges
  module _ (after : ℕ → List ℕ)
      (perm_a : (k : ℕ) → k < length s.parts
      → IsPermutation (map new_edge (slice_index_or s.parts k [])) (after (slice_index s.inner k)))
      (perm_b : (k : ℕ) → k < length t.parts
      → IsPermutation (map (λ y. new_edge (partner p p.b y)) (slice_index_or t.parts k []))
      (after (slice_index t.inner k))) where
    -- the darts at the vertices of the first end, and at those of the second
    abbrev pub side : List (List ℕ)
    side = map (dart_list (dart inner) after) s.inner

    -- and at those of the second
    abbrev pub others : List (List ℕ)
    others = map (dart_list (dart inner) after) t.inner

    -- the rows of one vertex
    side_row : (k : ℕ) → k < length s.parts → get_or side k [] ≡ dart_list (dart inner) after (slice_index s.inner k)
    side_row k lt = get_or-map (dart_list (dart inner) after) s.inner k 0 []
        (omega (arith, lt, h.parted.first_end.inner_each))

    -- and that of one of the second end
    others_row : (k : ℕ) → k < length t.parts
        → get_or others k [] ≡ dart_list (dart inner) after (slice_index t.inner k)
    others_row k lt = get_or-map (dart_list (dart inner) after) t.inner k 0 []
        (omega (arith, lt, h.parted.second_end.inner_each))

    -- there are as many as parts
    side_size : length side ≡ length s.parts
    side_size = length-map s.inner (dart_list (dart inner) after) ∙ h.parted.first_end.inner_each

    -- also at the second end
    others_size : length others ≡ length t.parts
    others_size = length-map t.inner (dart_list (dart inner) after) ∙ h.parted.second_end.inner_each

    -- an item of a row of the first end is the dart for an edge of its part
    side_item : (k d : ℕ) → k < length s.parts → Has d (get_or side k [])
        → (x : ℕ) × Has x (slice_index_or s.parts k []) × (hat_dart x ≡ d)
    side_item k d lt m =
        let part : List ℕ = slice_index_or s.parts k [] in
        let v : ℕ = slice_index s.inner k in
        let e = map_on-Has (dart inner v) d (after v) (subst (Has d) (side_row k lt) m) in
        let x = map_on-Has new_edge e.0 part (Has-IsPermutation e.0 (after v) (map new_edge part)
        (IsPermutation-sym (map new_edge part) (after v) (perm_a k lt)) e.1) in
        (x.0, x.1, sym (inner_dart-a i p s t hats h k x.0 lt x.1) ∙ ap (dart inner v) x.2 ∙ e.2)

    -- and each of these stands there
    item_side : (k x : ℕ) → k < length s.parts → Has x (slice_index_or s.parts k [])
        → Has (hat_dart x) (get_or side k [])
    item_side k x lt m =
        let part : List ℕ = slice_index_or s.parts k [] in
        let v : ℕ = slice_index s.inner k in
        subst (Has (hat_dart x)) (sym (side_row k lt))
        (subst (λ d. Has d (map (dart inner v) (after v))) (inner_dart-a i p s t hats h k x lt m)
        (Has-map_on (dart inner v) (new_edge x) (after v)
        (Has-IsPermutation (new_edge x) (map new_edge part) (after v) (perm_a k lt) (Has-map_on new_edge x part m))))

    -- an item of a row of the second end is the other dart for an edge whose partner is in its part
    others_item : (k d : ℕ) → k < length t.parts → Has d (get_or others k [])
        → (x : ℕ) × Has x firsts × Has (partner p p.a x) (slice_index_or t.parts k []) × (hat_dart x + 1 ≡ d)
    others_item k d lt m =
        let part : List ℕ = slice_index_or t.parts k [] in
        let v : ℕ = slice_index t.inner k in
        let e = map_on-Has (dart inner v) d (after v) (subst (Has d) (others_row k lt) m) in
        let y = map_on-Has (λ z. new_edge (partner p p.b z)) e.0 part
        (Has-IsPermutation e.0 (after v) (map (λ z. new_edge (partner p p.b z)) part)
        (IsPermutation-sym (map (λ z. new_edge (partner p p.b z)) part) (after v) (perm_b k lt)) e.1) in
        let second : Has y.0 (edges_of i p.b) = part_second k y.0 lt y.1 in
        let live : Has (partner p p.b y.0) firsts = partner_of_b i p s t hats h y.0 second in (
          partner p p.b y.0,
          live,
          subst (λ z. Has z part) (sym (partner_forth i p s t hats h y.0 second)) y.1,
          sym (inner_dart-b i p s t hats h k (partner p p.b y.0) lt live) ∙ ap (dart inner v) y.2 ∙ e.2,
        )

    -- and each of these stands there
    item_others : (k x : ℕ) → k < length t.parts → Has x firsts → Has (partner p p.a x) (slice_index_or t.parts k [])
        → Has (hat_dart x + 1) (get_or others k [])
    item_others k x lt live m =
        let part : List ℕ = slice_index_or t.parts k [] in
        let v : ℕ = slice_index t.inner k in
        subst (Has (hat_dart x + 1)) (sym (others_row k lt))
        (subst (λ d. Has d (map (dart inner v) (after v))) (inner_dart-b i p s t hats h k x lt live)
        (Has-map_on (dart inner v) (new_edge x) (after v)
        (Has-IsPermutation (new_edge x) (map (λ z. new_edge (partner p p.b z)) part) (after v) (perm_b k lt)
        (subst (λ z. Has (new_edge z) (map (λ y. new_edge (partner p p.b y)) part)) (partner_back i p s t hats h x live)
        (Has-map_on (λ y. new_edge (partner p p.b y)) (partner p p.a x) part m)))))

    -- no row of the first end is empty
    pub side_filled : (k : ℕ) → k < length side → (d : ℕ) × Has d (get_or side k [])
    side_filled k lt =
        let low : k < length s.parts = omega (arith, lt, side_size) in
        let x = some_item (slice_index_or s.parts k []) (h.parts_a.filled k [] low) in
        (hat_dart x.0, item_side k x.0 low x.1)
      where
        some_item : (part : List ℕ) → 0 < length part → (x : ℕ) × Has x part
        some_item [] some = absurd (omega (arith, some))
        some_item (x ∷ part) some = (x, inl refl)

    -- the part of an edge of the first end, and of its partner
    part_a : (x : ℕ) → Has x firsts
        → (part_of s.parts x < length s.parts) × Has x (slice_index_or s.parts (part_of s.parts x) [])
    part_a x live = part_has s.parts x (all_has (graph i) p.a s.parts h.rules.edges_named.rise h.parts_a x
        ((Has-Contains x firsts).0 live))

    -- and that of its partner
    part_b : (x : ℕ) → Has x firsts → (part_of t.parts (partner p p.a x) < length t.parts)
        × Has (partner p p.a x) (slice_index_or t.parts (part_of t.parts (partner p p.a x)) [])
    part_b x live = part_has t.parts (partner p p.a x)
        (all_has (graph i) p.b t.parts h.rules.edges_named.rise h.parts_b (partner p p.a x)
        ((Has-Contains (partner p p.a x) (edges_of i p.b)).0 (partner_of_a i p s t hats h x live)))

    -- so the darts of the first end are the first darts of all new edges, and those of the second the others
    side_has : (x : ℕ) → Has x firsts → Has (hat_dart x) (flat side)
    side_has x live =
        let q = part_a x live in
        Has-flat (hat_dart x) (part_of s.parts x) side (omega (arith, q.0, side_size))
        (item_side (part_of s.parts x) x q.0 q.1)

    -- and the second ones are at the second
    others_has : (x : ℕ) → Has x firsts → Has (hat_dart x + 1) (flat others)
    others_has x live =
        let q = part_b x live in
        Has-flat (hat_dart x + 1) (part_of t.parts (partner p p.a x)) others (omega (arith, q.0, others_size))
        (item_others (part_of t.parts (partner p p.a x)) x q.0 live q.1)

    -- a dart at the first end is of an edge
    side_edge : (d : ℕ) → Has d (flat side) → (x : ℕ) × Has x firsts × (hat_dart x ≡ d)
    side_edge d m =
        let w = flat-Has d side m in
        let lt : w.0 < length s.parts = omega (arith, w.1, side_size) in
        let x = side_item w.0 d lt w.2 in (x.0, part_first w.0 x.0 lt x.1, x.2)

    -- and so is one at the second
    others_edge : (d : ℕ) → Has d (flat others) → (x : ℕ) × Has x firsts × (hat_dart x + 1 ≡ d)
    others_edge d m =
        let w = flat-Has d others m in
        let lt : w.0 < length t.parts = omega (arith, w.1, others_size) in
        let x = others_item w.0 d lt w.2 in (x.0, x.1, x.3)

    -- each new edge leads from the one side to the other
    pub inner-AreSides : AreSides side others
    inner-AreSides = record {
      across = λ d m. let x = side_edge d m in
          subst (λ y. Has y (flat others)) (sym (ap twin (sym x.2) ∙ hat_twin x.0)) (others_has x.0 x.1);
      back = λ d m. let x = others_edge d m in
          subst (λ y. Has y (flat side)) (sym (ap twin (sym x.2 ∙ sym (hat_twin x.0)) ∙ twin-twin (hat_dart x.0)))
          (side_has x.0 x.1);
    }

    -- each dart is in a row
    stock : (d : ℕ) → d < 2 * length hats → Has d (flat side) ⊎ Has d (flat others)
    stock d lt =
        let x = hat_cases d lt in
        ⊎_elim
        (λ q. inl (subst (λ y. Has y (flat side)) q (side_has x.0 x.1)))
        (λ q. inr (subst (λ y. Has y (flat others)) q (others_has x.0 x.1)))
        x.2

    -- the edge of a dart of the second end
    key_other : (x : ℕ) → Has x firsts → key_a (hat_dart x + 1) ≡ x
    key_other x live = ap key_a (sym (hat_twin x)) ∙ key_twin (hat_dart x) ∙ key_hat x live

    -- the components that the edges lead to, and the numbers of the parts
    abbrev leads_a : ℕ → ℕ
    leads_a d = part_value (graph i) p.a (key_a d)

    -- and the same at the second end
    abbrev leads_b : ℕ → ℕ
    leads_b d = part_value (graph i) p.b (key_b d)

    -- the number of the part of a dart
    abbrev number_a : ℕ → ℕ
    number_a d = part_of s.parts (key_a d)

    -- and at the second end
    abbrev number_b : ℕ → ℕ
    number_b d = part_of t.parts (key_b d)

    -- a row has the darts of one part
    numbered_a : (k d : ℕ) → k < length side → Has d (get_or side k []) → number_a d ≡ k
    numbered_a k d lt m =
        let low : k < length s.parts = omega (arith, lt, side_size) in
        let x = side_item k d low m in
        ap number_a (sym x.2) ∙ ap (part_of s.parts) (key_hat x.0 (part_first k x.0 low x.1))
        ∙ part_is s.parts k x.0 (all_once (graph i) p.a s.parts h.rules.edges_named.rise h.parts_a) low x.1

    -- and so has one of the second end
    numbered_b : (k d : ℕ) → k < length others → Has d (get_or others k []) → number_b d ≡ k
    numbered_b k d lt m =
        let low : k < length t.parts = omega (arith, lt, others_size) in
        let x = others_item k d low m in
        ap number_b (sym x.3) ∙ ap (λ y. part_of t.parts (partner p p.a y)) (key_other x.0 x.1)
        ∙ part_is t.parts k (partner p p.a x.0) (all_once (graph i) p.b t.parts h.rules.edges_named.rise h.parts_b) low
        x.2

    -- the key of a dart of a side is an edge of its end
    key_side : (d : ℕ) → Has d (flat side) → Contains firsts (key_a d)
    key_side d m =
        let x = side_edge d m in
        subst (Contains firsts) (sym (key_hat x.0 x.1) ∙ ap key_a x.2) ((Has-Contains x.0 firsts).0 x.1)

    -- and at the second end
    key_others : (d : ℕ) → Has d (flat others) → Contains (edges_of i p.b) (key_b d)
    key_others d m =
        let x = others_edge d m in
        subst (Contains (edges_of i p.b)) (ap (partner p p.a) (sym (key_other x.0 x.1) ∙ ap key_a x.2))
        ((Has-Contains (partner p p.a x.0) (edges_of i p.b)).0 (partner_of_a i p s t hats h x.0 x.1))

    -- darts lead to one component exactly where they are of one part
    told_a : (c d : ℕ) → Has c (flat side) → Has d (flat side) → (number_a c ≡ number_a d) ↔ (leads_a c ≡ leads_a d)
    told_a c d hc hd =
        let one = h.parts_a.one (key_a c) (key_a d) (key_side c hc) (key_side d hd) in
        let values = part_value-Connected (graph i) p.a (key_a c) (key_a d) in
        ((λ q. values.1 (one.0 q)), (λ q. one.1 (values.0 q)))

    -- and at the second end
    told_b : (c d : ℕ) → Has c (flat others) → Has d (flat others) → (number_b c ≡ number_b d) ↔ (leads_b c ≡ leads_b d)
    told_b c d hc hd =
        let one = h.parts_b.one (key_b c) (key_b d) (key_others c hc) (key_others d hd) in
        let values = part_value-Connected (graph i) p.b (key_b c) (key_b d) in
        ((λ q. values.1 (one.0 q)), (λ q. one.1 (values.0 q)))

    -- the vertices of the first end made one vertex
    module _ (whole : List ℕ) (merged : IsMergedSide (length hats) side others whole) where
      -- the orders of both ends that its list gives
      abbrev pub order_a : List ℕ
      order_a = map key_a (reverse whole)

      -- and that of the second, which mirrors it
      abbrev pub order_b : List ℕ
      order_b = reverse (map (partner p p.a) order_a)

      -- the parts of each end do not cross in the list and its mirror
      hat_order : IsHatOrder leads_a leads_b side others whole
      hat_order = merged_side-IsHatOrder (length hats) side others whole leads_a leads_b merged inner-AreSides stock
          (HasOneValue-numbered leads_a number_a side numbered_a (λ c d hc hd. (told_a c d hc hd).0))
          (HaveOtherValues-numbered leads_a number_a side 0
          (λ k d lt m. let q = numbered_a k d lt m in omega (arith, q)) (λ c d hc hd. (told_a c d hc hd).1))
          (HasOneValue-numbered leads_b number_b others numbered_b (λ c d hc hd. (told_b c d hc hd).0))
          (HaveOtherValues-numbered leads_b number_b others 0
          (λ k d lt m. let q = numbered_b k d lt m in omega (arith, q)) (λ c d hc hd. (told_b c d hc hd).1))

      -- a twin is of the partner
      key_pair : (d : ℕ) → Has d whole → key_b (twin d) ≡ partner p p.a (key_a d)
      key_pair d m = ap (partner p p.a) (key_twin d)

      -- the parts of the first end do not cross in its order, nor those of the second in its own
      pub order_a-NoCross : NoCross (part_value (graph i) p.a) order_a
      order_a-NoCross = first_order-NoCross whole (partner p p.a) (part_value (graph i) p.a) (part_value (graph i) p.b)
          key_a key_b key_pair hat_order.apart_a

      -- nor those of the second in its own
      pub order_b-NoCross : NoCross (part_value (graph i) p.b) order_b
      order_b-NoCross = second_order-NoCross whole (partner p p.a) (part_value (graph i) p.a) (part_value (graph i) p.b)
          key_a key_b key_pair hat_order.apart_b

      -- the list has the first dart of each new edge, once
      whole_once : Distinct whole
      whole_once = Distinct-append_left whole (flat others) merged.can_be_flat.1.once

      -- each of its darts is of an edge
      whole_edge : (d : ℕ) → Has d whole → (x : ℕ) × Has x firsts × (hat_dart x ≡ d)
      whole_edge d m = ⊎_elim
          (λ k. side_edge d k)
          (λ k. absurd (has_lacks d (flat others) k (Distinct-apart d whole (flat others) merged.can_be_flat.1.once m)))
          (stock d (below_item (2 * length hats) d (whole ++ flat others) merged.can_be_flat.1.below
          (Has-append_left d whole (flat others) m)))

      -- and it has that of each edge
      whole_has : (x : ℕ) → Has x firsts → Has (hat_dart x) whole
      whole_has x live =
          let q = part_a x live in
          let k : ℕ = part_of s.parts x in
          let low : k < length side = omega (arith, q.0, side_size) in
          (filter-Has (is_of (get_or side k [])) (hat_dart x) whole
          (turn-Has (get_or side k []) (filter (is_of (get_or side k [])) whole) (hat_dart x)
          (EachList-at (RestrictsTo whole) side merged.merge.restricted k low) (item_side k x q.0 q.1))).0

      -- so the order of the first end arranges its edges
      pub order_a-arranged : IsPermutation firsts order_a
      order_a-arranged =
          IsPermutation-from firsts order_a (once_at i p s t hats h p.a)
          (Distinct-map_on key_a (reverse whole) (λ c d hc hd q.
          let x = whole_edge c (reverse-Has c whole hc) in
          let y = whole_edge d (reverse-Has d whole hd) in
          sym x.2 ∙ ap hat_dart (sym (key_hat x.0 x.1) ∙ ap key_a x.2 ∙ q ∙ ap key_a (sym y.2) ∙ key_hat y.0 y.1) ∙ y.2)
          (Distinct-reverse whole whole_once))
          (λ x live. subst (λ y. Has y order_a) (key_hat x live)
          (Has-map_on key_a (hat_dart x) (reverse whole) (Has-reverse (hat_dart x) whole (whole_has x live))))
          (λ y m.
          let d = map_on-Has key_a y (reverse whole) m in
          let x = whole_edge d.0 (reverse-Has d.0 whole d.1) in
          subst (λ z. Has z firsts) (sym (key_hat x.0 x.1) ∙ ap key_a x.2 ∙ d.2) x.1)

      -- and that of the second end the partners
      pub order_b-arranged : IsPermutation (edges_of i p.b) order_b
      order_b-arranged =
          IsPermutation-from (edges_of i p.b) order_b (once_at i p s t hats h p.b)
          (Distinct-reverse (map (partner p p.a) order_a)
          (Distinct-map_on (partner p p.a) order_a (λ x y hx hy q.
          sym (partner_back i p s t hats h x (first_item x hx)) ∙ ap (partner p p.b) q
          ∙ partner_back i p s t hats h y (first_item y hy))
          (Distinct-IsPermutation firsts order_a order_a-arranged (once_at i p s t hats h p.a))))
          (λ y m.
          let live : Has (partner p p.b y) order_a =
          Has-IsPermutation (partner p p.b y) firsts order_a order_a-arranged (partner_of_b i p s t hats h y m) in
          Has-reverse y (map (partner p p.a) order_a) (subst (λ z. Has z (map (partner p p.a) order_a))
          (partner_forth i p s t hats h y m) (Has-map_on (partner p p.a) (partner p p.b y) order_a live)))
          (λ y m.
          let x = map_on-Has (partner p p.a) y order_a (reverse-Has y (map (partner p p.a) order_a) m) in
          subst (λ z. Has z (edges_of i p.b)) x.2 (partner_of_a i p s t hats h x.0 (first_item x.0 x.1)))
        where
          first_item : (x : ℕ) → Has x order_a → Has x firsts
          first_item x m = Has-IsPermutation x order_a firsts (IsPermutation-sym firsts order_a order_a-arranged) m

      -- in the order of the first end, a part stands as the outer vertex has it whose list the inner one mirrors
      pub order_a-part : (k : ℕ) (order : List ℕ) → k < length s.parts
          → ((x : ℕ) → Has x order → Has x (slice_index_or s.parts k []))
          → IsTurn (reverse (map new_edge order)) (after (slice_index s.inner k))
          → IsTurn order (part_order order_a (slice_index_or s.parts k []))
      order_a-part k order lt among turned =
          restricted_part whole order (after v) part key_a (dart inner v) new_edge
          (subst (RestrictsTo whole) (side_row k lt)
          (EachList-at (RestrictsTo whole) side merged.merge.restricted k (omega (arith, lt, side_size))))
          (λ d m.
          let x = whole_edge d m in
          let key : key_a d ≡ x.0 = ap key_a (sym x.2) ∙ key_hat x.0 x.1 in
          has_both d (map (dart inner v) (after v)) (key_a d) part
          (λ q. let y = side_item k d lt (subst (Has d) (sym (side_row k lt)) q) in
          subst (λ z. Has z part) (hat_once y.0 x.0 (part_first k y.0 lt y.1) x.1 (y.2 ∙ sym x.2) ∙ sym key) y.1)
          (λ q. subst (Has d) (side_row k lt) (subst (λ z. Has z (get_or side k [])) x.2
          (item_side k x.0 lt (subst (λ z. Has z part) key q)))))
          (λ x m. ap key_a (inner_dart-a i p s t hats h k x lt (among x m)) ∙ key_hat x (part_first k x lt (among x m)))
          turned
        where
          v : ℕ
          v = slice_index s.inner k

          part : List ℕ
          part = slice_index_or s.parts k []

      -- the order of the second end, by the mirror of the list
      order_b-mirror : map key_b (reverse (mirror whole)) ≡ order_b
      order_b-mirror =
          ap (map key_b) (reverse-reverse (map twin whole)) ∙ map_twice twin key_b whole
          ∙ map_agree_on (λ d. key_b (twin d)) (λ d. partner p p.a (key_a d)) whole key_pair
          ∙ sym (ap (λ zs. reverse (map (partner p p.a) zs)) (map-reverse key_a whole)
          ∙ ap reverse (map-reverse (partner p p.a) (map key_a whole))
          ∙ reverse-reverse (map (partner p p.a) (map key_a whole))
          ∙ map_twice key_a (partner p p.a) whole)

      -- the same in the order of the second end
      pub order_b-part : (k : ℕ) (order : List ℕ) → k < length t.parts
          → ((y : ℕ) → Has y order → Has y (slice_index_or t.parts k []))
          → IsTurn (reverse (map (λ y. new_edge (partner p p.b y)) order)) (after (slice_index t.inner k))
          → IsTurn order (part_order order_b (slice_index_or t.parts k []))
      order_b-part k order lt among turned =
          subst (λ zs. IsTurn order (part_order zs part)) order_b-mirror
          (restricted_part (mirror whole) order (after v) part key_b (dart inner v) (λ y. new_edge (partner p p.b y))
          (subst (RestrictsTo (mirror whole)) (others_row k lt)
          (EachList-at (RestrictsTo (mirror whole)) others hat_order.kept_b k (omega (arith, lt, others_size))))
          (λ d m.
          let x = whole_edge (twin d) (mirror-Has d whole m) in
          let other : hat_dart x.0 + 1 ≡ d = sym (hat_twin x.0) ∙ ap twin x.2 ∙ twin-twin d in
          let key : key_b d ≡ partner p p.a x.0 = ap key_b (sym other) ∙ ap (partner p p.a) (key_other x.0 x.1) in
          has_both d (map (dart inner v) (after v)) (key_b d) part
          (λ q. let y = others_item k d lt (subst (Has d) (sym (others_row k lt)) q) in
          let one : y.0 ≡ x.0 = hat_once y.0 x.0 y.1 x.1
          (let e = y.3 in let f = other in let g : hat_dart y.0 ≡ hat_dart x.0 = omega (arith, e, f) in g) in
          subst (λ z. Has z part) (ap (partner p p.a) one ∙ sym key) y.2)
          (λ q. subst (Has d) (others_row k lt) (subst (λ z. Has z (get_or others k [])) other
          (item_others k x.0 lt x.1 (subst (λ z. Has z part) key q)))))
          (λ y m.
          let second : Has y (edges_of i p.b) = part_second k y lt (among y m) in
          let first : Has (partner p p.b y) firsts = partner_of_b i p s t hats h y second in
          ap key_b (inner_dart-b i p s t hats h k (partner p p.b y) lt first)
          ∙ ap (partner p p.a) (key_other (partner p p.b y) first) ∙ partner_forth i p s t hats h y second)
          turned)
        where
          v : ℕ
          v = slice_index t.inner k

          part : List ℕ
          part = slice_index_or t.parts k []
