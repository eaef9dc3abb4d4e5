-- A rotation of an instance has genus zero exactly where that of each block has and no two blocks cross at a vertex.
use Rattle.std.proofs.Common.{◌≡◌, ◌≢◌, ℕ, ◌+◌, ◌*◌, ◌/◌, ◌%◌, ◌<◌, ◌≤◌, ◌↔◌, Bool, true, false, cond, eqb, List, [], ◌∷◌, length, filter, map, slice_index, slice_index_or, sym, refl, ap, ap₂, ◌∙◌, subst, inl, inr, ⊎_elim, arith}
use Rattle.std.specs.List.{All, Contains}
use Rattle.std.specs.List.Sorted.{IsPermutation, IsStrictlyIncreasing}
use Rattle.std.proofs.lemmas.Bool.{cases_Bool, cases_eq}
use Rattle.std.proofs.lemmas.List.{get_or_default}
use Rattle.std.proofs.lemmas.List.Elements.{All-contains}
use Rattle.std.proofs.lemmas.List.Sorted.{Contains-permutation, IsPermutation-sym}
use Rattle.std.proofs.lemmas.List.Kept.{IsStrictlyIncreasing-filter}
use Rattle.cp_lists.specs.CyclicLists.{Distinct, Has}
use Rattle.cp_lists.specs.Rows.{flat}
use Rattle.cp_lists.proofs.DistinctLists.{Has-Contains}
use Rattle.cp_lists.proofs.FilteredLists.{filter-Distinct, filter-Has, filter_no, filter_yes}
use Rattle.cp_lists.proofs.FlatLists.{flat-filter}
use Rattle.cp_orbits.proofs.Twins.{half_twin, twin_even, twin_odd}
use Rattle.cp_conn.specs.Blocks.{AreInOneBlock}
use Rattle.cp_conn.specs.NamedGraphs.{NamedGraph, edges_at, ends_at, rank}
use Rattle.cp_conn.specs.Numbering.{AreNumbered}
use Rattle.cp_conn.proofs.CutVertices.{kept_pair}
use Rattle.cp_conn.proofs.NamedGraphs.{edges_at-Contains, rank_at, rank_is}
use Rattle.cp_faces.specs.Twins.{twin}
use Rattle.cp_pq.proofs.Permutations.{IsPermutation-filter}
use Rattle.cp_rot.specs.Genus.{HasGenusZero}
use Rattle.cp_maps.specs.Blocks.{NoneCross}
use Rattle.cp_maps.specs.Genus.{CanBeFlat, OneGenus}
use Rattle.cp_maps.specs.Maps.{Below, IsMapOf, next_by}
use Rattle.cp_maps.specs.Names.{Names}
use Rattle.cp_maps.proofs.Genus.{OneGenus-IsFlat, OneGenus-sym}
use Rattle.cp_maps.proofs.ListFacts.{Below-from, below_item}
use Rattle.cp_maps.proofs.MapLists.{IsMapOf-by}
use Rattle.cp_maps.proofs.Names.{named_lists-OneGenus}
use Rattle.cp_maplaw.specs.NamedDarts.{dart_list}
use Rattle.cp_sync.specs.Numbering.{numbered}
use Rattle.cp_board.specs.Instances.{IsSynchronized, Synchronized, graph, vert_names}
use Rattle.cp_board.specs.Rotations.{ArrangesEdges, dart, system}
use Rattle.cp_embed.proofs.BoardBlocks.{live_ends, rising_distinct}
use Rattle.cp_flip.proofs.FlatBlocks.{dart_half, instance_blocks-IsFlat}
use Rattle.cp_flip.proofs.NamedMaps.{turn-IsMapOf}
use Rattle.cp_flip.proofs.NamedSystems.{system-IsFlat, turn_of}

-- two tests in either order
filter-swap : (p q : ℕ → Bool) (xs : List ℕ) → filter p (filter q xs) ≡ filter q (filter p xs)
filter-swap p q [] = refl
filter-swap p q (x ∷ xs) = ⊎_elim
    (λ t. ⊎_elim
    (λ u. ap (filter p) (filter_yes q x xs u) ∙ filter_yes p x (filter q xs) t ∙ ap (λ ys. x ∷ ys) (filter-swap p q xs)
    ∙ sym (ap (filter q) (filter_yes p x xs t) ∙ filter_yes q x (filter p xs) u))
    (λ u. ap (filter p) (filter_no q x xs u) ∙ filter-swap p q xs
    ∙ sym (ap (filter q) (filter_yes p x xs t) ∙ filter_no q x (filter p xs) u))
    (cases_Bool (q x)))
    (λ t. ⊎_elim
    (λ u. ap (filter p) (filter_yes q x xs u) ∙ filter_no p x (filter q xs) t ∙ filter-swap p q xs
    ∙ sym (ap (filter q) (filter_no p x xs t)))
    (λ u. ap (filter p) (filter_no q x xs u) ∙ filter-swap p q xs ∙ sym (ap (filter q) (filter_no p x xs t)))
    (cases_Bool (q x)))
    (cases_Bool (p x))

-- images of those that pass a test which the images tell
filter-map : (p q : ℕ → Bool) (h : ℕ → ℕ) (xs : List ℕ) → ((x : ℕ) → p (h x) ≡ q x)
    → filter p (map h xs) ≡ map h (filter q xs)
filter-map p q h [] same = refl
filter-map p q h (x ∷ xs) same = ⊎_elim
    (λ t. filter_yes p (h x) (map h xs) (same x ∙ t) ∙ ap (λ ys. h x ∷ ys) (filter-map p q h xs same)
    ∙ sym (ap (map h) (filter_yes q x xs t)))
    (λ t. filter_no p (h x) (map h xs) (same x ∙ t) ∙ filter-map p q h xs same ∙ sym (ap (map h) (filter_no q x xs t)))
    (cases_Bool (q x))

-- lists changed one by one
map-lists : (f : List ℕ → List ℕ) (g h : ℕ → List ℕ) (names : List ℕ) → ((w : ℕ) → Has w names → f (g w) ≡ h w)
    → map f (map g names) ≡ map h names
map-lists f g h [] same = refl
map-lists f g h (w ∷ names) same =
    ap₂ (λ x xs. x ∷ xs) (same w (inl refl)) (map-lists f g h names (λ v m. same v (inr m)))

-- items changed twice
map_both : (f g h : ℕ → ℕ) (xs : List ℕ) → ((x : ℕ) → Has x xs → f (g x) ≡ h x) → map f (map g xs) ≡ map h xs
map_both f g h [] same = refl
map_both f g h (x ∷ xs) same =
    ap₂ (λ y ys. y ∷ ys) (same x (inl refl)) (map_both f g h xs (λ y m. same y (inr m)))

-- no more pass a test than there are
kept-less : (p : ℕ → Bool) (xs : List ℕ) → length (filter p xs) ≤ length xs
kept-less p [] = omega arith
kept-less p (x ∷ xs) =
    let rest = kept-less p xs in
    ⊎_elim
    (λ t. let size = ap length (filter_yes p x xs t) in omega (arith, size, rest))
    (λ f. let size = ap length (filter_no p x xs f) in omega (arith, size, rest))
    (cases_Bool (p x))

-- the second bit of a dart
bit_less : (b : Bool) → cond b 0 1 < 2
bit_less true = omega arith
bit_less false = omega arith

module _ (i : Synchronized) (is : IsSynchronized i) (s : ℕ → List ℕ)
    (arranged : All (λ v. ArrangesEdges (graph i) v (s v)) (vert_names i)) (numbers : List ℕ)
    (are : AreNumbered (AreInOneBlock (numbered (graph i)).ends) (length (graph i).edges) numbers) where
  -- the graph
  abbrev g : NamedGraph
  g = graph i

  -- how many edges it has
  abbrev n : ℕ
  n = length g.edges

  -- the edges of the block of a number
  abbrev pub inside : ℕ → ℕ → Bool
  inside c f = eqb (slice_index numbers (rank g.edges f)) c

  -- the graph that has these alone
  abbrev pub block : ℕ → NamedGraph
  block c = record { verts = g.verts; edges = filter (inside c) g.edges; ends = g.ends }

  -- what the lists have of it
  abbrev pub kept : ℕ → ℕ → List ℕ
  kept c v = filter (inside c) (s v)

  -- the lists of darts
  abbrev rows : List (List ℕ)
  rows = map (dart_list (dart g) s) g.verts

  -- the number of the block of a dart
  abbrev class_of : ℕ → ℕ
  class_of d = slice_index numbers (d / 2)

  -- ends are different live vertices
  live : (f : ℕ) → Contains g.edges f → Contains g.verts (g.ends f).0 × Contains g.verts (g.ends f).1
  live f c = let l = live_ends i is f c in (l.0, l.1)

  -- the ends of an edge differ
  differ : (f : ℕ) → Contains g.edges f → (g.ends f).0 ≢ (g.ends f).1
  differ f c = (live_ends i is f c).2

  -- the step of the lists is their map
  rows-IsMapOf : IsMapOf (2 * n) (turn_of g s) rows
  rows-IsMapOf = turn-IsMapOf g is.verts_named.rise is.edges_named.rise live differ s arranged

  -- one block
  module _ (c : ℕ) where
    -- its edges
    abbrev es : List ℕ
    es = filter (inside c) g.edges

    -- rise
    es_rise : IsStrictlyIncreasing es
    es_rise = IsStrictlyIncreasing-filter (inside c) g.edges is.edges_named.rise

    -- are edges
    es_in : (f : ℕ) → Contains es f → Contains g.edges f
    es_in f h = (kept_pair (inside c) g.edges f h).0

    -- what the lists have of the block arranges it
    pub kept-arranged : All (λ v. ArrangesEdges (block c) v (kept c v)) g.verts
    kept-arranged k d lt =
        let v = slice_index_or g.verts k d in
        subst (λ xs. IsPermutation xs (kept c v)) (filter-swap (inside c) (ends_at g v) g.edges)
        (IsPermutation-filter (inside c) (edges_at g v) (s v) (arranged k d lt))

    -- the step of what is kept is a map
    kept-IsMapOf : IsMapOf (2 * length es) (turn_of (block c) (kept c)) (map (dart_list (dart (block c)) (kept c)) g.verts)
    kept-IsMapOf = turn-IsMapOf (block c) is.verts_named.rise es_rise (λ f h. live f (es_in f h))
        (λ f h. differ f (es_in f h)) (kept c) kept-arranged

    -- the dart of the graph that is a dart of the block
    abbrev of_graph : ℕ → ℕ
    of_graph d = 2 * rank g.edges (slice_index es (d / 2)) + d % 2

    -- the edge of a dart of the block
    edge_in : (d : ℕ) → d < 2 * length es → Contains g.edges (slice_index es (d / 2))
    edge_in d lt =
        let within : d / 2 < length es = omega (arith, lt) in
        es_in (slice_index es (d / 2)) (d / 2, within, get_or_default es (d / 2) (slice_index es (d / 2)) 0 within)

    -- its half
    half_of : (d : ℕ) → of_graph d / 2 ≡ rank g.edges (slice_index es (d / 2))
    half_of d = omega arith

    -- different darts have different names, and twins twins
    of_graph-Names : Names (length es) n of_graph
    of_graph-Names = record {
      below = λ d lt. let h = (rank_at g.edges (slice_index es (d / 2)) (edge_in d lt)).0 in omega (arith, h);
      apart = λ a d lta ltd same.
          let one : rank g.edges (slice_index es (a / 2)) ≡ rank g.edges (slice_index es (d / 2)) = omega (arith, same) in
          let edge : slice_index es (a / 2) ≡ slice_index es (d / 2) =
          sym (rank_at g.edges (slice_index es (a / 2)) (edge_in a lta)).1 ∙ ap (slice_index g.edges) one
          ∙ (rank_at g.edges (slice_index es (d / 2)) (edge_in d ltd)).1 in
          let once = rising_distinct es es_rise in
          let half : a / 2 ≡ d / 2 =
          sym (rank_is es (a / 2) (slice_index es (a / 2)) once (omega (arith, lta)) refl)
          ∙ rank_is es (d / 2) (slice_index es (a / 2)) once (omega (arith, ltd)) (sym edge) in
          omega (arith, same, one, half);
      twins = λ d lt.
          let half : rank g.edges (slice_index es (twin d / 2)) ≡ rank g.edges (slice_index es (d / 2)) =
          ap (λ k. rank g.edges (slice_index es k)) (half_twin d) in
          ⊎_elim
          (λ even.
          let t = twin_even d even in
          let u = twin_even (of_graph d) (omega (arith, even)) in
          omega (arith, t, u, half, even))
          (λ odd.
          let t = twin_odd d odd in
          let u = twin_odd (of_graph d) (λ e. odd (omega (arith, e))) in
          omega (arith, t, u, half, odd))
          (cases_eq (d % 2) 0);
    }

    -- an edge of the block that is in the list of a vertex has the same dart there
    renamed : (v f : ℕ) → Contains es f → of_graph (dart (block c) v f) ≡ dart g v f
    renamed v f h =
        let at = rank_at es f h in
        let bit = bit_less (eqb (g.ends f).0 v) in
        let half : dart (block c) v f / 2 ≡ rank es f = omega (arith, bit) in
        let edge : rank g.edges (slice_index es (dart (block c) v f / 2)) ≡ rank g.edges f =
        ap (λ k. rank g.edges (slice_index es k)) half ∙ ap (rank g.edges) at.1 in
        omega (arith, bit, edge)

    -- what is kept of the darts of a vertex is its darts in the block, under these names
    kept_darts : (v : ℕ) → Has v g.verts → map of_graph (dart_list (dart (block c)) (kept c) v)
        ≡ filter (λ d. eqb (class_of d) c) (dart_list (dart g) s v)
    kept_darts v live_v =
        map_both of_graph (dart (block c) v) (dart g v) (kept c v) (λ f h.
        let perm = All-contains (λ w. ArrangesEdges (block c) w (kept c w)) g.verts v kept-arranged
        ((Has-Contains v g.verts).0 live_v) in
        let of_v = Contains-permutation (kept c v) (edges_at (block c) v) f
        (IsPermutation-sym (edges_at (block c) v) (kept c v) perm) ((Has-Contains f (kept c v)).0 h) in
        renamed v f (edges_at-Contains (block c) v f of_v).0)
        ∙ sym (filter-map (λ d. eqb (class_of d) c) (inside c) (dart g v) (s v)
        (λ f. ap (λ k. eqb (slice_index numbers k) c) (dart_half g differ v f)))

    -- the lists of the block among those of the graph
    abbrev kept_rows : List (List ℕ)
    kept_rows = map (filter (λ d. eqb (class_of d) c)) rows

    -- are those of the block under these names
    kept_rows-are : map (map of_graph) (map (dart_list (dart (block c)) (kept c)) g.verts) ≡ kept_rows
    kept_rows-are =
        map-lists (map of_graph) (dart_list (dart (block c)) (kept c))
        (λ v. filter (λ d. eqb (class_of d) c) (dart_list (dart g) s v)) g.verts kept_darts
        ∙ sym (map-lists (filter (λ d. eqb (class_of d) c)) (dart_list (dart g) s)
        (λ v. filter (λ d. eqb (class_of d) c) (dart_list (dart g) s v)) g.verts (λ v h. refl))

    -- some map has them
    kept_rows-IsMapOf : IsMapOf (2 * n) (next_by kept_rows) kept_rows
    kept_rows-IsMapOf =
        let keep = λ (d : ℕ). eqb (class_of d) c in
        let same = flat-filter keep rows in
        IsMapOf-by (2 * n) kept_rows
        (subst Distinct (sym same) (filter-Distinct keep (flat rows) rows-IsMapOf.once))
        (subst (Below (2 * n)) (sym same) (Below-from (2 * n) (filter keep (flat rows))
        (λ d h. below_item (2 * n) d (flat rows) rows-IsMapOf.below (filter-Has keep d (flat rows) h).0)))

    -- each map with these lists has the genus of the block
    one_genus : (f : ℕ → ℕ) → IsMapOf (2 * n) f kept_rows → OneGenus (length es) (turn_of (block c) (kept c)) n f
    one_genus f is_f =
        named_lists-OneGenus (length es) n of_graph (turn_of (block c) (kept c)) f
        (map (dart_list (dart (block c)) (kept c)) g.verts) (kept-less (inside c) g.edges) of_graph-Names kept-IsMapOf
        (subst (IsMapOf (2 * n) f) (sym kept_rows-are) is_f)

    -- the block has genus zero exactly where these lists can be flat
    block-CanBeFlat : HasGenusZero (system (block c) (kept c)) ↔ CanBeFlat n kept_rows
    block-CanBeFlat =
        let flat_there = system-IsFlat (block c) is.verts_named.rise es_rise (λ f h. live f (es_in f h))
        (λ f h. differ f (es_in f h)) (kept c) kept-arranged in (
          λ z. (
            next_by kept_rows,
            kept_rows-IsMapOf,
            OneGenus-IsFlat (length es) (turn_of (block c) (kept c)) n (next_by kept_rows)
                (one_genus (next_by kept_rows) kept_rows-IsMapOf) (flat_there.0 z),
          ),
          λ can. flat_there.1 (OneGenus-IsFlat n can.0 (length es) (turn_of (block c) (kept c))
              (OneGenus-sym (length es) (turn_of (block c) (kept c)) n can.0 (one_genus can.0 can.1)) can.2),
        )

  -- the rotation has genus zero exactly where that of each block has and no two blocks cross at a vertex
  pub blocks-HasGenusZero : HasGenusZero (system g s)
      ↔ (((c : ℕ) → c < 2 * n → HasGenusZero (system (block c) (kept c))) × NoneCross class_of rows)
  blocks-HasGenusZero =
      let whole = system-IsFlat g is.verts_named.rise is.edges_named.rise live differ s arranged in
      let by_blocks = instance_blocks-IsFlat i is s arranged numbers are (turn_of g s) rows-IsMapOf in (
        λ z. let parts = by_blocks.0 (whole.0 z) in ((λ c lt. (block-CanBeFlat c).1 (parts.0 c lt)), parts.1),
        λ parts. whole.1 (by_blocks.1 ((λ c lt. (block-CanBeFlat c).0 (parts.0 c lt)), parts.1)),
      )
