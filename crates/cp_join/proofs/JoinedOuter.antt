-- The lists of old and outer vertices after Join are those before it, where both ends are parted: they can be flat
-- together, in both directions.
use Rattle.std.proofs.Common.{◌≡◌, ◌≢◌, ℕ, ◌*◌, ◌/◌, ◌<◌, Bool, true, false, cond, List, [], ◌∷◌, ◌++◌, length, get_or, map, slice_index, slice_index_or, sym, refl, ap, ◌∙◌, subst, inl, inr, ⊎_elim, arith, append_assoc, suc, IsPermutation}
use Rattle.std.specs.List.{Contains, filter}
use Rattle.std.proofs.lemmas.Bool.{cases_eq}
use Rattle.std.proofs.lemmas.List.{map-append}
use Rattle.std.proofs.lemmas.List.Sorted.{IsPermutation-append_comm, IsPermutation-map, IsPermutation-sym}
use Rattle.cp_lists.specs.Crossings.{NoCross}
use Rattle.cp_lists.specs.CyclicLists.{Distinct, Has}
use Rattle.cp_lists.specs.Rows.{flat}
use Rattle.cp_lists.specs.Turns.{IsTurn}
use Rattle.cp_lists.proofs.DistinctLists.{Distinct-append, Distinct-append_left, Distinct-append_right, Distinct-apart, Has-Contains, Has-append_cases, Has-append_left, Has-append_right, Lacks-from, has_lacks}
use Rattle.cp_lists.proofs.FilteredLists.{filter-Distinct, filter-Has, filter_agree}
use Rattle.cp_lists.proofs.FlatLists.{flat-append}
use Rattle.cp_lists.proofs.MappedLists.{Distinct-map_on, map_agree_on}
use Rattle.cp_lists.proofs.PermutedLists.{IsPermutation-from}
use Rattle.cp_lists.proofs.TurnedLists.{turn-map, turn-refl, turn-sym}
use Rattle.cp_conn.specs.NamedGraphs.{NamedGraph, edges_at}
use Rattle.cp_conn.proofs.NamedGraphs.{edges_at-Contains}
use Rattle.cp_maps.specs.Genus.{CanBeFlat}
use Rattle.cp_maps.specs.Maps.{IsMapOf, has, next_by}
use Rattle.cp_maps.proofs.ListFacts.{has_true}
use Rattle.cp_maps.proofs.MapLists.{IsMapOf-some}
use Rattle.cp_maplaw.specs.NamedDarts.{AreDartsOf, IsArrangedBy, dart_list}
use Rattle.cp_maplaw.proofs.NamedRests.{dart_edge as named_dart}
use Rattle.cp_board.specs.declared.parts.Pipe.{Pipe}
use Rattle.cp_board.specs.Instances.{Synchronized, graph, vert_names}
use Rattle.cp_board.specs.Rotations.{dart}
use Rattle.cp_synclaw.proofs.InstanceDarts.{dart_edge, instance_darts}
use Rattle.cp_join.specs.declared.parted_ends.Parting.{Parting}
use Rattle.cp_join.proofs.DartsBeside.{rows_of}
use Rattle.cp_join.proofs.JoinNames.{HasPartings}
use Rattle.cp_join.proofs.JoinedHalves.{kept_verts, old_dart, outer_dart-a, outer_dart-b, outer_graph}
use Rattle.cp_join.proofs.JoinedLists.{outer_parts-CanBeFlat_back, outer_parts-IsFlat}
use Rattle.cp_join.proofs.JoinedRules.{keeps, keeps_other, other_keeps}
use Rattle.cp_join.proofs.MovedCrossings.{NoCross-map}
use Rattle.cp_join.proofs.PartCopies.{TellsParts, copies-Distinct, copies-Has, part_copies, part_copy}
use Rattle.cp_join.proofs.PartValues.{part_value}
use Rattle.cp_join.proofs.RisingLists.{Distinct-rising}
use Rattle.cp_join.proofs.RowOrders.{AreTurned, CanBeFlat-AreTurned, CanBeFlat-IsPermutation, IsMapOf-IsPermutation}
use Rattle.cp_join.proofs.SameLists.{Has-kept, kept-Has as kept_Has}
use Rattle.cp_join.proofs.ToldParts.{ArePartsAt-TellsParts, key_in_part}

-- what a test keeps of new names
pub filter-map : (f : ℕ → ℕ) (q : ℕ → Bool) (xs : List ℕ) → filter q (map f xs) ≡ map f (filter (λ x. q (f x)) xs)
filter-map f q [] = refl
filter-map f q (x ∷ xs) = by_test (q (f x)) (filter-map f q xs)
  where
    by_test : (b : Bool) → filter q (map f xs) ≡ map f (filter (λ y. q (f y)) xs)
        → cond b (f x ∷ filter q (map f xs)) (filter q (map f xs))
        ≡ map f (cond b (x ∷ filter (λ y. q (f y)) xs) (filter (λ y. q (f y)) xs))
    by_test true same = ap (λ zs. f x ∷ zs) same
    by_test false same = same

-- lists at names, and lists for as many parts, each a turn of the one at its place
pub AreTurned-by_place : (f : ℕ → List ℕ) (k : List ℕ → List ℕ) (names : List ℕ) (parts : List (List ℕ))
    → length names ≡ length parts
    → ((j : ℕ) → j < length parts → IsTurn (f (slice_index names j)) (k (slice_index_or parts j [])))
    → AreTurned (map f names) (map k parts)
AreTurned-by_place f k [] [] size each = tt
AreTurned-by_place f k [] (part ∷ parts) size each = absurd (omega (arith, size))
AreTurned-by_place f k (n ∷ names) [] size each = absurd (omega (arith, size))
AreTurned-by_place f k (n ∷ names) (part ∷ parts) size each = (
  each 0 (omega arith),
  AreTurned-by_place f k names parts (omega (arith, size)) (λ j lt. each (suc j) (omega (arith, lt))),
)

-- rows of turned lists one behind the other
pub AreTurned-append : (rows others rows' others' : List (List ℕ)) → AreTurned rows rows' → AreTurned others others'
    → AreTurned (rows ++ others) (rows' ++ others')
AreTurned-append [] others [] others' one two = two
AreTurned-append [] others (ys ∷ rows') others' one two = absurd one
AreTurned-append (xs ∷ rows) others [] others' one two = absurd one
AreTurned-append (xs ∷ rows) others (ys ∷ rows') others' one two =
    (one.0, AreTurned-append rows others rows' others' one.1 two)

-- the other way round
pub AreTurned-sym : (rows others : List (List ℕ)) → AreTurned rows others → AreTurned others rows
AreTurned-sym [] [] turned = tt
AreTurned-sym [] (ys ∷ others) turned = absurd turned
AreTurned-sym (xs ∷ rows) [] turned = absurd turned
AreTurned-sym (xs ∷ rows) (ys ∷ others) turned = (turn-sym xs ys turned.0, AreTurned-sym rows others turned.1)

-- turns of the lists at some names
AreTurned-names : (f k : ℕ → List ℕ) (names : List ℕ) → ((v : ℕ) → Has v names → IsTurn (f v) (k v))
    → AreTurned (map f names) (map k names)
AreTurned-names f k [] each = tt
AreTurned-names f k (v ∷ names) each = (each v (inl refl), AreTurned-names f k names (λ w h. each w (inr h)))

-- what a list of edges has of a part
abbrev pub part_order : List ℕ → List ℕ → List ℕ
part_order order part = part_copy (λ x. x) order part

-- lists after Join: at an old vertex the list before it, at an outer vertex what that of the end has of the part
pub record ArePartedLists (p : Pipe) (s t : Parting) (kept : List ℕ) (before after : ℕ → List ℕ) : Type 0 where
  pub old : (v : ℕ) → Has v kept → after v ≡ before v
  pub outer_a : (k : ℕ) → k < length s.parts
      → IsTurn (after (slice_index s.outer k)) (part_order (before p.a) (slice_index_or s.parts k []))
  pub outer_b : (k : ℕ) → k < length t.parts
      → IsTurn (after (slice_index t.outer k)) (part_order (before p.b) (slice_index_or t.parts k []))

module _ (i : Synchronized) (p : Pipe) (s t : Parting) (hats : List ℕ) (h : HasPartings i p s t hats) where
  -- the vertices that stay are those that are no ends of the pipe
  pub kept-Has : (v : ℕ) → Has v (kept_verts i p s t hats h) → Contains (vert_names i) v × (v ≢ p.a) × (v ≢ p.b)
  kept-Has v k =
      let r = Has-kept (keeps i p s t hats h) (vert_names i) v k in
      let off = keeps_other i p s t hats h v r.1 in
      ((Has-Contains v (vert_names i)).0 r.0, off.0, off.1)

  -- and the other way round
  pub Has-kept_verts : (v : ℕ) → Has v (vert_names i) → v ≢ p.a → v ≢ p.b → Has v (kept_verts i p s t hats h)
  Has-kept_verts v k na nb = kept_Has (keeps i p s t hats h) (vert_names i) v k (other_keeps i p s t hats h v na nb)

  -- the vertices, with the ends of the pipe in front
  pub ends_in_front : IsPermutation (vert_names i) (p.a ∷ p.b ∷ kept_verts i p s t hats h)
  ends_in_front =
      IsPermutation-from (vert_names i) (p.a ∷ p.b ∷ kept_verts i p s t hats h) once (
        ((λ q. h.ends.differ (sym q)), Lacks-from p.a (kept_verts i p s t hats h) (λ k. (kept-Has p.a k).1 refl)),
        (
          Lacks-from p.b (kept_verts i p s t hats h) (λ k. (kept-Has p.b k).2 refl),
          filter-Distinct (keeps i p s t hats h) (vert_names i) once,
        ),
      )
      (λ v k. ⊎_elim (λ q. inl (sym q)) (λ na. ⊎_elim (λ q. inr (inl (sym q)))
      (λ nb. inr (inr (Has-kept_verts v k na nb))) (cases_eq v p.b)) (cases_eq v p.a))
      (λ v k. ⊎_elim (λ q. subst (λ x. Has x (vert_names i)) q ((Has-Contains p.a (vert_names i)).1 h.live_a))
      (λ l. ⊎_elim (λ q. subst (λ x. Has x (vert_names i)) q ((Has-Contains p.b (vert_names i)).1 h.live_b))
      (λ m. (Has-Contains v (vert_names i)).1 (kept-Has v m).0) l) k)
    where
      once : Distinct (vert_names i)
      once = Distinct-rising (vert_names i) h.rules.verts_named.rise

  -- lists before Join that arrange the edges, and lists after it
  module _ (before after : ℕ → List ℕ) (parted : ArePartedLists p s t (kept_verts i p s t hats h) before after)
      (arr : IsArrangedBy (graph i) before) where
    -- the graph, its number of edges, and its darts in the order before Join
    abbrev g : NamedGraph
    g = graph i

    -- how many edges it has
    abbrev n : ℕ
    n = length g.edges

    -- the darts of a vertex in the order before Join
    abbrev lists : ℕ → List ℕ
    lists = dart_list (dart g) before

    -- the edge of a dart
    abbrev name : ℕ → ℕ
    name k = get_or g.edges k 0

    -- the edge of a dart
    abbrev edge_of : ℕ → ℕ
    edge_of d = name (d / 2)

    -- the vertices that stay
    abbrev kept : List ℕ
    kept = kept_verts i p s t hats h

    -- the darts of both ends, parted
    abbrev copies_a : List (List ℕ)
    copies_a = part_copies edge_of (lists p.a) s.parts

    -- and those of the second
    abbrev copies_b : List (List ℕ)
    copies_b = part_copies edge_of (lists p.b) t.parts

    -- and all lists
    abbrev outer : List (List ℕ)
    outer = copies_a ++ (copies_b ++ map lists kept)

    -- the darts and the names of their edges
    darts : AreDartsOf g (dart g)
    darts = instance_darts i h.rules

    -- the name of the edge of a dart is the edge
    named : (w e : ℕ) → Contains (edges_at g w) e → name (dart g w e / 2) ≡ e
    named w e c = dart_edge i h.rules w e c

    -- both ends are vertices
    at_a : Has p.a g.verts
    at_a = (Has-Contains p.a g.verts).1 h.live_a

    -- and so is the second
    at_b : Has p.b g.verts
    at_b = (Has-Contains p.b g.verts).1 h.live_b

    -- the darts of a part of an end, by its edges
    part_darts : (u : ℕ) (part : List ℕ) → Has u g.verts
        → part_copy edge_of (lists u) part ≡ map (dart g u) (part_order (before u) part)
    part_darts u part live =
        filter-map (dart g u) (λ d. has (edge_of d) part) (before u)
        ∙ ap (map (dart g u)) (filter_agree (λ x. has (edge_of (dart g u x)) part) (λ x. has x part) (before u)
        (λ x k. ap (λ e. has e part) (named u x ((arr.arranged u x live).0 k))))

    -- an outer vertex has the darts of its part
    turned_part : (u v : ℕ) (part : List ℕ) → Has u g.verts → IsTurn (after v) (part_order (before u) part)
        → ((e : ℕ) → Has e part → dart (outer_graph i p s t hats h) v e ≡ dart g u e)
        → IsTurn (dart_list (dart (outer_graph i p s t hats h)) after v) (part_copy edge_of (lists u) part)
    turned_part u v part live turn same =
        subst (IsTurn (map (dart (outer_graph i p s t hats h) v) (after v)))
        (map_agree_on (dart (outer_graph i p s t hats h) v) (dart g u) (part_order (before u) part)
        (λ e k. same e (has_true e part (filter-Has (λ x. has x part) e (before u) k).1))
        ∙ sym (part_darts u part live))
        (turn-map (dart (outer_graph i p s t hats h) v) (after v) (part_order (before u) part) turn)

    -- an old vertex has its darts
    same_list : (v : ℕ) → Has v kept → dart_list (dart (outer_graph i p s t hats h)) after v ≡ lists v
    same_list v k =
        let r = kept-Has v k in
        ap (map (dart (outer_graph i p s t hats h) v)) (parted.old v k)
        ∙ map_agree_on (dart (outer_graph i p s t hats h) v) (dart g v) (before v) (λ e m.
        old_dart i p s t hats h v e r.0 r.1 r.2
        (edges_at-Contains g v e ((arr.arranged v e ((Has-Contains v g.verts).1 r.0)).0 m)).0)

    -- the darts of an old or outer vertex
    abbrev row_after : ℕ → List ℕ
    row_after = dart_list (dart (outer_graph i p s t hats h)) after

    -- so the lists after Join are turns of these
    outer_turned : AreTurned (rows_of (outer_graph i p s t hats h) after) (map lists kept ++ (copies_a ++ copies_b))
    outer_turned =
        subst (λ rows. AreTurned rows (map lists kept ++ (copies_a ++ copies_b)))
        (sym (map-append row_after kept (s.outer ++ t.outer)
        ∙ ap (λ rows. map row_after kept ++ rows) (map-append row_after s.outer t.outer)))
        (AreTurned-append (map row_after kept) (map row_after s.outer ++ map row_after t.outer) (map lists kept)
        (copies_a ++ copies_b)
        (AreTurned-names row_after lists kept
        (λ v k. subst (IsTurn (row_after v)) (same_list v k) (turn-refl (row_after v))))
        (AreTurned-append (map row_after s.outer) (map row_after t.outer) copies_a copies_b
        (AreTurned-by_place row_after (part_copy edge_of (lists p.a)) s.outer s.parts h.parted.first_end.outer_each
        (λ k lt. turned_part p.a (slice_index s.outer k) (slice_index_or s.parts k []) at_a (parted.outer_a k lt)
        (λ e m. outer_dart-a i p s t hats h k e lt m)))
        (AreTurned-by_place row_after (part_copy edge_of (lists p.b)) t.outer t.parts h.parted.second_end.outer_each
        (λ k lt. turned_part p.b (slice_index t.outer k) (slice_index_or t.parts k []) at_b (parted.outer_b k lt)
        (λ e m. outer_dart-b i p s t hats h k e lt m)))))

    -- in the order in which the laws on maps have them
    outer_order : IsPermutation (map lists kept ++ (copies_a ++ copies_b)) outer
    outer_order = subst (IsPermutation (map lists kept ++ (copies_a ++ copies_b)))
        (append_assoc copies_a copies_b (map lists kept))
        (IsPermutation-append_comm (map lists kept) (copies_a ++ copies_b))

    -- an item of the list of an end is the dart of one of its edges
    dart_at : (u d : ℕ) → Has u g.verts → Has d (lists u) → Contains (edges_at g u) (edge_of d)
    dart_at u d live k =
        let e = named_dart g (dart g) before darts arr u d live k in
        subst (Contains (edges_at g u)) (sym (named u e.0 e.1) ∙ ap edge_of e.2) e.1

    -- components tell the parts
    abbrev value : ℕ → ℕ → ℕ
    value u d = part_value g u (edge_of d)

    -- they tell those of the first end
    tells_a : TellsParts (value p.a) edge_of (lists p.a) s.parts
    tells_a = ArePartsAt-TellsParts g p.a s.parts h.rules.edges_named.rise h.parts_a edge_of (lists p.a)
        (λ d k. dart_at p.a d at_a k)

    -- and those of the second
    tells_b : TellsParts (value p.b) edge_of (lists p.b) t.parts
    tells_b = ArePartsAt-TellsParts g p.b t.parts h.rules.edges_named.rise h.parts_b edge_of (lists p.b)
        (λ d k. dart_at p.b d at_b k)

    -- each dart of an end is in a part
    each_a : (d : ℕ) → Has d (lists p.a) → Has (edge_of d) (flat s.parts)
    each_a d k = key_in_part g p.a s.parts h.rules.edges_named.rise h.parts_a edge_of (lists p.a)
        (λ c m. dart_at p.a c at_a m) d k

    -- and of the second
    each_b : (d : ℕ) → Has d (lists p.b) → Has (edge_of d) (flat t.parts)
    each_b d k = key_in_part g p.b t.parts h.rules.edges_named.rise h.parts_b edge_of (lists p.b)
        (λ c m. dart_at p.b c at_b m) d k

    -- the vertices that stay are others
    not_a : (x : ℕ) → Has x kept → Has x g.verts × (x ≢ p.a)
    not_a x k = let r = kept-Has x k in ((Has-Contains x g.verts).1 r.0, r.1)

    -- and from the second
    not_b : (x : ℕ) → Has x kept → Has x g.verts × (x ≢ p.b)
    not_b x k = let r = kept-Has x k in ((Has-Contains x g.verts).1 r.0, r.2)

    -- the lists before Join, with those of the ends in front
    front_order : IsPermutation (rows_of g before) (lists p.a ∷ lists p.b ∷ map lists kept)
    front_order = IsPermutation-map lists g.verts (p.a ∷ p.b ∷ kept) ends_in_front

    -- what is behind the parts of the first end
    behind : (d : ℕ) → Has d (flat (copies_b ++ map lists kept)) → Has d (lists p.b ++ flat (map lists kept))
    behind d k = ⊎_elim
        (λ m. Has-append_left d (lists p.b) (flat (map lists kept)) (copies-Has edge_of (lists p.b) t.parts d m).0)
        (λ m. Has-append_right d (lists p.b) (flat (map lists kept)) m)
        (Has-append_cases d (flat copies_b) (flat (map lists kept))
        (subst (Has d) (flat-append copies_b (map lists kept)) k))

    -- no dart stands twice in the parted lists
    outer_once : (f : ℕ → ℕ) → IsMapOf (2 * n) f (lists p.a ∷ lists p.b ∷ map lists kept) → Distinct (flat outer)
    outer_once f is =
        subst Distinct (sym (flat-append copies_a (copies_b ++ map lists kept)))
        (Distinct-append (flat copies_a) (flat (copies_b ++ map lists kept))
        (copies-Distinct edge_of (lists p.a) (value p.a) s.parts tells_a
        (Distinct-append_left (lists p.a) (lists p.b ++ flat (map lists kept)) is.once))
        (subst Distinct (sym (flat-append copies_b (map lists kept)))
        (Distinct-append (flat copies_b) (flat (map lists kept))
        (copies-Distinct edge_of (lists p.b) (value p.b) t.parts tells_b
        (Distinct-append_left (lists p.b) (flat (map lists kept)) rest))
        (Distinct-append_right (lists p.b) (flat (map lists kept)) rest)
        (λ d k. Distinct-apart d (lists p.b) (flat (map lists kept)) rest
        (copies-Has edge_of (lists p.b) t.parts d k).0)))
        (λ d k. Lacks-from d (flat (copies_b ++ map lists kept)) (λ m.
        has_lacks d (lists p.b ++ flat (map lists kept)) (behind d m)
        (Distinct-apart d (lists p.a) (lists p.b ++ flat (map lists kept)) is.once
        (copies-Has edge_of (lists p.a) s.parts d k).0))))
      where
        rest : Distinct (lists p.b ++ flat (map lists kept))
        rest = Distinct-append_right (lists p.a) (lists p.b ++ flat (map lists kept)) is.once

    -- and all stood before Join
    outer_some : (d : ℕ) → Has d (flat outer) → Has d (flat (lists p.a ∷ lists p.b ∷ map lists kept))
    outer_some d k = ⊎_elim
        (λ m. Has-append_left d (lists p.a) (lists p.b ++ flat (map lists kept))
        (copies-Has edge_of (lists p.a) s.parts d m).0)
        (λ m. Has-append_right d (lists p.a) (lists p.b ++ flat (map lists kept)) (behind d m))
        (Has-append_cases d (flat copies_a) (flat (copies_b ++ map lists kept))
        (subst (Has d) (flat-append copies_a (copies_b ++ map lists kept)) k))

    -- lists that can be flat before Join can be so after it, at old and outer vertices
    pub outer-CanBeFlat : CanBeFlat n (rows_of g before) → CanBeFlat n (rows_of (outer_graph i p s t hats h) after)
    outer-CanBeFlat can =
        let is : IsMapOf (2 * n) can.0 (lists p.a ∷ lists p.b ∷ map lists kept) =
        IsMapOf-IsPermutation (2 * n) can.0 (rows_of g before) (lists p.a ∷ lists p.b ∷ map lists kept) front_order
        can.1 in
        let is_outer : IsMapOf (2 * n) (next_by outer) outer =
        IsMapOf-some (2 * n) can.0 (lists p.a ∷ lists p.b ∷ map lists kept) outer is (outer_once can.0 is) outer_some in
        CanBeFlat-AreTurned n (map lists kept ++ (copies_a ++ copies_b)) (rows_of (outer_graph i p s t hats h) after)
        (AreTurned-sym (rows_of (outer_graph i p s t hats h) after) (map lists kept ++ (copies_a ++ copies_b))
        outer_turned)
        (CanBeFlat-IsPermutation n outer (map lists kept ++ (copies_a ++ copies_b))
        (IsPermutation-sym (map lists kept ++ (copies_a ++ copies_b)) outer outer_order) (
          next_by outer,
          is_outer,
          outer_parts-IsFlat g (dart g) before darts arr name named n p.a p.b kept s.parts t.parts at_a at_b
              h.ends.differ not_a not_b tells_a tells_b each_a each_b can.0 (next_by outer) is can.2 is_outer,
        ))

    -- and back, where the parts of each end do not cross in its list
    pub outer-CanBeFlat_back : NoCross (part_value g p.a) (before p.a) → NoCross (part_value g p.b) (before p.b)
        → Distinct (before p.a) → Distinct (before p.b) → CanBeFlat n (rows_of (outer_graph i p s t hats h) after)
        → CanBeFlat n (rows_of g before)
    outer-CanBeFlat_back apart_a apart_b once_a once_b can =
        let parted_can : CanBeFlat n outer =
        CanBeFlat-IsPermutation n (map lists kept ++ (copies_a ++ copies_b)) outer outer_order
        (CanBeFlat-AreTurned n (rows_of (outer_graph i p s t hats h) after) (map lists kept ++ (copies_a ++ copies_b))
        outer_turned can) in
        CanBeFlat-IsPermutation n (lists p.a ∷ lists p.b ∷ map lists kept) (rows_of g before)
        (IsPermutation-sym (rows_of g before) (lists p.a ∷ lists p.b ∷ map lists kept) front_order)
        (outer_parts-CanBeFlat_back g (dart g) before darts arr name named n p.a p.b kept s.parts t.parts at_a at_b
        h.ends.differ not_a not_b tells_a tells_b each_a each_b parted_can.0 parted_can.1 parted_can.2
        (list_once p.a at_a once_a) (list_once p.b at_b once_b) (list_apart p.a at_a apart_a)
        (list_apart p.b at_b apart_b))
      where
        list_once : (u : ℕ) → Has u g.verts → Distinct (before u) → Distinct (lists u)
        list_once u live once = Distinct-map_on (dart g u) (before u)
            (λ e f he hf q. sym (named u e ((arr.arranged u e live).0 he)) ∙ ap edge_of q
            ∙ named u f ((arr.arranged u f live).0 hf)) once

        list_apart : (u : ℕ) → Has u g.verts → NoCross (part_value g u) (before u) → NoCross (value u) (lists u)
        list_apart u live apart = NoCross-map (dart g u) (part_value g u) (value u) (before u)
            (λ e k. ap (part_value g u) (named u e ((arr.arranged u e live).0 k))) apart
