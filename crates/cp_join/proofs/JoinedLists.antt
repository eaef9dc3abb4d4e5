-- Join on maps of darts: what it makes of a flat map is flat in both its parts, and the other way round.
use Rattle.std.proofs.Common.{◌≡◌, ◌≢◌, ◌⊎◌, ℕ, ◌*◌, ◌/◌, ◌<◌, List, [], ◌∷◌, ◌++◌, map, sym, refl, ap, ◌∙◌, subst, inl, inr, ⊎_elim}
use Rattle.std.specs.List.{Contains}
use Rattle.cp_lists.specs.Crossings.{NoCross}
use Rattle.cp_lists.specs.CyclicLists.{Distinct, Has, Lacks}
use Rattle.cp_lists.specs.Rows.{flat}
use Rattle.cp_lists.proofs.DistinctLists.{Distinct-apart, Has-append_left, has_lacks}
use Rattle.cp_orbits.proofs.Twins.{half_twin}
use Rattle.cp_faces.specs.Twins.{twin}
use Rattle.cp_faces.proofs.Twins.{twin-twin}
use Rattle.cp_conn.specs.NamedGraphs.{NamedGraph, edges_at}
use Rattle.cp_maps.specs.Genus.{CanBeFlat, IsFlat}
use Rattle.cp_maps.specs.Maps.{IsMapOf}
use Rattle.cp_maps.specs.Mirrors.{mirror}
use Rattle.cp_maps.proofs.ListFacts.{below_item}
use Rattle.cp_maplaw.specs.NamedDarts.{AreDartsOf, IsArrangedBy, dart_list}
use Rattle.cp_maplaw.proofs.NamedRests.{dart_edge}
use Rattle.cp_mergelaw.specs.Sides.{AreSides, EachList, IsMergeOf, IsMergedSide, RestrictsTo}
use Rattle.cp_join.proofs.CopiesApart.{HasOneValue, HaveOtherValues, HaveOtherValues-AllApart, assembled_ends-CanBeFlat, divided_ends-IsFlat}
use Rattle.cp_join.proofs.InnerMaps.{inner-CanBeFlat, mirror-Has, mirror-IsMergeOf}
use Rattle.cp_join.proofs.PartCopies.{TellsParts, copies-AreCopiesOf, copies-Distinct, copies-HasOneValue, copies-HaveOtherValues, copies-IsMergeOf, copy-Has, Has-copies, part_copies}
use Rattle.cp_join.proofs.PartValues.{part_value, part_value-at}
use Rattle.cp_join.proofs.UncrossedValues.{IsMergeOf-NoCross}

-- a property of each list of two rows is one of both rows
pub EachList-append : (good : List ℕ → Type 0) (rows others : List (List ℕ)) → EachList good rows → EachList good others
    → EachList good (rows ++ others)
EachList-append good [] others one two = two
EachList-append good (xs ∷ rows) others one two = (one.0, EachList-append good rows others one.1 two)

-- the new edges in the order of one end, by their darts at the inner vertices of this end: neither their parts at this
-- end cross in it nor those at the other end in its mirror, so the inner vertices can be flat
pub inner_parts-CanBeFlat : (e : ℕ) (hats : List ℕ) (key_a key_b value_a value_b : ℕ → ℕ)
    (parts_a parts_b : List (List ℕ)) → Distinct hats → ((d : ℕ) → Has d hats → d < 2 * e)
    → ((d : ℕ) → Has d hats → Lacks (twin d) hats) → Distinct (mirror hats)
    → TellsParts value_a key_a hats parts_a → TellsParts value_b key_b (mirror hats) parts_b
    → ((d : ℕ) → Has d hats → Has (key_a d) (flat parts_a))
    → ((d : ℕ) → Has d (mirror hats) → Has (key_b d) (flat parts_b))
    → NoCross value_a hats → NoCross value_b (mirror hats)
    → CanBeFlat e (part_copies key_a hats parts_a ++ part_copies key_b (mirror hats) parts_b)
inner_parts-CanBeFlat e hats key_a key_b value_a value_b parts_a parts_b once low no_twin once_mirror tells_a tells_b
    each_a each_b apart_a apart_b =
    inner-CanBeFlat e hats (part_copies key_a hats parts_a) (part_copies key_b (mirror hats) parts_b) once low no_twin
    (copies-IsMergeOf key_a hats value_a parts_a tells_a apart_a)
    (copies-IsMergeOf key_b (mirror hats) value_b parts_b tells_b apart_b)
    (copies-Distinct key_a hats value_a parts_a tells_a once)
    (copies-Distinct key_b (mirror hats) value_b parts_b tells_b once_mirror)
    (λ d h. Has-copies key_a hats parts_a d h (each_a d h))
    (λ d h. Has-copies key_b (mirror hats) parts_b d h (each_b d h))

-- the order of the new edges: the inner vertices of the one end keep it, those of the other end its mirror, and neither
-- their parts at the one end cross in it nor those at the other end in its mirror
pub record IsHatOrder (value_a value_b : ℕ → ℕ) (inner_a inner_b : List (List ℕ)) (hats : List ℕ) : Type 0 where
  pub kept_a : EachList (RestrictsTo hats) inner_a
  pub kept_b : EachList (RestrictsTo (mirror hats)) inner_b
  pub apart_a : NoCross value_a hats
  pub apart_b : NoCross value_b (mirror hats)

-- where the inner vertices of one end are made one vertex, its list is such an order: a value that tells them apart,
-- and one that tells those of the other end apart, do not cross; each dart is of one of them
pub merged_side-IsHatOrder : (e : ℕ) (side others : List (List ℕ)) (hats : List ℕ) (value_a value_b : ℕ → ℕ)
    → IsMergedSide e side others hats → AreSides side others
    → ((d : ℕ) → d < 2 * e → Has d (flat side) ⊎ Has d (flat others))
    → EachList (HasOneValue value_a) side → HaveOtherValues value_a side
    → EachList (HasOneValue value_b) others → HaveOtherValues value_b others
    → IsHatOrder value_a value_b side others hats
merged_side-IsHatOrder e side others hats value_a value_b merged sides stock one_a other_a one_b other_b = record {
  kept_a = merged.merge.restricted;
  kept_b = back.restricted;
  apart_a = IsMergeOf-NoCross value_a hats side merged.merge all one_a other_a;
  apart_b = IsMergeOf-NoCross value_b (mirror hats) others back
      (λ d h. subst (λ y. Has y (flat others)) (twin-twin d)
      (sides.across (twin d) (all (twin d) (mirror-Has d hats h)))) one_b other_b;
}
  where
    back : IsMergeOf (mirror hats) others
    back = mirror-IsMergeOf hats e side others merged

    all : (d : ℕ) → Has d hats → Has d (flat side)
    all d h = ⊎_elim
        (λ k. k)
        (λ k. absurd (has_lacks d (flat others) k
        (Distinct-apart d hats (flat others) merged.can_be_flat.1.once h)))
        (stock d (below_item (2 * e) d (hats ++ flat others) merged.can_be_flat.1.below
        (Has-append_left d hats (flat others) h)))

-- a rotation of a graph without loops, and the names of the edges of its darts
module _ (g : NamedGraph) (dart : ℕ → ℕ → ℕ) (s : ℕ → List ℕ) (darts : AreDartsOf g dart) (arr : IsArrangedBy g s)
    (name : ℕ → ℕ) (named : (w e : ℕ) → Contains (edges_at g w) e → name (dart w e / 2) ≡ e) where
  -- the list of a vertex
  abbrev lists : ℕ → List ℕ
  lists = dart_list dart s

  -- the edge of a dart
  abbrev pub edge_of : ℕ → ℕ
  edge_of d = name (d / 2)

  -- the part of a vertex u of the edge of a dart
  abbrev pub value_at : ℕ → ℕ → ℕ
  value_at u d = part_value g u (edge_of d)

  -- the edge of a dart at a vertex is one of the vertex
  listed_edge : (w d : ℕ) → Has w g.verts → Has d (lists w) → Contains (edges_at g w) (edge_of d)
  listed_edge w d live h =
      let e = dart_edge g dart s darts arr w d live h in
      subst (Contains (edges_at g w)) (sym (named w e.0 e.1) ∙ ap edge_of e.2) e.1

  -- all darts at another vertex are of the component of this vertex
  pub other-HasOneValue : (u w : ℕ) → Has w g.verts → w ≢ u → HasOneValue (value_at u) (lists w)
  other-HasOneValue u w live other c d hc hd =
      part_value-at g u w (edge_of c) other (listed_edge w c live hc)
      ∙ sym (part_value-at g u w (edge_of d) other (listed_edge w d live hd))

  -- the same for several other vertices
  others-HasOneValue : (u : ℕ) (names : List ℕ) → ((w : ℕ) → Has w names → Has w g.verts × (w ≢ u))
      → EachList (HasOneValue (value_at u)) (map lists names)
  others-HasOneValue u [] each = tt
  others-HasOneValue u (w ∷ names) each = (
    other-HasOneValue u w (each w (inl refl)).0 (each w (inl refl)).1,
    others-HasOneValue u names (λ x h. each x (inr h)),
  )

  -- so are all in copies of it
  copies_of_other-HasOneValue : (u w : ℕ) (parts : List (List ℕ)) → Has w g.verts → w ≢ u
      → EachList (HasOneValue (value_at u)) (part_copies edge_of (lists w) parts)
  copies_of_other-HasOneValue u w [] live other = tt
  copies_of_other-HasOneValue u w (part ∷ parts) live other = (
    (λ c d hc hd. other-HasOneValue u w live other c d (copy-Has edge_of (lists w) part c hc).0
        (copy-Has edge_of (lists w) part d hd).0),
    copies_of_other-HasOneValue u w parts live other,
  )

  -- two vertices u and w, the others, and the edges of both in parts that are told by components
  module _ (n : ℕ) (u w : ℕ) (names : List ℕ) (parts_u parts_w : List (List ℕ)) (live_u : Has u g.verts)
      (live_w : Has w g.verts) (differ : u ≢ w) (not_u : (x : ℕ) → Has x names → Has x g.verts × (x ≢ u))
      (not_w : (x : ℕ) → Has x names → Has x g.verts × (x ≢ w))
      (tells_u : TellsParts (value_at u) edge_of (lists u) parts_u)
      (tells_w : TellsParts (value_at w) edge_of (lists w) parts_w)
      (each_u : (d : ℕ) → Has d (lists u) → Has (edge_of d) (flat parts_u))
      (each_w : (d : ℕ) → Has d (lists w) → Has (edge_of d) (flat parts_w)) where
    -- both divided, the lists are these
    abbrev pub outer : List (List ℕ)
    outer = part_copies edge_of (lists u) parts_u ++ (part_copies edge_of (lists w) parts_w ++ map lists names)

    -- twins are of one part
    twins : (x d : ℕ) → d < 2 * n → value_at x (twin d) ≡ value_at x d
    twins x d lt = ap (λ k. part_value g x (name k)) (half_twin d)

    -- the part at u is one on each of them
    pub one_value_u : EachList (HasOneValue (value_at u)) outer
    one_value_u =
        EachList-append (HasOneValue (value_at u)) (part_copies edge_of (lists u) parts_u)
        (part_copies edge_of (lists w) parts_w ++ map lists names)
        (copies-HasOneValue edge_of (lists u) (value_at u) parts_u tells_u)
        (EachList-append (HasOneValue (value_at u)) (part_copies edge_of (lists w) parts_w) (map lists names)
        (copies_of_other-HasOneValue u w parts_w live_w (λ q. differ (sym q))) (others-HasOneValue u names not_u))

    -- and the part at w
    pub one_value_w : EachList (HasOneValue (value_at w)) outer
    one_value_w =
        EachList-append (HasOneValue (value_at w)) (part_copies edge_of (lists u) parts_u)
        (part_copies edge_of (lists w) parts_w ++ map lists names)
        (copies_of_other-HasOneValue w u parts_u live_u differ)
        (EachList-append (HasOneValue (value_at w)) (part_copies edge_of (lists w) parts_w) (map lists names)
        (copies-HasOneValue edge_of (lists w) (value_at w) parts_w tells_w) (others-HasOneValue w names not_w))

    -- a flat map in which both are divided by their parts stays flat
    pub outer_parts-IsFlat : (f h : ℕ → ℕ) → IsMapOf (2 * n) f (lists u ∷ lists w ∷ map lists names) → IsFlat n f
        → IsMapOf (2 * n) h outer → IsFlat n h
    outer_parts-IsFlat f h is z is_h =
        divided_ends-IsFlat n f h (lists u) (lists w) (part_copies edge_of (lists u) parts_u)
        (part_copies edge_of (lists w) parts_w) (map lists names) is z is_h
        (copies-AreCopiesOf edge_of (lists u) parts_u each_u) (copies-AreCopiesOf edge_of (lists w) parts_w each_w)
        (HaveOtherValues-AllApart n h outer is_h (value_at u) one_value_u (twins u)
        (part_copies edge_of (lists u) parts_u) (copies-HaveOtherValues edge_of (lists u) (value_at u) parts_u tells_u))
        (HaveOtherValues-AllApart n h outer is_h (value_at w) one_value_w (twins w)
        (part_copies edge_of (lists w) parts_w) (copies-HaveOtherValues edge_of (lists w) (value_at w) parts_w tells_w))

    -- with u whole and w divided, the part at w is one on each list
    half_value_w : EachList (HasOneValue (value_at w))
        (part_copies edge_of (lists w) parts_w ++ lists u ∷ map lists names)
    half_value_w =
        EachList-append (HasOneValue (value_at w)) (part_copies edge_of (lists w) parts_w) (lists u ∷ map lists names)
        (copies-HasOneValue edge_of (lists w) (value_at w) parts_w tells_w)
        (other-HasOneValue w u live_u differ, others-HasOneValue w names not_w)

    -- a flat map of both divided by their parts comes from a flat one, where the parts do not cross in the two lists
    pub outer_parts-CanBeFlat_back : (f : ℕ → ℕ) → IsMapOf (2 * n) f outer → IsFlat n f → Distinct (lists u)
        → Distinct (lists w) → NoCross (value_at u) (lists u) → NoCross (value_at w) (lists w)
        → CanBeFlat n (lists u ∷ lists w ∷ map lists names)
    outer_parts-CanBeFlat_back f is z once_u once_w apart_u apart_w =
        assembled_ends-CanBeFlat n f (lists u) (lists w) (part_copies edge_of (lists u) parts_u)
        (part_copies edge_of (lists w) parts_w) (map lists names) is z
        (copies-IsMergeOf edge_of (lists u) (value_at u) parts_u tells_u apart_u)
        (copies-IsMergeOf edge_of (lists w) (value_at w) parts_w tells_w apart_w) once_u once_w
        (λ d h. Has-copies edge_of (lists u) parts_u d h (each_u d h))
        (λ d h. Has-copies edge_of (lists w) parts_w d h (each_w d h)) (value_at u) (value_at w) (twins u) (twins w)
        one_value_u half_value_w (copies-HaveOtherValues edge_of (lists u) (value_at u) parts_u tells_u)
        (copies-HaveOtherValues edge_of (lists w) (value_at w) parts_w tells_w)
