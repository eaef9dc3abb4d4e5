-- Some edges of a graph alone, each list with those edges in its order: the system still has genus zero.
use Rattle.std.proofs.Common.{◌≡◌, ◌≢◌, ℕ, ◌+◌, ◌*◌, ◌/◌, ◌%◌, ◌<◌, Bool, true, false, cond, eqb, List, [], ◌∷◌, length, get_or, map, slice_index, sym, refl, ap, ap₂, ◌∙◌, inl, inr, ⊎_elim, arith}
use Rattle.std.specs.Prelude.{filter}
use Rattle.std.specs.List.{All, Contains, flat_map}
use Rattle.std.specs.List.Sorted.{IsStrictlyIncreasing}
use Rattle.std.proofs.lemmas.Bool.{cases_Bool, cases_eq, cond-false, cond-true, cond_both, eq-eqb, ne_eqb}
use Rattle.std.proofs.lemmas.List.{get_or-map}
use Rattle.std.proofs.lemmas.List.Elements.{All-contains, Contains-get_or}
use Rattle.std.proofs.lemmas.List.Kept.{IsStrictlyIncreasing-filter}
use Rattle.std.proofs.lemmas.List.Sorted.{IsPermutation-sym}
use Rattle.cp_lists.specs.CyclicLists.{Distinct, Has}
use Rattle.cp_lists.proofs.DistinctLists.{Has-Contains}
use Rattle.cp_lists.proofs.FilteredLists.{filter-Distinct}
use Rattle.cp_lists.proofs.PermutedLists.{Distinct-IsPermutation, Has-IsPermutation, IsPermutation-from}
use Rattle.cp_faces.specs.Faces.{on_edges}
use Rattle.cp_conn.specs.NamedGraphs.{NamedGraph, edges_at, ends_at, only, rank}
use Rattle.cp_conn.proofs.NamedGraphs.{Contains-edges_at, edges_at-Contains, rank_at, rank_is}
use Rattle.cp_rot.specs.Systems.{IsRotation, System, edges}
use Rattle.cp_rotlaw.specs.Restrictions.{IsRestricted}
use Rattle.cp_rotlaw.proofs.RestrictionLaws.{restriction_zero}
use Rattle.cp_board.specs.Rotations.{ArrangesEdges, IsRotationOf, dart, system}
use Rattle.cp_board.proofs.NamedLists.{rises_from}
use Rattle.cp_board.proofs.NumberOfNewNames.{Distinct-from_rises}
use Rattle.cp_sync.proofs.NumberedGraphs.{IsRotation-system}
use Rattle.cp_synclaw.proofs.InstanceDarts.{length-two_each, two_each-first, two_each-second}
use Rattle.cp_plantlaw.proofs.FreshNames.{All-from_items}
use Rattle.cp_plantlaw.proofs.PropagatedEnds.{Has_kept, kept_Has}

-- a graph whose names rise and whose edges join two different vertices, and lists of a rotation of it
module _ (g : NamedGraph) (inside : ℕ → Bool) (verts_rise : IsStrictlyIncreasing g.verts)
    (edges_rise : IsStrictlyIncreasing g.edges)
    (live : (e : ℕ) → Contains g.edges e → Contains g.verts (g.ends e).0 × Contains g.verts (g.ends e).1)
    (differ : (e : ℕ) → Contains g.edges e → (g.ends e).0 ≢ (g.ends e).1)
    (s : ℕ → List ℕ) (rotation : IsRotationOf g s) where
  -- the graph of the edges inside, and their lists
  abbrev part : NamedGraph
  part = only inside g

  -- the edges inside of a list
  abbrev pub inner : ℕ → List ℕ
  inner v = filter inside (s v)

  -- no edge of the graph stands twice
  edges_once : Distinct g.edges
  edges_once = Distinct-from_rises g.edges (rises_from g.edges edges_rise)

  -- no edge of the part stands twice
  part_once : Distinct part.edges
  part_once = filter-Distinct inside g.edges edges_once

  -- an edge of the part is one of the graph that is inside
  part_edge : (e : ℕ) → Contains part.edges e → Contains g.edges e × (inside e ≡ true)
  part_edge e c =
      let h = Has_kept inside g.edges e ((Has-Contains e part.edges).1 c) in
      ((Has-Contains e g.edges).0 h.0, h.1)

  -- an edge of the graph that is inside is one of the part
  inside_edge : (e : ℕ) → Contains g.edges e → inside e ≡ true → Contains part.edges e
  inside_edge e c t =
      (Has-Contains e part.edges).0 (kept_Has inside g.edges e ((Has-Contains e g.edges).1 c) t)

  -- the edges of a list are edges of its vertex
  listed : (v : ℕ) → Contains g.verts v → (e : ℕ) → Has e (s v) → Contains (edges_at g v) e
  listed v c e h =
      let arr = All-contains (λ x. ArrangesEdges g x (s x)) g.verts v rotation.arranged c in
      (Has-Contains e (edges_at g v)).0
      (Has-IsPermutation e (s v) (edges_at g v) (IsPermutation-sym (edges_at g v) (s v) arr) h)

  -- each list has exactly the edges inside of its vertex
  pub inner-arranged : All (λ v. ArrangesEdges part v (inner v)) g.verts
  inner-arranged = All-from_items (λ v. ArrangesEdges part v (inner v)) g.verts (λ v c.
      let arr = All-contains (λ x. ArrangesEdges g x (s x)) g.verts v rotation.arranged c in
      let once : Distinct (s v) =
      Distinct-IsPermutation (edges_at g v) (s v) arr (filter-Distinct (ends_at g v) g.edges edges_once) in
      IsPermutation-from (edges_at part v) (inner v) (filter-Distinct (ends_at g v) part.edges part_once)
      (filter-Distinct inside (s v) once)
      (λ e h.
      let k = edges_at-Contains part v e ((Has-Contains e (edges_at part v)).0 h) in
      let p = part_edge e k.0 in
      kept_Has inside (s v) e (Has-IsPermutation e (edges_at g v) (s v) arr
      ((Has-Contains e (edges_at g v)).1 (Contains-edges_at g v e p.0 k.1))) p.1)
      (λ e h.
      let k = Has_kept inside (s v) e h in
      let a = edges_at-Contains g v e (listed v c e k.0) in
      (Has-Contains e (edges_at part v)).1 (Contains-edges_at part v e (inside_edge e a.0 k.1) a.1)))

  -- the systems
  abbrev whole : System
  whole = system g s

  -- the system of the part
  abbrev kept : System
  kept = system part inner

  -- the system of the graph is a rotation system
  whole_rotation : IsRotation whole
  whole_rotation = IsRotation-system g verts_rise edges_rise live differ s rotation.arranged

  -- so is that of the part
  kept_rotation : IsRotation kept
  kept_rotation = IsRotation-system part verts_rise (IsStrictlyIncreasing-filter inside g.edges edges_rise)
      (λ e c. live e (part_edge e c).0) (λ e c. differ e (part_edge e c).0) inner inner-arranged

  -- the ends of an edge as numbers
  abbrev numbers : ℕ → ℕ × ℕ
  numbers e = (rank g.verts (g.ends e).0, rank g.verts (g.ends e).1)

  -- how many edges the first has
  whole_size : edges whole ≡ length g.edges
  whole_size = let h = length-two_each numbers g.edges in omega (arith, h, whole_rotation.paired)

  -- how many edges the second has
  kept_size : edges kept ≡ length part.edges
  kept_size = let h = length-two_each numbers part.edges in omega (arith, h, kept_rotation.paired)

  -- the edge of a number, and the numbers in the other graph
  abbrev number : ℕ → ℕ
  number k = rank part.edges (get_or g.edges k 0)

  -- the number in the graph of an edge of the part
  abbrev original : ℕ → ℕ
  original k = rank g.edges (get_or part.edges k 0)

  -- the edge of a number is inside
  abbrev keeps : ℕ → Bool
  keeps k = inside (get_or g.edges k 0)

  -- the vertex of a dart of some edges
  stand_at : (es : List ℕ) (d : ℕ) → d < 2 * length es
      → slice_index (flat_map (λ e. rank g.verts (g.ends e).0 ∷ rank g.verts (g.ends e).1 ∷ []) es) d
      ≡ cond (eqb (d % 2) 0) (numbers (get_or es (d / 2) 0)).0 (numbers (get_or es (d / 2) 0)).1
  stand_at es d lt = ⊎_elim
      (λ (even : d % 2 ≡ 0).
      let place : d ≡ 2 * (d / 2) = omega (arith, even) in
      let at : List ℕ = flat_map (λ e. rank g.verts (g.ends e).0 ∷ rank g.verts (g.ends e).1 ∷ []) es in
      ap (slice_index at) place ∙ two_each-first numbers es (d / 2) (omega (arith, lt))
      ∙ sym (cond-true (eqb (d % 2) 0) (numbers (get_or es (d / 2) 0)).0 (numbers (get_or es (d / 2) 0)).1
      (eq-eqb (d % 2) 0 even)))
      (λ (odd : d % 2 ≢ 0).
      let bit : d % 2 ≡ 1 = omega (arith, odd) in
      let place : d ≡ 2 * (d / 2) + 1 = omega (arith, bit) in
      let at : List ℕ = flat_map (λ e. rank g.verts (g.ends e).0 ∷ rank g.verts (g.ends e).1 ∷ []) es in
      ap (slice_index at) place ∙ two_each-second numbers es (d / 2) (omega (arith, lt))
      ∙ sym (cond-false (eqb (d % 2) 0) (numbers (get_or es (d / 2) 0)).0 (numbers (get_or es (d / 2) 0)).1
      (ne_eqb (d % 2) 0 odd)))
      (cases_eq (d % 2) 0)

  -- the list of a vertex by its name, with the darts of the edges inside
  kept_darts : (v : ℕ) (xs : List ℕ) → ((e : ℕ) → Has e xs → Contains g.edges e)
      → map (dart part v) (filter inside xs) ≡ map (on_edges number) (filter (λ d. keeps (d / 2)) (map (dart g v) xs))
  kept_darts v [] all = refl
  kept_darts v (e ∷ xs) all =
      let at = rank_at g.edges e (all e (inl refl)) in
      let bit : ℕ = cond (eqb (g.ends e).0 v) 0 1 in
      let small : bit < 2 = cond_both (eqb (g.ends e).0 v) 0 1 (λ z. z < 2) (λ a. omega arith) (λ b. omega arith) in
      let half : dart g v e / 2 ≡ rank g.edges e = omega (arith, small) in
      let odd : dart g v e % 2 ≡ bit = omega (arith, small) in
      let named : get_or g.edges (dart g v e / 2) 0 ≡ e = ap (λ k. get_or g.edges k 0) half ∙ at.1 in
      let test : keeps (dart g v e / 2) ≡ inside e = ap inside named in
      let new : on_edges number (dart g v e) ≡ dart part v e =
      ap₂ (λ (x y : ℕ). 2 * x + y) (ap (rank part.edges) named) odd in
      let rest = kept_darts v xs (λ f h. all f (inr h)) in
      let ds : List ℕ = filter (λ d. keeps (d / 2)) (map (dart g v) xs) in
      ⊎_elim
      (λ (t : inside e ≡ true).
      let tt2 : keeps (dart g v e / 2) ≡ true = test ∙ t in
      ap (map (dart part v)) (cond-true (inside e) (e ∷ filter inside xs) (filter inside xs) t)
      ∙ ap₂ (λ (z : ℕ) zs. z ∷ zs) (sym new) rest
      ∙ ap (map (on_edges number)) (sym (cond-true (keeps (dart g v e / 2)) (dart g v e ∷ ds) ds tt2)))
      (λ (f : inside e ≡ false).
      let ff : keeps (dart g v e / 2) ≡ false = test ∙ f in
      ap (map (dart part v)) (cond-false (inside e) (e ∷ filter inside xs) (filter inside xs) f)
      ∙ rest
      ∙ ap (map (on_edges number)) (sym (cond-false (keeps (dart g v e / 2)) (dart g v e ∷ ds) ds ff)))
      (cases_Bool (inside e))

  -- so the system of the edges inside is the restriction
  restricts : IsRestricted whole kept keeps number original
  restricts = record {
    vertices = refl;
    kept = λ k lt t.
        let low : k < length g.edges = omega (arith, lt, whole_size) in
        let e : ℕ = get_or g.edges k 0 in
        let c : Contains g.edges e = Contains-get_or g.edges k 0 low in
        let at = rank_at part.edges e (inside_edge e c t) in (
          omega (arith, at.0, kept_size),
          ap (rank g.edges) at.1 ∙ rank_is g.edges k e edges_once low refl,
        );
    all = λ k lt.
        let low : k < length part.edges = omega (arith, lt, kept_size) in
        let e : ℕ = get_or part.edges k 0 in
        let c : Contains part.edges e = Contains-get_or part.edges k 0 low in
        let p = part_edge e c in
        let at = rank_at g.edges e p.0 in (
          omega (arith, at.0, whole_size),
          ap inside at.1 ∙ p.1,
          ap (rank part.edges) at.1 ∙ rank_is part.edges k e part_once low refl,
        );
    stand = λ d lt.
        let k : ℕ = d / 2 in
        let size = length-two_each numbers part.edges in
        let within : d < 2 * length part.edges = omega (arith, lt, size) in
        let e : ℕ = get_or part.edges k 0 in
        let c : Contains part.edges e = Contains-get_or part.edges k 0 (omega (arith, within)) in
        let at = rank_at g.edges e (part_edge e c).0 in
        let o : ℕ = on_edges original d in
        let half : o / 2 ≡ original k = omega arith in
        let bit : o % 2 ≡ d % 2 = omega arith in
        let low : o < 2 * length g.edges = omega (arith, at.0) in
        let same : get_or g.edges (o / 2) 0 ≡ e = ap (λ x. get_or g.edges x 0) half ∙ at.1 in
        stand_at part.edges d within
        ∙ ap₂ (λ (b x : ℕ). cond (eqb b 0) (numbers x).0 (numbers x).1) (sym bit) (sym same)
        ∙ sym (stand_at g.edges o low);
    lists = λ v lt.
        let x : ℕ = get_or g.verts v 0 in
        let c : Contains g.verts x = Contains-get_or g.verts v 0 lt in
        get_or-map (λ y. map (dart part y) (inner y)) g.verts v 0 [] lt
        ∙ kept_darts x (s x) (λ e h. (edges_at-Contains g x e (listed x c e h)).0)
        ∙ ap (λ zs. map (on_edges number) (filter (λ d. keeps (d / 2)) zs))
        (sym (get_or-map (λ y. map (dart g y) (s y)) g.verts v 0 [] lt));
  }

  -- the edges inside alone have a rotation with these lists
  pub inner-IsRotationOf : IsRotationOf (only inside g) inner
  inner-IsRotationOf = record {
    arranged = inner-arranged;
    flat = restriction_zero whole kept keeps number original whole_rotation kept_rotation restricts rotation.flat;
  }
