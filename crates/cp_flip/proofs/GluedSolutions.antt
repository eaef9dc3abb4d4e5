-- Lists of all blocks of an instance, put together at each vertex, are a solution of it.
use Rattle.std.proofs.Common.{◌≡◌, ℕ, zero, suc, ◌<◌, Bool, true, false, eqb, List, [], ◌∷◌, length, drop, filter, map, slice_index, sym, refl, ap, ◌∙◌, subst, ⊎_elim, arith}
use Rattle.std.specs.Prelude.{slice_index_or}
use Rattle.std.specs.List.{All, AllByRecursion, Contains}
use Rattle.std.specs.List.Sorted.{IsPermutation, IsStrictlyIncreasing}
use Rattle.std.proofs.lemmas.Bool.{cases_Bool, eq-eqb, eqb-true}
use Rattle.std.proofs.lemmas.List.{get_or-map, length-map}
use Rattle.std.proofs.lemmas.List.Elements.{All-contains, Contains-get_or}
use Rattle.std.proofs.lemmas.List.Kept.{IsStrictlyIncreasing-filter}
use Rattle.std.proofs.lemmas.List.Sorted.{Contains-permutation, IsPermutation-refl, IsPermutation-reverse, IsPermutation-sym, IsPermutation-trans}
use Rattle.cp_lists.specs.Crossings.{NoCross}
use Rattle.cp_lists.specs.CyclicLists.{Distinct, Has, Lacks}
use Rattle.cp_lists.specs.Rows.{flat}
use Rattle.cp_lists.specs.Turns.{IsTurn}
use Rattle.cp_lists.proofs.DistinctLists.{Has-Contains, Has-place, has_cases, has_lacks}
use Rattle.cp_lists.proofs.FilteredLists.{Has-filter, filter-Distinct, filter-Has}
use Rattle.cp_lists.proofs.FlatLists.{Has-flat, flat-Has}
use Rattle.cp_lists.proofs.MappedLists.{Distinct-map_on, Has-map_on}
use Rattle.cp_lists.proofs.PermutedLists.{Distinct-IsPermutation, IsPermutation-from}
use Rattle.cp_lists.proofs.TurnedLists.{Has-of_turn, turn-Distinct, turn-Has, turn-refl, turn-sym}
use Rattle.cp_conn.specs.Blocks.{AreInOneBlock}
use Rattle.cp_conn.specs.NamedGraphs.{NamedGraph, edges_at, ends_at, only, rank}
use Rattle.cp_conn.specs.Numbering.{AreNumbered}
use Rattle.cp_conn.proofs.NamedGraphs.{Contains-edges_at, edges_at-Contains}
use Rattle.cp_sync.specs.Numbering.{numbered}
use Rattle.cp_board.specs.Instances.{IsSynchronized, Synchronized, edge_names, graph, is_q, psi_at}
use Rattle.cp_board.specs.Reasons.{HasNoCrossing}
use Rattle.cp_board.specs.Rotations.{ArrangesEdges, IsRotationOf}
use Rattle.cp_board.specs.Solutions.{directed}
use Rattle.cp_embed.proofs.BoardBlocks.{psi-ArrangesEdges, rising_distinct}
use Rattle.cp_flip.specs.declared.block_trees.BlockTree.{BlockTree}
use Rattle.cp_flip.specs.BlockTrees.{is_first, row_with}
use Rattle.cp_flip.specs.GluedLists.{AreParts, IsPart}
use Rattle.cp_flip.proofs.EqualTests.{not_true}
use Rattle.cp_flip.proofs.GluedBlocks.{glued-IsRotationOf}
use Rattle.cp_flip.proofs.JoinedClasses.{AreOfClasses, filter_none, joined-Distinct, joined-NoCross, joined-kept}
use Rattle.cp_flip.proofs.NamedSystems.{system-IsFlat}
use Rattle.cp_flip.proofs.SolvedBlocks.{filter-directed}

module _ (i : Synchronized) (is : IsSynchronized i) (numbers : List ℕ)
    (are : AreNumbered (AreInOneBlock (numbered (graph i)).ends) (length (graph i).edges) numbers) where
  -- the graph of the instance
  abbrev g : NamedGraph
  g = graph i

  -- its edges
  abbrev edges : List ℕ
  edges = edge_names i

  -- the number of the block of an edge
  abbrev number : ℕ → ℕ
  number f = slice_index numbers (rank edges f)

  -- the edges of a number
  abbrev inside : ℕ → ℕ → Bool
  inside c f = eqb (number f) c

  -- the first edges of the blocks
  abbrev pub firsts : List ℕ
  firsts = filter (is_first edges numbers) edges

  -- the numbers of these blocks
  abbrev classes : List ℕ
  classes = map number firsts

  -- no first edge stands twice
  firsts-Distinct : Distinct firsts
  firsts-Distinct = filter-Distinct (is_first edges numbers) edges (rising_distinct edges is.edges_named.rise)

  -- a first edge is an edge, and the first of its row
  first-is : (e : ℕ) → Has e firsts → Has e edges × (slice_index (row_with edges numbers e) 0 ≡ e)
  first-is e h =
      let w = filter-Has (is_first edges numbers) e edges h in
      (w.0, eqb-true (slice_index (row_with edges numbers e) 0) e w.1)

  -- so no number stands twice
  classes-Distinct : Distinct classes
  classes-Distinct = Distinct-map_on number firsts
      (λ x y hx hy same.
      sym (first-is x hx).1 ∙ ap (λ c. slice_index (filter (inside c) edges) 0) same ∙ (first-is y hy).1)
      firsts-Distinct

  -- the number of each edge is one of them
  number-listed : (f : ℕ) → Contains edges f → Has (number f) classes
  number-listed f c =
      let row = row_with edges numbers f in
      let there : Has f row = Has-filter (inside (number f)) f edges ((Has-Contains f edges).1 c) (eq-eqb (number f) (number f) refl) in
      let p = Has-place f row there in
      let e = slice_index row 0 in
      let h : Has e row = (Has-Contains e row).1 (Contains-get_or row 0 0 (omega (arith, p.1))) in
      let w = filter-Has (inside (number f)) e edges h in
      let same : number e ≡ number f = eqb-true (number e) (number f) w.1 in
      let first : Has e firsts = Has-filter (is_first edges numbers) e edges w.0
      (eq-eqb (slice_index (row_with edges numbers e) 0) e (ap (λ d. slice_index (filter (inside d) edges) 0) same)) in
      subst (λ d. Has d classes) same (Has-map_on number e firsts first)

  module _ (back : ℕ → Bool) where
    -- a part of the row of an edge has its number
    part-number : (f : ℕ) (p : ℕ → List ℕ) → (x : IsPart i numbers back (row_with edges numbers f) p) → x.number ≡ number f
    part-number f p x =
        let there : Has x.edge (filter (inside x.number) edges) =
        Has-filter (inside x.number) x.edge edges ((Has-Contains x.edge edges).1 x.live)
        (eq-eqb (number x.edge) x.number (sym x.number_is)) in
        let w = filter-Has (inside (number f)) x.edge edges (subst (Has x.edge) (sym x.edges_are) there) in
        x.number_is ∙ eqb-true (number x.edge) (number f) w.1

    -- what stands in the list of a vertex in a part is an edge of the vertex that has the number
    part-item : (es : List ℕ) (p : ℕ → List ℕ) (x : IsPart i numbers back es p) (v e : ℕ) → Contains g.verts v
        → Has e (p v)
        → Contains (edges_at g v) e × (number e ≡ x.number)
    part-item es p x v e live h =
        let within = only (inside x.number) g in
        let perm = All-contains (λ w. ArrangesEdges within w (x.rotation w)) g.verts v x.is_rotation.rotation.arranged live in
        let in_rotation = Has-of_turn (x.rotation v) (p v) e (x.turns v live) h in
        let at = edges_at-Contains within v e (Contains-permutation (x.rotation v) (edges_at within v) e
        (IsPermutation-sym (edges_at within v) (x.rotation v) perm) ((Has-Contains e (x.rotation v)).0 in_rotation)) in
        let w = filter-Has (inside x.number) e edges ((Has-Contains e (filter (inside x.number) edges)).1 at.0) in
        (Contains-edges_at g v e ((Has-Contains e edges).0 w.0) at.1, eqb-true (number e) x.number w.1)

    -- and back
    item-part : (es : List ℕ) (p : ℕ → List ℕ) (x : IsPart i numbers back es p) (v e : ℕ) → Contains g.verts v
        → Contains (edges_at g v) e → number e ≡ x.number
        → Has e (p v)
    item-part es p x v e live c same =
        let within = only (inside x.number) g in
        let perm = All-contains (λ w. ArrangesEdges within w (x.rotation w)) g.verts v x.is_rotation.rotation.arranged live in
        let of_v = edges_at-Contains g v e c in
        let kept = Has-filter (inside x.number) e edges ((Has-Contains e edges).1 of_v.0) (eq-eqb (number e) x.number same) in
        let at = Contains-edges_at within v e ((Has-Contains e (filter (inside x.number) edges)).0 kept) of_v.1 in
        turn-Has (x.rotation v) (p v) e (x.turns v live)
        ((Has-Contains e (x.rotation v)).1 (Contains-permutation (edges_at within v) (x.rotation v) e perm at))

    -- no edge stands twice there
    part-Distinct : (es : List ℕ) (p : ℕ → List ℕ) (x : IsPart i numbers back es p) (v : ℕ) → Contains g.verts v
        → Distinct (p v)
    part-Distinct es p x v live =
        let within = only (inside x.number) g in
        let perm = All-contains (λ w. ArrangesEdges within w (x.rotation w)) g.verts v x.is_rotation.rotation.arranged live in
        turn-Distinct (x.rotation v) (p v) (x.turns v live)
        (Distinct-IsPermutation (edges_at within v) (x.rotation v) perm
        (rising_distinct (edges_at within v) (IsStrictlyIncreasing-filter (ends_at within v) within.edges
        (IsStrictlyIncreasing-filter (inside x.number) edges is.edges_named.rise))))

    -- the lists of a vertex in the parts are of the classes
    parts-AreOfClasses : {T : Type 0} (v : ℕ) → Contains g.verts v
        → (blocks : List (BlockTree T)) (fs : List ℕ) (parts : List (ℕ → List ℕ))
        → map (λ (t : BlockTree T). t.edges) blocks ≡ map (row_with edges numbers) fs
        → AreParts i numbers back blocks parts
        → AreOfClasses number (map number fs) (map (λ (p : ℕ → List ℕ). p v) parts)
    parts-AreOfClasses v live [] [] [] same all = tt
    parts-AreOfClasses v live [] (f ∷ fs) parts same all = cc
    parts-AreOfClasses v live [] [] (p ∷ parts) same all = absurd all
    parts-AreOfClasses v live (t ∷ blocks) [] parts same all = cc
    parts-AreOfClasses v live (t ∷ blocks) (f ∷ fs) [] same all = absurd all
    parts-AreOfClasses v live (t ∷ blocks) (f ∷ fs) (p ∷ parts) same all =
        let own : t.edges ≡ row_with edges numbers f = ap (λ rows. slice_index_or rows 0 []) same in
        let x : IsPart i numbers back (row_with edges numbers f) p = subst (λ es. IsPart i numbers back es p) own all.0 in (
          λ e h. (part-item (row_with edges numbers f) p x v e live h).1 ∙ part-number f p x,
          parts-AreOfClasses v live blocks fs parts (ap (drop 1) same) all.1,
        )

    -- each repeats no edge
    parts-Distinct : {T : Type 0} (v : ℕ) → Contains g.verts v
        → (blocks : List (BlockTree T)) (parts : List (ℕ → List ℕ)) → AreParts i numbers back blocks parts
        → AllByRecursion Distinct (map (λ (p : ℕ → List ℕ). p v) parts)
    parts-Distinct v live [] [] all = tt
    parts-Distinct v live [] (p ∷ parts) all = absurd all
    parts-Distinct v live (t ∷ blocks) [] all = absurd all
    parts-Distinct v live (t ∷ blocks) (p ∷ parts) all =
        (part-Distinct t.edges p all.0 v live, parts-Distinct v live blocks parts all.1)

    -- the part of a first edge
    part-at : {T : Type 0} (k : ℕ) (blocks : List (BlockTree T)) (fs : List ℕ) (parts : List (ℕ → List ℕ))
        → map (λ (t : BlockTree T). t.edges) blocks ≡ map (row_with edges numbers) fs
        → AreParts i numbers back blocks parts
        → k < length fs
        → (p : ℕ → List ℕ) × IsPart i numbers back (row_with edges numbers (slice_index fs k)) p
        × ((v : ℕ) → slice_index_or (map (λ (q : ℕ → List ℕ). q v) parts) k [] ≡ p v)
    part-at k [] (f ∷ fs) parts same all lt = cc
    part-at k blocks [] parts same all lt = absurd (omega (arith, lt))
    part-at k (t ∷ blocks) (f ∷ fs) [] same all lt = absurd all
    part-at zero (t ∷ blocks) (f ∷ fs) (p ∷ parts) same all lt = (
      p,
      subst (λ es. IsPart i numbers back es p) (ap (λ rows. slice_index_or rows 0 []) same) all.0,
      λ v. refl,
    )
    part-at (suc k) (t ∷ blocks) (f ∷ fs) (p ∷ parts) same all lt =
        part-at k blocks fs parts (ap (drop 1) same) all.1 (omega (arith, lt))

    -- as many lists as parts, and as many parts as first edges
    parts-length : {T : Type 0} (blocks : List (BlockTree T)) (parts : List (ℕ → List ℕ)) → AreParts i numbers back blocks parts
        → length parts ≡ length blocks
    parts-length [] [] all = refl
    parts-length [] (p ∷ parts) all = absurd all
    parts-length (t ∷ blocks) [] all = absurd all
    parts-length (t ∷ blocks) (p ∷ parts) all = ap suc (parts-length blocks parts all.1)

    module _ {T : Type 0} (blocks : List (BlockTree T)) (parts : List (ℕ → List ℕ))
        (same : map (λ (t : BlockTree T). t.edges) blocks ≡ map (row_with edges numbers) firsts)
        (all : AreParts i numbers back blocks parts) (s : ℕ → List ℕ)
        (q_list : (v : ℕ) → Contains g.verts v → is_q i v ≡ true → s v ≡ directed (back v) (psi_at i v))
        (p_list : (v : ℕ) → Contains g.verts v → is_q i v ≡ false
        → s v ≡ flat (map (λ (p : ℕ → List ℕ). p v) parts)) where
      -- the lists of a vertex
      abbrev rows : ℕ → List (List ℕ)
      rows v = map (λ (p : ℕ → List ℕ). p v) parts

      -- there is one for each first edge
      rows-length : (v : ℕ) → length (rows v) ≡ length firsts
      rows-length v =
          length-map parts (λ (p : ℕ → List ℕ). p v)
          ∙ parts-length blocks parts all
          ∙ sym (length-map blocks (λ (t : BlockTree T). t.edges))
          ∙ ap length same
          ∙ length-map firsts (row_with edges numbers)

      -- a psi in a direction arranges the edges
      psi_arranged : (v : ℕ) → Contains g.verts v → is_q i v ≡ true → (b : Bool)
          → ArrangesEdges g v (directed b (psi_at i v))
      psi_arranged v live q true =
          IsPermutation-trans (edges_at g v) (psi_at i v) (directed true (psi_at i v)) (psi-ArrangesEdges i is v live q)
          (IsPermutation-reverse (psi_at i v))
      psi_arranged v live q false = psi-ArrangesEdges i is v live q

      -- the place of the number of an edge among the classes
      place_of_number : (e : ℕ) → Contains edges e
          → (k : ℕ) × (k < length firsts) × (number (slice_index firsts k) ≡ number e)
      place_of_number e c =
          let p = Has-place (number e) classes (number-listed e c) in
          let lt : p.0 < length firsts = omega (arith, p.1, length-map firsts number) in
          (p.0, lt, sym (get_or-map number firsts p.0 0 0 lt) ∙ p.2)

      -- the lists one behind the other arrange the edges
      flat_arranged : (v : ℕ) → Contains g.verts v → ArrangesEdges g v (flat (rows v))
      flat_arranged v live = IsPermutation-from (edges_at g v) (flat (rows v))
          (rising_distinct (edges_at g v) (IsStrictlyIncreasing-filter (ends_at g v) edges is.edges_named.rise))
          (joined-Distinct number classes (rows v) (parts-AreOfClasses v live blocks firsts parts same all)
          classes-Distinct (parts-Distinct v live blocks parts all))
          (λ e h.
          let c = (Has-Contains e (edges_at g v)).0 h in
          let p = place_of_number e (edges_at-Contains g v e c).0 in
          let x = part-at p.0 blocks firsts parts same all p.1 in
          Has-flat e p.0 (rows v) (omega (arith, p.1, rows-length v))
          (subst (Has e) (sym (x.2 v)) (item-part (row_with edges numbers (slice_index firsts p.0)) x.0 x.1 v e live c
          (sym p.2 ∙ sym (part-number (slice_index firsts p.0) x.0 x.1)))))
          (λ e h.
          let w = flat-Has e (rows v) h in
          let x = part-at w.0 blocks firsts parts same all (omega (arith, w.1, rows-length v)) in
          (Has-Contains e (edges_at g v)).1 (part-item (row_with edges numbers (slice_index firsts w.0)) x.0 x.1 v e live
          (subst (Has e) (x.2 v) w.2)).0)

      -- the list of a vertex arranges its edges
      s_arranges : (v : ℕ) → Contains g.verts v → ArrangesEdges g v (s v)
      s_arranges v live = ⊎_elim
          (λ q. subst (IsPermutation (edges_at g v)) (sym (q_list v live q)) (psi_arranged v live q (back v)))
          (λ p. subst (IsPermutation (edges_at g v)) (sym (p_list v live p)) (flat_arranged v live))
          (cases_Bool (is_q i v))

      -- so this holds at all vertices
      s_arranged : All (λ v. ArrangesEdges g v (s v)) g.verts
      s_arranged k d lt = s_arranges (slice_index_or g.verts k d) (Contains-get_or g.verts k d lt)

      -- the graph with the edges of a number alone
      abbrev block : ℕ → NamedGraph
      block c = record { verts = g.verts; edges = filter (inside c) edges; ends = g.ends }

      -- of the block of a first edge the lists have its part
      first_part : (k : ℕ) → k < length firsts → (p : ℕ → List ℕ)
          × IsRotationOf (block (number (slice_index firsts k))) p
          × ((v : ℕ) → Contains g.verts v → IsTurn (p v) (filter (inside (number (slice_index firsts k))) (s v)))
      first_part k lt =
          let f = slice_index firsts k in
          let p = part-at k blocks firsts parts same all lt in
          let x = p.1 in
          let c = number f in
          let is_c : x.number ≡ c = part-number f p.0 x in (
            x.rotation,
            subst (λ d. IsRotationOf (block d) x.rotation) is_c x.is_rotation.rotation,
            λ v live. ⊎_elim
                (λ q.
                let turn : IsTurn (directed (back v) (filter (inside c) (psi_at i v))) (x.rotation v) =
                subst (λ d. IsTurn (directed (back v) (filter (inside d) (psi_at i v))) (x.rotation v)) is_c
                (x.is_rotation.kept v live q) in
                let kept : filter (inside c) (s v) ≡ directed (back v) (filter (inside c) (psi_at i v)) =
                ap (filter (inside c)) (q_list v live q) ∙ filter-directed (inside c) (back v) (psi_at i v) in
                subst (IsTurn (x.rotation v)) (sym kept)
                (turn-sym (directed (back v) (filter (inside c) (psi_at i v))) (x.rotation v) turn))
                (λ free.
                let at : slice_index classes k ≡ c = get_or-map number firsts k 0 0 lt in
                let kept : filter (inside c) (s v) ≡ p.0 v =
                ap (filter (inside c)) (p_list v live free)
                ∙ ap (λ d. filter (inside d) (flat (rows v))) (sym at)
                ∙ joined-kept number classes (rows v) k (parts-AreOfClasses v live blocks firsts parts same all)
                classes-Distinct (omega (arith, lt, length-map firsts number))
                ∙ p.2 v in
                subst (IsTurn (x.rotation v)) (sym kept) (x.turns v live))
                (cases_Bool (is_q i v)),
          )

      -- where no edge has a number, nothing is to be arranged
      no_part : (c : ℕ) → Lacks c classes → (p : ℕ → List ℕ) × IsRotationOf (block c) p
          × ((v : ℕ) → Contains g.verts v → IsTurn (p v) (filter (inside c) (s v)))
      no_part c lacks =
          let out : (e : ℕ) → Contains edges e → inside c e ≡ false =
          λ e h. not_true (inside c e) (λ t. has_lacks c classes
          (subst (λ d. Has d classes) (eqb-true (number e) c t) (number-listed e h)) lacks) in
          let none : filter (inside c) edges ≡ [] =
          filter_none (inside c) edges (λ e h. out e ((Has-Contains e edges).0 h)) in
          let empty : NamedGraph = record { verts = g.verts; edges = []; ends = g.ends } in
          let arr : All (λ v. ArrangesEdges empty v []) g.verts = λ k d lt. IsPermutation-refl [] in
          let up : IsStrictlyIncreasing [] = λ k lt. absurd (omega (arith, lt)) in
          let nothing : (e : ℕ) → Contains [] e → ⊥ = λ e h. (Has-Contains e []).1 h in
          let flat_empty =
          (system-IsFlat empty is.verts_named.rise up (λ e h. absurd (nothing e h)) (λ e h. absurd (nothing e h))
          (λ v. []) arr).1 (omega arith) in (
            λ v. [],
            subst (λ es. IsRotationOf (record { verts = g.verts; edges = es; ends = g.ends }) (λ v. [])) (sym none)
                (record { arranged = arr; flat = flat_empty }),
            λ v live. subst (IsTurn []) (sym (filter_none (inside c) (s v) (λ e h.
                out e (edges_at-Contains g v e (Contains-permutation (s v) (edges_at g v) e
                (IsPermutation-sym (edges_at g v) (s v) (s_arranges v live)) ((Has-Contains e (s v)).0 h))).0)))
                (turn-refl []),
          )

      -- of each number
      each_part : (c : ℕ) → (p : ℕ → List ℕ) × IsRotationOf (block c) p
          × ((v : ℕ) → Contains g.verts v → IsTurn (p v) (filter (inside c) (s v)))
      each_part c = ⊎_elim
          (λ h.
          let p = Has-place c classes h in
          let lt : p.0 < length firsts = omega (arith, p.1, length-map firsts number) in
          let at : number (slice_index firsts p.0) ≡ c = sym (get_or-map number firsts p.0 0 0 lt) ∙ p.2 in
          subst (λ d. (q : ℕ → List ℕ) × IsRotationOf (block d) q
          × ((v : ℕ) → Contains g.verts v → IsTurn (q v) (filter (inside d) (s v)))) at (first_part p.0 lt))
          (λ l. no_part c l)
          (has_cases c classes)

      -- the lists are a rotation of the instance, where no two blocks cross
      pub joined-IsRotationOf : HasNoCrossing i → IsRotationOf g s
      joined-IsRotationOf none = glued-IsRotationOf i is numbers are none s s_arranged (λ c lt. each_part c) back
          (λ v live q. subst (IsTurn (directed (back v) (psi_at i v))) (sym (q_list v live q))
          (turn-refl (directed (back v) (psi_at i v))))
          (λ v live p. subst (NoCross number) (sym (p_list v live p))
          (joined-NoCross number classes (rows v) (parts-AreOfClasses v live blocks firsts parts same all)
          classes-Distinct))
