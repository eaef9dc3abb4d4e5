-- Propagate forwards: the lists of both trees, and the old lists elsewhere, solve the instance after it.
use Rattle.std.proofs.Common.{◌≡◌, ◌≢◌, ℕ, Bool, true, not, List, [], ◌∷◌, ◌++◌, map, reverse, sym, refl, ap, ap₂, ◌∙◌, subst, subst₂, inl, inr, ⊎_elim, IsPermutation}
use Rattle.std.specs.List.{All, AllByRecursion, AllZip, Contains}
use Rattle.std.proofs.lemmas.List.{map-append}
use Rattle.std.proofs.lemmas.List.Elements.{All-append, All-contains, All-cons, All-filter, All-nil, Contains-append_left, Contains-append_right, filter_passes}
use Rattle.std.proofs.lemmas.List.Sorted.{All-permutation, IsPermutation-sym, IsPermutation-trans}
use Rattle.cp_lists.specs.CyclicLists.{Distinct, Has, Lacks}
use Rattle.cp_lists.specs.Turns.{IsTurn}
use Rattle.cp_lists.proofs.DistinctLists.{Distinct-apart, Distinct-append_right, Has-append_cases, Has-Contains, Lacks-from}
use Rattle.cp_lists.proofs.FilteredLists.{filter-Distinct}
use Rattle.cp_lists.proofs.PermutedLists.{Distinct-IsPermutation}
use Rattle.cp_lists.proofs.TurnedLists.{turn-map, turn-refl, turn-reverse, turn-sym, turn-trans}
use Rattle.cp_base.specs.declared.shape.Shape.{Shape}
use Rattle.cp_base.specs.Shapes.{Reads, leaves}
use Rattle.cp_conn.specs.NamedGraphs.{ends_at}
use Rattle.cp_conn.proofs.NamedGraphs.{map_has}
use Rattle.cp_rot.specs.Genus.{HasGenusZero}
use Rattle.cp_board.specs.declared.parts.Kind.{Kind}
use Rattle.cp_board.specs.declared.parts.Kind.TheVariants.{P, Q}
use Rattle.cp_board.specs.declared.parts.Pipe.{Pipe}
use Rattle.cp_board.specs.declared.parts.Vert.{Vert}
use Rattle.cp_board.specs.Changes.{free_vert, other_pipes}
use Rattle.cp_board.specs.Instances.{Synchronized, IsSynchronized, cell_of, cells, edge_names, edges_of, graph, vert_names}
use Rattle.cp_board.specs.Names.{has, rising}
use Rattle.cp_board.specs.Plantings.{Planted, fixed_nodes, free_nodes}
use Rattle.cp_board.specs.Propagations.{IsPropagated, fixed_verts}
use Rattle.cp_board.specs.Rotations.{ArrangesEdges, system}
use Rattle.cp_board.specs.Solutions.{IsInDirection, IsMirror, Solves, directed, second_of}
use Rattle.cp_board.specs.Steps.{IsEnd, opposite, partner}
use Rattle.cp_synclaw.proofs.InstanceDarts.{edges_once}
use Rattle.cp_plantlaw.specs.NamedTrees.{PairedRow}
use Rattle.cp_plantlaw.proofs.ApartPipes.{owned}
use Rattle.cp_plantlaw.proofs.FreshNames.{All-from_items, fresh_once, fresh_other, passed}
use Rattle.cp_plantlaw.proofs.LaidTrees.{KidsLaid}
use Rattle.cp_plantlaw.proofs.PairedTrees.{first_row, second_row}
use Rattle.cp_plantlaw.proofs.PropagatedBack.{kind_live, live_end, other_stays, trees-HasGenusZero}
use Rattle.cp_plantlaw.proofs.PropagatedEnds.{Has_old, edges_stay, mirrors, names_once, old_Has}
use Rattle.cp_plantlaw.proofs.PropagatedOn.{IsDirected, all-by_items, bits_cells, bits_of, bits_verts, direction, direction_bit, direction_other, laid-IsDirected, laid-IsMirror, listed, listed_other, listed_row, zip-laid}
use Rattle.cp_plantlaw.proofs.PropagatedRows.{HaveEdges, all_pipes, all_verts, forms, new_fixed, new_free, new_pipes, old_verts, pipes_keep, row_verts, verts_keep, verts_named}
use Rattle.cp_plantlaw.proofs.EdgesOfRows.{rows-HaveEdges}
use Rattle.cp_plantlaw.proofs.PropagatedTrees.{Holds, laid_edges, laid_verts, map_map, turn_back}
use Rattle.cp_plantlaw.proofs.ReadLeaves.{reads-leaves}
use Rattle.cp_plantlaw.proofs.ReadTrees.{ReadsAs, branch-ReadsAs}
use Rattle.cp_plantlaw.proofs.RowPairs.{node_pipe, turn-IsPermutation, zip_both, zip_kept, zip_then}
use Rattle.cp_plantlaw.proofs.RowPairs as row_pairs
use Rattle.cp_plantlaw.proofs.ToldTrees.{HaveOneForm}

-- what holds at each two rows holds at each vertex of the first ones, and of the second ones
at_verts : (X Y : ℕ → Type 0) (hs bs : List Planted) → AllZip (λ a b. X a.vertex × Y b.vertex) hs bs
    → ((x : ℕ) → Has x (row_verts hs) → X x) × ((x : ℕ) → Has x (row_verts bs) → Y x)
at_verts X Y [] [] z = ((λ x h. absurd h), (λ x h. absurd h))
at_verts X Y [] (b ∷ bs) z = absurd z
at_verts X Y (a ∷ hs) [] z = absurd z
at_verts X Y (a ∷ hs) (b ∷ bs) z =
    let rest = at_verts X Y hs bs z.1 in (
      (λ x h. ⊎_elim (λ e. subst X e z.0.0) (λ k. rest.0 x k) h),
      (λ x h. ⊎_elim (λ e. subst Y e z.0.1) (λ k. rest.1 x k) h),
    )

-- a P-vertex is in any direction
free_directed : (back : ℕ → Bool) (t : ℕ → List ℕ) (hs : List Planted)
    → All (λ v. IsInDirection back (t v.name) v.kind) (map (λ r. free_vert r.vertex) hs)
free_directed back t [] = All-nil (λ v. IsInDirection back (t v.name) v.kind)
free_directed back t (a ∷ hs) =
    All-cons (λ v. IsInDirection back (t v.name) v.kind) (free_vert a.vertex) (map (λ r. free_vert r.vertex) hs) tt
    (free_directed back t hs)

-- a vertex is in a direction of its cell by directions that agree at it
same_direction : (back other : ℕ → Bool) (xs : List ℕ) (k : Kind) → ((c : ℕ) → Has c (cell_of k) → back c ≡ other c)
    → IsInDirection back xs k → IsInDirection other xs k
same_direction back other xs P agree h = tt
same_direction back other xs (Q c psi) agree h =
    subst (λ d. IsTurn (directed d psi) xs) (agree c (inl refl)) h

module _ (i j : Synchronized) (is_i : IsSynchronized i) (is_j : IsSynchronized j) (p : Pipe) (live : Contains i.pipes p)
    (u : ℕ) (end : IsEnd p u) (shape : Shape)
    (edges_u : rising (shape.root ∷ leaves shape.body) ≡ edges_of i u) (prop : IsPropagated i p u shape j)
    (s : ℕ → List ℕ) (sol : Solves i s) (word : List ℕ) (reads : Reads shape.body word)
    (turn : IsTurn (shape.root ∷ word) (s u)) where
  -- the other end, and the partners
  abbrev w : ℕ
  w = opposite p u

  -- the partner of an edge of u
  abbrev phi : ℕ → ℕ
  phi = partner p u

  -- the names of the vertices that stay
  abbrev stay : List ℕ
  stay = map (λ v. v.name) (old_verts i j p u shape prop)

  -- the planted rows
  abbrev hs : List Planted
  hs = prop.rows_u

  -- the rows of the second tree
  abbrev bs : List Planted
  bs = prop.rows_w

  -- the two trees of the reading
  pub read : ReadsAs phi (shape.root, phi shape.root) word hs bs
  read = branch-ReadsAs phi shape.body shape.root prop.at_u (shape.root ∷ prop.edges_u) hs
      (phi shape.root) prop.at_w (phi shape.root ∷ prop.edges_w) bs word prop.planted_u prop.planted_w reads

  -- their rows
  abbrev pub rs : List PairedRow
  rs = read.laid.rows

  -- their lists
  abbrev pub lists : List (ℕ × List ℕ)
  lists = map first_row rs ++ map second_row rs

  -- they have the names of the vertices of both trees
  names_are : map (λ r. r.0) lists ≡ row_verts hs ++ row_verts bs
  names_are =
      let l = laid_verts phi hs bs rs read.laid.laid in
      map-append (λ (r : ℕ × List ℕ). r.0) (map first_row rs) (map second_row rs)
      ∙ ap₂ (λ (xs ys : List ℕ). xs ++ ys) (map_map first_row (λ (r : ℕ × List ℕ). r.0) rs ∙ l.0)
      (map_map second_row (λ (r : ℕ × List ℕ). r.0) rs ∙ l.1)

  -- no name stands twice
  pub lists_once : Distinct (map (λ r. r.0) lists)
  lists_once = subst Distinct (sym names_are)
      (Distinct-append_right stay (row_verts hs ++ row_verts bs) (names_once i j is_i p live u end shape edges_u prop))

  -- the lists after the step
  abbrev pub t : ℕ → List ℕ
  t = listed lists lists_once s

  -- a vertex that stays keeps its list
  t_stay : (x : ℕ) → Has x stay → t x ≡ s x
  t_stay x h = listed_other lists lists_once s x (subst (Lacks x) (sym names_are)
      (Distinct-apart x stay (row_verts hs ++ row_verts bs) (names_once i j is_i p live u end shape edges_u prop) h))

  -- each row has its lists
  holds : AllByRecursion (Holds t) rs
  holds = all-by_items (Holds t) rs (λ r c. (
    subst (IsTurn r.edges) (sym (listed_row lists lists_once s (first_row r)
        (Contains-append_left (map first_row rs) (map second_row rs) (first_row r) (map_has first_row rs r c))))
        (turn-refl r.edges),
    subst (IsTurn r.others) (sym (listed_row lists lists_once s (second_row r)
        (Contains-append_right (map first_row rs) (map second_row rs) (second_row r) (map_has second_row rs r c))))
        (turn-refl r.others),
  ))

  -- the trees, with these lists
  laid : KidsLaid phi (Holds t) (read.kid ∷ []) hs bs
  laid = record { rows = rs; laid = read.laid.laid; same = read.laid.same; all_good = holds }

  -- the edges of the rows, and their lists
  abbrev E : Planted → Planted → Type 0
  E = HaveEdges i j p u shape prop

  -- the edges of the vertices of two rows are those of the rows
  edges : AllZip E hs bs
  edges = rows-HaveEdges i j is_i p live u end shape edges_u prop

  -- no edge stands twice in a row
  row_once : (a b : Planted) → E a b → Distinct a.edges
  row_once a b e =
      Distinct-IsPermutation (edges_of j a.vertex) a.edges (IsPermutation-sym a.edges (edges_of j a.vertex) e.0)
      (filter-Distinct (ends_at (graph j) a.vertex) (edge_names j) (edges_once j is_j))

  -- the lists of two rows arrange their edges
  rows_arranged : AllZip (λ a b. IsPermutation (edges_of j a.vertex) (t a.vertex) × IsPermutation
      (edges_of j b.vertex) (t b.vertex)) hs bs
  rows_arranged =
      zip_then (λ a b. E a b × (IsPermutation a.edges (t a.vertex) × IsPermutation b.edges (t b.vertex)))
      (λ a b. IsPermutation (edges_of j a.vertex) (t a.vertex) × IsPermutation (edges_of j b.vertex) (t b.vertex)) hs bs
      (λ a b h. (
        IsPermutation-trans (edges_of j a.vertex) a.edges (t a.vertex)
            (IsPermutation-sym a.edges (edges_of j a.vertex) h.0.0) h.1.0,
        IsPermutation-trans (edges_of j b.vertex) b.edges (t b.vertex)
            (IsPermutation-sym b.edges (edges_of j b.vertex) h.0.1) h.1.1,
      ))
      (zip_both E (λ a b. IsPermutation a.edges (t a.vertex) × IsPermutation b.edges (t b.vertex)) hs bs edges
      (zip-laid phi (Holds t) (λ a b. IsPermutation a.edges (t a.vertex) × IsPermutation b.edges (t b.vertex))
      (λ a b r l h.
      let es = laid_edges phi a b r l in (
        IsPermutation-trans a.edges r.edges (t a.vertex) es.0
            (subst (λ x. IsPermutation r.edges (t x)) (ap (λ (z : PairedRow). z.vertex.0) l.same_row)
            (turn-IsPermutation r.edges (t r.vertex.0) h.0)),
        IsPermutation-trans b.edges r.others (t b.vertex) es.1
            (subst (λ x. IsPermutation r.others (t x)) (ap (λ (z : PairedRow). z.vertex.1) l.same_row)
            (turn-IsPermutation r.others (t r.vertex.1) h.1)),
      )) hs bs rs read.laid.laid holds))

  -- so all lists arrange the edges of their vertices
  arranged_t : All (λ x. ArrangesEdges (graph j) x (t x)) (vert_names j)
  arranged_t =
      let at = at_verts (λ x. IsPermutation (edges_of j x) (t x))
      (λ x. IsPermutation (edges_of j x) (t x)) hs bs rows_arranged in
      let all : List ℕ = stay ++ (row_verts hs ++ row_verts bs) in
      All-permutation (λ x. ArrangesEdges (graph j) x (t x)) all (vert_names j) (verts_named i j p u shape prop)
      (All-from_items (λ x. ArrangesEdges (graph j) x (t x)) all
      (λ x c. ⊎_elim
      (λ h.
      let n = Has_old i j is_i p live u end shape edges_u prop x h in
      subst (IsPermutation (edges_of j x)) (sym (t_stay x h))
      (IsPermutation-trans (edges_of j x) (edges_of i x) (s x)
      (IsPermutation-sym (edges_of i x) (edges_of j x) (edges_stay i j is_i p live u end shape edges_u prop x h))
      (All-contains (λ y. ArrangesEdges (graph i) y (s y)) (vert_names i) x sol.rotation.arranged n.0)))
      (λ h. ⊎_elim (λ k. at.0 x k) (λ k. at.1 x k) (Has-append_cases x (row_verts hs) (row_verts bs) h))
      (Has-append_cases x stay (row_verts hs ++ row_verts bs) ((Has-Contains x all).1 c))))

  -- the list of the other end is the mirror of that of the end
  at_w : IsTurn (phi shape.root ∷ reverse (map phi word)) (s w)
  at_w =
      let mirror : IsTurn (reverse (map phi (s u))) (s w) =
      (mirrors i j is_i p live u end shape edges_u prop).mirrored s
      (All-contains (λ x. ArrangesEdges (graph i) x (s x)) (vert_names i) p.a sol.rotation.arranged
      (kind_live i j is_i p live u end shape edges_u prop i.verts p.a
      (live_end i j is_i p live u end shape edges_u prop p live p.a (inl refl))))
      (All-contains (λ q. IsMirror (second_of q) (s q.a) (s q.b)) i.pipes p sol.mirrored live) in
      turn-trans (phi shape.root ∷ reverse (map phi word)) (reverse (map phi (shape.root ∷ word))) (s w)
      (turn-sym (reverse (map phi (shape.root ∷ word))) (phi shape.root ∷ reverse (map phi word))
      (turn_back (phi shape.root) (map phi word)))
      (turn-trans (reverse (map phi (shape.root ∷ word))) (reverse (map phi (s u))) (s w)
      (turn-reverse (map phi (shape.root ∷ word)) (map phi (s u)) (turn-map phi (shape.root ∷ word) (s u) turn)) mirror)

  -- the system has genus zero
  flat_t : HasGenusZero (system (graph j) t)
  flat_t =
      (trees-HasGenusZero i j is_i is_j p live u end shape edges_u prop t s read.kid read.same_tops laid
      (subst (IsPermutation (leaves shape.body)) (sym read.same_word) (reads-leaves shape.body word reads))
      (subst (λ xs. IsTurn (shape.root ∷ xs) (s u)) (sym read.same_word) turn)
      (subst (λ xs. IsTurn (phi shape.root ∷ reverse (map phi xs)) (s w)) (sym read.same_word) at_w)
      (λ x h. sym (t_stay x h)) sol.rotation.arranged arranged_t).0 sol.rotation.flat

  -- the ends of all pipes mirror each other
  abbrev Mirrored : Pipe → Type 0
  Mirrored q = IsMirror (second_of q) (t q.a) (t q.b)

  -- the pipes that stay are mirrored
  old_mirrored : All Mirrored (other_pipes i (p.name ∷ []))
  old_mirrored =
      let test : Pipe → Bool = λ (q : Pipe). not (has (p.name ∷ []) q.name) in
      let base : All (λ q. q.name ≢ p.name → Mirrored q) i.pipes =
      All-from_items (λ q. q.name ≢ p.name → Mirrored q) i.pipes (λ q c ne.
      let one : t q.a ≡ s q.a = t_stay q.a (other_stays i j is_i p live u end shape edges_u prop q c ne q.a
      (inl refl)) in
      let two : t q.b ≡ s q.b = t_stay q.b (other_stays i j is_i p live u end shape edges_u prop q c ne q.b
      (inr (inl refl))) in
      subst₂ (λ (xs ys : List ℕ). IsMirror (second_of q) xs ys) (sym one) (sym two)
      (All-contains (λ (z : Pipe). IsMirror (second_of z) (s z.a) (s z.b)) i.pipes q sol.mirrored c)) in
      let kept = All-filter test (λ q. q.name ≢ p.name → Mirrored q) i.pipes base in
      let passes = filter_passes test i.pipes in
      λ k d lt. kept k d lt (λ e. passed (p.name ∷ []) _ (passes k d lt) p.name (inl refl) e)

  -- the pipes of the P-nodes are mirrored
  new_mirrored : All Mirrored (new_pipes i j p u shape prop)
  new_mirrored =
      let R : Planted → Planted → Type 0 = λ (a b : Planted). (n : ℕ) → Mirrored (node_pipe n a b) in
      row_pairs.all_pipes Mirrored prop.names (free_nodes hs) (free_nodes bs)
      (zip_kept (λ r. not r.fixed) R hs bs
      (zip_then (λ a b. HaveOneForm a b × (E a b × (Distinct a.edges → R a b)))
      (λ a b. (not b.fixed ≡ not a.fixed) × (not a.fixed ≡ true → R a b)) hs bs
      (λ a b h. (ap not h.0.0, λ f. h.1.1 (row_once a b h.1.0)))
      (zip_both HaveOneForm (λ a b. E a b × (Distinct a.edges → R a b)) hs bs (forms i j p u shape prop)
      (zip_both E (λ a b. Distinct a.edges → R a b) hs bs edges
      (zip-laid phi (Holds t) (λ a b. Distinct a.edges → R a b)
      (λ a b r l h once n. laid-IsMirror phi t a b r l h n once) hs bs rs read.laid.laid holds)))))

  -- the directions of the Q-nodes
  fixed_directed : AllZip (λ a b. (bit : Bool) × IsDirected t a b bit) (fixed_nodes hs) (fixed_nodes bs)
  fixed_directed =
      let R : Planted → Planted → Type 0 = λ (a b : Planted). (bit : Bool) × IsDirected t a b bit in
      zip_kept (λ r. r.fixed) R hs bs
      (zip_then (λ a b. HaveOneForm a b × (a.fixed ≡ true → R a b))
      (λ a b. (b.fixed ≡ a.fixed) × (a.fixed ≡ true → R a b)) hs bs (λ a b h. (h.0.0, h.1))
      (zip_both HaveOneForm (λ a b. a.fixed ≡ true → R a b) hs bs (forms i j p u shape prop)
      (zip-laid phi (Holds t) (λ a b. a.fixed ≡ true → R a b)
      (λ a b r l h f. laid-IsDirected phi t a b r l h f) hs bs rs read.laid.laid holds)))

  -- those of the new cells
  abbrev bits : List (ℕ × Bool)
  bits = bits_of t prop.new_cells (fixed_nodes hs) (fixed_nodes bs) fixed_directed

  -- they are of the new cells
  bits_are : map (λ b. b.0) bits ≡ prop.new_cells
  bits_are = bits_cells t prop.new_cells (fixed_nodes hs) (fixed_nodes bs) fixed_directed prop.one_cell_each

  -- no cell stands twice
  bits_once : Distinct (map (λ b. b.0) bits)
  bits_once = subst Distinct (sym bits_are) (fresh_once (cells i) prop.new_cells prop.are_cells)

  -- the directions of all cells
  abbrev back : ℕ → Bool
  back = direction bits bits_once sol.back

  -- an old cell keeps its direction
  back_old : (c : ℕ) → Has c (cells i) → back c ≡ sol.back c
  back_old c h = direction_other bits bits_once sol.back c (subst (Lacks c) (sym bits_are)
      (Lacks-from c prop.new_cells (λ n. fresh_other (cells i) prop.new_cells c c prop.are_cells n h refl)))

  -- all vertices are in the direction of their cell
  abbrev Directed : Vert → Type 0
  Directed v = IsInDirection back (t v.name) v.kind

  -- the vertices that stay are in the direction of their cell
  old_directed : All Directed (old_verts i j p u shape prop)
  old_directed =
      let test : Vert → Bool = λ (v : Vert). not (has (u ∷ w ∷ []) v.name) in
      let base : All (λ v. v.name ≢ u → v.name ≢ w → Directed v) i.verts =
      All-from_items (λ v. v.name ≢ u → v.name ≢ w → Directed v) i.verts (λ v c nu nw.
      let here : Has v.name stay = old_Has i j is_i p live u end shape edges_u prop v.name
      (map_has (λ (z : Vert). z.name) i.verts v c) nu nw in
      subst (λ xs. IsInDirection back xs v.kind) (sym (t_stay v.name here))
      (same_direction sol.back back (s v.name) v.kind
      (λ d k. sym (back_old d (owned (λ (z : Vert). cell_of z.kind) i.verts v d c k)))
      (All-contains (λ (z : Vert). IsInDirection sol.back (s z.name) z.kind) i.verts v sol.in_direction c))) in
      let kept = All-filter test (λ v. v.name ≢ u → v.name ≢ w → Directed v) i.verts base in
      let passes = filter_passes test i.verts in
      λ k d lt. kept k d lt
      (λ e. passed (u ∷ w ∷ []) _ (passes k d lt) u (inl refl) e)
      (λ e. passed (u ∷ w ∷ []) _ (passes k d lt) w (inr (inl refl)) e)

  -- the lists solve the instance after the step
  pub Solves-planted : Solves j t
  Solves-planted =
      let fixed = bits_verts t back prop.new_cells (fixed_nodes hs) (fixed_nodes bs) fixed_directed
      (λ b c. direction_bit bits bits_once sol.back b c) in
      let fu : List Vert = fixed_verts (λ es. es) prop.new_cells (fixed_nodes hs) in
      let fw : List Vert = fixed_verts reverse prop.new_cells (fixed_nodes bs) in
      record {
        rotation = record { arranged = arranged_t; flat = flat_t };
        mirrored = All-permutation Mirrored (all_pipes i j p u shape prop) j.pipes (pipes_keep i j p u shape prop)
            (All-append Mirrored (other_pipes i (p.name ∷ []))
            (new_pipes i j p u shape prop) old_mirrored new_mirrored);
        back = back;
        in_direction = All-permutation Directed (all_verts i j p u shape prop) j.verts (verts_keep i j p u shape prop)
            (All-append Directed (old_verts i j p u shape prop)
            (new_free i j p u shape prop ++ new_fixed i j p u shape prop)
            old_directed
            (All-append Directed (new_free i j p u shape prop) (new_fixed i j p u shape prop)
            (free_directed back t (free_nodes hs ++ free_nodes bs)) (All-append Directed fu fw fixed.0 fixed.1)));
      }
