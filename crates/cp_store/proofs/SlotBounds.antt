-- An allowed step raises the number of vertices, edges and pipes by at most 8 times the degree of its pipe.
use Rattle.std.proofs.Common.{◌≡◌, ℕ, ◌+◌, ◌*◌, ◌<◌, ◌≤◌, Bool, true, false, not, ◌||◌, cond, eqb, leb, List, [], ◌∷◌, ◌++◌, length, map, reverse, sym, refl, ap, ◌∙◌, subst, arith, ⊎_elim}
use Rattle.std.specs.Prelude.{filter, Some, ◌&&◌}
use Rattle.std.specs.List.{All, flat_map, list_all, zip}
use Rattle.std.proofs.lemmas.Bool.{cond_both, cond-false, and_parts, eqb-true, eq-eqb, leb-true}
use Rattle.std.proofs.lemmas.List.{length-append, length-map}
use Rattle.std.proofs.lemmas.List.Elements.{All-head, All-tail}
use Rattle.std.proofs.lemmas.List.Sorted.{length_permutation}
use Rattle.std.proofs.lemmas.List.Filters.{length-filter_both}
use Rattle.std.proofs.lemmas.Slice.Zip.{length-zip}
use Rattle.cp_base.specs.declared.shape.Branch.{Branch}
use Rattle.cp_base.specs.declared.shape.Branch.TheVariants.{P, rolls-P}
use Rattle.cp_base.specs.declared.shape.Branch.TheOpen.{Branch-F}
use Rattle.cp_base.specs.declared.shape.Branch.TheFolds.{fold-roll-Branch}
use Rattle.cp_base.specs.declared.shape.Shape.{Shape}
use Rattle.cp_base.specs.Shapes.{leaves, branches, branches_step}
use Rattle.cp_board.specs.declared.parts.Vert.{Vert}
use Rattle.cp_board.specs.declared.parts.EdgeRow.{EdgeRow}
use Rattle.cp_board.specs.declared.parts.Pipe.{Pipe}
use Rattle.cp_board.specs.declared.steps.Step.{Step}
use Rattle.cp_board.specs.declared.steps.Step.TheVariants.{Small, FreePole, FusePoles, Toroidal, Join, Propagate}
use Rattle.cp_board.specs.Names.{has, by_name}
use Rattle.cp_board.specs.Instances.{Synchronized, IsSynchronized, HasRightPairs, graph, edges_of, pipe_in, pipe_named}
use Rattle.cp_board.specs.Steps.{degree, opposite, partner, IsEnd, Allowed, IsFitting}
use Rattle.cp_board.specs.Plantings.{Planted, Plants, PlantsAll, holder, lower_end, tree_edges, free_nodes, fixed_nodes}
use Rattle.cp_board.specs.Joins.{IsJoined, bipartite_edge, part_pipes, edge_for, vertex_for}
use Rattle.cp_board.specs.Propagations.{IsPropagated, fixed_verts, node_pipes}
use Rattle.cp_board.specs.Effects.{After, HasFixedEnds, IsAfterSmall, IsFused, first_kind, second_kind}
use Rattle.cp_board.specs.Changes.{IsWithoutPipe, other_verts, other_pipes, moved_edges, free_vert, with_kind, pairs_by_first}
use Rattle.cp_board.specs.Runs.{slots}
use Rattle.cp_board.proofs.NamedLists.{by_name_keeps}
use Rattle.cp_board.proofs.PlantedRows.{planted_sizes}
use Rattle.cp_board.proofs.ShapeEquations.{leaves_Leaf, leaves_P, leaves_Q, branches_Q}
use Rattle.cp_store.specs.StepPipes.{pipe_of}
use Rattle.cp_store.proofs.ExchangedItems.{Some-same, None-Some, under-named}

-- items that pass a test are no more than all
length-passing : {A : Type 0} (t : A → Bool) (xs : List A) → length (filter t xs) ≤ length xs
length-passing t [] = omega arith
length-passing t (x ∷ xs) =
    let h = length-passing t xs in
    cond_both (t x) (x ∷ filter t xs) (filter t xs) (λ ys. length ys ≤ length (x ∷ xs)) (λ e. omega (arith, h)) (λ e. omega (arith, h))

-- pipes that pass a test are fewer than all, where the pipe of some name is there and does not pass
fewer-passing : (t : Pipe → Bool) (n : ℕ) (ps : List Pipe) (p : Pipe) → pipe_in ps n ≡ Some p
    → ((q : Pipe) → q.name ≡ n → t q ≡ false)
    → length (filter t ps) + 1 ≤ length ps
fewer-passing t n [] p found fails = absurd (None-Some p found)
fewer-passing t n (q ∷ qs) p found fails =
    let h = length-passing t qs in
    cond_both (eqb q.name n) (Some q) (pipe_in qs n) (λ o. o ≡ Some p → length (filter t (q ∷ qs)) + 1 ≤ length (q ∷ qs))
    (λ e f. omega (arith, h, ap length (cond-false (t q) (q ∷ filter t qs) (filter t qs) (fails q (eqb-true q.name n e)))))
    (λ e f.
    let r = fewer-passing t n qs p f fails in
    cond_both (t q) (q ∷ filter t qs) (filter t qs) (λ ys. length ys + 1 ≤ length (q ∷ qs)) (λ e. omega (arith, r)) (λ e. omega (arith, r)))
    found

-- what holds of all pipes holds of the one of some name
All-found : (holds : Pipe → Type 0) (n : ℕ) (ps : List Pipe) (p : Pipe) → All holds ps → pipe_in ps n ≡ Some p → holds p
All-found holds n [] p all found = absurd (None-Some p found)
All-found holds n (q ∷ qs) p all found =
    cond_both (eqb q.name n) (Some q) (pipe_in qs n) (λ o. o ≡ Some p → holds p)
    (λ e f. subst holds (Some-same q p f) (All-head holds q qs all))
    (λ e f. All-found holds n qs p (All-tail holds q qs all) f)
    found

-- the order of names keeps the number of items
length-by_name : {A : Type 0} (name : A → ℕ) (xs : List A) → length (by_name name xs) ≡ length xs
length-by_name name xs = length_permutation xs (by_name name xs) (by_name_keeps name xs)

-- lists that are not empty are no more than their items
length-parts : (parts : List (List ℕ)) → All (λ part. 0 < length part) parts
    → length parts ≤ length (flat_map (λ part. part) parts)
length-parts [] filled = omega arith
length-parts (x ∷ xs) filled =
    let first : 0 < length x = All-head (λ (part : List ℕ). 0 < length part) x xs filled in
    let rest = length-parts xs (All-tail (λ (part : List ℕ). 0 < length part) x xs filled) in
    omega (arith, first, rest, length-append x (flat_map (λ part. part) xs))

-- pairs are no more than their first items
length-zip_first : {A B : Type 0} (xs : List A) (ys : List B) → length (zip xs ys) ≤ length xs
length-zip_first xs ys = omega (arith, length-zip xs ys)

-- the second items of pairs of lists, too
length-zip_second : {A B : Type 0} (xs : List A) (ys : List B) → length (zip xs ys) ≤ length ys
length-zip_second xs ys = omega (arith, length-zip xs ys)

-- each end of a pipe has as many edges as the pipe has pairs
module _ (i : Synchronized) (is : IsSynchronized i) (n : ℕ) (p : Pipe) (found : pipe_named i n ≡ Some p) where
  -- its pairs are right
  right_pairs : HasRightPairs (graph i) p
  right_pairs = All-found (HasRightPairs (graph i)) n i.pipes p is.pairs_right found

  -- the first end
  length-first_end : length (edges_of i p.a) ≡ degree p
  length-first_end = sym (ap length right_pairs.first) ∙ length-map p.pairs (λ x. x.0)

  -- the second end
  length-second_end : length (edges_of i p.b) ≡ degree p
  length-second_end =
      sym (length_permutation (edges_of i p.b) (map (λ x. x.1) p.pairs) right_pairs.second) ∙ length-map p.pairs (λ x. x.1)

  -- either end
  length-end : (u : ℕ) → IsEnd p u → length (edges_of i u) ≡ degree p
  length-end u end =
      ⊎_elim
      (λ (e : p.a ≡ u). subst (λ v. length (edges_of i v) ≡ degree p) e length-first_end)
      (λ (e : p.b ≡ u). subst (λ v. length (edges_of i v) ≡ degree p) e length-second_end)
      end

-- a test passes all items where its values at them are all true
list_all-values : (ks : List Branch) → list_all (λ b. b) (map branches ks) ≡ list_all branches ks
list_all-values [] = refl
list_all-values (k ∷ ks) = ap (λ z. branches k && z) (list_all-values ks)

-- the inner nodes of a P-node have at least two kids if it has and those of its kids have
branches_P : (ks : List Branch) → branches (P ks) ≡ (leb 2 (length ks) && list_all branches ks)
unfolding branches
branches_P ks = ap branches (sym (rolls-P ks)) ∙ fold-roll-Branch Bool branches_step (Branch-F.P ks)
    ∙ ap (λ n. leb 2 n && list_all (λ b. b) (map branches ks)) (length-map ks branches) ∙ ap (λ z. leb 2 (length ks) && z) (list_all-values ks)

-- a branch has fewer inner nodes than leaves
mutual
  planted-few : (f : ℕ → ℕ) (b : Branch) (top : ℕ) (vs es : List ℕ) (rows : List Planted)
      → Plants f b top vs es rows → branches b ≡ true → length rows + 1 ≤ length (leaves b)
  planted-few f _ _ _ _ _ (Plants.leaf x) t = omega (arith, ap length (leaves_Leaf x))
  planted-few f _ _ _ _ _ (Plants.free kids top v tops vs es rows all) t =
      let h = and_parts (leb 2 (length kids)) (list_all branches kids) (sym (branches_P kids) ∙ t) in
      let few = all-few f kids tops vs es rows all h.1 in
      let two : 2 ≤ length kids = leb-true 2 (length kids) h.0 in
      omega (arith, few, two, ap length (leaves_P kids))
  planted-few f _ _ _ _ _ (Plants.fixed kids top v tops vs es rows all) t =
      let h = and_parts (leb 2 (length kids)) (list_all branches kids) (sym (branches_Q kids) ∙ t) in
      let few = all-few f kids tops vs es rows all h.1 in
      let two : 2 ≤ length kids = leb-true 2 (length kids) h.0 in
      omega (arith, few, two, ap length (leaves_Q kids))

  -- branches whose inner nodes have two kids or more have no fewer leaves than inner nodes and branches together
  all-few : (f : ℕ → ℕ) (ks : List Branch) (tops vs es : List ℕ) (rows : List Planted)
      → PlantsAll f ks tops vs es rows → list_all branches ks ≡ true → length rows + length ks ≤ length (flat_map leaves ks)
  all-few f _ _ _ _ _ PlantsAll.none t = omega arith
  all-few f _ _ _ _ _ (PlantsAll.more k ks top tops us vs ds es rows more_rows one rest) t =
      let h = and_parts (branches k) (list_all branches ks) t in
      let g = planted-few f k top us ds rows one h.0 in
      let r = all-few f ks tops vs es more_rows rest h.1 in
      omega (arith, g, r, length-append rows more_rows, length-append (leaves k) (flat_map leaves ks))

-- the P-nodes and the Q-nodes are all nodes
length-nodes : (rows : List Planted) → length (free_nodes rows) + length (fixed_nodes rows) ≡ length rows
length-nodes rows = length-filter_both (λ (r : Planted). not r.fixed) (λ (r : Planted). r.fixed) (λ r. twice r.fixed) rows
  where
    twice : (b : Bool) → b ≡ not (not b)
    twice true = refl
    twice false = refl

-- two lists of items in the order of names
length-named_append : {A : Type 0} (name : A → ℕ) (xs ys : List A)
    → length (by_name name (xs ++ ys)) ≡ length xs + length ys
length-named_append name xs ys = length-by_name name (xs ++ ys) ∙ length-append xs ys

-- edges that move are as many as before
length-moved : (i : Synchronized) (to : ℕ → ℕ → ℕ) → length (moved_edges i to) ≡ length i.edges
length-moved i to = length-map i.edges (λ (e : EdgeRow). record { name = e.name; a = to e.name e.a; b = to e.name e.b })

-- values of no more items than some number are no more
length-map_le : {A B : Type 0} (f : A → B) (xs : List A) (n : ℕ) → length xs ≤ n → length (map f xs) ≤ n
length-map_le f xs n le = omega (arith, length-map xs f, le)

-- pipes of parts are no more than their names
length-part_pipes : (hat : ℕ → ℕ) (names outer inner : List ℕ) (parts : List (List ℕ))
    → length (part_pipes hat names outer inner parts) ≤ length names
length-part_pipes hat names outer inner parts =
    length-map_le _ (zip names (zip outer (zip inner parts))) (length names) (length-zip_first names (zip outer (zip inner parts)))

-- pipes of nodes are no more than their names
length-node_pipes : (names : List ℕ) (us ws : List Planted) → length (node_pipes names us ws) ≤ length names
length-node_pipes names us ws = length-map_le _ (zip names (zip us ws)) (length names) (length-zip_first names (zip us ws))

-- Q-vertices of nodes are no more than the nodes
length-fixed_verts : (direction : List ℕ → List ℕ) (cells : List ℕ) (nodes : List Planted)
    → length (fixed_verts direction cells nodes) ≤ length nodes
length-fixed_verts direction cells nodes = length-map_le _ (zip cells nodes) (length nodes) (length-zip_second cells nodes)

-- one edge between nodes for each name
length-tree_edges : (rows : List Planted) (es : List ℕ) → length (tree_edges rows es) ≡ length es
length-tree_edges rows es = length-map es (λ e. record { name = e; a = holder rows e; b = lower_end rows e })

-- what Small makes, by whether the pipe has three pairs
abbrev AfterSmall : Bool → Synchronized → Pipe → Synchronized → Type 0
AfterSmall three i p j = elim three as (λ b. Type 0) [ true ↦ HasFixedEnds i p j | false ↦ IsWithoutPipe i p.name j ]

-- the bound for each kind of step at the pipe p
module _ (i j : Synchronized) (is : IsSynchronized i) (n : ℕ) (p : Pipe) (found : pipe_named i n ≡ Some p) where
  -- where only pipes go there are no more slots
  slots-without : (m : ℕ) → IsWithoutPipe i m j → slots j ≤ slots i + 8 * degree p
  slots-without m w =
      let fewer = length-passing (λ (q : Pipe). not (has (m ∷ []) q.name)) i.pipes in
      omega (arith, ap length w.verts, ap length w.edges, ap length w.pipes, fewer)

  -- two pipes go and one comes
  slots-fused : (q : Pipe) (u v : ℕ) → IsFused i p q u v j → slots j ≤ slots i + 8 * degree p
  slots-fused q u v w =
      let t : Pipe → Bool = λ r. not (has (p.name ∷ q.name ∷ []) r.name) in
      let named : p.name ≡ n = under-named (λ (r : Pipe). r.name) n i.pipes p found in
      let fewer = fewer-passing t n i.pipes p found (λ r e. ap (λ b. not (b || has (q.name ∷ []) r.name)) (eq-eqb r.name p.name (e ∙ sym named))) in
      let new : Pipe = record {
        name = w.name;
        a = opposite p u;
        b = opposite q v;
        pairs = pairs_by_first (map (λ x. (partner p u x, partner q v (w.along x))) (edges_of i u));
      } in
      omega (arith, ap length w.verts, ap length w.edges, ap length w.pipes ∙ length-by_name (λ (r : Pipe). r.name) (new ∷ filter t i.pipes), fewer)

  -- a vertex, a vertex and a pipe for each part of both ends, and one edge for each pair
  slots-joined : IsJoined i p j → slots j ≤ slots i + 8 * degree p
  slots-joined w =
      let da = length-first_end i is n p found in
      let db = length-second_end i is n p found in
      let ka = length-parts w.parts_a w.are_parts_a.filled in
      let kb = length-parts w.parts_b w.are_parts_b.filled in
      let fa = length_permutation (edges_of i p.a) (flat_map (λ part. part) w.parts_a) w.are_parts_a.whole in
      let fb = length_permutation (edges_of i p.b) (flat_map (λ part. part) w.parts_b) w.are_parts_b.whole in
      let names : List ℕ = w.outer_a ++ w.inner_a ++ w.outer_b ++ w.inner_b in
      let size : length names ≡ length w.outer_a + length w.inner_a + length w.outer_b + length w.inner_b =
      omega (arith, length-append (w.outer_a ++ w.inner_a ++ w.outer_b) w.inner_b, length-append (w.outer_a ++ w.inner_a) w.outer_b, length-append w.outer_a w.inner_a) in
      let verts = ap length w.verts ∙ length-named_append (λ (v : Vert). v.name) (other_verts i (p.a ∷ p.b ∷ [])) (map free_vert names) in
      let to : ℕ → ℕ → ℕ = λ e v. cond (eqb v p.a) (vertex_for w.parts_a w.outer_a e) (cond (eqb v p.b) (vertex_for w.parts_b w.outer_b e) v) in
      let pipes_a : List Pipe = part_pipes (edge_for i p w.hats) w.names_a w.outer_a w.inner_a w.parts_a in
      let edges = ap length w.edges ∙ length-named_append (λ (e : EdgeRow). e.name) (moved_edges i to) (map (bipartite_edge i p w.hats w.parts_a w.inner_a w.parts_b w.inner_b) (edges_of i p.a)) in
      let pipes = ap length w.pipes ∙ length-named_append (λ (q : Pipe). q.name) (other_pipes i (p.name ∷ []) ++ pipes_a) (part_pipes (λ y. edge_for i p w.hats (partner p p.b y)) w.names_b w.outer_b w.inner_b w.parts_b) in
      omega (
        arith,
        da,
        db,
        ka,
        kb,
        fa,
        fb,
        size,
        verts,
        edges,
        pipes,
        w.one_each_a.0,
        w.one_each_a.1,
        w.one_each_b.0,
        w.one_each_b.1,
        w.one_name_each.0,
        w.one_name_each.1,
        length-passing (λ (v : Vert). not (has (p.a ∷ p.b ∷ []) v.name)) i.verts,
        length-passing (λ (q : Pipe). not (has (p.name ∷ []) q.name)) i.pipes,
        length-map names free_vert,
        length-moved i to,
        length-map (edges_of i p.a) (bipartite_edge i p w.hats w.parts_a w.inner_a w.parts_b w.inner_b),
        length-append (other_pipes i (p.name ∷ [])) pipes_a,
        length-part_pipes (edge_for i p w.hats) w.names_a w.outer_a w.inner_a w.parts_a,
        length-part_pipes (λ y. edge_for i p w.hats (partner p p.b y)) w.names_b w.outer_b w.inner_b w.parts_b,
      )

  -- two vertices, two edges and a pipe at most for each inner node of the shape
  slots-propagated : (u : ℕ) (shape : Shape) → IsFitting i p u shape → IsPropagated i p u shape j
      → slots j ≤ slots i + 8 * degree p
  slots-propagated u shape fits w =
      let d = length-end i is n p found u fits.end in
      let l = ap length fits.leaves ∙ refl in
      let all = length-by_name (λ (x : ℕ). x) (shape.root ∷ leaves shape.body) in
      let few_u = planted-few (λ x. x) shape.body shape.root w.at_u (shape.root ∷ w.edges_u) w.rows_u w.planted_u fits.branching in
      let few_w = planted-few (partner p u) shape.body (partner p u shape.root) w.at_w (partner p u shape.root ∷ w.edges_w) w.rows_w w.planted_w fits.branching in
      let size_u = (planted_sizes (λ x. x) shape.body shape.root w.at_u (shape.root ∷ w.edges_u) w.rows_u w.planted_u).1 in
      let size_w = (planted_sizes (partner p u) shape.body (partner p u shape.root) w.at_w (partner p u shape.root ∷ w.edges_w) w.rows_w w.planted_w).1 in
      let nodes : List Vert = map (λ (r : Planted). free_vert r.vertex) (free_nodes w.rows_u ++ free_nodes w.rows_w) in
      let fixed_u : List Vert = fixed_verts (λ es. es) w.new_cells (fixed_nodes w.rows_u) in
      let fixed_w : List Vert = fixed_verts reverse w.new_cells (fixed_nodes w.rows_w) in
      let others : List Vert = other_verts i (u ∷ opposite p u ∷ []) in
      let verts = ap length w.verts ∙ length-named_append (λ (v : Vert). v.name) (others ++ nodes ++ fixed_u) fixed_w in
      let to : ℕ → ℕ → ℕ = λ e v. cond (eqb v u) (holder w.rows_u e) (cond (eqb v (opposite p u)) (holder w.rows_w e) v) in
      let edges = ap length w.edges ∙ length-named_append (λ (e : EdgeRow). e.name) (moved_edges i to ++ tree_edges w.rows_u w.edges_u) (tree_edges w.rows_w w.edges_w) in
      let pipes = ap length w.pipes ∙ length-named_append (λ (q : Pipe). q.name) (other_pipes i (p.name ∷ [])) (node_pipes w.names (free_nodes w.rows_u) (free_nodes w.rows_w)) in
      omega (
        arith,
        d,
        l,
        all,
        few_u,
        few_w,
        size_u,
        size_w,
        verts,
        edges,
        pipes,
        w.one_name_each,
        length-append (others ++ nodes) fixed_u,
        length-append others nodes,
        length-passing (λ (v : Vert). not (has (u ∷ opposite p u ∷ []) v.name)) i.verts,
        length-map (free_nodes w.rows_u ++ free_nodes w.rows_w) (λ (r : Planted). free_vert r.vertex),
        length-append (free_nodes w.rows_u) (free_nodes w.rows_w),
        length-fixed_verts (λ es. es) w.new_cells (fixed_nodes w.rows_u),
        length-fixed_verts reverse w.new_cells (fixed_nodes w.rows_w),
        length-nodes w.rows_u,
        length-nodes w.rows_w,
        length-append (moved_edges i to) (tree_edges w.rows_u w.edges_u),
        length-moved i to,
        length-tree_edges w.rows_u w.edges_u,
        length-tree_edges w.rows_w w.edges_w,
        length-passing (λ (q : Pipe). not (has (p.name ∷ []) q.name)) i.pipes,
        length-node_pipes w.names (free_nodes w.rows_u) (free_nodes w.rows_w),
      )

  -- Small with three pairs or fewer
  slots-small : (b : Bool) → AfterSmall b i p j → slots j ≤ slots i + 8 * degree p
  slots-small true w =
      omega (arith, ap length w.verts, length-map i.verts (λ v. with_kind p.a (first_kind p w.cell) (with_kind p.b (second_kind p w.cell) v)), ap length w.edges, ap length w.pipes, length-passing (λ (q : Pipe). not (has (p.name ∷ []) q.name)) i.pipes)
  slots-small false w = slots-without p.name w

-- the bound for all steps
pub slots-after : (step : Step) (p : Pipe) (i j : Synchronized) → IsSynchronized i
    → pipe_named i (pipe_of step) ≡ Some p
    → Allowed i step → After i step j
    → slots j ≤ slots i + 8 * degree p
slots-after (Small n) p i j is found allowed after =
    slots-small i j is n p found (eqb (degree p) 3) (subst (λ q. IsAfterSmall i q j) (Some-same after.0 p (sym after.1 ∙ found)) after.2)
slots-after (FreePole n end pole) p i j is found allowed after = slots-without i j is n p found n after.2
slots-after (FusePoles n end pole) p i j is found allowed after =
    slots-fused i j is n p found after.2.0 end pole (subst (λ q. IsFused i q after.2.0 end pole j) (Some-same after.0 p (sym after.1 ∙ found)) after.2.2)
slots-after (Toroidal n) p i j is found allowed after = slots-without i j is n p found n after.2
slots-after (Join n) p i j is found allowed after =
    slots-joined i j is n p found (subst (λ q. IsJoined i q j) (Some-same after.0 p (sym after.1 ∙ found)) after.2)
slots-after (Propagate n end shape) p i j is found allowed after =
    slots-propagated i j is n p found end shape
    (subst (λ q. IsFitting i q end shape) (Some-same allowed.0 p (sym allowed.1 ∙ found)) allowed.2)
    (subst (λ q. IsPropagated i q end shape j) (Some-same after.0 p (sym after.1 ∙ found)) after.2)
