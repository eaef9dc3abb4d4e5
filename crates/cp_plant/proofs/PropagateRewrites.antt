-- The rewrite of Propagate fits the instance, and gives what the step makes of it.
use Rattle.std.proofs.Common.{◌≡◌, ◌≢◌, ◌⊎◌, ℕ, suc, ◌+◌, ◌*◌, ◌^◌, ◌<◌, ◌≤◌, Bool, true, false, not, eqb, cond, List, [], ◌∷◌, ◌++◌, append_assoc, length, map, reverse, sym, refl, ap, ap₂, ◌∙◌, subst, inl, inr, ⊎_elim, arith, IsPermutation}
use Rattle.std.specs.Prelude.{Some, filter}
use Rattle.std.specs.List.{All, Contains, flat_map, range_with_len, zip}
use Rattle.std.proofs.lemmas.Grind.{flat_map-append}
use Rattle.std.proofs.lemmas.List.{append-nil, length-append, length-map, map-append, map-id}
use Rattle.std.proofs.lemmas.List.Elements.{All-cons, All-filter, All-head, All-nil, All-same, All-tail, All-take, filter-append}
use Rattle.std.proofs.lemmas.List.FromFn.{get_or-range_with_len, length-range_with_len}
use Rattle.std.proofs.lemmas.List.Sorted.{IsPermutation-append, IsPermutation-append_comm, IsPermutation-append_left, IsPermutation-append_right, IsPermutation-trans}
use Rattle.cp_lists.specs.CyclicLists.{Distinct, Has, Lacks}
use Rattle.cp_lists.proofs.DistinctLists.{Has-Contains, Lacks-from, has_lacks}
use Rattle.cp_base.specs.declared.shape.Shape.{Shape}
use Rattle.cp_conn.proofs.DistinctSubsets.{subset_length}
use Rattle.cp_conn.proofs.NamedGraphs.{map_has}
use Rattle.cp_board.specs.declared.parts.EdgeRow.{EdgeRow}
use Rattle.cp_board.specs.declared.parts.Kind.{Kind}
use Rattle.cp_board.specs.declared.parts.Kind.TheVariants.{P, Q}
use Rattle.cp_board.specs.declared.parts.Pipe.{Pipe}
use Rattle.cp_board.specs.declared.parts.Vert.{Vert}
use Rattle.cp_board.specs.declared.rewrite.Rewrite.{Rewrite}
use Rattle.cp_board.specs.declared.steps.Step.TheVariants.{Propagate}
use Rattle.cp_board.specs.Changes.{edges_by_name, free_vert, moved_edges, other_pipes, other_verts, pipes_by_name, verts_by_name}
use Rattle.cp_board.specs.Instances.{Synchronized, IsSynchronized, HasRightEnds, cell_of, cells, edge_names, edges_of, kind_in, names_of_edges, names_of_verts, pipe_named, pipe_names, vert_names}
use Rattle.cp_board.specs.Names.{AreNew, has, new_names}
use Rattle.cp_board.specs.Plantings.{Planted, fixed_nodes, free_nodes, holder, tree_edges}
use Rattle.cp_board.specs.Propagations.{IsPropagated, fixed_verts, node_pipes}
use Rattle.cp_board.specs.Reductions.{Performs}
use Rattle.cp_board.specs.Rewrites.{AreMoves, IsRewriteOf, after_moves, first_ones, rewritten, verts_with}
use Rattle.cp_board.specs.Steps.{IsFitting, opposite}
use Rattle.cp_board.proofs.PlantedRows.{planted_sizes}
use Rattle.cp_plantlaw.proofs.FreshNames.{fresh_once, fresh_other, has-false, has-true}
use Rattle.cp_plantlaw.proofs.PropagateSteps.{found-Contains}
use Rattle.cp_plantlaw.proofs.PropagatedEnds.{live_u, live_w, names_once, u_not_w, verts_u, verts_w}
use Rattle.cp_plantlaw.proofs.PropagatedRows.{all_verts, forms, free_forms, fixed_count, new_fixed, new_free, old_verts, row_verts, verts_ordered}
use Rattle.cp_plantlaw.proofs.PropagatedRules.{IsSynchronized-propagated, kind_free}
use Rattle.cp_plantlaw.proofs.ToldTrees.{HaveOneForm, zip_length}
use Rattle.cp_plant.specs.Rewriting.{ArePlanted, PlantedEnd, planted_pipes, planted_verts, propagating}
use Rattle.cp_plant.proofs.NamedOrders.{by_name-permuted}
use Rattle.cp_plant.proofs.RowKinds.{all_behind, cells_of_planted, free_verts, names_of_planted, pipes_of_planted, planted-permuted}

-- new names are small where there are few names
small_names : (live names : List ℕ) → AreNew live names → length live < 2 ^ 60 → length names < 2 ^ 60
    → All (λ n. n < 2 ^ 63) names
small_names live names new few more =
    All-same (λ n. n < 2 ^ 63) names (new_names live (length names)) new
    (All-take (λ n. n < 2 ^ 63) (length names)
    (filter (λ k. not (has live k)) (range_with_len 0 (length live + length names)))
    (All-filter (λ k. not (has live k)) (λ n. n < 2 ^ 63)
    (range_with_len 0 (length live + length names))
    (λ k d lt. let within : k < length live + length names =
    omega (arith, lt, length-range_with_len 0 (length live + length names)) in
    omega (arith, within, few, more, get_or-range_with_len 0 (length live + length names) k d within))))

-- a vertex has at most one cell
cells_few : (vs : List Vert) → length (flat_map (λ v. cell_of v.kind) vs) ≤ length vs
cells_few [] = omega arith
cells_few (v ∷ vs) = omega (
  arith,
  cells_few vs,
  length-append (cell_of v.kind) (flat_map (λ v. cell_of v.kind) vs),
  one v.kind,
)
  where
    one : (k : Kind) → length (cell_of k) ≤ 1
    one P = omega arith
    one (Q cell psi) = omega arith

-- both ends of some pipes
abbrev ends_of_pipes : List Pipe → List ℕ
ends_of_pipes qs = flat_map (λ q. q.a ∷ q.b ∷ []) qs

-- two of each
ends_two : (qs : List Pipe) → length (ends_of_pipes qs) ≡ 2 * length qs
ends_two [] = refl
ends_two (q ∷ qs) = omega (arith, ends_two qs)

-- the ends of the pipes are live
ends_live : (vs : List Vert) (qs : List Pipe) → All (HasRightEnds vs) qs → (x : ℕ) → Has x (ends_of_pipes qs)
    → Has x (map (λ v. v.name) vs)
ends_live vs [] all x h = absurd h
ends_live vs (q ∷ qs) all x h =
    let r = All-head (HasRightEnds vs) q qs all in
    ⊎_elim
    (λ a. subst (λ y. Has y (map (λ v. v.name) vs)) a (named q.a r.free_a))
    (λ n. ⊎_elim
    (λ b. subst (λ y. Has y (map (λ v. v.name) vs)) b (named q.b r.free_b))
    (λ l. ends_live vs qs (All-tail (HasRightEnds vs) q qs all) x l)
    n)
    h
  where
    named : (y : ℕ) → kind_in vs y ≡ Some P → Has y (map (λ v. v.name) vs)
    named y k = (Has-Contains y (map (λ (v : Vert). v.name) vs)).1
        (map_has (λ (v : Vert). v.name) vs (free_vert y) (kind_free vs y k))

-- there are no more pipes than vertices
pipes_few : (i : Synchronized) → IsSynchronized i → length (pipe_names i) ≤ length (vert_names i)
pipes_few i is = omega (
  arith,
  subset_length (ends_of_pipes i.pipes) (vert_names i) is.ends_apart (ends_live i.verts i.pipes is.ends_free),
  ends_two i.pipes,
  length-map i.pipes (λ (q : Pipe). q.name),
)

-- rows that a test keeps are not more
kept_few : (t : Planted → Bool) (rows : List Planted) → length (filter t rows) ≤ length rows
kept_few t [] = omega arith
kept_few t (r ∷ rows) = by_test (t r) (kept_few t rows)
  where
    by_test : (b : Bool) → length (filter t rows) ≤ length rows
        → length (cond b (r ∷ filter t rows) (filter t rows)) ≤ suc (length rows)
    by_test true h = omega (arith, h)
    by_test false h = omega (arith, h)

-- names that were seen are dropped
all_seen : (seen ds : List ℕ) → ((x : ℕ) → Has x ds → Has x seen) → first_ones seen ds ≡ []
all_seen seen [] h = refl
all_seen seen (d ∷ ds) h = rw (has-true seen d (h d (inl refl))) (all_seen seen ds (λ x k. h x (inr k)))

-- new names, and then some that were seen
seen_after : (seen cs ds : List ℕ) → Distinct cs → ((x : ℕ) → Has x cs → Lacks x seen)
    → ((x : ℕ) → Has x ds → Has x cs ⊎ Has x seen) → first_ones seen (cs ++ ds) ≡ cs
seen_after seen [] ds once new old = all_seen seen ds (λ x h. ⊎_elim (λ none. absurd none) (λ k. k) (old x h))
seen_after seen (c ∷ cs) ds once new old = rw (has-false seen c (new c (inl refl)))
    (ap (λ zs. c ∷ zs) (seen_after (c ∷ seen) cs ds once.1
    (λ x h. ((λ e. has_lacks x cs h (subst (λ y. Lacks y cs) e once.0)), new x (inr h)))
    (λ x h. ⊎_elim
    (λ k. ⊎_elim (λ e. inr (inl e)) (λ l. inl l) k)
    (λ k. inr (inr k))
    (old x h))))

-- vertices of other names are kept
kept_verts : (dropped : List ℕ) (vs : List Vert) → ((x : ℕ) → Has x (names_of_verts vs) → Lacks x dropped)
    → filter (λ v. not (has dropped v.name)) vs ≡ vs
kept_verts dropped [] h = refl
kept_verts dropped (v ∷ vs) h = rw (has-false dropped v.name (h v.name (inl refl)))
    (ap (λ zs. v ∷ zs) (kept_verts dropped vs (λ x k. h x (inr k))))

-- the names of the edges between nodes
names_of_tree : (rows : List Planted) (es : List ℕ) → names_of_edges (tree_edges rows es) ≡ es
names_of_tree rows [] = refl
names_of_tree rows (e ∷ es) = ap (λ zs. e ∷ zs) (names_of_tree rows es)

-- the names of pipes of nodes
names_of_nodes : (names : List ℕ) (hs bs : List Planted) → length names ≡ length hs → length bs ≡ length hs
    → map (λ q. q.name) (node_pipes names hs bs) ≡ names
names_of_nodes [] hs bs e d = refl
names_of_nodes (n ∷ names) [] bs e d = absurd (omega (arith, e))
names_of_nodes (n ∷ names) (a ∷ hs) [] e d = absurd (omega (arith, d))
names_of_nodes (n ∷ names) (a ∷ hs) (b ∷ bs) e d =
    ap (λ zs. n ∷ zs) (names_of_nodes names hs bs (omega (arith, e)) (omega (arith, d)))

-- four lists, where the two in the middle change places
middle : {A : Type 0} (ws xs ys zs : List A) → IsPermutation ((ws ++ xs) ++ (ys ++ zs)) ((ws ++ ys) ++ (xs ++ zs))
middle ws xs ys zs =
    let inner : IsPermutation (xs ++ (ys ++ zs)) (ys ++ (xs ++ zs)) =
    subst (IsPermutation (xs ++ (ys ++ zs))) (append_assoc ys xs zs)
    (subst (λ us. IsPermutation us ((ys ++ xs) ++ zs)) (append_assoc xs ys zs)
    (IsPermutation-append_left zs (xs ++ ys) (ys ++ xs) (IsPermutation-append_comm xs ys))) in
    subst (λ us. IsPermutation us ((ws ++ ys) ++ (xs ++ zs))) (sym (append_assoc ws xs (ys ++ zs)))
    (subst (IsPermutation (ws ++ (xs ++ (ys ++ zs)))) (sym (append_assoc ws ys (xs ++ zs)))
    (IsPermutation-append_right ws (xs ++ (ys ++ zs)) (ys ++ (xs ++ zs)) inner))

module _ (i : Synchronized) (is : IsSynchronized i) (p : Pipe) (live : pipe_named i p.name ≡ Some p) (end : ℕ)
    (shape : Shape) (fits : IsFitting i p end shape) (u w : PlantedEnd) (h : ArePlanted i p end shape u w)
    (tints names : List ℕ) (one_cell : length tints ≡ length (fixed_nodes u.rows)) (new_tints : AreNew (cells i) tints)
    (one_name : length names ≡ length (free_nodes u.rows)) (new_names : AreNew (pipe_names i) names) where
  -- what is planted at the end
  abbrev pub at_end : PlantedEnd
  at_end = record { end = end; own = edges_of i end; rows = u.rows; edges = u.edges }

  -- and at the other
  abbrev pub at_other : PlantedEnd
  at_other = record { end = opposite p end; own = edges_of i (opposite p end); rows = w.rows; edges = w.edges }

  -- the rewrite
  abbrev pub rewrite : Rewrite
  rewrite = propagating p.name at_end at_other tints names

  -- where the ends of edges move
  abbrev pub to : ℕ → ℕ → ℕ
  to e v = cond (eqb v end) (holder u.rows e) (cond (eqb v (opposite p end)) (holder w.rows e) v)

  -- what the step makes
  abbrev pub made : Synchronized
  made = record {
    verts = verts_by_name (other_verts i (end ∷ opposite p end ∷ [])
        ++ map (λ r. free_vert r.vertex) (free_nodes u.rows ++ free_nodes w.rows)
        ++ fixed_verts (λ es. es) tints (fixed_nodes u.rows)
        ++ fixed_verts reverse tints (fixed_nodes w.rows));
    edges = edges_by_name (moved_edges i to ++ tree_edges u.rows u.edges ++ tree_edges w.rows w.edges);
    pipes = pipes_by_name (other_pipes i (p.name ∷ []) ++ node_pipes names (free_nodes u.rows) (free_nodes w.rows));
  }

  -- the step makes it
  abbrev pub prop : IsPropagated i p end shape made
  prop = record {
    at_u = h.at_u;
    at_w = h.at_w;
    new_verts = h.new_verts;
    edges_u = u.edges;
    edges_w = w.edges;
    new_edges = h.new_edges;
    rows_u = u.rows;
    rows_w = w.rows;
    planted_u = h.planted_u;
    planted_w = h.planted_w;
    new_cells = tints;
    one_cell_each = one_cell;
    are_cells = new_tints;
    names = names;
    one_name_each = one_name;
    new_pipes = new_names;
    verts = refl;
    edges = refl;
    pipes = refl;
  }

  -- the pipe is one of the instance
  pub here : Contains i.pipes p
  here = found-Contains (λ q. eqb q.name p.name) i.pipes p live

  -- as many rows as vertices
  rows_size : length h.at_u ≡ length u.rows
  rows_size = (planted_sizes (λ x. x) shape.body shape.root h.at_u (shape.root ∷ u.edges) u.rows h.planted_u).0

  -- the rules hold after the step
  pub rules_after : length (vert_names i) < 2 ^ 60 → length (edge_names i) < 2 ^ 60 → IsSynchronized made
  rules_after few_verts few_edges =
      IsSynchronized-propagated i made is p here end fits.end shape fits.leaves prop (record {
        verts = small_names (vert_names i) (h.at_u ++ h.at_w) h.new_verts few_verts h.few_new_verts;
        edges = small_names (edge_names i) (u.edges ++ w.edges) h.new_edges few_edges h.few_new_edges;
        pipes = small_names (pipe_names i) names new_names (omega (arith, pipes_few i is, few_verts))
            (omega (
              arith,
              one_name,
              kept_few (λ r. not r.fixed) u.rows,
              rows_size,
              length-append h.at_u h.at_w,
              h.few_new_verts,
            ));
        cells = small_names (cells i) tints new_tints
            (omega (arith, cells_few i.verts, length-map i.verts (λ (v : Vert). v.name), few_verts))
            (omega (
              arith,
              one_cell,
              kept_few (λ r. r.fixed) u.rows,
              rows_size,
              length-append h.at_u h.at_w,
              h.few_new_verts,
            ));
      })

  -- as many Q-nodes at the other end
  other_cells : length tints ≡ length (fixed_nodes w.rows)
  other_cells = one_cell ∙ sym (fixed_count i made p end shape prop)

  -- as many P-nodes
  free_count : length (free_nodes w.rows) ≡ length (free_nodes u.rows)
  free_count = sym (zip_length HaveOneForm (free_nodes u.rows) (free_nodes w.rows) (free_forms i made p end shape prop))

  -- the new vertices
  abbrev added_u : List Vert
  added_u = planted_verts false tints 0 u.rows

  -- and those at the other end
  abbrev added_w : List Vert
  added_w = planted_verts true tints 0 w.rows

  -- their names by rows
  row_names : names_of_verts (added_u ++ added_w) ≡ row_verts u.rows ++ row_verts w.rows
  row_names =
      map-append (λ (v : Vert). v.name) added_u added_w
      ∙ ap₂ (λ (xs ys : List ℕ). xs ++ ys) (names_of_planted false tints 0 u.rows) (names_of_planted true tints 0 w.rows)

  -- their names
  pub names_added : names_of_verts (added_u ++ added_w) ≡ h.at_u ++ h.at_w
  names_added =
      row_names
      ∙ ap₂ (λ (xs ys : List ℕ). xs ++ ys)
      (verts_u i made is p here end fits.end shape fits.leaves prop)
      (verts_w i made is p here end fits.end shape fits.leaves prop)

  -- none is one of the ends
  added_apart : (x : ℕ) → Has x (names_of_verts (added_u ++ added_w)) → Lacks x (end ∷ opposite p end ∷ [])
  added_apart x k =
      let new : Has x (h.at_u ++ h.at_w) = subst (Has x) names_added k in
      let other : (y : ℕ) → Contains (vert_names i) y → y ≢ x =
      λ y c e. fresh_other (vert_names i) (h.at_u ++ h.at_w) x y h.new_verts new ((Has-Contains y (vert_names i)).1 c) (sym e) in (
        other end (live_u i made is p here end fits.end shape fits.leaves prop),
        (other (opposite p end) (live_w i made is p here end fits.end shape fits.leaves prop), tt),
      )

  -- the new vertices in another order
  added_permuted : IsPermutation (added_u ++ added_w) (new_free i made p end shape prop ++ new_fixed i made p end shape prop)
  added_permuted =
      let fu : List Vert = free_verts (free_nodes u.rows) in
      let fw : List Vert = free_verts (free_nodes w.rows) in
      let qu : List Vert = fixed_verts (λ es. es) tints (fixed_nodes u.rows) in
      let qw : List Vert = fixed_verts reverse tints (fixed_nodes w.rows) in
      let both : IsPermutation (added_u ++ added_w) ((fu ++ qu) ++ (fw ++ qw)) =
      IsPermutation-append added_u (fu ++ qu) added_w (fw ++ qw)
      (planted-permuted false tints 0 u.rows tints (all_behind tints) one_cell)
      (planted-permuted true tints 0 w.rows tints (all_behind tints) other_cells) in
      subst (λ zs. IsPermutation (added_u ++ added_w) (zs ++ (qu ++ qw)))
      (sym (map-append (λ (r : Planted). free_vert r.vertex) (free_nodes u.rows) (free_nodes w.rows)))
      (IsPermutation-trans (added_u ++ added_w) ((fu ++ qu) ++ (fw ++ qw)) ((fu ++ fw) ++ (qu ++ qw)) both
      (middle fu qu fw qw))

  -- the vertices after the rewrite
  same_verts : (rewritten rewrite i).verts ≡ made.verts
  same_verts =
      let olds : List Vert = old_verts i made p end shape prop in
      let keeps : Vert → Bool = λ v. not (has (end ∷ opposite p end ∷ []) v.name) in
      ap verts_by_name
      (map-id (filter keeps (i.verts ++ (added_u ++ added_w)))
      ∙ filter-append keeps i.verts (added_u ++ added_w)
      ∙ ap (λ vs. olds ++ vs) (kept_verts (end ∷ opposite p end ∷ []) (added_u ++ added_w) added_apart))
      ∙ by_name-permuted (λ (v : Vert). v.name) (olds ++ (added_u ++ added_w)) (all_verts i made p end shape prop)
      (IsPermutation-append_right olds (added_u ++ added_w)
      (new_free i made p end shape prop ++ new_fixed i made p end shape prop) added_permuted)
      (subst Distinct (sym (map-append (λ (v : Vert). v.name) olds (added_u ++ added_w)
      ∙ ap (λ zs. map (λ (v : Vert). v.name) olds ++ zs) row_names))
      (names_once i made is p here end fits.end shape fits.leaves prop))
      ∙ sym (verts_ordered i made p end shape prop)

  -- the new pipes
  pipes_added : planted_pipes names 0 (zip u.rows w.rows) ≡ node_pipes names (free_nodes u.rows) (free_nodes w.rows)
  pipes_added = pipes_of_planted names 0 u.rows w.rows names (all_behind names) one_name (forms i made p end shape prop)

  -- the new cells
  cells_told : first_ones (cells i) (flat_map (λ v. cell_of v.kind) ((added_u ++ added_w) ++ [])) ≡ tints
  cells_told =
      ap (first_ones (cells i))
      (ap (flat_map (λ v. cell_of v.kind)) (append-nil (added_u ++ added_w))
      ∙ flat_map-append (λ (v : Vert). cell_of v.kind) added_u added_w
      ∙ ap₂ (λ (xs ys : List ℕ). xs ++ ys)
      (cells_of_planted false tints 0 u.rows tints (all_behind tints) one_cell)
      (cells_of_planted true tints 0 w.rows tints (all_behind tints) other_cells))
      ∙ seen_after (cells i) tints tints (fresh_once (cells i) tints new_tints)
      (λ x k. Lacks-from x (cells i) (λ l. fresh_other (cells i) tints x x new_tints k l refl))
      (λ x k. inl k)

  -- where the moves are right ones
  module _ (moves_fit : AreMoves (verts_with rewrite i) i.edges rewrite.moves)
      (moved_all : after_moves rewrite.moves i.edges ≡ moved_edges i to)
      (few_verts : length (vert_names i) < 2 ^ 60) (few_edges : length (edge_names i) < 2 ^ 60) where
    -- the instance after the rewrite
    pub rewritten_is : rewritten rewrite i ≡ made
    rewritten_is =
        ap (λ z. record { verts = z; edges = (rewritten rewrite i).edges; pipes = (rewritten rewrite i).pipes }) same_verts
        ∙ ap (λ z. record { verts = made.verts; edges = z; pipes = (rewritten rewrite i).pipes }) same_edges
        ∙ ap (λ z. record { verts = made.verts; edges = made.edges; pipes = z }) same_pipes
      where
        same_edges : (rewritten rewrite i).edges ≡ made.edges
        same_edges = ap edges_by_name
            (ap (λ xs. xs ++ (tree_edges u.rows u.edges ++ tree_edges w.rows w.edges)) moved_all
            ∙ sym (append_assoc (moved_edges i to) (tree_edges u.rows u.edges) (tree_edges w.rows w.edges)))

        same_pipes : (rewritten rewrite i).pipes ≡ made.pipes
        same_pipes = ap (λ qs. pipes_by_name (other_pipes i (p.name ∷ []) ++ qs)) pipes_added

    -- the rewrite fits the instance
    propagating_fits : IsRewriteOf i rewrite
    propagating_fits = record {
      pipes_live = All-cons (Contains (pipe_names i)) p.name [] (map_has (λ (q : Pipe). q.name) i.pipes p here)
          (All-nil (Contains (pipe_names i)));
      pipes_once = (tt, tt);
      verts_live = All-cons (Contains (vert_names i)) end (opposite p end ∷ [])
          (live_u i made is p here end fits.end shape fits.leaves prop)
          (All-cons (Contains (vert_names i)) (opposite p end) []
          (live_w i made is p here end fits.end shape fits.leaves prop) (All-nil (Contains (vert_names i))));
      verts_once = (((λ e. u_not_w i made is p here end fits.end shape fits.leaves prop (sym e)), tt), (tt, tt));
      moves = moves_fit;
      kinds_live = All-nil (λ v. Contains (verts_with rewrite i) v.name
          × (Contains (end ∷ opposite p end ∷ []) v.name → ⊥));
      kinds_once = tt;
      rules = subst IsSynchronized (sym rewritten_is) (rules_after few_verts few_edges);
      new_verts = subst (AreNew (vert_names i)) (sym names_added) h.new_verts;
      new_edges = subst (AreNew (edge_names i))
          (sym (map-append (λ (e : EdgeRow). e.name) (tree_edges u.rows u.edges) (tree_edges w.rows w.edges)
          ∙ ap₂ (λ (xs ys : List ℕ). xs ++ ys) (names_of_tree u.rows u.edges) (names_of_tree w.rows w.edges)))
          h.new_edges;
      new_pipes = subst (AreNew (pipe_names i))
          (sym (ap (map (λ (q : Pipe). q.name)) pipes_added
          ∙ names_of_nodes names (free_nodes u.rows) (free_nodes w.rows) one_name free_count))
          new_names;
      new_cells = subst (AreNew (cells i)) (sym cells_told) new_tints;
    }

    -- so it performs the step
    pub Performs-propagating : Performs i (Propagate p.name end shape) rewrite
    Performs-propagating =
        (propagating_fits, (p, live, subst (IsPropagated i p end shape) (sym rewritten_is) prop))
