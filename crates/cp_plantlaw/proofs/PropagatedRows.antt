-- What Propagate makes of an instance: the vertices, edges and pipes that stand for the planted rows.
use Rattle.std.proofs.Common.{◌≡◌, ℕ, Bool, true, false, not, cond, eqb, List, [], ◌∷◌, ◌++◌, append_assoc, length, map, reverse, sym, refl, ap, ap₂, ◌∙◌, subst, inl, inr, ⊎_elim, arith, IsPermutation}
use Rattle.std.specs.List.{All, AllZip, flat_map}
use Rattle.std.proofs.lemmas.List.{map-append}
use Rattle.std.proofs.lemmas.List.Sorted.{All-permutation, IsPermutation-append, IsPermutation-append_comm, IsPermutation-append_left, IsPermutation-append_right, IsPermutation-filter_both, IsPermutation-map, IsPermutation-sym, IsPermutation-trans}
use Rattle.cp_lists.specs.CyclicLists.{Has}
use Rattle.cp_lists.specs.Rows.{flat}
use Rattle.cp_lists.proofs.DistinctLists.{Has-append_cases, Has-append_left, Has-append_right}
use Rattle.cp_base.specs.declared.shape.Branch.{Branch}
use Rattle.cp_base.specs.declared.shape.Shape.{Shape}
use Rattle.cp_base.specs.Shapes.{leaves}
use Rattle.cp_board.specs.declared.parts.EdgeRow.{EdgeRow}
use Rattle.cp_board.specs.declared.parts.Pipe.{Pipe}
use Rattle.cp_board.specs.declared.parts.Vert.{Vert}
use Rattle.cp_board.specs.Changes.{free_vert, moved_edges, other_pipes, other_verts}
use Rattle.cp_board.specs.Instances.{Synchronized, edges_of, vert_names}
use Rattle.cp_board.specs.Names.{by_name}
use Rattle.cp_board.specs.Plantings.{Planted, Plants, PlantsAll, fixed_nodes, free_nodes, holder, tree_edges}
use Rattle.cp_board.specs.Propagations.{IsPropagated, fixed_verts, node_pipes}
use Rattle.cp_board.specs.Steps.{opposite, partner}
use Rattle.cp_board.proofs.NamedLists.{by_name_keeps}
use Rattle.cp_board.proofs.Rules.{All-first, All-second}
use Rattle.cp_board.proofs.ShapeEquations.{leaves_Leaf, leaves_P, leaves_Q}
use Rattle.cp_plantlaw.proofs.RowPairs.{each_pipe, each_vert, node_pipe, node_vert, zip_both, zip_from_kept, zip_kept, zip_then}
use Rattle.cp_plantlaw.proofs.ToldTrees.{HaveOneForm, planted-HaveOneForm, zip_length}

-- all edges of some planted rows
abbrev pub row_edges : List Planted → List ℕ
row_edges rows = flat (map (λ r. r.edges) rows)

-- edges of rows one behind the other
row_edges-append : (hs bs : List Planted) → row_edges (hs ++ bs) ≡ row_edges hs ++ row_edges bs
row_edges-append [] bs = refl
row_edges-append (a ∷ hs) bs =
    ap (λ zs. a.edges ++ zs) (row_edges-append hs bs) ∙ sym (append_assoc a.edges (row_edges hs) (row_edges bs))

-- the vertices of some planted rows
abbrev pub row_verts : List Planted → List ℕ
row_verts rows = map (λ r. r.vertex) rows

-- each leaf is an edge of a planted row, or the whole branch
mutual
  pub leaf_held : (f : ℕ → ℕ) (b : Branch) (top : ℕ) (vs es : List ℕ) (rows : List Planted) (x : ℕ)
      → Plants f b top vs es rows → Has x (leaves b) → Has (f x) (top ∷ row_edges rows)
  leaf_held f _ _ _ _ _ x (Plants.leaf y) h =
      ⊎_elim (λ e. inl (ap f e)) (λ none. absurd none) (subst (Has x) (leaves_Leaf y) h)
  leaf_held f _ _ _ _ _ x (Plants.free kids top v tops vs es rows all) h =
      inr (inr (leaves_held f kids tops vs es rows x all (subst (Has x) (leaves_P kids) h)))
  leaf_held f _ _ _ _ _ x (Plants.fixed kids top v tops vs es rows all) h =
      inr (inr (leaves_held f kids tops vs es rows x all (subst (Has x) (leaves_Q kids) h)))

  -- the same of the kids of a node
  leaves_held : (f : ℕ → ℕ) (kids : List Branch) (tops vs es : List ℕ) (rows : List Planted) (x : ℕ)
      → PlantsAll f kids tops vs es rows → Has x (flat_map leaves kids) → Has (f x) (tops ++ row_edges rows)
  leaves_held f _ _ _ _ _ x PlantsAll.none h = absurd h
  leaves_held f _ _ _ _ _ x (PlantsAll.more k ks top tops us vs ds es rows more_rows one rest) h =
      let joined : row_edges (rows ++ more_rows)
      ≡ row_edges rows ++ row_edges more_rows = row_edges-append rows more_rows in
      subst (λ zs. Has (f x) ((top ∷ tops) ++ zs)) (sym joined)
      (⊎_elim
      (λ l. ⊎_elim
      (λ e. inl e)
      (λ g. inr (Has-append_right (f x) tops (row_edges rows ++ row_edges more_rows)
      (Has-append_left (f x) (row_edges rows) (row_edges more_rows) g)))
      (leaf_held f k top us ds rows x one l))
      (λ l. inr (⊎_elim
      (λ g. Has-append_left (f x) tops (row_edges rows ++ row_edges more_rows) g)
      (λ g. Has-append_right (f x) tops (row_edges rows ++ row_edges more_rows)
      (Has-append_right (f x) (row_edges rows) (row_edges more_rows) g))
      (Has-append_cases (f x) tops (row_edges more_rows) (leaves_held f ks tops vs es more_rows x rest l))))
      (Has-append_cases x (leaves k) (flat_map leaves ks) h))

-- the vertices of P-nodes and of Q-nodes are those of all nodes
kinds_together : (rows : List Planted)
    → IsPermutation (row_verts (free_nodes rows) ++ row_verts (fixed_nodes rows)) (row_verts rows)
kinds_together rows =
    IsPermutation-sym (row_verts rows) (row_verts (free_nodes rows) ++ row_verts (fixed_nodes rows))
    (subst (IsPermutation (row_verts rows)) (map-append (λ (r : Planted). r.vertex) (free_nodes rows)
    (fixed_nodes rows))
    (IsPermutation-map (λ r. r.vertex) rows (free_nodes rows ++ fixed_nodes rows)
    (IsPermutation-filter_both (λ r. not r.fixed) (λ r. r.fixed) (λ r. twice r.fixed) rows)))
  where
    twice : (b : Bool) → b ≡ not (not b)
    twice true = refl
    twice false = refl

-- the names of the Q-vertices are the vertices of the Q-nodes
fixed_names : (direction : List ℕ → List ℕ) (cells : List ℕ) (hs : List Planted) → length cells ≡ length hs
    → map (λ v. v.name) (fixed_verts direction cells hs) ≡ row_verts hs
fixed_names direction [] [] e = refl
fixed_names direction [] (a ∷ hs) e = absurd (omega (arith, e))
fixed_names direction (c ∷ cells) [] e = refl
fixed_names direction (c ∷ cells) (a ∷ hs) e = ap (λ zs. a.vertex ∷ zs)
    (fixed_names direction cells hs (omega (arith, e)))

-- the names of P-vertices
free_names : (hs : List Planted) → map (λ v. v.name) (map (λ r. free_vert r.vertex) hs) ≡ row_verts hs
free_names [] = refl
free_names (a ∷ hs) = ap (λ zs. a.vertex ∷ zs) (free_names hs)

-- an instance, and what Propagate makes of it
module _ (i j : Synchronized) (p : Pipe) (u : ℕ) (shape : Shape) (prop : IsPropagated i p u shape j) where
  -- the planted rows of both ends have one form
  pub forms : AllZip HaveOneForm prop.rows_u prop.rows_w
  forms = planted-HaveOneForm (λ x. x) (partner p u) shape.body shape.root prop.at_u (shape.root ∷ prop.edges_u)
      prop.rows_u (partner p u shape.root) prop.at_w (partner p u shape.root ∷ prop.edges_w) prop.rows_w
      prop.planted_u prop.planted_w

  -- as many are P-nodes
  pub free_forms : AllZip HaveOneForm (free_nodes prop.rows_u) (free_nodes prop.rows_w)
  free_forms = zip_kept (λ r. not r.fixed) HaveOneForm prop.rows_u prop.rows_w
      (zip_then HaveOneForm (λ a b. (not b.fixed ≡ not a.fixed) × (not a.fixed ≡ true → HaveOneForm a b))
      prop.rows_u prop.rows_w (λ a b h. (ap not h.0, λ t. h)) forms)

  -- as many are Q-nodes
  fixed_forms : AllZip HaveOneForm (fixed_nodes prop.rows_u) (fixed_nodes prop.rows_w)
  fixed_forms = zip_kept (λ r. r.fixed) HaveOneForm prop.rows_u prop.rows_w
      (zip_then HaveOneForm (λ a b. (b.fixed ≡ a.fixed) × (a.fixed ≡ true → HaveOneForm a b))
      prop.rows_u prop.rows_w (λ a b h. (h.0, λ t. h)) forms)

  -- both trees have as many P-nodes
  free_count : length (free_nodes prop.rows_w) ≡ length (free_nodes prop.rows_u)
  free_count = sym (zip_length HaveOneForm (free_nodes prop.rows_u) (free_nodes prop.rows_w) free_forms)

  -- both trees have as many Q-nodes
  pub fixed_count : length (fixed_nodes prop.rows_w) ≡ length (fixed_nodes prop.rows_u)
  fixed_count = sym (zip_length HaveOneForm (fixed_nodes prop.rows_u) (fixed_nodes prop.rows_w) fixed_forms)

  -- the vertices of j, not in the order of their names
  abbrev pub old_verts : List Vert
  old_verts = other_verts i (u ∷ opposite p u ∷ [])

  -- the new P-vertices
  abbrev pub new_free : List Vert
  new_free = map (λ r. free_vert r.vertex) (free_nodes prop.rows_u ++ free_nodes prop.rows_w)

  -- the new Q-vertices
  abbrev pub new_fixed : List Vert
  new_fixed = fixed_verts (λ es. es) prop.new_cells (fixed_nodes prop.rows_u)
      ++ fixed_verts reverse prop.new_cells (fixed_nodes prop.rows_w)

  -- all vertices of j
  abbrev pub all_verts : List Vert
  all_verts = old_verts ++ (new_free ++ new_fixed)

  -- in the order of their names, they are those of j
  pub verts_ordered : j.verts ≡ by_name (λ v. v.name) all_verts
  verts_ordered =
      let fu : List Vert = fixed_verts (λ es. es) prop.new_cells (fixed_nodes prop.rows_u) in
      let fw : List Vert = fixed_verts reverse prop.new_cells (fixed_nodes prop.rows_w) in
      prop.verts
      ∙ ap (by_name (λ v. v.name))
      (append_assoc (old_verts ++ new_free) fu fw ∙ append_assoc old_verts new_free (fu ++ fw))

  -- in any order they are those of j
  pub verts_keep : IsPermutation all_verts j.verts
  verts_keep = subst (IsPermutation all_verts) (sym verts_ordered) (by_name_keeps (λ v. v.name) all_verts)

  -- the pipes of j, not in the order of their names
  abbrev pub new_pipes : List Pipe
  new_pipes = node_pipes prop.names (free_nodes prop.rows_u) (free_nodes prop.rows_w)

  -- all pipes of j
  abbrev pub all_pipes : List Pipe
  all_pipes = other_pipes i (p.name ∷ []) ++ new_pipes

  -- are those of j
  pub pipes_keep : IsPermutation all_pipes j.pipes
  pipes_keep = subst (IsPermutation all_pipes) (sym prop.pipes) (by_name_keeps (λ q. q.name) all_pipes)

  -- where the end v of edge e moves
  abbrev pub place : ℕ → ℕ → ℕ
  place v e = cond (eqb v u) (holder prop.rows_u e) (cond (eqb v (opposite p u)) (holder prop.rows_w e) v)

  -- the edges of j, not in the order of their names
  abbrev pub new_edges : List EdgeRow
  new_edges = tree_edges prop.rows_u prop.edges_u ++ tree_edges prop.rows_w prop.edges_w

  -- all edges of j
  abbrev pub all_edges : List EdgeRow
  all_edges = moved_edges i (λ e v. place v e) ++ new_edges

  -- in the order of their names, they are those of j
  pub edges_ordered : j.edges ≡ by_name (λ e. e.name) all_edges
  edges_ordered =
      prop.edges
      ∙ ap (by_name (λ e. e.name)) (append_assoc (moved_edges i (λ e v. place v e))
      (tree_edges prop.rows_u prop.edges_u)
      (tree_edges prop.rows_w prop.edges_w))

  -- in any order they are those of j
  pub edges_keep : IsPermutation all_edges j.edges
  edges_keep = subst (IsPermutation all_edges) (sym edges_ordered) (by_name_keeps (λ e. e.name) all_edges)

  -- the names of the vertices of j: those that stay, and those of both trees
  pub verts_named : IsPermutation (map (λ v. v.name) old_verts ++ (row_verts prop.rows_u ++ row_verts prop.rows_w))
      (vert_names j)
  verts_named =
      let old : List ℕ = map (λ v. v.name) old_verts in
      let fu : List ℕ = row_verts (free_nodes prop.rows_u) in
      let fw : List ℕ = row_verts (free_nodes prop.rows_w) in
      let qu : List ℕ = row_verts (fixed_nodes prop.rows_u) in
      let qw : List ℕ = row_verts (fixed_nodes prop.rows_w) in
      let whole : map (λ (v : Vert). v.name) all_verts ≡ old ++ ((fu ++ fw) ++ (qu ++ qw)) =
      map-append (λ (v : Vert). v.name) old_verts (new_free ++ new_fixed)
      ∙ ap (λ zs. old ++ zs) (map-append (λ (v : Vert). v.name) new_free new_fixed
      ∙ ap₂ (λ (xs ys : List ℕ). xs ++ ys)
      (free_names (free_nodes prop.rows_u ++ free_nodes prop.rows_w)
      ∙ map-append (λ (r : Planted). r.vertex) (free_nodes prop.rows_u) (free_nodes prop.rows_w))
      (map-append (λ (v : Vert). v.name) (fixed_verts (λ es. es) prop.new_cells (fixed_nodes prop.rows_u))
      (fixed_verts reverse prop.new_cells (fixed_nodes prop.rows_w))
      ∙ ap₂ (λ (xs ys : List ℕ). xs ++ ys)
      (fixed_names (λ es. es) prop.new_cells (fixed_nodes prop.rows_u) prop.one_cell_each)
      (fixed_names reverse prop.new_cells (fixed_nodes prop.rows_w) (prop.one_cell_each ∙ sym fixed_count)))) in
      let named : IsPermutation (old ++ ((fu ++ fw) ++ (qu ++ qw))) (vert_names j) =
      subst (λ zs. IsPermutation zs (vert_names j)) whole (IsPermutation-map
      (λ v. v.name) all_verts j.verts verts_keep) in
      let both : IsPermutation (row_verts prop.rows_u ++ row_verts prop.rows_w) ((fu ++ qu) ++ (fw ++ qw)) =
      IsPermutation-append (row_verts prop.rows_u) (fu ++ qu) (row_verts prop.rows_w) (fw ++ qw)
      (IsPermutation-sym (fu ++ qu) (row_verts prop.rows_u) (kinds_together prop.rows_u))
      (IsPermutation-sym (fw ++ qw) (row_verts prop.rows_w) (kinds_together prop.rows_w)) in
      IsPermutation-trans (old ++ (row_verts prop.rows_u ++ row_verts prop.rows_w)) (old ++ ((fu ++ fw) ++ (qu ++ qw)))
      (vert_names j)
      (IsPermutation-append_right old (row_verts prop.rows_u ++ row_verts prop.rows_w) ((fu ++ fw) ++ (qu ++ qw))
      (IsPermutation-trans (row_verts prop.rows_u ++ row_verts prop.rows_w) ((fu ++ qu) ++ (fw ++ qw))
      ((fu ++ fw) ++ (qu ++ qw))
      both (middle fu qu fw qw))) named
    where
      middle : (ws xs ys zs : List ℕ) → IsPermutation ((ws ++ xs) ++ (ys ++ zs)) ((ws ++ ys) ++ (xs ++ zs))
      middle ws xs ys zs =
          let inner : IsPermutation (xs ++ (ys ++ zs)) (ys ++ (xs ++ zs)) =
          subst (IsPermutation (xs ++ (ys ++ zs))) (append_assoc ys xs zs)
          (subst (λ us. IsPermutation us ((ys ++ xs) ++ zs)) (append_assoc xs ys zs)
          (IsPermutation-append_left zs (xs ++ ys) (ys ++ xs) (IsPermutation-append_comm xs ys))) in
          subst (λ us. IsPermutation us ((ws ++ ys) ++ (xs ++ zs))) (sym (append_assoc ws xs (ys ++ zs)))
          (subst (IsPermutation (ws ++ (xs ++ (ys ++ zs)))) (sym (append_assoc ws ys (xs ++ zs)))
          (IsPermutation-append_right ws (xs ++ (ys ++ zs)) (ys ++ (xs ++ zs)) inner))

  -- what holds of all pipes and vertices of j, at each two rows of one place
  abbrev pub PairHas : (Pipe → Type 0) → (Vert → Type 0) → Planted → Planted → Type 0
  PairHas R S a b =
      (not a.fixed ≡ true → (n : ℕ) × R (node_pipe n a b))
      × (a.fixed ≡ true → (c : ℕ) × S (node_vert (λ es. es) c a) × S (node_vert reverse c b))

  -- so it holds at each two rows
  pub all_pairs : (R : Pipe → Type 0) (S : Vert → Type 0) → All R j.pipes → All S j.verts
      → AllZip (PairHas R S) prop.rows_u prop.rows_w
  all_pairs R S pipes verts =
      let ours : All R new_pipes = All-second R (other_pipes i (p.name ∷ [])) new_pipes
      (All-permutation R j.pipes all_pipes (IsPermutation-sym all_pipes j.pipes pipes_keep) pipes) in
      let new : All S new_fixed = All-second S new_free new_fixed (All-second S old_verts (new_free ++ new_fixed)
      (All-permutation S j.verts all_verts (IsPermutation-sym all_verts j.verts verts_keep) verts)) in
      let fu : List Vert = fixed_verts (λ es. es) prop.new_cells (fixed_nodes prop.rows_u) in
      let fw : List Vert = fixed_verts reverse prop.new_cells (fixed_nodes prop.rows_w) in
      zip_both (λ a b. not a.fixed ≡ true → (n : ℕ) × R (node_pipe n a b))
      (λ a b. a.fixed ≡ true → (c : ℕ) × S (node_vert (λ es. es) c a) × S (node_vert reverse c b))
      prop.rows_u prop.rows_w
      (zip_from_kept (λ r. not r.fixed) (λ a b. (n : ℕ) × R (node_pipe n a b)) prop.rows_u prop.rows_w
      (zip_then HaveOneForm (λ a b. not b.fixed ≡ not a.fixed) prop.rows_u prop.rows_w (λ a b h. ap not h.0) forms)
      (each_pipe R prop.names (free_nodes prop.rows_u) (free_nodes prop.rows_w) prop.one_name_each free_count ours))
      (zip_from_kept (λ r. r.fixed) (λ a b. (c : ℕ) × S (node_vert (λ es. es) c a) × S (node_vert reverse c b))
      prop.rows_u prop.rows_w
      (zip_then HaveOneForm (λ a b. b.fixed ≡ a.fixed) prop.rows_u prop.rows_w (λ a b h. h.0) forms)
      (each_vert S prop.new_cells (fixed_nodes prop.rows_u) (fixed_nodes prop.rows_w) prop.one_cell_each fixed_count
      (All-first S fu fw new) (All-second S fu fw new)))

  -- the edges of the vertices of two rows are those of the rows
  abbrev pub HaveEdges : Planted → Planted → Type 0
  HaveEdges a b = IsPermutation a.edges (edges_of j a.vertex) × IsPermutation b.edges (edges_of j b.vertex)
