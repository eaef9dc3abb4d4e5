-- The solution that is read back from one after Propagate.
use Rattle.std.proofs.Common.{◌≡◌, ◌≢◌, ℕ, suc, ◌+◌, ◌-◌, ◌≤◌, Bool, eqb, cond, List, [], ◌∷◌, ◌++◌, length, map, reverse, take, zip, sym, refl, ap, ap₂, ◌∙◌, subst, inl, inr, ⊎_elim, arith, length-append, IsPermutation}
use Rattle.std.specs.Prelude.{Some}
use Rattle.std.specs.List.{All, Contains, find}
use Rattle.std.specs.Option.{option_map_or}
use Rattle.std.proofs.lemmas.List.{reverse-append, reverse-reverse}
use Rattle.cp_lists.proofs.ReversedLists.{map-reverse}
use Rattle.std.specs.List.Sorted.{IsStrictlyIncreasing}
use Rattle.std.proofs.lemmas.Bool.{cases_Bool, cond-false, cond-true, eq-eqb, eqb-true, ne_eqb}
use Rattle.std.proofs.lemmas.List.{length-map}
use Rattle.std.proofs.lemmas.List.Sorted.{Contains-permutation, length_permutation}
use Rattle.cp_lists.specs.CyclicLists.{Distinct, Has}
use Rattle.cp_lists.specs.Turns.{IsTurn}
use Rattle.cp_lists.proofs.DistinctLists.{Has-Contains, Has-append_left, Has-append_right}
use Rattle.cp_lists.proofs.TurnedLists.{turn-refl}
use Rattle.cp_base.specs.declared.shape.Shape.{Shape}
use Rattle.cp_base.specs.Shapes.{leaves}
use Rattle.cp_board.specs.declared.parts.Pipe.{Pipe}
use Rattle.cp_board.specs.declared.steps.Step.TheVariants.{Propagate}
use Rattle.cp_board.specs.Effects.{After}
use Rattle.cp_board.specs.Instances.{IsSynchronized, Synchronized, edge_names, edges_of, pairs_of, pipe_ends_of, pipe_names, vert_names}
use Rattle.cp_board.specs.Names.{new_names}
use Rattle.cp_board.specs.Propagations.{IsPropagated}
use Rattle.cp_board.specs.Solutions.{IsSolution, list_in}
use Rattle.cp_board.specs.Steps.{Allowed, IsFitting, opposite, partner}
use Rattle.cp_board.proofs.PlantedRows.{planted_sizes}
use Rattle.cp_plantlaw.specs.NamedTrees.{Named, rows, word}
use Rattle.cp_plantlaw.proofs.FreshNames.{All-from_items, fresh_rising, rising-take}
use Rattle.cp_plantlaw.proofs.PropagateLaw.{told_tree, tops_are, tops_once}
use Rattle.cp_plantlaw.proofs.PropagateSteps.{fitting, live, propagate-IsSolution_before}
use Rattle.cp_plantlaw.proofs.PropagatedEnds.{edges_u-leaves, live_u, live_w, old, old_Has, u_not_w, verts_i, verts_u}
use Rattle.cp_plantlaw.proofs.PropagatedRows.{forms, row_verts, verts_named}
use Rattle.cp_plantlaw.proofs.ReadWords.{IsRead}
use Rattle.cp_plantlaw.specs.Readings.{ReadsBelow}
use Rattle.cp_plantlaw.proofs.ToldTrees.{HaveOneForm, zip_length}
use Rattle.cp_plant.specs.TreeWords.{partner_by, read_tree, with_ends}
use Rattle.cp_plant.proofs.EarlierRows.{list_of_row, rows_named}
use Rattle.cp_plant.proofs.RowNodes.{leaf_vertex, planted-heads, row_vertex}
use Rattle.cp_plant.proofs.TreeReadings.{read_root, size, size_is}

-- the first part of two lists
take_first : (xs ys : List ℕ) → take (length xs) (xs ++ ys) ≡ xs
take_first [] ys = refl
take_first (x ∷ xs) ys = ap (λ zs. x ∷ zs) (take_first xs ys)

-- a step that is allowed on an instance, what it makes of it, and a solution of that
module _ (i j : Synchronized) (is_i : IsSynchronized i) (is_j : IsSynchronized j) (pipe u : ℕ) (shape : Shape)
    (allowed : Allowed i (Propagate pipe u shape)) (after : After i (Propagate pipe u shape) j)
    (lists : List (ℕ × List ℕ)) (sol : IsSolution j lists) where
  -- the pipe
  abbrev pub q : Pipe
  q = after.0

  -- what the step makes
  abbrev pub prop : IsPropagated i q u shape j
  prop = after.2

  -- the pipe is one of the instance
  pub here : Contains i.pipes q
  here = live i j is_i is_j pipe u shape allowed after

  -- the step fits it
  pub fits : IsFitting i q u shape
  fits = fitting i j is_i is_j pipe u shape allowed after

  -- the number of inner nodes
  abbrev pub count : ℕ
  count = length prop.rows_u

  -- the pipe is live
  pub pipe-live : Contains (pipe_names i) pipe
  pipe-live = (Has-Contains pipe (pipe_names i)).0 (found_name i.pipes after.1)
    where
      found_name : (qs : List Pipe) → find (λ x. eqb x.name pipe) qs ≡ Some q → Has pipe (map (λ x. x.name) qs)
      found_name [] e = absurd cc
      found_name (r ∷ qs) e = ⊎_elim
          (λ b. inl (eqb-true r.name pipe b))
          (λ b. inr (found_name qs (sym (cond-false (eqb r.name pipe) (Some r) (find (λ x. eqb x.name pipe) qs) b) ∙ e)))
          (cases_Bool (eqb r.name pipe))

  -- the end is live
  pub end-live : Contains (vert_names i) u
  end-live = live_u i j is_i q here u fits.end shape fits.leaves prop

  -- as many vertices as inner nodes at the first end, and one edge less
  sizes : (length prop.at_u ≡ count) × (suc (length prop.edges_u) ≡ count)
  sizes = planted_sizes (λ x. x) shape.body shape.root prop.at_u (shape.root ∷ prop.edges_u) prop.rows_u prop.planted_u

  -- as many at the other end
  others : length prop.rows_w ≡ count
  others = sym (zip_length HaveOneForm prop.rows_u prop.rows_w (forms i j q u shape prop))

  -- and so many edges
  other_sizes : (length prop.at_w ≡ count) × (suc (length prop.edges_w) ≡ count)
  other_sizes =
      let two = planted_sizes (partner q u) shape.body (partner q u shape.root) prop.at_w
      (partner q u shape.root ∷ prop.edges_w) prop.rows_w prop.planted_w in
      (two.0 ∙ others, two.1 ∙ others)

  -- there is some inner node
  pub count-some : 1 ≤ count
  count-some = let s = sizes.1 in omega (arith, s)

  -- the vertices before the step are those that stay and two
  pub earlier-size : length (vert_names i) ≡ length (old i j is_i q here u fits.end shape fits.leaves prop) + 2
  earlier-size =
      let o = old i j is_i q here u fits.end shape fits.leaves prop in
      let n = length_permutation (vert_names i) (opposite q u ∷ u ∷ o)
      (verts_i i j is_i q here u fits.end shape fits.leaves prop) in
      omega (arith, n)

  -- the names of the lists
  all_names : IsPermutation (old i j is_i q here u fits.end shape fits.leaves prop
      ++ (row_verts prop.rows_u ++ row_verts prop.rows_w)) (map (λ x. x.0) lists)
  all_names = subst (IsPermutation (old i j is_i q here u fits.end shape fits.leaves prop
      ++ (row_verts prop.rows_u ++ row_verts prop.rows_w))) (sym sol.names) (verts_named i j q u shape prop)

  -- the lists are those of the vertices that stay and of two trees
  pub later-size : length lists ≡ length (old i j is_i q here u fits.end shape fits.leaves prop) + (count + count)
  later-size =
      let o = old i j is_i q here u fits.end shape fits.leaves prop in
      let us = row_verts prop.rows_u in let ws = row_verts prop.rows_w in
      let n = length_permutation (o ++ (us ++ ws)) (map (λ x. x.0) lists) all_names in
      let a = length-map lists (λ (x : ℕ × List ℕ). x.0) in
      let b = length-append o (us ++ ws) in
      let c = length-append us ws in
      let d = length-map prop.rows_u (λ r. r.vertex) in
      let e = length-map prop.rows_w (λ r. r.vertex) in
      let f = others in
      omega (arith, n, a, b, c, d, e, f)

  -- the first names for edges are the edges from above of the first tree but its root
  pub tops-are : take (count - 1) (new_names (edge_names i) ((count - 1) + (count - 1))) ≡ prop.edges_u
  tops-are =
      let one = sizes.1 in let two = other_sizes.1 in
      let both = length-append prop.edges_u prop.edges_w in
      let all : length (prop.edges_u ++ prop.edges_w) ≡ (count - 1) + (count - 1) = omega (arith, one, two, both) in
      let few : count - 1 ≡ length prop.edges_u = omega (arith, one) in
      ap (λ n. take (count - 1) (new_names (edge_names i) n)) (sym all)
      ∙ ap (take (count - 1)) (sym prop.new_edges)
      ∙ ap (λ n. take n (prop.edges_u ++ prop.edges_w)) few
      ∙ take_first prop.edges_u prop.edges_w

  -- the first names for vertices are those of the first tree
  pub nodes-are : take count (new_names (vert_names i) (count + count)) ≡ prop.at_u
  nodes-are =
      let one = sizes.0 in let two = other_sizes.0 in
      let both = length-append prop.at_u prop.at_w in
      let all : length (prop.at_u ++ prop.at_w) ≡ count + count = omega (arith, one, two, both) in
      ap (λ n. take count (new_names (vert_names i) n)) (sym all)
      ∙ ap (take count) (sym prop.new_verts)
      ∙ ap (λ n. take n (prop.at_u ++ prop.at_w)) (sym one)
      ∙ take_first prop.at_u prop.at_w

  -- they rise
  pub tops-rise : IsStrictlyIncreasing prop.edges_u
  tops-rise =
      subst IsStrictlyIncreasing (take_first prop.edges_u prop.edges_w)
      (rising-take (length prop.edges_u) (prop.edges_u ++ prop.edges_w)
      (fresh_rising (edge_names i) (prop.edges_u ++ prop.edges_w) prop.new_edges))

  -- one vertex for each edge from above
  pub nodes-each : length prop.at_u ≡ length prop.edges_u + 1
  nodes-each = let one = sizes in omega (arith, one.0, one.1)

  -- the vertices of the first tree have lists
  pub node-Contains : (v : ℕ) → Has v prop.at_u → Contains (map (λ x. x.0) lists) v
  node-Contains v h =
      let o = old i j is_i q here u fits.end shape fits.leaves prop in
      let us = row_verts prop.rows_u in let ws = row_verts prop.rows_w in
      let at : Has v us = subst (Has v) (sym (verts_u i j is_i q here u fits.end shape fits.leaves prop)) h in
      Contains-permutation (o ++ (us ++ ws)) (map (λ x. x.0) lists) v all_names
      ((Has-Contains v (o ++ (us ++ ws))).0 (Has-append_right v o (us ++ ws) (Has-append_left v us ws at)))

  -- so have the vertices that stay
  pub stay-Contains : (v : ℕ) → Contains (vert_names i) v → v ≢ u → v ≢ opposite q u → Contains (map (λ x. x.0) lists) v
  stay-Contains v c nu nw =
      let o = old i j is_i q here u fits.end shape fits.leaves prop in
      let us = row_verts prop.rows_u in let ws = row_verts prop.rows_w in
      Contains-permutation (o ++ (us ++ ws)) (map (λ x. x.0) lists) v all_names
      ((Has-Contains v (o ++ (us ++ ws))).0
      (Has-append_left v o (us ++ ws) (old_Has i j is_i q here u fits.end shape fits.leaves prop v c nu nw)))

  -- the same of all vertices of the first tree
  pub nodes-All : All (Contains (map (λ row. row.0) lists)) prop.at_u
  nodes-All = All-from_items (Contains (map (λ (row : ℕ × List ℕ). row.0) lists)) prop.at_u
      (λ v c. node-Contains v ((Has-Contains v prop.at_u).1 c))

  -- and of all vertices before the step but the two ends
  pub stay-All : (w : ℕ) → w ≡ opposite q u
      → All (λ v. v ≢ u → v ≢ w → Contains (map (λ row. row.0) lists) v) (vert_names i)
  stay-All w e = All-from_items (λ v. v ≢ u → v ≢ w → Contains (map (λ (row : ℕ × List ℕ). row.0) lists) v) (vert_names i)
      (λ v c nu nw. stay-Contains v c nu (λ f. nw (f ∙ sym e)))

  -- the other end, by the two ends of the pipe
  pub other-is : (ends : ℕ × ℕ) (other : ℕ) → ends ≡ pipe_ends_of i pipe → other ≡ cond (eqb ends.0 u) ends.1 ends.0
      → other ≡ opposite q u
  other-is ends other e is =
      let same : ends ≡ (q.a, q.b) = e ∙ ap (λ o. option_map_or (λ (x : Pipe). (x.a, x.b)) o (0, 0)) after.1 in
      is ∙ ap (λ (x : ℕ × ℕ). cond (eqb x.0 u) x.1 x.0) same

  -- the partners, by its pairs and its first end
  pub partners-are : (ends : ℕ × ℕ) (pairs : List (ℕ × ℕ)) (first : Bool) (xs : List ℕ) → ends ≡ pipe_ends_of i pipe
      → pairs ≡ pairs_of i pipe → first ≡ eqb ends.0 u → map (partner_by pairs first) xs ≡ map (partner q u) xs
  partners-are ends pairs first xs e pairs_is first_is =
      let same : ends ≡ (q.a, q.b) = e ∙ ap (λ o. option_map_or (λ (x : Pipe). (x.a, x.b)) o (0, 0)) after.1 in
      let own : pairs ≡ q.pairs = pairs_is ∙ ap (λ o. option_map_or (λ (x : Pipe). x.pairs) o []) after.1 in
      let side : first ≡ eqb q.a u = first_is ∙ ap (λ (x : ℕ × ℕ). eqb x.0 u) same in
      ap (λ ps. map (partner_by ps first) xs) own ∙ ap (λ b. map (partner_by q.pairs b) xs) side

  -- what the numbers of vertices before and after the step tell
  pub counting : (earlier later : ℕ) → earlier ≡ length (vert_names i) → later ≡ length lists
      → (stay : ℕ) × (nodes : ℕ) × (earlier ≡ stay + 2) × (later ≡ stay + (nodes + nodes))
  counting earlier later one two =
      (length (old i j is_i q here u fits.end shape fits.leaves prop), count, one ∙ earlier-size, two ∙ later-size)

  -- it is the number of inner nodes
  pub counted : (earlier later n : ℕ) → earlier ≡ length (vert_names i) → later ≡ length lists
      → ((stay nodes : ℕ) → earlier ≡ stay + 2 → later ≡ stay + (nodes + nodes) → n ≡ nodes) → n ≡ count
  counted earlier later n one two value =
      value (length (old i j is_i q here u fits.end shape fits.leaves prop)) count (one ∙ earlier-size) (two ∙ later-size)

  -- names for edges that were found
  pub tops-found : (n : ℕ) (tops : List ℕ) → n ≡ count
      → tops ≡ take (n - 1) (new_names (edge_names i) ((n - 1) + (n - 1))) → tops ≡ prop.edges_u
  tops-found n tops e is =
      is ∙ ap (λ m. take (m - 1) (new_names (edge_names i) ((m - 1) + (m - 1)))) e ∙ tops-are

  -- names for vertices that were found
  pub nodes-found : (n : ℕ) (nodes : List ℕ) → n ≡ count
      → nodes ≡ take n (new_names (vert_names i) (n + n)) → nodes ≡ prop.at_u
  nodes-found n nodes e is = is ∙ ap (λ m. take m (new_names (vert_names i) (m + m))) e ∙ nodes-are

  -- the word that is read of the first tree, from its last leaf to the root edge
  module _ (steps : ℕ) (enough : steps ≡ count + length (edges_of i u)) where
    -- the tree that the lists tell
    abbrev told : (v : ℕ) × (ks : Named)
        × IsRead prop.rows_u (tops_once i j is_i is_j q here u fits.end shape fits.leaves prop) (list_in lists)
        (Named.node_kid v shape.root ks Named.no_kid)
        × (length prop.rows_u ≡ suc (length (rows ks)))
        × IsPermutation (leaves shape.body) (word ks)
        × ReadsBelow prop.rows_u (list_in lists) shape.root (word ks)
    told = told_tree i j is_i is_j q here u fits.end shape fits.leaves prop (list_in lists) sol.solves

    -- the edges from above are different
    heads-once : Distinct (shape.root ∷ prop.edges_u)
    heads-once = subst Distinct (tops_are i j is_i is_j q here u fits.end shape fits.leaves prop)
        (tops_once i j is_i is_j q here u fits.end shape fits.leaves prop)

    -- the word below the root edge
    abbrev pub leaf_word : List ℕ
    leaf_word = word told.1

    -- what is read of the tree is its word in reverse, and the root edge
    pub read-is : read_tree (zip (shape.root ∷ prop.edges_u) prop.at_u) (list_in lists) steps shape.root
        ≡ reverse leaf_word ++ shape.root ∷ []
    read-is =
        let ks : Named = told.1 in
        let heads = planted-heads (λ x. x) shape.body shape.root prop.at_u (shape.root ∷ prop.edges_u) prop.rows_u
        prop.planted_u in
        let verts = verts_u i j is_i q here u fits.end shape fits.leaves prop in
        let a = size_is ks in
        let b = told.3 in
        let c = length_permutation (leaves shape.body) (word ks) told.4 in
        let d = length_permutation (edges_of i u) (shape.root ∷ leaves shape.body)
        (edges_u-leaves i j is_i q here u fits.end shape fits.leaves prop) in
        let m : steps ≡ suc (size ks) + 1 = omega (arith, enough, a, b, c, d) in
        ap (λ zs. zs ++ shape.root ∷ [])
        (read_root prop.rows_u (tops_once i j is_i is_j q here u fits.end shape fits.leaves prop) (list_in lists)
        (zip (shape.root ∷ prop.edges_u) prop.at_u)
        (row_vertex prop.rows_u (shape.root ∷ prop.edges_u) prop.at_u heads verts heads-once)
        (leaf_vertex prop.rows_u (shape.root ∷ prop.edges_u) prop.at_u heads verts heads-once)
        told.0 shape.root ks told.2 steps 1 m)

    -- lists that have this word at the end, the mirror of its partners at the other end, and else what they had
    pub back-IsSolution : (at_u at_w : List ℕ) → at_u ≡ shape.root ∷ leaf_word
        → at_w ≡ reverse (map (partner q u) (shape.root ∷ leaf_word))
        → IsSolution i (map (λ v. (v, with_ends u (opposite q u) at_u at_w (list_in lists) v)) (vert_names i))
    back-IsSolution at_u at_w u_is w_is =
        let f : ℕ → List ℕ = with_ends u (opposite q u) at_u at_w (list_in lists) in
        let before : List (ℕ × List ℕ) = map (λ v. (v, f v)) (vert_names i) in
        let w : ℕ = opposite q u in
        let differ : u ≢ w = u_not_w i j is_i q here u fits.end shape fits.leaves prop in
        let told_at : (v : ℕ) → Contains (vert_names i) v → list_in before v ≡ f v =
        λ v c. list_of_row f (vert_names i) v ((Has-Contains v (vert_names i)).1 c) in
        let at_end : list_in before u ≡ shape.root ∷ leaf_word =
        told_at u end-live ∙ cond-true (eqb u u) at_u (cond (eqb u w) at_w (list_in lists u)) (eq-eqb u u refl) ∙ u_is in
        let at_other : list_in before w ≡ reverse (map (partner q u) (shape.root ∷ leaf_word)) =
        told_at w (live_w i j is_i q here u fits.end shape fits.leaves prop)
        ∙ cond-false (eqb w u) at_u (cond (eqb w w) at_w (list_in lists w)) (ne_eqb w u (λ e. differ (sym e)))
        ∙ cond-true (eqb w w) at_w (list_in lists w) (eq-eqb w w refl) ∙ w_is in
        propagate-IsSolution_before i j is_i is_j pipe u shape allowed after lists before sol
        (rows_named f (vert_names i))
        (record {
          word = leaf_word;
          reads = told.5;
          at_end = subst (IsTurn (shape.root ∷ leaf_word)) (sym at_end) (turn-refl (shape.root ∷ leaf_word));
          at_other = subst (IsTurn (reverse (map (partner q u) (shape.root ∷ leaf_word)))) (sym at_other)
              (turn-refl (reverse (map (partner q u) (shape.root ∷ leaf_word))));
          others = λ v c nu nw.
              told_at v c
              ∙ cond-false (eqb v u) at_u (cond (eqb v w) at_w (list_in lists v)) (ne_eqb v u nu)
              ∙ cond-false (eqb v w) at_w (list_in lists v) (ne_eqb v w nw);
        })

    -- what is put together of a word that was read is a solution
    pub returned-IsSolution : (tops nodes read flipped at_w verts : List ℕ) (w : ℕ) (s : List (ℕ × List ℕ))
        → tops ≡ prop.edges_u → nodes ≡ prop.at_u
        → read ≡ read_tree (zip (shape.root ∷ tops) nodes) (list_in lists) steps shape.root
        → flipped ≡ reverse read → at_w ≡ map (partner q u) read → w ≡ opposite q u → verts ≡ vert_names i
        → s ≡ map (λ v. (v, with_ends u w flipped at_w (list_in lists) v)) verts
        → IsSolution i s
    returned-IsSolution tops nodes read flipped at_w verts w s tops_is nodes_is read_is flipped_is at_w_is w_is verts_is s_is =
        let one : read ≡ reverse leaf_word ++ shape.root ∷ [] =
        read_is ∙ ap₂ (λ (xs ys : List ℕ). read_tree (zip (shape.root ∷ xs) ys) (list_in lists) steps shape.root) tops_is nodes_is
        ∙ read-is in
        let back : reverse (shape.root ∷ leaf_word) ≡ read = reverse-append (shape.root ∷ []) leaf_word ∙ sym one in
        let u_list : flipped ≡ shape.root ∷ leaf_word =
        flipped_is ∙ ap reverse (sym back) ∙ reverse-reverse (shape.root ∷ leaf_word) in
        let w_list : at_w ≡ reverse (map (partner q u) (shape.root ∷ leaf_word)) =
        at_w_is ∙ ap (map (partner q u)) (sym back) ∙ map-reverse (partner q u) (shape.root ∷ leaf_word) in
        subst (IsSolution i)
        (sym (s_is ∙ ap (λ vs. map (λ v. (v, with_ends u w flipped at_w (list_in lists) v)) vs) verts_is
        ∙ ap (λ x. map (λ v. (v, with_ends u x flipped at_w (list_in lists) v)) (vert_names i)) w_is))
        (back-IsSolution flipped at_w u_list w_list)
