-- The rewrite of Join fits the instance, and gives what the step makes of it.
use Rattle.std.proofs.Common.{◌≡◌, ℕ, ◌*◌, ◌^◌, ◌<◌, ◌≤◌, Bool, not, eqb, List, [], ◌∷◌, ◌++◌, length, map, slice_index, slice_index_or, sym, refl, ap, ap₂, ◌∙◌, subst, inl, inr, ⊎_elim, arith, append_assoc}
use Rattle.std.specs.Prelude.{Some, find, filter}
use Rattle.std.specs.List.{All, Contains, flat_map, zip}
use Rattle.std.specs.Option.{option_map_or}
use Rattle.std.proofs.lemmas.Bool.{cond-true, cond-false, cases_Bool, eqb-true}
use Rattle.std.proofs.lemmas.List.{get_or_default, length-append, length-map, map-id, map-append}
use Rattle.std.proofs.lemmas.List.Elements.{All-nil, All-cons, All-contains, All-head, All-tail, Contains-append_left, Contains-append_right, filter-append}
use Rattle.std.proofs.lemmas.List.Kept.{IsStrictlyIncreasing-filter}
use Rattle.std.proofs.lemmas.List.Sorted.{Contains-permutation, IsPermutation-sym, length_permutation}
use Rattle.cp_lists.specs.CyclicLists.{Has}
use Rattle.cp_lists.proofs.DistinctLists.{Has-Contains}
use Rattle.cp_conn.specs.NamedGraphs.{rank, ends_at}
use Rattle.cp_conn.proofs.NamedGraphs.{edges_at-Contains}
use Rattle.cp_conn.proofs.DistinctSubsets.{subset_length}
use Rattle.cp_board.specs.declared.parts.Kind.TheVariants.{P}
use Rattle.cp_board.specs.declared.parts.Vert.{Vert}
use Rattle.cp_board.specs.declared.parts.EdgeRow.{EdgeRow}
use Rattle.cp_board.specs.declared.parts.Pipe.{Pipe}
use Rattle.cp_board.specs.declared.rewrite.Rewrite.{Rewrite}
use Rattle.cp_board.specs.declared.steps.Step.TheVariants.{Join}
use Rattle.cp_board.specs.Names.{has, AreNew}
use Rattle.cp_board.specs.Changes.{edges_by_name, free_vert, other_pipes, pipes_by_name, verts_by_name}
use Rattle.cp_board.specs.Instances.{Synchronized, IsSynchronized, HasRightEnds, cell_of, cells, edge_names, edges_of, graph, names_of_verts, pipe_names, vert_names}
use Rattle.cp_board.specs.Joins.{ArePartsAt, IsJoined, part_pipes, vertex_for}
use Rattle.cp_board.specs.Reductions.{Performs}
use Rattle.cp_board.specs.Rewrites.{rewritten, IsRewriteOf, verts_with, first_ones}
use Rattle.cp_board.specs.Steps.{partner}
use Rattle.cp_join.specs.declared.parted_ends.Parting.{Parting}
use Rattle.cp_join.specs.Partings.{FitPairs, new_verts}
use Rattle.cp_join.specs.Joining.{hat_among, hat_row, joining}
use Rattle.cp_join.proofs.NamedParts.{has_not}
use Rattle.cp_join.proofs.PipePairs.{firsts, seconds, second, found_once, key_has, rank_first}
use Rattle.cp_join.proofs.SameLists.{All-from_has}
use Rattle.cp_join.proofs.LiveVerts.{kind_live, none_some}
use Rattle.cp_join.proofs.PartLists.{all_of, all_from, all_has, part_has}
use Rattle.cp_join.proofs.PartPipes.{ends_of_all, names_of_pipes}
use Rattle.cp_join.proofs.RisingLists.{Distinct-rising, Has-flat_map}
use Rattle.cp_join.proofs.JoinNames.{HasPartings, old_other}
use Rattle.cp_join.proofs.JoinedMoves.{moved_all, moves_fit}
use Rattle.cp_join.proofs.JoinedGraph.{joined, hat, row, edges_a, partner_a, partner_b, once_firsts, once_seconds, hats_all}
use Rattle.cp_join.proofs.JoinedRules.{IsSynchronized-joined}

-- no more parts than edges
pub parts_few : (parts : List (List ℕ)) → All (λ part. 0 < length part) parts → length parts ≤ length (all_of parts)
parts_few [] filled = omega arith
parts_few (part ∷ parts) filled =
    omega (
      arith,
      All-head (λ xs. 0 < length xs) part parts filled,
      parts_few parts (All-tail (λ xs. 0 < length xs) part parts filled),
      length-append part (all_of parts),
    )

-- each edge with its new edge
abbrev pairs_with : (ℕ → ℕ) → List ℕ → List (ℕ × ℕ)
pairs_with f es = map (λ e. (e, f e)) es

-- the pairs of a part, where two functions agree on its edges
pairs_agree : (f g : ℕ → ℕ) (es : List ℕ) → All (λ e. f e ≡ g e) es → pairs_with f es ≡ pairs_with g es
pairs_agree f g [] all = refl
pairs_agree f g (e ∷ es) all =
    let pair : ℕ → ℕ × ℕ = λ z. (e, z) in
    ap (λ (x : ℕ × ℕ). x ∷ pairs_with f es) (ap pair (All-head (λ z. f z ≡ g z) e es all))
    ∙ ap (λ (xs : List (ℕ × ℕ)). pair (g e) ∷ xs) (pairs_agree f g es (All-tail (λ z. f z ≡ g z) e es all))

module _ (i : Synchronized) (p : Pipe) (s t : Parting) (hats : List ℕ) (h : HasPartings i p s t hats) where
  -- the new edges, by the pairs
  hat_rows : map (hat_row s.parts s.inner t.parts t.inner) (zip hats p.pairs)
      ≡ map (row i p s t hats h) (edges_a i p s t hats h)
  hat_rows =
      ap (λ hs. map (hat_row s.parts s.inner t.parts t.inner) (zip hs p.pairs)) (sym told)
      ∙ by_pairs p.pairs second_told
      ∙ ap (map (row i p s t hats h)) h.pairs.first
    where
      told : map (hat i p s t hats h) (firsts p.pairs) ≡ hats
      told = ap (map (hat i p s t hats h)) h.pairs.first ∙ hats_all i p s t hats h

      second_told : All (λ x. second p.pairs x.0 ≡ x.1) p.pairs
      second_told k d lt =
          ap (λ o. option_map_or (λ y. y.1) o 0)
          (found_once (λ (x : ℕ × ℕ). x.0) p.pairs k d (once_firsts i p s t hats h) lt)

      by_pairs : (xs : List (ℕ × ℕ)) → All (λ x. second p.pairs x.0 ≡ x.1) xs
          → map (hat_row s.parts s.inner t.parts t.inner) (zip (map (hat i p s t hats h) (firsts xs)) xs)
          ≡ map (row i p s t hats h) (firsts xs)
      by_pairs [] all = refl
      by_pairs (x ∷ xs) all =
          ap (λ y. record { name = hat i p s t hats h x.0; a = vertex_for s.parts s.inner x.0; b = vertex_for t.parts t.inner y }
          ∷ map (hat_row s.parts s.inner t.parts t.inner) (zip (map (hat i p s t hats h) (firsts xs)) xs))
          (sym (partner_a i p s t hats h x.0 ∙ All-head (λ z. second p.pairs z.0 ≡ z.1) x xs all))
          ∙ ap (λ rs. row i p s t hats h x.0 ∷ rs) (by_pairs xs (All-tail (λ z. second p.pairs z.0 ≡ z.1) x xs all))

  -- the hats of the pipes of both ends
  hat_a : (e : ℕ) → hat_among (firsts p.pairs) hats e ≡ hat i p s t hats h e
  hat_a e = ap (λ es. slice_index hats (rank es e)) h.pairs.first

  -- and for an edge of the second end
  hat_b : (y : ℕ) → Has y (seconds p.pairs) → hat_among (seconds p.pairs) hats y ≡ hat i p s t hats h (partner p p.b y)
  hat_b y k =
      ap (slice_index hats)
      (sym (rank_first p.pairs (once_firsts i p s t hats h) (once_seconds i p s t hats h) y k)
      ∙ ap (rank (firsts p.pairs)) (sym (partner_b i p s t hats h y)))
      ∙ hat_a (partner p p.b y)

  -- the edges of the parts of the first end are in pairs
  pub first_among : All (All (Contains (firsts p.pairs))) s.parts
  first_among k d lt =
      All-from_has (Contains (firsts p.pairs)) (slice_index_or s.parts k d)
      (λ e m. subst (λ es. Contains es e) (sym h.pairs.first)
      (all_from (graph i) p.a s.parts h.rules.edges_named.rise h.parts_a e
      (Has-flat_map e s.parts k lt (subst (Has e) (get_or_default s.parts k d [] lt) m))))

  -- so are those of the second
  pub second_among : All (All (Contains (seconds p.pairs))) t.parts
  second_among k d lt =
      All-from_has (Contains (seconds p.pairs)) (slice_index_or t.parts k d)
      (λ e m. Contains-permutation (edges_of i p.b) (seconds p.pairs) e h.pairs.second
      (all_from (graph i) p.b t.parts h.rules.edges_named.rise h.parts_b e
      (Has-flat_map e t.parts k lt (subst (Has e) (get_or_default t.parts k d [] lt) m))))

  -- the pipes of an end, where two functions agree on its edges
  pipes_agree : (f g : ℕ → ℕ) (names outer inner : List ℕ) (parts : List (List ℕ)) → All (All (λ e. f e ≡ g e)) parts
      → part_pipes f names outer inner parts ≡ part_pipes g names outer inner parts
  pipes_agree f g [] outer inner parts all = refl
  pipes_agree f g (x ∷ xs) [] inner parts all = refl
  pipes_agree f g (x ∷ xs) (y ∷ ys) [] parts all = refl
  pipes_agree f g (x ∷ xs) (y ∷ ys) (z ∷ zs) [] all = refl
  pipes_agree f g (x ∷ xs) (y ∷ ys) (z ∷ zs) (q ∷ qs) all =
      ap (λ ps. record { name = x; a = y; b = z; pairs = ps } ∷ part_pipes f xs ys zs qs)
      (pairs_agree f g q (All-head (λ r. All (λ e. f e ≡ g e) r) q qs all))
      ∙ ap (λ ps. record { name = x; a = y; b = z; pairs = map (λ e. (e, g e)) q } ∷ ps)
      (pipes_agree f g xs ys zs qs (All-tail (λ r. All (λ e. f e ≡ g e) r) q qs all))

  -- the rewrite of Join
  abbrev rewrite : Rewrite
  rewrite = joining p.name (p.a, p.b) p.pairs s t hats

  -- the instance after the rewrite
  pub rewritten_joining : rewritten rewrite i ≡ joined i p s t hats h
  rewritten_joining =
      ap (λ z. record { verts = z; edges = (rewritten rewrite i).edges; pipes = (rewritten rewrite i).pipes }) same_verts
      ∙ ap (λ z. record { verts = (joined i p s t hats h).verts; edges = z; pipes = (rewritten rewrite i).pipes }) same_edges
      ∙ ap (λ z. record { verts = (joined i p s t hats h).verts; edges = (joined i p s t hats h).edges; pipes = z }) same_pipes
    where
      keeps : Vert → Bool
      keeps v = not (has (p.a ∷ p.b ∷ []) v.name)

      kept_new : (ns : List ℕ) → ((n : ℕ) → Has n ns → Has n (new_verts s t))
          → filter keeps (map free_vert ns) ≡ map free_vert ns
      kept_new [] new = refl
      kept_new (n ∷ ns) new =
          cond-true (keeps (free_vert n)) (free_vert n ∷ filter keeps (map free_vert ns)) (filter keeps (map free_vert ns))
          (ap not (has_not (p.a ∷ p.b ∷ []) n (λ m. ⊎_elim
          (λ e. old_other i p s t hats h p.a n h.live_a (new n (inl refl)) e)
          (λ r. ⊎_elim (λ e. old_other i p s t hats h p.b n h.live_b (new n (inl refl)) e) (λ f. f) r)
          m)))
          ∙ ap (λ vs. free_vert n ∷ vs) (kept_new ns (λ m k. new m (inr k)))

      same_verts : (rewritten rewrite i).verts ≡ (joined i p s t hats h).verts
      same_verts =
          ap verts_by_name
          (map-id (filter keeps (i.verts ++ map free_vert (new_verts s t)))
          ∙ filter-append keeps i.verts (map free_vert (new_verts s t))
          ∙ ap (λ vs. filter keeps i.verts ++ vs) (kept_new (new_verts s t) (λ n k. k)))

      same_edges : (rewritten rewrite i).edges ≡ (joined i p s t hats h).edges
      same_edges = ap edges_by_name (ap₂ (λ xs ys. xs ++ ys) (moved_all i p s t hats h) hat_rows)

      same_pipes : (rewritten rewrite i).pipes ≡ (joined i p s t hats h).pipes
      same_pipes =
          ap pipes_by_name
          (sym (append_assoc (other_pipes i (p.name ∷ []))
          (part_pipes (hat_among (firsts p.pairs) hats) s.names s.outer s.inner s.parts)
          (part_pipes (hat_among (seconds p.pairs) hats) t.names t.outer t.inner t.parts))
          ∙ ap₂ (λ xs ys. other_pipes i (p.name ∷ []) ++ xs ++ ys)
          (pipes_agree (hat_among (firsts p.pairs) hats) (hat i p s t hats h) s.names s.outer s.inner s.parts
          (λ k d lt. All-from_has (λ e. hat_among (firsts p.pairs) hats e ≡ hat i p s t hats h e) (slice_index_or s.parts k d)
          (λ e m. hat_a e)))
          (pipes_agree (hat_among (seconds p.pairs) hats) (λ y. hat i p s t hats h (partner p p.b y)) t.names t.outer t.inner
          t.parts
          (λ k d lt. All-from_has (λ y. hat_among (seconds p.pairs) hats y ≡ hat i p s t hats h (partner p p.b y))
          (slice_index_or t.parts k d)
          (λ y m. hat_b y ((Has-Contains y (seconds p.pairs)).1
          (All-contains (Contains (seconds p.pairs)) (slice_index_or t.parts k d) y (second_among k d lt)
          ((Has-Contains y (slice_index_or t.parts k d)).0 m)))))))

  -- the pairs fit the partings
  pub fit_pairs : FitPairs p.pairs hats s t
  fit_pairs = record {
    hats_each = h.hats_each;
    first_end = h.parted.first_end;
    second_end = h.parted.second_end;
    first_among = first_among;
    second_among = second_among;
    first_found = λ k d lt.
        let e = (slice_index_or p.pairs k d).0 in
        let c = subst (λ es. Contains es e) h.pairs.first
        ((Has-Contains e (firsts p.pairs)).0 (key_has (λ (x : ℕ × ℕ). x.0) p.pairs k d lt)) in
        omega (
          arith,
          (part_has s.parts e (all_has (graph i) p.a s.parts h.rules.edges_named.rise h.parts_a e c)).0,
          h.parted.first_end.inner_each,
        );
    second_found = λ k d lt.
        let e = (slice_index_or p.pairs k d).1 in
        let c = Contains-permutation (seconds p.pairs) (edges_of i p.b) e
        (IsPermutation-sym (edges_of i p.b) (seconds p.pairs) h.pairs.second)
        ((Has-Contains e (seconds p.pairs)).0 (key_has (λ (x : ℕ × ℕ). x.1) p.pairs k d lt)) in
        omega (
          arith,
          (part_has t.parts e (all_has (graph i) p.b t.parts h.rules.edges_named.rise h.parts_b e c)).0,
          h.parted.second_end.inner_each,
        );
  }

  -- there are fewer new names than a number of 63 bits tells
  module _ (few_verts : length (vert_names i) < 2 ^ 60) (few_edges : length (edge_names i) < 2 ^ 60) where
    -- a vertex has no more edges than there are
    edges_few : (v : ℕ) → length (edges_of i v) ≤ length (edge_names i)
    edges_few v = subset_length (edges_of i v) (edge_names i)
        (Distinct-rising (edges_of i v) (IsStrictlyIncreasing-filter (ends_at (graph i) v) (edge_names i) h.rules.edges_named.rise))
        (λ d k. (Has-Contains d (edge_names i)).1
        (edges_at-Contains (graph i) v d ((Has-Contains d (edges_of i v)).0 k)).0)

    -- so its parts are few
    pub parts_small : (u : ℕ) (parts : List (List ℕ)) → ArePartsAt (graph i) u parts → length parts < 2 ^ 60
    parts_small u parts are =
        omega (arith, parts_few parts are.filled, length_permutation (edges_of i u) (all_of parts) are.whole, edges_few u, few_edges)

    -- there are no more pipes than vertices
    pipes_few : length (pipe_names i) ≤ length (vert_names i)
    pipes_few =
        omega (
          arith,
          subset_length (ends_of_all i.pipes) (vert_names i) h.rules.ends_apart
              (λ d k. (Has-Contains d (vert_names i)).1 (live i.pipes h.rules.ends_free d k)),
          two_each i.pipes,
          length-map i.pipes (λ (q : Pipe). q.name),
        )
      where
        two_each : (qs : List Pipe) → length (ends_of_all qs) ≡ 2 * length qs
        two_each [] = refl
        two_each (q ∷ qs) = omega (arith, two_each qs)

        live : (qs : List Pipe) → All (HasRightEnds i.verts) qs → (d : ℕ) → Has d (ends_of_all qs)
            → Contains (vert_names i) d
        live [] all d m = elim m [ ]
        live (q ∷ qs) all d m =
            let free = All-head (HasRightEnds i.verts) q qs all in
            ⊎_elim
            (λ a. subst (Contains (vert_names i)) a (kind_live i.verts q.a P free.free_a))
            (λ n. ⊎_elim
            (λ b. subst (Contains (vert_names i)) b (kind_live i.verts q.b P free.free_b))
            (λ l. live qs (All-tail (HasRightEnds i.verts) q qs all) d l)
            n)
            m

    -- so the rules hold after the rewrite
    rules_after : IsSynchronized (joined i p s t hats h)
    rules_after =
        let small_a = parts_small p.a s.parts h.parts_a in
        let small_b = parts_small p.b t.parts h.parts_b in
        IsSynchronized-joined i p s t hats h
        (omega (
          arith,
          few_verts,
          small_a,
          small_b,
          h.parted.first_end.outer_each,
          h.parted.first_end.inner_each,
          h.parted.second_end.outer_each,
          h.parted.second_end.inner_each,
          length-append s.outer s.inner,
          length-append (s.outer ++ s.inner) t.outer,
          length-append (s.outer ++ s.inner ++ t.outer) t.inner,
        ))
        (omega (
          arith,
          few_edges,
          h.hats_each,
          edges_few p.a,
          length-map p.pairs (λ (x : ℕ × ℕ). x.0),
          ap length h.pairs.first,
        ))
        (omega (
          arith,
          few_verts,
          pipes_few,
          small_a,
          small_b,
          h.parted.first_end.name_each,
          h.parted.second_end.name_each,
          length-append s.names t.names,
        ))

    -- the pipe is live
    pipe_name_live : Contains (pipe_names i) p.name
    pipe_name_live = (Has-Contains p.name (pipe_names i)).0 (found_has i.pipes h.live)
      where
        found_has : (qs : List Pipe) → find (λ x. eqb x.name p.name) qs ≡ Some p → Has p.name (map (λ q. q.name) qs)
        found_has [] e = absurd (none_some p e)
        found_has (q ∷ qs) e =
            ⊎_elim
            (λ b. inl (eqb-true q.name p.name b))
            (λ b. inr (found_has qs (sym (cond-false (eqb q.name p.name) (Some q) (find (λ x. eqb x.name p.name) qs) b) ∙ e)))
            (cases_Bool (eqb q.name p.name))

    -- the names of P-vertices
    names_of_free : (ns : List ℕ) → names_of_verts (map free_vert ns) ≡ ns
    names_of_free [] = refl
    names_of_free (n ∷ ns) = ap (λ zs. n ∷ zs) (names_of_free ns)

    -- P-vertices have no cells
    no_cells : (ns : List ℕ) → flat_map (λ v. cell_of v.kind) (map free_vert ns ++ []) ≡ []
    no_cells [] = refl
    no_cells (n ∷ ns) = no_cells ns

    -- the names of the new pipes
    names_of_pipes_added : map (λ q. q.name) rewrite.add_pipes ≡ s.names ++ t.names
    names_of_pipes_added =
        map-append (λ (q : Pipe). q.name) (part_pipes (hat_among (firsts p.pairs) hats) s.names s.outer s.inner s.parts)
        (part_pipes (hat_among (seconds p.pairs) hats) t.names t.outer t.inner t.parts)
        ∙ ap₂ (λ xs ys. xs ++ ys)
        (names_of_pipes (hat_among (firsts p.pairs) hats) s.names s.outer s.inner s.parts h.parted.first_end.name_each
        h.parted.first_end.outer_each h.parted.first_end.inner_each)
        (names_of_pipes (hat_among (seconds p.pairs) hats) t.names t.outer t.inner t.parts h.parted.second_end.name_each
        h.parted.second_end.outer_each h.parted.second_end.inner_each)

    -- and those of the new edges
    names_of_edges_added : map (λ e. e.name) rewrite.add_edges ≡ hats
    names_of_edges_added =
        ap (map (λ (e : EdgeRow). e.name)) hat_rows ∙ names_of_row (edges_a i p s t hats h) ∙ hats_all i p s t hats h
      where
        names_of_row : (xs : List ℕ) → map (λ e. e.name) (map (row i p s t hats h) xs) ≡ map (hat i p s t hats h) xs
        names_of_row [] = refl
        names_of_row (x ∷ xs) = ap (λ zs. hat i p s t hats h x ∷ zs) (names_of_row xs)

    -- the rewrite fits the instance
    joining_fits : IsRewriteOf i rewrite
    joining_fits = record {
      pipes_live = All-cons (Contains (pipe_names i)) p.name [] pipe_name_live (All-nil (Contains (pipe_names i)));
      pipes_once = (tt, tt);
      verts_live = All-cons (Contains (vert_names i)) p.a (p.b ∷ []) h.live_a
          (All-cons (Contains (vert_names i)) p.b [] h.live_b (All-nil (Contains (vert_names i))));
      verts_once = (((λ e. h.ends.differ (sym e)), tt), (tt, tt));
      moves = moves_fit i p s t hats h (verts_with rewrite i)
          (λ x c. Contains-append_left (vert_names i) (names_of_verts (map free_vert (new_verts s t))) x c)
          (λ x k. Contains-append_right (vert_names i) (names_of_verts (map free_vert (new_verts s t))) x
          (subst (λ ns. Contains ns x) (sym (names_of_free (new_verts s t))) ((Has-Contains x (new_verts s t)).0 k)));
      kinds_live = All-nil (λ v. Contains (verts_with rewrite i) v.name × (Contains (p.a ∷ p.b ∷ []) v.name → ⊥));
      kinds_once = tt;
      rules = subst IsSynchronized (sym rewritten_joining) rules_after;
      new_verts = subst (AreNew (vert_names i)) (sym (names_of_free (new_verts s t))) h.parted.new_verts;
      new_edges = subst (AreNew (edge_names i)) (sym names_of_edges_added) h.hats_new;
      new_pipes = subst (AreNew (pipe_names i)) (sym names_of_pipes_added) h.parted.new_pipes;
      new_cells = subst (AreNew (cells i)) (sym (ap (first_ones (cells i)) (no_cells (new_verts s t)))) refl;
    }

    -- and gives what Join makes of it
    joining_effect : IsJoined i p (rewritten rewrite i)
    joining_effect = record {
      parts_a = s.parts;
      parts_b = t.parts;
      are_parts_a = h.parts_a;
      are_parts_b = h.parts_b;
      outer_a = s.outer;
      inner_a = s.inner;
      outer_b = t.outer;
      inner_b = t.inner;
      one_each_a = (h.parted.first_end.outer_each, h.parted.first_end.inner_each);
      one_each_b = (h.parted.second_end.outer_each, h.parted.second_end.inner_each);
      new_verts = h.parted.new_verts;
      hats = hats;
      one_hat_each = h.hats_each;
      new_edges = h.hats_new;
      names_a = s.names;
      names_b = t.names;
      one_name_each = (h.parted.first_end.name_each, h.parted.second_end.name_each);
      new_pipes = h.parted.new_pipes;
      verts = ap (λ z. z.verts) rewritten_joining;
      edges = ap (λ z. z.edges) rewritten_joining;
      pipes = ap (λ z. z.pipes) rewritten_joining;
    }

    -- so it performs the step
    pub Performs-joining : Performs i (Join p.name) rewrite
    Performs-joining = (joining_fits, (p, h.live, joining_effect))
