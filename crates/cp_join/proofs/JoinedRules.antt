-- After Join the five rules hold.
use Rattle.std.proofs.Common.{◌≡◌, ◌≢◌, ℕ, ◌+◌, ◌^◌, ◌<◌, ◌≤◌, Bool, true, false, not, ◌||◌, eqb, List, [], ◌∷◌, ◌++◌, length, map, slice_index, slice_index_or, sym, refl, ap, ap₂, ◌∙◌, subst, ⊎_elim, arith, append_assoc, IsPermutation}
use Rattle.std.specs.Prelude.{Some, find, filter}
use Rattle.std.specs.List.{All, Contains, flat_map}
use Rattle.std.specs.Option.{option_map, option_or}
use Rattle.std.proofs.lemmas.Bool.{both_ways, cond_both, eq-eqb, ne_eqb, or_parts, not-true}
use Rattle.std.proofs.lemmas.List.{get_or-map, length-map, map-append}
use Rattle.std.proofs.lemmas.Grind.{flat_map-append}
use Rattle.std.proofs.lemmas.List.Folds.{find-append}
use Rattle.std.proofs.lemmas.List.Elements.{All-nil, All-head, All-tail, All-append, All-filter, All-map, All-weaker, filter_passes}
use Rattle.std.proofs.lemmas.List.Sorted.{All-permutation, IsPermutation-append, IsPermutation-append_right, IsPermutation-map, IsPermutation-trans}
use Rattle.std.proofs.lemmas.Map.Views.{All-map-IsPermutation}
use Rattle.cp_lists.specs.CyclicLists.{Distinct, Has}
use Rattle.cp_lists.proofs.DistinctLists.{Distinct-append, Has-append_left, Has-append_right, Has-Contains, Has_at, Lacks-from, has_lacks}
use Rattle.cp_board.specs.declared.parts.Kind.TheVariants.{P}
use Rattle.cp_board.specs.declared.parts.Vert.{Vert}
use Rattle.cp_board.specs.declared.parts.EdgeRow.{EdgeRow}
use Rattle.cp_board.specs.declared.parts.Pipe.{Pipe}
use Rattle.cp_board.specs.Names.{has}
use Rattle.cp_board.specs.Changes.{free_vert, other_verts, other_pipes}
use Rattle.cp_board.specs.Instances.{Synchronized, IsSynchronized, HasRightEnds, HasRightPairs, IsRightKind, graph, cell_of, edge_names, edges_of, kind_in, pipe_names, vert_names}
use Rattle.cp_board.specs.Joins.{part_pipes}
use Rattle.cp_board.specs.Steps.{partner}
use Rattle.cp_board.proofs.DroppedPipes.{IsSynchronized-fewer_pipes}
use Rattle.cp_board.proofs.EdgesOfVertices.{touch, moved_row}
use Rattle.cp_board.proofs.ListTests.{IsStrictlyIncreasing-from_test, rises}
use Rattle.cp_board.proofs.NamedLists.{by_name_keeps, under-by_name, rises-by_name}
use Rattle.cp_join.specs.declared.parted_ends.Parting.{Parting}
use Rattle.cp_join.specs.Partings.{new_verts}
use Rattle.cp_lists.proofs.PermutedLists.{Distinct-IsPermutation, Has-IsPermutation}
use Rattle.cp_join.proofs.RisingLists.{Distinct-rising}
use Rattle.cp_join.proofs.FreshNames.{fresh_once, fresh_other, fresh_small}
use Rattle.cp_join.proofs.NamedParts.{has_not}
use Rattle.cp_join.proofs.SameLists.{All-from_has, names_kept, distinct_from, Has-kept, kept-Has}
use Rattle.cp_join.proofs.PartPipes.{ends, ends_of_all, flat_by_name, names_of_pipes, ends_of_pipes, All-part_pipes, firsts_of_pipe, seconds_of_pipe, others_apart}
use Rattle.cp_join.proofs.LiveVerts.{All-by_item, All-values, kind_live, kind_kept, found_kept, found_free, none_found, found_or}
use Rattle.cp_join.proofs.JoinNames.{HasPartings, IsLiveRow, rows_live, new_once, apart, old_other, outer_a_new, inner_a_new, outer_b_new, inner_b_new}
use Rattle.cp_join.proofs.JoinedMoves.{to, outer_a, outer_b}
use Rattle.cp_join.proofs.JoinedGraph.{joined, row, hat, edges_a, kept_rows, new_rows, names_all, names_differ}
use Rattle.cp_join.proofs.JoinedVertices.{by_end, first_touch, second_touch, inner_a, inner_b, inner_a_has, inner_b_has, edges_of_old, edges_of_outer_a, edges_of_outer_b, edges_of_inner_a, edges_of_inner_b}

module _ (i : Synchronized) (p : Pipe) (s t : Parting) (hats : List ℕ) (h : HasPartings i p s t hats) where
  -- the instance after Join
  abbrev after : Synchronized
  after = joined i p s t hats h

  -- the new vertices
  abbrev fresh : List ℕ
  fresh = new_verts s t

  -- the vertices that stay
  abbrev pub others : List Vert
  others = other_verts i (p.a ∷ p.b ∷ [])

  -- all vertices, before they are put in order
  abbrev pub verts : List Vert
  verts = others ++ map free_vert fresh

  -- the test for names that stay
  abbrev pub keeps : ℕ → Bool
  keeps n = not (has (p.a ∷ p.b ∷ []) n)

  -- a name that stays is none of the two ends
  pub keeps_other : (n : ℕ) → keeps n ≡ true → (n ≢ p.a) × (n ≢ p.b)
  keeps_other n k =
      let first = or_parts (eqb n p.a) (eqb n p.b || false) (not-true (has (p.a ∷ p.b ∷ []) n) k) in
      let second = or_parts (eqb n p.b) false first.1 in (
        λ e. both_ways (eqb n p.a) first.0 (eq-eqb n p.a e),
        λ e. both_ways (eqb n p.b) second.0 (eq-eqb n p.b e),
      )

  -- and any other name passes it
  pub other_keeps : (n : ℕ) → n ≢ p.a → n ≢ p.b → keeps n ≡ true
  other_keeps n na nb =
      ap (λ b. not (b || (eqb n p.b || false))) (ne_eqb n p.a na) ∙ ap (λ b. not (b || false)) (ne_eqb n p.b nb)

  -- the names of P-vertices
  names_of_free : (ns : List ℕ) → map (λ v. v.name) (map free_vert ns) ≡ ns
  names_of_free [] = refl
  names_of_free (n ∷ ns) = ap (λ zs. n ∷ zs) (names_of_free ns)

  -- the names of all vertices
  pub names_of_verts : map (λ v. v.name) verts ≡ filter keeps (vert_names i) ++ fresh
  names_of_verts =
      map-append (λ (v : Vert). v.name) others (map free_vert fresh)
      ∙ ap₂ (λ xs ys. xs ++ ys)
      (names_kept (λ (v : Vert). v.name) (λ v. keeps v.name) keeps i.verts (λ k d lt. refl)) (names_of_free fresh)

  -- none stands twice
  pub verts_once : Distinct (filter keeps (vert_names i) ++ fresh)
  verts_once =
      Distinct-append (filter keeps (vert_names i)) fresh
      (Distinct-filtered (vert_names i) (Distinct-rising (vert_names i) h.rules.verts_named.rise))
      (new_once i p s t hats h)
      (λ d k. Lacks-from d fresh (λ l. old_other i p s t hats h d d
      ((Has-Contains d (vert_names i)).0 (Has-kept keeps (vert_names i) d k).0) l refl))
    where
      Distinct-filtered : (xs : List ℕ) → Distinct xs → Distinct (filter keeps xs)
      Distinct-filtered [] once = tt
      Distinct-filtered (x ∷ xs) once =
          cond_both (keeps x) (x ∷ filter keeps xs) (filter keeps xs) Distinct
          (λ _. (Lacks-from x (filter keeps xs) (λ m. has_lacks x xs (Has-kept keeps xs x m).0 once.0), Distinct-filtered xs once.1))
          (λ _. Distinct-filtered xs once.1)

  -- so in order they rise
  pub verts_rise : rises (vert_names after) ≡ true
  verts_rise = rises-by_name (λ v. v.name) verts
      (distinct_from (map (λ v. v.name) verts) (subst Distinct (sym names_of_verts) verts_once))

  -- the vertices after Join
  pub vert_has : (n : ℕ) → Has n (filter keeps (vert_names i) ++ fresh) → Contains (vert_names after) n
  vert_has n k =
      (Has-Contains n (vert_names after)).0
      (Has-IsPermutation n (map (λ v. v.name) verts) (vert_names after)
      (IsPermutation-map (λ (v : Vert). v.name) verts after.verts (by_name_keeps (λ v. v.name) verts))
      (subst (Has n) (sym names_of_verts) k))

  -- a new vertex is there
  pub new_has : (n : ℕ) → Has n fresh → Contains (vert_names after) n
  new_has n k = vert_has n (Has-append_right n (filter keeps (vert_names i)) fresh k)

  -- and so is an old one that is no end of the pipe
  pub old_has : (n : ℕ) → Contains (vert_names i) n → n ≢ p.a → n ≢ p.b → Contains (vert_names after) n
  old_has n c na nb =
      vert_has n (Has-append_left n (filter keeps (vert_names i)) fresh
      (kept-Has keeps (vert_names i) n ((Has-Contains n (vert_names i)).1 c) (other_keeps n na nb)))

  -- all edges, before they are put in order
  abbrev pub rows : List EdgeRow
  rows = kept_rows i p s t hats h ++ new_rows i p s t hats h

  -- the pipes
  abbrev pub stay : List Pipe
  stay = other_pipes i (p.name ∷ [])

  -- the pipes of the parts of the first end
  abbrev pub pipes_a : List Pipe
  pipes_a = part_pipes (hat i p s t hats h) s.names s.outer s.inner s.parts

  -- and of the second
  abbrev pub pipes_b : List Pipe
  pipes_b = part_pipes (λ y. hat i p s t hats h (partner p p.b y)) t.names t.outer t.inner t.parts

  -- all pipes, before they are put in order
  abbrev pub pipes : List Pipe
  pipes = stay ++ pipes_a ++ pipes_b

  -- without the pipe the rules hold
  fewer : IsSynchronized record { verts = i.verts; edges = i.edges; pipes = stay }
  fewer = IsSynchronized-fewer_pipes i (λ q. not (has (p.name ∷ []) q.name)) h.rules

  -- the names of all pipes
  names_of_all_pipes : map (λ q. q.name) pipes ≡ map (λ q. q.name) stay ++ (s.names ++ t.names)
  names_of_all_pipes =
      map-append (λ (q : Pipe). q.name) (stay ++ pipes_a) pipes_b
      ∙ ap (λ ns. ns ++ map (λ (q : Pipe). q.name) pipes_b) (map-append (λ (q : Pipe). q.name) stay pipes_a)
      ∙ ap₂ (λ ms ns. (map (λ (q : Pipe). q.name) stay ++ ms) ++ ns)
      (names_of_pipes (hat i p s t hats h) s.names s.outer s.inner s.parts h.parted.first_end.name_each
      h.parted.first_end.outer_each h.parted.first_end.inner_each)
      (names_of_pipes (λ y. hat i p s t hats h (partner p p.b y)) t.names t.outer t.inner t.parts
      h.parted.second_end.name_each h.parted.second_end.outer_each h.parted.second_end.inner_each)
      ∙ append_assoc (map (λ (q : Pipe). q.name) stay) s.names t.names

  -- a pipe that stays was live
  stay_live : (n : ℕ) → Has n (map (λ q. q.name) stay) → Contains (pipe_names i) n
  stay_live n k =
      let same = names_kept (λ (q : Pipe). q.name) (λ q. not (has (p.name ∷ []) q.name)) (λ m. not (has (p.name ∷ []) m)) i.pipes
      (λ j d lt. refl) in
      (Has-Contains n (pipe_names i)).0 (Has-kept (λ m. not (has (p.name ∷ []) m)) (pipe_names i) n (subst (Has n) same k)).0

  -- no name of a pipe stands twice
  pipes_once : Distinct (map (λ q. q.name) stay ++ (s.names ++ t.names))
  pipes_once =
      Distinct-append (map (λ q. q.name) stay) (s.names ++ t.names)
      (Distinct-rising (map (λ q. q.name) stay) fewer.pipes_named.rise)
      (fresh_once (pipe_names i) (s.names ++ t.names) h.parted.new_pipes)
      (λ d k. Lacks-from d (s.names ++ t.names) (λ l. fresh_other (pipe_names i) (s.names ++ t.names) d d
      h.parted.new_pipes l (stay_live d k) refl))

  -- the cells fit as before
  cells_fit : All (λ c. c < 2 ^ 63) (flat_map (λ v. cell_of v.kind) after.verts)
  cells_fit =
      All-values (λ c. c < 2 ^ 63) (λ (v : Vert). cell_of v.kind) after.verts
      (All-permutation (λ (v : Vert). All (λ c. c < 2 ^ 63) (cell_of v.kind)) verts after.verts (by_name_keeps (λ v. v.name) verts)
      (All-append (λ (v : Vert). All (λ c. c < 2 ^ 63) (cell_of v.kind)) others (map free_vert fresh)
      (All-filter (λ (v : Vert). keeps v.name) (λ (v : Vert). All (λ c. c < 2 ^ 63) (cell_of v.kind)) i.verts
      (All-by_item (λ c. c < 2 ^ 63) (λ (v : Vert). cell_of v.kind) i.verts h.rules.cells_fit))
      (All-map (λ (v : Vert). All (λ c. c < 2 ^ 63) (cell_of v.kind)) free_vert fresh (λ k d lt. All-nil (λ c. c < 2 ^ 63)))))

  -- the ends of edges
  end_live : (e : EdgeRow) (x : ℕ) → IsLiveRow i e → touch x e ≡ true
      → Contains (vert_names after) (to i p s t hats h e.name x)
  end_live e x live at =
      by_end i p s t hats h (Contains (vert_names after)) e x live at
      (λ a out. new_has (outer_a i p s t hats h e.name) (outer_a_new i p s t hats h (outer_a i p s t hats h e.name) out))
      (λ b out. new_has (outer_b i p s t hats h e.name) (outer_b_new i p s t hats h (outer_b i p s t hats h e.name) out))
      (λ na nb c. old_has x c na nb)

  -- the ends of all edges are there
  pub ends_live : All (λ e. Contains (vert_names after) e.a × Contains (vert_names after) e.b) after.edges
  ends_live =
      All-permutation live rows after.edges (by_name_keeps (λ e. e.name) rows)
      (All-append live (kept_rows i p s t hats h) (new_rows i p s t hats h)
      (All-map live (moved_row (to i p s t hats h)) i.edges (λ k d lt.
      let e = slice_index_or i.edges k d in
      let r = rows_live i h.rules k d lt in (
        end_live e e.a r (first_touch i p s t hats h e),
        end_live e e.b r (second_touch i p s t hats h e),
      )))
      (All-map live (row i p s t hats h) (edges_a i p s t hats h)
      (All-from_has (λ x. live (row i p s t hats h x)) (edges_a i p s t hats h) (λ x k. (
        new_has (inner_a i p s t hats h x) (inner_a_new i p s t hats h (inner_a i p s t hats h x) (inner_a_has i p s t hats h x k)),
        new_has (inner_b i p s t hats h x) (inner_b_new i p s t hats h (inner_b i p s t hats h x) (inner_b_has i p s t hats h x k)),
      )))))
    where
      live : EdgeRow → Type 0
      live e = Contains (vert_names after) e.a × Contains (vert_names after) e.b

  -- the ends of a moved edge differ
  ends_apart_in : (e : EdgeRow) → IsLiveRow i e → to i p s t hats h e.name e.a ≢ to i p s t hats h e.name e.b
  ends_apart_in e r =
      by_end i p s t hats h (λ y. y ≢ to i p s t hats h e.name e.b) e e.a r (first_touch i p s t hats h e)
      (λ a out. by_end i p s t hats h (λ z. oa ≢ z) e e.b r (second_touch i p s t hats h e)
      (λ a' out'. absurd (r.differ (a ∙ sym a')))
      (λ b' out'. (apart i p s t hats h).first_third oa ob out out')
      (λ na nb c. λ same. old_other i p s t hats h e.b oa c (outer_a_new i p s t hats h oa out) (sym same)))
      (λ b out. by_end i p s t hats h (λ z. ob ≢ z) e e.b r (second_touch i p s t hats h e)
      (λ a' out'. λ same. (apart i p s t hats h).first_third oa ob out' out (sym same))
      (λ b' out'. absurd (r.differ (b ∙ sym b')))
      (λ na nb c. λ same. old_other i p s t hats h e.b ob c (outer_b_new i p s t hats h ob out) (sym same)))
      (λ ma mb c. by_end i p s t hats h (λ z. e.a ≢ z) e e.b r (second_touch i p s t hats h e)
      (λ a' out'. old_other i p s t hats h e.a oa c (outer_a_new i p s t hats h oa out'))
      (λ b' out'. old_other i p s t hats h e.a ob c (outer_b_new i p s t hats h ob out'))
      (λ na nb c'. r.differ))
    where
      oa : ℕ
      oa = outer_a i p s t hats h e.name

      ob : ℕ
      ob = outer_b i p s t hats h e.name

  -- and so do those of all edges
  pub ends_differ : All (λ e. e.a ≢ e.b) after.edges
  ends_differ =
      All-permutation (λ (e : EdgeRow). e.a ≢ e.b) rows after.edges (by_name_keeps (λ e. e.name) rows)
      (All-append (λ (e : EdgeRow). e.a ≢ e.b) (kept_rows i p s t hats h) (new_rows i p s t hats h)
      (All-map (λ (e : EdgeRow). e.a ≢ e.b) (moved_row (to i p s t hats h)) i.edges
      (λ k d lt. ends_apart_in (slice_index_or i.edges k d) (rows_live i h.rules k d lt)))
      (All-map (λ (e : EdgeRow). e.a ≢ e.b) (row i p s t hats h) (edges_a i p s t hats h)
      (All-from_has (λ x. inner_a i p s t hats h x ≢ inner_b i p s t hats h x) (edges_a i p s t hats h)
      (λ x k. (apart i p s t hats h).second_fourth (inner_a i p s t hats h x) (inner_b i p s t hats h x)
      (inner_a_has i p s t hats h x k) (inner_b_has i p s t hats h x k)))))

  -- the kinds of all vertices are right
  lists_right : All (λ v. IsRightKind (graph after) v.name v.kind) after.verts
  lists_right =
      All-permutation (λ (v : Vert). IsRightKind (graph after) v.name v.kind) verts after.verts (by_name_keeps (λ v. v.name) verts)
      (All-append (λ (v : Vert). IsRightKind (graph after) v.name v.kind) others (map free_vert fresh)
      (λ k d lt.
      let v = slice_index_or others k d in
      let off = keeps_other v.name (filter_passes (λ (w : Vert). keeps w.name) i.verts k d lt) in
      let live = All-filter (λ (w : Vert). keeps w.name) (λ (w : Vert). Contains (vert_names i) w.name) i.verts verts_live k d lt in
      kind_kept (graph i) (graph after) v.name v.kind (edges_of_old i p s t hats h v.name live off.0 off.1)
      (All-filter (λ (w : Vert). keeps w.name) (λ (w : Vert). IsRightKind (graph i) w.name w.kind) i.verts h.rules.lists_right k d lt))
      (All-map (λ (v : Vert). IsRightKind (graph after) v.name v.kind) free_vert fresh (λ k d lt. tt)))
    where
      verts_live : All (λ (w : Vert). Contains (vert_names i) w.name) i.verts
      verts_live k d lt =
          subst (Contains (vert_names i)) (get_or-map (λ (w : Vert). w.name) i.verts k d 0 lt)
          ((Has-Contains (slice_index (vert_names i) k) (vert_names i)).0
          (Has_at (vert_names i) k (omega (arith, lt, length-map i.verts (λ (w : Vert). w.name)))))

  -- the kinds of vertices
  kind_old : (n : ℕ) → n ≢ p.a → n ≢ p.b → kind_in i.verts n ≡ Some P → kind_in after.verts n ≡ Some P
  kind_old n na nb e =
      ap (option_map (λ x. x.kind))
      (under-by_name (λ v. v.name) n verts (distinct_from (map (λ v. v.name) verts) (subst Distinct (sym names_of_verts) verts_once))
      ∙ find-append (λ v. eqb v.name n) others (map free_vert fresh)
      ∙ ap (λ o. option_or o (find (λ v. eqb v.name n) (map free_vert fresh))) (found_kept keeps n (other_keeps n na nb) i.verts))
      ∙ found_or (find (λ v. eqb v.name n) i.verts) (find (λ v. eqb v.name n) (map free_vert fresh)) e

  -- and a new vertex is a P-vertex
  kind_new : (n : ℕ) → Has n fresh → kind_in after.verts n ≡ Some P
  kind_new n k =
      ap (option_map (λ x. x.kind))
      (under-by_name (λ v. v.name) n verts (distinct_from (map (λ v. v.name) verts) (subst Distinct (sym names_of_verts) verts_once))
      ∙ find-append (λ v. eqb v.name n) others (map free_vert fresh)
      ∙ ap (λ o. option_or o (find (λ v. eqb v.name n) (map free_vert fresh))) (none_found n others off)
      ∙ found_free n fresh k)
    where
      off : has (map (λ v. v.name) others) n ≡ false
      off = has_not (map (λ v. v.name) others) n
          (λ m. old_other i p s t hats h n n
          ((Has-Contains n (vert_names i)).0 (Has-kept keeps (vert_names i) n
          (subst (Has n) (names_kept (λ (v : Vert). v.name) (λ v. keeps v.name) keeps i.verts (λ j d lt. refl)) m)).0) k refl)

  -- no other pipe has an end of the pipe
  pub others_off : All (λ q. (q.a ≢ p.a) × (q.a ≢ p.b) × (q.b ≢ p.a) × (q.b ≢ p.b)) stay
  others_off = others_apart p.name p i.pipes h.rules.ends_apart h.live

  -- the outer vertex of a part of the first end
  outer_a_at : (k : ℕ) → k < length s.parts → Has (slice_index s.outer k) s.outer
  outer_a_at k lt = Has_at s.outer k (omega (arith, lt, h.parted.first_end.outer_each))

  -- the inner one
  inner_a_at : (k : ℕ) → k < length s.parts → Has (slice_index s.inner k) s.inner
  inner_a_at k lt = Has_at s.inner k (omega (arith, lt, h.parted.first_end.inner_each))

  -- the outer vertex of a part of the second end
  outer_b_at : (k : ℕ) → k < length t.parts → Has (slice_index t.outer k) t.outer
  outer_b_at k lt = Has_at t.outer k (omega (arith, lt, h.parted.second_end.outer_each))

  -- and the inner one
  inner_b_at : (k : ℕ) → k < length t.parts → Has (slice_index t.inner k) t.inner
  inner_b_at k lt = Has_at t.inner k (omega (arith, lt, h.parted.second_end.inner_each))

  -- what holds of the pipes that stay and of those of the parts holds of all
  pub All-pipes : (holds : Pipe → Type 0) → All holds stay → All holds pipes_a → All holds pipes_b
      → All holds after.pipes
  All-pipes holds old first second =
      All-permutation holds pipes after.pipes (by_name_keeps (λ q. q.name) pipes)
      (All-append holds (stay ++ pipes_a) pipes_b (All-append holds stay pipes_a old first) second)

  -- the ends of all pipes are two different P-vertices
  ends_free : All (HasRightEnds after.verts) after.pipes
  ends_free =
      All-pipes (HasRightEnds after.verts)
      (λ k d lt.
      let off = others_off k d lt in
      let old = fewer.ends_free k d lt in
      let q = slice_index_or stay k d in
      record { differ = old.differ; free_a = kind_old q.a off.0 off.1 old.free_a; free_b = kind_old q.b off.2 off.3 old.free_b })
      (All-part_pipes (hat i p s t hats h) s.names s.outer s.inner s.parts h.parted.first_end.name_each
      h.parted.first_end.outer_each h.parted.first_end.inner_each (HasRightEnds after.verts)
      (λ k lt. record {
        differ = (apart i p s t hats h).first_second (slice_index s.outer k) (slice_index s.inner k) (outer_a_at k lt) (inner_a_at k lt);
        free_a = kind_new (slice_index s.outer k) (outer_a_new i p s t hats h (slice_index s.outer k) (outer_a_at k lt));
        free_b = kind_new (slice_index s.inner k) (inner_a_new i p s t hats h (slice_index s.inner k) (inner_a_at k lt));
      }))
      (All-part_pipes (λ y. hat i p s t hats h (partner p p.b y)) t.names t.outer t.inner t.parts
      h.parted.second_end.name_each h.parted.second_end.outer_each h.parted.second_end.inner_each (HasRightEnds after.verts)
      (λ k lt. record {
        differ = (apart i p s t hats h).third_fourth (slice_index t.outer k) (slice_index t.inner k) (outer_b_at k lt) (inner_b_at k lt);
        free_a = kind_new (slice_index t.outer k) (outer_b_new i p s t hats h (slice_index t.outer k) (outer_b_at k lt));
        free_b = kind_new (slice_index t.inner k) (inner_b_new i p s t hats h (slice_index t.inner k) (inner_b_at k lt));
      }))

  -- the ends of all pipes, in another order
  ends_in_order : IsPermutation (ends_of_all stay ++ fresh) (ends_of_all after.pipes)
  ends_in_order =
      IsPermutation-trans (ends_of_all stay ++ fresh) (ends_of_all pipes) (ends_of_all after.pipes)
      (subst (IsPermutation (ends_of_all stay ++ fresh)) (sym regroup)
      (IsPermutation-append_right (ends_of_all stay) fresh (ends_of_all pipes_a ++ ends_of_all pipes_b)
      (subst (λ zs. IsPermutation zs (ends_of_all pipes_a ++ ends_of_all pipes_b)) (sym (append_assoc (s.outer ++ s.inner) t.outer t.inner))
      (IsPermutation-append (s.outer ++ s.inner) (ends_of_all pipes_a) (t.outer ++ t.inner) (ends_of_all pipes_b)
      (ends_of_pipes (hat i p s t hats h) s.names s.outer s.inner s.parts h.parted.first_end.name_each
      h.parted.first_end.outer_each h.parted.first_end.inner_each)
      (ends_of_pipes (λ y. hat i p s t hats h (partner p p.b y)) t.names t.outer t.inner t.parts
      h.parted.second_end.name_each h.parted.second_end.outer_each h.parted.second_end.inner_each)))))
      (flat_by_name ends (λ q. q.name) pipes)
    where
      regroup : ends_of_all pipes ≡ ends_of_all stay ++ (ends_of_all pipes_a ++ ends_of_all pipes_b)
      regroup =
          flat_map-append ends (stay ++ pipes_a) pipes_b
          ∙ ap (λ zs. zs ++ ends_of_all pipes_b) (flat_map-append ends stay pipes_a)
          ∙ append_assoc (ends_of_all stay) (ends_of_all pipes_a) (ends_of_all pipes_b)

  -- the ends of pipes that stay were live
  stay_ends_live : (d : ℕ) → Has d (ends_of_all stay) → Contains (vert_names i) d
  stay_ends_live d k = from_pipes stay fewer.ends_free k
    where
      from_pipes : (qs : List Pipe) → All (HasRightEnds i.verts) qs → Has d (ends_of_all qs) → Contains (vert_names i) d
      from_pipes [] all m = elim m [ ]
      from_pipes (q ∷ qs) all m =
          let free = All-head (HasRightEnds i.verts) q qs all in
          ⊎_elim
          (λ a. subst (Contains (vert_names i)) a (kind_live i.verts q.a P free.free_a))
          (λ n. ⊎_elim
          (λ b. subst (Contains (vert_names i)) b (kind_live i.verts q.b P free.free_b))
          (λ l. from_pipes qs (All-tail (HasRightEnds i.verts) q qs all) l)
          n)
          m

  -- no two pipes share an end
  ends_apart : Distinct (ends_of_all after.pipes)
  ends_apart =
      Distinct-IsPermutation (ends_of_all stay ++ fresh) (ends_of_all after.pipes) ends_in_order
      (Distinct-append (ends_of_all stay) fresh fewer.ends_apart (new_once i p s t hats h)
      (λ d k. Lacks-from d fresh (λ l. old_other i p s t hats h d d (stay_ends_live d k) l refl)))

  -- the pairs of all pipes are right
  pairs_right : All (HasRightPairs (graph after)) after.pipes
  pairs_right =
      All-pipes (HasRightPairs (graph after))
      (λ k d lt.
      let off = others_off k d lt in
      let old = fewer.pairs_right k d lt in
      let free = fewer.ends_free k d lt in
      let q = slice_index_or stay k d in
      record {
        first = old.first ∙ sym (edges_of_old i p s t hats h q.a (kind_live i.verts q.a P free.free_a) off.0 off.1);
        second = subst (λ es. IsPermutation es (map (λ x. x.1) q.pairs))
            (sym (edges_of_old i p s t hats h q.b (kind_live i.verts q.b P free.free_b) off.2 off.3)) old.second;
      })
      (All-part_pipes (hat i p s t hats h) s.names s.outer s.inner s.parts h.parted.first_end.name_each
      h.parted.first_end.outer_each h.parted.first_end.inner_each (HasRightPairs (graph after))
      (λ k lt. record {
        first = firsts_of_pipe (hat i p s t hats h) (slice_index_or s.parts k []) ∙ sym (edges_of_outer_a i p s t hats h k lt);
        second = subst (IsPermutation (edges_of after (slice_index s.inner k)))
            (sym (seconds_of_pipe (hat i p s t hats h) (slice_index_or s.parts k []))) (edges_of_inner_a i p s t hats h k lt);
      }))
      (All-part_pipes (λ y. hat i p s t hats h (partner p p.b y)) t.names t.outer t.inner t.parts
      h.parted.second_end.name_each h.parted.second_end.outer_each h.parted.second_end.inner_each (HasRightPairs (graph after))
      (λ k lt. record {
        first = firsts_of_pipe (λ y. hat i p s t hats h (partner p p.b y)) (slice_index_or t.parts k [])
            ∙ sym (edges_of_outer_b i p s t hats h k lt);
        second = subst (IsPermutation (edges_of after (slice_index t.inner k)))
            (sym (seconds_of_pipe (λ y. hat i p s t hats h (partner p p.b y)) (slice_index_or t.parts k [])))
            (edges_of_inner_b i p s t hats h k lt);
      }))

  -- where there are so few names that the new ones are small
  module _ (few_verts : length (vert_names i) + length (new_verts s t) ≤ 2 ^ 63)
      (few_edges : length (edge_names i) + length hats ≤ 2 ^ 63)
      (few_pipes : length (pipe_names i) + length (s.names ++ t.names) ≤ 2 ^ 63) where
    -- numbers below a small one are small
    small_sum : (m n : ℕ) → m ≤ n → (ns : List ℕ) → All (λ x. x < m) ns → All (λ x. x < n) ns
    small_sum m n le ns all = All-weaker (λ x. x < m) (λ x. x < n) (λ x lt. omega (arith, lt, le)) ns all

    -- the names of vertices fit
    verts_fit : All (λ n. n < 2 ^ 63) (vert_names after)
    verts_fit =
        All-map-IsPermutation (λ (v : Vert). v.name) (λ n. n < 2 ^ 63) verts after.verts (by_name_keeps (λ v. v.name) verts)
        (subst (All (λ n. n < 2 ^ 63)) (sym names_of_verts)
        (All-append (λ n. n < 2 ^ 63) (filter keeps (vert_names i)) fresh
        (All-filter keeps (λ n. n < 2 ^ 63) (vert_names i) h.rules.verts_named.fit)
        (small_sum (length (vert_names i) + length fresh) (2 ^ 63) few_verts fresh
        (fresh_small (vert_names i) fresh h.parted.new_verts))))

    -- the names of edges fit
    edges_fit : All (λ n. n < 2 ^ 63) (edge_names after)
    edges_fit =
        All-map-IsPermutation (λ (e : EdgeRow). e.name) (λ n. n < 2 ^ 63) rows after.edges (by_name_keeps (λ e. e.name) rows)
        (subst (All (λ n. n < 2 ^ 63)) (sym (names_all i p s t hats h))
        (All-append (λ n. n < 2 ^ 63) (edge_names i) hats h.rules.edges_named.fit
        (small_sum (length (edge_names i) + length hats) (2 ^ 63) few_edges hats
        (fresh_small (edge_names i) hats h.hats_new))))

    -- and the names of pipes
    pipes_fit : All (λ n. n < 2 ^ 63) (pipe_names after)
    pipes_fit =
        All-map-IsPermutation (λ (q : Pipe). q.name) (λ n. n < 2 ^ 63) pipes after.pipes (by_name_keeps (λ q. q.name) pipes)
        (subst (All (λ n. n < 2 ^ 63)) (sym names_of_all_pipes)
        (All-append (λ n. n < 2 ^ 63) (map (λ q. q.name) stay) (s.names ++ t.names) fewer.pipes_named.fit
        (small_sum (length (pipe_names i) + length (s.names ++ t.names)) (2 ^ 63) few_pipes (s.names ++ t.names)
        (fresh_small (pipe_names i) (s.names ++ t.names) h.parted.new_pipes))))

    -- so the five rules hold
    pub IsSynchronized-joined : IsSynchronized (joined i p s t hats h)
    IsSynchronized-joined = record {
      verts_named = record { rise = IsStrictlyIncreasing-from_test (vert_names after) verts_rise; fit = verts_fit };
      edges_named = record {
        rise = IsStrictlyIncreasing-from_test (edge_names after)
            (rises-by_name (λ e. e.name) rows (names_differ i p s t hats h));
        fit = edges_fit;
      };
      pipes_named = record {
        rise = IsStrictlyIncreasing-from_test (pipe_names after)
            (rises-by_name (λ q. q.name) pipes
            (distinct_from (map (λ q. q.name) pipes) (subst Distinct (sym names_of_all_pipes) pipes_once)));
        fit = pipes_fit;
      };
      cells_fit = cells_fit;
      ends_live = ends_live;
      ends_differ = ends_differ;
      lists_right = lists_right;
      ends_free = ends_free;
      ends_apart = ends_apart;
      pairs_right = pairs_right;
    }
