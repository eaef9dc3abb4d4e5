-- The parts of a store after the exchanges and moves of a rewrite are those of the rewritten instance.
use Rattle.std.proofs.Common.{◌≡◌, ℕ, ◌+◌, ◌<◌, true, false, not, List, [], ◌++◌, length, map, slice_index_or, sym, ap, ◌∙◌, subst, subst₂, arith}
use Rattle.std.specs.Prelude.{filter, take}
use Rattle.std.specs.List.{All, Contains, range_with_len}
use Rattle.std.specs.List.Sorted.{IsStrictlyIncreasing}
use Rattle.std.proofs.lemmas.List.{get_or-take, length-take, map-append}
use Rattle.std.proofs.lemmas.List.Elements.{All-append}
use Rattle.std.proofs.lemmas.List.FromFn.{get_or-range_with_len, length-range_with_len}
use Rattle.std.proofs.lemmas.List.Kept.{IsStrictlyIncreasing-filter}
use Rattle.cp_board.specs.declared.parts.Vert.{Vert}
use Rattle.cp_board.specs.declared.parts.Pipe.{Pipe}
use Rattle.cp_board.specs.declared.rewrite.Rewrite.{Rewrite}
use Rattle.cp_board.specs.Names.{has, AreNew}
use Rattle.cp_board.specs.Instances.{Synchronized, IsSynchronized, vert_names, edge_names, pipe_names, names_of_edges, names_of_verts}
use Rattle.cp_board.specs.Rewrites.{after_moves, rewritten, IsRewriteOf, verts_with}
use Rattle.cp_board.proofs.ListTests.{rises, distinct}
use Rattle.cp_board.proofs.NamedLists.{rises_from, distinct_from_rises}
use Rattle.cp_board.proofs.NewNames.{new_names-dead}
use Rattle.cp_store.specs.declared.parts.Change.{Change}
use Rattle.cp_store.specs.Exchanges.{taken_back, HasItsName}
use Rattle.cp_store.specs.Rewriting.{kept, gone, vert_changes, edge_changes, pipe_changes}
use Rattle.cp_store.specs.Parts.{IsPlanOf}
use Rattle.cp_sync.proofs.Moves.{names-after_moves, moves_live}
use Rattle.cp_store.proofs.EdgeMoves.{row_name}
use Rattle.cp_store.proofs.RewrittenItems.{taken_back-new, pipes-exchanged, verts-exchanged, has-at, All-kept, All-gone}
use Rattle.cp_store.proofs.StoredStates.{same_parts}

-- the numbers from 0 on rise
range_rises : (m : ℕ) → IsStrictlyIncreasing (range_with_len 0 m)
range_rises m k lt =
    let within : k + 1 < m = omega (arith, lt, length-range_with_len 0 m) in
    omega (arith, get_or-range_with_len 0 m k 0 (omega (arith, within)), get_or-range_with_len 0 m (k + 1) 0 within)

-- the first of numbers that rise
rising-take : (n : ℕ) (xs : List ℕ) → IsStrictlyIncreasing xs → IsStrictlyIncreasing (take n xs)
rising-take n xs up k lt =
    let size = length-take n xs in
    subst₂ (λ x y. x < y) (sym (get_or-take n xs k 0 (omega (arith, lt, size))))
    (sym (get_or-take n xs (k + 1) 0 (omega (arith, lt, size))))
    (up k (omega (arith, lt, size)))

-- new names rise
new_names-rise : (live names : List ℕ) → AreNew live names → IsStrictlyIncreasing names
new_names-rise live names new =
    subst IsStrictlyIncreasing (sym new)
    (rising-take (length names) (filter (λ k. not (has live k)) (range_with_len 0 (length live + length names)))
    (IsStrictlyIncreasing-filter (λ k. not (has live k)) (range_with_len 0 (length live + length names))
    (range_rises (length live + length names))))

-- items of new names have different ones
new_names-distinct : {A : Type 0} (name : A → ℕ) (live : List ℕ) (xs : List A) → AreNew live (map name xs)
    → distinct (map name xs) ≡ true
new_names-distinct name live xs new =
    distinct_from_rises name xs (rises_from (map name xs) (new_names-rise live (map name xs) new))

-- a number of a list is in it
pub has-Contains : (xs : List ℕ) (x : ℕ) → Contains xs x → has xs x ≡ true
has-Contains xs x c = subst (λ n. has xs n ≡ true) c.2 (has-at xs c.0 x c.1)

module _ (i : Synchronized) (w : Rewrite) (is : IsSynchronized i) (fits : IsRewriteOf i w) where
  -- the exchanges of vertices give those of the rewritten instance
  verts-rewritten : taken_back (λ v. v.name) (vert_changes w) i.verts ≡ (rewritten w i).verts
  verts-rewritten =
      verts-exchanged i.verts w.add_verts w.set_kinds w.drop_verts (rises_from (vert_names i) is.verts_named.rise)
      (new_names-distinct (λ (v : Vert). v.name) (vert_names i) w.add_verts fits.new_verts)
      (new_names-dead (vert_names i) (names_of_verts w.add_verts) fits.new_verts)
      (λ k d lt. subst (λ ns. has ns (slice_index_or w.set_kinds k d).name ≡ true)
      (sym (map-append (λ (v : Vert). v.name) i.verts w.add_verts))
      (has-Contains (verts_with w i) (slice_index_or w.set_kinds k d).name (fits.kinds_live k d lt).0))

  -- those of edges give its edges, after the moves
  edges-rewritten : taken_back row_name (edge_changes w) (after_moves w.moves i.edges) ≡ (rewritten w i).edges
  edges-rewritten =
      let same = names-after_moves w.moves i.edges in
      (taken_back-new row_name w.add_edges (after_moves w.moves i.edges)
      (subst (λ ns. rises ns ≡ true) (sym same) (rises_from (edge_names i) is.edges_named.rise))
      (new_names-distinct row_name (edge_names i) w.add_edges fits.new_edges)
      (subst (λ ns. All (λ n. has ns n ≡ false) (names_of_edges w.add_edges)) (sym same)
      (new_names-dead (edge_names i) (names_of_edges w.add_edges) fits.new_edges))).0

  -- and those of pipes its pipes
  pipes-rewritten : taken_back (λ p. p.name) (pipe_changes w) i.pipes ≡ (rewritten w i).pipes
  pipes-rewritten =
      pipes-exchanged i.pipes w.add_pipes w.drop_pipes (rises_from (pipe_names i) is.pipes_named.rise)
      (new_names-distinct (λ (p : Pipe). p.name) (pipe_names i) w.add_pipes fits.new_pipes)
      (new_names-dead (pipe_names i) (map (λ p. p.name) w.add_pipes) fits.new_pipes)

  -- what the exchanges of the plan and the moves give
  pub told-rewritten : (plan : Change) (j : Synchronized) → IsPlanOf w plan
      → j.verts ≡ taken_back (λ v. v.name) plan.verts.items i.verts
      → j.edges ≡ taken_back (λ e. e.name) plan.edges.items (after_moves w.moves i.edges)
      → j.pipes ≡ taken_back (λ p. p.name) plan.pipes.items i.pipes
      → j ≡ rewritten w i
  told-rewritten plan j is_plan vs es ps =
      same_parts j (rewritten w i)
      (vs ∙ ap (λ xs. taken_back (λ v. v.name) xs i.verts) is_plan.verts ∙ verts-rewritten)
      (es ∙ ap (λ xs. taken_back (λ e. e.name) xs (after_moves w.moves i.edges)) is_plan.edges ∙ edges-rewritten)
      (ps ∙ ap (λ xs. taken_back (λ p. p.name) xs i.pipes) is_plan.pipes ∙ pipes-rewritten)

  -- the moves name live edges
  pub moves-live : All (λ m. has (names_of_edges i.edges) m.edge ≡ true) w.moves
  moves-live k d lt =
      has-Contains (names_of_edges i.edges) (slice_index_or w.moves k d).edge
      (moves_live (verts_with w i) i.edges w.moves fits.moves k d lt)

-- the entries of a plan have the names of their items
pub plan-named : (w : Rewrite) (plan : Change) → IsPlanOf w plan
    → All (HasItsName (λ v. v.name)) plan.verts.items × All (HasItsName (λ e. e.name)) plan.moved.items
    × All (HasItsName (λ e. e.name)) plan.edges.items × All (HasItsName (λ p. p.name)) plan.pipes.items
plan-named w plan is =
    let vert : Vert → ℕ = λ v. v.name in
    let pipe : Pipe → ℕ = λ p. p.name in (
      subst (All (HasItsName vert)) (sym is.verts)
          (All-append (HasItsName vert) (map gone w.drop_verts ++ map (kept vert) w.set_kinds)
          (map (kept vert) w.add_verts)
          (All-append (HasItsName vert) (map gone w.drop_verts) (map (kept vert) w.set_kinds)
          (All-gone vert w.drop_verts) (All-kept vert w.set_kinds))
          (All-kept vert w.add_verts)),
      subst (All (HasItsName row_name)) (sym is.moved) (All-kept row_name []),
      subst (All (HasItsName row_name)) (sym is.edges) (All-kept row_name w.add_edges),
      subst (All (HasItsName pipe)) (sym is.pipes)
          (All-append (HasItsName pipe) (map (kept pipe) w.add_pipes) (map gone w.drop_pipes)
          (All-kept pipe w.add_pipes) (All-gone pipe w.drop_pipes)),
    )
