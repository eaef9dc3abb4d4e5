-- A stored solution after Join is turned back: what the steps of the program ask for, and that they give a solution.
use Rattle.std.proofs.Common.{◌≡◌, ◌≢◌, ℕ, ◌*◌, ◌^◌, ◌<◌, cond, eqb, List, [], ◌∷◌, length, map, reverse, slice_index, take, sym, refl, ap, ◌∙◌, subst, ⊎_elim, arith}
use Rattle.std.specs.Prelude.{Some}
use Rattle.std.specs.List.{All, Contains}
use Rattle.std.specs.List.Sorted.{IsStrictlyIncreasing}
use Rattle.std.proofs.lemmas.List.{get_or-take, get_or_default, length-take-le}
use Rattle.std.proofs.lemmas.List.Elements.{All-map}
use Rattle.std.specs.Option.{option_map_or}
use Rattle.std.proofs.lemmas.Bool.{cases_eq, cond-false, cond-true, eq-eqb, ne_eqb}
use Rattle.cp_lists.specs.CyclicLists.{Has}
use Rattle.cp_lists.proofs.DistinctLists.{Has-Contains, Has-append_left, Has-append_right}
use Rattle.cp_rot.specs.Genus.{HasGenusZero}
use Rattle.cp_rot.specs.Systems.{IsRotation}
use Rattle.cp_rotlaw.specs.SideOrders.{IsSideOf, IsSideOrder}
use Rattle.cp_board.specs.declared.parts.Pipe.{Pipe}
use Rattle.cp_board.specs.Names.{new_names}
use Rattle.cp_board.specs.Instances.{IsSynchronized, Synchronized, edge_names, graph, pairs_of, pipe_ends_of, pipe_named, vert_names}
use Rattle.cp_board.specs.Effects.{After}
use Rattle.cp_board.specs.Joins.{ArePartsAt}
use Rattle.cp_board.specs.Rotations.{system}
use Rattle.cp_board.specs.Solutions.{IsSolution, list_in}
use Rattle.cp_board.specs.Steps.{Allowed, partner}
use Rattle.cp_board.specs.declared.steps.Step.TheVariants.{Join}
use Rattle.cp_join.specs.InnerSystems.{HasInnerLists, first_back, first_marks, inner_system, second_back, with_orders}
use Rattle.cp_join.specs.Partings.{AreParted, new_verts}
use Rattle.cp_join.specs.declared.parted_ends.Parting.{Parting}
use Rattle.cp_conn.specs.NamedGraphs.{NamedGraph, edges_at, ends_at}
use Rattle.cp_conn.proofs.DistinctSubsets.{subset_length}
use Rattle.cp_conn.proofs.NamedGraphs.{edges_at-Contains}
use Rattle.std.proofs.lemmas.List.Kept.{IsStrictlyIncreasing-filter}
use Rattle.std.proofs.lemmas.List.Sorted.{length_permutation}
use Rattle.cp_join.proofs.PartLists.{all_of}
use Rattle.cp_join.proofs.EarlierSolutions.{Solves-earlier}
use Rattle.cp_join.proofs.FreshNames.{fresh_rise}
use Rattle.cp_join.proofs.InnerFits.{inner-HasGenusZero, inner-IsRotation, inner_listed, made_system}
use Rattle.cp_join.proofs.InnerSides.{first-IsSideOf, first_back-order, order-IsMergedSide, order-low, second_back-order}
use Rattle.cp_join.proofs.JoinNames.{HasPartings, inner_a_new, inner_b_new}
use Rattle.cp_join.proofs.JoinRewrites.{parts_small, parts_few}
use Rattle.cp_join.proofs.JoinedGraph.{joined}
use Rattle.cp_join.proofs.JoinedHalves.{inner_graph}
use Rattle.cp_join.proofs.JoinedOuter.{kept-Has}
use Rattle.cp_join.proofs.JoinedPipes.{told_partings}
use Rattle.cp_join.proofs.JoinedRules.{new_has, old_has}
use Rattle.cp_join.proofs.RisingLists.{rising_order, Distinct-rising}
use Rattle.cp_join.proofs.SameLists.{All-from_has}
use Rattle.cp_join.proofs.SolvableJoins.{allowed-large, some_part}
use Rattle.cp_join.proofs.UniqueJoins.{joined_as}

-- rows of names with their values: the names, and the list under a name
names_of_rows : (f : ℕ → List ℕ) (vs : List ℕ) → map (λ (x : ℕ × List ℕ). x.0) (map (λ v. (v, f v)) vs) ≡ vs
names_of_rows f [] = refl
names_of_rows f (v ∷ vs) = ap (λ ws. v ∷ ws) (names_of_rows f vs)

-- the row of a listed vertex holds its own list
list_of_row : (f : ℕ → List ℕ) (vs : List ℕ) (v : ℕ) → Has v vs → list_in (map (λ w. (w, f w)) vs) v ≡ f v
list_of_row f [] v m = absurd m
list_of_row f (w ∷ vs) v m = ⊎_elim
    (λ q. rw (eq-eqb w v q) (ap f q))
    (λ q. rw (ne_eqb w v q) (list_of_row f vs v (⊎_elim (λ l. absurd (q l)) (λ l. l) m)))
    (cases_eq w v)

-- a vertex has no more parts than the graph has edges
pub parts_bound : (g : NamedGraph) (u : ℕ) (parts : List (List ℕ)) → IsStrictlyIncreasing g.edges → ArePartsAt g u parts
    → length g.edges < 2 ^ 60 → length parts < 2 ^ 60
parts_bound g u parts rise are few =
    let most = subset_length (edges_at g u) g.edges
    (Distinct-rising (edges_at g u) (IsStrictlyIncreasing-filter (ends_at g u) g.edges rise))
    (λ d k. (Has-Contains d g.edges).1 (edges_at-Contains g u d ((Has-Contains d (edges_at g u)).0 k)).0) in
    omega (
      arith,
      parts_few parts are.filled,
      length_permutation (edges_at g u) (all_of parts) are.whole,
      most,
      few,
    )

-- the rows of numbers that rise are below the number behind them
pub rows_below : (f : ℕ → List ℕ) (vs : List ℕ) (k : ℕ) → IsStrictlyIncreasing vs → k < length vs
    → All (λ (row : ℕ × List ℕ). row.0 < slice_index vs k) (map (λ v. (v, f v)) (take k vs))
rows_below f vs k up lt = All-map (λ (row : ℕ × List ℕ). row.0 < slice_index vs k) (λ v. (v, f v)) (take k vs)
    (λ j d low.
    let size = length-take-le k vs (omega (arith, lt)) in
    let before : j < k = omega (arith, low, size) in
    let there = get_or-take k vs j d before ∙ get_or_default vs j d 0 (omega (arith, before, lt)) in
    let less = rising_order vs up j k before lt in
    omega (arith, there, less))

module _ (i : Synchronized) (p : Pipe) (s t : Parting) (hats : List ℕ) (h : HasPartings i p s t hats)
    (some : 0 < length s.parts) (few_verts : length (vert_names i) < 2 ^ 60)
    (few_edges : length (edge_names i) < 2 ^ 60)
    (after : List (ℕ × List ℕ)) (is : IsSolution (joined i p s t hats h) after) where
  -- the lists after Join
  abbrev r : ℕ → List ℕ
  r = list_in after

  -- a new vertex has a list
  new_named : (v : ℕ) → Has v (new_verts s t) → Contains (map (λ row. row.0) after) v
  new_named v m = subst (λ ns. Contains ns v) (sym is.names) (new_has i p s t hats h v m)

  -- the solution has what its turning back asks for
  pub solution-HasInnerLists : HasInnerLists p.pairs hats s t after
  solution-HasInnerLists = record {
    few_first = parts_small i p s t hats h few_verts few_edges p.a s.parts h.parts_a;
    few_second = parts_small i p s t hats h few_verts few_edges p.b t.parts h.parts_b;
    rising = fresh_rise (edge_names i) hats h.hats_new;
    first_names = All-from_has (Contains (map (λ row. row.0) after)) s.inner
        (λ v m. new_named v (inner_a_new i p s t hats h v m));
    second_names = All-from_has (Contains (map (λ row. row.0) after)) t.inner
        (λ v m. new_named v (inner_b_new i p s t hats h v m));
    first_edges = All-from_has (λ v. All (Contains hats) (r v)) s.inner (λ v m. All-from_has (Contains hats) (r v)
        (λ e k. inner_listed i p s t hats h r is.solves v e (Has-append_left v s.inner t.inner m) k));
    second_edges = All-from_has (λ v. All (Contains hats) (r v)) t.inner (λ v m. All-from_has (Contains hats) (r v)
        (λ e k. inner_listed i p s t hats h r is.solves v e (Has-append_right v s.inner t.inner m) k));
    rotation = subst IsRotation (sym (made_system i p s t hats h r is.solves))
        (inner-IsRotation i p s t hats h r is.solves);
    flat = subst HasGenusZero (sym (made_system i p s t hats h r is.solves))
        (inner-HasGenusZero i p s t hats h r is.solves);
    sides = subst (λ z. IsSideOf z (first_marks s t)) (sym (made_system i p s t hats h r is.solves))
        (first-IsSideOf i p s t hats h r is.solves some);
  }

  -- an order of the new edges for it, and the lists before Join that it gives
  module _ (order : List ℕ) (side : IsSideOrder (inner_system p.pairs hats s t (list_in after)) (first_marks s t)
      order) where
    -- the order is one for the system of the inner vertices
    pub is_order : IsSideOrder (system (inner_graph i p s t hats h) r) (first_marks s t) order
    is_order = subst (λ z. IsSideOrder z (first_marks s t) order) (made_system i p s t hats h r is.solves) side

    -- the lists before Join
    abbrev lists : ℕ → List ℕ
    lists = with_orders p.a p.b (first_back p.pairs order) (second_back p.pairs order) r

    -- its rows
    abbrev rows : List (ℕ × List ℕ)
    rows = map (λ v. (v, lists v)) (vert_names i)

    -- the row of a vertex of the instance has its list before Join
    at : (v : ℕ) → Contains (vert_names i) v → list_in rows v ≡ lists v
    at v c = list_of_row lists (vert_names i) v ((Has-Contains v (vert_names i)).1 c)

    -- the row of the first end has the order that is given back for it
    at_first : list_in rows p.a ≡ first_back p.pairs order
    at_first = at p.a h.live_a
        ∙ cond-true (eqb p.a p.a) (first_back p.pairs order) (cond (eqb p.a p.b) (second_back p.pairs order) (r p.a))
        (eq-eqb p.a p.a refl)

    -- and so has that of the second end
    at_second : list_in rows p.b ≡ second_back p.pairs order
    at_second = at p.b h.live_b
        ∙ cond-false (eqb p.b p.a) (first_back p.pairs order) (cond (eqb p.b p.b) (second_back p.pairs order) (r p.b))
        (ne_eqb p.b p.a (λ q. h.ends.differ (sym q)))
        ∙ cond-true (eqb p.b p.b) (second_back p.pairs order) (r p.b) (eq-eqb p.b p.b refl)

    -- they are a solution before it
    pub IsSolution-earlier : IsSolution i (map (λ v.
        (v, with_orders p.a p.b (first_back p.pairs order) (second_back p.pairs order) (list_in after) v))
        (vert_names i))
    IsSolution-earlier = record {
      names = names_of_rows lists (vert_names i);
      solves = Solves-earlier i p s t hats h r is.solves (map (λ k. 2 * k) order)
          (order-IsMergedSide i p s t hats h r is.solves order is_order) (list_in rows)
          (at_first ∙ first_back-order i p s t hats h r is.solves order is_order)
          (at_second ∙ second_back-order i p s t hats h r is.solves order is_order
          ∙ ap (λ zs. reverse (map (partner p p.a) zs)) (first_back-order i p s t hats h r is.solves order is_order))
          (λ v k.
          let off = kept-Has i p s t hats h v k in
          at v off.0
          ∙ cond-false (eqb v p.a) (first_back p.pairs order) (cond (eqb v p.b) (second_back p.pairs order) (r v))
          (ne_eqb v p.a off.1)
          ∙ cond-false (eqb v p.b) (second_back p.pairs order) (r v) (ne_eqb v p.b off.2));
    }

-- a board's answers: the ends and the pairs of a pipe that may be joined, its parts and new names, and a solution of
-- what the step makes of the instance
module _ (i : Synchronized) (pipe : ℕ) (is : IsSynchronized i) (allowed : Allowed i (Join pipe)) (j : Synchronized)
    (step : After i (Join pipe) j) (few_verts : length (vert_names i) < 2 ^ 60)
    (few_edges : length (edge_names i) < 2 ^ 60) (ends : ℕ × ℕ) (pairs : List (ℕ × ℕ))
    (same_ends : ends ≡ pipe_ends_of i pipe)
    (same_pairs : pairs ≡ pairs_of i pipe) (pa pb : List (List ℕ)) (s t : Parting) (hats : List ℕ)
    (are_a : ArePartsAt (graph i) ends.0 pa) (are_b : ArePartsAt (graph i) ends.1 pb) (parted : AreParted i pa pb s t)
    (asked : hats ≡ new_names (edge_names i) (length pairs)) (after : List (ℕ × List ℕ))
    (solution : IsSolution j after) where
  -- the pipe
  abbrev p : Pipe
  p = step.0

  -- the instance has it under the given name
  abbrev live : pipe_named i pipe ≡ Some step.0
  live = step.1

  -- the partings
  partings : HasPartings i step.0 s t hats
  partings = told_partings i pipe p is live ends pairs same_ends same_pairs pa pb s t hats are_a are_b parted asked

  -- the solution is one of what is made with them
  solution_of_joined : IsSolution (joined i step.0 s t hats partings) after
  solution_of_joined =
      subst (λ x. IsSolution x after) (joined_as i pipe p j is live step.2 s t hats partings) solution

  -- the first end has a part
  some : 0 < length s.parts
  some = some_part i p s t hats partings (allowed-large i pipe j allowed step)

  -- so the solution has the lists of the inner vertices
  pub told-HasInnerLists : HasInnerLists pairs hats s t after
  told-HasInnerLists = subst (λ xs. HasInnerLists xs hats s t after)
      (sym (same_pairs ∙ ap (λ o. option_map_or (λ (x : Pipe). x.pairs) o []) live))
      (solution-HasInnerLists i p s t hats partings some few_verts few_edges after solution_of_joined)

  -- a vertex that is no end of the pipe has a list
  pub told-names : All (λ v. v ≢ ends.0 → v ≢ ends.1 → Contains (map (λ row. row.0) after) v) (vert_names i)
  told-names = All-from_has (λ v. v ≢ ends.0 → v ≢ ends.1 → Contains (map (λ row. row.0) after) v) (vert_names i)
      (λ v m na nb. subst (λ ns. Contains ns v) (sym solution_of_joined.names)
      (old_has i p s t hats partings v ((Has-Contains v (vert_names i)).0 m)
      (λ q. na (q ∙ sym (ap (λ (x : ℕ × ℕ). x.0) are_ends))) (λ q. nb (q ∙ sym (ap (λ (x : ℕ × ℕ). x.1) are_ends)))))
    where
      are_ends : ends ≡ (p.a, p.b)
      are_ends = same_ends ∙ ap (λ o. option_map_or (λ (x : Pipe). (x.a, x.b)) o (0, 0)) live

  -- an order for the inner vertices
  module _ (order : List ℕ) (side : IsSideOrder (inner_system pairs hats s t (list_in after)) (first_marks s t) order)
    where
      -- the pairs of the pipe
      are_pairs : pairs ≡ p.pairs
      are_pairs = same_pairs ∙ ap (λ o. option_map_or (λ (x : Pipe). x.pairs) o []) live

      -- the order by these
      own_side : IsSideOrder (inner_system p.pairs hats s t (list_in after)) (first_marks s t) order
      own_side = subst (λ xs. IsSideOrder (inner_system xs hats s t (list_in after)) (first_marks s t) order) are_pairs
          side

      -- its items are places of pairs
      pub told-low : All (λ k. k < length pairs) order
      told-low = All-from_has (λ k. k < length pairs) order (λ k m.
          let low = order-low i p s t hats partings (list_in after) solution_of_joined.solves order
          (is_order i p s t hats partings some few_verts few_edges after solution_of_joined order own_side) k m in
          omega (arith, low, partings.hats_each, ap length are_pairs))

      -- the lists that it gives are a solution before the step
      pub told-IsSolution : IsSolution i (map (λ v.
          (v, with_orders ends.0 ends.1 (first_back pairs order) (second_back pairs order) (list_in after) v))
          (vert_names i))
      told-IsSolution =
          subst (λ (x : ℕ × ℕ). IsSolution i (map (λ v.
          (v, with_orders x.0 x.1 (first_back pairs order) (second_back pairs order) (list_in after) v))
          (vert_names i)))
          (sym (same_ends ∙ ap (λ o. option_map_or (λ (x : Pipe). (x.a, x.b)) o (0, 0)) live))
          (subst (λ xs. IsSolution i (map (λ v.
          (v, with_orders p.a p.b (first_back xs order) (second_back xs order) (list_in after) v)) (vert_names i)))
          (sym are_pairs) (IsSolution-earlier i p s t hats partings some few_verts few_edges after solution_of_joined
          order own_side))
