-- The rows of live names, and what the rules tell of them.
use Rattle.std.proofs.Common.{◌≡◌, ◌≢◌, ℕ, ◌<◌, true, ◌||◌, eqb, List, length, slice_index_or, sym, ap, ◌∙◌, subst, ⊎_elim, arith}
use Rattle.std.specs.Prelude.{Some}
use Rattle.std.specs.List.{All, Contains}
use Rattle.std.specs.Option.{option_map_or}
use Rattle.std.proofs.lemmas.Bool.{cases_Bool, both_ways}
use Rattle.std.proofs.lemmas.List.{get_or-map, get_or_default, length-map}
use Rattle.cp_lists.proofs.DistinctLists.{Has-Contains}
use Rattle.cp_conn.specs.NamedGraphs.{ends_at}
use Rattle.cp_conn.proofs.NamedGraphs.{edges_at-Contains, Contains-edges_at}
use Rattle.cp_board.specs.declared.parts.EdgeRow.{EdgeRow}
use Rattle.cp_board.specs.Names.{has}
use Rattle.cp_board.specs.Instances.{Synchronized, IsSynchronized, edge_in, edge_names, edges_of, ends_of, graph, vert_names}
use Rattle.cp_board.proofs.EdgesOfVertices.{touch}
use Rattle.cp_board.proofs.ListTests.{Contains-from_has}
use Rattle.cp_board.proofs.NamedLists.{found_at, rises_from}
use Rattle.cp_plantlaw.proofs.FreshNames.{has-true}

-- the row of a live edge
pub edge_row : (i : Synchronized) → IsSynchronized i → (e : ℕ) → Contains (edge_names i) e
    → (row : EdgeRow) × Contains i.edges row × (row.name ≡ e) × (ends_of i e ≡ (row.a, row.b))
edge_row i is e c =
    let none : EdgeRow = record { name = 0; a = 0; b = 0 } in
    let row : EdgeRow = slice_index_or i.edges c.0 none in
    let within : c.0 < length i.edges = omega (arith, c.1, length-map i.edges (λ (x : EdgeRow). x.name)) in
    let named : row.name ≡ e =
    sym (get_or-map (λ (x : EdgeRow). x.name) i.edges c.0 none e within) ∙ c.2 in
    let found : edge_in i.edges e ≡ Some row =
    subst (λ n. edge_in i.edges n ≡ Some row) named
    (found_at (λ (x : EdgeRow). x.name) i.edges c.0 none (rises_from (edge_names i) is.edges_named.rise) within) in (
      row,
      (c.0, within, get_or_default i.edges c.0 row none within),
      named,
      ap (λ o. option_map_or (λ (x : EdgeRow). (x.a, x.b)) o (0, 0)) found,
    )

-- what the row of an edge tells
pub record IsLiveRow (i : Synchronized) (e : EdgeRow) : Type 0 where
  pub named : Contains (edge_names i) e.name
  pub told : ends_of i e.name ≡ (e.a, e.b)
  pub live_a : Contains (vert_names i) e.a
  pub live_b : Contains (vert_names i) e.b
  pub differ : e.a ≢ e.b

-- all rows are live
pub rows_live : (i : Synchronized) → IsSynchronized i → All (IsLiveRow i) i.edges
rows_live i is k d lt =
    let row : EdgeRow = slice_index_or i.edges k d in
    record {
      named = subst (Contains (edge_names i)) (get_or-map (λ (x : EdgeRow). x.name) i.edges k d 0 lt)
          (name_at (edge_names i) k (omega (arith, lt, length-map i.edges (λ (x : EdgeRow). x.name))));
      told = ap (λ o. option_map_or (λ (x : EdgeRow). (x.a, x.b)) o (0, 0))
          (found_at (λ (x : EdgeRow). x.name) i.edges k d (rises_from (edge_names i) is.edges_named.rise) lt);
      live_a = (is.ends_live k d lt).0;
      live_b = (is.ends_live k d lt).1;
      differ = is.ends_differ k d lt;
    }
  where
    name_at : (ns : List ℕ) (j : ℕ) → j < length ns → Contains ns (slice_index_or ns j 0)
    name_at ns j l = (j, l, get_or_default ns j (slice_index_or ns j 0) 0 l)

-- a row ends at a vertex exactly where its edge is one of the vertex
pub touch_is : (i : Synchronized) (e : EdgeRow) (v : ℕ) → IsLiveRow i e → touch v e ≡ ends_at (graph i) v e.name
touch_is i e v row = ap (λ (x : ℕ × ℕ). eqb x.0 v || eqb x.1 v) (sym row.told)

-- an edge whose row ends at a vertex is one of it
pub row_at : (i : Synchronized) (e : EdgeRow) (v : ℕ) → IsLiveRow i e → touch v e ≡ true
    → Contains (edges_of i v) e.name
row_at i e v row t = Contains-edges_at (graph i) v e.name row.named (sym (touch_is i e v row) ∙ t)

-- and the row of an edge of a vertex ends there
pub row_from : (i : Synchronized) (e : EdgeRow) (v : ℕ) → IsLiveRow i e → Contains (edges_of i v) e.name
    → touch v e ≡ true
row_from i e v row c = touch_is i e v row ∙ (edges_at-Contains (graph i) v e.name c).1

-- the edges of a vertex are exactly those whose rows end there
pub own_touch : (i : Synchronized) (u : ℕ) (e : EdgeRow) → IsLiveRow i e → has (edges_of i u) e.name ≡ touch u e
own_touch i u e row =
    ⊎_elim
    (λ t. has-true (edges_of i u) e.name ((Has-Contains e.name (edges_of i u)).1 (row_at i e u row t)) ∙ sym t)
    (λ f. ⊎_elim
    (λ t. absurd (both_ways (touch u e) f (row_from i e u row (Contains-from_has (edges_of i u) e.name t))))
    (λ g. g ∙ sym f)
    (cases_Bool (has (edges_of i u) e.name)))
    (cases_Bool (touch u e))
