-- A vertex whose edges are in several parts is a cut vertex, and where a Join is allowed.
use Rattle.std.proofs.Common.{◌≡◌, ℕ, ◌<◌, ◌≤◌, List, [], length, slice_index_or, sym, subst, ⊎_elim, ◌∙◌, arith}
use Rattle.std.specs.Prelude.{Some}
use Rattle.std.specs.List.{Contains}
use Rattle.std.proofs.lemmas.List.{get_or-map, length-map}
use Rattle.cp_lists.specs.CyclicLists.{Has}
use Rattle.cp_lists.proofs.DistinctLists.{Has_at}
use Rattle.cp_conn.specs.CutVertex.{IsNeighbour}
use Rattle.cp_conn.specs.NamedGraphs.{IsCut, edges_at, far, pairs}
use Rattle.cp_conn.proofs.NamedGraphs.{edges_at-Contains, far_joins, pairs_have}
use Rattle.cp_board.specs.declared.parts.Pipe.{Pipe}
use Rattle.cp_board.specs.Instances.{Synchronized, IsSynchronized, graph, pipe_named, pipe_names}
use Rattle.cp_board.specs.Joins.{ArePartsAt, part_of}
use Rattle.cp_board.proofs.NamedLists.{found_at, rises_from}
use Rattle.cp_join.proofs.LiveRows.{live_ends}
use Rattle.cp_join.proofs.PartLists.{all_from, all_once, part_is}
use Rattle.cp_join.proofs.RisingLists.{Has-flat_map}

-- the edges of a vertex in parts
module _ (i : Synchronized) (is : IsSynchronized i) (u : ℕ) (parts : List (List ℕ))
    (are : ArePartsAt (graph i) u parts) where
  -- the first edge of a part
  abbrev first : ℕ → ℕ
  first k = slice_index_or (slice_index_or parts k []) 0 0

  -- the least edge of a part is one of its edges
  first_has : (k : ℕ) → k < length parts → Has (first k) (slice_index_or parts k [])
  first_has k lt = Has_at (slice_index_or parts k []) 0 (are.filled k [] lt)

  -- is one of the vertex
  first_at : (k : ℕ) → k < length parts → Contains (edges_at (graph i) u) (first k)
  first_at k lt =
      all_from (graph i) u parts is.edges_named.rise are (first k) (Has-flat_map (first k) parts k lt (first_has k lt))

  -- and of this part
  first_part : (k : ℕ) → k < length parts → part_of parts (first k) ≡ k
  first_part k lt =
      part_is parts k (first k) (all_once (graph i) u parts is.edges_named.rise are) lt (first_has k lt)

  -- the far end of an edge is a neighbour
  far_neighbour : (e : ℕ) → Contains (edges_at (graph i) u) e → IsNeighbour (pairs (graph i)) u (far (graph i) u e)
  far_neighbour e c =
      let h = edges_at-Contains (graph i) u e c in
      let joins = far_joins (graph i) u e h.1 in
      let live = live_ends i is e h.0 in
      record {
        pair = (graph i).ends e;
        contained = pairs_have (graph i) e h.0;
        joined = joins;
        other = λ same. ⊎_elim (λ j. live.2 (j.0 ∙ sym same ∙ sym j.1)) (λ j. live.2 (j.0 ∙ same ∙ sym j.1)) joins;
      }

  -- with two parts it is a cut vertex
  pub several_parts-IsCut : 2 ≤ length parts → IsCut (graph i) u
  several_parts-IsCut two =
      let one : 0 < length parts = omega (arith, two) in
      let other : 1 < length parts = omega (arith, two) in
      record {
        one = far (graph i) u (first 0);
        two = far (graph i) u (first 1);
        near_one = far_neighbour (first 0) (first_at 0 one);
        near_two = far_neighbour (first 1) (first_at 1 other);
        apart = λ c.
            let same = (are.one (first 0) (first 1) (first_at 0 one) (first_at 1 other)).1 c in
            omega (arith, same, first_part 0 one, first_part 1 other);
      }

-- a live name is that of a pipe
pub pipe-named : (i : Synchronized) → IsSynchronized i → (pipe : ℕ) → Contains (pipe_names i) pipe
    → (p : Pipe) × (pipe_named i pipe ≡ Some p)
pipe-named i is pipe c =
    let none : Pipe = record { name = 0; a = 0; b = 0; pairs = [] } in
    let p : Pipe = slice_index_or i.pipes c.0 none in
    let within : c.0 < length i.pipes = omega (arith, c.1, length-map i.pipes (λ (x : Pipe). x.name)) in
    let named : p.name ≡ pipe = sym (get_or-map (λ (x : Pipe). x.name) i.pipes c.0 none pipe within) ∙ c.2 in (
      p,
      subst (λ n. pipe_named i n ≡ Some p) named
          (found_at (λ (x : Pipe). x.name) i.pipes c.0 none (rises_from (pipe_names i) is.pipes_named.rise) within),
    )
