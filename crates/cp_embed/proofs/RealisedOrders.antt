-- Rotation systems of a graph by the lists of darts of its vertices.
use Rattle.std.proofs.Common.{◌≡◌, ℕ, ◌*◌, ◌<◌, ◌↔◌, Bool, Option, List, map, length, sym, refl, ap, ◌∙◌, subst, arith}
use Rattle.cp_lists.specs.CyclicLists.{follow}
use Rattle.cp_lists.specs.Turns.{IsTurn}
use Rattle.cp_orbits.specs.Orbits.{Permutes}
use Rattle.cp_base.specs.Graphs.{PlainGraph}
use Rattle.cp_conn.specs.Darts.{start}
use Rattle.cp_rot.specs.Rewrites.{system}
use Rattle.cp_rot.specs.Systems.{System, IsRotation, darts, edges, next, vertex_of, list_of}
use Rattle.cp_rot.proofs.Functions.{Turns-system, next-follow}
use Rattle.cp_rot.proofs.ListEdits.{length-values}
use Rattle.cp_rot.proofs.ListSystems.{Listed, Listed-agree, Listed-edges, IsRotation-system, system_at, system_list, system-edges, system_next, turn}
use Rattle.cp_maps.specs.Genus.{IsFlat}
use Rattle.cp_maps.proofs.FlatMaps.{IsFlat-agree}
use Rattle.cp_maplaw.proofs.Systems.{system_flat}
use Rattle.cp_embed.specs.Directions.{edge_of}
use Rattle.cp_embed.specs.Realisations.{Realises, IsRealised}
use Rattle.cp_embed.specs.Sweeps.{KeepsList}
use Rattle.cp_embed.proofs.LastStages.{AreDrawn}

-- a graph, given lists, and a vertex t
module _ (g : PlainGraph) (psi : ℕ → Option (List ℕ)) (t : ℕ) (lt_t : t < g.vertices) (order : List ℕ)
    (bit : ℕ → Bool) where
  -- how many edges it has
  abbrev e : ℕ
  e = length g.ends

  -- where the darts stand
  abbrev at : ℕ → ℕ
  at = start g.ends

  -- lists that are drawn make a system
  module _ (lists : ℕ → List ℕ) (d : AreDrawn g.vertices e at psi t order bit lists) where
    -- the system
    abbrev made : System
    made = system g.vertices e at lists

    -- it is a rotation system
    made_rotation : IsRotation made
    made_rotation = IsRotation-system g.vertices e at lists d.listed

    -- of so many edges
    made_edges : edges made ≡ e
    made_edges = system-edges g.vertices e at lists

    -- its map is that of the lists
    made_next : (x : ℕ) → x < 2 * e → next made x ≡ turn at lists x
    made_next x lt = system_next g.vertices e at lists d.listed x lt

    -- a permutation
    made_permutes : Permutes (2 * e) (next made)
    made_permutes = subst (λ n. Permutes (2 * n) (next made)) made_edges (Turns-system made made_rotation).permutes

    -- it agrees with that of the system
    lists_permute : Permutes (2 * e) (turn at lists)
    lists_permute = record {
      below = λ x lt. subst (λ y. y < 2 * e) (made_next x lt) (made_permutes.below x lt);
      apart = λ x y ltx lty same. made_permutes.apart x y ltx lty (made_next x ltx ∙ same ∙ sym (made_next y lty));
    }

    -- it realises the order
    made-Realises : Realises g psi t order bit made
    made-Realises = record {
      of_graph = record {
        rotation = made_rotation;
        vertices = refl;
        edges_are = made_edges;
        at_ends = λ x lt. system_at g.vertices e at lists x (omega (arith, lt, length-values (2 * e) at));
      };
      plane = (system_flat made made_rotation).1 (subst (λ n. IsFlat n (next made)) (sym made_edges)
          (IsFlat-agree e (turn at lists) (next made) lists_permute (λ x lt. sym (made_next x lt)) d.plane));
      order_is = subst (λ ws. IsTurn order (map edge_of ws)) (sym (system_list g.vertices e at lists t lt_t))
          d.order_is;
      lists_kept = λ v lt nh. subst (KeepsList psi bit v) (sym (system_list g.vertices e at lists v lt))
          (d.kept v lt nh);
    }

  -- a system that realises the order has lists that are drawn
  module _ (r : System) (z : Realises g psi t order bit r) where
    -- its darts are those of the edges
    darts_are : (x : ℕ) → x < 2 * e → x < darts r
    darts_are x lt = omega (arith, lt, z.of_graph.edges_are, z.of_graph.rotation.paired)

    -- its lists are those of the vertices of the graph
    its_listed : Listed g.vertices (2 * e) at (list_of r)
    its_listed = Listed-agree g.vertices (2 * e) (vertex_of r) at (list_of r) (list_of r)
        (λ x lt. z.of_graph.at_ends x (darts_are x lt)) (λ x lt. refl)
        (subst (λ n. Listed n (2 * e) (vertex_of r) (list_of r)) z.of_graph.vertices
        (Listed-edges r e z.of_graph.rotation z.of_graph.edges_are))

    -- they are drawn
    its-AreDrawn : AreDrawn g.vertices e at psi t order bit (list_of r)
    its-AreDrawn = record {
      listed = its_listed;
      plane = IsFlat-agree e (next r) (turn at (list_of r))
          (subst (λ n. Permutes (2 * n) (next r)) z.of_graph.edges_are (Turns-system r z.of_graph.rotation).permutes)
          (λ x lt. next-follow r z.of_graph.rotation x (darts_are x lt)
          ∙ ap (λ v. follow (list_of r v) x) (z.of_graph.at_ends x (darts_are x lt)))
          (subst (λ n. IsFlat n (next r)) z.of_graph.edges_are ((system_flat r z.of_graph.rotation).0 z.plane));
      order_is = z.order_is;
      kept = z.lists_kept;
    }

  -- an order is realised exactly where lists of it are drawn
  pub AreDrawn-IsRealised : ((lists : ℕ → List ℕ) × AreDrawn g.vertices e at psi t order bit lists)
      ↔ IsRealised g psi t order bit
  AreDrawn-IsRealised = (
    λ d. (made d.0 d.1, made-Realises d.0 d.1),
    λ z. (list_of z.0, its-AreDrawn z.0 z.1),
  )
