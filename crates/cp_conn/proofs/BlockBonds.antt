-- A bond in the block of a vertex is a bond in the whole graph.
use Rattle.std.proofs.Common.{◌≡◌, ◌≢◌, ℕ, zero, suc, ◌/◌, ◌<◌, Bool, true, ◌&&◌, List, [], ◌∷◌, length, get_or, sym, refl, ap, ◌∙◌, subst, inl, inr, ⊎_elim, arith}
use Rattle.std.specs.List.{Contains, filter}
use Rattle.std.proofs.lemmas.Bool.{cases_eq, and_from, and_parts}
use Rattle.cp_lists.specs.CyclicLists.{Distinct}
use Rattle.cp_orbits.specs.Connected.{Joins, Connected, here, step}
use Rattle.cp_orbits.proofs.ClassLabels.{Connected-more, Connected-sym, Connected-trans}
use Rattle.cp_conn.specs.Blocks.{HaveNoLoop, HasEdge, AreInOneBlock}
use Rattle.cp_conn.specs.Bonds.{ConnectedWithout, IsBond, IsAlong}
use Rattle.cp_conn.specs.CutVertex.{avoids, without_vertex}
use Rattle.cp_conn.specs.Darts.{finish}
use Rattle.cp_conn.specs.NamedGraphs.{NamedGraph, pairs, edges_at, far, only, rank, IsBlockOf, IsCut}
use Rattle.cp_conn.proofs.BlockClasses.{block-sym, block-trans}
use Rattle.cp_conn.proofs.BlockPaths.{path_in_block}
use Rattle.cp_conn.proofs.CutBlocks.{one_block_uncut}
use Rattle.cp_conn.proofs.CutVertices.{kept_of, kept_pair}
use Rattle.cp_conn.proofs.DartChains.{Joins-sym, dart_joins}
use Rattle.cp_conn.proofs.EdgeEnds.{joins_touch}
use Rattle.cp_conn.proofs.NamedGraphs.{edge_at, edges_at-Contains, Contains-edges_at, length-pairs, pair_joins, pair_of_edge, pairs_from, pairs_have, rank_is}
use Rattle.cp_conn.proofs.Paths.{Leads, Leads-within, Pass, PassingPath, passing_path}

-- the edges of darts of which each passes the test pass it
pub Pass_at : (p : ℕ × ℕ → Bool) (es : List (ℕ × ℕ)) (ds : List ℕ) (e : ℕ) → Pass p es ds → HasEdge ds e
    → p (get_or es e (0, 0)) ≡ true
Pass_at p es [] e pass h = absurd (omega (arith, h.1))
Pass_at p es (d ∷ ds) e pass h =
    ⊎_elim
    (λ first. ap (λ (k : ℕ). p (get_or es k (0, 0)))
    (sym h.2 ∙ ap (λ (i : ℕ). get_or (d ∷ ds) i 0 / 2) first) ∙ pass.0)
    (λ later. Pass_at p es ds e pass.1 (past (h.0) h.1 h.2 later))
    (cases_eq h.0 0)
  where
    -- an edge of a later dart is one of the darts behind the first
    past : (i : ℕ) → i < length (d ∷ ds) → get_or (d ∷ ds) i 0 / 2 ≡ e → i ≢ 0 → HasEdge ds e
    past zero lt at later = absurd (later refl)
    past (suc i) lt at later = (i, omega arith, at)

-- darts lead along any pairs that contain those of their edges
pub Leads-Connected : (es fs : List (ℕ × ℕ)) (x y : ℕ) (ds : List ℕ) → Leads es x ds y
    → ((e : ℕ) → HasEdge ds e → Contains fs (get_or es e (0, 0))) → Connected fs x y
Leads-Connected es fs x y [] l have = subst (Connected fs x) l here
Leads-Connected es fs x y (d ∷ ds) l have =
    Connected-trans fs x (finish es d) y
    (step here (get_or es (d / 2) (0, 0)) (have (d / 2) (0, omega arith, refl))
    (subst (λ (u : ℕ). Joins (get_or es (d / 2) (0, 0)) u (finish es d)) l.1 (dart_joins es d l.0)))
    (Leads-Connected es fs (finish es d) y ds l.2 (λ e h. have e (suc h.0, omega (arith, h.1), h.2)))

-- pairs of other graphs connect more
pub ConnectedWithout-more : (g h : NamedGraph) (u v x y : ℕ)
    → ((p : ℕ × ℕ) → Contains (pairs g) p → Contains (pairs h) p) → ConnectedWithout g u v x y
    → ConnectedWithout h u v x y
ConnectedWithout-more g h u v x y more c =
    Connected-more
    (without_vertex u (without_vertex v (pairs g)))
    (without_vertex u (without_vertex v (pairs h))) x y
    (λ p k.
    let i = kept_pair (avoids u) (without_vertex v (pairs g)) p k in
    let j = kept_pair (avoids v) (pairs g) p i.0 in
    kept_of (avoids u) (without_vertex v (pairs h)) p (kept_of (avoids v) (pairs h) p (more p j.0) j.1) i.1)
    c

-- the pairs of some edges are pairs of all
only-pairs : (g : NamedGraph) (inside : ℕ → Bool) (p : ℕ × ℕ) → Contains (pairs (only inside g)) p
    → Contains (pairs g) p
only-pairs g inside p c =
    let from : (e : ℕ) × Contains (only inside g).edges e × (g.ends e ≡ p) = pairs_from (only inside g) p c in
    subst (Contains (pairs g)) from.2 (pairs_have g from.0 (kept_pair inside g.edges from.0 from.1).0)

-- an edge at v that is inside is an edge at v of the graph with the edges inside alone
only-edges_at : (g : NamedGraph) (inside : ℕ → Bool) (v e : ℕ) → Contains (edges_at g v) e → inside e ≡ true
    → Contains (edges_at (only inside g) v) e
only-edges_at g inside v e c t =
    let h = edges_at-Contains g v e c in
    Contains-edges_at (only inside g) v e (kept_of inside g.edges e h.0 t) h.1

-- an edge at v of the graph with the edges inside alone is an edge at v
edges_at-only : (g : NamedGraph) (inside : ℕ → Bool) (v e : ℕ) → Contains (edges_at (only inside g) v) e
    → Contains (edges_at g v) e
edges_at-only g inside v e c =
    let h = edges_at-Contains (only inside g) v e c in
    Contains-edges_at g v e (kept_pair inside g.edges e h.0).0 h.1

-- all edges of a vertex that is no cut vertex are in the block of one of them
pub uncut_inside : (g : NamedGraph) (b u : ℕ) (inside : ℕ → Bool) → HaveNoLoop (pairs g) → IsBlockOf g b inside
    → Contains (edges_at g u) b → (IsCut g u → ⊥) → (e : ℕ) → Contains (edges_at g u) e → inside e ≡ true
uncut_inside g b u inside none block at uncut e c =
    let live : Contains g.edges e = (edges_at-Contains g u e c).0 in
    (block.tells e live).1
    (one_block_uncut (pairs g) u (rank g.edges b) (rank g.edges e) none uncut
    (pair_of_edge g b block.live).0 (pair_of_edge g e live).0
    (joins_touch (pairs g) u (far g u b) (rank g.edges b) (pair_joins g u b at))
    (joins_touch (pairs g) u (far g u e) (rank g.edges e) (pair_joins g u e c)))

module _ (g : NamedGraph) (b u v : ℕ) (inside : ℕ → Bool) (once : Distinct g.edges) (none : HaveNoLoop (pairs g))
    (block : IsBlockOf g b inside) (all : (e : ℕ) → Contains (edges_at g u) e → inside e ≡ true) where
  -- an edge in one block with an edge of u is inside
  stays_inside : (e i : ℕ) → Contains (edges_at g u) e → i < length (pairs g)
      → AreInOneBlock (pairs g) (rank g.edges e) i → Contains (pairs (only inside g)) (get_or (pairs g) i (0, 0))
  stays_inside e i c lt same =
      let name : ℕ = get_or g.edges i 0 in
      let at = edge_at g i lt in
      let place : rank g.edges name ≡ i = rank_is g.edges i name once (omega (arith, length-pairs g)) refl in
      let tells : inside name ≡ true =
      (block.tells name at.0).1
      (subst (AreInOneBlock (pairs g) (rank g.edges b)) (sym place)
      (block-trans (pairs g) (rank g.edges b) (rank g.edges e) i none
      ((block.tells e (edges_at-Contains g u e c).0).0 (all e c)) same)) in
      subst (Contains (pairs (only inside g))) at.1
      (pairs_have (only inside g) name (kept_of inside g.edges name at.0 tells))

  -- the ends of two edges of u that are connected without u and v are connected inside the block
  connected_inside : (e f : ℕ) → Contains (edges_at g u) e → Contains (edges_at g u) f
      → ConnectedWithout g u v (far g u e) (far g u f)
      → ConnectedWithout (only inside g) u v (far g u e) (far g u f)
  connected_inside e f ce cf c =
      Connected-sym (without_vertex u (without_vertex v (pairs (only inside g)))) (far g u f) (far g u e)
      (⊎_elim
      (λ same. subst (Connected (without_vertex u (without_vertex v (pairs (only inside g)))) (far g u f)) same here)
      (λ other.
      Leads-Connected (pairs g) (without_vertex u (without_vertex v (pairs (only inside g))))
      (far g u f) (far g u e) path.darts path.leads
      (λ i h.
      let passes = and_parts _ _ (Pass_at both (pairs g) path.darts i path.pass h) in
      kept_of (avoids u) (without_vertex v (pairs (only inside g))) (get_or (pairs g) i (0, 0))
      (kept_of (avoids v) (pairs (only inside g)) (get_or (pairs g) i (0, 0))
      (stays_inside f i cf (edge_within i h)
      (path_in_block (pairs g) (rank g.edges f) (rank g.edges e) (far g u f) (far g u e) u u path.darts none
      (pair_of_edge g f live_f).0 (pair_of_edge g e live_e).0
      (Joins-sym (get_or (pairs g) (rank g.edges f) (0, 0)) u (far g u f) (pair_joins g u f cf))
      (Joins-sym (get_or (pairs g) (rank g.edges e) (0, 0)) u (far g u e) (pair_joins g u e ce))
      (block-trans (pairs g) (rank g.edges f) (rank g.edges b) (rank g.edges e) none
      (block-sym (pairs g) (rank g.edges b) (rank g.edges f) ((block.tells f live_f).0 (all f cf)))
      ((block.tells e live_e).0 (all e ce)))
      path.leads path.apart path.ends i h))
      passes.1) passes.0))
      (cases_eq (far g u f) (far g u e)))
    where
      -- the pair touches neither u nor v
      both : ℕ × ℕ → Bool
      both p = avoids u p && avoids v p

      -- the first edge is one of the graph
      live_e : Contains g.edges e
      live_e = (edges_at-Contains g u e ce).0

      -- the second edge is one of the graph
      live_f : Contains g.edges f
      live_f = (edges_at-Contains g u f cf).0

      -- a simple path between the far ends of the two edges that touches neither u nor v
      path : PassingPath (pairs g) both (far g u f) (far g u e)
      path =
          passing_path (pairs g) both (far g u e) (far g u f)
          (Connected-more (without_vertex u (without_vertex v (pairs g))) (filter both (pairs g))
          (far g u e) (far g u f)
          (λ p k.
          let i = kept_pair (avoids u) (without_vertex v (pairs g)) p k in
          let j = kept_pair (avoids v) (pairs g) p i.0 in
          kept_of both (pairs g) p j.0 (and_from (avoids u p) (avoids v p) i.1 j.1))
          c)

      -- an edge of the path is one of the graph
      edge_within : (i : ℕ) → HasEdge path.darts i → i < length (pairs g)
      edge_within i h =
          omega (arith, Leads-within (pairs g) (far g u f) (far g u e) path.darts h.0 path.leads h.1, h.2)

  -- a bond in the block that has all edges of u is a bond in the whole graph
  pub block_bond : IsBond (only inside g) u v → IsBond g u v
  block_bond bond = record {
    differ = bond.differ;
    no_loop = λ e c. bond.no_loop e (only-edges_at g inside u e c (all e c));
    one_each = λ e f ce cf off c.
        bond.one_each e f (only-edges_at g inside u e ce (all e ce)) (only-edges_at g inside u f cf (all f cf)) off
        (connected_inside e f ce cf c);
    reach = λ e c off.
        let f : (f : ℕ) × Contains (edges_at (only inside g) v) f × ConnectedWithout (only inside g) u v (far g u e)
        (far g v f) =
        bond.reach e (only-edges_at g inside u e c (all e c)) off in (
          f.0,
          edges_at-only g inside v f.0 f.1,
          ConnectedWithout-more (only inside g) g u v (far g u e) (far g v f.0) (only-pairs g inside) f.2,
        );
  }

  -- and its edges go on in the whole graph as they do in the block
  pub block_along : (along : ℕ → ℕ) → IsAlong (only inside g) u v along → IsAlong g u v along
  block_along along is e c =
      ⊎_elim
      (λ h. inl h)
      (λ h. inr (
        h.0,
        edges_at-only g inside v (along e) h.1,
        ConnectedWithout-more (only inside g) g u v (far g u e) (far g v (along e)) (only-pairs g inside) h.2,
      ))
      (is e (only-edges_at g inside u e c (all e c)))
