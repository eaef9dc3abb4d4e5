-- Some edges of a named graph, with vertices and edges numbered in the order of their names: their blocks are those
-- of the
-- graph, if with each edge its whole block is there.
use Rattle.std.proofs.Common.{◌≡◌, ◌≢◌, ℕ, ◌<◌, ◌↔◌, List, length, map, get_or, sym, refl, ap, ◌∙◌, subst, inl, ⊎_elim, arith}
use Rattle.std.specs.List.{Contains}
use Rattle.std.proofs.lemmas.List.{get_or-map, length-map}
use Rattle.std.proofs.lemmas.List.Elements.{Contains-get_or}
use Rattle.cp_base.specs.Graphs.{AreWithin}
use Rattle.cp_lists.specs.CyclicLists.{Distinct}
use Rattle.cp_lists.proofs.DistinctLists.{Distinct-once}
use Rattle.cp_conn.specs.Blocks.{AreInOneBlock, HaveNoLoop}
use Rattle.cp_conn.specs.NamedGraphs.{InOneBlock, NamedGraph, pairs, rank}
use Rattle.cp_conn.proofs.BlockParts.{HasWholeBlocks, StandsIn, blocks_of_part}
use Rattle.cp_conn.proofs.NamedGraphs.{edge_at, pair_of_edge, rank_at, rank_is}
use Rattle.cp_sync.specs.Numbering.{numbered_ends}

-- names of one rank are equal
pub rank_one : (names : List ℕ) (m n : ℕ) → Contains names m → Contains names n → rank names m ≡ rank names n → m ≡ n
rank_one names m n cm cn e = sym (rank_at names m cm).1 ∙ ap (λ k. get_or names k 0) e ∙ (rank_at names n cn).1

-- the edges of one block are edges
block_within : (es : List (ℕ × ℕ)) (e f : ℕ) → e < length es → AreInOneBlock es e f → f < length es
block_within es e f lt b =
    ⊎_elim
    (λ same. subst (λ (k : ℕ). k < length es) same lt)
    (λ q. let h = q.1.within q.3.0 q.3.1 in omega (arith, h, q.3.2))
    b

-- es: some edges of the graph g, and vs: vertices among which their ends are
module _ (g : NamedGraph) (vs es : List ℕ) (once : Distinct g.edges) (verts_once : Distinct vs)
    (edges_once : Distinct es)
    (edges_in : (e : ℕ) → Contains es e → Contains g.edges e)
    (ends_in : (e : ℕ) → Contains es e → Contains vs (g.ends e).0 × Contains vs (g.ends e).1) where
  -- the graph that has these alone
  abbrev part : NamedGraph
  part = record { verts = vs; edges = es; ends = g.ends }

  -- the numbered ends
  abbrev ends : List (ℕ × ℕ)
  ends = map (numbered_ends part) es

  -- there are as many as edges
  pub length-ends : length ends ≡ length es
  length-ends = length-map es (numbered_ends part)

  -- the ends at a place
  pub ends_at_place : (k : ℕ) → k < length es → get_or ends k (0, 0) ≡ numbered_ends part (get_or es k 0)
  ends_at_place k lt = get_or-map (numbered_ends part) es k 0 (0, 0) lt

  -- the edge at a place
  edge_in : (k : ℕ) → k < length es → Contains es (get_or es k 0)
  edge_in k lt = Contains-get_or es k 0 lt

  -- the ends are numbers of vertices
  pub part-AreWithin : AreWithin (length vs) ends
  part-AreWithin k lt =
      let below : k < length es = omega (arith, lt, length-ends) in
      let c = ends_in (get_or es k 0) (edge_in k below) in
      subst (λ (p : ℕ × ℕ). (p.0 < length vs) × (p.1 < length vs)) (sym (ends_at_place k below))
      ((rank_at vs (g.ends (get_or es k 0)).0 c.0).0, (rank_at vs (g.ends (get_or es k 0)).1 c.1).0)

  -- no edge is a loop where none of the graph is
  pub part-HaveNoLoop : ((e : ℕ) → Contains es e → (g.ends e).0 ≢ (g.ends e).1) → HaveNoLoop ends
  part-HaveNoLoop differ k lt same =
      let below : k < length es = omega (arith, lt, length-ends) in
      let c = ends_in (get_or es k 0) (edge_in k below) in
      differ (get_or es k 0) (edge_in k below)
      (rank_one vs (g.ends (get_or es k 0)).0 (g.ends (get_or es k 0)).1 c.0 c.1
      (sym (ap (λ (p : ℕ × ℕ). p.0) (ends_at_place k below)) ∙ same ∙ ap (λ (p : ℕ × ℕ). p.1) (ends_at_place k below)))

  -- the place in the graph of an edge
  abbrev original : ℕ → ℕ
  original k = rank g.edges (get_or es k 0)

  -- the part stands in the graph
  stands : StandsIn (length vs) ends (pairs g) original (λ v. get_or vs v 0)
  stands = record {
    within = part-AreWithin;
    edge_within = λ k lt. (pair_of_edge g (get_or es k 0) (edges_in (get_or es k 0)
        (edge_in k (omega (arith, lt, length-ends))))).0;
    edges_apart = λ j k ltj ltk same.
        let bj : j < length es = omega (arith, ltj, length-ends) in
        let bk : k < length es = omega (arith, ltk, length-ends) in
        Distinct-once es edges_once j k bj bk
        (rank_one g.edges (get_or es j 0) (get_or es k 0) (edges_in (get_or es j 0) (edge_in j bj))
        (edges_in (get_or es k 0) (edge_in k bk)) same);
    vertices_apart = λ x y ltx lty same. Distinct-once vs verts_once x y ltx lty same;
    ends = λ k lt.
        let below : k < length es = omega (arith, lt, length-ends) in
        let e = get_or es k 0 in
        let c = ends_in e (edge_in k below) in
        let pair = (pair_of_edge g e (edges_in e (edge_in k below))).1 in
        inl (
          ap (λ (p : ℕ × ℕ). p.0) pair ∙ sym (ap (λ (p : ℕ × ℕ). get_or vs p.0 0) (ends_at_place k below)
              ∙ (rank_at vs (g.ends e).0 c.0).1),
          ap (λ (p : ℕ × ℕ). p.1) pair ∙ sym (ap (λ (p : ℕ × ℕ). get_or vs p.1 0) (ends_at_place k below)
              ∙ (rank_at vs (g.ends e).1 c.1).1),
        );
  }

  -- with each edge its whole block is there
  module _ (closed : (e f : ℕ) → Contains es e → Contains g.edges f → InOneBlock g e f → Contains es f) where
    -- so it has whole blocks of the graph
    whole : HasWholeBlocks ends (pairs g) original
    whole k f lt b =
        let below : k < length es = omega (arith, lt, length-ends) in
        let e = get_or es k 0 in
        let c = edges_in e (edge_in k below) in
        let within = block_within (pairs g) (original k) f (pair_of_edge g e c).0 b in
        let there = edge_at g f within in
        let name = get_or g.edges f 0 in
        let place : rank g.edges name ≡ f = rank_is g.edges f name once
        (omega (arith, (rank_at g.edges name there.0).0, within, length-map g.edges g.ends)) refl in
        let kept = closed e name (edge_in k below) there.0 (subst (AreInOneBlock (pairs g) (original k)) (sym place)
        b) in
        let at = rank_at es name kept in
        (rank es name, omega (arith, at.0, length-ends), ap (rank g.edges) at.1 ∙ place)

    -- edges are in one block of the part exactly where they are in one block of the graph
    pub part_blocks : (j k : ℕ) → j < length es → k < length es
        → AreInOneBlock ends j k ↔ InOneBlock g (get_or es j 0) (get_or es k 0)
    part_blocks j k ltj ltk =
        blocks_of_part (length vs) ends (pairs g) original (λ v. get_or vs v 0) stands whole j k
        (omega (arith, ltj, length-ends)) (omega (arith, ltk, length-ends))
