-- The edges of whole components whose numbers of blocks are equal are the edges of a block of the instance.
use Rattle.std.proofs.Common.{◌≡◌, ℕ, ◌<◌, ◌≤◌, ◌↔◌, Bool, eqb, List, length, map, filter, get_or, slice_index, sym, refl, ap, ◌∙◌, subst, inl, ⊎_elim, true, arith}
use Rattle.std.specs.Prelude.{◌&&◌}
use Rattle.std.specs.List.{Contains}
use Rattle.std.proofs.lemmas.Bool.{and_from, and_parts, eq-eqb, eqb-true, or_cases}
use Rattle.std.proofs.lemmas.List.{get_or-map, length-map}
use Rattle.std.proofs.lemmas.List.Elements.{Contains-get_or}
use Rattle.std.proofs.lemmas.List.Kept.{IsStrictlyIncreasing-filter}
use Rattle.cp_lists.specs.Count.{IsCount}
use Rattle.cp_lists.specs.CyclicLists.{Distinct}
use Rattle.cp_lists.proofs.Counting.{IsCount-unique}
use Rattle.cp_lists.proofs.DistinctLists.{Distinct-once, Has-Contains}
use Rattle.cp_lists.proofs.FilteredLists.{Has-filter, filter-Has}
use Rattle.cp_orbits.specs.Connected.{Joins}
use Rattle.cp_conn.specs.Blocks.{AreInOneBlock, HaveNoLoop}
use Rattle.cp_conn.specs.NamedGraphs.{InOneBlock, NamedGraph, ends_at, pairs, rank}
use Rattle.cp_conn.specs.Numbering.{AreNumbered, IsLeast}
use Rattle.cp_conn.proofs.BlockClasses.{block-sym, block-trans, carry_block}
use Rattle.cp_conn.proofs.BlockParts.{HasWholeBlocks, StandsIn, blocks_of_part}
use Rattle.cp_conn.proofs.NamedGraphs.{Contains-edges_at, edge_at, joins_ends, length-pairs, pair_of_edge, rank_at, rank_is}
use Rattle.cp_conn.proofs.NumberedClasses.{same_number}
use Rattle.cp_sync.specs.Numbering.{numbered_ends}
use Rattle.cp_board.specs.Names.{has}
use Rattle.cp_board.specs.Instances.{IsSynchronized, Synchronized, graph}
use Rattle.cp_embed.specs.BoardBlocks.{AreBlockEdges}
use Rattle.cp_local.specs.LocalGraphs.{IsClosedPart, part}
use Rattle.cp_local.proofs.ClosedParts.{part-AreWithin, part-HaveNoLoop}
use Rattle.cp_embed.proofs.BoardBlocks.{has-true, rising_distinct, true-has}
use Rattle.cp_tree.proofs.BlockRotations.{rank_one}
use Rattle.cp_tree.proofs.RisingLists.{rising_same}

module _ (i : Synchronized) (is : IsSynchronized i) (verts es : List ℕ)
    (closed : IsClosedPart i verts es) where
  -- the graph, and the part
  abbrev g : NamedGraph
  g = graph i

  -- the numbered ends of the part
  abbrev numbered : List (ℕ × ℕ)
  numbered = map (numbered_ends (part i verts es)) es

  -- an edge of the part is one of the instance
  edge_live : (e : ℕ) → Contains es e → Contains g.edges e
  edge_live e c = closed.edges_live e c

  -- an end of an edge of the part is a vertex of it
  end_within : (v e : ℕ) → Contains es e → ends_at g v e ≡ true → Contains verts v
  end_within v e c t =
      let w = closed.ends_within e c in
      ⊎_elim
      (λ a. subst (Contains verts) (eqb-true (g.ends e).0 v a) w.0)
      (λ b. subst (Contains verts) (eqb-true (g.ends e).1 v b) w.1)
      (or_cases (eqb (g.ends e).0 v) (eqb (g.ends e).1 v) t)

  -- an edge that meets one of the part is one of the part
  meeting : (e f v : ℕ) → Contains es e → Contains g.edges f → ends_at g v e ≡ true → ends_at g v f ≡ true
      → Contains es f
  meeting e f v ce cf te tf = closed.whole v f (end_within v e ce te) (Contains-edges_at g v f cf tf)

  -- there are as many ends as edges
  pub numbered-length : length numbered ≡ length es
  numbered-length = length-map es (numbered_ends (part i verts es))

  -- the ends at a place
  at_place : (k : ℕ) → k < length es → get_or numbered k (0, 0) ≡ numbered_ends (part i verts es) (get_or es k 0)
  at_place k lt = get_or-map (numbered_ends (part i verts es)) es k 0 (0, 0) lt

  -- no edge is a loop
  no_loop : HaveNoLoop numbered
  no_loop = part-HaveNoLoop i verts es closed is

  -- the edges of the part are distinct
  edges_once : Distinct es
  edges_once = rising_distinct es closed.edges_rise

  -- and so are those of the graph
  names_once : Distinct g.edges
  names_once = rising_distinct g.edges is.edges_named.rise

  -- the place in the graph of an edge
  abbrev original : ℕ → ℕ
  original k = rank g.edges (get_or es k 0)

  -- the part stands in the graph
  stands : StandsIn (length verts) numbered (pairs g) original (λ v. get_or verts v 0)
  stands = record {
    within = part-AreWithin i verts es closed;
    edge_within = λ k lt.
        let below : k < length es = omega (arith, lt, numbered-length) in
        (pair_of_edge g (get_or es k 0) (edge_live (get_or es k 0) (Contains-get_or es k 0 below))).0;
    edges_apart = λ j k ltj ltk same.
        let bj : j < length es = omega (arith, ltj, numbered-length) in
        let bk : k < length es = omega (arith, ltk, numbered-length) in
        Distinct-once es edges_once j k bj bk
        (rank_one g.edges (get_or es j 0) (get_or es k 0) (edge_live (get_or es j 0) (Contains-get_or es j 0 bj))
        (edge_live (get_or es k 0) (Contains-get_or es k 0 bk)) same);
    vertices_apart = λ x y ltx lty same. Distinct-once verts (rising_distinct verts closed.verts_rise) x y ltx lty same;
    ends = λ k lt.
        let below : k < length es = omega (arith, lt, numbered-length) in
        let e = get_or es k 0 in
        let ce = Contains-get_or es k 0 below in
        let c = closed.ends_within e ce in
        let pair = (pair_of_edge g e (edge_live e ce)).1 in
        inl (
          ap (λ (p : ℕ × ℕ). p.0) pair ∙ sym (ap (λ (p : ℕ × ℕ). get_or verts p.0 0) (at_place k below)
              ∙ (rank_at verts (g.ends e).0 c.0).1),
          ap (λ (p : ℕ × ℕ). p.1) pair ∙ sym (ap (λ (p : ℕ × ℕ). get_or verts p.1 0) (at_place k below)
              ∙ (rank_at verts (g.ends e).1 c.1).1),
        );
  }

  -- an edge that is in one block with one of the part is one of the part
  block_inside : (e f : ℕ) → Contains es e → Contains g.edges f → InOneBlock g e f → Contains es f
  block_inside e f ce cf b =
      subst (Contains es) (rank_at g.edges f cf).1
      (carry_block (pairs g) (λ k. Contains es (get_or g.edges k 0)) (rank g.edges e) (rank g.edges f) b
      (λ j k v x y ltj ltk jx ky one there.
      let a = edge_at g j ltj in
      let c = edge_at g k ltk in
      meeting (get_or g.edges j 0) (get_or g.edges k 0) v there c.0
      (joins_ends g v x (get_or g.edges j 0) (subst (λ (p : ℕ × ℕ). Joins p v x) (sym a.1) jx))
      (joins_ends g v y (get_or g.edges k 0) (subst (λ (p : ℕ × ℕ). Joins p v y) (sym c.1) ky)))
      (subst (Contains es) (sym (rank_at g.edges e (edge_live e ce)).1) ce))

  -- so it has whole blocks of the graph
  whole : HasWholeBlocks numbered (pairs g) original
  whole k f lt b =
      let below : k < length es = omega (arith, lt, numbered-length) in
      let e = get_or es k 0 in
      let ce = Contains-get_or es k 0 below in
      let within = block_within (original k) f (pair_of_edge g e (edge_live e ce)).0 b in
      let there = edge_at g f within in
      let name = get_or g.edges f 0 in
      let place : rank g.edges name ≡ f = rank_is g.edges f name names_once
      (omega (arith, within, length-pairs g)) refl in
      let kept = block_inside e name ce there.0 (subst (AreInOneBlock (pairs g) (original k)) (sym place) b) in
      let at = rank_at es name kept in
      (rank es name, omega (arith, at.0, numbered-length), ap (rank g.edges) at.1 ∙ place)
    where
      block_within : (d f : ℕ) → d < length (pairs g) → AreInOneBlock (pairs g) d f → f < length (pairs g)
      block_within d f lt b =
          ⊎_elim
          (λ same. subst (λ (k : ℕ). k < length (pairs g)) same lt)
          (λ q. let h = q.1.within q.3.0 q.3.1 in omega (arith, h, q.3.2))
          b

  -- the numbers of the blocks of the part
  module _ (numbers : List ℕ) (are : AreNumbered (AreInOneBlock numbered) (length numbered) numbers) where
    -- the number of an edge
    abbrev number_of : ℕ → ℕ
    number_of e = slice_index numbers (rank es e)

    -- places have one number exactly where they are in one block
    one_number : (x y : ℕ) → x < length numbered → y < length numbered
        → (slice_index numbers x ≡ slice_index numbers y) ↔ AreInOneBlock numbered x y
    one_number x y ltx lty = (
      λ same. let l = same_number (AreInOneBlock numbered) (length numbered) numbers x y are ltx lty same in
          block-trans numbered x l.0 y no_loop (block-sym numbered l.0 x l.1) l.2,
      λ b.
          let h = are.by_least x ltx in
          let k = are.by_least y lty in
          let none = no_loop in
          let there : h.least ≤ k.least =
          h.leads k.least (block-trans numbered h.least y k.least none
          (block-trans numbered h.least x y none h.related b) (block-sym numbered k.least y k.related)) in
          let back : k.least ≤ h.least =
          k.leads h.least (block-trans numbered k.least x h.least none (block-trans numbered k.least y x none k.related
          (block-sym numbered x y b)) (block-sym numbered h.least x h.related)) in
          let same : h.least ≡ k.least = omega (arith, there, back) in
          IsCount-unique (IsLeast (AreInOneBlock numbered)) k.least (slice_index numbers x) (slice_index numbers y)
          (subst (λ (m : ℕ). IsCount (IsLeast (AreInOneBlock numbered)) m (slice_index numbers x)) same h.counted)
          k.counted,
    )

    -- edges have one number exactly where they are in one block of the instance
    one_block : (e f : ℕ) → Contains es e → Contains es f → (number_of e ≡ number_of f) ↔ InOneBlock g e f
    one_block e f ce cf =
        let ate = rank_at es e ce in
        let atf = rank_at es f cf in
        let lte : rank es e < length numbered = omega (arith, ate.0, numbered-length) in
        let ltf : rank es f < length numbered = omega (arith, atf.0, numbered-length) in
        let by_number = one_number (rank es e) (rank es f) lte ltf in
        let by_part = blocks_of_part (length verts) numbered (pairs g) original (λ v. get_or verts v 0) stands whole
        (rank es e) (rank es f) lte ltf in (
          λ same. subst (λ (x : ℕ). InOneBlock g x f) ate.1
              (subst (λ (y : ℕ). InOneBlock g (get_or es (rank es e) 0) y) atf.1 (by_part.0 (by_number.0 same))),
          λ b. by_number.1 (by_part.1 (subst (λ (x : ℕ). InOneBlock g x (get_or es (rank es f) 0)) (sym ate.1)
              (subst (λ (y : ℕ). InOneBlock g e y) (sym atf.1) b))),
        )

    -- the edges of one number are those of a block
    pub numbered-AreBlockEdges : (e : ℕ) → Contains es e
        → AreBlockEdges i e (filter (λ f. eqb (number_of f) (number_of e)) es)
    numbered-AreBlockEdges e c = record {
      inside = inside;
      is_block = record {
        live = edge_live e c;
        tells = λ f cf. (
          λ t.
              let p = and_parts (has es f) (one f) t in
              (one_block e f c ((Has-Contains f es).0 (true-has es f p.0))).0
              (sym (eqb-true (number_of f) (number_of e) p.1)),
          λ b.
              let there = block_inside e f c cf b in
              and_from (has es f) (one f) (has-true es f ((Has-Contains f es).1 there))
              (eq-eqb (number_of f) (number_of e) (sym ((one_block e f c there).1 b))),
        );
      };
      edges = rising_same (filter one es) (filter inside g.edges)
          (IsStrictlyIncreasing-filter one es closed.edges_rise)
          (IsStrictlyIncreasing-filter inside g.edges is.edges_named.rise)
          (λ z h.
          let p = filter-Has one z es h in
          Has-filter inside z g.edges ((Has-Contains z g.edges).1 (edge_live z ((Has-Contains z es).0 p.0)))
          (and_from (has es z) (one z) (has-true es z p.0) p.1))
          (λ z h.
          let p = filter-Has inside z g.edges h in
          let q = and_parts (has es z) (one z) p.1 in
          Has-filter one z es (true-has es z q.0) q.1);
    }
      where
        one : ℕ → Bool
        one f = eqb (number_of f) (number_of e)

        inside : ℕ → Bool
        inside f = has es f && one f

    -- and so they are as a program tells them
    pub told-AreBlockEdges : (slice block : List ℕ) (e number : ℕ) → Contains es e → slice ≡ numbers
        → number ≡ number_of e → block ≡ filter (λ f. eqb (slice_index slice (rank es f)) number) es
        → AreBlockEdges i e block
    told-AreBlockEdges slice block e number c is_slice is_number is_block =
        subst (AreBlockEdges i e)
        (sym (is_block ∙ ap (λ (xs : List ℕ). filter (λ f. eqb (slice_index xs (rank es f)) number) es) is_slice
        ∙ ap (λ (n : ℕ). filter (λ f. eqb (number_of f) n) es) is_number))
        (numbered-AreBlockEdges e c)
