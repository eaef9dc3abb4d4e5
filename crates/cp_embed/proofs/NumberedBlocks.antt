-- Numbers of blocks tell the blocks of an instance.
use Rattle.std.proofs.Common.{◌≡◌, ℕ, ◌<◌, ◌≤◌, ◌↔◌, eqb, List, length, filter, get_or, slice_index, sym, refl, ap, ◌∙◌, subst, arith}
use Rattle.std.specs.List.{Contains}
use Rattle.std.proofs.lemmas.Bool.{eq-eqb, eqb-true}
use Rattle.cp_lists.specs.CyclicLists.{Distinct}
use Rattle.cp_lists.specs.Count.{IsCount}
use Rattle.cp_lists.proofs.Counting.{IsCount-unique}
use Rattle.cp_conn.specs.Blocks.{AreInOneBlock, HaveNoLoop}
use Rattle.cp_conn.specs.NamedGraphs.{InOneBlock, NamedGraph, rank}
use Rattle.cp_conn.specs.Numbering.{AreNumbered, IsLeast}
use Rattle.cp_conn.proofs.BlockClasses.{block-sym, block-trans}
use Rattle.cp_conn.proofs.NamedGraphs.{rank_at}
use Rattle.cp_conn.proofs.NumberedClasses.{same_number}
use Rattle.cp_sync.specs.Numbering.{numbered}
use Rattle.cp_board.specs.Instances.{IsSynchronized, Synchronized, edge_names, graph}
use Rattle.cp_embed.specs.BoardBlocks.{AreBlockEdges}
use Rattle.cp_embed.proofs.BoardBlocks.{live_ends, rising_distinct}
use Rattle.cp_embed.proofs.BoardBlockParts.{part-HaveNoLoop, part_blocks}

-- edges have one number exactly where they are in one block
number_same : (es : List (ℕ × ℕ)) (n : ℕ) (numbers : List ℕ) → HaveNoLoop es → AreNumbered (AreInOneBlock es) n numbers
    → (x y : ℕ) → x < n → y < n → (slice_index numbers x ≡ slice_index numbers y) ↔ AreInOneBlock es x y
number_same es n numbers none are x y ltx lty = (
  λ same. let l = same_number (AreInOneBlock es) n numbers x y are ltx lty same in
      block-trans es x l.0 y none (block-sym es l.0 x l.1) l.2,
  λ b.
      let h = are.by_least x ltx in
      let k = are.by_least y lty in
      let there : h.least ≤ k.least =
      h.leads k.least (block-trans es h.least y k.least none (block-trans es h.least x y none h.related b)
      (block-sym es k.least y k.related)) in
      let back : k.least ≤ h.least =
      k.leads h.least (block-trans es k.least x h.least none (block-trans es k.least y x none k.related
      (block-sym es x y b)) (block-sym es h.least x h.related)) in
      let same : h.least ≡ k.least = omega (arith, there, back) in
      IsCount-unique (IsLeast (AreInOneBlock es)) k.least (slice_index numbers x) (slice_index numbers y)
      (subst (λ (m : ℕ). IsCount (IsLeast (AreInOneBlock es)) m (slice_index numbers x)) same h.counted) k.counted,
)

module _ (i : Synchronized) (is : IsSynchronized i) where
  -- the graph
  abbrev g : NamedGraph
  g = graph i

  -- names are distinct
  names_once : Distinct g.edges
  names_once = rising_distinct g.edges is.edges_named.rise

  -- of vertices too
  verts_once : Distinct g.verts
  verts_once = rising_distinct g.verts is.verts_named.rise

  -- the ends of an edge are vertices
  ends_in : (e : ℕ) → Contains g.edges e → Contains g.verts (g.ends e).0 × Contains g.verts (g.ends e).1
  ends_in e c = let l = live_ends i is e c in (l.0, l.1)

  -- no edge of the numbered graph is a loop
  pub numbered-HaveNoLoop : HaveNoLoop (numbered g).ends
  numbered-HaveNoLoop =
      part-HaveNoLoop g g.verts g.edges names_once verts_once names_once (λ e c. c) ends_in
      (λ e c. (live_ends i is e c).2)

  module _ (n : ℕ) (numbers : List ℕ) (size : n ≡ length g.edges)
      (are : AreNumbered (AreInOneBlock (numbered g).ends) n numbers) where
    -- the number of the block of an edge
    abbrev pub number_of : ℕ → ℕ
    number_of e = slice_index numbers (rank (edge_names i) e)

    -- edges have one number exactly where they are in one block
    pub one_number : (e f : ℕ) → Contains g.edges e → Contains g.edges f
        → (number_of e ≡ number_of f) ↔ InOneBlock g e f
    one_number e f ce cf =
        let ate = rank_at g.edges e ce in
        let atf = rank_at g.edges f cf in
        let by_number = number_same (numbered g).ends n numbers numbered-HaveNoLoop are (rank g.edges e)
        (rank g.edges f) (omega (arith, ate.0, size)) (omega (arith, atf.0, size)) in
        let by_part = part_blocks g g.verts g.edges names_once verts_once names_once (λ e c. c) ends_in
        (λ e f ce cf b. cf) (rank g.edges e) (rank g.edges f) ate.0 atf.0 in (
          λ same. subst (λ (x : ℕ). InOneBlock g x f) ate.1
              (subst (λ (y : ℕ). InOneBlock g (get_or g.edges (rank g.edges e) 0) y) atf.1
              (by_part.0 (by_number.0 same))),
          λ b. by_number.1 (by_part.1 (subst (λ (x : ℕ). InOneBlock g x (get_or g.edges (rank g.edges f) 0)) (sym ate.1)
              (subst (λ (y : ℕ). InOneBlock g e y) (sym atf.1) b))),
        )

    -- the edges of one number are those of a block
    pub numbered-AreBlockEdges : (e number : ℕ) → Contains g.edges e → number ≡ number_of e
        → AreBlockEdges i e (filter (λ f. eqb (number_of f) number) g.edges)
    numbered-AreBlockEdges e number c is_number = record {
      inside = λ f. eqb (number_of f) number;
      is_block = record {
        live = c;
        tells = λ f cf. (
          λ t. (one_number e f c cf).0 (sym (eqb-true (number_of f) number t ∙ is_number)),
          λ b. eq-eqb (number_of f) number (sym ((one_number e f c cf).1 b) ∙ sym is_number),
        );
      };
      edges = refl;
    }

-- the names of one number, as a program tells them, are the edges of a block
pub named-AreBlockEdges : (i : Synchronized) → IsSynchronized i → (names numbers es : List ℕ) (n e number : ℕ)
    → names ≡ edge_names i
    → n ≡ length names → AreNumbered (AreInOneBlock (numbered (graph i)).ends) n numbers → Contains (edge_names i) e
    → number ≡ slice_index numbers (rank names e)
    → es ≡ filter (λ f. eqb (slice_index numbers (rank names f)) number) names
    → AreBlockEdges i e es
named-AreBlockEdges i is names numbers es n e number named size are c is_number is_es =
    subst (AreBlockEdges i e)
    (sym (is_es ∙ ap (λ (xs : List ℕ). filter (λ f. eqb (slice_index numbers (rank xs f)) number) xs) named))
    (numbered-AreBlockEdges i is n numbers (size ∙ ap length named) are e number c
    (is_number ∙ ap (λ (xs : List ℕ). slice_index numbers (rank xs e)) named))
