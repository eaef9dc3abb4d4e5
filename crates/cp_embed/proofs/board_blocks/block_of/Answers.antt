-- The edges whose blocks have the number of the block of the edge are those of its block.
use Rattle.std.proofs.Common.{◌≡◌, ◌<◌, ℕ, List, eqb, filter, length, slice_index, sym, ap, ◌∙◌, subst, arith}
use Rattle.std.specs.List.{Contains}
use Rattle.std.proofs.lemmas.List.{get_or_read, length-map}
use Rattle.cp_base.specs.Graphs.{PlainGraph}
use Rattle.cp_conn.specs.Blocks.{AreInOneBlock, HaveNoLoop}
use Rattle.cp_conn.specs.NamedGraphs.{rank}
use Rattle.cp_conn.specs.Numbering.{AreNumbered}
use Rattle.cp_conn.proofs.NamedGraphs.{rank_at}
use Rattle.cp_board.specs.Instances.{IsSynchronized, Synchronized, edge_names, graph}
use Rattle.cp_sync.specs.Numbering.{numbered, numbered_ends}
use Rattle.cp_embed.specs.BoardBlocks.{AreBlockEdges}
use Rattle.cp_embed.proofs.NumberedBlocks.{named-AreBlockEdges, numbered-HaveNoLoop}
use Rattle.cp_embed.proofs.board_blocks.block_of.Goals as goal

-- the place of an edge is that of a number
place_within : (i : Synchronized) (h : PlainGraph) (names first numbers : List ℕ) (e place : ℕ) → h ≡ numbered (graph i)
    → names ≡ edge_names i → first ≡ names → Contains (edge_names i) e
    → AreNumbered (AreInOneBlock h.ends) (length h.ends) numbers → place ≡ rank first e → place < length numbers
place_within i h names first numbers e place is_graph is_names is_first c are at =
    let there = rank_at (edge_names i) e c in
    let same : place ≡ rank (edge_names i) e = at ∙ ap (λ (xs : List ℕ). rank xs e) (is_first ∙ is_names) in
    let size : length numbers ≡ length (edge_names i) = are.one_each ∙ ap (λ (x : PlainGraph). length x.ends) is_graph
    ∙ length-map (edge_names i) (numbered_ends (graph i)) in
    omega (arith, same, there.0, size)

-- the names with the number at that place are the edges of the block
told : (i : Synchronized) → IsSynchronized i → (h : PlainGraph) (names first second numbers slice es : List ℕ)
    (e place number : ℕ)
    → h ≡ numbered (graph i) → names ≡ edge_names i → first ≡ names → second ≡ names → Contains (edge_names i) e
    → AreNumbered (AreInOneBlock h.ends) (length h.ends) numbers → place ≡ rank first e
    → number ≡ slice_index numbers place
    → slice ≡ numbers → es ≡ filter (λ f. eqb (slice_index slice (rank second f)) number) second
    → AreBlockEdges i e es
told i is h names first second numbers slice es e place number is_graph is_names is_first is_second c are at read
    is_slice is_es =
    named-AreBlockEdges i is second slice es (length (numbered (graph i)).ends) e number (is_second ∙ is_names)
    (length-map (edge_names i) (numbered_ends (graph i)) ∙ ap length (sym (is_second ∙ is_names)))
    (subst (AreNumbered (AreInOneBlock (numbered (graph i)).ends) (length (numbered (graph i)).ends)) (sym is_slice)
    (subst (λ (x : PlainGraph). AreNumbered (AreInOneBlock x.ends) (length x.ends) numbers) is_graph are))
    c
    (read ∙ ap (slice_index numbers) (at ∙ ap (λ (xs : List ℕ). rank xs e) (is_first ∙ sym is_second))
    ∙ ap (λ (xs : List ℕ). slice_index xs (rank second e)) (sym is_slice))
    is_es

pub blocks-requires : goal.blocks-requires
blocks-requires g c =
    let i = g.B.Board.instance c.args.board.now in
    subst (λ (h : PlainGraph). HaveNoLoop h.ends) (sym c.in_ok-g.ensures.graph)
    (numbered-HaveNoLoop i c.in_ok-g.ensures.rules)

pub index-number-requires : goal.index-number-requires
index-number-requires g c =
    let i = g.B.Board.instance c.args.board.now in
    let lt = place_within i c.in_ok-g.g.graph c.in_ok-g.g.edges c.items.result.now c.in_ok-numbers.numbers.items
    c.args.e
    c.rank_among.result c.in_ok-g.ensures.graph c.in_ok-g.ensures.edges c.items.ensures c.requires
    c.in_ok-numbers.ensures
    c.rank_among.ensures in
    omega (arith, lt, c.in_ok-numbers.numbers.ok)

pub cut_out-requires-clause-block : goal.cut_out-requires-clause-block
cut_out-requires-clause-block g c =
    let i = g.B.Board.instance c.args.board.now in
    let numbers = c.in_ok-numbers.numbers.items in
    let lt = place_within i c.in_ok-g.g.graph c.in_ok-g.g.edges c.items.result.now numbers c.args.e
    c.rank_among.result c.in_ok-g.ensures.graph c.in_ok-g.ensures.edges c.items.ensures c.requires
    c.in_ok-numbers.ensures
    c.rank_among.ensures in (
      c.args.e,
      subst (AreBlockEdges i c.args.e) (sym c.as_slice-2.ensures.value)
          (told i c.in_ok-g.ensures.rules c.in_ok-g.g.graph c.in_ok-g.g.edges c.items.result.now c.items-2.result.now
          numbers
          c.as_slice.result.now c.in_ok-edges.edges.items c.args.e c.rank_among.result c.index-number.result.now
          c.in_ok-g.ensures.graph c.in_ok-g.ensures.edges c.items.ensures c.items-2.ensures c.requires
          c.in_ok-numbers.ensures
          c.rank_among.ensures (get_or_read numbers c.rank_among.result c.index-number.result.now lt
          c.index-number.ensures 0)
          c.as_slice.ensures.value c.in_ok-edges.ensures),
    )

pub returns-clause-edges : goal.returns-clause-edges
returns-clause-edges g c =
    let i = g.B.Board.instance c.args.board.now in
    let numbers = c.in_ok-numbers.numbers.items in
    let lt = place_within i c.in_ok-g.g.graph c.in_ok-g.g.edges c.items.result.now numbers c.args.e
    c.rank_among.result c.in_ok-g.ensures.graph c.in_ok-g.ensures.edges c.items.ensures c.requires
    c.in_ok-numbers.ensures
    c.rank_among.ensures in
    subst (AreBlockEdges i c.args.e) (sym (c.in_ok-cut.ensures.edges ∙ c.as_slice-2.ensures.value))
    (told i c.in_ok-g.ensures.rules c.in_ok-g.g.graph c.in_ok-g.g.edges c.items.result.now c.items-2.result.now numbers
    c.as_slice.result.now c.in_ok-edges.edges.items c.args.e c.rank_among.result c.index-number.result.now
    c.in_ok-g.ensures.graph c.in_ok-g.ensures.edges c.items.ensures c.items-2.ensures c.requires c.in_ok-numbers.ensures
    c.rank_among.ensures (get_or_read numbers c.rank_among.result c.index-number.result.now lt c.index-number.ensures 0)
    c.as_slice.ensures.value c.in_ok-edges.ensures)
