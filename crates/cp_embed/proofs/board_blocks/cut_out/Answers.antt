-- The edges of a block, with their ends and what is kept of the lists, are a block with lists.
use Rattle.std.proofs.Common.{◌≡◌, ℕ, List, length, map, sym, ap, ◌∙◌, subst, arith}
use Rattle.std.specs.Prelude.{Option}
use Rattle.std.specs.List.{All, Contains}
use Rattle.cp_base.specs.Graphs.{AreWithin, PlainGraph}
use Rattle.cp_board.specs.Instances.{edge_names, graph, vert_names}
use Rattle.cp_embed.specs.BoardBlocks.{list_among, listed_part, part_with}
use Rattle.cp_embed.specs.ListedBlocks.{IsListedBlock}
use Rattle.cp_embed.proofs.BoardBlocks.{edges_in, edges_rise, listed_part-IsListedBlock, verts_in}
use Rattle.cp_embed.proofs.BoardBlockCuts.{All-Contains}
use Rattle.cp_embed.proofs.board_blocks.cut_out.Goals as goal

pub verts_of-requires-clause-live : goal.verts_of-requires-clause-live
verts_of-requires-clause-live g c =
    let i = g.B.Board.instance c.args.board.now in
    let b = c.requires.block in
    All-Contains c.args.edges.now (edge_names i) (edges_in i c.requires.rules b.0 c.args.edges.now b.1)

pub ends_among-requires-clause-live : goal.ends_among-requires-clause-live
ends_among-requires-clause-live g c =
    let i = g.B.Board.instance c.args.board.now in
    let b = c.requires.block in
    All-Contains c.args.edges.now (edge_names i) (edges_in i c.requires.rules b.0 c.args.edges.now b.1)

pub lists_of-requires-clause-rising : goal.lists_of-requires-clause-rising
lists_of-requires-clause-rising g c =
    let i = g.B.Board.instance c.args.board.now in
    let b = c.requires.block in
    edges_rise i c.requires.rules b.0 c.args.edges.now b.1

pub lists_of-requires-clause-live : goal.lists_of-requires-clause-live
lists_of-requires-clause-live g c =
    let i = g.B.Board.instance c.args.board.now in
    let b = c.requires.block in
    subst (All (Contains (vert_names i))) (sym (c.as_slice-2.ensures.value ∙ c.in_ok-verts.ensures))
    (All-Contains (part_with (graph i) c.args.edges.now).verts (vert_names i)
    (verts_in i c.requires.rules b.0 c.args.edges.now b.1))

pub from_ends-requires : goal.from_ends-requires
from_ends-requires g c =
    let i = g.B.Board.instance c.args.board.now in
    let b = c.requires.block in
    let es = c.args.edges.now in
    let vs = (part_with (graph i) es).verts in
    let count : length vs ≡ c.len.result = omega (
      arith,
      c.len.ensures,
      c.in_ok-verts.verts.ok,
      ap length
          c.in_ok-verts.ensures,
    ) in
    subst (λ n. AreWithin n c.as_slice-3.result.now) count
    (subst (AreWithin (length vs)) (sym (c.as_slice-3.ensures.value ∙ c.in_ok-ends.ensures))
    (listed_part-IsListedBlock i c.requires.rules b.0 es b.1).within)

pub from_parts-requires : goal.from_parts-requires
from_parts-requires g c =
    let i = g.B.Board.instance c.args.board.now in
    let b = c.requires.block in
    let es = c.args.edges.now in
    let part = part_with (graph i) es in
    let count : length part.verts ≡ c.len.result = omega (
      arith,
      c.len.ensures,
      c.in_ok-verts.verts.ok,
      ap length
          c.in_ok-verts.ensures,
    ) in
    let graph_is : c.in_ok-graph.graph ≡ (listed_part i es).graph =
    c.in_ok-graph.ensures
    ∙ ap (λ (n : ℕ). record { vertices = n; ends = c.as_slice-3.result.now }) (sym count)
    ∙ ap (λ (xs : List (ℕ × ℕ)). record { vertices = length part.verts; ends = xs })
    (c.as_slice-3.ensures.value ∙ c.in_ok-ends.ensures) in
    let lists_is : c.in_ok-lists.lists ≡ (listed_part i es).lists =
    c.in_ok-lists.ensures ∙ ap (map (list_among i es)) (c.as_slice-2.ensures.value ∙ c.in_ok-verts.ensures) in
    subst (λ (x : PlainGraph). IsListedBlock (record { graph = x; lists = c.in_ok-lists.lists })) (sym graph_is)
    (subst (λ (x : List (Option (List ℕ))). IsListedBlock (record { graph = (listed_part i es).graph; lists = x }))
    (sym lists_is)
    (listed_part-IsListedBlock i c.requires.rules b.0 es b.1))
