-- The graph was found to be one block with an edge at each vertex, and the vertex to have two edges.
use Rattle.std.proofs.Common.{◌≡◌, ℕ, ◌<◌, ◌≤◌, Option, None, List, length, slice_index, slice_index_or, get_or, replicate, refl, sym, ap, ◌∙◌, subst, arith}
use Rattle.std.proofs.lemmas.List.{length-replicate, get_or-replicate}
use Rattle.cp_base.specs.Graphs.{PlainGraph, AreWithin}
use Rattle.cp_conn.specs.Blocks.{HaveNoLoop}
use Rattle.cp_ears.specs.Bipolar.{HaveEdges, IsOneBlock}
use Rattle.cp_ears.proofs.Numbered.{one_block_numbers}
use Rattle.cp_lists.proofs.DistinctLists.{Has_at}
use Rattle.cp_embed.specs.Embeddings.{HasTwoEdges}
use Rattle.cp_embed.specs.ListedBlocks.{ListedGraph, IsListedBlock, MayBeGiven, edges_at}
use Rattle.cp_embed.proofs.EdgeDarts.{edges_at-Has}
use Rattle.cp_embed.proofs.StageTrees.{edges_at-rising}
use Rattle.cp_embed.proofs.tests.embedded.Goals as goal

-- a graph without lists
plain-IsListedBlock : (n : ℕ) (ends : List (ℕ × ℕ)) (g : PlainGraph) (lists : List (Option (List ℕ)))
    → g ≡ record { vertices = n; ends = ends } → lists ≡ replicate n None → AreWithin n ends → HaveNoLoop ends
    → IsOneBlock g.ends → HaveEdges n ends → IsListedBlock (record { graph = g; lists = lists })
plain-IsListedBlock n ends g lists g_is lists_are within no_loop one_block each =
    let n_is : g.vertices ≡ n = ap (λ (h : PlainGraph). h.vertices) g_is in
    record {
      within = subst (λ (h : PlainGraph). AreWithin h.vertices h.ends) (sym g_is) within;
      no_loop = subst (λ (h : PlainGraph). HaveNoLoop h.ends) (sym g_is) no_loop;
      one_block = one_block;
      each_has_edge = subst (λ (h : PlainGraph). HaveEdges h.vertices h.ends) (sym g_is) each;
      list_each = ap length lists_are ∙ length-replicate n None ∙ sym n_is;
      arranged = λ v lt. subst (MayBeGiven g.ends v) (sym (ap (λ ls. slice_index_or ls v None) lists_are
          ∙ get_or-replicate {A = Option (List ℕ)} n v None None (subst (λ m. v < m) n_is lt))) tt;
    }

-- a vertex with two edges
two-HasTwoEdges : (ends : List (ℕ × ℕ)) (v : ℕ) → 2 ≤ length (edges_at ends v) → HasTwoEdges ends v
two-HasTwoEdges ends v two =
    let one = (edges_at-Has ends v (slice_index (edges_at ends v) 0)).0 (Has_at (edges_at ends v) 0 (omega (arith, two))) in
    let other = (edges_at-Has ends v (slice_index (edges_at ends v) 1)).0 (Has_at (edges_at ends v) 1 (omega (arith, two)))
    in
    record {
      first = slice_index (edges_at ends v) 0;
      second = slice_index (edges_at ends v) 1;
      less = edges_at-rising ends v 0 (omega (arith, two));
      within = other.0;
      first_at = one.1;
      second_at = other.1;
    }

-- the block has the vertices and the edges, in the code's own terms
graph_own : (n : ℕ) (ends : List (ℕ × ℕ)) (g : PlainGraph) (lists : List (Option (List ℕ))) (block : ListedGraph)
    → block ≡ record { graph = g; lists = lists } → g ≡ record { vertices = n; ends = ends }
    → block.graph ≡ record { vertices = n; ends = ends }
graph_own n ends g lists block is g_is = ap (λ (b : ListedGraph). b.graph) is ∙ g_is

pub from_parts-requires : goal.from_parts-requires
from_parts-requires c =
    plain-IsListedBlock c.args.vertices c.args.ends.now c.in_ok-graph.graph c.in_ok-lists.lists c.in_ok-graph.ensures
    c.in_ok-lists.ensures c.requires.ends_within c.requires.no_loop
    (one_block_numbers c.in_ok-graph.graph.ends c.in_ok-numbers.numbers.items
    (subst HaveNoLoop (sym (ap (λ (g : PlainGraph). g.ends) c.in_ok-graph.ensures)) c.requires.no_loop)
    c.in_ok-numbers.ensures
    (subst (λ (xs : List ℕ). (e : ℕ) → e < length xs → get_or xs e 0 ≡ 0) c.as_slice.ensures.value
    (c.if-not-are_zero.ensures refl)))
    (c.in_ok-have_edges.ensures c.if-not-branch.false)

pub edges_at-requires : goal.edges_at-requires
edges_at-requires c =
    subst (λ (g : PlainGraph). c.args.vertex < g.vertices)
    (sym (graph_own c.args.vertices c.args.ends.now c.in_ok-graph.graph c.in_ok-lists.lists c.in_ok-block.block
    c.in_ok-block.ensures c.in_ok-graph.ensures)) c.requires.vertex_within

pub embed-requires-clause-within : goal.embed-requires-clause-within
embed-requires-clause-within c =
    subst (λ (g : PlainGraph). c.args.vertex < g.vertices)
    (sym (graph_own c.args.vertices c.args.ends.now c.in_ok-graph.graph c.in_ok-lists.lists c.in_ok-block.block
    c.in_ok-block.ensures c.in_ok-graph.ensures)) c.requires.vertex_within

pub embed-requires-clause-two_edges : goal.embed-requires-clause-two_edges
embed-requires-clause-two_edges c =
    two-HasTwoEdges c.in_ok-block.block.graph.ends c.args.vertex
    (subst (λ (us : List ℕ). 2 ≤ length us) c.edges_at.ensures.value (omega (arith, c.if-edges_at-lt2.false)))
