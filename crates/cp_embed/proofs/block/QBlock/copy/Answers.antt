-- The parts are those of the block.
use Rattle.std.proofs.Common.{◌≡◌, ℕ, Option, List, sym, ap, ap₂, ◌∙◌, subst}
use Rattle.cp_base.specs.Graphs.{PlainGraph}
use Rattle.cp_embed.specs.ListedBlocks.{ListedGraph, IsListedBlock}
use Rattle.cp_embed.proofs.block.QBlock.copy.Goals as goal

-- a graph with the same parts and the same lists make the same block
same_block : (block : ListedGraph) (g : PlainGraph) (psi lists : List (Option (List ℕ))) (vertices : ℕ)
    (ends : List (ℕ × ℕ)) (one two : PlainGraph) → g ≡ record { vertices = vertices; ends = ends }
    → vertices ≡ one.vertices → ends ≡ two.ends → one ≡ block.graph → two ≡ block.graph → psi ≡ lists
    → lists ≡ block.lists → record { graph = g; lists = psi } ≡ block
same_block block g psi lists vertices ends one two g_is vertices_is ends_is one_is two_is psi_is lists_is =
    let same : g ≡ block.graph =
    g_is ∙ ap₂ (λ (v : ℕ) (es : List (ℕ × ℕ)). record { vertices = v; ends = es })
    (vertices_is ∙ ap (λ (k : PlainGraph). k.vertices) one_is) (ends_is ∙ ap (λ (k : PlainGraph). k.ends) two_is)
    in
    ap₂ (λ (k : PlainGraph) (ls : List (Option (List ℕ))). record { graph = k; lists = ls }) same (psi_is ∙ lists_is)

pub from_parts-requires : goal.from_parts-requires
from_parts-requires c =
    subst IsListedBlock (sym (same_block c.args.self.now c.in_ok-graph.graph c.in_ok-psi.psi c.lists.result.now
    c.vertices.result c.ends.result.now c.graph.result.now c.graph-2.result.now c.in_ok-graph.ensures
    c.vertices.ensures.value c.ends.ensures.value c.graph.ensures.value c.graph-2.ensures.value c.in_ok-psi.ensures
    c.lists.ensures)) c.graph.ensures.block

pub returns : goal.returns
returns c =
    c.in_ok-block.ensures ∙ same_block c.args.self.now c.in_ok-graph.graph c.in_ok-psi.psi c.lists.result.now
    c.vertices.result c.ends.result.now c.graph.result.now c.graph-2.result.now c.in_ok-graph.ensures
    c.vertices.ensures.value c.ends.ensures.value c.graph.ensures.value c.graph-2.ensures.value c.in_ok-psi.ensures
    c.lists.ensures
