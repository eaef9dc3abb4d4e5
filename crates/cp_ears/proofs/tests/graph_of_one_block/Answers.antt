-- The graph was found to be one block with an edge at each vertex.
use Rattle.std.proofs.Common.{◌≡◌, ℕ, ◌<◌, List, length, get_or, refl, sym, ap, subst}
use Rattle.cp_base.specs.Graphs.{PlainGraph}
use Rattle.cp_conn.specs.Blocks.{HaveNoLoop}
use Rattle.cp_ears.specs.Bipolar.{HaveEdges}
use Rattle.cp_ears.proofs.Numbered.{one_block_numbers}
use Rattle.cp_ears.proofs.tests.graph_of_one_block.Goals as goal

pub returns-clause-one_block : goal.returns-clause-one_block
returns-clause-one_block c =
    one_block_numbers c.in_ok-g.g.ends c.in_ok-numbers.numbers.items
    (subst HaveNoLoop (sym (ap (λ (g : PlainGraph). g.ends) c.in_ok-g.ensures)) c.requires.no_loop)
    c.in_ok-numbers.ensures
    (subst (λ (xs : List ℕ). (e : ℕ) → e < length xs → get_or xs e 0 ≡ 0) c.as_slice.ensures.value
    (c.if-not-are_zero.ensures refl))

pub returns-clause-each_has_edge : goal.returns-clause-each_has_edge
returns-clause-each_has_edge c =
    subst (λ (g : PlainGraph). HaveEdges g.vertices g.ends) (sym c.in_ok-g.ensures)
    (c.in_ok-have_edges.ensures c.if-not-branch.false)
