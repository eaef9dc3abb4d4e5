use Rattle.std.proofs.Common.{◌<◌, ℕ, List, get_or, length, subst, sym, ◌∙◌}
use Rattle.cp_base.specs.Graphs.{AreWithin}
use Rattle.cp_conn.proofs.CutVertices.{AreWithin-without}
use Rattle.cp_conn.proofs.Classes.{labelled-lt}
use Rattle.cp_conn.proofs.BlocksAt.{blocks_read}
use Rattle.cp_conn.proofs.edge_blocks.edges_by_block.Goals as goal

pub least_connected-requires : goal.least_connected-requires
least_connected-requires c =
    let bound : AreWithin c.vertices.result c.ends-ends.result.now =
    subst (λ (n : ℕ). AreWithin n c.ends-ends.result.now) (sym c.vertices.ensures.value)
    (subst (AreWithin c.args.g.now.vertices) (sym c.ends-ends.ensures.value) c.ends-ends.ensures.within) in
    subst (AreWithin c.vertices.result) (sym (c.as_slice.ensures.value ∙ c.in_ok-rest.ensures))
    (AreWithin-without c.vertices.result c.args.v c.ends-ends.result.now bound)

pub edges_by_component-requires-clause-labels_within : goal.edges_by_component-requires-clause-labels_within
edges_by_component-requires-clause-labels_within c =
    subst (λ (xs : List ℕ). (x : ℕ) → x < length xs → get_or xs x 0 < length xs) (sym c.as_slice-2.ensures.value)
    (labelled-lt c.as_slice.result.now c.vertices.result c.in_ok-least.least.items c.in_ok-least.ensures.size
    c.in_ok-least.ensures.labelled)

pub returns : goal.returns
returns c =
    blocks_read c.args.g.now.ends c.ends-ends.result.now c.args.g.now.vertices c.vertices.result c.args.v
    c.as_slice.result.now c.in_ok-least.least.items c.as_slice-2.result.now c.in_ok-parts.parts.items
    c.as_slice-3.result.now c.in_ok-lists.lists
    c.ends-ends.ensures.value c.vertices.ensures.value c.ends-ends.ensures.within c.requires.no_loop
    (c.as_slice.ensures.value ∙ c.in_ok-rest.ensures) c.in_ok-least.ensures.labelled c.as_slice-2.ensures.value
    c.in_ok-parts.ensures c.as_slice-3.ensures.value c.in_ok-lists.ensures
