-- The vertices and edges that are found are whole components, so their ends have places among the vertices.
use Rattle.std.proofs.Common.{◌≡◌, length, map, sym, subst, subst₂, ◌∙◌}
use Rattle.cp_base.specs.Graphs.{AreWithin}
use Rattle.cp_sync.specs.Numbering.{numbered_ends}
use Rattle.cp_local.specs.LocalGraphs.{IsClosedPart, part}
use Rattle.cp_local.proofs.ClosedParts.{part-AreWithin}
use Rattle.cp_local.proofs.components.local_graph.Goals as goal

pub from_ends-requires : goal.from_ends-requires
from_ends-requires g c =
    let i = g.B.Board.instance c.args.board.now in
    let closed : IsClosedPart i c.as_slice-verts.result.now c.as_slice-edges.result.now =
    subst₂ (IsClosedPart i) (sym c.as_slice-verts.ensures.value) (sym c.as_slice-edges.ensures.value)
    c.in_ok-found.ensures.closed in
    let ends : c.as_slice.result.now
    ≡ map (numbered_ends (part i c.as_slice-verts.result.now c.as_slice-edges.result.now)) c.as_slice-edges.result.now =
    c.as_slice.ensures.value ∙ c.in_ok-ends.ensures in
    subst (AreWithin (length c.as_slice-verts.result.now)) (sym ends)
    (part-AreWithin i c.as_slice-verts.result.now c.as_slice-edges.result.now closed)
