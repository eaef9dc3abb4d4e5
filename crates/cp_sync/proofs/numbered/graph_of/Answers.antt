use Rattle.std.proofs.Common.{◌≡◌, length, map, sym, ap, subst, ◌∙◌, arith}
use Rattle.cp_base.specs.Graphs.{AreWithin}
use Rattle.cp_board.specs.Instances.{graph, vert_names}
use Rattle.cp_sync.specs.Numbering.{numbered_ends}
use Rattle.cp_sync.proofs.NumberedGraphs.{AreWithin-graph}
use Rattle.cp_sync.proofs.numbered.graph_of.Goals as goal

pub from_ends-requires : goal.from_ends-requires
from_ends-requires g c =
    let i = g.B.Board.instance c.args.board.now in
    let count : length (vert_names i) ≡ c.len.result = omega (arith, c.len.ensures, c.in_ok-verts.verts.ok, ap length c.in_ok-verts.ensures.names) in
    subst (λ n. AreWithin n c.as_slice-3.result.now) count
    (subst (AreWithin (length (vert_names i)))
    (sym (c.as_slice-3.ensures.value ∙ c.in_ok-ends.ensures ∙ ap (map (numbered_ends (graph i))) (c.as_slice-2.ensures.value ∙ c.in_ok-edges.ensures.names)))
    (AreWithin-graph i c.verts.ensures.rules))
