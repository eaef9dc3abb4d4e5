-- The ends of the edges so far are found, and these edges.
use Rattle.std.proofs.Common.{◌≡◌, ◌++◌, fold, take}
use Rattle.cp_local.specs.Searching.{with_ends}
use Rattle.cp_local.proofs.searching.add_edges.Given as goal

abbrev pub invariant-loop-edge : goal.invariant-loop-edge
invariant-loop-edge g l =
    (l.verts.keys ≡ fold (with_ends (g.B.Board.instance l.board)) l.initial.verts.keys (take l.edge-index l.at))
    × (l.edges.items ≡ l.initial.edges.items ++ take l.edge-index l.at)
