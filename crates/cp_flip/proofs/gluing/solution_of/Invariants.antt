-- The vertices so far have their lists.
use Rattle.std.proofs.Common.{◌≡◌, [], map, take}
use Rattle.std.specs.Prelude.{slice_index_or}
use Rattle.cp_conn.specs.NamedGraphs.{rank}
use Rattle.cp_flip.specs.GluedLists.{final_list, named_by}
use Rattle.cp_flip.proofs.gluing.solution_of.Given as goal

abbrev pub invariant-loop-k : goal.invariant-loop-k
invariant-loop-k g l =
    l.solution
    ≡ map (named_by (λ v.
    final_list (g.B.Board.instance l.board) l.cells l.bits v (slice_index_or l.rows (rank l.verts v) [])))
    (take l.k l.verts)
