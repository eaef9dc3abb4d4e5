-- A search goes on until all vertices that are found are done; each is connected to one of the first two.
use Rattle.std.proofs.Common.{ℕ, ◌-◌, length}
use Rattle.cp_lists.specs.CyclicLists.{Has}
use Rattle.cp_board.specs.Instances.{vert_names}
use Rattle.cp_local.specs.LocalGraphs.{IsReached}
use Rattle.cp_local.specs.Searching.{IsSearched}
use Rattle.cp_local.proofs.searching.components_of.Given as goal

abbrev pub invariant-search : goal.invariant-search
invariant-search g l =
    IsSearched (g.B.Board.instance l.board) l.k l.verts.keys l.edges.items
    × Has l.u l.verts.keys
    × Has l.v l.verts.keys
    × ((x : ℕ) → Has x l.verts.keys → IsReached (g.B.Board.instance l.board) l.u l.v x)

abbrev pub decreases-search : goal.decreases-search
decreases-search g l = length (vert_names (g.B.Board.instance l.board)) - l.k
