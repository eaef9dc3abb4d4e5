use Rattle.std.proofs.Common.{[]}
use Rattle.cp_board.specs.Faults.{Keeps, Ends, EdgeAt}
use Rattle.cp_sync.specs.Checks.{AllBelow}
use Rattle.cp_sync.proofs.ends.first_wrong_edge.Given as goal

abbrev pub invariant-loop-k : goal.invariant-loop-k
invariant-loop-k l = AllBelow (λ k. Keeps record { verts = l.verts; edges = l.edges; pipes = [] } Ends (EdgeAt k)) l.k
