use Rattle.std.proofs.Common.{[], arith}
use Rattle.cp_board.specs.Faults.{Keeps, Ends, EdgeAt}
use Rattle.cp_sync.proofs.Passes.{AllBelow-more}
use Rattle.cp_sync.proofs.ends.first_wrong_edge.Goals as goal

pub loop-k-preserved : goal.loop-k-preserved
loop-k-preserved c =
    AllBelow-more (λ k. Keeps record { verts = c.args.verts.now; edges = c.args.edges.now; pipes = [] } Ends (EdgeAt k)) c.loop-k.k c.loop-k.invariant
    (c.has_ends.ensures.yes c.if-not-has_ends.false)

pub returns : goal.returns
returns c = λ k lt. c.loop-k.invariant k (omega (arith, lt, c.loop-k-test.false))
