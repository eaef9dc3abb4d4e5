-- The vertex found is the least, since the vertices rise.
use Rattle.cp_flip.proofs.CrossingLists.{none_at_all, none_before}
use Rattle.cp_flip.proofs.crossing.first_crossing_of.Goals as goal

pub returns-then-branch : goal.returns-then-branch
returns-then-branch g c = record {
  crossing = c.in_ok-blocks_cross_at.ensures.yes c.if-branch.true;
  least = none_before (g.B.Board.instance c.args.board.now) c.requires.rules c.args.verts.now c.loop-q.q-index
      c.requires.verts c.loop-q.invariant c.loop-q-test.true;
}

pub returns : goal.returns
returns g c =
    none_at_all (g.B.Board.instance c.args.board.now) c.args.verts.now c.loop-q.q-index c.requires.verts
    c.loop-q.invariant c.loop-q-test.false
