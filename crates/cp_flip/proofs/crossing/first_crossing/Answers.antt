-- The graph has no loops.
use Rattle.std.proofs.Common.{sym, subst}
use Rattle.cp_base.specs.Graphs.{PlainGraph}
use Rattle.cp_conn.specs.Blocks.{HaveNoLoop}
use Rattle.cp_embed.proofs.NumberedBlocks.{numbered-HaveNoLoop}
use Rattle.cp_flip.proofs.crossing.first_crossing.Goals as goal

pub blocks-requires : goal.blocks-requires
blocks-requires g c =
    subst (λ (h : PlainGraph). HaveNoLoop h.ends) (sym c.in_ok-g.ensures.graph)
    (numbered-HaveNoLoop (g.B.Board.instance c.args.board.now) c.in_ok-g.ensures.rules)
