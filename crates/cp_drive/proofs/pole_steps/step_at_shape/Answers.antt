-- The shape fits the end.
use Rattle.std.proofs.Common.{sym}
use Rattle.cp_drive.proofs.GreatestPipes.{embedded-IsEnd, embedded-uncut, greatest-named}
use Rattle.cp_drive.proofs.pole_steps.step_at_shape.Goals as goal

pub propagate-requires : goal.propagate-requires
propagate-requires g c =
    let i = g.B.Board.instance c.args.board.now in
    let h = c.requires.worked in
    let is = c.follows_rules.ensures in (
      h.p,
      greatest-named i is h.p h.greatest c.args.pipe h.named,
      record {
        end = embedded-IsEnd i is h.p h.greatest c.args.end h.embedded;
        large = h.needs.0;
        uncut = embedded-uncut i is h.p h.greatest c.args.end h.needs h.embedded;
        branching = c.requires.shape.branching;
        leaves = c.requires.shape.leaves;
        no_star = c.requires.shape.no_star;
        admits = c.requires.shape.admits;
      },
    )

pub returns : goal.returns
returns g c =
    let i = g.B.Board.instance c.args.board.now in
    let h = c.requires.worked in
    let is = c.follows_rules.ensures in (
      (
        h.p,
        greatest-named i is h.p h.greatest c.args.pipe h.named,
        record {
          end = embedded-IsEnd i is h.p h.greatest c.args.end h.embedded;
          large = h.needs.0;
          uncut = embedded-uncut i is h.p h.greatest c.args.end h.needs h.embedded;
          branching = c.requires.shape.branching;
          leaves = c.requires.shape.leaves;
          no_star = c.requires.shape.no_star;
          admits = c.requires.shape.admits;
        },
      ),
      (h.p, h.greatest, (sym h.named, h.needs, h.embedded)),
      c.in_ok-rewrite.ensures,
    )
