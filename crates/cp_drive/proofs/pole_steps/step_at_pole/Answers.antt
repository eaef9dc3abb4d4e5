-- The pipe of the pole, which is that of the end or another of the same degree.
use Rattle.std.proofs.Common.{◌≡◌, ◌≢◌, ◌∙◌, sym}
use Rattle.cp_board.specs.Instances.{pipe_at}
use Rattle.cp_runlaw.proofs.Poles.{pole_fusible, pole_torus}
use Rattle.cp_drive.proofs.GreatestPipes.{embedded-IsEnd, greatest-named, pole-live, told-pipe}
use Rattle.cp_drive.proofs.pole_steps.step_at_pole.Goals as goal

pub pipe_at-requires : goal.pipe_at-requires
pipe_at-requires g c =
    let i = g.B.Board.instance c.args.board.now in
    let h = c.requires.worked in
    let is = c.follows_rules.ensures in
    pole-live i is h.p h.greatest h.needs.0 c.args.end c.args.pole
    (embedded-IsEnd i is h.p h.greatest c.args.end h.embedded) c.requires.pole.bond

pub torus_step-requires : goal.torus_step-requires
torus_step-requires g c =
    let i = g.B.Board.instance c.args.board.now in
    let h = c.requires.worked in
    let is = c.follows_rules.ensures in
    let q = told-pipe (pipe_at i c.args.pole) c.in-Some.other c.in-Some.ensures in
    record {
      p = h.p;
      greatest = h.greatest;
      named = h.named;
      needs = h.needs;
      bond = pole_torus i is c.args.pipe h.p (greatest-named i is h.p h.greatest c.args.pipe h.named) c.args.end
          c.args.pole (embedded-IsEnd i is h.p h.greatest c.args.end h.embedded) c.requires.pole.bond q.0 q.1
          (q.2 ∙ c.if-other-pipe.true ∙ sym h.named);
    }

pub fuse_step-requires : goal.fuse_step-requires
fuse_step-requires g c =
    let i = g.B.Board.instance c.args.board.now in
    let h = c.requires.worked in
    let is = c.follows_rules.ensures in
    let q = told-pipe (pipe_at i c.args.pole) c.in-Some.other c.in-Some.ensures in
    record {
      p = h.p;
      q = q.0;
      greatest = h.greatest;
      named = h.named;
      needs = h.needs;
      embedded = h.embedded;
      fusible = pole_fusible i is c.args.pipe h.p (greatest-named i is h.p h.greatest c.args.pipe h.named) c.args.end
          c.args.pole (embedded-IsEnd i is h.p h.greatest c.args.end h.embedded) c.requires.pole.bond h.greatest q.0 q.1
          (λ same. c.if-other-pipe.false (sym q.2 ∙ same ∙ h.named));
    }
