-- More than one part, exactly at a cut vertex.
use Rattle.std.proofs.Common.{◌<◌, ◌≡◌, length, subst, sym}
use Rattle.std.proofs.lemmas.Bool.{lt-ltb, ltb-true}
use Rattle.cp_drive.proofs.CutEnds.{IsCut-several, several-IsCut}
use Rattle.cp_drive.proofs.ends.is_cut_vertex.Goals as goal

pub returns : goal.returns
returns g c =
    let i = g.B.Board.instance c.args.board.now in
    let is = c.follows_rules.ensures in
    let parts = c.in_ok-parts.parts in
    let are = c.in_ok-parts.ensures in (
      λ t. several-IsCut i is c.args.v parts are (subst (λ n. 1 < n) c.len.ensures (ltb-true 1 c.len.result t)),
      λ cut. lt-ltb 1 c.len.result (subst (λ n. 1 < n) (sym c.len.ensures) (IsCut-several i is c.args.v parts are cut)),
    )
