-- The second edges of what is told along the bond.
use Rattle.std.proofs.Common.{map, sym, ap, ◌∙◌, subst}
use Rattle.cp_board.specs.Instances.{graph}
use Rattle.cp_poles.specs.Turned.{AreOnward}
use Rattle.cp_poles.proofs.TurnedPlaces.{AreOnward-along}
use Rattle.cp_poles.proofs.turned.onward.Goals as goal

pub returns : goal.returns
returns g c =
    let h = graph (g.B.Board.instance c.args.board.now) in
    subst (AreOnward h c.args.u c.args.v)
    (sym (c.in_ok-list-in-Some.ensures ∙ ap (map (λ x. x.1)) c.as_slice.ensures.value))
    (AreOnward-along h c.args.u c.args.v c.in-Some.along.items (rw c.in-Some.is at c.in_ok-found.ensures))
