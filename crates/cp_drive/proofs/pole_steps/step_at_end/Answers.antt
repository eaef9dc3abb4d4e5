-- What `tree_at` asks of the end, and the block that is to blame.
use Rattle.std.proofs.Common.{arith, refl, subst, sym}
use Rattle.cp_board.specs.Blocks.{IsUnembeddable}
use Rattle.cp_drive.proofs.GreatestPipes.{embedded-IsEnd, embedded-uncut, end-IsPVertex, end-degree}
use Rattle.cp_drive.proofs.pole_steps.step_at_end.Goals as goal

pub tree_at-requires-clause-free : goal.tree_at-requires-clause-free
tree_at-requires-clause-free g c =
    let i = g.B.Board.instance c.args.board.now in
    let h = c.requires in
    let is = c.follows_rules.ensures in
    end-IsPVertex i is h.p h.greatest c.args.end (embedded-IsEnd i is h.p h.greatest c.args.end h.embedded)

pub tree_at-requires-clause-uncut : goal.tree_at-requires-clause-uncut
tree_at-requires-clause-uncut g c =
    let i = g.B.Board.instance c.args.board.now in
    let h = c.requires in
    embedded-uncut i c.follows_rules.ensures h.p h.greatest c.args.end h.needs h.embedded

pub tree_at-requires-clause-large : goal.tree_at-requires-clause-large
tree_at-requires-clause-large g c =
    let i = g.B.Board.instance c.args.board.now in
    let h = c.requires in
    let is = c.follows_rules.ensures in
    let size = end-degree i is h.p h.greatest c.args.end (embedded-IsEnd i is h.p h.greatest c.args.end h.embedded) in
    omega (arith, size, h.needs.0)

pub returns-in-Err-NotPlanar : goal.returns-in-Err-NotPlanar
returns-in-Err-NotPlanar g c =
    let i = g.B.Board.instance c.args.board.now in
    let told = (rw c.in-Err-NotPlanar.field-0-is at c.in-Err-NotPlanar.ensures.refused) c.in-Err-NotPlanar.edge refl in (
      subst (IsUnembeddable i) (sym c.in-Err-NotPlanar.edge-is) told.0,
      c.unembeddable_unsolvable.ensures i c.in-Err-NotPlanar.edge c.follows_rules.ensures told.0,
    )
