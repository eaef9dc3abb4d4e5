-- The vertex was found among those of the instance.
use Rattle.std.proofs.Common.{◌∙◌, sym, subst}
use Rattle.std.specs.List.{Contains}
use Rattle.cp_board.proofs.ListTests.{Contains-from_has}
use Rattle.cp_join.proofs.tests.parts_of.Goals as goal

pub parts_at-requires : goal.parts_at-requires
parts_at-requires c =
    subst (λ ns. Contains ns c.args.u) (c.as_slice.ensures.value ∙ c.in_ok-verts.ensures.names)
    (Contains-from_has c.as_slice.result.now c.args.u (sym c.if-not-holds.ensures))
