-- There is one new name.
use Rattle.std.proofs.Common.{length, ap, arith}
use Rattle.cp_board.specs.Names.{new_names}
use Rattle.cp_board.specs.Instances.{pipe_names}
use Rattle.cp_board.proofs.NumberOfNewNames.{length-new_names}
use Rattle.cp_poles.proofs.FirstItems.{first_item}
use Rattle.cp_poles.proofs.fused_poles.free_pipe.Goals as goal

pub index-requires : goal.index-requires
index-requires g c =
    omega (
      arith,
      c.in_ok-names.names.ok,
      ap length c.in_ok-names.ensures,
      length-new_names (pipe_names (g.B.Board.instance c.args.board.now)) 1,
    )

pub returns : goal.returns
returns g c =
    let live = pipe_names (g.B.Board.instance c.args.board.now) in
    first_item c.in_ok-names.names.items (new_names live 1) c.index.result.now (length-new_names live 1)
    c.index.ensures c.in_ok-names.ensures
