use Rattle.std.proofs.Common.{◌≡◌, subst}
use Rattle.cp_board.specs.Instances.{cell_at}
use Rattle.cp_store.proofs.StoredStates.{told-present}
use Rattle.cp_store.proofs.store.StoreBoard.cell.Goals as goal

pub returns : goal.returns
returns c =
    subst (λ i. c.cell_under.result ≡ cell_at i c.args.v) (told-present c.self.inside.parts c.self.inside.log.items c.args.self.now c.self.view_is) c.cell_under.ensures
