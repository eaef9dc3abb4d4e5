use Rattle.std.proofs.Common.{◌≡◌, subst}
use Rattle.std.specs.Prelude.{IfOk}
use Rattle.cp_board.specs.Instances.{vert_names}
use Rattle.cp_store.proofs.StoredStates.{told-present}
use Rattle.cp_store.proofs.store.StoreBoard.verts.Goals as goal

pub returns-clause-names : goal.returns-clause-names
returns-clause-names c =
    subst (λ i. IfOk c.live_names.result (λ names. names.items ≡ vert_names i)) (told-present c.self.inside.parts c.self.inside.log.items c.args.self.now c.self.view_is) c.live_names.ensures
