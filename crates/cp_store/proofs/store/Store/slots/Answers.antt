use Rattle.std.proofs.Common.{◌≡◌, subst}
use Rattle.cp_board.specs.Runs.{slots}
use Rattle.cp_store.proofs.StoredStates.{told-present}
use Rattle.cp_store.proofs.store.Store.slots.Goals as goal

pub returns : goal.returns
returns c =
    subst (λ i. c.slots_of.result ≡ slots i) (told-present c.self.inside.parts c.self.inside.log.items c.args.self.now c.self.view_is) c.slots_of.ensures
