use Rattle.std.proofs.Common.{◌≡◌, subst}
use Rattle.cp_board.specs.Instances.{ends_of}
use Rattle.cp_store.proofs.StoredStates.{told-present}
use Rattle.cp_store.proofs.store.StoreBoard.ends.Goals as goal

pub returns-clause-value : goal.returns-clause-value
returns-clause-value c =
    subst (λ i. c.ends_under.result ≡ ends_of i c.args.e) (told-present c.self.inside.parts c.self.inside.log.items c.args.self.now c.self.view_is) c.ends_under.ensures
