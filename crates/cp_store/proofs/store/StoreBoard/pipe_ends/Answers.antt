use Rattle.std.proofs.Common.{◌≡◌, subst}
use Rattle.cp_board.specs.Instances.{pipe_ends_of}
use Rattle.cp_store.proofs.StoredStates.{told-present}
use Rattle.cp_store.proofs.store.StoreBoard.pipe_ends.Goals as goal

pub returns-clause-value : goal.returns-clause-value
returns-clause-value c =
    subst (λ i. c.pipe_ends_under.result ≡ pipe_ends_of i c.args.p) (told-present c.self.inside.parts c.self.inside.log.items c.args.self.now c.self.view_is) c.pipe_ends_under.ensures
