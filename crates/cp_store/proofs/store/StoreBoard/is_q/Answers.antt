use Rattle.std.proofs.Common.{◌≡◌, subst}
use Rattle.cp_board.specs.Instances.{is_q}
use Rattle.cp_store.proofs.StoredStates.{told-present}
use Rattle.cp_store.proofs.store.StoreBoard.is_q.Goals as goal

pub returns-clause-value : goal.returns-clause-value
returns-clause-value c =
    subst (λ i. c.has_list.result ≡ is_q i c.args.v) (told-present c.self.inside.parts c.self.inside.log.items c.args.self.now c.self.view_is) c.has_list.ensures
