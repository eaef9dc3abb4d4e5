use Rattle.std.proofs.Common.{◌≡◌, subst}
use Rattle.cp_board.specs.Instances.{pairs_of}
use Rattle.cp_store.proofs.StoredStates.{told-present}
use Rattle.cp_store.proofs.store.StoreBoard.pairs.Goals as goal

pub returns : goal.returns
returns c =
    subst (λ i. c.pairs_under.result.now ≡ pairs_of i c.args.p) (told-present c.self.inside.parts c.self.inside.log.items c.args.self.now c.self.view_is) c.pairs_under.ensures
