use Rattle.std.proofs.Common.{subst}
use Rattle.cp_board.specs.Instances.{IsSynchronized}
use Rattle.cp_store.proofs.StoredStates.{told-present, IsStore-rules}
use Rattle.cp_store.proofs.store.Store.present_follows_rules.Goals as goal

pub returns : goal.returns
returns c =
    subst IsSynchronized (told-present c.self.inside.parts c.self.inside.log.items c.args.self.now c.self.view_is)
    (IsStore-rules c.self.inside.parts c.self.inside.log.items c.self.invariant.0)
