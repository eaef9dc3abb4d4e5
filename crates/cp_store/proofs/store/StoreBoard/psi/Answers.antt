use Rattle.std.proofs.Common.{◌≡◌, sym, subst}
use Rattle.cp_board.specs.Instances.{is_q, psi_at}
use Rattle.cp_store.proofs.StoredStates.{told-present}
use Rattle.cp_store.proofs.store.StoreBoard.psi.Goals as goal
use Rattle.std.specs.Prelude.{IsTrue}

pub psi_under-requires-clause-list : goal.psi_under-requires-clause-list
psi_under-requires-clause-list c =
    subst (λ i. IsTrue (is_q i c.args.v)) (sym (told-present c.self.inside.parts c.self.inside.log.items c.args.self.now c.self.view_is)) c.requires

pub returns : goal.returns
returns c =
    subst (λ i. c.psi_under.result.now ≡ psi_at i c.args.v) (told-present c.self.inside.parts c.self.inside.log.items c.args.self.now c.self.view_is) c.psi_under.ensures
