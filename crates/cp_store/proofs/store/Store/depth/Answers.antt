use Rattle.std.proofs.Common.{◌≡◌, ◌+◌, length, reverse, subst, arith}
use Rattle.std.proofs.lemmas.List.{length-reverse}
use Rattle.cp_store.specs.Parts.{told}
use Rattle.cp_store.proofs.StoredStates.{length-states}
use Rattle.cp_store.proofs.store.Store.depth.Goals as goal

pub returns : goal.returns
returns c =
    let log = c.self.inside.log.items in
    subst (λ s. c.len.result + 1 ≡ length s) c.self.view_is
    (omega (arith, length-states (reverse log) (told c.self.inside.parts), length-reverse log, c.len.ensures, c.self.inside.log.ok.0))
