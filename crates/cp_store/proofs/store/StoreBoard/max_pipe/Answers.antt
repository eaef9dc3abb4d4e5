use Rattle.std.proofs.Common.{◌≡◌, [], subst}
use Rattle.cp_board.specs.Runs.{IsGreatestName}
use Rattle.cp_store.specs.Parts.{told}
use Rattle.cp_store.proofs.BestPipes.{IsGreatestName-best}
use Rattle.cp_store.proofs.LinkChanges.{IsLinkTree-links}
use Rattle.cp_store.proofs.PipeReads.{pipes-fit}
use Rattle.cp_store.proofs.StoredStates.{told-present, IsStore-rules}
use Rattle.cp_store.proofs.store.StoreBoard.max_pipe.Goals as goal

pub best_pipe-requires : goal.best_pipe-requires
best_pipe-requires c =
    IsLinkTree-links c.self.inside.links c.self.inside.roots.pipes.ranks _ c.self.invariant.1.ranks.now

pub returns-in-None-clause-none : goal.returns-in-None-clause-none
returns-in-None-clause-none c =
    let i = told c.self.inside.parts in
    let rules = IsStore-rules c.self.inside.parts c.self.inside.log.items c.self.invariant.0 in
    subst (λ j. j.pipes ≡ []) (told-present c.self.inside.parts c.self.inside.log.items c.args.self.now c.self.view_is)
    (c.in-None.ensures i.pipes (pipes-fit i rules) c.self.invariant.1.ranks.now)

pub returns-in-Some-clause-some : goal.returns-in-Some-clause-some
returns-in-Some-clause-some c =
    let i = told c.self.inside.parts in
    let rules = IsStore-rules c.self.inside.parts c.self.inside.log.items c.self.invariant.0 in
    subst (λ j. IsGreatestName j c.in-Some.name)
    (told-present c.self.inside.parts c.self.inside.log.items c.args.self.now c.self.view_is)
    (IsGreatestName-best i _ c.in-Some.name rules
    (c.in-Some.ensures i.pipes (pipes-fit i rules) c.self.invariant.1.ranks.now))
