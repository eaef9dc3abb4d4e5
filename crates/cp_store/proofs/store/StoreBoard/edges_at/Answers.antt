use Rattle.std.proofs.Common.{◌≡◌, ◌++◌, ap, ◌∙◌, sym, subst}
use Rattle.cp_board.specs.Instances.{edges_of}
use Rattle.cp_board.proofs.EdgesOfVertices.{edges_of-rows}
use Rattle.cp_store.specs.Forests.{items_at}
use Rattle.cp_store.specs.Parts.{told}
use Rattle.cp_store.proofs.StoredStates.{told-present, IsStore-rules}
use Rattle.cp_store.proofs.LinkChanges.{IsLinkTree-links}
use Rattle.cp_store.specs.Links.{names_under}
use Rattle.cp_store.proofs.Indexes.{names_under-edges}
use Rattle.cp_store.proofs.store.StoreBoard.edges_at.Goals as goal

pub push_names-requires : goal.push_names-requires
push_names-requires c = IsLinkTree-links c.self.inside.links c.self.inside.roots.ends _ c.self.invariant.1.ends.now

pub returns-clause-names : goal.returns-clause-names
returns-clause-names c =
    let i = told c.self.inside.parts in
    let rules = IsStore-rules c.self.inside.parts c.self.inside.log.items c.self.invariant.0 in
    subst (λ j. c.push_names.new.to.items ≡ edges_of j c.args.v)
    (told-present c.self.inside.parts c.self.inside.log.items c.args.self.now c.self.view_is)
    (c.in_ok-push_names.ensures
    ∙ ap (λ xs. xs ++ names_under c.args.v (items_at c.self.inside.links c.self.inside.roots.ends)) c.new-names.ensures.items
    ∙ names_under-edges i c.self.inside.links c.self.inside.roots.ends c.args.v rules c.self.invariant.1.ends.now
    ∙ sym (edges_of-rows i c.args.v rules))
