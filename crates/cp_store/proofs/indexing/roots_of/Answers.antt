use Rattle.std.proofs.Common.{false, [], sym, subst}
use Rattle.cp_store.specs.Links.{HasLinks, IsLinkTree}
use Rattle.cp_store.specs.EdgeLinks.{joins}
use Rattle.cp_store.specs.PipeLinks.{HasPipeLinks}
use Rattle.cp_store.proofs.LinkChanges.{IsLinkTree-links}
use Rattle.cp_store.proofs.Indexes.{HasLinks-none, HasLinks-keeps, HasLinks-edges}
use Rattle.cp_store.proofs.PipeTests.{HasPipeLinks-empty, HasPipeLinks-keeps, ArePipeTrees-links}
use Rattle.cp_store.proofs.indexing.roots_of.Goals as goal

pub with_edges-requires : goal.with_edges-requires
with_edges-requires c =
    subst (λ ls. IsLinkTree ls c.no_roots-none.result.ends) (sym c.requires)
    (subst (IsLinkTree []) (sym c.no_roots-none.ensures.ends) (IsLinkTree-links [] 0 _ HasLinks-none))

pub with_pipes-requires : goal.with_pipes-requires
with_pipes-requires c =
    let none = c.no_roots-none.result.pipes in
    ArePipeTrees-links c.with_edges.new.forest none []
    (HasPipeLinks-keeps c.args.forest.now c.with_edges.new.forest none [] c.in_ok-ends.ensures.keeps
    (subst (λ ls. HasPipeLinks ls none []) (sym c.requires)
    (HasPipeLinks-empty none c.no_roots-none.ensures.ranks c.no_roots-none.ensures.poles)))

pub returns-clause-ends : goal.returns-clause-ends
returns-clause-ends c =
    let root = c.no_roots-none.result.ends in
    HasLinks-keeps c.with_edges.new.forest c.with_pipes.new.forest c.in_ok-ends.ends (joins c.args.edges.now)
    c.in_ok-pipes.ensures.keeps
    (HasLinks-edges c.with_edges.new.forest c.in_ok-ends.ends c.args.edges.now
    (c.in_ok-ends.ensures.links (λ v n. false)
    (subst (λ ls. HasLinks ls root (λ v n. false)) (sym c.requires)
    (subst (λ r. HasLinks [] r (λ v n. false)) (sym c.no_roots-none.ensures.ends) HasLinks-none))))

pub returns-clause-pipes : goal.returns-clause-pipes
returns-clause-pipes c =
    let none = c.no_roots-none.result.pipes in
    c.in_ok-pipes.ensures.links []
    (HasPipeLinks-keeps c.args.forest.now c.with_edges.new.forest none [] c.in_ok-ends.ensures.keeps
    (subst (λ ls. HasPipeLinks ls none []) (sym c.requires)
    (HasPipeLinks-empty none c.no_roots-none.ensures.ranks c.no_roots-none.ensures.poles)))
