use Rattle.std.proofs.lemmas.Result.{IfOk-weaker}
use Rattle.cp_store.proofs.LinkChanges.{HasLinks-without, IsLinkTree-links, HasLinks-own, own_test}
use Rattle.cp_store.proofs.linking.unlinked.Goals as goal

pub returns-clause-links : goal.returns-clause-links
returns-clause-links c =
    IfOk-weaker c.without_item.result _ _
    (λ new t test has. HasLinks-without _ _ c.args.root new test c.args.key c.args.name c.ranges.name.fits has t)
    c.without_item.ensures.tree

pub returns-clause-tree : goal.returns-clause-tree
returns-clause-tree c =
    IfOk-weaker c.without_item.result _ _
    (λ new t. IsLinkTree-links _ new _
    (HasLinks-without _ _ c.args.root new
    (own_test c.args.forest.now c.args.root) c.args.key c.args.name c.ranges.name.fits
    (HasLinks-own c.args.forest.now c.args.root c.requires) t)) c.without_item.ensures.tree
