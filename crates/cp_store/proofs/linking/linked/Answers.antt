use Rattle.std.proofs.lemmas.Result.{IfOk-weaker}
use Rattle.cp_store.proofs.LinkChanges.{HasLinks-with, IsLinkTree-links, HasLinks-own, own_test}
use Rattle.cp_store.proofs.linking.linked.Goals as goal

pub returns-clause-links : goal.returns-clause-links
returns-clause-links c =
    IfOk-weaker c.with_item.result _ _
    (λ new t test has. HasLinks-with _ _ c.args.root new test _ c.ranges.name.fits has t) c.with_item.ensures.tree

pub returns-clause-tree : goal.returns-clause-tree
returns-clause-tree c =
    IfOk-weaker c.with_item.result _ _
    (λ new t. IsLinkTree-links _ new _
    (HasLinks-with _ _ c.args.root new (own_test c.args.forest.now c.args.root) _ c.ranges.name.fits
    (HasLinks-own c.args.forest.now c.args.root c.requires) t)) c.with_item.ensures.tree
