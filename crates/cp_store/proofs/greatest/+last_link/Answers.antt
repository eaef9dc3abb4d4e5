use Rattle.std.proofs.Common.{[], ◌∷◌, ◌++◌, ap, sym, ◌∙◌, arith}
use Rattle.std.proofs.lemmas.List.{append_assoc}
use Rattle.cp_store.specs.Forests.{items_at}
use Rattle.cp_store.proofs.greatest.+last_link.Goals as goal

pub last_link-requires : goal.last_link-requires
last_link-requires t c =
    let is = c.node-node.ensures in
    (omega (arith, is.behind, c.decreases), omega (arith, is.behind, c.requires))

pub returns-in-None : goal.returns-in-None
returns-in-None t c =
    let n = c.node-node.result.now in
    let ls = c.args.forest.now in (
      items_at ls n.before,
      c.node-node.ensures.items
          ∙ ap (λ xs. items_at ls n.before ++ n.item ∷ xs) c.in-None.ensures,
    )

pub returns-in-Some : goal.returns-in-Some
returns-in-Some t c =
    let n = c.node-node.result.now in
    let ls = c.args.forest.now in
    let r = c.in-Some.ensures in (
      items_at ls n.before ++ n.item ∷ r.0,
      c.node-node.ensures.items
          ∙ ap (λ xs. items_at ls n.before ++ n.item ∷ xs) r.1
          ∙ sym (append_assoc (items_at ls n.before) (n.item ∷ r.0) (c.in-Some.link ∷ [])),
    )
