use Rattle.std.proofs.Common.{◌≡◌, ◌++◌, ap, sym, ◌∙◌, subst, arith}
use Rattle.std.specs.Prelude.{OnOk}
use Rattle.cp_store.proofs.Openings.{IsOpened-node}
use Rattle.cp_store.proofs.KeyNames.{IsLinkTree-before, IsLinkTree-behind, names-before, names-behind}
use Rattle.cp_store.proofs.linking.+push_names.Goals as goal

pub push_names-requires : goal.push_names-requires
push_names-requires t c =
    let n = c.node-node.result.now in
    let op = IsOpened-node c.args.forest.now c.args.root n c.node-node.ensures in (
      omega (arith, op.behind_less, c.decreases),
      IsLinkTree-behind c.args.forest.now c.args.root n.before n.item
          n.behind op c.requires,
    )

pub push_names-requires-2 : goal.push_names-requires-2
push_names-requires-2 t c =
    let n = c.node-node.result.now in
    let op = IsOpened-node c.args.forest.now c.args.root n c.node-node.ensures in (
      omega (arith, op.before_less, c.decreases),
      IsLinkTree-before c.args.forest.now c.args.root n.before n.item
          n.behind op c.requires,
    )

pub push_names-requires-3 : goal.push_names-requires-3
push_names-requires-3 t c =
    let n = c.node-node.result.now in
    let op = IsOpened-node c.args.forest.now c.args.root n c.node-node.ensures in (
      omega (arith, op.behind_less, c.decreases),
      IsLinkTree-behind c.args.forest.now c.args.root n.before n.item
          n.behind op c.requires,
    )

pub returns-then-node-key : goal.returns-then-node-key
returns-then-node-key t c =
    let n = c.node-node.result.now in
    let op = IsOpened-node c.args.forest.now c.args.root n c.node-node.ensures in
    subst (λ ns. OnOk c.push_names.result (c.push_names.new.to.items ≡ c.args.to.now.items ++ ns))
    (sym (names-behind c.args.forest.now c.args.root n.before n.item n.behind op c.requires c.args.key
    c.if-node-key.true))
    c.push_names.ensures

pub returns-then-key-node : goal.returns-then-key-node
returns-then-key-node t c =
    let n = c.node-node.result.now in
    let op = IsOpened-node c.args.forest.now c.args.root n c.node-node.ensures in
    c.in_ok-push_names.ensures
    ∙ ap (λ ns. c.args.to.now.items ++ ns)
    (sym (names-before c.args.forest.now c.args.root n.before n.item n.behind op c.requires c.args.key
    c.if-key-node.true))
