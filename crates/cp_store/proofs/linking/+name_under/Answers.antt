use Rattle.std.proofs.Common.{◌≡◌, [], true, sym, subst, arith}
use Rattle.std.specs.Prelude.{MatchOption}
use Rattle.cp_board.specs.Names.{has}
use Rattle.cp_store.specs.Forests.{items_at}
use Rattle.cp_store.specs.Links.{names_under}
use Rattle.cp_store.proofs.Openings.{IsOpened-node}
use Rattle.cp_store.proofs.KeyNames.{IsLinkTree-before, IsLinkTree-behind, names-before, names-behind, names-here}
use Rattle.cp_store.proofs.PipeReads.{has-between}
use Rattle.cp_store.proofs.linking.+name_under.Goals as goal

pub name_under-requires : goal.name_under-requires
name_under-requires t c =
    let n = c.node-node.result.now in
    let op = IsOpened-node c.args.forest.now c.args.root n c.node-node.ensures in (
      omega (arith, op.behind_less, c.decreases),
      IsLinkTree-behind c.args.forest.now c.args.root n.before n.item
          n.behind op c.requires,
    )

pub name_under-requires-then-key-node : goal.name_under-requires-then-key-node
name_under-requires-then-key-node t c =
    let n = c.node-node.result.now in
    let op = IsOpened-node c.args.forest.now c.args.root n c.node-node.ensures in (
      omega (arith, op.before_less, c.decreases),
      IsLinkTree-before c.args.forest.now c.args.root n.before n.item
          n.behind op c.requires,
    )

pub returns-then-node-key : goal.returns-then-node-key
returns-then-node-key t c =
    let n = c.node-node.result.now in
    let op = IsOpened-node c.args.forest.now c.args.root n c.node-node.ensures in
    subst (λ ns. MatchOption c.name_under.result (ns ≡ []) (λ m. has ns m ≡ true))
    (sym (names-behind c.args.forest.now c.args.root n.before n.item n.behind op c.requires c.args.key
    c.if-node-key.true))
    c.name_under.ensures

pub returns-then-key-node : goal.returns-then-key-node
returns-then-key-node t c =
    let n = c.node-node.result.now in
    let op = IsOpened-node c.args.forest.now c.args.root n c.node-node.ensures in
    subst (λ ns. MatchOption c.name_under-then-key-node.result (ns ≡ []) (λ m. has ns m ≡ true))
    (sym (names-before c.args.forest.now c.args.root n.before n.item n.behind op c.requires c.args.key
    c.if-key-node.true))
    c.name_under-then-key-node.ensures

pub returns-else-key-node : goal.returns-else-key-node
returns-else-key-node t c =
    let n = c.node-node.result.now in
    let ls = c.args.forest.now in
    let op = IsOpened-node ls c.args.root n c.node-node.ensures in
    subst (λ ns. has ns n.item.name ≡ true)
    (sym (names-here ls c.args.root n.before n.item n.behind op c.requires c.args.key
    (omega (arith, c.if-node-key.false, c.if-key-node.false))))
    (has-between (names_under c.args.key (items_at ls n.before)) (names_under c.args.key (items_at ls n.behind))
    n.item.name)
