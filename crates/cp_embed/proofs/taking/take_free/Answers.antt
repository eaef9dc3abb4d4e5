-- A refusal is handed on; the tree in between has the same leaves.
use Rattle.std.proofs.lemmas.Result.{err_from_is_err_and}
use Rattle.cp_embed.proofs.TakenTrees.{IsLeafSet-kept, star-IsFreshNode, free-IsFreeStep}
use Rattle.cp_embed.proofs.taking.take_free.Goals as goal

pub returns-in_err-mid-clause-refused : goal.returns-in_err-mid-clause-refused
returns-in_err-mid-clause-refused g c =
    let p = err_from_is_err_and c.from_residual.result c.from_residual.ensures.1 in
    rw (p.1, p.2) c.in_err-mid.ensures.refused

pub replace-requires-clause-leaf_set : goal.replace-requires-clause-leaf_set
replace-requires-clause-leaf_set g c =
    IsLeafSet-kept (g.T.OrderTree.tree c.args.old) (g.T.OrderTree.tree c.in_ok-mid.mid) c.in_ok-mid.ensures.reduced.root
    c.in_ok-mid.ensures.reduced.leaves_kept c.args.ins.now c.requires.leaf_set

pub replace-requires-clause-fresh : goal.replace-requires-clause-fresh
replace-requires-clause-fresh g c =
    star-IsFreshNode (g.T.OrderTree.tree c.args.old) (g.T.OrderTree.tree c.in_ok-mid.mid) c.in_ok-mid.ensures.reduced.root
    c.in_ok-mid.ensures.reduced.leaves_kept c.args.ins.now c.args.outs.now c.args.vertex c.in_ok-node.node
    c.in_ok-node.ensures c.requires.fresh

pub returns-clause-step : goal.returns-clause-step
returns-clause-step g c =
    free-IsFreeStep c.args.ins.now c.args.outs.now c.args.vertex (g.T.OrderTree.tree c.args.old)
    (g.T.OrderTree.tree c.in_ok-mid.mid) (g.T.OrderTree.tree c.in_ok-new.new) c.in_ok-node.node c.in_ok-new.part
    c.in_ok-node.ensures c.requires.fresh.once c.in_ok-mid.ensures.reduced c.in_ok-new.ensures.replaced
