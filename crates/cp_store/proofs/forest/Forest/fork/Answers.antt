use Rattle.std.proofs.Common.{length, arith}
use Rattle.cp_store.proofs.Grown.{IsTree-at, node-pushed}
use Rattle.cp_store.proofs.forest.Forest.fork.Goals as goal

pub invariant_of-self-2 : goal.invariant_of-self-2
invariant_of-self-2 g c = (node-pushed c.self.inside.nodes.items c.push.new.self.items c.args.self.now _ c.self.view_is
    c.self.invariant c.in_ok-push.ensures.items c.requires.before c.requires.behind
    (omega (arith, c.count.ensures.value, c.count-2.ensures.value)) (omega arith)).good

pub returns-clause-keeps : goal.returns-clause-keeps
returns-clause-keeps g c = (node-pushed c.self.inside.nodes.items c.push.new.self.items c.args.self.now _ c.self.view_is
    c.self.invariant c.in_ok-push.ensures.items c.requires.before c.requires.behind
    (omega (arith, c.count.ensures.value, c.count-2.ensures.value)) (omega arith)).keeps

pub returns-clause-tree : goal.returns-clause-tree
returns-clause-tree g c =
    let t = (node-pushed c.self.inside.nodes.items c.push.new.self.items c.args.self.now _ c.self.view_is
    c.self.invariant c.in_ok-push.ensures.items c.requires.before c.requires.behind
    (omega (arith, c.count.ensures.value, c.count-2.ensures.value)) (omega arith)).tree in
    IsTree-at _ (length c.push.new.self.items) c.len.result _ (omega (arith, c.len.ensures)) t
