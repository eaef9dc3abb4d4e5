use Rattle.std.proofs.Common.{[], length, ap, arith}
use Rattle.cp_store.proofs.Grown.{length-grown, node-of}
use Rattle.cp_store.proofs.forest.Forest.node.Goals as goal

pub index-requires : goal.index-requires
index-requires g c = omega (
  arith,
  c.requires.live,
  c.requires.within,
  length-grown [] c.self.inside.nodes.items,
  ap
      length c.self.view_is,
)

pub returns : goal.returns
returns g c = node-of c.self.inside.nodes.items c.args.root c.index.result.now c.args.self.now c.self.view_is
    c.self.invariant c.requires.live c.requires.within c.index.ensures
