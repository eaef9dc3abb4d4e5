use Rattle.std.proofs.Common.{[], length, ap, arith}
use Rattle.cp_store.proofs.Grown.{length-grown}
use Rattle.cp_store.proofs.forest.Forest.len.Goals as goal

pub returns : goal.returns
returns g c = omega (arith, c.len.ensures, length-grown [] c.self.inside.nodes.items, ap length c.self.view_is)
