use Rattle.cp_store.proofs.Grown.{nodes-cut}
use Rattle.cp_store.proofs.forest.Forest.cut.Goals as goal

pub invariant_of-self : goal.invariant_of-self
invariant_of-self g c = (nodes-cut c.self.inside.nodes.items c.truncate.new.self.items c.args.self.now c.args.mark
    c.self.view_is c.self.invariant c.truncate.ensures.items c.requires).good

pub returns-clause-length : goal.returns-clause-length
returns-clause-length g c = (nodes-cut c.self.inside.nodes.items c.truncate.new.self.items c.args.self.now c.args.mark
    c.self.view_is c.self.invariant c.truncate.ensures.items c.requires).size

pub returns-clause-keeps : goal.returns-clause-keeps
returns-clause-keeps g c = (nodes-cut c.self.inside.nodes.items c.truncate.new.self.items c.args.self.now c.args.mark
    c.self.view_is c.self.invariant c.truncate.ensures.items c.requires).keeps
