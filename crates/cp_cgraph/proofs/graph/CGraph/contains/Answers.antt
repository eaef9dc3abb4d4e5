use Rattle.cp_cgraph.proofs.Nesting.{contains_told, contains_before}
use Rattle.cp_cgraph.proofs.graph.CGraph.contains.Goals as goal

pub returns-then-c-home : goal.returns-then-c-home
returns-then-c-home c = contains_told c.args.self.now c.is_clustered.ensures.clustered c.args.c c.args.v
    c.home-home.result c.last.result c.requires.node c.home-home.ensures.value c.last.ensures c.if-c-home.true

pub returns-else-c-home : goal.returns-else-c-home
returns-else-c-home c = contains_before c.args.self.now c.is_clustered.ensures.clustered c.args.c c.args.v
    c.home-home.result c.requires.node c.home-home.ensures.value c.if-c-home.false
