use Rattle.std.proofs.Common.{refl}
use Rattle.cp_cgraph.specs.Clustered.{home}
use Rattle.cp_cgraph.specs.LookUps.{depth}
use Rattle.cp_cgraph.proofs.Nesting.{source_told, target_told}
use Rattle.cp_cgraph.proofs.graph.CGraph.place.Goals as goal

pub overflow_sub-result : goal.overflow_sub-result
overflow_sub-result c =
    (source_told c.args.self.now c.is_clustered.ensures.clustered c.args.e c.args.c c.ends-source.result
    c.contains.result c.home.result c.depth.result c.depth-then-contains.result
    c.requires.edge c.requires.left c.ends-source.ensures.ends c.contains.ensures c.if-contains.true
    c.home.ensures.value c.depth.ensures c.depth-then-contains.ensures).0

pub returns-then-contains : goal.returns-then-contains
returns-then-contains c =
    (source_told c.args.self.now c.is_clustered.ensures.clustered c.args.e c.args.c c.ends-source.result
    c.contains.result c.home.result c.depth.result c.depth-then-contains.result
    c.requires.edge c.requires.left c.ends-source.ensures.ends c.contains.ensures c.if-contains.true
    c.home.ensures.value c.depth.ensures c.depth-then-contains.ensures).1

pub overflow_sub-result-else-contains : goal.overflow_sub-result-else-contains
overflow_sub-result-else-contains c =
    let g = c.args.self.now in
    (target_told g c.is_clustered.ensures.clustered c.args.e c.args.c c.ends-source.result c.contains.result
    c.crossed.result (home g c.ends-source.result.1) (depth g (home g c.ends-source.result.1)) (depth g c.args.c)
    c.requires.edge c.requires.left c.ends-source.ensures.ends c.contains.ensures c.if-contains.false
    c.crossed.ensures.value refl refl refl).some

pub overflow_sub-result-else-contains-2 : goal.overflow_sub-result-else-contains-2
overflow_sub-result-else-contains-2 c =
    (target_told c.args.self.now c.is_clustered.ensures.clustered c.args.e c.args.c c.ends-source.result
    c.contains.result c.crossed.result c.home-else-contains.result c.depth-else-contains.result c.depth-else-contains-2.result
    c.requires.edge c.requires.left c.ends-source.ensures.ends c.contains.ensures c.if-contains.false
    c.crossed.ensures.value c.home-else-contains.ensures.value c.depth-else-contains.ensures
    c.depth-else-contains-2.ensures).deeper

pub overflow_sub-result-else-contains-3 : goal.overflow_sub-result-else-contains-3
overflow_sub-result-else-contains-3 c =
    (target_told c.args.self.now c.is_clustered.ensures.clustered c.args.e c.args.c c.ends-source.result
    c.contains.result c.crossed.result c.home-else-contains.result c.depth-else-contains.result c.depth-else-contains-2.result
    c.requires.edge c.requires.left c.ends-source.ensures.ends c.contains.ensures c.if-contains.false
    c.crossed.ensures.value c.home-else-contains.ensures.value c.depth-else-contains.ensures
    c.depth-else-contains-2.ensures).inside

pub returns-else-contains : goal.returns-else-contains
returns-else-contains c =
    (target_told c.args.self.now c.is_clustered.ensures.clustered c.args.e c.args.c c.ends-source.result
    c.contains.result c.crossed.result c.home-else-contains.result c.depth-else-contains.result c.depth-else-contains-2.result
    c.requires.edge c.requires.left c.ends-source.ensures.ends c.contains.ensures c.if-contains.false
    c.crossed.ensures.value c.home-else-contains.ensures.value c.depth-else-contains.ensures
    c.depth-else-contains-2.ensures).place
