use Rattle.std.proofs.Common.{◌<◌, ◌≤◌, ◌^◌, subst}
use Rattle.cp_cgraph.specs.Clustered.{IsClustered, clusters, edges}
use Rattle.cp_cgraph.proofs.graph.CGraph.is_clustered.Goals as goal

pub returns-clause-clustered : goal.returns-clause-clustered
returns-clause-clustered c = subst IsClustered c.self.view_is c.is_clustered.ensures.clustered

pub returns-clause-few_edges : goal.returns-clause-few_edges
returns-clause-few_edges c = subst (λ g. edges g < 2 ^ 60) c.self.view_is c.is_clustered.ensures.few_edges

pub returns-clause-few_clusters : goal.returns-clause-few_clusters
returns-clause-few_clusters c = subst (λ g. clusters g ≤ 2 ^ 60) c.self.view_is c.is_clustered.ensures.few_clusters
