use Rattle.cp_border.proofs.arranged.Arranged.border_items.Goals as goal

pub list_of_cluster-requires-clause-cluster : goal.list_of_cluster-requires-clause-cluster
list_of_cluster-requires-clause-cluster c =
    ((c.args.self.now.arranged.clusters_right c.args.c).present c.requires.inner c.requires.cluster).0
