use Rattle.cp_border.proofs.arranged.Arranged.node_items.Goals as goal

pub list_of_node-requires : goal.list_of_node-requires
list_of_node-requires c = ((c.args.self.now.arranged.nodes_right c.args.v).present c.requires).0
