use Rattle.std.proofs.Common.{slice_index, sym, ap, ◌∙◌}
use Rattle.std.proofs.lemmas.List.{get_or-map}
use Rattle.cp_border.specs.Borders.{end_dart, node_list}
use Rattle.cp_border.proofs.ListLaws.{node_item-lt}
use Rattle.cp_border.proofs.Rotation.{end_dart-lt}
use Rattle.cp_border.proofs.arranged.Arranged.node_item.Goals as goal

pub end_of-requires : goal.end_of-requires
end_of-requires c =
    node_item-lt c.args.self.now.graph.now c.args.self.now.layout.now c.args.self.now.arranged c.args.v
    c.node_items.result.now ((c.args.self.now.arranged.nodes_right c.args.v).present c.requires.node).0
    c.node_items.ensures c.args.i (rw c.node_items.ensures c.requires.place)

pub returns-clause-value : goal.returns-clause-value
returns-clause-value c =
    c.end_of.ensures ∙ ap (λ xs. end_dart c.args.self.now.graph.now (slice_index xs c.args.i)) c.node_items.ensures
    ∙ sym (get_or-map (end_dart c.args.self.now.graph.now) (node_list c.args.self.now.layout.now c.args.v) c.args.i
    0 0 c.requires.place)

pub returns-clause-dart : goal.returns-clause-dart
returns-clause-dart c =
    let dart = node_item-lt c.args.self.now.graph.now c.args.self.now.layout.now c.args.self.now.arranged c.args.v
    c.node_items.result.now ((c.args.self.now.arranged.nodes_right c.args.v).present c.requires.node).0
    c.node_items.ensures c.args.i (rw c.node_items.ensures c.requires.place) in
    rw c.end_of.ensures (end_dart-lt c.args.self.now.graph.now c.args.self.now.layout.now _ dart)
