use Rattle.std.proofs.Common.{◌≡◌, ℕ, length, map, slice_index, sym, ap, ◌∙◌, arith}
use Rattle.std.proofs.lemmas.List.{length-map}
use Rattle.cp_rot.specs.Systems.{place_after}
use Rattle.cp_rot.proofs.NextTables.{Written-more}
use Rattle.cp_border.specs.Borders.{borders, end_dart, node_list}
use Rattle.cp_border.proofs.Cyclic.{place_after-lt}
use Rattle.cp_border.proofs.Rotation.{list_of_node}
use Rattle.cp_border.proofs.RotationLaw.{IsRotation-borders}
use Rattle.cp_border.proofs.TurnLaws.{turned_more, list_once, node-lt}
use Rattle.cp_border.proofs.arranged.Arranged.write_node.Goals as goal

pub node_item-behind-requires-clause-place : goal.node_item-behind-requires-clause-place
node_item-behind-requires-clause-place c =
    let long : length c.node_items-count.result.now ≡ length (node_list c.args.self.now.layout.now c.args.v) =
    ap length c.node_items-count.ensures in
    omega (
      arith,
      c.place_behind.ensures,
      place_after-lt (length c.node_items-count.result.now) c.loop-i.i
          (omega arith),
    )

pub loop-i-preserved : goal.loop-i-preserved
loop-i-preserved c =
    let long : length c.node_items-count.result.now ≡ length (node_list c.args.self.now.layout.now c.args.v) =
    ap length c.node_items-count.ensures in
    let mapped : length (map (end_dart c.args.self.now.graph.now) (node_list c.args.self.now.layout.now c.args.v))
    ≡ length (node_list c.args.self.now.layout.now c.args.v) =
    length-map (node_list c.args.self.now.layout.now c.args.v) (end_dart c.args.self.now.graph.now) in
    rw c.write_dart.ensures
    (Written-more (map (end_dart c.args.self.now.graph.now) (node_list c.args.self.now.layout.now c.args.v))
    c.args.next.now c.loop-i.next c.loop-i.i c.node_item-dart.result c.node_item-behind.result
    (list_once (borders c.args.self.now.graph.now c.args.self.now.layout.now)
    (IsRotation-borders c.args.self.now.graph.now c.args.self.now.layout.now c.args.self.now.clustered
    c.args.self.now.arranged) c.args.v _ (node-lt c.args.self.now.graph.now c.args.v c.requires.node)
    (sym (list_of_node c.args.self.now.graph.now c.args.self.now.layout.now c.args.self.now.arranged c.args.v
    c.requires.node)))
    c.loop-i.invariant (omega arith) c.node_item-dart.ensures.value (omega
    (arith, c.node_item-dart.ensures.dart, c.requires.room, c.loop-i.auto.next))
    (c.node_item-behind.ensures.value
    ∙ ap (slice_index (map (end_dart c.args.self.now.graph.now) (node_list c.args.self.now.layout.now c.args.v)))
    (c.place_behind.ensures ∙ ap (λ (n : ℕ). place_after n c.loop-i.i) (long ∙ sym mapped))))

pub returns : goal.returns
returns c =
    let long : length c.node_items-count.result.now ≡ length (node_list c.args.self.now.layout.now c.args.v) =
    ap length c.node_items-count.ensures in
    let mapped : length (map (end_dart c.args.self.now.graph.now) (node_list c.args.self.now.layout.now c.args.v))
    ≡ length (node_list c.args.self.now.layout.now c.args.v) =
    length-map (node_list c.args.self.now.layout.now c.args.v) (end_dart c.args.self.now.graph.now) in
    turned_more (borders c.args.self.now.graph.now c.args.self.now.layout.now)
    (IsRotation-borders c.args.self.now.graph.now c.args.self.now.layout.now c.args.self.now.clustered
    c.args.self.now.arranged) c.args.v c.args.next.now c.loop-i.next
    (map (end_dart c.args.self.now.graph.now) (node_list c.args.self.now.layout.now c.args.v))
    (node-lt c.args.self.now.graph.now c.args.v c.requires.node) (sym
    (list_of_node c.args.self.now.graph.now c.args.self.now.layout.now c.args.self.now.arranged c.args.v
    c.requires.node))
    record {
      written = λ i lt. c.loop-i.invariant.written i (omega arith);
      others = λ d none. c.loop-i.invariant.others d (λ i lt. none i (omega arith));
    }
    c.requires.done
