use Rattle.std.proofs.Common.{refl, ◌∙◌, arith}
use Rattle.cp_border.specs.Borders.{borders}
use Rattle.cp_border.specs.Tables.{border_at}
use Rattle.cp_border.proofs.ListLaws.{border_at-lt, list_of_item}
use Rattle.cp_border.proofs.RotationLaw.{IsRotation-borders}
use Rattle.cp_border.proofs.TurnLaws.{list_within, list_once, IsViewedUpto-more}
use Rattle.cp_border.proofs.arranged.Arranged.write_item.Goals as goal

pub offset_bounds-begins-vertex : goal.offset_bounds-begins-vertex
offset_bounds-begins-vertex c =
    omega (
      arith,
      border_at-lt c.args.self.now.graph.now c.args.self.now.layout.now c.args.self.now.clustered
          c.args.self.now.arranged c.args.c c.args.k c.requires.inner c.requires.cluster c.requires.place,
      c.item_vertex-vertex.ensures,
      c.args.self.now.few_vertices,
    )

pub bounds-begins-vertex : goal.bounds-begins-vertex
bounds-begins-vertex c =
    omega (
      arith,
      border_at-lt c.args.self.now.graph.now c.args.self.now.layout.now c.args.self.now.clustered
          c.args.self.now.arranged c.args.c c.args.k c.requires.inner c.requires.cluster c.requires.place,
      c.item_vertex-vertex.ensures,
      c.nodes.ensures.value,
      c.requires.vertices,
    )

pub write_turn-requires-clause-within : goal.write_turn-requires-clause-within
write_turn-requires-clause-within c = λ i lt.
    omega (
      arith,
      c.requires.room,
      list_within (borders c.args.self.now.graph.now c.args.self.now.layout.now)
          (IsRotation-borders c.args.self.now.graph.now c.args.self.now.layout.now c.args.self.now.clustered
          c.args.self.now.arranged) (border_at c.args.self.now.graph.now c.args.self.now.layout.now c.args.c c.args.k)
          c.border_darts-darts.result
          (border_at-lt c.args.self.now.graph.now c.args.self.now.layout.now c.args.self.now.clustered
          c.args.self.now.arranged c.args.c c.args.k c.requires.inner c.requires.cluster c.requires.place)
          (c.border_darts-darts.ensures
          ∙ list_of_item c.args.self.now.graph.now c.args.self.now.layout.now c.args.self.now.clustered
          c.args.self.now.arranged c.args.c c.args.k c.requires.inner c.requires.cluster c.requires.place) i lt,
    )

pub write_turn-requires-clause-distinct : goal.write_turn-requires-clause-distinct
write_turn-requires-clause-distinct c =
    list_once (borders c.args.self.now.graph.now c.args.self.now.layout.now)
    (IsRotation-borders c.args.self.now.graph.now c.args.self.now.layout.now c.args.self.now.clustered
    c.args.self.now.arranged) (border_at c.args.self.now.graph.now c.args.self.now.layout.now c.args.c c.args.k)
    c.border_darts-darts.result
    (border_at-lt c.args.self.now.graph.now c.args.self.now.layout.now c.args.self.now.clustered
    c.args.self.now.arranged c.args.c c.args.k c.requires.inner c.requires.cluster c.requires.place)
    (c.border_darts-darts.ensures
    ∙ list_of_item c.args.self.now.graph.now c.args.self.now.layout.now c.args.self.now.clustered
    c.args.self.now.arranged c.args.c c.args.k c.requires.inner c.requires.cluster c.requires.place)

pub returns : goal.returns
returns c =
    rw (c.item_vertex-vertex.ensures, c.nodes.ensures.value)
    (IsViewedUpto-more c.args.self.now.graph.now c.args.self.now.layout.now c.args.self.now.clustered
    c.args.self.now.arranged c.args.c c.args.k c.args.next.now c.write_turn.new.next c.args.begins.now
    c.border_darts-darts.result _ c.requires.inner c.requires.cluster c.requires.place c.requires.vertices
    c.border_darts-darts.ensures
    record { written = c.write_turn.ensures.written; others = c.write_turn.ensures.others } refl c.requires.done)
