use Rattle.std.proofs.Common.{◌≡◌, slice_index}
use Rattle.cp_rot.specs.Systems.{list_of}
use Rattle.cp_border.specs.Borders.{borders}
use Rattle.cp_border.proofs.view.View.border_item.Given as goal

abbrev pub invariant-loop-k : goal.invariant-loop-k
invariant-loop-k l = l.dart ≡ slice_index
    (list_of (borders l.self-inside.arranged.graph.now l.self-inside.arranged.layout.now) l.v) l._k
