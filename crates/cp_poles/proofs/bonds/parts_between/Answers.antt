-- The numbers of the numbered part are those of the components.
use Rattle.std.proofs.Common.{◌∙◌}
use Rattle.cp_local.specs.LocalGraphs.{part}
use Rattle.cp_poles.proofs.NumberedParts.{AreNumbersBetween-marked}
use Rattle.cp_poles.proofs.bonds.parts_between.Goals as goal

pub returns : goal.returns
returns g c =
    let i = g.B.Board.instance c.args.board.now in
    let found = c.in_ok-local.ensures.found in
    record {
      rules = c.in_ok-local.ensures.rules;
      components = found.components;
      numbers = AreNumbersBetween-marked (part i c.in_ok-local.local.verts c.in_ok-local.local.edges)
          found.components.closed.ends_within
          c.args.u c.args.v found.components.first found.components.second c.items-names.result.now
          c.as_slice.result.now
          c.in_ok-numbers.numbers.items c.in_ok-local.local.graph c.place_of.result c.place_of-2.result found.graph
          c.items-names.ensures c.place_of.ensures.value c.place_of-2.ensures.value
          (c.as_slice.ensures.value ∙ c.in_ok-removed.ensures) c.in_ok-numbers.ensures;
    }
