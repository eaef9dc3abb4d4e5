-- What the board tells of the pipe gives the places.
use Rattle.std.proofs.Common.{ap, sym, ◌∙◌, map, subst}
use Rattle.cp_board.specs.Instances.{graph}
use Rattle.cp_poles.specs.Turned.{AreOnward}
use Rattle.cp_poles.proofs.SmallRewrites.{live_pipe}
use Rattle.cp_poles.proofs.TurnedPlaces.{bond_told, live_first, live_second, told-AreEndLists, told-IsTurningByPlace, told_live}
use Rattle.cp_poles.proofs.turned.turning_places.Goals as goal

pub pipe_ends-ends-requires : goal.pipe_ends-ends-requires
pipe_ends-ends-requires g c =
    live_pipe (g.B.Board.instance c.args.board.now) c.args.pipe c.requires.bond.0 c.requires.bond.1

pub onward-requires-clause-live_u : goal.onward-requires-clause-live_u
onward-requires-clause-live_u g c =
    live_second (g.B.Board.instance c.args.board.now) c.args.pipe c.requires.bond.0 c.pipe_ends-ends.ensures.rules c.requires.bond.1
    c.requires.bond.2 c.pipe_ends-ends.result c.pipe_ends-ends.ensures.value

pub onward-requires-clause-live_v : goal.onward-requires-clause-live_v
onward-requires-clause-live_v g c =
    live_first (g.B.Board.instance c.args.board.now) c.args.pipe c.requires.bond.0 c.pipe_ends-ends.ensures.rules c.requires.bond.1
    c.requires.bond.2 c.pipe_ends-ends.result c.pipe_ends-ends.ensures.value

pub onward-requires-clause-bond : goal.onward-requires-clause-bond
onward-requires-clause-bond g c =
    bond_told (g.B.Board.instance c.args.board.now) c.args.pipe c.requires.bond.0 c.pipe_ends-ends.ensures.rules c.requires.bond.1
    c.requires.bond.2 c.pipe_ends-ends.result c.pipe_ends-ends.ensures.value

pub pairs-pairs-requires : goal.pairs-pairs-requires
pairs-pairs-requires g c =
    live_pipe (g.B.Board.instance c.args.board.now) c.args.pipe c.requires.bond.0 c.requires.bond.1

pub edges_at-requires : goal.edges_at-requires
edges_at-requires g c =
    live_first (g.B.Board.instance c.args.board.now) c.args.pipe c.requires.bond.0 c.pipe_ends-ends.ensures.rules c.requires.bond.1
    c.requires.bond.2 c.pipe_ends-ends.result c.pipe_ends-ends.ensures.value

pub edges_at-requires-2 : goal.edges_at-requires-2
edges_at-requires-2 g c =
    live_second (g.B.Board.instance c.args.board.now) c.args.pipe c.requires.bond.0 c.pipe_ends-ends.ensures.rules c.requires.bond.1
    c.requires.bond.2 c.pipe_ends-ends.result c.pipe_ends-ends.ensures.value

pub turned_places-requires-clause-lists : goal.turned_places-requires-clause-lists
turned_places-requires-clause-lists g c =
    let i = g.B.Board.instance c.args.board.now in
    told-AreEndLists i c.args.pipe c.requires.bond.0 c.pipe_ends-ends.ensures.rules c.requires.bond.1
    c.requires.bond.2 c.pipe_ends-ends.result c.pipe_ends-ends.ensures.value c.as_slice-firsts.result.now
    c.items.result.now c.as_slice-seconds.result.now c.items-there.result.now
    (c.as_slice-firsts.ensures.value ∙ c.in_ok-first.ensures.names)
    (c.as_slice-seconds.ensures.value ∙ c.in_ok-second.ensures.names)
    (subst (AreOnward (graph i) c.pipe_ends-ends.result.1 c.pipe_ends-ends.result.0) (sym c.items.ensures) c.in_ok-back.ensures)
    (c.items-there.ensures ∙ c.in_ok-partners.ensures ∙ ap (map (λ x. x.1)) c.pairs-pairs.ensures)

pub turned_places-requires-clause-live : goal.turned_places-requires-clause-live
turned_places-requires-clause-live g c =
    let i = g.B.Board.instance c.args.board.now in
    told_live i c.args.pipe c.requires.bond.0 c.pipe_ends-ends.ensures.rules c.requires.bond.1
    c.requires.bond.2 c.pipe_ends-ends.result c.pipe_ends-ends.ensures.value c.as_slice-firsts.result.now
    c.items.result.now c.as_slice-seconds.result.now c.items-there.result.now
    (c.as_slice-firsts.ensures.value ∙ c.in_ok-first.ensures.names)
    (c.as_slice-seconds.ensures.value ∙ c.in_ok-second.ensures.names)
    (subst (AreOnward (graph i) c.pipe_ends-ends.result.1 c.pipe_ends-ends.result.0) (sym c.items.ensures) c.in_ok-back.ensures)
    (c.items-there.ensures ∙ c.in_ok-partners.ensures ∙ ap (map (λ x. x.1)) c.pairs-pairs.ensures)

pub returns-clause-turning : goal.returns-clause-turning
returns-clause-turning g c =
    let i = g.B.Board.instance c.args.board.now in (
      c.requires.bond.0,
      c.requires.bond.1,
      told-IsTurningByPlace i c.args.pipe c.requires.bond.0 c.pipe_ends-ends.ensures.rules c.requires.bond.1
          c.requires.bond.2 c.pipe_ends-ends.result c.pipe_ends-ends.ensures.value
          c.as_slice-firsts.result.now
          c.items.result.now c.as_slice-seconds.result.now c.items-there.result.now
          (c.as_slice-firsts.ensures.value ∙ c.in_ok-first.ensures.names)
          (c.as_slice-seconds.ensures.value ∙ c.in_ok-second.ensures.names)
          (subst (AreOnward (graph i) c.pipe_ends-ends.result.1 c.pipe_ends-ends.result.0) (sym c.items.ensures)
          c.in_ok-back.ensures)
          (c.items-there.ensures ∙ c.in_ok-partners.ensures ∙ ap (map (λ x. x.1)) c.pairs-pairs.ensures)
          c.in_ok-places.places.items c.in_ok-places.ensures,
    )
