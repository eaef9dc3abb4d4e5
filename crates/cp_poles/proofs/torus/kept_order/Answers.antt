-- The rows of the places tell the edges.
use Rattle.std.proofs.Common.{List, ℕ, ◌∙◌, sym, subst}
use Rattle.cp_base.specs.Permutations.{IsPerm}
use Rattle.cp_poles.specs.Cycles.{HaveLength}
use Rattle.cp_poles.specs.Kept.{IsKeptBy}
use Rattle.cp_poles.proofs.KeptOrders.{HaveLength-told, IsKeptOrder-told, places_within}
use Rattle.cp_poles.proofs.SmallRewrites.{live_pipe}
use Rattle.cp_poles.proofs.TurnedPlaces.{live_first}
use Rattle.cp_poles.proofs.torus.kept_order.Goals as goal

pub turning_places-requires : goal.turning_places-requires
turning_places-requires g c = record { bond = (c.requires.0, c.requires.1, c.requires.2.bond) }

pub rows_of_cycles-requires-clause-permutes : goal.rows_of_cycles-requires-clause-permutes
rows_of_cycles-requires-clause-permutes g c =
    subst IsPerm (sym c.as_slice.ensures.value) c.in_ok-places.ensures.turning.2.permutes

pub rows_of_cycles-requires-clause-one_length : goal.rows_of_cycles-requires-clause-one_length
rows_of_cycles-requires-clause-one_length g c =
    subst (λ (to : List ℕ). (size : ℕ) × HaveLength to size) (sym c.as_slice.ensures.value)
    (HaveLength-told (g.B.Board.instance c.args.board.now) c.args.pipe c.turning_places.ensures.rules c.requires
    c.in_ok-places.places.items c.in_ok-places.ensures.turning)

pub pipe_ends-first-requires : goal.pipe_ends-first-requires
pipe_ends-first-requires g c =
    live_pipe (g.B.Board.instance c.args.board.now) c.args.pipe c.requires.0 c.requires.1

pub edges_at-requires : goal.edges_at-requires
edges_at-requires g c =
    live_first (g.B.Board.instance c.args.board.now) c.args.pipe c.requires.0 c.turning_places.ensures.rules
    c.requires.1 c.requires.2.bond c.pipe_ends-first.result c.pipe_ends-first.ensures.value

pub edges_at_places-requires : goal.edges_at_places-requires
edges_at_places-requires g c =
    let told = c.in_ok-places.ensures.turning in
    places_within (g.B.Board.instance c.args.board.now) c.args.pipe told.0 told.1 c.in_ok-places.places.items
    c.in_ok-rows.rows.items told.2
    (subst (λ (to : List ℕ). IsKeptBy to c.in_ok-rows.rows.items) c.as_slice.ensures.value c.in_ok-rows.ensures)
    c.pipe_ends-first.result c.pipe_ends-first.ensures.value c.as_slice-2.result.now c.as_slice-3.result.now
    (c.as_slice-2.ensures.value ∙ c.in_ok-edges.ensures.names) c.as_slice-3.ensures.value

pub returns : goal.returns
returns g c =
    let told = c.in_ok-places.ensures.turning in (
      told.0,
      told.1,
      IsKeptOrder-told (g.B.Board.instance c.args.board.now) c.args.pipe told.0 told.1 c.in_ok-places.places.items
          c.in_ok-rows.rows.items told.2
          (subst (λ (to : List ℕ). IsKeptBy to c.in_ok-rows.rows.items) c.as_slice.ensures.value
          c.in_ok-rows.ensures)
          c.pipe_ends-first.result c.pipe_ends-first.ensures.value c.as_slice-2.result.now c.as_slice-3.result.now
          (c.as_slice-2.ensures.value ∙ c.in_ok-edges.ensures.names) c.as_slice-3.ensures.value
          c.in_ok-order.order c.in_ok-order.ensures,
    )
