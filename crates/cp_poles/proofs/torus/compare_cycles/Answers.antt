-- The lengths by places are those of the cycles of edges.
use Rattle.std.proofs.Common.{List, ℕ, ◌≡◌, sym, subst}
use Rattle.std.specs.Prelude.{Some}
use Rattle.cp_base.specs.Permutations.{IsPerm}
use Rattle.cp_board.specs.declared.parts.Pipe.{Pipe}
use Rattle.cp_board.specs.Instances.{pipe_named}
use Rattle.cp_poles.specs.Turned.{IsTurningByPlace}
use Rattle.cp_poles.proofs.TurnedPlaces.{Allowed-from_places, IsTorusFaultOf-places}
use Rattle.cp_poles.proofs.torus.compare_cycles.Goals as goal

pub unequal_lengths-requires : goal.unequal_lengths-requires
unequal_lengths-requires g c =
    subst IsPerm (sym c.as_slice.ensures.value) c.in_ok-places.ensures.turning.2.permutes

pub returns-clause-allowed : goal.returns-clause-allowed
returns-clause-allowed g c =
    let i = g.B.Board.instance c.args.board.now in
    Allowed-from_places i c.args.pipe c.turning_places.ensures.rules c.as_slice.result.now
    (subst (λ (to : List ℕ). (p : Pipe) × (pipe_named i c.args.pipe ≡ Some p) × IsTurningByPlace i p to)
    (sym c.as_slice.ensures.value) c.in_ok-places.ensures.turning)
    (rw c.in-None.is at c.in_ok-lengths.ensures)

pub returns-in-Some-clause-fault : goal.returns-in-Some-clause-fault
returns-in-Some-clause-fault g c =
    let i = g.B.Board.instance c.args.board.now in
    IsTorusFaultOf-places i c.args.pipe c.turning_places.ensures.rules c.as_slice.result.now
    (subst (λ (to : List ℕ). (p : Pipe) × (pipe_named i c.args.pipe ≡ Some p) × IsTurningByPlace i p to)
    (sym c.as_slice.ensures.value) c.in_ok-places.ensures.turning)
    c.in-Some.cycles.0 c.in-Some.cycles.1 (rw c.in-Some.is at c.in_ok-lengths.ensures).0
    (rw c.in-Some.is at c.in_ok-lengths.ensures).1
