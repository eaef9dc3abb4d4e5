-- The map of a pipe between the poles of a bond, by the places of the edges of its first end.
use Rattle.std.specs.Prelude.{◌≡◌, ℕ, ◌<◌, List, length, slice_index}
use Rattle.std.specs.List.{All, Contains}
use Rattle.std.specs.List.Sorted.{IsStrictlyIncreasing}
use Rattle.cp_base.specs.Permutations.{IsPerm}
use Rattle.cp_conn.specs.Bonds.{GoesOn, IsBond}
use Rattle.cp_conn.specs.NamedGraphs.{NamedGraph, edges_at, rank}
use Rattle.cp_board.specs.declared.parts.Pipe.{Pipe}
use Rattle.cp_board.specs.Instances.{Synchronized, edges_of, graph}
use Rattle.cp_board.specs.Steps.{IsTurning}

-- the edges as which those of u go on, in the order of the edges of u
pub record AreOnward (g : NamedGraph) (u v : ℕ) (fs : List ℕ) : Type 0 where
  pub one_each : length fs ≡ length (edges_at g u)
  pub onward : (k : ℕ) → k < length fs → GoesOn g u v (slice_index (edges_at g u) k) (slice_index fs k)

-- the first and the second edges rise, and there is a first edge for each second one, which goes back as it
pub record AreEndLists (firsts back seconds : List ℕ) : Type 0 where
  pub firsts_rise : IsStrictlyIncreasing firsts
  pub seconds_rise : IsStrictlyIncreasing seconds
  pub one_each : length back ≡ length seconds
  pub back_live : All (Contains firsts) back

-- the place, among the first edges, of the edge as which a second edge goes back
abbrev pub place_back : List ℕ → List ℕ → List ℕ → ℕ → ℕ
place_back firsts back seconds y = rank firsts (slice_index back (rank seconds y))

-- the list tells for the place of each edge of the first end that of the edge to which the map of the pipe takes it
pub record IsTurningByPlace (i : Synchronized) (p : Pipe) (to : List ℕ) : Type 0 where
  pub bond : IsBond (graph i) p.a p.b
  pub turning : ℕ → ℕ
  pub is_turning : IsTurning i p turning
  pub permutes : IsPerm to
  pub one_each : length to ≡ length (edges_of i p.a)
  pub carried : (k : ℕ) → k < length to
      → slice_index (edges_of i p.a) (slice_index to k) ≡ turning (slice_index (edges_of i p.a) k)
