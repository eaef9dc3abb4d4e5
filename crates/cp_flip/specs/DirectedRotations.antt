-- Rotations of a block of an instance in which each Q-vertex has its psi in a given direction.
use Rattle.std.specs.Prelude.{◌≡◌, ℕ, Bool, true, List}
use Rattle.std.specs.List.{Contains, filter}
use Rattle.cp_lists.specs.Turns.{IsTurn}
use Rattle.cp_board.specs.Instances.{Synchronized, graph, is_q, psi_at, vert_names}
use Rattle.cp_board.specs.Rotations.{IsRotationOf}
use Rattle.cp_board.specs.Solutions.{directed}
use Rattle.cp_conn.specs.NamedGraphs.{only}

-- s tells a rotation of the block in which each Q-vertex has what its psi has of the block, in the direction of its bit
pub record IsDirectedRotation (i : Synchronized) (inside : ℕ → Bool) (back : ℕ → Bool) (s : ℕ → List ℕ) : Type 0 where
  pub rotation : IsRotationOf (only inside (graph i)) s
  pub kept : (v : ℕ) → Contains (vert_names i) v → is_q i v ≡ true
      → IsTurn (directed (back v) (filter inside (psi_at i v))) (s v)
