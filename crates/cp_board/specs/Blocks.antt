-- Blocks of an instance, their rotations, and the orders round a vertex in them.
use Rattle.std.specs.Prelude.{◌≡◌, ℕ, ◌<◌, Bool, List, length, slice_index, Some}
use Rattle.std.specs.List.{All, Contains, filter}
use Rattle.cp_lists.specs.Turns.{IsTurn}
use Rattle.cp_board.specs.declared.parts.Kind.TheVariants.{P, Q}
use Rattle.cp_board.specs.declared.parts.Kind.{Kind}
use Rattle.cp_board.specs.Rotations.{IsRotationOf}
use Rattle.cp_conn.specs.NamedGraphs.{IsBlockOf, InOneBlock, only}
use Rattle.cp_board.specs.Instances.{Synchronized, edge_names, edges_of, graph, kind_of}
use Rattle.cp_board.specs.Solutions.{directed}

-- the list is, up to a turn, what the psi of a Q-vertex has of the block, in one or the other direction
abbrev pub IsKept : (ℕ → Bool) → List ℕ → Kind → Type 0
IsKept inside xs P = Unit {0}
IsKept inside xs (Q cell psi) = (back : Bool) × IsTurn (directed back (filter inside psi)) xs

-- s tells a rotation of the block in which each Q-vertex has what its psi has of the block, in one or the
-- other direction
pub record IsBlockRotation (i : Synchronized) (inside : ℕ → Bool) (s : ℕ → List ℕ) : Type 0 where
  pub rotation : IsRotationOf (only inside (graph i)) s
  pub kept : All (λ v. IsKept inside (s v.name) v.kind) i.verts

-- u, which is no cut vertex, has this order in some rotation of its block
pub record IsBlockOrder (i : Synchronized) (u : ℕ) (order : List ℕ) : Type 0 where
  pub edge : ℕ
  pub at : Contains (edges_of i u) edge
  pub inside : ℕ → Bool
  pub block : IsBlockOf (graph i) edge inside
  pub lists : ℕ → List ℕ
  pub rotation : IsBlockRotation i inside lists
  pub turn : IsTurn (lists u) order

-- the block of e has no rotation
abbrev pub HasNoRotation : Synchronized → ℕ → Type 0
HasNoRotation i e = (inside : ℕ → Bool) (s : ℕ → List ℕ) → IsBlockOf (graph i) e inside → ¬ IsBlockRotation i inside s

-- e is the least edge of a block that has no rotation
pub record IsUnembeddable (i : Synchronized) (e : ℕ) : Type 0 where
  pub live : Contains (edge_names i) e
  pub least : (f : ℕ) → Contains (edge_names i) f → f < e → ¬ InOneBlock (graph i) e f
  pub none : HasNoRotation i e

-- at the Q-vertex q edges of two blocks take turns in psi
pub record HaveCrossing (i : Synchronized) (q : ℕ) : Type 0 where
  pub cell : ℕ
  pub psi : List ℕ
  pub kind : kind_of i q ≡ Some (Q cell psi)
  pub first : ℕ
  pub second : ℕ
  pub third : ℕ
  pub fourth : ℕ
  pub in_order : (first < second) × (second < third) × (third < fourth) × (fourth < length psi)
  pub one : InOneBlock (graph i) (slice_index psi first) (slice_index psi third)
  pub other : InOneBlock (graph i) (slice_index psi second) (slice_index psi fourth)
  pub apart : ¬ InOneBlock (graph i) (slice_index psi first) (slice_index psi second)
