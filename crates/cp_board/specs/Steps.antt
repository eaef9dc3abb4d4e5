-- When a reduction is allowed (Bläsius, Fink and Rutter 2021).
use Rattle.std.specs.Prelude.{◌≡◌, ◌≢◌, ◌⊎◌, ℕ, ◌≤◌, true, cond, eqb, List, ◌∷◌, length, Some, None}
use Rattle.std.specs.List.{Contains}
use Rattle.cp_orbits.specs.Orbits.{CycleLength}
use Rattle.cp_board.specs.declared.parts.Pipe.{Pipe}
use Rattle.cp_base.specs.declared.shape.Shape.{Shape}
use Rattle.cp_board.specs.declared.steps.Step.{Step}
use Rattle.cp_board.specs.declared.steps.Step.TheVariants.{Small, FreePole, FusePoles, Toroidal, Join, Propagate}
use Rattle.cp_board.specs.Names.{rising}
use Rattle.cp_conn.specs.NamedGraphs.{IsCut}
use Rattle.cp_conn.specs.Bonds.{IsBond, GoesOn}
use Rattle.cp_board.specs.Instances.{Synchronized, IsPVertex, edges_of, graph, pipe_named, pipe_at}
use Rattle.cp_board.specs.Solutions.{second_of, first_of}
use Rattle.cp_base.specs.Shapes.{Admits, IsStar, leaves, branches}
use Rattle.cp_board.specs.Blocks.{IsBlockOrder}

-- the number of pairs of a pipe
abbrev pub degree : Pipe → ℕ
degree p = length p.pairs

-- the end of a pipe that is not u
abbrev pub opposite : Pipe → ℕ → ℕ
opposite p u = cond (eqb p.a u) p.b p.a

-- the partner of an edge of the end u
abbrev pub partner : Pipe → ℕ → ℕ → ℕ
partner p u x = cond (eqb p.a u) (second_of p x) (first_of p x)

-- v is an end of the pipe
abbrev pub IsEnd : Pipe → ℕ → Type 0
IsEnd p v = (p.a ≡ v) ⊎ (p.b ≡ v)

-- m takes each edge x of the end a to the edge of a that goes on, along the bond, as the partner of x
abbrev pub IsTurning : Synchronized → Pipe → (ℕ → ℕ) → Type 0
IsTurning i p m = (x : ℕ) → Contains (edges_of i p.a) x
    → Contains (edges_of i p.a) (m x) × GoesOn (graph i) p.a p.b (m x) (second_of p x)

-- a bond of the two ends, all cycles of whose map have one length
pub record IsToroidal (i : Synchronized) (p : Pipe) : Type 0 where
  pub bond : IsBond (graph i) p.a p.b
  pub turning : ℕ → ℕ
  pub is_turning : IsTurning i p turning
  pub size : ℕ
  pub one_length : (x : ℕ) → Contains (edges_of i p.a) x → CycleLength turning x size

-- the end u of pipe p and the pole v are a bond, and the pole has no pipe
pub record IsFreePole (i : Synchronized) (p : Pipe) (u v : ℕ) : Type 0 where
  pub end : IsEnd p u
  pub bond : IsBond (graph i) u v
  pub free : IsPVertex i v
  pub unmatched : pipe_at i v ≡ None

-- the end u of pipe p and the pole v are a bond, and the pole is an end of another pipe q of this degree
pub record IsFusible (i : Synchronized) (p q : Pipe) (u v : ℕ) : Type 0 where
  pub end : IsEnd p u
  pub bond : IsBond (graph i) u v
  pub matched : pipe_at i v ≡ Some q
  pub another : q.name ≢ p.name
  pub same : degree q ≡ degree p

-- both ends of a pipe of at least four pairs are cut vertices
pub record IsJoinable (i : Synchronized) (p : Pipe) : Type 0 where
  pub large : 4 ≤ degree p
  pub cut_a : IsCut (graph i) p.a
  pub cut_b : IsCut (graph i) p.b

-- the shape has the edges of u as its leaves, is more than a star, and admits each order that u has in its block
pub record IsFitting (i : Synchronized) (p : Pipe) (u : ℕ) (shape : Shape) : Type 0 where
  pub end : IsEnd p u
  pub large : 4 ≤ degree p
  pub uncut : ¬ IsCut (graph i) u
  pub branching : branches shape.body ≡ true
  pub leaves : rising (shape.root ∷ leaves shape.body) ≡ edges_of i u
  pub no_star : ¬ IsStar shape.body
  pub admits : (order : List ℕ) → IsBlockOrder i u order → Admits shape order

-- the step is allowed on the instance
abbrev pub Allowed : Synchronized → Step → Type 0
Allowed i (Small pipe) = (p : Pipe) × (pipe_named i pipe ≡ Some p) × (degree p ≤ 3)
Allowed i (FreePole pipe end pole) = (p : Pipe) × (pipe_named i pipe ≡ Some p) × IsFreePole i p end pole
Allowed i (FusePoles pipe end pole) =
    (p : Pipe) × (pipe_named i pipe ≡ Some p) × ((q : Pipe) × IsFusible i p q end pole)
Allowed i (Toroidal pipe) = (p : Pipe) × (pipe_named i pipe ≡ Some p) × IsToroidal i p
Allowed i (Join pipe) = (p : Pipe) × (pipe_named i pipe ≡ Some p) × IsJoinable i p
Allowed i (Propagate pipe end shape) = (p : Pipe) × (pipe_named i pipe ≡ Some p) × IsFitting i p end shape
