-- The step at the pipe of greatest degree.
use Rattle.std.specs.Prelude.{◌≡◌, ℕ, ◌≤◌, []}
use Rattle.cp_board.specs.declared.parts.Pipe.{Pipe}
use Rattle.cp_conn.specs.Bonds.{IsBond}
use Rattle.cp_conn.specs.NamedGraphs.{IsCut}
use Rattle.cp_board.specs.Instances.{Synchronized, graph}
use Rattle.cp_board.specs.Reasons.{IsBlamed}
use Rattle.cp_board.specs.Reductions.{Performs}
use Rattle.cp_board.specs.Runs.{IsDriven, IsEmbeddedEnd, IsGreatest, NeedsEmbedding}
use Rattle.cp_board.specs.Solutions.{IsSolvable}
use Rattle.cp_board.specs.Steps.{Allowed, IsFreePole, IsFusible, degree}
use Rattle.cp_drive.specs.declared.next.Next.{Next}
use Rattle.cp_drive.specs.declared.next.Next.TheVariants as next

-- a step that is allowed and may be taken, with its rewrite; or why the run stops
abbrev pub IsNext : Synchronized → Next → Type 0
IsNext i (next.Take step rewrite) = Allowed i step × IsDriven i step × Performs i step rewrite
IsNext i (next.Blame reason) = IsBlamed i reason × ¬ IsSolvable i
IsNext i next.Free = i.pipes ≡ []

-- the pipe of greatest degree has this name and at most three pairs
pub record IsSmallPipe (i : Synchronized) (pipe : ℕ) : Type 0 where
  pub p : Pipe
  pub greatest : IsGreatest i p
  pub named : p.name ≡ pipe
  pub few : degree p ≤ 3

-- the pipe of greatest degree has this name and at least four pairs
pub record IsLargePipe (i : Synchronized) (pipe : ℕ) : Type 0 where
  pub p : Pipe
  pub greatest : IsGreatest i p
  pub named : p.name ≡ pipe
  pub many : 4 ≤ degree p

-- and both of its ends are cut vertices
pub record IsCutPipe (i : Synchronized) (pipe : ℕ) : Type 0 where
  pub p : Pipe
  pub greatest : IsGreatest i p
  pub named : p.name ≡ pipe
  pub many : 4 ≤ degree p
  pub cut_a : IsCut (graph i) p.a
  pub cut_b : IsCut (graph i) p.b

-- or end is the one whose block is embedded
pub record IsWorkedEnd (i : Synchronized) (pipe end : ℕ) : Type 0 where
  pub p : Pipe
  pub greatest : IsGreatest i p
  pub named : p.name ≡ pipe
  pub needs : NeedsEmbedding i p
  pub embedded : IsEmbeddedEnd i p end

-- the two ends of the pipe of greatest degree are the poles of a bond, and one of them is embedded
pub record IsTorusAt (i : Synchronized) (pipe : ℕ) : Type 0 where
  pub p : Pipe
  pub greatest : IsGreatest i p
  pub named : p.name ≡ pipe
  pub needs : NeedsEmbedding i p
  pub bond : IsBond (graph i) p.a p.b

-- the end of the pipe of greatest degree that is embedded has a pole without a pipe
pub record IsFreePoleAt (i : Synchronized) (pipe end pole : ℕ) : Type 0 where
  pub p : Pipe
  pub greatest : IsGreatest i p
  pub named : p.name ≡ pipe
  pub needs : NeedsEmbedding i p
  pub embedded : IsEmbeddedEnd i p end
  pub free : IsFreePole i p end pole

-- or a pole with another pipe of this degree
pub record IsFusedPoleAt (i : Synchronized) (pipe end pole : ℕ) : Type 0 where
  pub p : Pipe
  pub q : Pipe
  pub greatest : IsGreatest i p
  pub named : p.name ≡ pipe
  pub needs : NeedsEmbedding i p
  pub embedded : IsEmbeddedEnd i p end
  pub fusible : IsFusible i p q end pole
