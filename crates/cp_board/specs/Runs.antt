-- Runs of reductions of an instance of synchronized planarity (Bläsius, Fink, Rutter 2021).
use Rattle.std.specs.Prelude.{◌≡◌, ◌⊎◌, ℕ, ◌+◌, ◌^◌, ◌<◌, ◌≤◌, List, [], ◌∷◌, length, Some}
use Rattle.std.specs.List.{All, sum_by}
use Rattle.cp_board.specs.declared.parts.Pipe.{Pipe}
use Rattle.cp_board.specs.declared.steps.Step.{Step}
use Rattle.cp_board.specs.declared.steps.Step.TheVariants.{Small, FreePole, FusePoles, Toroidal, Join, Propagate}
use Rattle.cp_conn.specs.NamedGraphs.{IsCut}
use Rattle.cp_board.specs.Instances.{Synchronized, graph, pipe_named}
use Rattle.cp_board.specs.Steps.{degree, Allowed}
use Rattle.cp_board.specs.Effects.{After}

-- the steps lead from i to j, and on the instance before it each may be taken
pub data IsRun (MayTake : Synchronized → Step → Type 0) (j : Synchronized) : Synchronized → List Step → Type 0 where
  done : IsRun MayTake j j []
  more : (i k : Synchronized) (step : Step) (steps : List Step)
      → MayTake i step
      → After i step k
      → IsRun MayTake j k steps
      → IsRun MayTake j i (step ∷ steps)

-- the steps lead from i to j, each allowed on the instance before it
abbrev pub IsLegal : Synchronized → Synchronized → List Step → Type 0
IsLegal j i steps = IsRun Allowed j i steps

-- the sum of 3 ^ degree over all pipes, which each allowed step lowers
abbrev pub potential : Synchronized → ℕ
potential i = sum_by (λ p. 3 ^ degree p) i.pipes

-- the number of vertices, edges and pipes, which an allowed step raises by at most 8 times the degree of its pipe
abbrev pub slots : Synchronized → ℕ
slots i = length i.verts + length i.edges + length i.pipes

-- p is the pipe of greatest degree, and among these of least name
pub record IsGreatest (i : Synchronized) (p : Pipe) : Type 0 where
  pub live : pipe_named i p.name ≡ Some p
  pub others : All (λ q. (degree q < degree p) ⊎ ((degree q ≡ degree p) × (p.name ≤ q.name))) i.pipes

-- the pipe of greatest degree and least name has this name
abbrev pub IsGreatestName : Synchronized → ℕ → Type 0
IsGreatestName i name = (p : Pipe) × (p.name ≡ name) × IsGreatest i p

-- u is the end of the pipe whose block is embedded: a where that is no cut vertex, and else b
abbrev pub IsEmbeddedEnd : Synchronized → Pipe → ℕ → Type 0
IsEmbeddedEnd i p u = ((u ≡ p.a) × ¬ IsCut (graph i) p.a) ⊎ ((u ≡ p.b) × IsCut (graph i) p.a)

-- the pipe has at least four pairs, and not both of its ends are cut vertices
abbrev pub NeedsEmbedding : Synchronized → Pipe → Type 0
NeedsEmbedding i p = (4 ≤ degree p) × ¬ (IsCut (graph i) p.a × IsCut (graph i) p.b)

-- the kind of step that is taken at pipe p: Small up to three pairs, else Join between two cut vertices, else one
-- that rests on the order tree of an end that is no cut vertex
abbrev pub IsChosen : Synchronized → Pipe → Step → Type 0
IsChosen i p (Small pipe) = (pipe ≡ p.name) × (degree p ≤ 3)
IsChosen i p (FreePole pipe end pole) = (pipe ≡ p.name) × NeedsEmbedding i p × IsEmbeddedEnd i p end
IsChosen i p (FusePoles pipe end pole) = (pipe ≡ p.name) × NeedsEmbedding i p × IsEmbeddedEnd i p end
IsChosen i p (Toroidal pipe) = (pipe ≡ p.name) × NeedsEmbedding i p
IsChosen i p (Join pipe) = (pipe ≡ p.name) × (4 ≤ degree p) × IsCut (graph i) p.a × IsCut (graph i) p.b
IsChosen i p (Propagate pipe end shape) = (pipe ≡ p.name) × NeedsEmbedding i p × IsEmbeddedEnd i p end

-- the step is one that the solver may take: at the pipe of greatest degree and least name, and of the kind for it
abbrev pub IsDriven : Synchronized → Step → Type 0
IsDriven i step = (p : Pipe) × IsGreatest i p × IsChosen i p step

-- a legal run each of whose steps is one that the solver may take
abbrev pub IsDrivenRun : Synchronized → Synchronized → List Step → Type 0
IsDrivenRun j i steps = IsRun (λ before step. Allowed before step × IsDriven before step) j i steps
