-- What a reduction makes of an instance of synchronized planarity (Bläsius, Fink, Rutter 2021).
use Rattle.std.specs.Prelude.{◌≡◌, ℕ, true, false, eqb, [], ◌∷◌, map, reverse, Some}
use Rattle.cp_board.specs.declared.parts.Kind.{Kind}
use Rattle.cp_board.specs.declared.parts.Kind.TheVariants.{Q}
use Rattle.cp_board.specs.declared.parts.Pipe.{Pipe}
use Rattle.cp_board.specs.declared.steps.Step.{Step}
use Rattle.cp_board.specs.declared.steps.Step.TheVariants.{Small, FreePole, FusePoles, Toroidal, Join, Propagate}
use Rattle.cp_lists.specs.Turns.{turned_to_least}
use Rattle.cp_board.specs.Names.{AreNew}
use Rattle.cp_conn.specs.Bonds.{IsAlong}
use Rattle.cp_board.specs.Instances.{Synchronized, pipe_names, cells, edges_of, graph, pipe_named, pipe_at}
use Rattle.cp_board.specs.Steps.{degree, opposite, partner}
use Rattle.cp_board.specs.Changes.{IsWithoutPipe, with_kind, other_pipes, pipes_by_name, pairs_by_first}
use Rattle.cp_board.specs.Joins.{IsJoined}
use Rattle.cp_board.specs.Propagations.{IsPropagated}

-- the kinds of the two ends of a pipe of three pairs after Small: its edges rising at a, and the reverse of their
-- partners at b, in one cell
abbrev pub first_kind : Pipe → ℕ → Kind
first_kind p cell = Q cell (map (λ x. x.0) p.pairs)

-- and the kind of b: the partners reversed, turned to begin with the least
abbrev pub second_kind : Pipe → ℕ → Kind
second_kind p cell = Q cell (turned_to_least (reverse (map (λ x. x.1) p.pairs)))

-- Small at a pipe of three pairs: the pipe goes, and its ends become two Q-vertices of one new cell, whose two
-- directions are the two orders of three edges
pub record HasFixedEnds (i : Synchronized) (p : Pipe) (j : Synchronized) : Type 0 where
  pub cell : ℕ
  pub new_cell : AreNew (cells i) (cell ∷ [])
  pub verts : j.verts ≡ map (λ v. with_kind p.a (first_kind p cell) (with_kind p.b (second_kind p cell) v)) i.verts
  pub edges : j.edges ≡ i.edges
  pub pipes : j.pipes ≡ other_pipes i (p.name ∷ [])

-- Small at a pipe of at most three pairs: with fewer than three the pipe goes and nothing else changes
abbrev pub IsAfterSmall : Synchronized → Pipe → Synchronized → Type 0
IsAfterSmall i p j = elim (eqb (degree p) 3) [ true ↦ HasFixedEnds i p j | false ↦ IsWithoutPipe i p.name j ]

-- FusePoles: the pipe p of the end u and the pipe q of the pole v go; one new pipe leads from the other end of p to
-- the other end of q, past u and v
pub record IsFused (i : Synchronized) (p q : Pipe) (u v : ℕ) (j : Synchronized) : Type 0 where
  pub along : ℕ → ℕ
  pub is_along : IsAlong (graph i) u v along
  pub name : ℕ
  pub new_name : AreNew (pipe_names i) (name ∷ [])
  pub verts : j.verts ≡ i.verts
  pub edges : j.edges ≡ i.edges
  pub pipes : j.pipes ≡ pipes_by_name (record {
    name = name;
    a = opposite p u;
    b = opposite q v;
    pairs = pairs_by_first (map (λ x. (partner p u x, partner q v (along x))) (edges_of i u));
  } ∷ other_pipes i (p.name ∷ q.name ∷ []))

-- j is what the step makes of i: FreePole and Toroidal take the pipe away and change nothing else
abbrev pub After : Synchronized → Step → Synchronized → Type 0
After i (Small pipe) j = (p : Pipe) × (pipe_named i pipe ≡ Some p) × IsAfterSmall i p j
After i (FreePole pipe end pole) j = (p : Pipe) × (pipe_named i pipe ≡ Some p) × IsWithoutPipe i pipe j
After i (FusePoles pipe end pole) j =
    (p : Pipe) × (pipe_named i pipe ≡ Some p) × ((q : Pipe) × (pipe_at i pole ≡ Some q) × IsFused i p q end pole j)
After i (Toroidal pipe) j = (p : Pipe) × (pipe_named i pipe ≡ Some p) × IsWithoutPipe i pipe j
After i (Join pipe) j = (p : Pipe) × (pipe_named i pipe ≡ Some p) × IsJoined i p j
After i (Propagate pipe end shape) j = (p : Pipe) × (pipe_named i pipe ≡ Some p) × IsPropagated i p end shape j
