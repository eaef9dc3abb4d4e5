-- What FusePoles changes, from what a board tells: two pipes go, and one comes that leads past the end and the pole.
use Rattle.std.specs.Prelude.{◌≡◌, ℕ, true, eqb, List, [], ◌∷◌, map, slice_index, Some}
use Rattle.cp_board.specs.declared.parts.Pipe.{Pipe}
use Rattle.cp_board.specs.declared.rewrite.Rewrite.{Rewrite}
use Rattle.cp_board.specs.Instances.{Synchronized, edges_of, graph, pairs_of, pipe_at, pipe_ends_of, pipe_named, pipe_names}
use Rattle.cp_board.specs.Names.{new_names}
use Rattle.cp_board.specs.Steps.{opposite, partner}
use Rattle.cp_poles.specs.Between.{IsAlongBond}
use Rattle.cp_poles.specs.Wanted.{partner_in}

-- the partner in a pipe of an edge of the vertex, which is one of its ends
abbrev pub partner_told : Synchronized → ℕ → ℕ → ℕ → ℕ
partner_told i pipe at x = partner_in (pairs_of i pipe) (eqb (pipe_ends_of i pipe).0 at) x

-- the least number that is no name of a pipe
abbrev pub new_pipe_name : Synchronized → ℕ
new_pipe_name i = slice_index (new_names (pipe_names i) 1) 0

-- from an edge of the other end of p: its partner at u, the edge as which this goes on, and the partner of that in q
abbrev pub past : Pipe → Pipe → ℕ → ℕ → List (ℕ × ℕ) → ℕ → ℕ
past p q u v along y = partner q v (partner_in along true (partner p (opposite p u) y))

-- the pipe from the other end of p to the other end of q, past u and v
abbrev pub pipe_past : Synchronized → Pipe → Pipe → ℕ → ℕ → List (ℕ × ℕ) → Pipe
pipe_past i p q u v along = record {
  name = new_pipe_name i;
  a = opposite p u;
  b = opposite q v;
  pairs = map (λ y. (y, past p q u v along y)) (edges_of i (opposite p u));
}

-- the pipe leads past the end of the named pipe and its pole, along their bond
pub record IsPipePast (i : Synchronized) (pipe end pole : ℕ) (r : Pipe) : Type 0 where
  pub first : Pipe
  pub first_named : pipe_named i pipe ≡ Some first
  pub second : Pipe
  pub second_at : pipe_at i pole ≡ Some second
  pub along : List (ℕ × ℕ)
  pub is_along : IsAlongBond (graph i) end pole along
  pub is : r ≡ pipe_past i first second end pole along

-- the rewrite that drops two pipes and adds one
abbrev pub fusing : ℕ → ℕ → Pipe → Rewrite
fusing pipe other added = record {
  drop_pipes = pipe ∷ other ∷ [];
  drop_verts = [];
  add_verts = [];
  set_kinds = [];
  moves = [];
  add_edges = [];
  add_pipes = added ∷ [];
}
