-- Rewrites of an instance: what goes, what comes, and which edge ends move.
use Rattle.std.specs.Prelude.{◌≡◌, ◌≢◌, ◌⊎◌, ℕ, not, cond, eqb, List, [], ◌∷◌, ◌++◌, map}
use Rattle.std.specs.List.{All, Contains, filter, find, flat_map}
use Rattle.std.specs.Option.{option_map_or}
use Rattle.cp_lists.specs.CyclicLists.{Distinct}
use Rattle.cp_board.specs.declared.parts.NameKind.{NameKind}
use Rattle.cp_board.specs.declared.parts.NameKind.TheVariants as kinds
use Rattle.cp_board.specs.declared.parts.Vert.{Vert}
use Rattle.cp_board.specs.declared.parts.EdgeRow.{EdgeRow}
use Rattle.cp_board.specs.declared.rewrite.EdgeMove.{EdgeMove}
use Rattle.cp_board.specs.declared.rewrite.Rewrite.{Rewrite}
use Rattle.cp_board.specs.Names.{has, AreNew}
use Rattle.cp_board.specs.Instances.{Synchronized, IsSynchronized, names_of_verts, names_of_edges, vert_names, edge_names, pipe_names, cells, cell_of}
use Rattle.cp_board.specs.Changes.{verts_by_name, edges_by_name, pipes_by_name, other_pipes}

-- the live names of a kind
abbrev pub names_of : Synchronized → NameKind → List ℕ
names_of i kinds.Vert = vert_names i
names_of i kinds.Edge = edge_names i
names_of i kinds.Pipe = pipe_names i
names_of i kinds.Cell = cells i

-- an edge after a move, if it is the one that moves
abbrev pub moved_end : EdgeMove → EdgeRow → EdgeRow
moved_end m e =
    cond (eqb e.name m.edge)
    (cond (eqb e.a m.from) (record { name = e.name; a = m.to; b = e.b }) (record { name = e.name; a = e.a; b = m.to }))
    e

-- the edges after some moves, one after another
abbrev pub after_moves : List EdgeMove → List EdgeRow → List EdgeRow
after_moves [] es = es
after_moves (m ∷ ms) es = after_moves ms (map (moved_end m) es)

-- the vertex with the kind that is set for it, if one is
abbrev pub with_kinds : List Vert → Vert → Vert
with_kinds kinds v = option_map_or (λ k. k) (find (λ k. eqb k.name v.name) kinds) v

-- the instance after a rewrite
abbrev pub rewritten : Rewrite → Synchronized → Synchronized
rewritten w i = record {
  verts = verts_by_name (map (with_kinds w.set_kinds)
      (filter (λ v. not (has w.drop_verts v.name)) (i.verts ++ w.add_verts)));
  edges = edges_by_name (after_moves w.moves i.edges ++ w.add_edges);
  pipes = pipes_by_name (other_pipes i w.drop_pipes ++ w.add_pipes);
}

-- the rewrite that drops a pipe and nothing else
abbrev pub dropping : ℕ → Rewrite
dropping pipe = record {
  drop_pipes = pipe ∷ [];
  drop_verts = [];
  add_verts = [];
  set_kinds = [];
  moves = [];
  add_edges = [];
  add_pipes = [];
}

-- the edge is there, `from` is an end of it, and `to` is a vertex and not its other end
pub record IsMove (verts : List ℕ) (es : List EdgeRow) (m : EdgeMove) : Type 0 where
  pub edge : EdgeRow
  pub live : Contains es edge
  pub named : edge.name ≡ m.edge
  pub ends : ((edge.a ≡ m.from) × (edge.b ≢ m.to)) ⊎ ((edge.b ≡ m.from) × (edge.a ≢ m.to))
  pub vertex : Contains verts m.to

-- each move is one when its turn comes
abbrev pub AreMoves : List ℕ → List EdgeRow → List EdgeMove → Type 0
AreMoves verts es [] = Unit {0}
AreMoves verts es (m ∷ ms) = IsMove verts es m × AreMoves verts (map (moved_end m) es) ms

-- the names without those that came before
abbrev pub first_ones : List ℕ → List ℕ → List ℕ
first_ones seen [] = []
first_ones seen (n ∷ ns) = cond (has seen n) (first_ones seen ns) (n ∷ first_ones (n ∷ seen) ns)

-- the live vertices and the new ones
abbrev pub verts_with : Rewrite → Synchronized → List ℕ
verts_with w i = vert_names i ++ names_of_verts w.add_verts

-- the cells of the new vertices and of the new kinds, each at its first place, that are not live
abbrev pub cells_added : Rewrite → Synchronized → List ℕ
cells_added w i = first_ones (cells i) (flat_map (λ v. cell_of v.kind) (w.add_verts ++ w.set_kinds))

-- the rewrite fits the instance: what it drops, moves and sets is there, the result keeps the rules, and new names
-- of each kind are the least that are not live, in order
pub record IsRewriteOf (i : Synchronized) (w : Rewrite) : Type 0 where
  pub pipes_live : All (Contains (pipe_names i)) w.drop_pipes
  pub pipes_once : Distinct w.drop_pipes
  pub verts_live : All (Contains (vert_names i)) w.drop_verts
  pub verts_once : Distinct w.drop_verts
  pub moves : AreMoves (verts_with w i) i.edges w.moves
  pub kinds_live : All (λ v. Contains (verts_with w i) v.name × ¬ Contains w.drop_verts v.name) w.set_kinds
  pub kinds_once : Distinct (map (λ v. v.name) w.set_kinds)
  pub rules : IsSynchronized (rewritten w i)
  pub new_verts : AreNew (vert_names i) (names_of_verts w.add_verts)
  pub new_edges : AreNew (edge_names i) (names_of_edges w.add_edges)
  pub new_pipes : AreNew (pipe_names i) (map (λ p. p.name) w.add_pipes)
  pub new_cells : AreNew (cells i) (cells_added w i)
