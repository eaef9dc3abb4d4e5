-- The exchanges that a rewrite makes, for the last of them to be made first.
use Rattle.std.specs.Prelude.{ℕ, List, ◌++◌, map, Some, None}
use Rattle.cp_board.specs.declared.parts.Vert.{Vert}
use Rattle.cp_board.specs.declared.parts.EdgeRow.{EdgeRow}
use Rattle.cp_board.specs.declared.parts.Pipe.{Pipe}
use Rattle.cp_board.specs.declared.rewrite.Rewrite.{Rewrite}
use Rattle.cp_store.specs.declared.entry.Entry.{Entry}

-- the entry of an item under its name
abbrev pub kept : {A : Type 0} → (A → ℕ) → A → Entry A
kept name x = record { name = name x; item = Some x }

-- the entry of a name without an item
abbrev pub gone : {A : Type 0} → ℕ → Entry A
gone n = record { name = n; item = None }

-- vertices are added, then get their kinds, then go
abbrev pub vert_changes : Rewrite → List (Entry Vert)
vert_changes w = map gone w.drop_verts ++ map (kept (λ v. v.name)) w.set_kinds ++ map (kept (λ v. v.name)) w.add_verts

-- edges are only added: the moves of ends are told beside these exchanges
abbrev pub edge_changes : Rewrite → List (Entry EdgeRow)
edge_changes w = map (kept (λ e. e.name)) w.add_edges

-- pipes go, then others come
abbrev pub pipe_changes : Rewrite → List (Entry Pipe)
pipe_changes w = map (kept (λ p. p.name)) w.add_pipes ++ map gone w.drop_pipes
