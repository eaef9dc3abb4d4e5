-- The parts of a stored instance, and the changes that lead back to the instances before it.
use Rattle.std.specs.Prelude.{◌≡◌, ℕ, ◌+◌, ◌≤◌, true, List, [], ◌∷◌, reverse}
use Rattle.std.specs.List.{All}
use Rattle.std.specs.Vec.{vec_len, vec_capacity}
use Rattle.cp_board.specs.declared.rewrite.Rewrite.{Rewrite}
use Rattle.cp_board.specs.Names.{has}
use Rattle.cp_board.specs.Instances.{Synchronized, IsSynchronized}
use Rattle.cp_store.specs.declared.parts.Parts.{Parts}
use Rattle.cp_store.specs.declared.parts.Change.{Change}
use Rattle.cp_store.specs.Exchanges.{taken_back, entry_names, items_of, IsTable, IsReserved}
use Rattle.cp_store.specs.Rewriting.{vert_changes, edge_changes, pipe_changes}

-- the instance of which these are the parts
abbrev pub told : Parts → Synchronized
told p = record { verts = items_of p.verts.entries.items; edges = items_of p.edges.entries.items; pipes = items_of p.pipes.entries.items }

-- the parts stand in the order of their names
pub record AreTables (p : Parts) : Type 0 where
  pub verts : IsTable (λ v. v.name) p.verts.entries.items
  pub edges : IsTable (λ e. e.name) p.edges.entries.items
  pub pipes : IsTable (λ x. x.name) p.pipes.entries.items

-- the instance before a change, from what the change keeps of it
abbrev pub undone : Change → Synchronized → Synchronized
undone c i = record {
  verts = taken_back (λ v. v.name) c.verts.items i.verts;
  edges = taken_back (λ e. e.name) c.moved.items (taken_back (λ e. e.name) c.edges.items i.edges);
  pipes = taken_back (λ p. p.name) c.pipes.items i.pipes;
}

-- the parts have room for all that the change keeps
pub record HasRoom (p : Parts) (c : Change) : Type 0 where
  pub verts : All (IsReserved (λ v. v.name) (entry_names p.verts.entries.items)) c.verts.items
  pub moved : All (IsReserved (λ e. e.name) (entry_names p.edges.entries.items)) c.moved.items
  pub edges : All (IsReserved (λ e. e.name) (entry_names p.edges.entries.items)) c.edges.items
  pub pipes : All (IsReserved (λ x. x.name) (entry_names p.pipes.entries.items)) c.pipes.items

-- the second parts have room for all for which the first ones have
pub record HasMoreRoom (p q : Parts) : Type 0 where
  pub verts : (n : ℕ) → has (entry_names p.verts.entries.items) n ≡ true → has (entry_names q.verts.entries.items) n ≡ true
  pub edges : (n : ℕ) → has (entry_names p.edges.entries.items) n ≡ true → has (entry_names q.edges.entries.items) n ≡ true
  pub pipes : (n : ℕ) → has (entry_names p.pipes.entries.items) n ≡ true → has (entry_names q.pipes.entries.items) n ≡ true

-- the instance and those before it, where the changes that lead back to them are given from the last one on
abbrev pub states : List Change → Synchronized → List Synchronized
states [] i = i ∷ []
states (c ∷ cs) i = i ∷ states cs (undone c i)

-- the exchanges that a rewrite makes, beside its moves
pub record IsPlanOf (w : Rewrite) (c : Change) : Type 0 where
  pub verts : c.verts.items ≡ vert_changes w
  pub moved : c.moved.items ≡ []
  pub edges : c.edges.items ≡ edge_changes w
  pub pipes : c.pipes.items ≡ pipe_changes w

-- a change without entries, with memory for those of a plan and some moves
pub record IsEmptyFor (plan : Change) (moves : ℕ) (c : Change) : Type 0 where
  pub no_verts : c.verts.items ≡ []
  pub no_moved : c.moved.items ≡ []
  pub no_edges : c.edges.items ≡ []
  pub no_pipes : c.pipes.items ≡ []
  pub verts : vec_len c.verts + vec_len plan.verts ≤ vec_capacity c.verts
  pub moved : vec_len c.moved + moves ≤ vec_capacity c.moved
  pub edges : vec_len c.edges + vec_len plan.edges ≤ vec_capacity c.edges
  pub pipes : vec_len c.pipes + vec_len plan.pipes ≤ vec_capacity c.pipes

-- the parts and the log of a store: there is room for what the log keeps, and all instances keep the rules
pub record IsStore (p : Parts) (log : List Change) : Type 0 where
  pub tables : AreTables p
  pub room : All (HasRoom p) log
  pub rules : All IsSynchronized (states (reverse log) (told p))
