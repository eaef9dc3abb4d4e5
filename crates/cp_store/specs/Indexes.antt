-- The links of the instances of a store, each index of each instance in a tree of one forest.
use Rattle.std.specs.Prelude.{ℕ, ◌≤◌, Bool, List, [], ◌∷◌, length, reverse}
use Rattle.cp_board.specs.Instances.{Synchronized}
use Rattle.cp_store.specs.declared.links.Link.{Link}
use Rattle.cp_store.specs.declared.links.Roots.{Roots}
use Rattle.cp_store.specs.declared.parts.Change.{Change}
use Rattle.cp_store.specs.Links.{HasLinks, down}
use Rattle.cp_store.specs.EdgeLinks.{joins}
use Rattle.cp_store.specs.PipeLinks.{has_degree, has_pole, pipe_links}
use Rattle.cp_store.specs.Parts.{undone}

-- before each change its tree has the links of the instance that stood there, and lies among the nodes that stood
-- there, which later changes keep
abbrev pub AreLinkedBefore : (Roots → ℕ) → (Synchronized → ℕ → ℕ → Bool) → List (List Link) → ℕ → List Change
    → Synchronized → Type 0
AreLinkedBefore root test ls mark [] i = Unit {0}
AreLinkedBefore root test ls mark (c ∷ cs) i =
    (c.mark ≤ mark) × (root c.roots ≤ c.mark) × HasLinks ls (root c.roots) (test (undone c i))
    × AreLinkedBefore root test ls c.mark cs (undone c i)

-- the present tree has the links of the present instance, and those before it the links of theirs
pub record IsLinked (root : Roots → ℕ) (test : Synchronized → ℕ → ℕ → Bool) (ls : List (List Link)) (roots : Roots)
    (log : List Change) (i : Synchronized) : Type 0 where
  pub now : HasLinks ls (root roots) (test i)
  pub before : AreLinkedBefore root test ls (length ls) (reverse log) i

-- v is an end of an edge named n
abbrev pub edge_ends : Synchronized → ℕ → ℕ → Bool
edge_ends i = joins i.edges

-- k is the degree of a pipe of which n is the name, counted down
abbrev pub pipe_ranks : Synchronized → ℕ → ℕ → Bool
pipe_ranks i = down (pipe_links has_degree i.pipes)

-- v is an end of a pipe named n
abbrev pub pipe_poles : Synchronized → ℕ → ℕ → Bool
pipe_poles i = pipe_links has_pole i.pipes

-- the three indexes of a store: edges by their ends, pipes by their degrees, and pipes by their ends
pub record IsIndexed (ls : List (List Link)) (roots : Roots) (log : List Change) (i : Synchronized) : Type 0 where
  pub ends : IsLinked (λ r. r.ends) edge_ends ls roots log i
  pub ranks : IsLinked (λ r. r.pipes.ranks) pipe_ranks ls roots log i
  pub poles : IsLinked (λ r. r.pipes.poles) pipe_poles ls roots log i
