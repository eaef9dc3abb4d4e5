-- Sweeps over the vertices of a map of darts: one vertex after another is taken, and those that are not yet taken are
-- one vertex, the rest. Dart d stands at the vertex at d, and edge k has the darts 2 k and 2 k + 1. The vertices that
-- are taken are written with the last one first.
use Rattle.std.specs.Prelude.{◌≡◌, ◌≢◌, ℕ, ◌*◌, ◌<◌, ◌↔◌, Bool, not, eqb, Option, List, [], ◌∷◌, ◌++◌, map}
use Rattle.std.specs.List.{filter, range_with_len}
use Rattle.cp_lists.specs.CyclicLists.{Has, Lacks, Distinct}
use Rattle.cp_faces.specs.Twins.{twin}
use Rattle.cp_maps.specs.Maps.{has}
use Rattle.cp_embed.specs.Directions.{KeepsDirection, edge_of}
use Rattle.cp_embed.specs.Stages.{IsStageOrder, IsFirstVertex, HasVertexMore}

-- the darts at a vertex, of e edges
abbrev pub darts_at : (ℕ → ℕ) → ℕ → ℕ → List ℕ
darts_at at e v = filter (λ d. eqb (at d) v) (range_with_len 0 (2 * e))

-- whether the other end of a dart is one of the vertices
abbrev pub leads_into : (ℕ → ℕ) → List ℕ → ℕ → Bool
leads_into at taken d = has (at (twin d)) taken

-- the darts of x that lead to vertices that are taken
abbrev pub ins_of : (ℕ → ℕ) → ℕ → List ℕ → ℕ → List ℕ
ins_of at e taken x = filter (leads_into at taken) (darts_at at e x)

-- and its other darts
abbrev pub outs_of : (ℕ → ℕ) → ℕ → List ℕ → ℕ → List ℕ
outs_of at e taken x = filter (λ d. not (leads_into at taken d)) (darts_at at e x)

-- the list of x keeps what is given for its edges
abbrev pub KeepsList : (ℕ → Option (List ℕ)) → (ℕ → Bool) → ℕ → List ℕ → Type 0
KeepsList psi bit x row = KeepsDirection (psi x) (bit x) (map edge_of row)

-- the lists of the vertices that are taken, those of the first one and of the others: each has the darts of its vertex
-- and keeps what is given
abbrev pub AreListsOf : (ℕ → ℕ) → ℕ → (ℕ → Option (List ℕ)) → (ℕ → Bool) → List ℕ → List ℕ → List (List ℕ) → Type 0
AreListsOf at e psi bit [] zs group = ⊥
AreListsOf at e psi bit (s ∷ []) zs group = IsFirstVertex (KeepsList psi bit s) (darts_at at e s) zs group
AreListsOf at e psi bit (x ∷ y ∷ taken) zs group =
    HasVertexMore (AreListsOf at e psi bit (y ∷ taken)) (KeepsList psi bit x)
    (ins_of at e (y ∷ taken) x ++ outs_of at e (y ∷ taken) x) zs group

-- a dart that stands at the rest and leads to a vertex that is taken
pub record LeadsInto (at : ℕ → ℕ) (e : ℕ) (taken : List ℕ) (d : ℕ) : Type 0 where
  pub within : d < 2 * e
  pub outside : Lacks (at d) taken
  pub into : Has (at (twin d)) taken

-- a cyclic order of edges, written behind the edge of dart r, and bits are a pair of the stage: some map in the plane
-- of
-- the vertices that are taken and the rest has the order at the rest, and keeps each given list by its bit
pub record IsStagePair (at : ℕ → ℕ) (e : ℕ) (psi : ℕ → Option (List ℕ)) (r : ℕ) (taken : List ℕ) (word : List ℕ)
    (bit : ℕ → Bool) : Type 0 where
  pub row : List ℕ
  pub word_is : word ≡ map edge_of row
  pub once : Distinct (r ∷ row)
  pub all : (d : ℕ) → Has d (r ∷ row) ↔ LeadsInto at e taken d
  pub drawn : IsStageOrder e r (AreListsOf at e psi bit taken) row

-- x can be taken next: it is new and not the vertex of r, and has an edge to a vertex that is taken and one to the rest
pub record IsNext (at : ℕ → ℕ) (e r : ℕ) (taken : List ℕ) (x : ℕ) : Type 0 where
  pub new : Lacks x taken
  pub not_last : at r ≢ x
  pub enters : (i : ℕ) × Has i (ins_of at e taken x)
  pub leaves : (o : ℕ) × Has o (outs_of at e taken x)

-- the vertices are taken one after another: first the other end of r, and each further one where it can be next
abbrev pub IsSweep : (ℕ → ℕ) → ℕ → ℕ → List ℕ → Type 0
IsSweep at e r [] = ⊥
IsSweep at e r (s ∷ []) = (at (twin r) ≡ s) × (at r ≢ s)
IsSweep at e r (x ∷ y ∷ taken) = IsNext at e r (y ∷ taken) x × IsSweep at e r (y ∷ taken)
