-- The stages of an embedding: the first vertices of an order, each with its list, and all others as one vertex.
use Rattle.std.specs.Prelude.{◌≡◌, ℕ, List, [], ◌∷◌, ◌++◌}
use Rattle.cp_lists.specs.Rows.{flat}
use Rattle.cp_maps.specs.Genus.{CanBeFlat}
use Rattle.cp_maps.specs.Gluings.{Grows}
use Rattle.cp_embed.specs.Arrangements.{IsArrangementOf}

-- the rest can have the list of r and then w: with some lists zs and group that the prefix may have, the map is flat
abbrev pub IsStageOrder : ℕ → ℕ → (List ℕ → List (List ℕ) → Type 0) → List ℕ → Type 0
IsStageOrder e r may w = (zs : List ℕ) × (group : List (List ℕ)) × may zs group × CanBeFlat e ((r ∷ w) ∷ zs ∷ group)

-- a prefix of one vertex with these darts, whose list is good
abbrev pub IsFirstVertex : (List ℕ → Type 0) → List ℕ → List ℕ → List (List ℕ) → Type 0
IsFirstVertex good items zs group = (group ≡ []) × IsArrangementOf zs items × good zs

-- a prefix that may be, with one vertex more at the end, whose list has these darts and is good
abbrev pub HasVertexMore : (List ℕ → List (List ℕ) → Type 0) → (List ℕ → Type 0) → List ℕ → List ℕ → List (List ℕ)
    → Type 0
HasVertexMore may good items zs more = (group : List (List ℕ)) × (row : List ℕ) ×
    (more ≡ group ++ row ∷ []) × may zs group
    × IsArrangementOf row items × good row

-- the prefixes that may be are connected, and have the darts all
pub record IsPrefix (all : List ℕ) (may : List ℕ → List (List ℕ) → Type 0) : Type 0 where
  pub grows : (zs : List ℕ) (group : List (List ℕ)) → may zs group → Grows zs group
  pub darts : (zs : List ℕ) (group : List (List ℕ)) → may zs group → IsArrangementOf (zs ++ flat group) all
