-- The ends of some edges, as they are gathered.
use Rattle.std.specs.Prelude.{ℕ, List, [], ◌∷◌}
use Rattle.std.specs.List.{flat_map}
use Rattle.cp_conn.specs.NamedGraphs.{NamedGraph}

-- the two ends of each edge, one behind the other
abbrev pub both_ends : NamedGraph → List ℕ → List ℕ
both_ends g es = flat_map (λ e. (g.ends e).0 ∷ (g.ends e).1 ∷ []) es
