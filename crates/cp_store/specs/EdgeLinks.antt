-- Links from the ends of edges to the names of the edges.
use Rattle.std.specs.Prelude.{ℕ, Bool, ◌&&◌, ◌||◌, eqb, List, [], ◌∷◌}
use Rattle.std.specs.List.{list_any}
use Rattle.cp_board.specs.declared.parts.EdgeRow.{EdgeRow}
use Rattle.cp_board.specs.declared.rewrite.EdgeMove.{EdgeMove}
use Rattle.cp_store.specs.Links.{with_link, without_link}

-- v is an end of the edge
abbrev pub has_end : EdgeRow → ℕ → Bool
has_end e v = eqb v e.a || eqb v e.b

-- v is an end of an edge named n
abbrev pub joins : List EdgeRow → ℕ → ℕ → Bool
joins es v n = list_any (λ e. eqb n e.name && has_end e v) es

-- the links after some moves, one after another
abbrev pub moved_links : List EdgeMove → (ℕ → ℕ → Bool) → ℕ → ℕ → Bool
moved_links [] test = test
moved_links (m ∷ ms) test = moved_links ms (with_link (without_link test m.from m.edge) m.to m.edge)

-- the links with those of some edges
abbrev pub added_links : List EdgeRow → (ℕ → ℕ → Bool) → ℕ → ℕ → Bool
added_links [] test = test
added_links (e ∷ es) test = added_links es (with_link (with_link test e.a e.name) e.b e.name)
