-- Parts of a rewrite.
use Rattle.std.specs.Prelude.{ℕ, not, List, map}
use Rattle.std.specs.List.{filter}
use Rattle.cp_board.specs.declared.parts.Vert.{Vert}
use Rattle.cp_board.specs.declared.parts.Pipe.{Pipe}
use Rattle.cp_board.specs.Names.{has}
use Rattle.cp_board.specs.Rewrites.{with_kinds}

-- the vertices that are not dropped, with the kinds that are set for them
abbrev pub kept_verts : List ℕ → List Vert → List Vert → List Vert
kept_verts dropped kinds vs = map (with_kinds kinds) (filter (λ v. not (has dropped v.name)) vs)

-- the pipes that are not dropped
abbrev pub kept_pipes : List ℕ → List Pipe → List Pipe
kept_pipes dropped ps = filter (λ p. not (has dropped p.name)) ps
