-- Links from degrees and from ends of pipes to the names of the pipes.
use Rattle.std.specs.Prelude.{ℕ, Bool, ◌&&◌, ◌||◌, eqb, List, [], ◌∷◌, ◌++◌, length, Option, Some, None}
use Rattle.std.specs.Prelude.{◌≡◌}
use Rattle.std.specs.List.{list_any}
use Rattle.cp_board.specs.declared.parts.Pipe.{Pipe}
use Rattle.cp_store.specs.declared.links.Link.{Link}
use Rattle.cp_store.specs.declared.links.PipeRoots.{PipeRoots}
use Rattle.cp_store.specs.Links.{HasLinks, IsLinkTree, down}

-- k is the degree of the pipe
abbrev pub has_degree : Pipe → ℕ → Bool
has_degree p k = eqb k (length p.pairs)

-- k is an end of the pipe
abbrev pub has_pole : Pipe → ℕ → Bool
has_pole p k = eqb k p.a || eqb k p.b

-- a pipe named n has the key k
abbrev pub pipe_links : (Pipe → ℕ → Bool) → List Pipe → ℕ → ℕ → Bool
pipe_links has_key ps k n = list_any (λ p. eqb n p.name && has_key p k) ps

-- the trees with these roots have the links of the pipes
pub record HasPipeLinks (ls : List (List Link)) (roots : PipeRoots) (ps : List Pipe) : Type 0 where
  pub ranks : HasLinks ls roots.ranks (down (pipe_links has_degree ps))
  pub poles : HasLinks ls roots.poles (pipe_links has_pole ps)

-- the trees with these roots are trees of links
pub record ArePipeTrees (ls : List (List Link)) (roots : PipeRoots) : Type 0 where
  pub ranks : IsLinkTree ls roots.ranks
  pub poles : IsLinkTree ls roots.poles

-- the last of some items, if there are any
abbrev pub IsLast : {A : Type 0} → List A → Option A → Type 0
IsLast xs None = xs ≡ []
IsLast {A} xs (Some x) = (ys : List A) × (xs ≡ ys ++ x ∷ [])
