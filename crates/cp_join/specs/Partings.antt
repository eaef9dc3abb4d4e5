-- What the ends of a pipe become, with new names.
use Rattle.std.specs.Prelude.{◌≡◌, ℕ, ◌<◌, List, ◌++◌, length, map}
use Rattle.std.specs.List.{All, Contains}
use Rattle.cp_board.specs.Names.{AreNew}
use Rattle.cp_board.specs.Instances.{Synchronized, vert_names, pipe_names}
use Rattle.cp_board.specs.Joins.{part_of}
use Rattle.cp_join.specs.declared.parted_ends.Parting.{Parting}

-- the new vertices
abbrev pub new_verts : Parting → Parting → List ℕ
new_verts s t = s.outer ++ s.inner ++ t.outer ++ t.inner

-- for each of the parts there are two vertices and a pipe
pub record IsParting (parts : List (List ℕ)) (s : Parting) : Type 0 where
  pub same : s.parts ≡ parts
  pub outer_each : length s.outer ≡ length parts
  pub inner_each : length s.inner ≡ length parts
  pub name_each : length s.names ≡ length parts

-- both ends have vertices and pipes of new names
pub record AreParted (i : Synchronized) (first second : List (List ℕ)) (s t : Parting) : Type 0 where
  pub first_end : IsParting first s
  pub second_end : IsParting second t
  pub new_verts : AreNew (vert_names i) (new_verts s t)
  pub new_pipes : AreNew (pipe_names i) (s.names ++ t.names)

-- the partings of both ends and the new edges fit the pairs: there is a new edge for each pair, and each edge of a part
-- is in a pair
pub record FitPairs (pairs : List (ℕ × ℕ)) (hats : List ℕ) (s t : Parting) : Type 0 where
  pub hats_each : length hats ≡ length pairs
  pub first_end : IsParting s.parts s
  pub second_end : IsParting t.parts t
  pub first_among : All (All (Contains (map (λ x. x.0) pairs))) s.parts
  pub second_among : All (All (Contains (map (λ x. x.1) pairs))) t.parts
  pub first_found : All (λ x. part_of s.parts x.0 < length s.inner) pairs
  pub second_found : All (λ x. part_of t.parts x.1 < length t.inner) pairs
