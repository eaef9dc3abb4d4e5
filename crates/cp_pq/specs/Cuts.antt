-- Rows that are cut where they enter and leave a set, and the part of a node that the set fills.
use Rattle.std.specs.Prelude.{◌≡◌, ℕ, Bool, true, List, [], ◌∷◌, ◌++◌, map}
use Rattle.std.specs.List.{list_all}
use Rattle.cp_pq.specs.declared.node.Node.{Node}
use Rattle.cp_pq.specs.declared.found.Found.{Found}
use Rattle.cp_pq.specs.declared.frame.Frame.{Frame}
use Rattle.cp_pq.specs.declared.part.Part.{Part}
use Rattle.cp_pq.specs.Readings.{Reads, any_bit}
use Rattle.cp_pq.specs.Words.{together, has_all}
use Rattle.cp_pq.specs.Frames.{fill, AreOutside}
use Rattle.cp_pq.specs.Holes.{IsPartAt}

-- the row has nodes outside, then nodes inside, then nodes outside
abbrev pub IsCut : List Found → List Node → List Node → List Node → Type 0
IsCut founds before run after = founds ≡ map Found.Out before ++ (map Found.In run ++ map Found.Out after)

-- each reading of the node has the set together, whatever the bits
abbrev pub IsAlwaysTogether : (ℕ → Bool) → (ℕ → Bool) → Node → Type 0
IsAlwaysTogether q p n = (word : List ℕ) → Reads any_bit n word → together q p word ≡ true

-- the node is the part in frames, which are outside, and all leaves of the part are inside
pub record IsTaken (q p : ℕ → Bool) (n : Node) (frames : List Frame) (part : Part) : Type 0 where
  pub node_is : n ∷ [] ≡ fill frames part.kids
  pub beside : AreOutside q frames
  pub all_inside : list_all (has_all p) part.kids ≡ true
  pub part_is : IsPartAt frames part.var part.kids
