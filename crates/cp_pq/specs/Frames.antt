-- A tree with a place in it: the frames round the place, from the place up.
use Rattle.std.specs.Prelude.{◌≡◌, ℕ, Bool, true, List, [], ◌∷◌, ◌++◌}
use Rattle.std.specs.List.{list_all}
use Rattle.cp_pq.specs.declared.node.Node.{Node}
use Rattle.cp_pq.specs.declared.node.Node.TheVariants.{P, Q}
use Rattle.cp_pq.specs.declared.frame.Label.{Label}
use Rattle.cp_pq.specs.declared.frame.Frame.{Frame}
use Rattle.cp_pq.specs.Words.{has_all}

-- the inner node with this label and these kids
abbrev pub node_of : Label → List Node → Node
node_of (Label.P owner) kids = P owner kids
node_of (Label.Q var) kids = Q var kids

-- the kids of a frame round a row
abbrev pub kids_round : Frame → List Node → List Node
kids_round f row = f.before ++ (row ++ f.after)

-- a row in the frames, the innermost first
abbrev pub fill : List Frame → List Node → List Node
fill [] row = row
fill (f ∷ fs) row = fill fs (node_of f.label (kids_round f row) ∷ [])

-- all nodes beside the place are outside
abbrev pub AreOutside : (ℕ → Bool) → List Frame → Type 0
AreOutside q [] = Unit {0}
AreOutside q (f ∷ fs) = (list_all (has_all q) f.before ≡ true) × (list_all (has_all q) f.after ≡ true) × AreOutside q fs
