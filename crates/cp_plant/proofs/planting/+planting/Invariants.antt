-- The first kids are planted behind the row of their node.
use Rattle.std.proofs.Common.{◌≡◌, ℕ, List, ◌∷◌, take}
use Rattle.cp_plant.specs.Growing.{AreGrown, partner_in}
use Rattle.cp_plant.proofs.planting.+planting.Given as goal

abbrev pub invariant-plant_node-loop-kid : goal.invariant-plant_node-loop-kid
invariant-plant_node-loop-kid l = (tops : List ℕ) × (l.row.items ≡ l.top ∷ tops)
    × AreGrown (partner_in l.partners) l.verts l.edges (take l.kid-index l.kids) tops l.initial.rows.items l.rows.items
