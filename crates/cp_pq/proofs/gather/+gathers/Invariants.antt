use Rattle.std.proofs.Common.{◌≡◌, ◌≤◌, ◌+◌, ◌*◌, List, ◌++◌, reverse, length}
use Rattle.cp_pq.specs.declared.node.Node.{Node}
use Rattle.cp_pq.specs.Orders.{inside, outside}
use Rattle.cp_pq.specs.Steps.{IsGathered}
use Rattle.cp_pq.specs.Marks.{AreMarks, IsLow, node_count, row_count}
use Rattle.cp_pq.proofs.gather.+gathers.Given as goal

abbrev pub decreases-gather : goal.decreases-gather
decreases-gather l = 3 * node_count l.node

abbrev pub decreases-gather_inner : goal.decreases-gather_inner
decreases-gather_inner l = 3 * row_count l.kids + 2

abbrev pub decreases-gather_row : goal.decreases-gather_row
decreases-gather_row l = 3 * row_count l.kids + 1

-- the kids taken so far are gathered, and the marks of the others are left
abbrev pub invariant-gather_row-loop-kid : goal.invariant-gather_row-loop-kid
invariant-gather_row-loop-kid l = (ds : List Node) × (reverse l.fn.kids ≡ ds ++ reverse l.left) × (row_count l.left ≤ row_count l.fn.kids)
    × ((rest : List Node) → IsLow l.set l.total l.fn.kids
    → AreMarks (outside l.set) (inside l.set) (reverse l.fn.kids ++ rest) l.fn.marks
    → IsGathered (outside l.set) (inside l.set) l.total ds l.row
    × AreMarks (outside l.set) (inside l.set) (reverse l.left ++ rest) l.ahead)

abbrev pub decreases-gather_row-loop-kid : goal.decreases-gather_row-loop-kid
decreases-gather_row-loop-kid l = length l.left
