use Rattle.std.proofs.Common.{◌≡◌, ◌≢◌, [], List, reverse, length}
use Rattle.cp_pq.specs.declared.node.Node.{Node}
use Rattle.cp_pq.specs.Cuts.{IsCut}
use Rattle.cp_pq.proofs.Cuts.{Remains}
use Rattle.cp_pq.proofs.cut.cut_row.Given as goal

abbrev pub invariant-loop-found : goal.invariant-loop-found
invariant-loop-found l = (before run after : List Node) → run ≢ [] → IsCut l.fn.founds before run after
    → Remains before run after l.parts.before l.parts.run l.parts.after (reverse l.left) × (l.parts.run ≡ [] → l.parts.after ≡ [])

abbrev pub decreases-loop-found : goal.decreases-loop-found
decreases-loop-found l = length l.left
