-- The search stands at the vertex.
use Rattle.std.proofs.Common.{◌+◌, ◌*◌, length, get_or}
use Rattle.std.specs.List.{sum_by}
use Rattle.cp_conn.specs.SearchForest.{forest_of}
use Rattle.cp_conn.specs.Deepening.{StandsAt, StayMet, IsFurther}
use Rattle.cp_conn.proofs.search_forest.search_on.Given as goal

abbrev pub invariant-loop-forest : goal.invariant-loop-forest
invariant-loop-forest l = record {
  stands : StandsAt l.ends
      (length l.fn.next.items) (forest_of l.forest) l.next.items l.vertex;
  kept : StayMet (length l.fn.next.items) (forest_of l.fn.forest) (forest_of l.forest);
  further : IsFurther (forest_of l.fn.forest) (forest_of l.forest);
}

abbrev pub decreases-loop-forest : goal.decreases-loop-forest
decreases-loop-forest l = (length l.fn.next.items + 1) * sum_by
    (λ k. k) l.next.items + get_or l.forest.number.items l.vertex 0
