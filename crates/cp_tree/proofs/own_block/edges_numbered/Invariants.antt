-- Those of the edges so far that have the number.
use Rattle.std.proofs.Common.{◌≡◌, eqb, filter, slice_index, take}
use Rattle.cp_conn.specs.NamedGraphs.{rank}
use Rattle.cp_tree.proofs.own_block.edges_numbered.Given as goal

abbrev pub invariant-loop-k : goal.invariant-loop-k
invariant-loop-k l =
    l.kept.items ≡ filter (λ e. eqb (slice_index l.numbers (rank l.edges e)) l.number) (take l.k l.edges)
