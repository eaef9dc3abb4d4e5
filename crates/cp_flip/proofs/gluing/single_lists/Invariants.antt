-- So many lists of one edge.
use Rattle.std.proofs.Common.{◌≡◌, [], ◌∷◌, replicate}
use Rattle.cp_flip.proofs.gluing.single_lists.Given as goal

abbrev pub invariant-loop : goal.invariant-loop
invariant-loop l = l.lists.items ≡ replicate l.counter (0 ∷ [])
