-- The first vertices have their places.
use Rattle.std.proofs.Common.{length}
use Rattle.cp_ears.specs.Placing.{IsPlacing}
use Rattle.cp_ears.proofs.placing.places_of.Given as goal

abbrev pub invariant-loop-vertex : goal.invariant-loop-vertex
invariant-loop-vertex l = IsPlacing (length l.up) l.up l.low l.places.items l.room.items l.vertex
