-- The first vars that were found have their bits.
use Rattle.std.proofs.Common.{◌≡◌, length}
use Rattle.cp_parity.specs.Search.{HasBits}
use Rattle.cp_parity.proofs.solving.bits_of.Given as goal

abbrev pub invariant-loop-f : goal.invariant-loop-f
invariant-loop-f l = record {
  size : length l.bits.items ≡ length l.search.places.items;
  are_set : HasBits l.f-items l.f-index l.bits.items;
}
