-- The flags so far are those of the ends of the edges so far.
use Rattle.std.proofs.Common.{◌≡◌, length}
use Rattle.cp_embed.specs.Levels.{AreEarlier, AreLater}
use Rattle.cp_embed.proofs.levels.sides_of.Given as goal

abbrev pub invariant-loop-edge : goal.invariant-loop-edge
invariant-loop-edge l = record {
  later_size : length l.are_later.items ≡ l.vertices;
  earlier_size : length l.are_earlier.items ≡ l.vertices;
  later : AreLater l.ends l.later l.are_later.items;
  earlier : AreEarlier l.ends l.later l.are_earlier.items;
}
