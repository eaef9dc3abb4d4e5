use Rattle.std.proofs.Common.{◌≡◌, ◌+◌, ◌-◌, ◌≤◌, length, drop, false}
use Rattle.cp_gml.specs.Tokens.{gap}
use Rattle.cp_gml.proofs.scan.gap_len.Given as goal

abbrev pub invariant-reading : goal.invariant-reading
invariant-reading l = (l.len ≤ length l.bytes) × (l.len + gap l.inside (drop l.len l.bytes) ≡ gap false l.bytes)

abbrev pub decreases-reading : goal.decreases-reading
decreases-reading l = length l.bytes - l.len
