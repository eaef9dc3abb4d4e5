use Rattle.std.proofs.Common.{◌≡◌, map, take}
use Rattle.std.specs.List.Sorted.{IsStrictlyIncreasing}
use Rattle.cp_trace.specs.Reading.{last_of}
use Rattle.cp_trace.proofs.read_parts.firsts_rise.Given as goal

-- the first edges so far rise, and the last of them
abbrev pub invariant-loop-pair : goal.invariant-loop-pair
invariant-loop-pair l = record {
  rise : IsStrictlyIncreasing (map (λ x. x.0) (take l.pair-index l.pairs));
  name : l.last ≡ last_of (map (λ x. x.0) (take l.pair-index l.pairs));
}
