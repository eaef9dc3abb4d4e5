use Rattle.std.proofs.Common.{◌≡◌, ◌++◌, take}
use Rattle.std.specs.List.{flat_map}
use Rattle.cp_trace.specs.Texts.{pair_text}
use Rattle.cp_trace.proofs.numbers.push_pairs.Given as goal

-- the pairs so far are written
abbrev pub invariant-loop-first : goal.invariant-loop-first
invariant-loop-first l = l.text.items ≡ l.fn.text.items ++ flat_map pair_text (take l.first-index l.pairs)
