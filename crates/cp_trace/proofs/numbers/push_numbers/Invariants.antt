use Rattle.std.proofs.Common.{◌≡◌, ◌++◌, take}
use Rattle.std.specs.List.{flat_map}
use Rattle.cp_trace.specs.Texts.{spaced}
use Rattle.cp_trace.proofs.numbers.push_numbers.Given as goal

-- the numbers so far are written
abbrev pub invariant-loop-number : goal.invariant-loop-number
invariant-loop-number l = l.text.items ≡ l.fn.text.items ++ flat_map spaced (take l.number-index l.numbers)
