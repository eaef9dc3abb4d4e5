-- The numbers so far are written.
use Rattle.std.proofs.Common.{◌≡◌, take, string_bytes}
use Rattle.graph_parts.specs.Texts.{number_lines}
use Rattle.graph_parts.proofs.texts.number_text.Given as goal

abbrev pub invariant-loop-number : goal.invariant-loop-number
invariant-loop-number l = string_bytes l.text ≡ number_lines (take l.number-index l.numbers)
