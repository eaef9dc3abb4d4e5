use Rattle.std.proofs.Common.{◌≡◌, ◌++◌, ◌∷◌, eqb, map, take}
use Rattle.std.specs.List.{join_with_byte}
use Rattle.cp_trace.specs.Texts.{body_text}
use Rattle.cp_trace.proofs.write.+bodies.Given as goal

-- the kids so far are written
abbrev pub invariant-push_kids-loop-kid : goal.invariant-push_kids-loop-kid
invariant-push_kids-loop-kid l = record {
  flag : l.is_first ≡ eqb l.kid-index 0;
  written : l.text.items ≡ l.fn.text.items ++ 91 ∷ join_with_byte 32 (map body_text (take l.kid-index l.kids));
}
