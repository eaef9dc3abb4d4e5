use Rattle.std.proofs.Common.{[], ◌∷◌, codes}
use Rattle.std.specs.Fmt.{decimal}
use Rattle.cp_trace.proofs.PartWords.{behind_two, behind_three}
use Rattle.cp_trace.proofs.read_parts.edge_by_words.Goals as goal

pub returns-in_err-a : goal.returns-in_err-a
returns-in_err-a c = rw c.from_residual-in_err-a.ensures (λ e told h. c.in_err-a.ensures e.a (decimal e.b ∷ []) told.a
    (behind_two (codes "edge") (decimal c.in_ok-name.name) (codes "edge") (decimal e.name) c.args.words.now
    c.take_keyed.new.words (decimal e.a ∷ decimal e.b ∷ []) c.in_ok-name.ensures.1 h))

pub returns-in_err-b : goal.returns-in_err-b
returns-in_err-b c = rw c.from_residual-in_err-b.ensures (λ e told h. c.in_err-b.ensures e.b [] told.b
    (behind_three (codes "edge") (decimal c.in_ok-name.name) (codes "edge") (decimal e.name) (decimal c.in_ok-a.a)
    (decimal e.a) c.args.words.now c.take_keyed.new.words c.take_number.new.words (decimal e.b ∷ [])
    c.in_ok-name.ensures.1 c.in_ok-a.ensures.1 h))
