-- What is left to read goes behind the word so far.
use Rattle.std.proofs.Common.{◌≡◌, ◌+◌, ℕ, ◌++◌, ◌∷◌, reverse}
use Rattle.std.specs.List.{zip}
use Rattle.cp_board.specs.Solutions.{list_in}
use Rattle.cp_plant.specs.TreeWords.{read}
use Rattle.cp_plant.proofs.reading.read_pile.Given as goal

abbrev pub invariant-loop-step : goal.invariant-loop-step
invariant-loop-step l = (m : ℕ) → l._step + m ≡ l.steps
    → l.word.items ++ read (zip (l.root ∷ l.edges) l.verts) (list_in l.after) m (reverse l.pile.items)
    ≡ read (zip (l.root ∷ l.edges) l.verts) (list_in l.after) l.steps (reverse l.fn.first.items)
