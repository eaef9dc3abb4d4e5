-- The lines that a run writes, each ended by one line feed.
use Rattle.std.specs.Prelude.{ℕ, List, [], ◌∷◌, ◌++◌, codes}
use Rattle.std.specs.Fmt.{decimal}
use Rattle.std.specs.List.{flat_map}

-- a text with the line feed that ends it
abbrev pub line : List ℕ → List ℕ
line text = text ++ 10 ∷ []

-- each number in decimal
abbrev pub number_lines : List ℕ → List ℕ
number_lines numbers = flat_map (λ number. line (decimal number)) numbers

-- the line for words that ask for nothing
abbrev pub usage_line : List ℕ
usage_line = line (codes "usage: graph_parts edges|components|blocks|bipolar")

-- the line for a graph that has no such numbers
abbrev pub unfit_line : List ℕ
unfit_line = line (codes "no answer")

-- the line of a fault: the number of its kind, and its offset
abbrev pub refused_line : ℕ → ℕ → List ℕ
refused_line kind at = line (codes "refused " ++ decimal kind ++ codes " at " ++ decimal at)
