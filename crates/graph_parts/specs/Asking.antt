-- The word that asks for each.
use Rattle.std.specs.Prelude.{◌≡◌, ℕ, List, [], ◌∷◌, codes}
use Rattle.graph_parts.specs.declared.ask.Asked.{Asked}
use Rattle.graph_parts.specs.declared.ask.Asked.TheVariants.{Edges, Components, Blocks, Bipolar}

-- the word that asks for it
abbrev pub word_of : Asked → List ℕ
word_of Edges = codes "edges"
word_of Components = codes "components"
word_of Blocks = codes "blocks"
word_of Bipolar = codes "bipolar"

-- the words are the one that asks for this
abbrev pub Asks : List (List ℕ) → Asked → Type 0
Asks words a = words ≡ word_of a ∷ []
