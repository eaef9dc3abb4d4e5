-- What bits read of a node whose P-nodes are read as they stand.
use Rattle.std.specs.Prelude.{ℕ, Bool, false, Option, Some, None, List, [], ◌∷◌}
use Rattle.std.specs.List.{flat_map}
use Rattle.cp_pq.specs.declared.node.Node.{Node}
use Rattle.cp_pq.specs.declared.node.Node.TheOpen.{Node-F}
use Rattle.cp_pq.specs.declared.node.Node.TheFolds.{fold-Node}
use Rattle.cp_pq.specs.declared.part.Part.{Part}
use Rattle.cp_pq.specs.Bits.{bit_of}
use Rattle.cp_pq.specs.Promises.{in_direction}

-- the word of a layer whose kids are words: a P-node in its order, a Q-node by the bit of its var
abbrev pub word_step : List Bool → Node-F (List ℕ) → List ℕ
word_step bits (Node-F.Leaf x) = x ∷ []
word_step bits (Node-F.P owner words) = flat_map (λ word. word) words
word_step bits (Node-F.Q var words) = flat_map (λ word. word) (in_direction (bit_of bits var) words)

-- the leaves of a node: a P-node in its order, a Q-node by the bit of its var
unfoldable pub word_by : List Bool → Node → List ℕ
word_by bits = fold-Node (List ℕ) (word_step bits)

-- the leaves of a row of nodes
unfoldable pub words_by : List Bool → List Node → List ℕ
words_by bits row = flat_map (word_by bits) row

-- whether the kids of a part are read from the end: its var, where it has one, has the bit true
abbrev pub is_read_back : List Bool → Option ℕ → Bool
is_read_back bits None = false
is_read_back bits (Some var) = bit_of bits var

-- the leaves of a part: the row of its kids by the bit of its var
abbrev pub part_word : List Bool → Part → List ℕ
part_word bits part = words_by bits (in_direction (is_read_back bits part.var) part.kids)
