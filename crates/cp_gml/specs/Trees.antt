-- Lists of keys and values (Himsolt's GML) as plain trees, the tokens that spell them, and the tree
-- of what the code makes.
use Rattle.std.specs.Prelude.{ℕ, ◌+◌, max, List, [], ◌∷◌, ◌++◌}
use Rattle.cp_gml.specs.Tokens.{Leaf, Chars, Whole, Other, Token, token, Open, Close, Word, Value}
use Rattle.cp_gml.specs.declared.tree.GmlList.{GmlList, GmlList', Row_of-Entry, end_of-Entry, more_of-Entry}
use Rattle.cp_gml.specs.declared.tree.GmlValue.{GmlValue}
use Rattle.cp_gml.specs.declared.tree.Entry.{Entry}
use Rattle.cp_gml.specs.declared.tree.GmlValue.TheVariants.{Int, Number, Str, List as Nested}

-- a list is empty, or a key, a value and a list, where a value is a leaf or a list between brackets:
-- with the offsets of keys, values and closing brackets
pub data Tree : Type 0 where
  nil : Tree
  leaf : (key : List ℕ) (key_at : ℕ) (value : Leaf) (at : ℕ) → Tree → Tree
  node : (key : List ℕ) (key_at at : ℕ) (inner : Tree) (end : ℕ) → Tree → Tree

-- the tokens that spell a list
abbrev pub spelled : Tree → List Token
spelled nil = []
spelled (leaf key key_at value at rest) = token (Word key) key_at ∷ token (Value value) at ∷ spelled rest
spelled (node key key_at at inner end rest) =
    token (Word key) key_at ∷ token Open at ∷ spelled inner ++ token Close end ∷ spelled rest

-- how deep lists are nested in it
abbrev pub depth : Tree → ℕ
depth nil = 0
depth (leaf key key_at value at rest) = depth rest
depth (node key key_at at inner end rest) = max (depth inner + 1) (depth rest)

-- the tree of a value with its key, before a rest
abbrev mutual
  pub with_value : List ℕ → ℕ → GmlValue → ℕ → Tree → Tree
  with_value key key_at (Int n) at rest = leaf key key_at (Whole n) at rest
  with_value key key_at Number at rest = leaf key key_at Other at rest
  with_value key key_at (Str text) at rest = leaf key key_at (Chars text) at rest
  with_value key key_at (Nested inner) at rest = with_list key key_at inner at rest

  -- the tree of a list with its key, before a rest
  pub with_list : List ℕ → ℕ → GmlList → ℕ → Tree → Tree
  with_list key key_at (GmlList' n row end) at rest = node key key_at at (tree_of_row row) end rest

  -- the tree of a row of entries
  pub tree_of_row : {m : _} → Row_of-Entry m → Tree
  tree_of_row end_of-Entry = nil
  tree_of_row (more_of-Entry key key_at value value_at rest) = with_value key key_at value value_at (tree_of_row rest)

-- the tree of some entries
abbrev pub tree : List Entry → Tree
tree [] = nil
tree (e ∷ es) = with_value e.key e.key_at e.value e.value_at (tree es)
