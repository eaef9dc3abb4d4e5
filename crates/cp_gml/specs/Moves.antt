-- What the parts of the reader find, for the contracts within this crate.
use Rattle.std.specs.Prelude.{◌≡◌, ℕ, ◌+◌, ◌-◌, ◌<◌, ◌≤◌, List, [], ◌∷◌, take, drop, length}
use Rattle.cp_gml.specs.declared.tree.GmlList.{GmlList, out-GmlList}
use Rattle.cp_gml.specs.declared.tree.Entry.{Entry}
use Rattle.cp_gml.specs.declared.reader.KeyMove.{KeyMove}
use Rattle.cp_gml.specs.declared.reader.KeyMove.TheVariants.{Key, End}
use Rattle.cp_gml.specs.declared.reader.ValueMove.{ValueMove}
use Rattle.cp_gml.specs.declared.reader.ValueMove.TheVariants.{Leaf, Opens}
use Rattle.cp_gml.specs.declared.scan.Plain.{Plain}
use Rattle.cp_gml.specs.Tokens.{Token, token, Open, Close, Word, Value, Found, Ends, Front, place, next}
use Rattle.cp_gml.specs.Trees.{spelled, depth, tree}
use Rattle.cp_gml.specs.Lists.{deepest}
use Rattle.cp_gml.specs.Scans.{leaf_over, IsInside}

-- a key stands between these two offsets
pub record IsKey (text : List ℕ) (from at behind : ℕ) : Type 0 where
  pub stands : at ≡ place text from
  pub found : next text from ≡ Found (Word (take (behind - at) (drop at text))) (behind - at)
  pub forward : from ≤ at
  pub longer : at < behind
  pub within : behind ≤ length text

-- the list ends: at the end of the text, or inside a list at a closing bracket
pub record EndsList (text : List ℕ) (from level at : ℕ) : Type 0 where
  pub whole : level ≡ 0 → (next text from ≡ Ends) × (at ≡ length text)
  pub inner : 0 < level → (next text from ≡ Found Close 1) × (at ≡ place text from)
  pub forward : from ≤ at
  pub within : 0 < level → at < length text

-- what stands where a key is due
abbrev pub IsKeyMove : List ℕ → ℕ → ℕ → KeyMove → Type 0
IsKeyMove text from level (Key at behind) = IsKey text from at behind
IsKeyMove text from level (End at) = EndsList text from level at

-- a value that is no list stands between these two offsets
pub record IsLeaf (text : List ℕ) (from at behind : ℕ) (plain : Plain) : Type 0 where
  pub stands : at ≡ place text from
  pub found : next text from ≡ Found (Value (leaf_over plain (drop at text))) (behind - at)
  pub forward : from ≤ at
  pub longer : at < behind
  pub within : behind ≤ length text
  pub inside : IsInside plain (length text - at)

-- a bracket opens a list that is not too deep
pub record OpensList (text : List ℕ) (from level at : ℕ) : Type 0 where
  pub stands : at ≡ place text from
  pub found : next text from ≡ Found Open 1
  pub shallow : level < deepest
  pub forward : from ≤ at
  pub within : at < length text

-- what stands where a value is due
abbrev pub IsValueMove : List ℕ → ℕ → ℕ → ValueMove → Type 0
IsValueMove text from level (Leaf at behind plain) = IsLeaf text from at behind plain
IsValueMove text from level (Opens at) = OpensList text from level at

-- an entry whose key stands between the first two offsets, and whose value ends at the last one
pub record IsEntry (text : List ℕ) (key_at from level : ℕ) (entry : Entry) (behind : ℕ) : Type 0 where
  pub tokens : List Token
  pub cut : Front text from tokens behind
  pub spells : spelled (tree (entry ∷ [])) ≡ token (Word (take (from - key_at) (drop key_at text))) key_at ∷ tokens
  pub shallow : depth (tree (entry ∷ [])) + level ≤ deepest
  pub forward : from ≤ behind
  pub within : behind ≤ length text

-- these entries stand between two offsets
pub record AreEntries (text : List ℕ) (from level : ℕ) (entries : List Entry) (at : ℕ) : Type 0 where
  pub cut : Front text from (spelled (tree entries)) at
  pub shallow : depth (tree entries) + level ≤ deepest
  pub forward : from ≤ at
  pub within : at ≤ length text

-- the entries of a list, up to its end
pub record IsRead (text : List ℕ) (from level : ℕ) (list : GmlList) : Type 0 where
  pub stop : ℕ
  pub entries : AreEntries text from level (out-GmlList list).entries stop
  pub ends : EndsList text stop level (out-GmlList list).end
