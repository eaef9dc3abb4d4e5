-- The list of a text, and the first fault of a text that has none (the grammar of Himsolt's GML, with
-- the faults of this profile).
use Rattle.std.specs.Prelude.{◌≡◌, ℕ, ◌≤◌, Bool, true, false, if◌then◌else◌, List, [], ◌∷◌, ◌++◌, length}
use Rattle.cp_gml.specs.Tokens.{Sign, Open, Close, Word, Value, Token, token, Piece, Found, Stops, Ends, Front, start, place, next}
use Rattle.cp_gml.specs.Trees.{Tree, spelled, depth}
use Rattle.cp_gml.specs.Kinds.{grammar_number}
use Rattle.cp_gml.specs.declared.kind.GrammarKind.{GrammarKind}
use Rattle.cp_gml.specs.declared.kind.GrammarKind.TheVariants.{KeyExpected, ValueExpected, ListOpen, StrayClose, TooDeep}
use Rattle.cp_gml.specs.declared.fault.GmlFault.{GmlFault}
use Rattle.cp_gml.specs.declared.fault.GmlFault.TheVariants as numbers
use Rattle.cp_gml.specs.declared.fault.ListFault.{ListFault}
use Rattle.cp_gml.specs.declared.fault.ListFault.TheVariants.{Grammar, Memory}

-- how deep lists may be nested
abbrev pub deepest : ℕ
deepest = 512

-- these tokens begin some list that is not too deep
pub record IsViable (ts : List Token) : Type 0 where
  pub whole : Tree
  pub more : List Token
  pub spells : spelled whole ≡ ts ++ more
  pub shallow : depth whole ≤ deepest

-- these tokens are such a list
pub record IsWhole (ts : List Token) : Type 0 where
  pub whole : Tree
  pub spells : spelled whole ≡ ts
  pub shallow : depth whole ≤ deepest

-- the tree is the list of the text: its tokens are those of the text, up to the end
pub record IsListOf (text : List ℕ) (t : Tree) : Type 0 where
  pub to : ℕ
  pub cut : Front text (start text) (spelled t) to
  pub ends : next text to ≡ Ends
  pub shallow : depth t ≤ deepest

-- the token is a word
abbrev pub is_word : Sign → Bool
is_word Open = false
is_word Close = false
is_word (Word key) = true
is_word (Value leaf) = false

-- a value is due behind a word, since every word is a key
abbrev pub is_value_due : List Token → Bool
is_value_due [] = false
is_value_due (t ∷ []) = is_word t.sign
is_value_due (t ∷ u ∷ ts) = is_value_due (u ∷ ts)

-- what is wrong with a token that does not fit: a key is due, a value is due, a closing bracket is without
-- its opening one, or a list is too deep
abbrev pub kind_of : Bool → Sign → GrammarKind
kind_of true Open = TooDeep
kind_of true sign = ValueExpected
kind_of false Close = StrayClose
kind_of false sign = KeyExpected

-- what stands behind viable tokens is the fault: a token with which they are not viable, a place that
-- begins no token, or the end of the text where they are no list
abbrev pub IsFaulty : List ℕ → List Token → ℕ → Piece → GrammarKind → ℕ → Type 0
IsFaulty text ts from (Found sign len) kind at =
    (IsViable (ts ++ token sign (place text from) ∷ []) → ⊥) × (kind ≡ kind_of (is_value_due ts) sign)
    × (at ≡ place text from)
IsFaulty text ts from (Stops reason) kind at = (kind ≡ reason) × (at ≡ place text from)
IsFaulty text ts from Ends kind at =
    (IsWhole ts → ⊥) × (kind ≡ (if is_value_due ts then ValueExpected else ListOpen)) × (at ≡ length text)

-- the first fault of the text stands behind the longest row of its tokens that begins some list: these
-- are viable, and no longer row is
pub record IsFaultOf (text : List ℕ) (kind : GrammarKind) (at : ℕ) : Type 0 where
  pub tokens : List Token
  pub to : ℕ
  pub cut : Front text (start text) tokens to
  pub viable : IsViable tokens
  pub faulty : IsFaulty text tokens to (next text to) kind at

-- the kind and the offset of a fault in the text have some property
abbrev pub IfFault : ListFault → (GrammarKind → ℕ → Type 0) → Type 0
IfFault (Grammar kind at) P = P kind at
IfFault Memory P = Unit {0}

-- the fault with the number of its kind
abbrev pub with_number : ListFault → GmlFault
with_number (Grammar kind at) = numbers.Grammar (grammar_number kind) at
with_number Memory = numbers.Memory

-- the number is that of a kind, which with the offset has some property
abbrev pub IfGrammar : GmlFault → (GrammarKind → ℕ → Type 0) → Type 0
IfGrammar (numbers.Grammar number at) P = (kind : GrammarKind) × (number ≡ grammar_number kind) × P kind at
IfGrammar numbers.Memory P = Unit {0}
