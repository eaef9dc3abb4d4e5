-- The tokens of a text (Himsolt's GML), each with its offset, and the bytes that stand before and
-- between them.
use Rattle.std.specs.Prelude.{◌≡◌, ℕ, suc, ◌+◌, Bool, true, false, ◌==◌, ◌&&◌, if◌then◌else◌, List, [], ◌∷◌, drop, length, ℤ, Option, Some, None}
use Rattle.std.specs.List.{prefix_len, take_while}
use Rattle.cp_gml.specs.declared.kind.GrammarKind.{GrammarKind}
use Rattle.cp_gml.specs.declared.kind.GrammarKind.TheVariants.{BadByte, OpenString, BadNumber}
use Rattle.cp_gml.specs.Bytes.{is_blank, is_line_end, is_word_start, is_word_byte, is_number_start, is_number_byte, is_string_byte}
use Rattle.cp_gml.specs.Numbers.{is_integer, is_real, integer_value}

-- a value that is no list
pub data Leaf : Type 0 where
  -- a string, without its quotes
  Chars : List ℕ → Leaf
  -- an integer in the range of ids
  Whole : ℤ → Leaf
  -- any other number
  Other : Leaf

-- what a token says
pub data Sign : Type 0 where
  Open : Sign
  Close : Sign
  Word : List ℕ → Sign
  Value : Leaf → Sign

-- a token and the offset of its first byte
pub record Token : Type 0 where
  pub sign : Sign
  pub at : ℕ

-- a token that stands at an offset
abbrev pub token : Sign → ℕ → Token
token sign at = record { sign = sign; at = at }

-- the number of bytes of blanks and comments at the front, from inside a comment or outside of one:
-- a comment runs from a number sign up to the next line end, or to the end of the text
abbrev pub gap : Bool → List ℕ → ℕ
gap inside [] = 0
gap true (b ∷ bs) = if is_line_end b then suc (gap false bs) else suc (gap true bs)
gap false (b ∷ bs) = if b == 35 then suc (gap true bs) else (if is_blank b then suc (gap false bs) else 0)

-- what stands where a token may begin: a token of some length, a byte or a run that is none, with what is
-- wrong with it, or the end of the text
pub data Piece : Type 0 where
  Found : Sign → ℕ → Piece
  Stops : GrammarKind → Piece
  Ends : Piece

-- a string, behind its first quote
abbrev pub string_piece : List ℕ → Piece
string_piece bs =
    if prefix_len is_string_byte bs == length bs
    then Stops OpenString
    else Found (Value (Chars (take_while is_string_byte bs))) (prefix_len is_string_byte bs + 2)

-- the leaf of an integer
abbrev pub leaf_of : Option ℤ → Leaf
leaf_of (Some n) = Whole n
leaf_of None = Other

-- what a run of bytes of numbers is
abbrev pub number_of : List ℕ → ℕ → Piece
number_of run len =
    if is_integer run
    then Found (Value (leaf_of (integer_value run))) len
    else (if is_real run then Found (Value Other) len else Stops BadNumber)

-- a word and a number are as long as they can be
abbrev pub word_piece : List ℕ → Piece
word_piece bs = Found (Word (take_while is_word_byte bs)) (prefix_len is_word_byte bs)

-- of bytes of numbers
abbrev pub number_piece : List ℕ → Piece
number_piece bs = number_of (take_while is_number_byte bs) (prefix_len is_number_byte bs)

-- a token is told by its first byte
abbrev pub piece : List ℕ → Piece
piece [] = Ends
piece (b ∷ bs) =
    if b == 91 then Found Open 1 else (
    if b == 93 then Found Close 1 else (
    if b == 34 then string_piece bs else (
    if is_word_start b then word_piece (b ∷ bs) else (
    if is_number_start b then number_piece (b ∷ bs) else Stops BadByte))))

-- where the first token may begin: behind the byte order mark EF BB BF, if the text begins with it
abbrev pub start : List ℕ → ℕ
start (a ∷ b ∷ c ∷ rest) = if a == 239 && b == 187 && c == 191 then 3 else 0
start _ = 0

-- where the next token begins, or where it would
abbrev pub place : List ℕ → ℕ → ℕ
place text from = from + gap false (drop from text)

-- what stands there
abbrev pub next : List ℕ → ℕ → Piece
next text from = piece (drop (place text from) text)

-- from one offset to the other these tokens stand in a row, with blanks and comments before each
abbrev pub Front : List ℕ → ℕ → List Token → ℕ → Type 0
Front text from [] to = from ≡ to
Front text from (t ∷ ts) to =
    (len : ℕ) × (t.at ≡ place text from) × (next text from ≡ Found t.sign len) × Front text (place text from + len) ts
    to
