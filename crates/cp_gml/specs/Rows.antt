-- A text of Himsolt's GML as a whole: blanks, comments and tokens laid end to end. These definitions
-- say what bytes a token has, and not how it is found.
use Rattle.std.specs.Prelude.{◌≡◌, ℕ, ◌+◌, Bool, true, false, not, ◌⊎◌, List, [], ◌∷◌, ◌++◌, length, Some, None}
use Rattle.std.specs.List.{list_all}
use Rattle.cp_gml.specs.Bytes.{is_blank, is_line_end, is_word_start, is_word_byte, is_number_start, is_number_byte, is_string_byte}
use Rattle.cp_gml.specs.Numbers.{is_integer, is_real, integer_value}
use Rattle.cp_gml.specs.Tokens.{Chars, Whole, Other, Sign, Open, Close, Word, Value, Token}

-- whether a first byte is there and in the class
abbrev pub begins : (ℕ → Bool) → List ℕ → Bool
begins class [] = false
begins class (b ∷ bs) = class b

-- these bytes are empty or begin with a line end
abbrev pub IsLineEnd : List ℕ → Type 0
IsLineEnd [] = Unit {0}
IsLineEnd (b ∷ bs) = is_line_end b ≡ true

-- blanks and comments, before some rest: a comment runs from a number sign up to the next line end, or
-- to the end of the text
pub data IsGap (rest : List ℕ) : List ℕ → Type 0 where
  none : IsGap rest []
  blank : (b : ℕ) (gap : List ℕ) → is_blank b ≡ true → IsGap rest gap → IsGap rest (b ∷ gap)
  comment : (body gap : List ℕ) → list_all (λ b. not (is_line_end b)) body ≡ true → IsLineEnd (gap ++ rest)
      → IsGap rest gap
      → IsGap rest (35 ∷ body ++ gap)

-- a run of bytes of numbers
pub record IsNumberRun (bytes : List ℕ) : Type 0 where
  pub first : begins is_number_start bytes ≡ true
  pub all : list_all is_number_byte bytes ≡ true

-- a number that is no id: an integer beyond the range, or a real
abbrev pub IsOtherNumber : List ℕ → Type 0
IsOtherNumber bytes =
    ((is_integer bytes ≡ true) × (integer_value bytes ≡ None)) ⊎ ((is_integer bytes ≡ false) × (is_real bytes ≡ true))

-- the bytes that spell a token
abbrev pub Spells : Sign → List ℕ → Type 0
Spells Open bytes = bytes ≡ 91 ∷ []
Spells Close bytes = bytes ≡ 93 ∷ []
Spells (Word key) bytes = (bytes ≡ key) × (begins is_word_start key ≡ true) × (list_all is_word_byte key ≡ true)
Spells (Value (Chars text)) bytes = (bytes ≡ 34 ∷ text ++ 34 ∷ []) × (list_all is_string_byte text ≡ true)
Spells (Value (Whole n)) bytes = IsNumberRun bytes × (is_integer bytes ≡ true) × (integer_value bytes ≡ Some n)
Spells (Value Other) bytes = IsNumberRun bytes × IsOtherNumber bytes

-- a word and a number are as long as they can be: what follows does not go on with them
abbrev pub EndsBefore : Sign → List ℕ → Type 0
EndsBefore Open rest = Unit {0}
EndsBefore Close rest = Unit {0}
EndsBefore (Word key) rest = begins is_word_byte rest ≡ false
EndsBefore (Value (Chars text)) rest = Unit {0}
EndsBefore (Value (Whole n)) rest = begins is_number_byte rest ≡ false
EndsBefore (Value Other) rest = begins is_number_byte rest ≡ false

-- these bytes, of which the first stands at some offset, begin with these tokens, each at its offset and behind
-- blanks and comments; the last token ends before another offset, and behind it stands the rest
abbrev pub IsRowUpTo : ℕ → List ℕ → List Token → ℕ → List ℕ → Type 0
IsRowUpTo at bytes [] to behind = (at ≡ to) × (bytes ≡ behind)
IsRowUpTo at bytes (t ∷ ts) to behind =
    (gap : List ℕ) × (word : List ℕ) × (rest : List ℕ) × (bytes ≡ gap ++ (word ++ rest))
    × IsGap (word ++ rest) gap × (t.at ≡ at + length gap) × Spells t.sign word × EndsBefore t.sign rest
    × IsRowUpTo (at + length gap + length word) rest ts to behind

-- these bytes are these tokens, each at its offset, with blanks and comments before, between and behind them
pub record IsRow (at : ℕ) (bytes : List ℕ) (ts : List Token) : Type 0 where
  pub to : ℕ
  pub behind : List ℕ
  pub row : IsRowUpTo at bytes ts to behind
  pub gap : IsGap [] behind
