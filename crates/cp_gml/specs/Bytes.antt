-- The classes of bytes of which the tokens of a text are made (Himsolt's GML).
use Rattle.std.specs.Prelude.{ℕ, Bool, ◌==◌, nat_le, ◌||◌, ◌&&◌, not}

-- space, tab, line feed and carriage return
abbrev pub is_blank : ℕ → Bool
is_blank b = b == 32 || b == 9 || b == 10 || b == 13

-- a comment ends before a line feed or a carriage return
abbrev pub is_line_end : ℕ → Bool
is_line_end b = b == 10 || b == 13

-- 0 to 9
abbrev pub is_digit : ℕ → Bool
is_digit b = nat_le 48 b && nat_le b 57

-- plus and minus
abbrev pub is_sign : ℕ → Bool
is_sign b = b == 43 || b == 45

-- A to Z, a to z and the underscore begin a word
abbrev pub is_word_start : ℕ → Bool
is_word_start b = (nat_le 65 b && nat_le b 90) || (nat_le 97 b && nat_le b 122) || b == 95

-- these and digits go on with it
abbrev pub is_word_byte : ℕ → Bool
is_word_byte b = is_word_start b || is_digit b

-- a digit, a sign or a point begins a number
abbrev pub is_number_start : ℕ → Bool
is_number_start b = is_digit b || is_sign b || b == 46

-- these and the bytes of words go on with it
abbrev pub is_number_byte : ℕ → Bool
is_number_byte b = is_word_byte b || is_sign b || b == 46

-- the small and the capital letter e, before an exponent
abbrev pub is_exponent_mark : ℕ → Bool
is_exponent_mark b = b == 101 || b == 69

-- every byte but the quote stands in a string
abbrev pub is_string_byte : ℕ → Bool
is_string_byte b = not (b == 34)
