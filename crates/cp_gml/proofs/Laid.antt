-- The tokens that a reader finds are those that are laid end to end.
use Rattle.std.proofs.Common.{◌≡◌, ℕ, suc, ◌+◌, ◌-◌, ◌<◌, ◌≤◌, ◌↔◌, ◌==◌, Bool, true, false, not, cond, ◌&&◌, ◌||◌, inl, inr, List, [], ◌∷◌, ◌++◌, length, take, drop, get_or, Option, Some, None, ℤ, refl, sym, ap, ◌∙◌, subst, arith, append_assoc}
use Rattle.std.specs.List.{prefix_len, take_while, list_all}
use Rattle.std.proofs.Math.Numerals.{one-add}
use Rattle.std.proofs.lemmas.Bool.{eqb-true, eqb-false, ne_eqb}
use Rattle.std.proofs.lemmas.Bool.Decides.{nat_tests}
use Rattle.std.proofs.lemmas.List.{append-nil, take-append-drop, length-take-le, length-drop, length-append, drop-drop, drop_all, drop_at, take_at, take_more}
use Rattle.std.proofs.lemmas.List.Sums.{prefix_len-le-length, prefix_len_stops}
use Rattle.cp_gml.specs.declared.kind.GrammarKind.TheVariants.{BadByte, BadNumber, OpenString}
use Rattle.cp_gml.specs.Bytes.{is_blank, is_line_end, is_digit, is_sign, is_word_start, is_word_byte, is_number_start, is_number_byte, is_string_byte}
use Rattle.cp_gml.specs.Numbers.{is_integer, is_real, integer_value}
use Rattle.cp_gml.specs.Tokens.{Chars, Whole, Other, Sign, Open, Close, Word, Value, Token, Piece, Found, Stops, Ends, gap, piece, string_piece, word_piece, number_piece, number_of, leaf_of, start, place, next, Front}
use Rattle.cp_gml.specs.Rows.{begins, IsLineEnd, IsGap, none, blank, comment, IsNumberRun, IsOtherNumber, Spells, EndsBefore, IsRowUpTo, IsRow}
use Rattle.cp_gml.specs.Trees.{Tree, spelled, depth}
use Rattle.cp_gml.specs.Lists.{deepest, IsListOf}

-- a byte of a class is none that the class lacks
not_in : (class : ℕ → Bool) (k b : ℕ) → class k ≡ false → class b ≡ true → (b == k) ≡ false
not_in class k b lacks has =
    ne_eqb b k (λ e. let same : class k ≡ true = sym (ap class e) ∙ has in cc)

-- what one of the last two tests passes, one of four passes
or_more : (x y z w : Bool) → (z || w) ≡ true → (x || y || z || w) ≡ true
or_more true y z w e = refl
or_more false true z w e = refl
or_more false false z w e = e

-- the end of a line is a blank
line_end_blank : (b : ℕ) → is_line_end b ≡ true → is_blank b ≡ true
line_end_blank b e = or_more (b == 32) (b == 9) (b == 10) (b == 13) e

-- the gap that a reader finds is one
abbrev GapOf : ℕ → List ℕ → Type 0
GapOf n bs = IsGap (drop n bs) (take n bs)

record InComment (n : ℕ) (bs : List ℕ) : Type 0 where
  body : List ℕ
  behind : List ℕ
  parts : take n bs ≡ body ++ behind
  all : list_all (λ b. not (is_line_end b)) body ≡ true
  ends : IsLineEnd (behind ++ drop n bs)
  rest : IsGap (drop n bs) behind

-- one byte more in front of what a gap was told of, outside of comments
gap_step : (b : ℕ) (bs : List ℕ) → GapOf (gap false bs) bs → InComment (gap true bs) bs → (x : Bool) → (b == 35) ≡ x
    → (y : Bool) → is_blank b ≡ y
    → GapOf (cond x (suc (gap true bs)) (cond y (suc (gap false bs)) 0)) (b ∷ bs)
gap_step b bs outside inside true e y f =
    let b_is : b ≡ 35 = eqb-true b 35 e in
    subst (λ (xs : List ℕ). IsGap (drop (gap true bs) bs) xs) (λ i. sym b_is i ∷ sym inside.parts i)
    (comment inside.body inside.behind inside.all inside.ends inside.rest)
gap_step b bs outside inside false e true f = blank b (take (gap false bs) bs) f outside
gap_step b bs outside inside false e false f = none

-- one byte more in front of what a gap was told of, inside a comment
comment_step : (b : ℕ) (bs : List ℕ) → GapOf (gap false bs) bs → InComment (gap true bs) bs → (x : Bool)
    → is_line_end b ≡ x
    → InComment (cond x (suc (gap false bs)) (suc (gap true bs))) (b ∷ bs)
comment_step b bs outside inside true e = record {
  body = [];
  behind = b ∷ take (gap false bs) bs;
  parts = refl;
  all = refl;
  ends = e;
  rest = blank b (take (gap false bs) bs) (line_end_blank b e) outside;
}
comment_step b bs outside inside false e = record {
  body = b ∷ inside.body;
  behind = inside.behind;
  parts = ap (λ (xs : List ℕ). b ∷ xs) inside.parts;
  all = ap (λ (x : Bool). not x && list_all (λ c. not (is_line_end c)) inside.body) e ∙ inside.all;
  ends = inside.ends;
  rest = inside.rest;
}

-- the count of a gap is that of blanks and comments, outside of a comment and inside one
gap_parts : (bs : List ℕ) → GapOf (gap false bs) bs × InComment (gap true bs) bs
gap_parts [] = (none, record { body = []; behind = []; parts = refl; all = refl; ends = tt; rest = none })
gap_parts (b ∷ bs) =
    let parts = gap_parts bs in (
      gap_step b bs parts.0 parts.1 (b == 35) refl (is_blank b) refl,
      comment_step b bs parts.0 parts.1 (is_line_end b)
          refl,
    )

-- where two tests pass together, each passes
both_true : (x y : Bool) → (x && y) ≡ true → (x ≡ true) × (y ≡ true)
both_true true y e = (refl, e)
both_true false y e = cc

-- runs of a class
module _ (p : ℕ → Bool) where
  -- each byte of a run passes the test
  run_all : (bs : List ℕ) → list_all p (take (prefix_len p bs) bs) ≡ true
  run_all [] = refl
  run_all (b ∷ bs) =
      elim (p b) as (λ x. p b ≡ x → list_all p (take (cond x (1 + prefix_len p bs) 0) (b ∷ bs)) ≡ true) [
        | true ↦ λ e. rw (one-add (prefix_len p bs)) (ap (λ (x : Bool). x && list_all p (take (prefix_len p bs) bs)) e
            ∙ run_all bs)
        | false ↦ λ e. refl
      ] refl

  -- behind a run no byte passes the test
  run_ends : (bs : List ℕ) → begins p (drop (prefix_len p bs) bs) ≡ false
  run_ends [] = refl
  run_ends (b ∷ bs) =
      elim (p b) as (λ x. p b ≡ x → begins p (drop (cond x (1 + prefix_len p bs) 0) (b ∷ bs)) ≡ false) [
        | true ↦ λ e. rw (one-add (prefix_len p bs)) (run_ends bs)
        | false ↦ λ e. e
      ] refl

  -- a run begins with its first byte
  run_begins : (q : ℕ → Bool) (b : ℕ) (bs : List ℕ) → q b ≡ true → p b ≡ true
      → begins q (take (prefix_len p (b ∷ bs)) (b ∷ bs)) ≡ true
  run_begins q b bs e f = rw (f, one-add (prefix_len p bs)) e

  -- bytes that all pass, before one that does not, are the whole run
  whole_run : (xs ys : List ℕ) → list_all p xs ≡ true → begins p ys ≡ false → prefix_len p (xs ++ ys) ≡ length xs
  whole_run [] [] e f = refl
  whole_run [] (y ∷ ys) f g = rw g
  whole_run (x ∷ xs) ys e f =
      let parts = both_true (p x) (list_all p xs) e in
      ap (λ (b : Bool). cond b (1 + prefix_len p (xs ++ ys)) 0) parts.0 ∙ one-add (prefix_len p (xs ++ ys))
      ∙ ap suc (whole_run xs ys parts.1 f)

-- a piece that is a token is spelled by its bytes, and ends before the rest
record SpelledBy (sign : Sign) (len : ℕ) (bs : List ℕ) : Type 0 where
  spells : Spells sign (take len bs)
  ends : EndsBefore sign (drop len bs)
  within : len ≤ length bs

-- one token has one sign
same_sign : (r s : Sign) (m n : ℕ) → Found r m ≡ Found s n → r ≡ s
same_sign r s m n e = cc

-- one token has one length
same_len : (r s : Sign) (m n : ℕ) → Found r m ≡ Found s n → m ≡ n
same_len r s m n e = cc

-- what spells a token spells an equal one
SpelledBy-along : (bs : List ℕ) (r s : Sign) (m n : ℕ) → SpelledBy r m bs → Found r m ≡ Found s n → SpelledBy s n bs
SpelledBy-along bs r s m n h e =
    subst (λ (x : Sign). SpelledBy x n bs) (same_sign r s m n e) (subst (λ (x : ℕ). SpelledBy r x bs)
    (same_len r s m n e) h)

-- a byte that passes the comparison is that bracket
bracket : (b k : ℕ) (bs : List ℕ) → (b == k) ≡ true → take 1 (b ∷ bs) ≡ k ∷ []
bracket b k bs e = let b_is = eqb-true b k e in ap (λ (x : ℕ). x ∷ []) b_is

-- what is not failed is passed
not_false : (x : Bool) → not x ≡ false → x ≡ true
not_false true e = refl
not_false false e = cc

-- a quote, bytes without a quote, and a quote spell a string
string_SpelledBy : (b : ℕ) (bs : List ℕ) → (b == 34) ≡ true → (prefix_len is_string_byte bs == length bs) ≡ false
    → SpelledBy (Value (Chars (take_while is_string_byte bs))) (prefix_len is_string_byte bs + 2) (b ∷ bs)
string_SpelledBy b bs e f =
    let n : ℕ = prefix_len is_string_byte bs in
    let short : n < length bs = let le = prefix_len-le-length is_string_byte bs in let ne =
    eqb-false n (length bs) f in omega arith in
    let quote : get_or bs n 0 ≡ 34 =
    eqb-true (get_or bs n 0) 34 (not_false (get_or bs n 0 == 34) (prefix_len_stops is_string_byte bs 0 short)) in
    let two : n + 2 ≡ suc (n + 1) = omega arith in
    let b_is : b ≡ 34 = eqb-true b 34 e in
    record {
      spells = (
        ap (λ (x : ℕ). take x (b ∷ bs)) two ∙ (λ i. b_is i ∷ take_more bs n 0 short i)
            ∙ ap (λ (x : ℕ). 34 ∷ (take n bs ++ x ∷ [])) quote,
        run_all is_string_byte bs,
      );
      ends = tt;
      within = omega (arith, short);
    }

-- a string that is found is spelled
string_found : (b : ℕ) (bs : List ℕ) (sign : Sign) (len : ℕ) (x : Bool) → (b == 34) ≡ true
    → (prefix_len is_string_byte bs == length bs) ≡ x
    → cond x (Stops OpenString) (Found (Value (Chars (take_while is_string_byte bs)))
    (prefix_len is_string_byte bs + 2)) ≡ Found sign len → SpelledBy sign len (b ∷ bs)
string_found b bs sign len true e f g = cc
string_found b bs sign len false e f g =
    SpelledBy-along (b ∷ bs) (Value (Chars (take_while is_string_byte bs))) sign (prefix_len is_string_byte bs + 2) len
    (string_SpelledBy b bs e f) g

-- what begins a word belongs to one
word_first : (b : ℕ) → is_word_start b ≡ true → is_word_byte b ≡ true
word_first b e = ap (λ (x : Bool). x || is_digit b) e

-- a byte that begins a number belongs to one, class by class
number_class : (d s m w : Bool) → (d || s || m) ≡ true → ((w || d) || s || m) ≡ true
number_class d s m true e = refl
number_class true s m false e = refl
number_class false s m false e = e

-- what begins a number belongs to one
number_first : (b : ℕ) → is_number_start b ≡ true → is_number_byte b ≡ true
number_first b e = number_class (is_digit b) (is_sign b) (b == 46) (is_word_start b) e

module _ (b : ℕ) (bs : List ℕ) where
  -- the length of the word at the front
  abbrev word_run : ℕ
  word_run = prefix_len is_word_byte (b ∷ bs)

  -- the length of the run of bytes of numbers at the front
  abbrev number_run : ℕ
  number_run = prefix_len is_number_byte (b ∷ bs)

  -- the run of bytes of words spells a word
  word_SpelledBy : is_word_start b ≡ true → SpelledBy (Word (take word_run (b ∷ bs))) word_run (b ∷ bs)
  word_SpelledBy e = record {
    spells = (refl, run_begins is_word_byte is_word_start b bs e (word_first b e), run_all is_word_byte (b ∷ bs));
    ends = run_ends is_word_byte (b ∷ bs);
    within = prefix_len-le-length is_word_byte (b ∷ bs);
  }

  -- the run of bytes of numbers is one
  its_run : is_number_start b ≡ true → IsNumberRun (take number_run (b ∷ bs))
  its_run e = record {
    first = run_begins is_number_byte is_number_start b bs e (number_first b e);
    all =
        run_all is_number_byte (b ∷ bs);
  }

  -- a run that is an integer spells its value
  integer_SpelledBy : (o : Option ℤ) → is_number_start b ≡ true → is_integer (take number_run (b ∷ bs)) ≡ true
      → integer_value (take number_run (b ∷ bs)) ≡ o
      → SpelledBy (Value (leaf_of o)) number_run (b ∷ bs)
  integer_SpelledBy (Some n) e f g =
      record {
        spells = (its_run e, f, g);
        ends = run_ends is_number_byte (b ∷ bs);
        within =
            prefix_len-le-length is_number_byte (b ∷ bs);
      }
  integer_SpelledBy None e f g =
      record {
        spells = (its_run e, inl (f, g));
        ends = run_ends is_number_byte (b ∷ bs);
        within =
            prefix_len-le-length is_number_byte (b ∷ bs);
      }

  -- a run that is a real spells a number without value
  real_SpelledBy : is_number_start b ≡ true → is_integer (take number_run (b ∷ bs)) ≡ false
      → is_real (take number_run (b ∷ bs)) ≡ true → SpelledBy (Value Other) number_run (b ∷ bs)
  real_SpelledBy e f g = record {
    spells = (its_run e, inr (f, g));
    ends = run_ends is_number_byte (b ∷ bs);
    within =
        prefix_len-le-length is_number_byte (b ∷ bs);
  }

  -- a number that is found is spelled
  number_found : (sign : Sign) (len : ℕ) (x y : Bool) → is_number_start b ≡ true
      → is_integer (take number_run (b ∷ bs)) ≡ x → is_real (take number_run (b ∷ bs)) ≡ y
      → cond x (Found (Value (leaf_of (integer_value (take number_run (b ∷ bs))))) number_run)
      (cond y (Found (Value Other) number_run) (Stops BadNumber)) ≡ Found sign len → SpelledBy sign len (b ∷ bs)
  number_found sign len true y e f g h =
      let value : Option ℤ = integer_value (take number_run (b ∷ bs)) in
      SpelledBy-along (b ∷ bs) (Value (leaf_of value)) sign number_run len (integer_SpelledBy value e f refl) h
  number_found sign len false true e f g h =
      SpelledBy-along (b ∷ bs) (Value Other) sign number_run len (real_SpelledBy e f g) h
  number_found sign len false false e f g h = cc

  -- what is found by its first byte is spelled
  byte_found : (sign : Sign) (len : ℕ) (v w x y z : Bool) → (b == 91) ≡ v → (b == 93) ≡ w → (b == 34) ≡ x
      → is_word_start b ≡ y → is_number_start b ≡ z
      → cond v (Found Open 1) (cond w (Found Close 1) (cond x (string_piece bs)
      (cond y (word_piece (b ∷ bs)) (cond z (number_piece (b ∷ bs)) (Stops BadByte))))) ≡ Found sign len
      → SpelledBy sign len (b ∷ bs)
  byte_found sign len true w x y z is_v is_w is_x is_y is_z h =
      SpelledBy-along (b ∷ bs) Open sign 1 len
      (record { spells = bracket b 91 bs is_v; ends = tt; within = omega arith }) h
  byte_found sign len false true x y z is_v is_w is_x is_y is_z h =
      SpelledBy-along (b ∷ bs) Close sign 1 len
      (record { spells = bracket b 93 bs is_w; ends = tt; within = omega arith }) h
  byte_found sign len false false true y z is_v is_w is_x is_y is_z h =
      string_found b bs sign len (prefix_len is_string_byte bs == length bs) is_x refl h
  byte_found sign len false false false true z is_v is_w is_x is_y is_z h =
      SpelledBy-along (b ∷ bs) (Word (take word_run (b ∷ bs))) sign word_run len (word_SpelledBy is_y) h
  byte_found sign len false false false false true is_v is_w is_x is_y is_z h =
      number_found sign len (is_integer (take number_run (b ∷ bs))) (is_real (take number_run (b ∷ bs))) is_z refl refl
      h
  byte_found sign len false false false false false is_v is_w is_x is_y is_z h = cc

-- what is found is spelled by the bytes of its length
found_SpelledBy : (bs : List ℕ) (sign : Sign) (len : ℕ) → piece bs ≡ Found sign len → SpelledBy sign len bs
found_SpelledBy [] sign len e = cc
found_SpelledBy (b ∷ bs) sign len e =
    byte_found b bs sign len (b == 91) (b == 93) (b == 34) (is_word_start b) (is_number_start b) refl refl refl refl
    refl e

-- a token is found only where bytes are left
found_some : (bs : List ℕ) (sign : Sign) (len : ℕ) → piece bs ≡ Found sign len → 0 < length bs
found_some [] sign len e = cc
found_some (b ∷ bs) sign len e = omega arith

-- a token has bytes
begun : (class : ℕ → Bool) (bytes : List ℕ) → begins class bytes ≡ true → 0 < length bytes
begun class [] e = cc
begun class (b ∷ bs) e = omega arith

-- no token is spelled by no bytes
spelled_some : (sign : Sign) (word : List ℕ) → Spells sign word → 0 < length word
spelled_some Open word s = omega (arith, ap length s)
spelled_some Close word s = omega (arith, ap length s)
spelled_some (Word key) word s = omega (arith, begun is_word_start key s.1, ap length s.0)
spelled_some (Value (Chars text)) word s = omega (arith, ap length s.0)
spelled_some (Value (Whole n)) word s = begun is_number_start word s.0.first
spelled_some (Value Other) word s = begun is_number_start word s.0.first

-- a token has at least one byte
pub found_longer : (bs : List ℕ) (sign : Sign) (len : ℕ) → piece bs ≡ Found sign len → 0 < len
found_longer bs sign len e =
    let by = found_SpelledBy bs sign len e in
    omega (arith, spelled_some sign (take len bs) by.spells, length-take-le len bs by.within)

-- only the end of the text is no piece
string_goes_on : (x : Bool) (sign : Sign) (len : ℕ) → cond x (Stops OpenString) (Found sign len) ≡ Ends → ⊥
string_goes_on true sign len e = cc
string_goes_on false sign len e = cc

-- a number is not the end of the text
number_goes_on : (x y : Bool) (r s : Sign) (m n : ℕ) → cond x (Found r m) (cond y (Found s n) (Stops BadNumber)) ≡ Ends
    → ⊥
number_goes_on true y r s m n e = cc
number_goes_on false true r s m n e = cc
number_goes_on false false r s m n e = cc

-- a byte is not the end of the text
byte_goes_on : (b : ℕ) (bs : List ℕ) (v w x y z : Bool)
    → cond v (Found Open 1) (cond w (Found Close 1) (cond x (string_piece bs)
    (cond y (word_piece (b ∷ bs)) (cond z (number_piece (b ∷ bs)) (Stops BadByte))))) ≡ Ends → ⊥
byte_goes_on b bs true w x y z e = cc
byte_goes_on b bs false true x y z e = cc
byte_goes_on b bs false false true y z e =
    string_goes_on (prefix_len is_string_byte bs == length bs) (Value (Chars (take_while is_string_byte bs)))
    (prefix_len is_string_byte bs + 2) e
byte_goes_on b bs false false false true z e = cc
byte_goes_on b bs false false false false true e =
    let run : List ℕ = take_while is_number_byte (b ∷ bs) in
    number_goes_on (is_integer run) (is_real run) (Value (leaf_of (integer_value run))) (Value Other)
    (prefix_len is_number_byte (b ∷ bs)) (prefix_len is_number_byte (b ∷ bs)) e
byte_goes_on b bs false false false false false e = cc

-- the text ends only where no bytes are left
ends_empty : (bs : List ℕ) → piece bs ≡ Ends → bs ≡ []
ends_empty [] e = refl
ends_empty (b ∷ bs) e = absurd (byte_goes_on b bs (b == 91) (b == 93) (b == 34) (is_word_start b) (is_number_start b) e)

-- where the text ends behind some tokens, only blanks and comments stand there
gap_to_end : (text : List ℕ) (to : ℕ) → next text to ≡ Ends → IsGap [] (drop to text)
gap_to_end text to ends =
    let bs : List ℕ = drop to text in
    let n : ℕ = gap false bs in
    let over : drop n bs ≡ [] = drop-drop n to text ∙ ends_empty (drop (place text to) text) ends in
    let all : take n bs ≡ bs = sym (append-nil (take n bs)) ∙ ap (λ (xs : List ℕ). take n bs ++ xs) (sym over)
    ∙ take-append-drop n bs in
    subst (λ (xs : List ℕ). IsGap [] xs) all (subst (λ (xs : List ℕ). IsGap xs (take n bs)) over (gap_parts bs).0)

-- what a reader finds is laid end to end
pub IsRowUpTo-from_Front : (text : List ℕ) (ts : List Token) (from to : ℕ) → Front text from ts to
    → IsRowUpTo from (drop from text) ts to (drop to text)
IsRowUpTo-from_Front text [] from to front = (front, ap (λ (x : ℕ). drop x text) front)
IsRowUpTo-from_Front text (t ∷ ts) from to front =
    let bs : List ℕ = drop from text in
    let n : ℕ = gap false bs in
    let len : ℕ = front.0 in
    let cs : List ℕ = drop n bs in
    let here : drop n bs ≡ drop (place text from) text = drop-drop n from text in
    let found : piece cs ≡ Found t.sign len = ap piece here ∙ front.2 in
    let by = found_SpelledBy cs t.sign len found in
    let some = found_some cs t.sign len found in
    let gap_fits : n ≤ length bs = omega (arith, some, length-drop n bs) in
    let gap_len : length (take n bs) ≡ n = length-take-le n bs gap_fits in
    let word_len : length (take len cs) ≡ len = length-take-le len cs by.within in
    let split : take len cs ++ drop len cs ≡ cs = take-append-drop len cs in
    let behind : drop (place text from + len) text ≡ drop len cs = sym (drop-drop len (place text from) text)
    ∙ ap (drop len) (sym here) in
    let on : place text from + len ≡ from + length (take n bs) + length (take len cs) =
    omega (arith, gap_len, word_len) in
    let more = IsRowUpTo-from_Front text ts (place text from + len) to front.3 in (
      take n bs,
      take len cs,
      drop len cs,
      sym (ap (λ (xs : List ℕ). take n bs ++ xs) split ∙ take-append-drop n bs),
      subst (λ (xs : List ℕ). IsGap xs (take n bs)) (sym split) (gap_parts bs).0,
      front.1 ∙ ap (λ (x : ℕ). from + x) (sym gap_len),
      by.spells,
      by.ends,
      subst (λ (x : ℕ). IsRowUpTo x (drop len cs) ts to (drop to text)) on
          (subst (λ (xs : List ℕ). IsRowUpTo (place text from + len) xs ts to (drop to text)) behind more),
    )

-- what is laid end to end is what a reader finds
abbrev IsStart : List ℕ → Type 0
IsStart [] = Unit {0}
IsStart (b ∷ bs) = (is_blank b ≡ false) × ((b == 35) ≡ false)

-- no gap stands before a token
no_gap : (rest : List ℕ) → IsStart rest → gap false rest ≡ 0
no_gap [] s = refl
no_gap (b ∷ bs) s = λ i. cond (s.1 i) (suc (gap true bs)) (cond (s.0 i) (suc (gap false bs)) 0)

-- what is not passed is failed
not_true : (x : Bool) → not x ≡ true → x ≡ false
not_true true e = cc
not_true false e = refl

-- a comment goes on over bytes that end no line
comment_len : (body xs : List ℕ) → list_all (λ b. not (is_line_end b)) body ≡ true
    → gap true (body ++ xs) ≡ length body + gap true xs
comment_len [] xs e = omega arith
comment_len (b ∷ body) xs e =
    let parts = both_true (not (is_line_end b)) (list_all (λ c. not (is_line_end c)) body) e in
    let goes_on = not_true (is_line_end b) parts.0 in
    let one : gap true (b ∷ (body ++ xs)) ≡ suc (gap true (body ++ xs)) =
    ap (λ (x : Bool). cond x (suc (gap false (body ++ xs))) (suc (gap true (body ++ xs)))) goes_on in
    omega (arith, one, comment_len body xs parts.1)

-- a comment ends at the end of a line
line_end_gap : (xs : List ℕ) → IsLineEnd xs → gap true xs ≡ gap false xs
line_end_gap [] e = refl
line_end_gap (b ∷ bs) e =
    let other = not_in is_line_end 35 b refl e in
    let is_blank_b = line_end_blank b e in
    let left : gap true (b ∷ bs) ≡ suc (gap false bs) =
    ap (λ (x : Bool). cond x (suc (gap false bs)) (suc (gap true bs))) e in
    let right : gap false (b ∷ bs) ≡ suc (gap false bs) =
    λ i. cond (other i) (suc (gap true bs)) (cond (is_blank_b i) (suc (gap false bs)) 0) in
    left ∙ sym right

-- a gap before a token is as long as it is counted
gap_length : (rest : List ℕ) {g : List ℕ} → IsGap rest g → IsStart rest → gap false (g ++ rest) ≡ length g
gap_length rest none s = no_gap rest s
gap_length rest (blank b g e h) s =
    let other = not_in is_blank 35 b refl e in
    (λ i. cond (other i) (suc (gap true (g ++ rest))) (cond (e i) (suc (gap false (g ++ rest))) 0))
    ∙ ap suc (gap_length rest h s)
gap_length rest (comment body g all ends h) s =
    let inside : gap true ((body ++ g) ++ rest) ≡ length body + gap true (g ++ rest) =
    ap (gap true) (append_assoc body g rest) ∙ comment_len body (g ++ rest) all in
    omega (arith, inside, line_end_gap (g ++ rest) ends, gap_length rest h s, length-append body g)

-- a byte of a class without blanks is no blank
no_blank : (class : ℕ → Bool) (b : ℕ) → class 32 ≡ false → class 9 ≡ false → class 10 ≡ false → class 13 ≡ false
    → class b ≡ true → is_blank b ≡ false
no_blank class b s t l r e =
    let p = not_in class 32 b s e in
    let q = not_in class 9 b t e in
    let u = not_in class 10 b l e in
    let v = not_in class 13 b r e in
    λ i. p i || q i || u i || v i

-- a token of these bytes is found before this rest
record FoundBefore (sign : Sign) (word rest : List ℕ) : Type 0 where
  found : piece (word ++ rest) ≡ Found sign (length word)
  starts : IsStart (word ++ rest)

-- what begins a number begins no word
number_no_word : (b : ℕ) → is_number_start b ≡ true → is_word_start b ≡ false
number_no_word b e = grind (arith, nat_tests)

-- a word is found whole before a byte that belongs to none
word_FoundBefore : (key rest : List ℕ) → begins is_word_start key ≡ true → list_all is_word_byte key ≡ true
    → begins is_word_byte rest ≡ false → FoundBefore (Word key) key rest
word_FoundBefore [] rest e f g = cc
word_FoundBefore (b ∷ key) rest e f g =
    let bs : List ℕ = b ∷ (key ++ rest) in
    let run : prefix_len is_word_byte bs ≡ length (b ∷ key) = whole_run is_word_byte (b ∷ key) rest f g in
    let same : take (length (b ∷ key)) bs ≡ b ∷ key = take_at (b ∷ key) rest (length (b ∷ key)) refl in
    let no_open = not_in is_word_start 91 b refl e in
    let no_close = not_in is_word_start 93 b refl e in
    let no_quote = not_in is_word_start 34 b refl e in
    let other : Piece = cond (is_number_start b) (number_piece bs) (Stops BadByte) in
    let told : piece bs ≡ word_piece bs =
    λ i. cond (no_open i) (Found Open 1) (cond (no_close i) (Found Close 1)
    (cond (no_quote i) (string_piece (key ++ rest)) (cond (e i) (word_piece bs) other))) in
    record {
      found = told ∙ ap (λ (n : ℕ). Found (Word (take n bs)) n) run
          ∙ ap (λ (xs : List ℕ). Found (Word xs) (length (b ∷ key))) same;
      starts = (no_blank is_word_start b refl refl refl refl e, not_in is_word_start 35 b refl e);
    }

-- a string is found whole, whatever follows
string_FoundBefore : (text rest : List ℕ) → list_all is_string_byte text ≡ true
    → FoundBefore (Value (Chars text)) (34 ∷ text ++ 34 ∷ []) rest
string_FoundBefore text rest e =
    let bs : List ℕ = text ++ 34 ∷ rest in
    let regroup : (text ++ 34 ∷ []) ++ rest ≡ bs = append_assoc text (34 ∷ []) rest in
    let run : prefix_len is_string_byte bs ≡ length text = whole_run is_string_byte text (34 ∷ rest) e refl in
    let long : length bs ≡ length text + suc (length rest) = length-append text (34 ∷ rest) in
    let closed : (length text == length bs) ≡ false = ne_eqb (length text) (length bs) (λ q. omega (arith, q, long)) in
    let same : take (length text) bs ≡ text = take_at text (34 ∷ rest) (length text) refl in
    let size : length text + 2 ≡ length (34 ∷ text ++ 34 ∷ []) = omega (arith, length-append text (34 ∷ [])) in
    record {
      found = ap string_piece regroup
          ∙ ap (λ (n : ℕ). cond (n == length bs) (Stops OpenString) (Found (Value (Chars (take n bs))) (n + 2))) run
          ∙ (λ i. cond (closed i) (Stops OpenString) (Found (Value (Chars (same i))) (size i)));
      starts = (refl, refl);
    }

-- a run of bytes of numbers is found whole before a byte that belongs to none
number_told : (word rest : List ℕ) → IsNumberRun word → begins is_number_byte rest ≡ false
    → (piece (word ++ rest) ≡ number_of word (length word)) × IsStart (word ++ rest)
number_told [] rest r g = let e : false ≡ true = r.first in cc
number_told (b ∷ word) rest r g =
    let e : is_number_start b ≡ true = r.first in
    let bs : List ℕ = b ∷ (word ++ rest) in
    let run : prefix_len is_number_byte bs ≡ length (b ∷ word) = whole_run is_number_byte (b ∷ word) rest r.all g in
    let same : take (length (b ∷ word)) bs ≡ b ∷ word = take_at (b ∷ word) rest (length (b ∷ word)) refl in
    let no_open = not_in is_number_start 91 b refl e in
    let no_close = not_in is_number_start 93 b refl e in
    let no_quote = not_in is_number_start 34 b refl e in
    let no_word = number_no_word b e in
    let told : piece bs ≡ number_piece bs = λ i. cond (no_open i) (Found Open 1) (cond (no_close i) (Found Close 1)
    (cond (no_quote i) (string_piece (word ++ rest)) (cond (no_word i) (word_piece bs)
    (cond (e i) (number_piece bs) (Stops BadByte))))) in (
      told ∙ ap (λ (n : ℕ). number_of (take n bs) n) run ∙ ap (λ (xs : List ℕ). number_of xs (length (b ∷ word))) same,
      (no_blank is_number_start b refl refl refl refl e, not_in is_number_start 35 b refl e),
    )

-- a run that is an integer is told with its value
integer_told : (word : List ℕ) (o : Option ℤ) → is_integer word ≡ true → integer_value word ≡ o
    → number_of word (length word) ≡ Found (Value (leaf_of o)) (length word)
integer_told word o e f =
    λ i. cond (e i) (Found (Value (leaf_of (f i))) (length word)) (cond (is_real word)
    (Found (Value Other) (length word)) (Stops BadNumber))

-- a run that is a real is told as a number
real_told : (word : List ℕ) → is_integer word ≡ false → is_real word ≡ true
    → number_of word (length word) ≡ Found (Value Other) (length word)
real_told word e f =
    λ i. cond (e i) (Found (Value (leaf_of (integer_value word))) (length word))
    (cond (f i) (Found (Value Other) (length word)) (Stops BadNumber))

-- a number without value is told as such
other_told : (word : List ℕ) → IsOtherNumber word → number_of word (length word) ≡ Found (Value Other) (length word)
other_told word (inl h) = integer_told word None h.0 h.1
other_told word (inr h) = real_told word h.0 h.1

-- what spells a token is found as that token, where it ends
spelled_FoundBefore : (sign : Sign) (word rest : List ℕ) → Spells sign word → EndsBefore sign rest
    → FoundBefore sign word rest
spelled_FoundBefore Open word rest s e =
    subst (λ (xs : List ℕ). FoundBefore Open xs rest) (sym s) (record { found = refl; starts = (refl, refl) })
spelled_FoundBefore Close word rest s e =
    subst (λ (xs : List ℕ). FoundBefore Close xs rest) (sym s) (record { found = refl; starts = (refl, refl) })
spelled_FoundBefore (Word key) word rest s e =
    subst (λ (xs : List ℕ). FoundBefore (Word key) xs rest) (sym s.0) (word_FoundBefore key rest s.1 s.2 e)
spelled_FoundBefore (Value (Chars text)) word rest s e =
    subst (λ (xs : List ℕ). FoundBefore (Value (Chars text)) xs rest) (sym s.0) (string_FoundBefore text rest s.1)
spelled_FoundBefore (Value (Whole n)) word rest s e =
    let told = number_told word rest s.0 e in
    record { found = told.0 ∙ integer_told word (Some n) s.1 s.2; starts = told.1 }
spelled_FoundBefore (Value Other) word rest s e =
    let told = number_told word rest s.0 e in
    record { found = told.0 ∙ other_told word s.1; starts = told.1 }

-- tokens that are laid end to end are those that a reader finds
pub Front-from_IsRowUpTo : (text : List ℕ) (ts : List Token) (from to : ℕ) (behind : List ℕ)
    → IsRowUpTo from (drop from text) ts to behind → Front text from ts to × (drop to text ≡ behind)
Front-from_IsRowUpTo text [] from to behind row = (row.0, sym (ap (λ (x : ℕ). drop x text) row.0) ∙ row.1)
Front-from_IsRowUpTo text (t ∷ ts) from to behind (g, word, rest, split, is_gap, at_is, spells, ends, row) =
    let bs : List ℕ = drop from text in
    let before = spelled_FoundBefore t.sign word rest spells ends in
    let n : gap false bs ≡ length g = ap (gap false) split ∙ gap_length (word ++ rest) is_gap before.starts in
    let here : drop (place text from) text ≡ word ++ rest
    = sym (drop-drop (gap false bs) from text) ∙ ap (λ (xs : List ℕ). drop (gap false bs) xs) split
    ∙ drop_at g (word ++ rest) (gap false bs) (sym n) in
    let found : next text from ≡ Found t.sign (length word) = ap piece here ∙ before.found in
    let left : drop (place text from + length word) text ≡ rest = sym (drop-drop (length word) (place text from) text)
    ∙ ap (drop (length word)) here ∙ drop_at word rest (length word) refl in
    let on : from + length g + length word ≡ place text from + length word = omega (arith, n) in
    let more = Front-from_IsRowUpTo text ts (place text from + length word) to behind
    (subst (λ (xs : List ℕ). IsRowUpTo (place text from + length word) xs ts to behind) (sym left)
    (subst (λ (x : ℕ). IsRowUpTo x rest ts to behind) on row)) in
    ((length word, at_is ∙ ap (λ (x : ℕ). from + x) (sym n), found, more.0), more.1)

-- behind blanks and comments to the end no token stands
gap_over : (text : List ℕ) (to : ℕ) → IsGap [] (drop to text) → next text to ≡ Ends
gap_over text to is_gap =
    let bs : List ℕ = drop to text in
    let n : gap false bs ≡ length bs = ap (gap false) (sym (append-nil bs)) ∙ gap_length [] is_gap tt in
    let over : drop (place text to) text ≡ [] = drop_all (place text to) text (omega (arith, n, length-drop to text)) in
    ap piece over

-- a reader finds these tokens exactly where they are laid end to end, and this rest behind them
pub found_exactly : (text : List ℕ) (ts : List Token) (from to : ℕ)
    → Front text from ts to ↔ IsRowUpTo from (drop from text) ts to (drop to text)
found_exactly text ts from to = (
  λ front. IsRowUpTo-from_Front text ts from to front,
  λ row. (Front-from_IsRowUpTo text ts from to (drop to text)
      row).0,
)

-- the blanks and comments that a reader passes are those that stand there
pub passed_gap : (text : List ℕ) (at : ℕ) → IsGap (drop (place text at) text) (take (place text at - at) (drop at text))
passed_gap text at =
    let bs : List ℕ = drop at text in
    let one : place text at - at ≡ gap false bs = omega arith in
    rw one (subst (λ (xs : List ℕ). IsGap xs (take (gap false bs) bs)) (drop-drop (gap false bs) at text)
    (gap_parts bs).0)

-- a text has a list exactly where it is laid out of the tokens of one that is not too deep
pub list_laid_out : (text : List ℕ) (t : Tree) → IsListOf text t
    → IsRow (start text) (drop (start text) text) (spelled t) × (depth t ≤ deepest)
list_laid_out text t a = (
  record {
    to = a.to;
    behind = drop a.to text;
    row =
        IsRowUpTo-from_Front text (spelled t) (start text) a.to a.cut;
    gap = gap_to_end text a.to a.ends;
  },
  a.shallow,
)

-- a text of tokens laid end to end is the list that they spell
pub laid_out_list : (text : List ℕ) (t : Tree) → IsRow (start text) (drop (start text) text) (spelled t)
    → depth t ≤ deepest → IsListOf text t
laid_out_list text t row shallow =
    let front = Front-from_IsRowUpTo text (spelled t) (start text) row.to row.behind row.row in
    record {
      to = row.to;
      cut = front.0;
      ends =
          gap_over text row.to (subst (λ (xs : List ℕ). IsGap [] xs) (sym front.1) row.gap);
      shallow = shallow;
    }
