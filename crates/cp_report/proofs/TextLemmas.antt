-- Texts as lines, and how two rows of lines begin alike.
use Rattle.std.proofs.Common.{◌≡◌, ◌≢◌, ℕ, ◌+◌, ◌<◌, ◌≤◌, ◌^◌, eqb, List, [], ◌∷◌, ◌++◌, length, map, refl, sym, ap, ◌∙◌, ◌⊎◌, inl, inr, arith, append_assoc, add-zero}
use Rattle.std.specs.List.{AllByRecursion, slice_split}
use Rattle.std.proofs.lemmas.List.{append-nil}
use Rattle.std.proofs.lemmas.List.Concat.{flat_map-append}
use Rattle.std.proofs.lemmas.Fmt.{decimal_injective}
use Rattle.cp_report.specs.declared.row.Row.{Row}
use Rattle.cp_report.specs.declared.row.Row.TheVariants.{Nodes, Clusters}
use Rattle.cp_report.specs.Texts.{numbered, text_of}
use Rattle.cp_report.specs.Reading.{Lacks, row_item, row_limit, row_line, AreItems, words}
use Rattle.cp_report.proofs.CutLemmas.{split_at_cut, split_whole, cut_or_whole}
use Rattle.cp_report.proofs.NumberLemmas.{dart_text_injective}
use Rattle.cp_report.proofs.RowLemmas.{words_of_row, lacks-line}

-- what holds of all items holds of those behind
pub all-behind : {X : Type 0} (P : X → Type 0) (xs ys : List X) → AllByRecursion P (xs ++ ys) → AllByRecursion P ys
all-behind P [] ys all = all
all-behind P (x ∷ xs) ys all = all-behind P xs ys all.1

-- what holds of all items holds of those before
pub all-before : {X : Type 0} (P : X → Type 0) (xs ys : List X) → AllByRecursion P (xs ++ ys) → AllByRecursion P xs
all-before P [] ys all = tt
all-before P (x ∷ xs) ys all = (all.0, all-before P xs ys all.1)

-- what holds of both parts holds of the whole
pub all-append : {X : Type 0} (P : X → Type 0) (xs ys : List X) → AllByRecursion P xs → AllByRecursion P ys
    → AllByRecursion P (xs ++ ys)
all-append P [] ys a b = b
all-append P (x ∷ xs) ys a b = (a.0, all-append P xs ys a.1 b)

-- the text of lines behind lines
pub text-append : (a b : List (List ℕ)) (rest : List ℕ) → text_of (a ++ b) ++ rest ≡ text_of a ++ (text_of b ++ rest)
text-append a b rest = ap (λ t. t ++ rest) (flat_map-append (λ l. l ++ 10 ∷ []) a b)
    ∙ append_assoc (text_of a) (text_of b) rest

-- the bytes between line feeds
unfoldable pub pieces : List ℕ → List (List ℕ)
pieces bytes = slice_split (λ y. eqb y 10) bytes

-- a line up to its line feed is the first piece
pub pieces-cut : (line rest : List ℕ) → Lacks 10 line → pieces (line ++ 10 ∷ rest) ≡ line ∷ pieces rest
unfolding pieces
pieces-cut line rest h = split_at_cut 10 line rest h

-- bytes without a line feed are one piece
pub pieces-whole : (line : List ℕ) → Lacks 10 line → pieces line ≡ line ∷ []
unfolding pieces
pieces-whole line h = split_whole 10 line h

-- the pieces of a text are its lines, and those of what follows
pub pieces_of_text : (lines : List (List ℕ)) (rest : List ℕ) → AllByRecursion (Lacks 10) lines
    → pieces (text_of lines ++ rest) ≡ lines ++ pieces rest
pieces_of_text [] rest all = refl
pieces_of_text (line ∷ lines) rest all =
    let grouped : text_of (line ∷ lines) ++ rest ≡ line ++ 10 ∷ (text_of lines ++ rest) =
    append_assoc (line ++ 10 ∷ []) (text_of lines) rest ∙ append_assoc line (10 ∷ []) (text_of lines ++ rest) in
    ap pieces grouped ∙ pieces-cut line (text_of lines ++ rest) all.0
    ∙ ap (λ ls. line ∷ ls) (pieces_of_text lines rest all.1)

-- bytes have at least one piece
pub some_piece : (bytes : List ℕ) (ls : List (List ℕ)) → ls ++ pieces bytes ≡ [] → ⊥
some_piece bytes [] h =
    elim (cut_or_whole 10 bytes) [
      | inl lacks ↦ (let e : bytes ∷ [] ≡ [] = sym (pieces-whole bytes lacks) ∙ h in absurd cc)
      | inr cut ↦ (let e : cut.0 ∷ pieces cut.1 ≡ [] = sym (pieces-cut cut.0 cut.1 cut.2) ∙ ap pieces (sym cut.3)
          ∙ h in absurd cc)
    ]
some_piece bytes (l ∷ ls) h = absurd cc

-- of two fronts of one list one goes on with the other
pub lists_compare : {X : Type 0} (a b x y : List X) → a ++ x ≡ b ++ y
    → ((more : List X) × (b ≡ a ++ more) × (x ≡ more ++ y)) ⊎ ((more : List X) × (a ≡ b ++ more) × (y ≡ more ++ x))
lists_compare [] b x y h = inl (b, refl, h)
lists_compare (p ∷ a) [] x y h = inr (p ∷ a, refl, sym h)
lists_compare (p ∷ a) (q ∷ b) x y h =
    let head : p ≡ q = cc in
    let tails : a ++ x ≡ b ++ y = cc in
    elim (lists_compare a b x y tails) [
      | inl l ↦ inl (l.0, ap (λ t. q ∷ t) l.1 ∙ ap (λ t. t ∷ a ++ l.0) (sym head), l.2)
      | inr r ↦ inr (r.0, ap (λ t. p ∷ t) r.1 ∙ ap (λ t. t ∷ b ++ r.0) head, r.2)
    ]

-- the first byte of the first line
abbrev pub head_byte : List (List ℕ) → ℕ
head_byte [] = 0
head_byte ([] ∷ lines) = 0
head_byte ((byte ∷ bytes) ∷ lines) = byte

-- the letter with which a line of a row begins
abbrev pub row_byte : Row → ℕ
row_byte Nodes = 110
row_byte Clusters = 99

-- the lines of some lists from a number on
abbrev pub rows : Row → ℕ → List (List ℕ) → List (List ℕ)
rows row first lists = numbered (row_line row) first lists

-- a line of a row begins with the letter of the row
pub head_of_row : (row : Row) (number : ℕ) (items : List ℕ) (lines : List (List ℕ))
    → head_byte (row_line row number items ∷ lines) ≡ row_byte row
head_of_row Nodes number items lines = refl
head_of_row Clusters number items lines = refl

-- the text of an item tells the item
item_injective : (row : Row) (a b : ℕ) → a < row_limit row → b < row_limit row → row_item row a ≡ row_item row b → a ≡ b
item_injective Nodes a b la lb h = dart_text_injective a b la lb h
item_injective Clusters a b la lb h = decimal_injective a b (omega arith) (omega arith) h

-- the texts of items tell the items
items_injective : (row : Row) (xs ys : List ℕ) → AreItems row xs → AreItems row ys
    → map (row_item row) xs ≡ map (row_item row) ys → xs ≡ ys
items_injective row [] [] fx fy h = refl
items_injective row [] (y ∷ ys) fx fy h = absurd cc
items_injective row (x ∷ xs) [] fx fy h = absurd cc
items_injective row (x ∷ xs) (y ∷ ys) fx fy h =
    let head : x ≡ y = item_injective row x y fx.0 fy.0 cc in
    let tails : xs ≡ ys = items_injective row xs ys fx.1 fy.1 cc in
    cc

-- a line has one list
pub line_injective : (row : Row) (number : ℕ) (xs ys : List ℕ) → number < 2 ^ 32 → AreItems row xs → AreItems row ys
    → row_line row number xs ≡ row_line row number ys → xs ≡ ys
line_injective row number xs ys small fx fy h =
    let all = sym (words_of_row row number xs small fx) ∙ ap words h ∙ words_of_row row number ys small fy in
    items_injective row xs ys fx fy cc

-- lines of a row have no line feed
pub rows_are_lines : (row : Row) (first : ℕ) (lists : List (List ℕ)) → first + length lists ≤ 2 ^ 32
    → AllByRecursion (AreItems row) lists → AllByRecursion (Lacks 10) (rows row first lists)
rows_are_lines row first [] fits all = tt
rows_are_lines row first (items ∷ lists) fits all =
    (lacks-line row first items (omega arith) all.0, rows_are_lines row (first + 1) lists (omega arith) all.1)

-- where one row ends with the lists and another goes on, its further lists follow
pub rows_compare : (row : Row) (xs ys : List (List ℕ)) (n : ℕ) (x y : List (List ℕ)) → n + length xs ≤ 2 ^ 32
    → AllByRecursion (AreItems row) xs → AllByRecursion (AreItems row) ys → head_byte x ≢ row_byte row
    → rows row n xs ++ x ≡ rows row n ys ++ y
    → (more : List (List ℕ)) × (xs ≡ ys ++ more) × (rows row (n + length ys) more ++ x ≡ y)
rows_compare row xs [] n x y fits ax ay ends h = (xs, refl, ap (λ k. rows row k xs ++ x) (add-zero n) ∙ h)
rows_compare row [] (b ∷ ys) n x y fits ax ay ends h =
    absurd (ends (ap head_byte h ∙ head_of_row row n b (rows row (n + 1) ys ++ y)))
rows_compare row (a ∷ xs) (b ∷ ys) n x y fits ax ay ends h =
    let line : row_line row n a ≡ row_line row n b = cc in
    let tails : rows row (n + 1) xs ++ x ≡ rows row (n + 1) ys ++ y = cc in
    let same = line_injective row n a b (omega arith) ax.0 ay.0 line in
    let rest = rows_compare row xs ys (n + 1) x y (omega arith) ax.1 ay.1 ends tails in
    let place : n + length (b ∷ ys) ≡ n + 1 + length ys = omega arith in
    (rest.0, ap (λ t. t ∷ xs) same ∙ ap (λ t. b ∷ t) rest.1, ap (λ k. rows row k rest.0 ++ x) place ∙ rest.2)

-- where one row of lines goes on and the other does not, nothing is left
nothing_more : (row : Row) (more xs ys : List (List ℕ)) (n : ℕ) (x y : List (List ℕ)) → head_byte y ≢ row_byte row
    → xs ≡ ys ++ more → rows row n more ++ x ≡ y → (xs ≡ ys) × (x ≡ y)
nothing_more row [] xs ys n x y ends h k = (h ∙ append-nil ys, k)
nothing_more row (m ∷ more) xs ys n x y ends h k =
    absurd (ends (ap head_byte (sym k) ∙ head_of_row row n m (rows row (n + 1) more ++ x)))

-- where both rows end, they are the same
pub rows_same : (row : Row) (xs ys : List (List ℕ)) (n : ℕ) (x y : List (List ℕ)) → n + length xs ≤ 2 ^ 32
    → AllByRecursion (AreItems row) xs → AllByRecursion (AreItems row) ys → head_byte x ≢ row_byte row
    → head_byte y ≢ row_byte row → rows row n xs ++ x ≡ rows row n ys ++ y → (xs ≡ ys) × (x ≡ y)
rows_same row xs ys n x y fits ax ay ends ends_too h =
    let met = rows_compare row xs ys n x y fits ax ay ends h in
    nothing_more row met.0 xs ys (n + length ys) x y ends_too met.1 met.2
