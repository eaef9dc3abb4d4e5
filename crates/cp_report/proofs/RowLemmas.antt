-- Lines that hold a list, and rows of them.
use Rattle.std.proofs.Common.{◌≡◌, ℕ, ◌+◌, ◌<◌, ◌^◌, eqb, List, [], ◌∷◌, ◌++◌, length, map, Option, Some, None, MatchOption, refl, sym, ap, ◌∙◌, subst, arith, inl, append_assoc, add-zero, length-append, get_or, take}
use Rattle.std.specs.List.{AllByRecursion, slice_split, flat_map}
use Rattle.std.specs.Fmt.{decimal}
use Rattle.std.proofs.lemmas.List.{append_cancel_left, append-nil, take_more, length-take-le}
use Rattle.std.proofs.lemmas.List.Concat.{flat_map-append}
use Rattle.cp_report.specs.declared.row.Row.{Row}
use Rattle.cp_report.specs.declared.row.Row.TheVariants.{Nodes, Clusters}
use Rattle.cp_report.specs.Texts.{numbered, text_of}
use Rattle.cp_report.specs.Reading.{Lacks, words, row_key, row_item, row_limit, row_line, AreItems, IsListLine, AreListLines, HasNoRow}
use Rattle.cp_report.proofs.CutLemmas.{split_at_cut, lacks-append}
use Rattle.cp_report.proofs.NumberLemmas.{lacks-decimal, lacks-label, lacks-dart}
use Rattle.cp_report.proofs.WordLemmas.{words_of_line, line_of_words}

-- the text of an item lacks each byte before the digits
lacks-item : (row : Row) (c item : ℕ) → c < 48 → item < row_limit row → Lacks c (row_item row item)
lacks-item Nodes c item low small = lacks-dart c item low small
lacks-item Clusters c item low small = lacks-decimal c item (inl low) (omega arith)

-- the texts of items do too
lacks-items : (row : Row) (c : ℕ) (items : List ℕ) → c < 48 → AreItems row items
    → AllByRecursion (λ item. Lacks c (row_item row item)) items
lacks-items row c [] low fit = tt
lacks-items row c (item ∷ items) low fit = (lacks-item row c item low fit.0, lacks-items row c items low fit.1)

-- the first word of a line does too
lacks-key : (row : Row) (c : ℕ) → c < 48 → Lacks c (row_key row)
lacks-key Nodes c low = ((λ e. omega arith), ((λ e. omega arith), ((λ e. omega arith), ((λ e. omega arith), tt))))
lacks-key Clusters c low = (
  (λ e. omega arith),
  (
    (λ e. omega arith),
    ((λ e. omega arith), ((λ e. omega arith), ((λ e. omega arith), ((λ e. omega arith), ((λ e. omega arith), tt))))),
  ),
)

-- the items of a line have no line feed
lacks-spelled : (row : Row) (items : List ℕ) → AreItems row items
    → Lacks 10 (flat_map (λ item. 32 ∷ row_item row item) items)
lacks-spelled row [] fit = tt
lacks-spelled row (item ∷ items) fit = (
  (λ e. omega arith),
  lacks-append 10 (row_item row item) _ (lacks-item row 10 item (omega arith) fit.0)
      (lacks-spelled row items fit.1),
)

-- a line has no line feed in it
pub lacks-line : (row : Row) (number : ℕ) (items : List ℕ) → number < 2 ^ 32 → AreItems row items
    → Lacks 10 (row_line row number items)
lacks-line row number items small fit =
    lacks-append 10 (row_key row ++ 32 ∷ decimal number) (58 ∷ flat_map (λ item. 32 ∷ row_item row item) items)
    (lacks-append 10 (row_key row) (32 ∷ decimal number) (lacks-key row 10 (omega arith))
    ((λ e. omega arith), lacks-decimal 10 number (inl (omega arith)) (omega arith)))
    ((λ e. omega arith), lacks-spelled row items fit)

-- the words of a line
pub words_of_row : (row : Row) (number : ℕ) (items : List ℕ) → number < 2 ^ 32 → AreItems row items
    → words (row_line row number items) ≡ row_key row ∷ (decimal number ++ 58 ∷ []) ∷ map (row_item row) items
words_of_row row number items small fit =
    words_of_line (row_key row) (row_item row) number items (lacks-key row 32 (omega arith))
    (lacks-label 32 number (omega arith) (omega arith)) (lacks-items row 32 items (omega arith) fit)

-- behind the head, the words tell whether it is a line and which items it has
pub line_by_words : (row : Row) (number : ℕ) (line : List ℕ) (rest : List (List ℕ)) (found : Option (List ℕ))
    → number < 2 ^ 32 → words line ≡ row_key row ∷ (decimal number ++ 58 ∷ []) ∷ rest
    → MatchOption found ((items : List ℕ) → AreItems row items → rest ≡ map (row_item row) items
    → ⊥) (λ items. AreItems row items × (rest ≡ map (row_item row) items))
    → MatchOption found ((items : List ℕ) → IsListLine row number line items → ⊥) (IsListLine row number line)
line_by_words row number line rest None small head told = λ items it.
    let all : row_key row ∷ (decimal number ++ 58 ∷ []) ∷ rest ≡ row_key row ∷ (decimal number ++ 58 ∷ []) ∷ map
    (row_item row) items = sym head ∙ ap words it.spelled ∙ words_of_row row number items small it.items_fit in
    told items it.items_fit cc
line_by_words row number line rest (Some items) small head told = record {
  fits = small;
  items_fit = told.0;
  spelled = line_of_words (row_key row) (row_item row) number items line
      (head ∙ ap (λ ws. row_key row ∷ (decimal number ++ 58 ∷ []) ∷ ws) told.1);
}

-- without the head it is no line
pub no_line_by_words : (row : Row) (number : ℕ) (line : List ℕ)
    → ((later : List (List ℕ)) → number < 2 ^ 32 → words line ≡ row_key row ∷ (decimal number ++ 58 ∷ []) ∷ later → ⊥)
    → (items : List ℕ) → IsListLine row number line items → ⊥
no_line_by_words row number line none items it =
    none (map (row_item row) items) it.fits (ap words it.spelled ∙ words_of_row row number items it.fits it.items_fit)

-- a cut at the first such byte is unique
pub cut_unique : (c : ℕ) (a b x y : List ℕ) → Lacks c a → Lacks c b → a ++ c ∷ x ≡ b ++ c ∷ y → (a ≡ b) × (x ≡ y)
cut_unique c a b x y la lb h =
    let split = sym (split_at_cut c a x la) ∙ ap (slice_split (λ z. eqb z c)) h ∙ split_at_cut c b y lb in
    let same : a ≡ b = cc in
    let tails : c ∷ x ≡ c ∷ y = append_cancel_left b (c ∷ x) (c ∷ y) (ap (λ t. t ++ c ∷ x) (sym same) ∙ h) in
    (same, cc)

-- bytes do not lack one that stands among them
pub lacks_not : (c : ℕ) (a b : List ℕ) → Lacks c (a ++ c ∷ b) → ⊥
lacks_not c [] b h = h.0 refl
lacks_not c (x ∷ a) b h = lacks_not c a b h.1

-- a first line that is no line of this number
pub no_row_at : (row : Row) (number : ℕ) (text line after : List ℕ) → Lacks 10 line → text ≡ line ++ 10 ∷ after
    → ((items : List ℕ) → IsListLine row number line items → ⊥) → HasNoRow row number text
no_row_at row number text line after lacks cut none items later small fit spelled =
    let same = cut_unique 10 line (row_line row number items) after later lacks (lacks-line row number items small fit)
    (sym cut ∙ spelled) in
    none items (record { fits = small; items_fit = fit; spelled = same.0 })

-- without a line feed there is no line
pub no_row_without_feed : (row : Row) (number : ℕ) (text : List ℕ) → Lacks 10 text → HasNoRow row number text
no_row_without_feed row number text lacks items later small fit spelled =
    lacks_not 10 (row_line row number items) later (subst (Lacks 10) spelled lacks)

-- one more item that has a property, behind items that have it
pub all-push : {X : Type 0} (P : X → Type 0) (xs : List X) (x : X) → AllByRecursion P xs → P x
    → AllByRecursion P (xs ++ x ∷ [])
all-push P [] x all p = (p, tt)
all-push P (y ∷ xs) x all p = (all.0, all-push P xs x all.1 p)

-- one more list is one more line
numbered_push : (line : ℕ → List ℕ → List ℕ) (first : ℕ) (lists : List (List ℕ)) (items : List ℕ)
    → numbered line first (lists ++ items ∷ []) ≡ numbered line first lists ++ line (first + length lists) items ∷ []
numbered_push line first [] items = ap (λ n. line n items ∷ []) (sym (add-zero first))
numbered_push line first (x ∷ lists) items =
    let place : first + 1 + length lists ≡ first + length (x ∷ lists) = omega arith in
    ap (λ ls. line first x ∷ ls) (numbered_push line (first + 1) lists items ∙ ap
    (λ n. numbered line (first + 1) lists ++ line n items ∷ []) place)

-- the text of one line more
text_push : (row : Row) (first : ℕ) (lists : List (List ℕ)) (items : List ℕ)
    → text_of (numbered (row_line row) first (lists ++ items ∷ []))
    ≡ text_of (numbered (row_line row) first lists) ++ (row_line row (first + length lists) items ++ 10 ∷ [])
text_push row first lists items =
    let lines = numbered (row_line row) first lists in
    ap text_of (numbered_push (row_line row) first lists items) ∙ flat_map-append (λ l. l ++ 10 ∷ []) lines _
    ∙ ap (λ t. text_of lines ++ t) (append-nil _)

-- what is written after one line more
pub rows_written : (row : Row) (first i number : ℕ) (lists : List (List ℕ)) (items old done new : List ℕ)
    → i < length lists → items ≡ get_or lists i items → number ≡ first + i
    → done ≡ old ++ text_of (numbered (row_line row) first (take i lists))
    → new ≡ done ++ (row_line row number items ++ 10 ∷ [])
    → new ≡ old ++ text_of (numbered (row_line row) first (take (i + 1) lists))
rows_written row first i number lists items old done new below at place so_far more =
    let before = text_of (numbered (row_line row) first (take i lists)) in
    let front : take (i + 1) lists ≡ take i lists ++ items ∷ [] = take_more lists i items below
    ∙ ap (λ x. take i lists ++ x ∷ []) (sym at) in
    let counted : number ≡ first + length (take i lists) = place
    ∙ ap (λ n. first + n) (sym (length-take-le i lists (omega arith))) in
    more
    ∙ ap (λ t. t ++ (row_line row number items ++ 10 ∷ [])) so_far
    ∙ append_assoc old before (row_line row number items ++ 10 ∷ [])
    ∙ ap (λ n. old ++ (before ++ (row_line row n items ++ 10 ∷ []))) counted
    ∙ ap (λ t. old ++ t) (sym (text_push row first (take i lists) items)
    ∙ ap (λ ls. text_of (numbered (row_line row) first ls)) (sym front))

-- one line more
pub rows_more : (row : Row) (first : ℕ) (text : List ℕ) (lists : List (List ℕ)) (rest line after items : List ℕ)
    → AreListLines row first text lists rest → rest ≡ line ++ 10 ∷ after
    → IsListLine row (first + length lists) line items → AreListLines row first text (lists ++ items ∷ []) after
rows_more row first text lists rest line after items rows cut it =
    let lines = numbered (row_line row) first lists in
    let last : rest ≡ (row_line row (first + length lists) items ++ 10 ∷ []) ++ after = cut
    ∙ ap (λ l. l ++ 10 ∷ after) it.spelled
    ∙ sym (append_assoc (row_line row (first + length lists) items) (10 ∷ []) after) in
    let pushed = text_push row first lists items in
    record {
      fit = omega (arith, it.fits, length-append lists (items ∷ []));
      items_fit = all-push (AreItems row) lists items rows.items_fit it.items_fit;
      spelled = rows.spelled ∙ ap (λ t. text_of lines ++ t) last ∙ sym (append_assoc (text_of lines) _ after)
          ∙ ap (λ t. t ++ after) (sym pushed);
    }
