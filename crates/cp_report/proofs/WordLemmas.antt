-- Lines as words between blanks.
use Rattle.std.proofs.Common.{◌≡◌, ℕ, Bool, true, false, cond, List, [], ◌∷◌, ◌++◌, map, sym, ap, ◌∙◌, append_assoc}
use Rattle.std.specs.List.{AllByRecursion, flat_map, join_with_byte}
use Rattle.std.specs.Fmt.{decimal}
use Rattle.std.proofs.lemmas.List.{append-nil}
use Rattle.std.proofs.lemmas.List.Splits.{join_with_byte-slice_split}
use Rattle.cp_report.specs.Texts.{list_line}
use Rattle.cp_report.specs.Reading.{Lacks, words}
use Rattle.cp_report.proofs.CutLemmas.{split_at_cut, split_whole}

-- a word up to the next blank is the first word
pub words-cut : (word rest : List ℕ) → Lacks 32 word → words (word ++ 32 ∷ rest) ≡ word ∷ words rest
unfolding words
words-cut word rest h = split_at_cut 32 word rest h

-- bytes without a blank are one word
pub words-whole : (word : List ℕ) → Lacks 32 word → words word ≡ word ∷ []
unfolding words
words-whole word h = split_whole 32 word h

-- where words are left, the one up to the next blank comes next
pub next_word : (more : Bool) (rest word after : List ℕ) → more ≡ true → Lacks 32 word → rest ≡ word ++ 32 ∷ after
    → cond more (words rest) [] ≡ word ∷ cond more (words after) []
next_word true rest word after e lacks h = ap words h ∙ words-cut word after lacks
next_word false rest word after e lacks h = absurd cc

-- where no blank is left, the last word comes next
pub last_word : (more : Bool) (rest : List ℕ) → more ≡ true → Lacks 32 rest → cond more (words rest) [] ≡ rest ∷ []
last_word true rest e lacks = words-whole rest lacks
last_word false rest e lacks = absurd cc

-- the words of items that are spelled behind a word
pub words_of_items : (spelled : ℕ → List ℕ) (items : List ℕ) (word : List ℕ) → Lacks 32 word
    → AllByRecursion (λ item. Lacks 32 (spelled item)) items
    → words (word ++ flat_map (λ item. 32 ∷ spelled item) items) ≡ word ∷ map spelled items
words_of_items spelled [] word h all = ap words (append-nil word) ∙ words-whole word h
words_of_items spelled (item ∷ items) word h all =
    words-cut word (spelled item ++ flat_map (λ item. 32 ∷ spelled item) items) h
    ∙ ap (λ ws. word ∷ ws) (words_of_items spelled items (spelled item) all.0 all.1)

-- the same line, its words set apart
pub line_regrouped : (key label spelled_items : List ℕ)
    → (key ++ 32 ∷ label) ++ 58 ∷ spelled_items ≡ key ++ 32 ∷ ((label ++ 58 ∷ []) ++ spelled_items)
line_regrouped key label spelled_items = append_assoc key (32 ∷ label) (58 ∷ spelled_items)
    ∙ ap (λ t. key ++ 32 ∷ t) (sym (append_assoc label (58 ∷ []) spelled_items))

-- the words of a line: key, label and items
pub words_of_line : (key : List ℕ) (spelled : ℕ → List ℕ) (number : ℕ) (items : List ℕ) → Lacks 32 key
    → Lacks 32 (decimal number ++ 58 ∷ []) → AllByRecursion (λ item. Lacks 32 (spelled item)) items
    → words (list_line key spelled number items) ≡ key ∷ (decimal number ++ 58 ∷ []) ∷ map spelled items
words_of_line key spelled number items in_key in_label in_items =
    ap words (line_regrouped key (decimal number) (flat_map (λ item. 32 ∷ spelled item) items))
    ∙ words-cut key ((decimal number ++ 58 ∷ []) ++ flat_map (λ item. 32 ∷ spelled item) items) in_key
    ∙ ap (λ ws. key ∷ ws) (words_of_items spelled items (decimal number ++ 58 ∷ []) in_label in_items)

-- words joined by blanks are a word and the items behind it
joined_items : (spelled : ℕ → List ℕ) (items : List ℕ) (word : List ℕ)
    → join_with_byte 32 (word ∷ map spelled items) ≡ word ++ flat_map (λ item. 32 ∷ spelled item) items
joined_items spelled [] word = sym (append-nil word)
joined_items spelled (item ∷ items) word = ap (λ t. word ++ 32 ∷ t) (joined_items spelled items (spelled item))

-- the words determine the line
pub line_of_words : (key : List ℕ) (spelled : ℕ → List ℕ) (number : ℕ) (items line : List ℕ)
    → words line ≡ key ∷ (decimal number ++ 58 ∷ []) ∷ map spelled items → line ≡ list_line key spelled number items
unfolding words
line_of_words key spelled number items line h =
    sym (join_with_byte-slice_split 32 line)
    ∙ ap (join_with_byte 32) h
    ∙ ap (λ t. key ++ 32 ∷ t) (joined_items spelled items (decimal number ++ 58 ∷ []))
    ∙ sym (line_regrouped key (decimal number) (flat_map (λ item. 32 ∷ spelled item) items))

-- where a row of spellings goes on behind some of them, the next word is one too
pub next_is_spelled : (spelled : ℕ → List ℕ) (P : ℕ
    → Type 0) (done items : List ℕ) (word : List ℕ) (later : List (List ℕ)) → AllByRecursion P items
    → map spelled items ≡ map spelled done ++ word ∷ later → (item : ℕ) × P item × (word ≡ spelled item)
next_is_spelled spelled P [] [] word later all h = absurd cc
next_is_spelled spelled P [] (item ∷ items) word later all h = (item, all.0, cc)
next_is_spelled spelled P (d ∷ done) [] word later all h = absurd cc
next_is_spelled spelled P (d ∷ done) (item ∷ items) word later all h =
    next_is_spelled spelled P done items word later all.1 cc
