-- Lines as words between blanks.
use Rattle.std.proofs.Common.{◌≡◌, ℕ, Bool, true, false, cond, List, [], ◌∷◌, ◌++◌, map, sym, ap, ◌∙◌}
use Rattle.std.specs.List.{AllByRecursion, flat_map, join_with_byte}
use Rattle.std.proofs.lemmas.List.{append-nil}
use Rattle.std.proofs.lemmas.List.Splits.{join_with_byte-slice_split}
use Rattle.cp_trace.specs.Reading.{Lacks, words}
use Rattle.cp_trace.proofs.CutLemmas.{split_at_cut, split_whole}

-- the first word ends at the first blank
pub words-cut : (word rest : List ℕ) → Lacks 32 word → words (word ++ 32 ∷ rest) ≡ word ∷ words rest
unfolding words
words-cut word rest h = split_at_cut 32 word rest h

-- without a blank there is one word
pub words-whole : (word : List ℕ) → Lacks 32 word → words word ≡ word ∷ []
unfolding words
words-whole word h = split_whole 32 word h

-- a word more, where a blank is found
pub next_word : (more : Bool) (rest word after : List ℕ) → more ≡ true → Lacks 32 word → rest ≡ word ++ 32 ∷ after
    → cond more (words rest) [] ≡ word ∷ cond more (words after) []
next_word true rest word after e lacks h = ap words h ∙ words-cut word after lacks
next_word false rest word after e lacks h = absurd cc

-- the last word, where none is found
pub last_word : (more : Bool) (rest : List ℕ) → more ≡ true → Lacks 32 rest → cond more (words rest) [] ≡ rest ∷ []
last_word true rest e lacks = words-whole rest lacks
last_word false rest e lacks = absurd cc

-- a word, and then words behind blanks, are the words of the line
pub words_of_row : (word : List ℕ) (ws : List (List ℕ)) → Lacks 32 word → AllByRecursion (Lacks 32) ws
    → words (word ++ flat_map (λ w. 32 ∷ w) ws) ≡ word ∷ ws
words_of_row word [] h all = ap words (append-nil word) ∙ words-whole word h
words_of_row word (w ∷ ws) h all =
    words-cut word (w ++ flat_map (λ x. 32 ∷ x) ws) h ∙ ap (λ rest. word ∷ rest) (words_of_row w ws all.0 all.1)

-- lines of the same words are the same
pub words-injective : (a b : List ℕ) → words a ≡ words b → a ≡ b
unfolding words
words-injective a b h =
    sym (join_with_byte-slice_split 32 a) ∙ ap (join_with_byte 32) h ∙ join_with_byte-slice_split 32 b

-- where a row of spellings goes on behind some of them, the next word is one too
pub next_is_spelled : {A : Type 0} (spelled : A → List ℕ) (P : A → Type 0) (done items : List A) (word : List ℕ)
    (later : List (List ℕ)) → AllByRecursion P items → map spelled items ≡ map spelled done ++ word ∷ later
    → (item : A) × P item × (word ≡ spelled item)
next_is_spelled spelled P [] [] word later all h = absurd cc
next_is_spelled spelled P [] (item ∷ items) word later all h = (item, all.0, cc)
next_is_spelled spelled P (d ∷ done) [] word later all h = absurd cc
next_is_spelled spelled P (d ∷ done) (item ∷ items) word later all h =
    next_is_spelled spelled P done items word later all.1 cc
