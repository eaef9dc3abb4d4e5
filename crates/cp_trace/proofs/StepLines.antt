-- The lines of reductions, by their words.
use Rattle.std.proofs.Common.{◌≡◌, ◌⊎◌, ℕ, true, ltb, ◌+◌, ◌*◌, ◌<◌, ◌^◌, cond, eqb, codes, List, [], ◌∷◌, ◌++◌, length, map, inl, inr, refl, sym, ap, ◌∙◌, arith, append_assoc}
use Rattle.std.specs.List.{AllByRecursion, flat_map, list_all}
use Rattle.std.proofs.lemmas.Bool.{and_parts, ltb-true}
use Rattle.std.specs.Fmt.{decimal}
use Rattle.std.proofs.lemmas.List.{append-nil}
use Rattle.std.proofs.lemmas.List.Splits.{length-slice_split}
use Rattle.cp_base.specs.declared.shape.Branch.{Branch}
use Rattle.cp_base.specs.Shapes.{leaves}
use Rattle.cp_board.specs.declared.steps.Step.{Step}
use Rattle.cp_board.specs.declared.steps.Step.TheVariants.{Small, FreePole, FusePoles, Toroidal, Join, Propagate}
use Rattle.cp_trace.specs.declared.step_key.StepKey.{StepKey}
use Rattle.cp_trace.specs.declared.step_key.StepKey.TheVariants as keys
use Rattle.cp_trace.specs.Faults.{AreSmall, IsToldStep}
use Rattle.cp_trace.specs.Reading.{Lacks, words}
use Rattle.cp_trace.specs.StepWords.{key_of_step, key_word, step_args}
use Rattle.cp_trace.specs.Texts.{body_text, keyed, spaced, step_line}
use Rattle.cp_trace.proofs.LineWords.{behind_blanks, key_free, number_free}
use Rattle.cp_trace.proofs.WordLemmas.{words-cut, words-injective, words_of_row}

-- a number of the first two letters
abbrev letters : List ℕ → ℕ
letters [] = 0
letters (a ∷ []) = a
letters (a ∷ b ∷ bs) = 256 * a + b

-- the key with this number
abbrev key_with : ℕ → StepKey
key_with n =
    cond (eqb n 29549) keys.Small (cond (eqb n 26226) keys.Free (cond (eqb n 26229) keys.Fuse
    (cond (eqb n 29807) keys.Torus (cond (eqb n 27247) keys.Join keys.Tree))))

-- the letters of a key tell it
key_told : (k : StepKey) → key_with (letters (key_word k)) ≡ k
key_told keys.Small = refl
key_told keys.Free = refl
key_told keys.Fuse = refl
key_told keys.Torus = refl
key_told keys.Join = refl
key_told keys.Tree = refl

-- keys of one word are the same
pub key_same : (k l : StepKey) → key_word k ≡ key_word l → k ≡ l
key_same k l h = sym (key_told k) ∙ ap (λ w. key_with (letters w)) h ∙ key_told l

-- numbers as words behind blanks
numbers_row : (ns : List ℕ) → flat_map spaced ns ≡ behind_blanks (map decimal ns)
numbers_row [] = refl
numbers_row (n ∷ ns) = ap (λ t. 32 ∷ decimal n ++ t) (numbers_row ns)

-- no blank stands in them
numbers_free : (ns : List ℕ) → AreSmall ns → AllByRecursion (Lacks 32) (map decimal ns)
numbers_free [] small = tt
numbers_free (n ∷ ns) small = (number_free 32 (omega arith) n small.0, numbers_free ns small.1)

-- no blank stands in letters
pub letters_free : (word : List ℕ) → list_all (λ b. ltb 32 b) word ≡ true → Lacks 32 word
letters_free [] h = tt
letters_free (x ∷ xs) h =
    let both = and_parts (ltb 32 x) (list_all (λ b. ltb 32 b) xs) h in
    ((λ e. omega (arith, e, ltb-true 32 x both.0)), letters_free xs both.1)

-- the words of a line of two keys and numbers
pub two_keys : (first key : List ℕ) (ns : List ℕ) → Lacks 32 first → Lacks 32 key → AreSmall ns
    → words (first ++ 32 ∷ (key ++ flat_map spaced ns)) ≡ first ∷ key ∷ map decimal ns
two_keys first key ns free_first free small =
    words-cut first (key ++ flat_map spaced ns) free_first
    ∙ ap (λ ws. first ∷ ws) (ap (λ t. words (key ++ t)) (numbers_row ns)
    ∙ words_of_row key (map decimal ns) free (numbers_free ns small))

-- of one that begins with `step`
keyed_words : (key : List ℕ) (ns : List ℕ) → Lacks 32 key → AreSmall ns
    → words (codes "step" ++ 32 ∷ (key ++ flat_map spaced ns)) ≡ codes "step" ∷ key ∷ map decimal ns
keyed_words key ns = two_keys (codes "step") key ns (letters_free (codes "step") refl)

-- the words of the line of a reduction with a shape
tree_words : (pipe end root : ℕ) (body : List ℕ) → pipe < 2 ^ 63 → end < 2 ^ 63 → root < 2 ^ 63
    → words (keyed (codes "step tree") (pipe ∷ end ∷ root ∷ []) ++ 32 ∷ body)
    ≡ codes "step" ∷ codes "tree" ∷ decimal pipe ∷ decimal end ∷ decimal root ∷ words body
tree_words pipe end root body sp se sr =
    let behind_end : List ℕ = decimal root ++ 32 ∷ body in
    let behind_pipe : List ℕ = decimal end ++ 32 ∷ behind_end in
    let behind_tree : List ℕ = decimal pipe ++ 32 ∷ behind_pipe in
    let behind_step : List ℕ = codes "tree" ++ 32 ∷ behind_tree in
    let regrouped : keyed (codes "step tree") (pipe ∷ end ∷ root ∷ []) ++ 32 ∷ body ≡ codes "step" ++ 32 ∷ behind_step =
    ap (λ t. codes "step tree" ++ 32 ∷ t)
    (append_assoc (decimal pipe) (32 ∷ (decimal end ++ 32 ∷ (decimal root ++ []))) (32 ∷ body)
    ∙ ap (λ t. decimal pipe ++ 32 ∷ t) (append_assoc (decimal end) (32 ∷ (decimal root ++ [])) (32 ∷ body)
    ∙ ap (λ t. decimal end ++ 32 ∷ (t ++ 32 ∷ body)) (append-nil (decimal root)))) in
    ap words regrouped
    ∙ words-cut (codes "step") behind_step (key_free 32 (omega arith) (codes "step") refl)
    ∙ ap (λ ws. codes "step" ∷ ws) (words-cut (codes "tree") behind_tree (key_free 32 (omega arith) (codes "tree") refl)
    ∙ ap (λ ws. codes "tree" ∷ ws) (words-cut (decimal pipe) behind_pipe (number_free 32 (omega arith) pipe sp)
    ∙ ap (λ ws. decimal pipe ∷ ws) (words-cut (decimal end) behind_end (number_free 32 (omega arith) end se)
    ∙ ap (λ ws. decimal end ∷ ws) (words-cut (decimal root) body (number_free 32 (omega arith) root sr)))))

-- the words of the line of a reduction
pub words-step_line : (s : Step) → IsToldStep s
    → words (step_line s) ≡ codes "step" ∷ key_word (key_of_step s) ∷ step_args s
words-step_line (Small pipe) told = keyed_words (codes "small") (pipe ∷ []) (key_free 32 (omega arith) (codes
    "small") refl)
    told
words-step_line (FreePole pipe end pole) told =
    keyed_words (codes "free") (pipe ∷ end ∷ pole ∷ []) (key_free 32 (omega arith) (codes "free") refl) told
words-step_line (FusePoles pipe end pole) told =
    keyed_words (codes "fuse") (pipe ∷ end ∷ pole ∷ []) (key_free 32 (omega arith) (codes "fuse") refl) told
words-step_line (Toroidal pipe) told =
    keyed_words (codes "torus") (pipe ∷ []) (key_free 32 (omega arith) (codes "torus") refl) told
words-step_line (Join pipe) told = keyed_words (codes "join") (pipe ∷ []) (key_free 32 (omega arith) (codes "join")
    refl) told
words-step_line (Propagate pipe end shape) told =
    tree_words pipe end shape.root (body_text shape.body) told.0 told.1.0 told.1.1.0

module _ (line : List ℕ) (ws : List (List ℕ)) (is : ws ≡ words line) where
  -- without the first words it is no line of a reduction
  pub no_step_key : ((k : StepKey) (later : List (List ℕ)) → ws ≡ codes "step" ∷ key_word k ∷ later → ⊥)
      → (s : Step) → IsToldStep s → line ≡ step_line s → ⊥
  no_step_key none s told h = none (key_of_step s) (step_args s) (is ∙ ap words h ∙ words-step_line s told)

  -- nor without those that belong to them
  pub no_step_args : (key : StepKey) (rest : List (List ℕ)) → ws ≡ codes "step" ∷ key_word key ∷ rest
      → ((s : Step) → IsToldStep s → key_of_step s ≡ key → rest ≡ step_args s → ⊥)
      → (s : Step) → IsToldStep s → line ≡ step_line s → ⊥
  no_step_args key rest head none s told h =
      let whole : ws ≡ codes "step" ∷ key_word (key_of_step s) ∷ step_args s =
      is ∙ ap words h ∙ words-step_line s told in
      let keys_same : key_word (key_of_step s) ≡ key_word key = cc in
      none s told (key_same (key_of_step s) key keys_same) cc

  -- with both it is one
  pub step_found : (key : StepKey) (rest : List (List ℕ)) (s : Step) → ws ≡ codes "step" ∷ key_word key ∷ rest
      → IsToldStep s → key_of_step s ≡ key → rest ≡ step_args s → line ≡ step_line s
  step_found key rest s head told same spelled =
      words-injective line (step_line s)
      (sym is ∙ head ∙ ap (λ (k : StepKey). codes "step" ∷ key_word k ∷ rest) (sym same)
      ∙ ap (λ args. codes "step" ∷ key_word (key_of_step s) ∷ args) spelled ∙ sym (words-step_line s told))

-- three numbers behind the key
pub no_three : (s : Step) (ws : List (List ℕ)) → (key_of_step s ≡ keys.Free) ⊎ (key_of_step s ≡ keys.Fuse)
    → IsToldStep s → ws ≡ step_args s
    → ((a b c : ℕ) (later : List (List ℕ)) → a < 2 ^ 63 → b < 2 ^ 63 → c < 2 ^ 63
    → ws ≡ decimal a ∷ decimal b ∷ decimal c ∷ later → ⊥) → ⊥
no_three (Small pipe) ws (inl e) told h none = absurd cc
no_three (Small pipe) ws (inr e) told h none = absurd cc
no_three (FreePole pipe end pole) ws e told h none = none pipe end pole [] told.0 told.1.0 told.1.1.0 h
no_three (FusePoles pipe end pole) ws e told h none = none pipe end pole [] told.0 told.1.0 told.1.1.0 h
no_three (Toroidal pipe) ws (inl e) told h none = absurd cc
no_three (Toroidal pipe) ws (inr e) told h none = absurd cc
no_three (Join pipe) ws (inl e) told h none = absurd cc
no_three (Join pipe) ws (inr e) told h none = absurd cc
no_three (Propagate pipe end shape) ws (inl e) told h none = absurd cc
no_three (Propagate pipe end shape) ws (inr e) told h none = absurd cc

-- a line has a word
some_word : (bytes : List ℕ) → words bytes ≡ [] → ⊥
unfolding words
some_word bytes h = omega (arith, ap (length {A = List ℕ}) h, length-slice_split (λ b. eqb b 32) bytes)

-- words behind three numbers that are those of no shape
pub no_tree : (ws rest : List (List ℕ)) (a b c : List ℕ) → ws ≡ a ∷ b ∷ c ∷ rest
    → ((body : Branch) → AreSmall (leaves body) → rest ≡ words (body_text body) → ⊥)
    → (s : Step) → IsToldStep s → key_of_step s ≡ keys.Tree → ws ≡ step_args s → ⊥
no_tree ws rest a b c head none (Small pipe) told key h = absurd cc
no_tree ws rest a b c head none (FreePole pipe end pole) told key h = absurd cc
no_tree ws rest a b c head none (FusePoles pipe end pole) told key h = absurd cc
no_tree ws rest a b c head none (Toroidal pipe) told key h = absurd cc
no_tree ws rest a b c head none (Join pipe) told key h = absurd cc
no_tree ws rest a b c head none (Propagate pipe end shape) told key h = none shape.body told.1.1.1 cc

-- nothing is left
pub nothing_left : (rest : List (List ℕ)) → rest ≡ [] → (body : Branch) → AreSmall (leaves body)
    → rest ≡ words (body_text body) → ⊥
nothing_left rest none body small h = some_word (body_text body) (sym h ∙ none)

-- bytes are left that are the text of no branch
pub no_shape_left : (rest : List (List ℕ)) (bytes : List ℕ) → rest ≡ words bytes
    → ((body : Branch) → AreSmall (leaves body) → bytes ≡ body_text body → ⊥)
    → (body : Branch) → AreSmall (leaves body) → rest ≡ words (body_text body) → ⊥
no_shape_left rest bytes is none body small h = none body small (words-injective bytes (body_text body) (sym is ∙ h))
