-- The lines of an instance, by their words.
use Rattle.std.proofs.Common.{◌≡◌, ℕ, ◌<◌, ◌^◌, Bool, true, ltb, codes, List, [], ◌∷◌, ◌++◌, map, inl, sym, refl, ap, ◌∙◌, subst, arith, append_assoc}
use Rattle.std.specs.List.{AllByRecursion, flat_map, list_all}
use Rattle.std.specs.Fmt.{decimal}
use Rattle.std.proofs.lemmas.Bool.{and_parts, ltb-true}
use Rattle.std.proofs.lemmas.List.{append-nil}
use Rattle.std.proofs.lemmas.List.Folds.{flat_map-map}
use Rattle.cp_board.specs.declared.parts.Kind.{Kind}
use Rattle.cp_board.specs.declared.parts.Kind.TheVariants.{P, Q}
use Rattle.cp_board.specs.declared.parts.Vert.{Vert}
use Rattle.cp_board.specs.declared.parts.EdgeRow.{EdgeRow}
use Rattle.cp_board.specs.declared.parts.Pipe.{Pipe}
use Rattle.cp_trace.specs.Faults.{IsPair, IsToldEdge, IsToldKind, IsToldPipe, IsToldVert}
use Rattle.cp_trace.specs.Reading.{Lacks, edge_words, kind_words, label_word, pair_word, pipe_words, vert_words, words}
use Rattle.cp_trace.specs.Texts.{edge_line, keyed, kind_text, pair_text, pipe_line, vert_line}
use Rattle.cp_trace.proofs.CutLemmas.{lacks-append}
use Rattle.cp_trace.proofs.NumberLemmas.{lacks-decimal}
use Rattle.cp_trace.proofs.WordLemmas.{words-injective, words_of_row}

-- each item is greater
abbrev all_above : ℕ → List ℕ → Bool
all_above least xs = list_all (λ x. ltb least x) xs

-- words behind blanks
abbrev pub behind_blanks : List (List ℕ) → List ℕ
behind_blanks ws = flat_map (λ w. 32 ∷ w) ws

module _ (c : ℕ) (low : c < 47) where
  -- no byte below the slash stands in a number
  pub number_free : (n : ℕ) → n < 2 ^ 63 → Lacks c (decimal n)
  number_free n small = lacks-decimal c n (inl (omega (arith, low))) (omega (arith, small))

  -- nor in a number with a colon
  pub label_free : (n : ℕ) → n < 2 ^ 63 → Lacks c (label_word n)
  label_free n small = lacks-append c (decimal n) (58 ∷ []) (number_free n small) ((λ e. omega (arith, low, e)), tt)

  -- nor in a pair
  pub pair_free : (pair : ℕ × ℕ) → IsPair pair → Lacks c (pair_word pair)
  pair_free pair small =
      lacks-append c (decimal pair.0) (47 ∷ decimal pair.1) (number_free pair.0 small.0)
      ((λ e. omega (arith, low, e)), number_free pair.1 small.1)

  -- nor in spellings
  pub all_free : {A : Type 0} (spelled : A → List ℕ) (Small : A → Type 0) → ((x : A) → Small x → Lacks c (spelled x))
      → (xs : List A) → AllByRecursion Small xs → AllByRecursion (Lacks c) (map spelled xs)
  all_free spelled Small free [] small = tt
  all_free spelled Small free (x ∷ xs) small = (free x small.0, all_free spelled Small free xs small.1)

  -- nor in the words of a kind
  kind_free : (k : Kind) → IsToldKind k → AllByRecursion (Lacks c) (kind_words k)
  kind_free P told = (((λ e. omega (arith, low, e)), tt), tt)
  kind_free (Q cell psi) told = (
    ((λ e. omega (arith, low, e)), tt),
    (label_free cell told.0, all_free decimal (λ n. n < 2 ^ 63) number_free psi told.1),
  )

  -- nor in the first words of lines
  pub key_free : (word : List ℕ) → all_above 46 word ≡ true → Lacks c word
  key_free [] h = tt
  key_free (x ∷ xs) h =
      let both = and_parts (ltb 46 x) (all_above 46 xs) h in
      ((λ e. omega (arith, low, e, ltb-true 46 x both.0)), key_free xs both.1)

  -- nor in the words of the line of a vertex
  pub vert_words_free : (v : Vert) → IsToldVert v → AllByRecursion (Lacks c) (vert_words v)
  vert_words_free v told =
      (key_free (codes "vertex") refl, (number_free v.name told.name, kind_free v.kind told.kind))

  -- the same for an edge
  pub edge_words_free : (e : EdgeRow) → IsToldEdge e → AllByRecursion (Lacks c) (edge_words e)
  edge_words_free e told = (
    key_free (codes "edge") refl,
    (number_free e.name told.name, (number_free e.a told.a, (number_free e.b told.b, tt))),
  )

  -- the same for a pipe
  pub pipe_words_free : (p : Pipe) → IsToldPipe p → AllByRecursion (Lacks c) (pipe_words p)
  pipe_words_free p told = (
    key_free (codes "pipe") refl,
    (
      number_free p.name told.name,
      (
        number_free p.a told.a,
        (
          label_free p.b told.b,
          all_free pair_word IsPair pair_free p.pairs told.pairs.0,
        ),
      ),
    ),
  )

-- a number, a colon and items behind blanks, as words
label_row : {A : Type 0} (n : ℕ) (spelled : A → List ℕ) (xs : List A)
    → (decimal n ++ []) ++ 58 ∷ flat_map (λ x. 32 ∷ spelled x) xs
    ≡ label_word n ++ behind_blanks (map spelled xs)
label_row n spelled xs =
    ap (λ t. t ++ 58 ∷ flat_map (λ x. 32 ∷ spelled x) xs) (append-nil (decimal n))
    ∙ sym (append_assoc (decimal n) (58 ∷ []) (flat_map (λ x. 32 ∷ spelled x) xs))
    ∙ ap (λ t. label_word n ++ t) (sym (flat_map-map (λ w. 32 ∷ w) spelled xs))

-- the line of a vertex as words behind blanks
vert_row : (n : ℕ) (k : Kind) → keyed (codes "vertex") (n ∷ []) ++ kind_text k
    ≡ codes "vertex" ++ behind_blanks (decimal n ∷ kind_words k)
vert_row n P = ap (λ t. codes "vertex" ++ 32 ∷ (t ++ codes " P")) (append-nil (decimal n))
vert_row n (Q cell psi) =
    ap (λ t. codes "vertex" ++ 32 ∷ (t ++ kind_text (Q cell psi))) (append-nil (decimal n))
    ∙ ap (λ t. codes "vertex" ++ 32 ∷ (decimal n ++ 32 ∷ 81 ∷ 32 ∷ t)) (label_row cell decimal psi)

-- the line of a pipe as words behind blanks
pipe_row : (n a b : ℕ) (pairs : List (ℕ × ℕ)) → keyed (codes "pipe") (n ∷ a ∷ b ∷ []) ++ 58 ∷ flat_map pair_text pairs
    ≡ codes "pipe" ++ behind_blanks (decimal n ∷ decimal a ∷ label_word b ∷ map pair_word pairs)
pipe_row n a b pairs =
    ap (λ t. codes "pipe" ++ 32 ∷ t)
    (append_assoc (decimal n) (32 ∷ (decimal a ++ 32 ∷ (decimal b ++ []))) (58 ∷ flat_map pair_text pairs)
    ∙ ap (λ t. decimal n ++ 32 ∷ t) (append_assoc (decimal a) (32 ∷ (decimal b ++ [])) (58 ∷ flat_map pair_text pairs)
    ∙ ap (λ t. decimal a ++ 32 ∷ t) (label_row b pair_word pairs)))

-- the words of the line of a vertex
pub words-vert_line : (v : Vert) → IsToldVert v → words (vert_line v) ≡ vert_words v
words-vert_line v told =
    let free = vert_words_free 32 (omega arith) v told in
    ap words (vert_row v.name v.kind) ∙ words_of_row (codes "vertex") (decimal v.name ∷ kind_words v.kind) free.0 free.1

-- of the line of an edge
pub words-edge_line : (e : EdgeRow) → IsToldEdge e → words (edge_line e) ≡ edge_words e
words-edge_line e told =
    let free = edge_words_free 32 (omega arith) e told in
    words_of_row (codes "edge") (decimal e.name ∷ decimal e.a ∷ decimal e.b ∷ []) free.0 free.1

-- of the line of a pipe
pub words-pipe_line : (p : Pipe) → IsToldPipe p → words (pipe_line p) ≡ pipe_words p
words-pipe_line p told =
    let free = pipe_words_free 32 (omega arith) p told in
    ap words (pipe_row p.name p.a p.b p.pairs)
    ∙ words_of_row (codes "pipe") (decimal p.name ∷ decimal p.a ∷ label_word p.b ∷ map pair_word p.pairs) free.0 free.1

-- a line of the words of a vertex is its line
pub is_vert_line : (v : Vert) (line : List ℕ) → IsToldVert v → words line ≡ vert_words v → line ≡ vert_line v
is_vert_line v line told h = words-injective line (vert_line v) (h ∙ sym (words-vert_line v told))

-- the same for an edge
pub is_edge_line : (e : EdgeRow) (line : List ℕ) → IsToldEdge e → words line ≡ edge_words e → line ≡ edge_line e
is_edge_line e line told h = words-injective line (edge_line e) (h ∙ sym (words-edge_line e told))

-- the same for a pipe
pub is_pipe_line : (p : Pipe) (line : List ℕ) → IsToldPipe p → words line ≡ pipe_words p → line ≡ pipe_line p
is_pipe_line p line told h = words-injective line (pipe_line p) (h ∙ sym (words-pipe_line p told))

-- no line feed stands in words behind blanks
row_free : (word : List ℕ) (ws : List (List ℕ)) → Lacks 10 word → AllByRecursion (Lacks 10) ws
    → Lacks 10 (word ++ behind_blanks ws)
row_free word [] h all = lacks-append 10 word [] h tt
row_free word (w ∷ ws) h all =
    lacks-append 10 word (32 ∷ (w ++ behind_blanks ws)) h ((λ e. omega (arith, e)), row_free w ws all.0 all.1)

-- nor in the line of a vertex
pub vert_line_free : (v : Vert) → IsToldVert v → Lacks 10 (vert_line v)
vert_line_free v told =
    let free = vert_words_free 10 (omega arith) v told in
    subst (Lacks 10) (sym (vert_row v.name v.kind)) (row_free (codes "vertex") (decimal v.name ∷ kind_words v.kind)
    free.0 free.1)

-- the same for an edge
pub edge_line_free : (e : EdgeRow) → IsToldEdge e → Lacks 10 (edge_line e)
edge_line_free e told =
    let free = edge_words_free 10 (omega arith) e told in
    row_free (codes "edge") (decimal e.name ∷ decimal e.a ∷ decimal e.b ∷ []) free.0 free.1

-- the same for a pipe
pub pipe_line_free : (p : Pipe) → IsToldPipe p → Lacks 10 (pipe_line p)
pipe_line_free p told =
    let free = pipe_words_free 10 (omega arith) p told in
    subst (Lacks 10) (sym (pipe_row p.name p.a p.b p.pairs))
    (row_free (codes "pipe") (decimal p.name ∷ decimal p.a ∷ label_word p.b ∷ map pair_word p.pairs) free.0 free.1)
