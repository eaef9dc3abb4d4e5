-- What the words of a line tell of the line.
use Rattle.std.proofs.Common.{◌≡◌, ℕ, ◌<◌, ◌^◌, codes, List, [], ◌∷◌, map, Option, Some, None, MatchOption, sym, ap, ◌∙◌, subst}
use Rattle.std.specs.List.{AllByRecursion}
use Rattle.std.specs.List.Sorted.{IsStrictlyIncreasing}
use Rattle.std.specs.Fmt.{decimal}
use Rattle.cp_board.specs.declared.parts.Kind.{Kind}
use Rattle.cp_board.specs.declared.parts.Kind.TheVariants.{P, Q}
use Rattle.cp_board.specs.declared.parts.Vert.{Vert}
use Rattle.cp_board.specs.declared.parts.EdgeRow.{EdgeRow}
use Rattle.cp_board.specs.declared.parts.Pipe.{Pipe}
use Rattle.cp_trace.specs.Faults.{AreSmall, AreToldPairs, HasLeastFirst, IsNumber, IsPair, IsToldEdge, IsToldKind, IsToldPipe, IsToldVert}
use Rattle.cp_trace.specs.Reading.{IsAbove, edge_words, kind_words, label_word, pair_word, words}
use Rattle.cp_trace.specs.Texts.{edge_line, pipe_line, vert_line}
use Rattle.cp_trace.proofs.LineValues.{edge_same, list_same, number_same, pair_same, pipe_same, vert_same}
use Rattle.cp_trace.proofs.LineWords.{is_edge_line, is_pipe_line, is_vert_line, words-edge_line, words-pipe_line, words-vert_line}

-- what stands behind two words
pub behind_two : (k n l m : List ℕ) (ws xs ys : List (List ℕ)) → ws ≡ k ∷ n ∷ xs → ws ≡ l ∷ m ∷ ys → xs ≡ ys
behind_two k n l m ws xs ys h e = cc

-- the same, word by word
pub behind_pair : (k n l m : List ℕ) (ws xs ys zs : List (List ℕ)) → ws ≡ k ∷ xs → xs ≡ n ∷ ys → ws ≡ l ∷ m ∷ zs
    → ys ≡ zs
behind_pair k n l m ws xs ys zs h e f = cc

-- behind three
pub behind_three : (k n l m a b : List ℕ) (ws xs ys zs : List (List ℕ)) → ws ≡ k ∷ n ∷ xs → xs ≡ a ∷ ys
    → ws ≡ l ∷ m ∷ b ∷ zs → ys ≡ zs
behind_three k n l m a b ws xs ys zs h e f = cc

-- a list that does not begin with its least number is that of no Q-vertex
pub no_listed : (ws rest : List (List ℕ)) (cell : ℕ) (psi : List ℕ) → ws ≡ label_word cell ∷ rest → AreSmall psi
    → rest ≡ map decimal psi → (HasLeastFirst psi → ⊥) → (k : Kind) → IsToldKind k → codes "Q" ∷ ws ≡ kind_words k → ⊥
no_listed ws rest cell psi head small spelled none P told h = (let e : label_word cell ∷ rest ≡ [] = cc in absurd cc)
no_listed ws rest cell psi head small spelled none (Q c xs) told h =
    let both : label_word cell ∷ rest ≡ label_word c ∷ map decimal xs = cc in
    let lists : map decimal xs ≡ map decimal psi = cc in
    let same = list_same decimal IsNumber number_same xs psi told.1 small lists in
    none (subst HasLeastFirst same told.2)

-- the edge that the words tell is that of the line
pub edge_by_line : (line : List ℕ) (ws : List (List ℕ)) (found : Option EdgeRow) → ws ≡ words line
    → MatchOption found ((e : EdgeRow) → IsToldEdge e → ws ≡ edge_words e → ⊥) (λ e. IsToldEdge e × (ws ≡ edge_words e))
    → MatchOption found ((e : EdgeRow) → IsToldEdge e → line ≡ edge_line e → ⊥)
    (λ e. IsToldEdge e × (line ≡ edge_line e))
edge_by_line line ws None is told = λ e te h. told e te (is ∙ ap words h ∙ words-edge_line e te)
edge_by_line line ws (Some e) is told = (told.0, is_edge_line e line told.0 (sym is ∙ told.1))

module _ (line : List ℕ) (ws : List (List ℕ)) (is : ws ≡ words line) where
  -- without the first words it is no line of a vertex
  pub no_vert_name : ((n : ℕ) (later : List (List ℕ)) → n < 2 ^ 63 → ws ≡ codes "vertex" ∷ decimal n ∷ later → ⊥)
      → (v : Vert) → IsToldVert v → line ≡ vert_line v → ⊥
  no_vert_name none v told h = none v.name (kind_words v.kind) told.name (is ∙ ap words h ∙ words-vert_line v told)

  -- nor without those of a kind behind them
  pub no_vert_kind : (name : ℕ) (rest : List (List ℕ)) → ws ≡ codes "vertex" ∷ decimal name ∷ rest
      → ((k : Kind) → IsToldKind k → rest ≡ kind_words k → ⊥) → (v : Vert) → IsToldVert v → line ≡ vert_line v → ⊥
  no_vert_kind name rest head none v told h =
      let whole : ws ≡ codes "vertex" ∷ decimal v.name ∷ kind_words v.kind =
      is ∙ ap words h ∙ words-vert_line v told in
      none v.kind told.kind cc

  -- with both it is one
  pub vert_found : (name : ℕ) (rest : List (List ℕ)) (kind : Kind) → name < 2 ^ 63
      → ws ≡ codes "vertex" ∷ decimal name ∷ rest → IsToldKind kind → rest ≡ kind_words kind
      → (let v : Vert = record { name = name; kind = kind } in IsToldVert v × (line ≡ vert_line v))
  vert_found name rest kind small head told spelled =
      let v : Vert = record { name = name; kind = kind } in
      let right : IsToldVert v = record { name = small; kind = told } in
      (right, is_vert_line v line right (sym is ∙ head ∙ ap (λ ks. codes "vertex" ∷ decimal name ∷ ks) spelled))

  -- without the first words it is no line of a pipe
  pub no_pipe_ends : ((name a b : ℕ) (later : List (List ℕ)) → name < 2 ^ 63 → a < 2 ^ 63 → b < 2 ^ 63
      → ws ≡ codes "pipe" ∷ decimal name ∷ decimal a ∷ label_word b ∷ later → ⊥)
      → (p : Pipe) → IsToldPipe p → line ≡ pipe_line p → ⊥
  no_pipe_ends none p told h =
      none p.name p.a p.b (map pair_word p.pairs) told.name told.a told.b (is ∙ ap words h ∙ words-pipe_line p told)

  -- nor without pairs behind them
  pub no_pipe_pairs : (name a b : ℕ) (rest : List (List ℕ))
      → ws ≡ codes "pipe" ∷ decimal name ∷ decimal a ∷ label_word b ∷ rest
      → ((pairs : List (ℕ × ℕ)) → AreToldPairs pairs → rest ≡ map pair_word pairs → ⊥)
      → (p : Pipe) → IsToldPipe p → line ≡ pipe_line p → ⊥
  no_pipe_pairs name a b rest head none p told h =
      let whole : ws ≡ codes "pipe" ∷ decimal p.name ∷ decimal p.a ∷ label_word p.b ∷ map pair_word p.pairs =
      is ∙ ap words h ∙ words-pipe_line p told in
      none p.pairs told.pairs cc

  -- with both it is one
  pub pipe_found : (name a b : ℕ) (rest : List (List ℕ)) (pairs : List (ℕ × ℕ)) → name < 2 ^ 63 → a < 2 ^ 63
      → b < 2 ^ 63
      → ws ≡ codes "pipe" ∷ decimal name ∷ decimal a ∷ label_word b ∷ rest
      → AreToldPairs pairs → rest ≡ map pair_word pairs
      → (let p : Pipe = record { name = name; a = a; b = b; pairs = pairs } in IsToldPipe p × (line ≡ pipe_line p))
  pipe_found name a b rest pairs sn sa sb head told spelled =
      let p : Pipe = record { name = name; a = a; b = b; pairs = pairs } in
      let right : IsToldPipe p = record { name = sn; a = sa; b = sb; pairs = told } in (
        right,
        is_pipe_line p line right
            (sym is ∙ head ∙ ap (λ ks. codes "pipe" ∷ decimal name ∷ decimal a ∷ label_word b ∷ ks) spelled),
      )

-- pairs that do not rise are those of no pipe
pub no_rising_pairs : (ws : List (List ℕ)) (pairs : List (ℕ × ℕ)) → AllByRecursion IsPair pairs
    → ws ≡ map pair_word pairs
    → (IsStrictlyIncreasing (map (λ x. x.0) pairs) → ⊥) → (others : List (ℕ × ℕ)) → AreToldPairs others
    → ws ≡ map pair_word others → ⊥
no_rising_pairs ws pairs small spelled none others told h =
    let same = list_same pair_word IsPair pair_same others pairs told.0 small (sym h ∙ spelled) in
    none (subst (λ (ps : List (ℕ × ℕ)). IsStrictlyIncreasing (map (λ x. x.0) ps)) same told.1)

-- a line whose name does not go on is no next line
module _ (last : Option ℕ) (line : List ℕ) where
  -- the same vertex
  pub no_next_vert : (v : Vert) → IsToldVert v → line ≡ vert_line v → (IsAbove last v.name → ⊥)
      → (w : Vert) → IsToldVert w → IsAbove last w.name → line ≡ vert_line w → ⊥
  no_next_vert v tv is none w tw above h =
      none (subst (λ (x : Vert). IsAbove last x.name) (vert_same w v tw tv (sym h ∙ is)) above)

  -- the same edge
  pub no_next_edge : (e : EdgeRow) → IsToldEdge e → line ≡ edge_line e → (IsAbove last e.name → ⊥)
      → (f : EdgeRow) → IsToldEdge f → IsAbove last f.name → line ≡ edge_line f → ⊥
  no_next_edge e te is none f tf above h =
      none (subst (λ (x : EdgeRow). IsAbove last x.name) (edge_same f e tf te (sym h ∙ is)) above)

  -- the same pipe
  pub no_next_pipe : (p : Pipe) → IsToldPipe p → line ≡ pipe_line p → (IsAbove last p.name → ⊥)
      → (q : Pipe) → IsToldPipe q → IsAbove last q.name → line ≡ pipe_line q → ⊥
  no_next_pipe p tp is none q tq above h =
      none (subst (λ (x : Pipe). IsAbove last x.name) (pipe_same q p tq tp (sym h ∙ is)) above)
