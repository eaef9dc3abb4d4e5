-- Each part of an instance that keeps the rules keeps each rule, so none of them is broken.
use Rattle.std.proofs.Common.{◌≡◌, ℕ, zero, suc, ◌+◌, ◌^◌, ◌<◌, ◌≤◌, List, [], ◌∷◌, ◌++◌, length, map, take, drop, add-one, sym, ap, ◌∙◌, subst, inl, inr, refl, ⊎_elim, arith}
use Rattle.std.specs.Prelude.{slice_index, slice_index_or}
use Rattle.std.specs.List.{All, flat_map, range_with_len}
use Rattle.std.specs.List.Sorted.{IsStrictlyIncreasing}
use Rattle.std.proofs.lemmas.Bool.{cases_eq}
use Rattle.std.proofs.lemmas.List.{get_or_default, get_or-append-add, get_or-take, length-append, length-map, length-take-le, take-append-drop}
use Rattle.std.proofs.Math.ListN.{get_or-append}
use Rattle.std.proofs.Math.Seq.{drop-cons}
use Rattle.std.proofs.lemmas.List.Concat.{flat_map-append}
use Rattle.std.proofs.lemmas.List.Elements.{All-append, All-cons, All-nil}
use Rattle.cp_lists.specs.CyclicLists.{Distinct, Has, Lacks}
use Rattle.cp_lists.proofs.DistinctLists.{Distinct-apart_right, Has-append_left}
use Rattle.cp_board.specs.declared.parts.Kind.TheVariants.{P}
use Rattle.cp_board.specs.declared.parts.Vert.{Vert}
use Rattle.cp_board.specs.declared.parts.EdgeRow.{EdgeRow}
use Rattle.cp_board.specs.declared.parts.Pipe.{Pipe}
use Rattle.cp_board.specs.Instances.{AreNames, Synchronized, IsSynchronized, cell_of, edge_names, pipe_names, vert_names}
use Rattle.cp_board.specs.Faults.{EdgeAt, Ends, IsFirstBroken, IsNextName, Keeps, Lists, Names, Part, Partners, PipeAt, PipeEnds, Rule, VertAt, parts, pipe_in_place}
use Rattle.cp_board.proofs.Rules.{All-first, All-second}

-- what holds of all items of some pieces holds of those of each
All-piece : {A B : Type 0} (holds : B → Type 0) (f : A → List B) (xs : List A) → All holds (flat_map f xs)
    → (k : ℕ) (d : A)
    → k < length xs → All holds (f (slice_index_or xs k d))
All-piece holds f [] all k d lt = absurd (omega arith)
All-piece holds f (x ∷ xs) all zero d lt = All-first holds (f x) (flat_map f xs) all
All-piece holds f (x ∷ xs) all (suc k) d lt =
    All-piece holds f xs (All-second holds (f x) (flat_map f xs) all) k d (omega arith)

-- an item before another is less where the items rise
rising_before : (names : List ℕ) → IsStrictlyIncreasing names → (j k : ℕ) → j < k → k < length names
    → slice_index names j < slice_index names k
rising_before names up j zero less lt = absurd (omega arith)
rising_before names up j (suc k) less lt =
    let step : slice_index names k < slice_index names (k + 1) = up k (omega arith) in
    let last : slice_index names (k + 1) ≡ slice_index names (suc k) = ap (slice_index names) (add-one k) in
    ⊎_elim
    (λ same. let e : slice_index names j ≡ slice_index names k =
    ap (slice_index names) same in omega (arith, step, last, e))
    (λ ne. let first = rising_before names up j k (omega arith) (omega arith) in omega (arith, step, last, first))
    (cases_eq j k)

-- each of some names is the next
IsNextName-from : (names : List ℕ) → AreNames names → (k : ℕ) → k < length names → IsNextName names k
IsNextName-from names are k lt = (
  are.fit k 0 lt,
  λ j d within.
      let less : j < k = let h = length-take-le k names (omega (arith, lt)) in omega (arith, within, h) in
      let at : slice_index_or (take k names) j d ≡ slice_index_or names j d = get_or-take k names j d less in
      let same : slice_index_or names j d ≡ slice_index names j =
      sym (get_or_default names j 0 d (omega (arith, less, lt))) in
      let up = rising_before names are.rise j k less lt in
      omega (arith, at, same, up),
)

-- what holds of what is made of each number of a range
All-range : {A : Type 0} (holds : A → Type 0) (f : ℕ → A) (a n : ℕ)
    → ((k : ℕ) → a ≤ k → k < a + n → holds (f k)) → All holds (map f (range_with_len a n))
All-range holds f a zero each = All-nil holds
All-range holds f a (suc n) each =
    All-cons holds (f a) (map f (range_with_len (a + 1) n)) (each a (omega arith) (omega arith))
    (All-range holds f (a + 1) n (λ k low lt. each k (omega (arith, low)) (omega (arith, lt))))

-- all parts of one kind keep a rule
Keeps-kind : (i : Synchronized) (rule : Rule) (part : ℕ → Part) (n : ℕ) → ((k : ℕ) → k < n → Keeps i rule (part k))
    → All (Keeps i rule) (map part (range_with_len 0 n))
Keeps-kind i rule part n each = All-range (Keeps i rule) part 0 n (λ k low lt. each k (omega (arith, lt)))

module _ (i : Synchronized) (is : IsSynchronized i) where
  -- no pipe before has an end of the pipe at place k
  end-Lacks : (k x : ℕ) → k < length i.pipes → Has x ((pipe_in_place i k).a ∷ (pipe_in_place i k).b ∷ [])
      → Lacks x (flat_map (λ p. p.a ∷ p.b ∷ []) (take k i.pipes))
  end-Lacks k x lt h =
      let ends : Pipe → List ℕ = λ p. p.a ∷ p.b ∷ [] in
      let p : Pipe = pipe_in_place i k in
      let none : Pipe = record { name = 0; a = 0; b = 0; pairs = [] } in
      let rest : List Pipe = drop (suc k) i.pipes in
      let whole : take k i.pipes ++ (p ∷ rest) ≡ i.pipes =
      ap (λ ps. take k i.pipes ++ ps) (sym (drop-cons i.pipes k none lt)) ∙ take-append-drop k i.pipes in
      let apart : Distinct (flat_map ends (take k i.pipes) ++ flat_map ends (p ∷ rest)) =
      subst Distinct (ap (flat_map ends) (sym whole) ∙ flat_map-append ends (take k i.pipes) (p ∷ rest))
      is.ends_apart in
      Distinct-apart_right x (flat_map ends (take k i.pipes)) (flat_map ends (p ∷ rest)) apart
      (Has-append_left x (ends p) (flat_map ends rest) h)

  -- the vertices, edges and pipes by each rule
  Keeps-vert : (rule : Rule) (k : ℕ) → k < length i.verts → Keeps i rule (VertAt k)
  Keeps-vert Names k lt = (
    IsNextName-from (vert_names i) is.verts_named k
        (let h = length-map i.verts (λ (v : Vert). v.name) in omega (arith, lt, h)),
    All-piece (λ c. c < 2 ^ 63) (λ v. cell_of v.kind) i.verts is.cells_fit k record { name = 0; kind = P } lt,
  )
  Keeps-vert Ends k lt = tt
  Keeps-vert Lists k lt = is.lists_right k record { name = 0; kind = P } lt
  Keeps-vert PipeEnds k lt = tt
  Keeps-vert Partners k lt = tt

  -- each edge keeps each rule
  Keeps-edge : (rule : Rule) (k : ℕ) → k < length i.edges → Keeps i rule (EdgeAt k)
  Keeps-edge Names k lt =
      IsNextName-from (edge_names i) is.edges_named k
      (let h = length-map i.edges (λ (e : EdgeRow). e.name) in omega (arith, lt, h))
  Keeps-edge Ends k lt =
      let live = is.ends_live k record { name = 0; a = 0; b = 0 } lt in
      (live.0, live.1, is.ends_differ k record { name = 0; a = 0; b = 0 } lt)
  Keeps-edge Lists k lt = tt
  Keeps-edge PipeEnds k lt = tt
  Keeps-edge Partners k lt = tt

  -- each pipe keeps each rule
  Keeps-pipe : (rule : Rule) (k : ℕ) → k < length i.pipes → Keeps i rule (PipeAt k)
  Keeps-pipe Names k lt =
      IsNextName-from (pipe_names i) is.pipes_named k
      (let h = length-map i.pipes (λ (p : Pipe). p.name) in omega (arith, lt, h))
  Keeps-pipe Ends k lt = tt
  Keeps-pipe Lists k lt = tt
  Keeps-pipe PipeEnds k lt = (
    is.ends_free k record { name = 0; a = 0; b = 0; pairs = [] } lt,
    (end-Lacks k (pipe_in_place i k).a lt (inl refl), end-Lacks k (pipe_in_place i k).b lt (inr (inl refl))),
  )
  Keeps-pipe Partners k lt = is.pairs_right k record { name = 0; a = 0; b = 0; pairs = [] } lt

  -- all parts keep each rule
  Keeps-parts : (rule : Rule) → All (Keeps i rule) (parts i)
  Keeps-parts rule =
      let verts : List Part = map VertAt (range_with_len 0 (length i.verts)) in
      let edges : List Part = map EdgeAt (range_with_len 0 (length i.edges)) in
      let pipes : List Part = map PipeAt (range_with_len 0 (length i.pipes)) in
      All-append (Keeps i rule) (verts ++ edges) pipes
      (All-append (Keeps i rule) verts edges
      (Keeps-kind i rule VertAt (length i.verts) (Keeps-vert rule))
      (Keeps-kind i rule EdgeAt (length i.edges) (Keeps-edge rule)))
      (Keeps-kind i rule PipeAt (length i.pipes) (Keeps-pipe rule))

  -- no rule is broken
  pub no_rule_broken : (broken name : ℕ) → IsFirstBroken i broken name → ⊥
  no_rule_broken broken name first = first.breaks (Keeps-parts first.rule first.place (VertAt 0) first.within)
