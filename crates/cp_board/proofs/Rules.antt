-- The five rules by the parts of an instance: where each part keeps each rule, the rules hold.
use Rattle.std.proofs.Common.{◌≡◌, ◌≢◌, ℕ, zero, suc, ◌+◌, ◌^◌, ◌<◌, ◌≤◌, List, [], ◌∷◌, ◌++◌, length, map, take, slice_index, slice_index_or, sym, ap, ◌∙◌, subst, arith}
use Rattle.std.specs.List.{All, Contains, flat_map, range_with_len}
use Rattle.std.proofs.lemmas.List.{get_or_default, get_or-take, get_or-append-add, length-append, length-map, length-take-le, take_more}
use Rattle.std.proofs.Math.ListN.{get_or-append}
use Rattle.std.proofs.Math.Seq.{take-length}
use Rattle.std.proofs.lemmas.List.Elements.{All-append, All-nil}
use Rattle.std.proofs.lemmas.List.FromFn.{get_or-map-range_with_len, length-range_with_len}
use Rattle.std.proofs.lemmas.Grind.{flat_map-append}
use Rattle.cp_lists.specs.CyclicLists.{Lacks, Distinct}
use Rattle.cp_lists.proofs.DistinctLists.{Distinct-append, has_lacks}
use Rattle.cp_board.specs.declared.parts.Kind.TheVariants.{P}
use Rattle.cp_board.specs.declared.parts.Vert.{Vert}
use Rattle.cp_board.specs.declared.parts.EdgeRow.{EdgeRow}
use Rattle.cp_board.specs.declared.parts.Pipe.{Pipe}
use Rattle.cp_board.specs.Instances.{Synchronized, IsSynchronized, AreNames, IsRightKind, HasRightEnds, HasRightPairs, graph, vert_names, edge_names, pipe_names, cell_of}
use Rattle.cp_board.specs.Faults.{Part, VertAt, EdgeAt, PipeAt, parts, Rule, Names, Ends, Lists, PipeEnds, Partners, Keeps, IsNextName}

-- what holds of all items of two lists holds of those of the first
pub All-first : {A : Type 0} (holds : A → Type 0) (xs ys : List A) → All holds (xs ++ ys) → All holds xs
All-first holds xs ys all k d lt =
    subst holds (get_or-append xs ys d k lt) (all k d (omega (arith, lt, length-append xs ys)))

-- and of those of the second
pub All-second : {A : Type 0} (holds : A → Type 0) (xs ys : List A) → All holds (xs ++ ys) → All holds ys
All-second holds xs ys all k d lt =
    subst holds (get_or-append-add xs ys k d) (all (length xs + k) d (omega (arith, lt, length-append xs ys)))

-- what holds of the values at all numbers below n holds of each
All-at : {A : Type 0} (holds : A → Type 0) (f : ℕ → A) (n : ℕ) → All holds (map f (range_with_len 0 n)) → (k : ℕ)
    → k < n
    → holds (f k)
All-at holds f n all k lt =
    subst holds (get_or-map-range_with_len f 0 n k k (f 0) lt (omega arith))
    (all k (f 0) (omega (arith, lt, length-map (range_with_len 0 n) f, length-range_with_len 0 n)))

-- what holds of each item with one default holds of all
All-from_default : {A : Type 0} (holds : A → Type 0) (xs : List A) (e : A)
    → ((k : ℕ) → k < length xs → holds (slice_index_or xs k e))
    → All holds xs
All-from_default holds xs e each k d lt = subst holds (get_or_default xs k e d lt) (each k lt)

-- what holds of all values of each item holds of all values
All-flat_map : {A B : Type 0} (holds : B → Type 0) (f : A → List B) (xs : List A) → All (λ x. All holds (f x)) xs
    → All holds (flat_map f xs)
All-flat_map holds f [] all = All-nil holds
All-flat_map holds f (x ∷ xs) all =
    All-append holds (f x) (flat_map f xs) (all 0 x (omega arith)) (All-flat_map holds f xs (λ k d lt. all (suc k) d (omega (arith, lt))))

-- the lists of vertices, edges and pipes among the parts
module _ (i : Synchronized) (rule : Rule) (all : All (Keeps i rule) (parts i)) where
  -- the parts that are vertices
  abbrev verts_before : List Part
  verts_before = map VertAt (range_with_len 0 (length i.verts))

  -- the parts that are edges
  abbrev edges_between : List Part
  edges_between = map EdgeAt (range_with_len 0 (length i.edges))

  -- the parts that are pipes
  abbrev pipes_behind : List Part
  pipes_behind = map PipeAt (range_with_len 0 (length i.pipes))

  -- each vertex, each edge and each pipe keeps the rule
  pub Keeps-vert : (k : ℕ) → k < length i.verts → Keeps i rule (VertAt k)
  Keeps-vert = All-at (Keeps i rule) VertAt (length i.verts)
      (All-first (Keeps i rule) verts_before edges_between (All-first (Keeps i rule) (verts_before ++ edges_between) pipes_behind all))

  -- and each edge does
  pub Keeps-edge : (k : ℕ) → k < length i.edges → Keeps i rule (EdgeAt k)
  Keeps-edge = All-at (Keeps i rule) EdgeAt (length i.edges)
      (All-second (Keeps i rule) verts_before edges_between (All-first (Keeps i rule) (verts_before ++ edges_between) pipes_behind all))

  -- and each pipe does
  pub Keeps-pipe : (k : ℕ) → k < length i.pipes → Keeps i rule (PipeAt k)
  Keeps-pipe = All-at (Keeps i rule) PipeAt (length i.pipes)
      (All-second (Keeps i rule) (verts_before ++ edges_between) pipes_behind all)

-- the next name is greater than the one directly before it
pub IsNextName-greater : (names : List ℕ) (k : ℕ) → k + 1 < length names → IsNextName names (k + 1)
    → slice_index names k < slice_index names (k + 1)
IsNextName-greater names k lt next =
    let before = next.1 k 0 (omega (arith, length-take-le (k + 1) names (omega (arith, lt)))) in
    omega (arith, before, get_or-take (k + 1) names k 0 (omega arith))

-- names of which each is the next rise and fit
pub AreNames-from : (names : List ℕ) → ((k : ℕ) → k < length names → IsNextName names k) → AreNames names
AreNames-from names next = record {
  rise = λ k lt. IsNextName-greater names k lt (next (k + 1) lt);
  fit = All-from_default (λ n. n < 2 ^ 63) names 0 (λ k lt. (next k lt).0);
}

-- the two ends of a pipe
abbrev ends : Pipe → List ℕ
ends p = p.a ∷ p.b ∷ []

-- the pipe at a place
abbrev pipe_at_place : List Pipe → ℕ → Pipe
pipe_at_place ps k = slice_index_or ps k record { name = 0; a = 0; b = 0; pairs = [] }

-- pipes whose ends differ and are none of those before are distinct in all their ends
module _
    (ps : List Pipe)
    (differ : (k : ℕ) → k < length ps → (pipe_at_place ps k).a ≢ (pipe_at_place ps k).b)
    (lacks_a : (k : ℕ) → k < length ps → Lacks (pipe_at_place ps k).a (flat_map ends (take k ps)))
    (lacks_b : (k : ℕ) → k < length ps → Lacks (pipe_at_place ps k).b (flat_map ends (take k ps))) where
  -- the ends of the first n pipes are distinct
  distinct_first : (n : ℕ) → n ≤ length ps → Distinct (flat_map ends (take n ps))
  distinct_first zero le = tt
  distinct_first (suc n) le =
      let lt : n < length ps = omega (arith, le) in
      let p = pipe_at_place ps n in
      subst (λ m. Distinct (flat_map ends (take m ps))) (let e : n + 1 ≡ suc n = omega arith in e)
      (subst Distinct (sym (ap (flat_map ends) (take_more ps n record { name = 0; a = 0; b = 0; pairs = [] } lt) ∙ flat_map-append ends (take n ps) (p ∷ [])))
      (Distinct-append (flat_map ends (take n ps)) (ends p) (distinct_first n (omega (arith, le)))
      ((λ e. differ n lt (sym e), tt), (tt, tt))
      (λ d has. (
        λ e. has_lacks d (flat_map ends (take n ps)) has (subst (λ x. Lacks x (flat_map ends (take n ps))) e (lacks_a n lt)),
        (λ e. has_lacks d (flat_map ends (take n ps)) has (subst (λ x. Lacks x (flat_map ends (take n ps))) e (lacks_b n lt)), tt),
      ))))

  -- the ends of all pipes are distinct
  pub Distinct-ends : Distinct (flat_map ends ps)
  Distinct-ends = subst (λ qs. Distinct (flat_map ends qs)) (take-length ps) (distinct_first (length ps) (omega arith))

-- where each part keeps each rule, the five rules hold
pub IsSynchronized-from_parts : (i : Synchronized) → ((rule : Rule) → All (Keeps i rule) (parts i)) → IsSynchronized i
IsSynchronized-from_parts i keep = record {
  verts_named = AreNames-from (vert_names i) (λ k lt. (Keeps-vert i Names (keep Names) k (omega (arith, lt, length-map i.verts (λ (v : Vert). v.name)))).0);
  edges_named = AreNames-from (edge_names i) (λ k lt. Keeps-edge i Names (keep Names) k (omega (arith, lt, length-map i.edges (λ (e : EdgeRow). e.name))));
  pipes_named = AreNames-from (pipe_names i) (λ k lt. Keeps-pipe i Names (keep Names) k (omega (arith, lt, length-map i.pipes (λ (p : Pipe). p.name))));
  cells_fit = All-flat_map (λ c. c < 2 ^ 63) (λ (v : Vert). cell_of v.kind) i.verts
      (All-from_default (λ (v : Vert). All (λ c. c < 2 ^ 63) (cell_of v.kind)) i.verts record { name = 0; kind = P } (λ k lt. (Keeps-vert i Names (keep Names) k lt).1));
  ends_live = All-from_default (λ (e : EdgeRow). Contains (vert_names i) e.a × Contains (vert_names i) e.b) i.edges record { name = 0; a = 0; b = 0 } (λ k lt. let h = Keeps-edge i Ends (keep Ends) k lt in (h.0, h.1));
  ends_differ = All-from_default (λ (e : EdgeRow). e.a ≢ e.b) i.edges record { name = 0; a = 0; b = 0 } (λ k lt. (Keeps-edge i Ends (keep Ends) k lt).2);
  lists_right = All-from_default (λ (v : Vert). IsRightKind (graph i) v.name v.kind) i.verts record { name = 0; kind = P } (Keeps-vert i Lists (keep Lists));
  ends_free = All-from_default (HasRightEnds i.verts) i.pipes record { name = 0; a = 0; b = 0; pairs = [] } (λ k lt. (Keeps-pipe i PipeEnds (keep PipeEnds) k lt).0);
  ends_apart = Distinct-ends i.pipes
      (λ k lt. (Keeps-pipe i PipeEnds (keep PipeEnds) k lt).0.differ)
      (λ k lt. (Keeps-pipe i PipeEnds (keep PipeEnds) k lt).1.0)
      (λ k lt. (Keeps-pipe i PipeEnds (keep PipeEnds) k lt).1.1);
  pairs_right = All-from_default (HasRightPairs (graph i)) i.pipes record { name = 0; a = 0; b = 0; pairs = [] } (Keeps-pipe i Partners (keep Partners));
}
