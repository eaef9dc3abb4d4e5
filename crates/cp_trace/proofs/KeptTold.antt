-- An instance that keeps the five rules has right lines.
use Rattle.std.proofs.Common.{◌≡◌, ℕ, ◌<◌, ◌≤◌, List, [], ◌∷◌, ◌++◌, map, take, sym, subst, arith}
use Rattle.std.specs.Prelude.{Some}
use Rattle.std.specs.List.{All, AllByRecursion, Contains, flat_map}
use Rattle.std.specs.List.Sorted.{IsPermutation, IsStrictlyIncreasing}
use Rattle.std.proofs.lemmas.List.Elements.{All-filter, All-from_recursion, recursion_from_All}
use Rattle.std.proofs.lemmas.List.Kept.{IsStrictlyIncreasing-filter}
use Rattle.std.proofs.lemmas.List.Sorted.{All-permutation}
use Rattle.cp_conn.specs.NamedGraphs.{edges_at, ends_at}
use Rattle.cp_lists.proofs.DistinctLists.{Has-Contains}
use Rattle.cp_board.specs.declared.parts.Kind.{Kind}
use Rattle.cp_board.specs.declared.parts.Kind.TheVariants.{P, Q}
use Rattle.cp_board.specs.declared.parts.Vert.{Vert}
use Rattle.cp_board.specs.declared.parts.EdgeRow.{EdgeRow}
use Rattle.cp_board.specs.declared.parts.Pipe.{Pipe}
use Rattle.cp_board.specs.Instances.{HasRightEnds, HasRightPairs, IsRightKind, Synchronized, IsSynchronized, cell_of, edge_names, graph, kind_in, names_of_edges, names_of_verts, vert_names}
use Rattle.cp_board.specs.Rotations.{ArrangesEdges}
use Rattle.cp_trace.specs.Faults.{AreSmall, HasLeastFirst, IsNumber, IsPair, IsToldEdge, IsToldInstance, IsToldKind, IsToldPipe, IsToldVert}
use Rattle.cp_trace.proofs.NamedParts.{kind_named}
use Rattle.cp_trace.proofs.ToldLists.{all_behind, rest_rises}

-- one of some numbers that can be told
number_in : (xs : List ℕ) (x : ℕ) → All IsNumber xs → Contains xs x → IsNumber x
number_in xs x all c = subst IsNumber c.2 (all c.0 x c.1)

-- what is at least a number is at least a less one
weaker : (y z : ℕ) (zs : List ℕ) → y ≤ z → AllByRecursion (λ w. z ≤ w) zs → AllByRecursion (λ w. y ≤ w) zs
weaker y z [] le all = tt
weaker y z (w ∷ zs) le all = (omega (arith, le, all.0), weaker y z zs le all.1)

-- the first of rising numbers is the least
least_of_rising : (y : ℕ) (ys : List ℕ) → IsStrictlyIncreasing (y ∷ ys) → AllByRecursion (λ w. y ≤ w) ys
least_of_rising y [] up = tt
least_of_rising y (z ∷ zs) up =
    let less : y < z = up 0 (omega arith) in
    (omega (arith, less), weaker y z zs (omega (arith, less)) (least_of_rising z zs (rest_rises y (z ∷ zs) up)))

-- numbers that are arranged from the least one on
least_first : (es psi : List ℕ) → IsPermutation es psi → take 1 psi ≡ take 1 es → IsStrictlyIncreasing es
    → HasLeastFirst psi
least_first es [] moved first up = tt
least_first [] (x ∷ psi) moved first up = absurd cc
least_first (y ∷ ys) (x ∷ psi) moved first up =
    let same : y ≡ x = cc in
    let all : All (λ w. y ≤ w) (y ∷ ys) = All-from_recursion (λ w. y ≤ w) (y ∷ ys)
    (omega arith, least_of_rising y ys up) in
    let moved_all = recursion_from_All (λ w. y ≤ w) (x ∷ psi) (All-permutation (λ w. y ≤ w) (y ∷ ys) (x ∷ psi) moved
    all) in
    subst (λ n. AllByRecursion (λ w. n ≤ w) psi) same moved_all.1

-- pairs of numbers that can be told
pairs_small : (ps : List (ℕ × ℕ)) → AreSmall (map (λ x. x.0) ps) → AreSmall (map (λ x. x.1) ps)
    → AllByRecursion IsPair ps
pairs_small [] firsts seconds = tt
pairs_small (p ∷ ps) firsts seconds = ((firsts.0, seconds.0), pairs_small ps firsts.1 seconds.1)

module _ (i : Synchronized) (is : IsSynchronized i) where
  -- the edges of a vertex are told
  small_edges : (v : ℕ) → All IsNumber (edges_at (graph i) v)
  small_edges v = All-filter (ends_at (graph i) v) IsNumber (edge_names i) is.edges_named.fit

  -- they rise
  edges_rise : (v : ℕ) → IsStrictlyIncreasing (edges_at (graph i) v)
  edges_rise v = IsStrictlyIncreasing-filter (ends_at (graph i) v) (edge_names i) is.edges_named.rise

  -- each arrangement of them is told
  arranged_small : (v : ℕ) (xs : List ℕ) → ArrangesEdges (graph i) v xs → AreSmall xs
  arranged_small v xs moved =
      recursion_from_All IsNumber xs (All-permutation IsNumber (edges_at (graph i) v) xs moved (small_edges v))

  -- a right kind is told
  kind_told : (v : ℕ) (k : Kind) (rest : List ℕ) → AreSmall (cell_of k ++ rest) → IsRightKind (graph i) v k
      → IsToldKind k
  kind_told v P rest cells right = tt
  kind_told v (Q cell psi) rest cells right =
      (cells.0, arranged_small v psi right.0, least_first (edges_at (graph i) v) psi right.0 right.1 (edges_rise v))

  -- right vertices are told
  verts_told : (vs : List Vert) → AreSmall (names_of_verts vs) → AreSmall (flat_map (λ v. cell_of v.kind) vs)
      → AllByRecursion (λ v. IsRightKind (graph i) v.name v.kind) vs → AllByRecursion IsToldVert vs
  verts_told [] names cells right = tt
  verts_told (v ∷ vs) names cells right =
      let rest : List ℕ = flat_map (λ (x : Vert). cell_of x.kind) vs in (
        record { name = names.0; kind = kind_told v.name v.kind rest cells right.0 },
        verts_told vs names.1 (all_behind IsNumber (cell_of v.kind) rest cells) right.1,
      )

  -- right edges are told
  edges_told : (es : List EdgeRow) → AreSmall (names_of_edges es)
      → AllByRecursion (λ e. Contains (vert_names i) e.a × Contains (vert_names i) e.b) es
      → AllByRecursion IsToldEdge es
  edges_told [] names live = tt
  edges_told (e ∷ es) names live = (
    record {
      name = names.0;
      a = number_in (vert_names i) e.a is.verts_named.fit live.0.0;
      b = number_in (vert_names i) e.b is.verts_named.fit live.0.1;
    },
    edges_told es names.1 live.1,
  )

  -- an end of a pipe is told
  end_told : (v : ℕ) (k : Kind) → kind_in i.verts v ≡ Some k → IsNumber v
  end_told v k here =
      number_in (vert_names i) v is.verts_named.fit ((Has-Contains v (vert_names i)).0 (kind_named i.verts v k here))

  -- right pipes are told
  pipes_told : (ps : List Pipe) → AreSmall (map (λ p. p.name) ps) → AllByRecursion (HasRightEnds i.verts) ps
      → AllByRecursion (HasRightPairs (graph i)) ps → AllByRecursion IsToldPipe ps
  pipes_told [] names ends pairs = tt
  pipes_told (p ∷ ps) names ends pairs =
      let firsts : AreSmall (map (λ x. x.0) p.pairs) = subst AreSmall (sym pairs.0.first)
      (recursion_from_All IsNumber (edges_at (graph i) p.a) (small_edges p.a)) in
      let up : IsStrictlyIncreasing (map (λ x. x.0) p.pairs) = subst IsStrictlyIncreasing (sym pairs.0.first)
      (edges_rise p.a) in (
        record {
          name = names.0;
          a = end_told p.a P ends.0.free_a;
          b = end_told p.b P ends.0.free_b;
          pairs = (pairs_small p.pairs firsts (arranged_small p.b (map (λ x. x.1) p.pairs) pairs.0.second), up);
        },
        pipes_told ps names.1 ends.1 pairs.1,
      )

  -- an instance that keeps the rules has right lines
  pub kept_told : IsToldInstance i
  kept_told = record {
    verts = record {
      rise = is.verts_named.rise;
      told = verts_told i.verts (recursion_from_All IsNumber (vert_names i) is.verts_named.fit)
          (recursion_from_All IsNumber (flat_map (λ v. cell_of v.kind) i.verts) is.cells_fit)
          (recursion_from_All (λ v. IsRightKind (graph i) v.name v.kind) i.verts is.lists_right);
    };
    edges = record {
      rise = is.edges_named.rise;
      told = edges_told i.edges (recursion_from_All IsNumber (edge_names i) is.edges_named.fit)
          (recursion_from_All (λ e. Contains (vert_names i) e.a × Contains (vert_names i) e.b) i.edges is.ends_live);
    };
    pipes = record {
      rise = is.pipes_named.rise;
      told = pipes_told i.pipes (recursion_from_All IsNumber (map (λ p. p.name) i.pipes) is.pipes_named.fit)
          (recursion_from_All (HasRightEnds i.verts) i.pipes is.ends_free)
          (recursion_from_All (HasRightPairs (graph i)) i.pipes is.pairs_right);
    };
  }
