-- The rules of an instance by its parts.
use Rattle.std.proofs.Common.{◌≡◌, ◌≢◌, ◌||◌, ℕ, ◌<◌, List, [], ◌++◌, eqb, length, map, slice_index_or, sym, ap, ◌∙◌, subst, arith}
use Rattle.std.specs.List.{All, Contains, range_with_len}
use Rattle.std.specs.List.Sorted.{IsPermutation, IsStrictlyIncreasing}
use Rattle.std.proofs.lemmas.List.{get_or_default, length-map}
use Rattle.std.proofs.lemmas.List.Elements.{All-append}
use Rattle.std.proofs.lemmas.List.FromFn.{get_or-map-range_with_len, length-range_with_len}
use Rattle.std.proofs.lemmas.List.Kept.{IsStrictlyIncreasing-filter}
use Rattle.cp_conn.specs.NamedGraphs.{edges_at, ends_at}
use Rattle.cp_board.specs.declared.parts.Kind.{Kind}
use Rattle.cp_board.specs.declared.parts.Kind.TheVariants.{P, Q}
use Rattle.cp_board.specs.declared.parts.Vert.{Vert}
use Rattle.cp_board.specs.declared.parts.EdgeRow.{EdgeRow}
use Rattle.cp_board.specs.declared.parts.Pipe.{Pipe}
use Rattle.cp_board.specs.Instances.{Synchronized, IsRightKind, graph, names_of_verts, vert_names, edge_names, names_at}
use Rattle.cp_board.specs.Faults.{Part, VertAt, EdgeAt, PipeAt, parts, Rule, Names, Ends, Lists, PipeEnds, Partners, number, Keeps}
use Rattle.cp_board.proofs.NamedLists.{rises_from, distinct_from_rises}
use Rattle.cp_board.proofs.EdgesOfVertices.{names_passing}
use Rattle.cp_board.proofs.Rules.{AreNames-from, Keeps-vert, Keeps-edge}
use Rattle.cp_sync.specs.Tables.{AreAdjacent, vert_at}
use Rattle.cp_sync.specs.Checks.{AllBelow, AllRise, HasRightList, IsRightList, HasRightPartners, PairAt, pipe_row}
use Rattle.cp_sync.proofs.PipeTables.{found_vertex, same_vertex, vertex_live}

-- the parts of one kind keep the rule where each does at its place
All-places : (i : Synchronized) (rule : Rule) (f : ℕ → Part) (n : ℕ) → AllBelow (λ k. Keeps i rule (f k)) n
    → All (Keeps i rule) (map f (range_with_len 0 n))
All-places i rule f n each k d lt =
    let below : k < n = omega (arith, lt, length-map (range_with_len 0 n) f, length-range_with_len 0 n) in
    subst (Keeps i rule) (sym (get_or-map-range_with_len f 0 n k k d below (omega arith))) (each k below)

-- where each vertex, each edge and each pipe keeps the rule, all parts do
pub Keeps-all : (i : Synchronized) (rule : Rule) → AllBelow (λ k. Keeps i rule (VertAt k)) (length i.verts)
    → AllBelow (λ k. Keeps i rule (EdgeAt k)) (length i.edges)
    → AllBelow (λ k. Keeps i rule (PipeAt k)) (length i.pipes)
    → All (Keeps i rule) (parts i)
Keeps-all i rule verts edges pipes =
    All-append (Keeps i rule)
    (map VertAt (range_with_len 0 (length i.verts)) ++ map EdgeAt (range_with_len 0 (length i.edges)))
    (map PipeAt (range_with_len 0 (length i.pipes)))
    (All-append (Keeps i rule) (map VertAt (range_with_len 0 (length i.verts))) (map EdgeAt (range_with_len 0 (length i.edges)))
    (All-places i rule VertAt (length i.verts) verts)
    (All-places i rule EdgeAt (length i.edges) edges))
    (All-places i rule PipeAt (length i.pipes) pipes)

-- the rules before each rule
pub before_names : (i : Synchronized) → (other : Rule) → number other < 1 → All (Keeps i other) (parts i)
before_names i Names lt = absurd (omega (arith, lt))
before_names i Ends lt = absurd (omega (arith, lt))
before_names i Lists lt = absurd (omega (arith, lt))
before_names i PipeEnds lt = absurd (omega (arith, lt))
before_names i Partners lt = absurd (omega (arith, lt))

-- before the second rule stands the first alone
pub before_ends : (i : Synchronized) → All (Keeps i Names) (parts i)
    → (other : Rule) → number other < 2 → All (Keeps i other) (parts i)
before_ends i names Names lt = names
before_ends i names Ends lt = absurd (omega (arith, lt))
before_ends i names Lists lt = absurd (omega (arith, lt))
before_ends i names PipeEnds lt = absurd (omega (arith, lt))
before_ends i names Partners lt = absurd (omega (arith, lt))

-- before the third rule stand the first two
pub before_lists : (i : Synchronized) → All (Keeps i Names) (parts i) → All (Keeps i Ends) (parts i)
    → (other : Rule) → number other < 3 → All (Keeps i other) (parts i)
before_lists i names ends Names lt = names
before_lists i names ends Ends lt = ends
before_lists i names ends Lists lt = absurd (omega (arith, lt))
before_lists i names ends PipeEnds lt = absurd (omega (arith, lt))
before_lists i names ends Partners lt = absurd (omega (arith, lt))

-- before the fourth rule stand the first three
pub before_pipe_ends : (i : Synchronized) → All (Keeps i Names) (parts i) → All (Keeps i Ends) (parts i)
    → All (Keeps i Lists) (parts i)
    → (other : Rule) → number other < 4 → All (Keeps i other) (parts i)
before_pipe_ends i names ends lists Names lt = names
before_pipe_ends i names ends lists Ends lt = ends
before_pipe_ends i names ends lists Lists lt = lists
before_pipe_ends i names ends lists PipeEnds lt = absurd (omega (arith, lt))
before_pipe_ends i names ends lists Partners lt = absurd (omega (arith, lt))

-- before the fifth rule stand the first four
pub before_partners : (i : Synchronized) → All (Keeps i Names) (parts i) → All (Keeps i Ends) (parts i)
    → All (Keeps i Lists) (parts i) → All (Keeps i PipeEnds) (parts i)
    → (other : Rule) → number other < 5 → All (Keeps i other) (parts i)
before_partners i names ends lists pipe_ends Names lt = names
before_partners i names ends lists pipe_ends Ends lt = ends
before_partners i names ends lists pipe_ends Lists lt = lists
before_partners i names ends lists pipe_ends PipeEnds lt = pipe_ends
before_partners i names ends lists pipe_ends Partners lt = absurd (omega (arith, lt))

-- parts that keep each of the five rules keep any rule
pub all_rules : (i : Synchronized) → All (Keeps i Names) (parts i) → All (Keeps i Ends) (parts i)
    → All (Keeps i Lists) (parts i) → All (Keeps i PipeEnds) (parts i) → All (Keeps i Partners) (parts i)
    → (rule : Rule) → All (Keeps i rule) (parts i)
all_rules i names ends lists pipe_ends partners Names = names
all_rules i names ends lists pipe_ends partners Ends = ends
all_rules i names ends lists pipe_ends partners Lists = lists
all_rules i names ends lists pipe_ends partners PipeEnds = pipe_ends
all_rules i names ends lists pipe_ends partners Partners = partners

-- where the first rule is kept, names of vertices and of edges rise
pub verts_rise : (i : Synchronized) → All (Keeps i Names) (parts i) → IsStrictlyIncreasing (vert_names i)
verts_rise i keep = (AreNames-from (vert_names i) (λ k lt. (Keeps-vert i Names keep k (omega (arith, lt, length-map i.verts (λ (v : Vert). v.name)))).0)).rise

-- and the names of edges rise
pub edges_rise : (i : Synchronized) → All (Keeps i Names) (parts i) → IsStrictlyIncreasing (edge_names i)
edges_rise i keep = (AreNames-from (edge_names i) (λ k lt. Keeps-edge i Names keep k (omega (arith, lt, length-map i.edges (λ (e : EdgeRow). e.name))))).rise

-- where the second is kept, the ends of edges are live and differ
pub ends_live : (i : Synchronized) → All (Keeps i Ends) (parts i)
    → All (λ (e : EdgeRow). Contains (vert_names i) e.a × Contains (vert_names i) e.b) i.edges
ends_live i keep k d lt =
    let h = Keeps-edge i Ends keep k lt in
    subst (λ (e : EdgeRow). Contains (vert_names i) e.a × Contains (vert_names i) e.b) (get_or_default i.edges k record { name = 0; a = 0; b = 0 } d lt) (h.0, h.1)

-- and the two ends of each edge are different
pub ends_differ : (i : Synchronized) → All (Keeps i Ends) (parts i) → All (λ (e : EdgeRow). e.a ≢ e.b) i.edges
ends_differ i keep k d lt =
    let h = Keeps-edge i Ends keep k lt in
    subst (λ (e : EdgeRow). e.a ≢ e.b) (get_or_default i.edges k record { name = 0; a = 0; b = 0 } d lt) h.2

-- the edges of a vertex by their rows are those of the graph, and rise
pub names_at-graph : (i : Synchronized) (v : ℕ) → IsStrictlyIncreasing (edge_names i)
    → names_at i.edges v ≡ edges_at (graph i) v
names_at-graph i v up =
    sym (names_passing (λ x. eqb x.0 v || eqb x.1 v) i.edges (distinct_from_rises (λ e. e.name) i.edges (rises_from (edge_names i) up)))

-- the lists of a table of the edges of the vertices rise
pub lists_rise : (i : Synchronized) (at : List (List ℕ)) → IsStrictlyIncreasing (edge_names i)
    → AreAdjacent i.verts i.edges at
    → AllRise at
lists_rise i at up adjacent k lt =
    let v = (vert_at i.verts k).name in
    subst IsStrictlyIncreasing
    (sym (adjacent.each k (omega (arith, lt, adjacent.one_each)) ∙ names_at-graph i v up))
    (IsStrictlyIncreasing-filter (ends_at (graph i) v) (edge_names i) up)

module _ (i : Synchronized) (at : List (List ℕ)) (up : IsStrictlyIncreasing (edge_names i))
    (adjacent : AreAdjacent i.verts i.edges at) where
  -- the list of the vertex at a place holds its edges in the graph
  pub at-graph : (k : ℕ) → k < length i.verts → slice_index_or at k [] ≡ edges_at (graph i) (vert_at i.verts k).name
  at-graph k lt = adjacent.each k lt ∙ names_at-graph i (vert_at i.verts k).name up

  -- a kind that is right for the edges of its vertex is right in the graph
  kind_right : (v : ℕ) (kind : Kind) → IsRightList (edges_at (graph i) v) kind → IsRightKind (graph i) v kind
  kind_right v P h = tt
  kind_right v (Q cell psi) h = h

  -- and back
  right_kind : (v : ℕ) (kind : Kind) → IsRightKind (graph i) v kind → IsRightList (edges_at (graph i) v) kind
  right_kind v P h = tt
  right_kind v (Q cell psi) h = h

  -- the third rule by the lists of the table
  pub Lists-from : (k : ℕ) → k < length i.verts → HasRightList i.verts at k → Keeps i Lists (VertAt k)
  Lists-from k lt h = kind_right (vert_at i.verts k).name (vert_at i.verts k).kind
      (subst (λ es. IsRightList es (vert_at i.verts k).kind) (at-graph k lt) h)

  -- and back
  pub Lists-to : (k : ℕ) → k < length i.verts → Keeps i Lists (VertAt k) → HasRightList i.verts at k
  Lists-to k lt h = subst (λ es. IsRightList es (vert_at i.verts k).kind) (sym (at-graph k lt))
      (right_kind (vert_at i.verts k).name (vert_at i.verts k).kind h)

  -- the fifth rule by the lists of the table
  pub Partners-from : (k a b : ℕ) → a < length i.verts → b < length i.verts
      → (vert_at i.verts a).name ≡ (pipe_row i.pipes k).a
      → (vert_at i.verts b).name ≡ (pipe_row i.pipes k).b
      → HasRightPartners i.verts at i.pipes k
      → Keeps i Partners (PipeAt k)
  Partners-from k a b la lb is_a is_b h =
      let pairs = h a b la lb is_a is_b in
      record {
        first = pairs.0 ∙ at-graph a la ∙ ap (edges_at (graph i)) is_a;
        second = subst (λ es. IsPermutation es (map (λ x. x.1) (pipe_row i.pipes k).pairs)) (at-graph b lb ∙ ap (edges_at (graph i)) is_b) pairs.1;
      }

  -- and back
  pub Partners-to : (k : ℕ) → Keeps i Partners (PipeAt k) → HasRightPartners i.verts at i.pipes k
  Partners-to k keep a b la lb is_a is_b = (
    keep.first ∙ sym (at-graph a la ∙ ap (edges_at (graph i)) is_a),
    subst (λ es. IsPermutation es (map (λ x. x.1) (pipe_row i.pipes k).pairs)) (sym (at-graph b lb ∙ ap (edges_at (graph i)) is_b)) keep.second,
  )

-- the fourth rule makes the ends of pipes live
pub pipes_live : (i : Synchronized) → AllBelow (λ k. Keeps i PipeEnds (PipeAt k)) (length i.pipes)
    → All (λ (p : Pipe). Contains (vert_names i) p.a × Contains (vert_names i) p.b) i.pipes
pipes_live i keep k d lt =
    let right = (keep k lt).0 in
    let a = found_vertex i.verts (pipe_row i.pipes k).a P right.free_a in
    let b = found_vertex i.verts (pipe_row i.pipes k).b P right.free_b in
    subst (λ (p : Pipe). Contains (vert_names i) p.a × Contains (vert_names i) p.b) (get_or_default i.pipes k record { name = 0; a = 0; b = 0; pairs = [] } d lt)
    (vertex_live i.verts a.0 (pipe_row i.pipes k).a a.1 a.2, vertex_live i.verts b.0 (pipe_row i.pipes k).b b.1 b.2)

-- the fifth rule at a pipe whose ends are P-vertices
pub Partners-at : (i : Synchronized) (at : List (List ℕ)) (k : ℕ) → IsStrictlyIncreasing (edge_names i)
    → AreAdjacent i.verts i.edges at
    → Keeps i PipeEnds (PipeAt k)
    → HasRightPartners i.verts at i.pipes k
    → Keeps i Partners (PipeAt k)
Partners-at i at k up adjacent keep right =
    let a = found_vertex i.verts (pipe_row i.pipes k).a P keep.0.free_a in
    let b = found_vertex i.verts (pipe_row i.pipes k).b P keep.0.free_b in
    Partners-from i at up adjacent k a.0 b.0 a.1 b.1 a.2 b.2 right

-- pairs that are right at one place of each end are so at all
pub right_partners : (verts : List Vert) (at : List (List ℕ)) (pipes : List Pipe) (k a b : ℕ)
    → IsStrictlyIncreasing (names_of_verts verts)
    → a < length verts
    → b < length verts
    → (vert_at verts a).name ≡ (pipe_row pipes k).a
    → (vert_at verts b).name ≡ (pipe_row pipes k).b
    → PairAt at (pipe_row pipes k).pairs a b
    → HasRightPartners verts at pipes k
right_partners verts at pipes k a b up la lb is_a is_b right x y lx ly is_x is_y =
    subst (λ m. PairAt at (pipe_row pipes k).pairs m y) (same_vertex verts a x up la lx (is_a ∙ sym is_x))
    (subst (λ m. PairAt at (pipe_row pipes k).pairs a m) (same_vertex verts b y up lb ly (is_b ∙ sym is_y)) right)
