-- Two vertices with four edges between them: a bond, and what the steps at poles make of it.
use Rattle.std.proofs.Common.{◌≡◌, ◌≢◌, ℕ, zero, suc, ◌+◌, ◌-◌, ◌<◌, Bool, true, not, ◌&&◌, eqb, ltb, List, [], ◌∷◌, sym, refl, ◌∙◌, subst, get_or, inl, arith}
use Rattle.std.specs.Prelude.{slice_index}
use Rattle.std.proofs.lemmas.List.FromFn.{get_or-range_with_len, length-range_with_len}
use Rattle.std.specs.Fn.{iterate}
use Rattle.std.specs.List.{Contains, list_all, range_with_len}
use Rattle.std.proofs.lemmas.Bool.{and_parts, eqb-true, eqb-false, ltb-true, not-true}
use Rattle.std.proofs.lemmas.List.Elements.{All-contains}
use Rattle.cp_board.specs.declared.parts.Pipe.{Pipe}
use Rattle.cp_board.specs.declared.steps.Step.TheVariants.{FreePole, FusePoles, Toroidal}
use Rattle.cp_board.specs.declared.steps.Reason.TheVariants.{CyclesDiffer}
use Rattle.cp_board.specs.Names.{has}
use Rattle.cp_conn.specs.NamedGraphs.{NamedGraph, edges_at, far}
use Rattle.cp_conn.specs.Bonds.{IsBond, IsAlong}
use Rattle.cp_board.specs.Instances.{Synchronized, graph, edges_of}
use Rattle.cp_board.specs.Solutions.{second_of}
use Rattle.cp_board.specs.Steps.{Allowed, IsTurning}
use Rattle.cp_orbits.specs.Orbits.{CycleLength}
use Rattle.cp_board.specs.Effects.{After}
use Rattle.cp_board.specs.Reasons.{IsBlamed}
use Rattle.cp_board.specs.Rows.{vert, edge, pipe}
use Rattle.cp_board.proofs.ListTests.{All-from_test, Contains-from_has}
use Rattle.cp_board.proofs.WorkedRun.{is_up_to, is_up_to_tells}

-- with the pipe 0
abbrev bond : List (ℕ × ℕ) → Synchronized
bond pairs = record { verts = vert 0 ∷ vert 1 ∷ []; edges = edge 0 0 1 ∷ edge 1 0 1 ∷ edge 2 0 1 ∷ edge 3 0 1 ∷ []; pipes = pipe 0 0 1 pairs ∷ [] }

-- all edges of u end at v
abbrev all_far : NamedGraph → ℕ → ℕ → Bool
all_far g u v = list_all (λ e. eqb (far g u e) v) (edges_at g u)

-- the far end of each edge of u is v where all end there
far_is : (g : NamedGraph) (u v : ℕ) → all_far g u v ≡ true → (e : ℕ) → Contains (edges_at g u) e → far g u e ≡ v
far_is g u v t e c = All-contains (λ e. far g u e ≡ v) (edges_at g u) e (All-from_test (λ e. far g u e ≡ v) (λ e. eqb (far g u e) v) (λ e h. eqb-true (far g u e) v h) (edges_at g u) t) c

-- two vertices are a bond where all edges of the one end at the other
parallel_bond : (g : NamedGraph) (u v : ℕ) → u ≢ v → all_far g u v ≡ true → IsBond g u v
parallel_bond g u v ne t = record {
  differ = ne;
  no_loop = λ e c h. ne (sym h ∙ far_is g u v t e c);
  one_each = λ e f c d away joined. absurd (away (far_is g u v t e c));
  reach = λ e c away. absurd (away (far_is g u v t e c));
}

-- and along this bond each edge leads to itself
parallel_along : (g : NamedGraph) (u v : ℕ) → all_far g u v ≡ true → IsAlong g u v (λ e. e)
parallel_along g u v t e c = inl (far_is g u v t e c, refl)

-- k is the length of the cycle of x
abbrev has_length : (ℕ → ℕ) → ℕ → ℕ → Bool
has_length m k x = ltb 0 k && (eqb (iterate m k x) x && list_all (λ n. not (eqb (iterate m (n + 1) x) x)) (range_with_len 0 (k - 1)))

-- a number that passes the test is the length of the cycle
has_length_tells : (m : ℕ → ℕ) (k x : ℕ) → has_length m k x ≡ true → CycleLength m x k
has_length_tells m k x t =
    let h = and_parts (ltb 0 k) (eqb (iterate m k x) x && list_all (λ n. not (eqb (iterate m (n + 1) x) x)) (range_with_len 0 (k - 1))) t in
    let h2 = and_parts (eqb (iterate m k x) x) (list_all (λ n. not (eqb (iterate m (n + 1) x) x)) (range_with_len 0 (k - 1))) h.1 in
    let each = All-from_test (λ n. iterate m (n + 1) x ≢ x) (λ n. not (eqb (iterate m (n + 1) x) x)) (λ n e. eqb-false (iterate m (n + 1) x) x (not-true (eqb (iterate m (n + 1) x) x) e)) (range_with_len 0 (k - 1)) h2.1 in
    record {
      some = ltb-true 0 k h.0;
      returns = eqb-true (iterate m k x) x h2.0;
      first = λ n pos lt. subst (λ z. iterate m z x ≢ x) (let e : get_or (range_with_len 0 (k - 1)) (n - 1) 0 + 1 ≡ n = omega (arith, get_or-range_with_len 0 (k - 1) (n - 1) 0 (omega arith)) in e) (each (n - 1) 0 (omega (arith, length-range_with_len 0 (k - 1))));
    }

-- the pairs turn each edge into an edge of the same end
turning : (i : Synchronized) (p : Pipe) → all_far (graph i) p.a p.b ≡ true
    → list_all (λ x. has (edges_of i p.a) (second_of p x)) (edges_of i p.a) ≡ true → IsTurning i p (second_of p)
turning i p t h x c =
    let in_a = All-contains (λ x. Contains (edges_of i p.a) (second_of p x)) (edges_of i p.a) x (All-from_test (λ x. Contains (edges_of i p.a) (second_of p x)) (λ x. has (edges_of i p.a) (second_of p x)) (λ x e. Contains-from_has (edges_of i p.a) (second_of p x) e) (edges_of i p.a) h) c in
    (in_a, inl (far_is (graph i) p.a p.b t (second_of p x) in_a, refl))

-- the pairs exchange the edges 0 and 1, and the edges 2 and 3
abbrev even : Pipe
even = pipe 0 0 1 ((0, 1) ∷ (1, 0) ∷ (2, 3) ∷ (3, 2) ∷ [])

-- the bond with this pipe
abbrev even_bond : Synchronized
even_bond = bond even.pairs

-- cycles of lengths 2 and 2
even_allowed : Allowed even_bond (Toroidal 0)
even_allowed = (
  even,
  refl,
  record {
    bond = parallel_bond (graph even_bond) 0 1 (eqb-false 0 1 refl) refl;
    turning = second_of even;
    is_turning = turning even_bond even refl refl;
    size = 2;
    one_length = λ x c. All-contains (λ x. CycleLength (second_of even) x 2) (edges_of even_bond 0) x (All-from_test (λ x. CycleLength (second_of even) x 2) (has_length (second_of even) 2) (has_length_tells (second_of even) 2) (edges_of even_bond 0) refl) c;
  },
)

-- Toroidal takes the pipe away and keeps all vertices and edges
even_after : After even_bond (Toroidal 0) record { verts = even_bond.verts; edges = even_bond.edges; pipes = [] }
even_after = (even, refl, record { verts = refl; edges = refl; pipes = refl })

-- cycles of lengths 1 and 3
abbrev odd : Pipe
odd = pipe 0 0 1 ((0, 0) ∷ (1, 2) ∷ (2, 3) ∷ (3, 1) ∷ [])

-- the bond with this pipe
abbrev odd_bond : Synchronized
odd_bond = bond odd.pairs

-- its pipe is to blame, with two cycles of the lengths 1 and 3
odd_blamed : IsBlamed odd_bond (CyclesDiffer 1 3)
odd_blamed = (
  odd,
  record { live = refl; others = All-from_test _ (is_up_to odd) (is_up_to_tells odd) odd_bond.pipes refl },
  parallel_bond (graph odd_bond) 0 1 (eqb-false 0 1 refl) refl,
  record {
    turning = second_of odd;
    is_turning = turning odd_bond odd refl refl;
    place = 1;
    within = omega arith;
    first = has_length_tells (second_of odd) 1 0 refl;
    before = below_one;
    other = has_length_tells (second_of odd) 3 1 refl;
    differ = eqb-false 1 3 refl;
  },
)
  where
    below_one : (k : ℕ) → k < 1 → CycleLength (second_of odd) (slice_index (edges_of odd_bond 0) k) 1
    below_one zero lt = has_length_tells (second_of odd) 1 0 refl
    below_one (suc k) lt = absurd (omega arith)

-- a second bond of vertices 2 and 3
abbrev four_verts : List (ℕ × ℕ) → Synchronized
four_verts pairs = record {
  verts = vert 0 ∷ vert 1 ∷ vert 2 ∷ vert 3 ∷ [];
  edges = edge 0 0 1 ∷ edge 1 0 1 ∷ edge 2 0 1 ∷ edge 3 0 1 ∷ edge 4 2 3 ∷ edge 5 2 3 ∷ edge 6 2 3 ∷ edge 7 2 3 ∷ [];
  pipes = pipe 0 0 2 pairs ∷ [];
}

-- the pairs of the edges of the first bond with those of the second, in order
abbrev across : List (ℕ × ℕ)
across = (0, 4) ∷ (1, 5) ∷ (2, 6) ∷ (3, 7) ∷ []

-- the two bonds with one pipe, from 0 to 2
abbrev one_pipe : Synchronized
one_pipe = four_verts across

-- FreePole is allowed at this pipe, since its pole 1 is the end of no pipe
one_allowed : Allowed one_pipe (FreePole 0 0 1)
one_allowed = (pipe 0 0 2 across, refl, record { end = inl refl; bond = parallel_bond (graph one_pipe) 0 1 (eqb-false 0 1 refl) refl; free = refl; unmatched = refl })

-- it takes the pipe away and keeps all vertices and edges
one_after : After one_pipe (FreePole 0 0 1) record { verts = one_pipe.verts; edges = one_pipe.edges; pipes = [] }
one_after = (pipe 0 0 2 across, refl, record { verts = refl; edges = refl; pipes = refl })

-- the two bonds with two pipes, from 0 to 2 and from 1 to 3
abbrev two_pipes : Synchronized
two_pipes = record { verts = one_pipe.verts; edges = one_pipe.edges; pipes = pipe 0 0 2 across ∷ pipe 1 1 3 across ∷ [] }

-- FusePoles is allowed at the first pipe, since its pole 1 is an end of the other
two_allowed : Allowed two_pipes (FusePoles 0 0 1)
two_allowed = (
  pipe 0 0 2 across,
  refl,
  (
    pipe 1 1 3 across,
    record {
      end = inl refl;
      bond = parallel_bond (graph two_pipes) 0 1 (eqb-false 0 1 refl) refl;
      matched = refl;
      another = eqb-false 1 0 refl;
      same = refl;
    },
  ),
)

-- the new pipe is 2 from 2 to 3
two_after : After two_pipes
    (FusePoles 0 0 1) record {
      verts = one_pipe.verts;
      edges = one_pipe.edges;
      pipes = pipe 2 2 3
          ((4, 4) ∷ (5, 5) ∷ (6, 6) ∷ (7, 7) ∷ []) ∷ [];
    }
two_after = (
  pipe 0 0 2 across,
  refl,
  (
    pipe 1 1 3 across,
    refl,
    record {
      along = λ e. e;
      is_along = parallel_along (graph two_pipes) 0 1 refl;
      name = 2;
      new_name = refl;
      verts = refl;
      edges = refl;
      pipes = refl;
    },
  ),
)
