-- Tests that decide whether lists make a rotation system of Euler genus zero, and solutions of the rows.
use Rattle.std.proofs.Common.{◌≡◌, ℕ, ◌*◌, ◌<◌, Bool, true, false, not, ◌&&◌, ◌||◌, eqb, ltb, List, [], ◌∷◌, length, get_or, sym, refl, ◌∙◌, subst, ⊎_elim, arith}
use Rattle.std.specs.Prelude.{◌==◌, slice_index}
use Rattle.std.specs.List.{All, list_all, range_with_len}
use Rattle.std.proofs.lemmas.Bool.{and_parts, or_cases, eqb-true, ltb-true, not-true, both_ways}
use Rattle.std.proofs.lemmas.List.FromFn.{get_or-range_with_len, length-range_with_len}
use Rattle.std.proofs.lemmas.List.Elements.{All-contains, All-nil}
use Rattle.std.proofs.lemmas.List.{append-nil}
use Rattle.cp_lists.specs.Count.{Exactly}
use Rattle.cp_lists.specs.CyclicLists.{Has}
use Rattle.cp_lists.proofs.DistinctLists.{Exactly-from, Has-Contains}
use Rattle.cp_lists.specs.Turns.{IsTurn}
use Rattle.cp_rot.specs.Systems.{System, IsRotation, darts, edges, list_of}
use Rattle.cp_rot.proofs.Functions.{HasGenusZero-from, IsZero}
use Rattle.cp_board.specs.Names.{has, rising}
use Rattle.cp_conn.specs.NamedGraphs.{NamedGraph, edges_at}
use Rattle.cp_board.specs.Rotations.{ArrangesEdges, IsRotationOf, system}
use Rattle.cp_board.specs.Instances.{Synchronized, graph, vert_names}
use Rattle.cp_board.specs.Solutions.{Solves, IsSolution, IsInDirection, IsMirror, second_of, list_in, directed}
use Rattle.cp_board.specs.Rows.{edge, fixed, last}
use Rattle.cp_board.specs.declared.parts.Kind.{Kind}
use Rattle.cp_board.specs.declared.parts.Kind.TheVariants.{P, Q}
use Rattle.cp_board.proofs.NamedLists.{arranged}
use Rattle.cp_board.proofs.ListTests.{All-from_test, Contains-from_has, distinct, Distinct-from_test, same, same_lists}

-- what a test tells of each number below n
pub below_from_test : (holds : ℕ → Type 0) (t : ℕ → Bool) → ((x : ℕ) → t x ≡ true → holds x) → (n : ℕ)
    → list_all t (range_with_len 0 n) ≡ true → (x : ℕ) → x < n → holds x
below_from_test holds t tells n e x lt =
    subst holds (let at : get_or (range_with_len 0 n) x 0 ≡ x = omega (arith, get_or-range_with_len 0 n x 0 lt) in at)
    (All-from_test holds t tells (range_with_len 0 n) e x 0 (omega (arith, length-range_with_len 0 n)))

-- the test that a list has each number below n that passes p once, and nothing else
abbrev pub exact : ℕ → (ℕ → Bool) → List ℕ → Bool
exact n p xs = distinct xs && (list_all (λ x. ltb x n && p x) xs && list_all (λ x. not (p x) || has xs x) (range_with_len 0 n))

-- a list that passes the test has exactly these numbers
pub Exactly-from_test : (n : ℕ) (p : ℕ → Bool) (xs : List ℕ) → exact n p xs ≡ true → Exactly n p xs
Exactly-from_test n p xs t =
    let h = and_parts (distinct xs) (list_all (λ x. ltb x n && p x) xs && list_all (λ x. not (p x) || has xs x) (range_with_len 0 n)) t in
    let k = and_parts (list_all (λ x. ltb x n && p x) xs) (list_all (λ x. not (p x) || has xs x) (range_with_len 0 n)) h.1 in
    let passes = All-from_test (λ x. (x < n) × (p x ≡ true)) (λ x. ltb x n && p x) (λ x e. let q = and_parts (ltb x n) (p x) e in (ltb-true x n q.0, q.1)) xs k.0 in
    Exactly-from n p xs (Distinct-from_test xs h.0)
    (λ x d. All-contains (λ x. (x < n) × (p x ≡ true)) xs x passes ((Has-Contains x xs).0 d))
    (below_from_test (λ x. p x ≡ true → Has x xs) (λ x. not (p x) || has xs x)
    (λ x e y. ⊎_elim (λ no. absurd (both_ways (p x) (not-true (p x) no) y)) (λ yes. (Has-Contains x xs).1 (Contains-from_has xs x yes)) (or_cases (not (p x)) (has xs x) e)) n k.1)

-- the tests that a system of lists is a rotation system
abbrev pub is_rotation : System → List Bool
is_rotation r =
    eqb (darts r) (2 * edges r)
    ∷ list_all (λ d. ltb (slice_index r.at d) r.vertices) (range_with_len 0 (darts r))
    ∷ eqb (length r.lists) r.vertices
    ∷ list_all (λ v. exact (length r.at) (λ d. slice_index r.at d == v) (list_of r v)) (range_with_len 0 r.vertices) ∷ []

-- a system that passes these tests is a rotation system
pub IsRotation-from_tests : (r : System) → list_all (λ b. b) (is_rotation r) ≡ true → IsRotation r
IsRotation-from_tests r t =
    let t1 = and_parts _ _ t in
    let t2 = and_parts _ _ t1.1 in
    let t3 = and_parts _ _ t2.1 in
    let t4 = and_parts _ _ t3.1 in
    record {
      paired = eqb-true (darts r) (2 * edges r) t1.0;
      placed = below_from_test (λ d. slice_index r.at d < r.vertices) (λ d. ltb (slice_index r.at d) r.vertices) (λ d e. ltb-true (slice_index r.at d) r.vertices e) (darts r) t2.0;
      listed = eqb-true (length r.lists) r.vertices t3.0;
      arranged = below_from_test (λ v. Exactly (length r.at) (λ d. slice_index r.at d == v) (list_of r v)) (λ v. exact (length r.at) (λ d. slice_index r.at d == v) (list_of r v)) (λ v e. Exactly-from_test (length r.at) (λ d. slice_index r.at d == v) (list_of r v) e) r.vertices t4.0;
    }

-- the lists arrange the edges of their vertices
pub arranged_from_test : (g : NamedGraph) (s : ℕ → List ℕ)
    → list_all (λ v. same (rising (s v)) (edges_at g v)) g.verts ≡ true → All (λ v. ArrangesEdges g v (s v)) g.verts
arranged_from_test g s t = All-from_test (λ v. ArrangesEdges g v (s v)) (λ v. same (rising (s v)) (edges_at g v)) (λ v e. arranged (edges_at g v) (s v) (same_lists (rising (s v)) (edges_at g v) e)) g.verts t

-- two vertices with three edges between them, in one cell, whose lists are reverse to each other
abbrev dipole : Synchronized
dipole = record { verts = fixed 0 0 (0 ∷ 1 ∷ 2 ∷ []) ∷ fixed 1 0 (0 ∷ 2 ∷ 1 ∷ []) ∷ []; edges = edge 0 0 1 ∷ edge 1 0 1 ∷ edge 2 0 1 ∷ []; pipes = [] }

-- the list of each vertex of the dipole is its psi
abbrev dipole_lists : ℕ → List ℕ
dipole_lists = list_in ((0, 0 ∷ 1 ∷ 2 ∷ []) ∷ (1, 0 ∷ 2 ∷ 1 ∷ []) ∷ [])

-- these lists are a rotation of the dipole of genus zero
dipole_rotation : IsRotationOf (graph dipole) dipole_lists
dipole_rotation = record {
  arranged = arranged_from_test (graph dipole) dipole_lists refl;
  flat = HasGenusZero-from (system (graph dipole) dipole_lists) (IsRotation-from_tests (system (graph dipole) dipole_lists) refl) refl;
}

-- a list is what the kind of its vertex asks, with no turn
abbrev pub in_direction : (ℕ → Bool) → List ℕ → Kind → Bool
in_direction back xs P = true
in_direction back xs (Q cell psi) = same xs (directed (back cell) psi)

-- equal lists are turns of each other
not_turned : (xs ys : List ℕ) → same ys xs ≡ true → IsTurn xs ys
not_turned xs ys t = (0, omega arith, same_lists ys xs t ∙ sym (append-nil xs))

-- a list that passes the test has the psi of its vertex in the direction of the cell
in_direction_tells : (back : ℕ → Bool) (xs : List ℕ) (k : Kind) → in_direction back xs k ≡ true
    → IsInDirection back xs k
in_direction_tells back xs P t = tt
in_direction_tells back xs (Q cell psi) t = not_turned (directed (back cell) psi) xs t

-- lists that pass these tests solve an instance without pipes
pub Solves-from_tests : (i : Synchronized) (s : ℕ → List ℕ) (back : ℕ → Bool) → i.pipes ≡ []
    → list_all (λ v. same (rising (s v)) (edges_at (graph i) v)) (vert_names i) ≡ true
    → list_all (λ b. b) (is_rotation (system (graph i) s)) ≡ true → IsZero (system (graph i) s)
    → list_all (λ v. in_direction back (s v.name) v.kind) i.verts ≡ true → Solves i s
Solves-from_tests i s back no_pipe arr rot zero dir = record {
  rotation = record { arranged = arranged_from_test (graph i) s arr; flat = HasGenusZero-from (system (graph i) s) (IsRotation-from_tests (system (graph i) s) rot) zero };
  mirrored = subst (All (λ p. IsMirror (second_of p) (s p.a) (s p.b))) (sym no_pipe) (All-nil (λ p. IsMirror (second_of p) (s p.a) (s p.b)));
  back = back;
  in_direction = All-from_test (λ v. IsInDirection back (s v.name) v.kind) (λ v. in_direction back (s v.name) v.kind) (λ v e. in_direction_tells back (s v.name) v.kind e) i.verts dir;
}

-- these lists solve the dipole
dipole_solved : Solves dipole dipole_lists
dipole_solved = Solves-from_tests dipole dipole_lists (λ c. false) refl refl refl refl refl

-- a list for each vertex of the last instance of the worked run
abbrev last_lists : List (ℕ × List ℕ)
last_lists =
    (0, 7 ∷ 3 ∷ 1 ∷ []) ∷ (1, 5 ∷ []) ∷ (3, 4 ∷ 2 ∷ 0 ∷ []) ∷ (4, 6 ∷ []) ∷ (6, 1 ∷ 3 ∷ 7 ∷ []) ∷ (7, 5 ∷ []) ∷ (8, 8 ∷ 11 ∷ 9 ∷ [])
    ∷ (9, 10 ∷ []) ∷ (10, 0 ∷ 2 ∷ 4 ∷ []) ∷ (11, 6 ∷ []) ∷ (12, 8 ∷ 10 ∷ 9 ∷ []) ∷ (13, 11 ∷ []) ∷ []

-- these lists are a solution of it
last_solved : IsSolution last last_lists
last_solved = record { names = refl; solves = Solves-from_tests last (list_in last_lists) (λ c. false) refl refl refl refl refl }
