-- Tests that decide the rules of an instance, parts at a vertex and cut vertices.
use Rattle.std.proofs.Common.{◌≡◌, ◌≢◌, ℕ, ◌^◌, ◌<◌, Bool, true, false, not, ◌&&◌, eqb, ltb, List, [], ◌∷◌, length, sym, refl, ◌∙◌}
use Rattle.std.specs.Prelude.{map, take, Option, Some, None, slice_index}
use Rattle.std.specs.List.{All, Contains, list_all, flat_map}
use Rattle.std.specs.List.Sorted.{IsStrictlyIncreasing}
use Rattle.std.proofs.lemmas.Bool.{false≢true, and_parts, eqb-true, eqb-false, eq-eqb, ltb-true, not-true}
use Rattle.std.proofs.lemmas.List.Elements.{All-contains}
use Rattle.cp_orbits.specs.Classes.{labels}
use Rattle.cp_orbits.specs.Connected.{Connected}
use Rattle.cp_orbits.proofs.ClassLabels.{connected_labels, labels_connected}
use Rattle.cp_conn.specs.CutVertex.{without_vertex}
use Rattle.cp_board.specs.declared.parts.Kind.{Kind}
use Rattle.cp_board.specs.declared.parts.Kind.TheVariants.{P, Q}
use Rattle.cp_board.specs.declared.parts.EdgeRow.{EdgeRow}
use Rattle.cp_board.specs.declared.parts.Pipe.{Pipe}
use Rattle.cp_board.specs.Names.{has, rising}
use Rattle.cp_conn.specs.NamedGraphs.{NamedGraph, pairs, far, edges_at}
use Rattle.cp_board.specs.Instances.{Synchronized, IsSynchronized, AreNames, IsRightKind, HasRightEnds, HasRightPairs, vert_names, edge_names, pipe_names, cells, edges_of, graph, kind_of}
use Rattle.cp_board.specs.Joins.{ArePartsAt, part_of}
use Rattle.cp_board.proofs.NamedLists.{arranged}
use Rattle.cp_board.proofs.ListTests.{All-from_test, rises, IsStrictlyIncreasing-from_test, Contains-from_has, distinct, Distinct-from_test, same, same_lists}

-- the test of the kind of a vertex
abbrev pub right_kind : Synchronized → ℕ → Kind → Bool
right_kind i v P = true
right_kind i v (Q cell psi) = same (rising psi) (edges_of i v) && same (take 1 psi) (take 1 (edges_of i v))

-- a kind that passes the test is right: a psi has the edges of its vertex and begins with the least
right_kind_tells : (i : Synchronized) (v : ℕ) (k : Kind) → right_kind i v k ≡ true → IsRightKind (graph i) v k
right_kind_tells i v P t = tt
right_kind_tells i v (Q cell psi) t =
    let p = and_parts (same (rising psi) (edges_of i v)) (same (take 1 psi) (take 1 (edges_of i v))) t in
    (arranged (edges_of i v) psi (same_lists (rising psi) (edges_of i v) p.0), same_lists (take 1 psi) (take 1 (edges_of i v)) p.1)

-- what is found is the kind of a P-vertex
abbrev pub is_free : Option Kind → Bool
is_free None = false
is_free (Some P) = true
is_free (Some (Q cell psi)) = false

-- and what this test tells
is_free_tells : (o : Option Kind) → is_free o ≡ true → o ≡ Some P
is_free_tells None t = absurd (false≢true t)
is_free_tells (Some P) t = refl
is_free_tells (Some (Q cell psi)) t = absurd (false≢true t)

-- the test that the ends of a pipe are two different P-vertices
abbrev pub right_ends : Synchronized → Pipe → Bool
right_ends i p = not (eqb p.a p.b) && (is_free (kind_of i p.a) && is_free (kind_of i p.b))

-- ends that pass the test are right
right_ends_tells : (i : Synchronized) (p : Pipe) → right_ends i p ≡ true → HasRightEnds i.verts p
right_ends_tells i p t =
    let h = and_parts (not (eqb p.a p.b)) (is_free (kind_of i p.a) && is_free (kind_of i p.b)) t in
    let k = and_parts (is_free (kind_of i p.a)) (is_free (kind_of i p.b)) h.1 in
    record { differ = eqb-false p.a p.b (not-true (eqb p.a p.b) h.0); free_a = is_free_tells (kind_of i p.a) k.0; free_b = is_free_tells (kind_of i p.b) k.1 }

-- the test that the pairs of a pipe match the edges of one end with those of the other
abbrev pub right_pairs : Synchronized → Pipe → Bool
right_pairs i p = same (map (λ x. x.0) p.pairs) (edges_of i p.a) && same (rising (map (λ x. x.1) p.pairs)) (edges_of i p.b)

-- pairs that pass the test are right
right_pairs_tells : (i : Synchronized) (p : Pipe) → right_pairs i p ≡ true → HasRightPairs (graph i) p
right_pairs_tells i p t =
    let h = and_parts (same (map (λ x. x.0) p.pairs) (edges_of i p.a)) (same (rising (map (λ x. x.1) p.pairs)) (edges_of i p.b)) t in
    record {
      first = same_lists (map (λ x. x.0) p.pairs) (edges_of i p.a) h.0;
      second = arranged (edges_of i p.b) (map (λ x. x.1) p.pairs) (same_lists (rising (map (λ x. x.1) p.pairs)) (edges_of i p.b) h.1);
    }

-- the test that both ends of an edge are live vertices
abbrev pub right_edge : Synchronized → EdgeRow → Bool
right_edge i e = has (vert_names i) e.a && has (vert_names i) e.b

-- the test that names rise and fit
abbrev pub are_names : List ℕ → Bool
are_names names = rises names && list_all (λ n. ltb n (2 ^ 63)) names

-- names that pass the test rise and fit
AreNames-from_test : (names : List ℕ) → are_names names ≡ true → AreNames names
AreNames-from_test names t =
    let h = and_parts (rises names) (list_all (λ n. ltb n (2 ^ 63)) names) t in
    record { rise = IsStrictlyIncreasing-from_test names h.0; fit = All-from_test (λ n. n < 2 ^ 63) (λ n. ltb n (2 ^ 63)) (λ n e. ltb-true n (2 ^ 63) e) names h.1 }

-- all five rules
abbrev pub keeps_rules : Synchronized → List Bool
keeps_rules i =
    are_names (vert_names i) ∷ are_names (edge_names i) ∷ are_names (pipe_names i)
    ∷ list_all (λ c. ltb c (2 ^ 63)) (cells i)
    ∷ list_all (right_edge i) i.edges
    ∷ list_all (λ e. not (eqb e.a e.b)) i.edges
    ∷ list_all (λ v. right_kind i v.name v.kind) i.verts
    ∷ list_all (right_ends i) i.pipes
    ∷ distinct (flat_map (λ p. p.a ∷ p.b ∷ []) i.pipes)
    ∷ list_all (right_pairs i) i.pipes ∷ []

-- an instance that passes all these tests keeps the five rules
pub IsSynchronized-from_tests : (i : Synchronized) → list_all (λ b. b) (keeps_rules i) ≡ true → IsSynchronized i
IsSynchronized-from_tests i t =
    let t1 = and_parts _ _ t in
    let t2 = and_parts _ _ t1.1 in
    let t3 = and_parts _ _ t2.1 in
    let t4 = and_parts _ _ t3.1 in
    let t5 = and_parts _ _ t4.1 in
    let t6 = and_parts _ _ t5.1 in
    let t7 = and_parts _ _ t6.1 in
    let t8 = and_parts _ _ t7.1 in
    let t9 = and_parts _ _ t8.1 in
    let t10 = and_parts _ _ t9.1 in
    record {
      verts_named = AreNames-from_test (vert_names i) t1.0;
      edges_named = AreNames-from_test (edge_names i) t2.0;
      pipes_named = AreNames-from_test (pipe_names i) t3.0;
      cells_fit = All-from_test (λ n. n < 2 ^ 63) (λ n. ltb n (2 ^ 63)) (λ n e. ltb-true n (2 ^ 63) e) (cells i) t4.0;
      ends_live = All-from_test (λ e. Contains (vert_names i) e.a × Contains (vert_names i) e.b) (right_edge i) (λ e h. let p = and_parts (has (vert_names i) e.a) (has (vert_names i) e.b) h in (Contains-from_has (vert_names i) e.a p.0, Contains-from_has (vert_names i) e.b p.1)) i.edges t5.0;
      ends_differ = All-from_test (λ e. e.a ≢ e.b) (λ e. not (eqb e.a e.b)) (λ e h. eqb-false e.a e.b (not-true (eqb e.a e.b) h)) i.edges t6.0;
      lists_right = All-from_test (λ v. IsRightKind (graph i) v.name v.kind) (λ v. right_kind i v.name v.kind) (λ v h. right_kind_tells i v.name v.kind h) i.verts t7.0;
      ends_free = All-from_test (HasRightEnds i.verts) (right_ends i) (right_ends_tells i) i.pipes t8.0;
      ends_apart = Distinct-from_test (flat_map (λ p. p.a ∷ p.b ∷ []) i.pipes) t9.0;
      pairs_right = All-from_test (HasRightPairs (graph i)) (right_pairs i) (right_pairs_tells i) i.pipes t10.0;
    }

-- the label of the far end of an edge of u where u is removed
abbrev pub part_label : NamedGraph → ℕ → ℕ → ℕ
part_label g u e = labels (without_vertex u (pairs g)) (far g u e)

-- both truth values are the same
abbrev pub agree : Bool → Bool → Bool
agree true b = b
agree false b = not b

-- and what this test tells
agree_same : (a b : Bool) → agree a b ≡ true → a ≡ b
agree_same true true t = refl
agree_same true false t = absurd (false≢true t)
agree_same false true t = absurd (false≢true t)
agree_same false false t = refl

-- the tests that the parts are those at u
abbrev pub are_parts : NamedGraph → ℕ → List (List ℕ) → List Bool
are_parts g u parts =
    same (rising (flat_map (λ part. part) parts)) (edges_at g u)
    ∷ list_all (λ part. ltb 0 (length part)) parts
    ∷ list_all rises parts
    ∷ rises (map (λ part. slice_index part 0) parts)
    ∷ list_all (λ e. list_all (λ f. agree (eqb (part_of parts e) (part_of parts f)) (eqb (part_label g u e) (part_label g u f))) (edges_at g u)) (edges_at g u) ∷ []

-- lists of edges that pass these tests are the parts at u
pub ArePartsAt-from_tests : (g : NamedGraph) (u : ℕ) (parts : List (List ℕ))
    → list_all (λ b. b) (are_parts g u parts) ≡ true → ArePartsAt g u parts
ArePartsAt-from_tests g u parts t =
    let t1 = and_parts _ _ t in
    let t2 = and_parts _ _ t1.1 in
    let t3 = and_parts _ _ t2.1 in
    let t4 = and_parts _ _ t3.1 in
    let t5 = and_parts _ _ t4.1 in
    let es = edges_at g u in
    let agreed = All-from_test (λ e. All (λ f. eqb (part_of parts e) (part_of parts f) ≡ eqb (part_label g u e) (part_label g u f)) es) (λ e. list_all (λ f. agree (eqb (part_of parts e) (part_of parts f)) (eqb (part_label g u e) (part_label g u f))) es) (λ e. All-from_test (λ f. eqb (part_of parts e) (part_of parts f) ≡ eqb (part_label g u e) (part_label g u f)) (λ f. agree (eqb (part_of parts e) (part_of parts f)) (eqb (part_label g u e) (part_label g u f))) (λ f h. agree_same (eqb (part_of parts e) (part_of parts f)) (eqb (part_label g u e) (part_label g u f)) h) es) es t5.0 in
    record {
      whole = arranged es (flat_map (λ part. part) parts) (same_lists (rising (flat_map (λ part. part) parts)) es t1.0);
      filled = All-from_test (λ part. 0 < length part) (λ part. ltb 0 (length part)) (λ part h. ltb-true 0 (length part) h) parts t2.0;
      rise = All-from_test IsStrictlyIncreasing rises IsStrictlyIncreasing-from_test parts t3.0;
      by_least = IsStrictlyIncreasing-from_test (map (λ part. slice_index part 0) parts) t4.0;
      one = λ e f ce cf.
          let same_tests = All-contains (λ f. eqb (part_of parts e) (part_of parts f) ≡ eqb (part_label g u e) (part_label g u f)) es f (All-contains (λ e. All (λ f. eqb (part_of parts e) (part_of parts f) ≡ eqb (part_label g u e) (part_label g u f)) es) es e agreed ce) cf in (
            λ h. connected_labels (without_vertex u (pairs g)) (far g u e) (far g u f) (eqb-true (part_label g u e) (part_label g u f) (sym same_tests ∙ eq-eqb (part_of parts e) (part_of parts f) h)),
            λ c. eqb-true (part_of parts e) (part_of parts f) (same_tests ∙ eq-eqb (part_label g u e) (part_label g u f) (labels_connected (without_vertex u (pairs g)) (far g u e) (far g u f) c)),
          );
    }

-- two numbers with different labels are not connected
pub apart_from_test : (es : List (ℕ × ℕ)) (x y : ℕ) → eqb (labels es x) (labels es y) ≡ false → Connected es x y → ⊥
apart_from_test es x y t c = eqb-false (labels es x) (labels es y) t (labels_connected es x y c)
