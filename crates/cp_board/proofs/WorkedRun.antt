-- The instances of the rows keep the rules, and the steps lead from each to the next.
use Rattle.std.proofs.Common.{◌≡◌, ◌⊎◌, ◌<◌, ◌≤◌, Bool, true, ◌&&◌, ◌||◌, eqb, ltb, leb, [], ◌∷◌, refl, inl, inr, ⊎_elim, arith}
use Rattle.std.specs.List.{list_all}
use Rattle.std.proofs.lemmas.Bool.{or_cases, and_parts, eqb-true, ltb-true, leb-true, eqb-false}
use Rattle.cp_board.specs.declared.parts.Pipe.{Pipe}
use Rattle.cp_board.specs.Runs.{IsDriven, IsLegal, done, more}
use Rattle.cp_conn.specs.NamedGraphs.{IsCut, pairs}
use Rattle.cp_board.specs.Instances.{Synchronized, IsSynchronized, graph, pipe_named}
use Rattle.cp_board.specs.Steps.{Allowed, degree}
use Rattle.cp_board.specs.Effects.{After}
use Rattle.std.specs.Prelude.{Some}
use Rattle.cp_conn.specs.CutVertex.{without_vertex}
use Rattle.cp_board.specs.declared.steps.Step.TheVariants.{Small, Join}
use Rattle.cp_board.specs.Rows as rows
use Rattle.cp_board.proofs.ListTests.{All-from_test}
use Rattle.cp_board.proofs.RuleTests.{IsSynchronized-from_tests, ArePartsAt-from_tests, apart_from_test}

-- q does not come before p where the pipe of greatest degree is sought
abbrev pub is_up_to : Pipe → Pipe → Bool
is_up_to p q = ltb (degree q) (degree p) || (eqb (degree q) (degree p) && leb p.name q.name)

-- a pipe that passes has a lesser degree, or the same degree and no lesser name
pub is_up_to_tells : (p q : Pipe) → is_up_to p q ≡ true
    → (degree q < degree p) ⊎ ((degree q ≡ degree p) × (p.name ≤ q.name))
is_up_to_tells p q t =
    ⊎_elim (λ h. inl (ltb-true (degree q) (degree p) h)) (λ h. let k = and_parts (eqb (degree q) (degree p)) (leb p.name q.name) h in inr (eqb-true (degree q) (degree p) k.0, leb-true p.name q.name k.1)) (or_cases (ltb (degree q) (degree p)) (eqb (degree q) (degree p) && leb p.name q.name) t)

-- the first instance keeps the rules
first_keeps : IsSynchronized rows.first
first_keeps = IsSynchronized-from_tests rows.first refl

-- the instance after the Join keeps the rules
joined_keeps : IsSynchronized rows.joined
joined_keeps = IsSynchronized-from_tests rows.joined refl

-- the last instance keeps the rules
last_keeps : IsSynchronized rows.last
last_keeps = IsSynchronized-from_tests rows.last refl

-- the instance after the first Small keeps the rules
second_keeps : IsSynchronized rows.second
second_keeps = IsSynchronized-from_tests rows.second refl

-- the Join at pipe 0 gives the instance with the pipes 1 to 4
first_joined : After rows.first (Join 0) rows.joined
first_joined = (
  rows.first_pipe,
  refl,
  record {
    parts_a = (1 ∷ 3 ∷ 7 ∷ []) ∷ (5 ∷ []) ∷ [];
    parts_b = (0 ∷ 2 ∷ 4 ∷ []) ∷ (6 ∷ []) ∷ [];
    are_parts_a = ArePartsAt-from_tests (graph rows.first) 2 ((1 ∷ 3 ∷ 7 ∷ []) ∷ (5 ∷ []) ∷ []) refl;
    are_parts_b = ArePartsAt-from_tests (graph rows.first) 5 ((0 ∷ 2 ∷ 4 ∷ []) ∷ (6 ∷ []) ∷ []) refl;
    outer_a = 6 ∷ 7 ∷ [];
    inner_a = 8 ∷ 9 ∷ [];
    outer_b = 10 ∷ 11 ∷ [];
    inner_b = 12 ∷ 13 ∷ [];
    one_each_a = (refl, refl);
    one_each_b = (refl, refl);
    new_verts = refl;
    hats = 8 ∷ 9 ∷ 10 ∷ 11 ∷ [];
    one_hat_each = refl;
    new_edges = refl;
    names_a = 1 ∷ 2 ∷ [];
    names_b = 3 ∷ 4 ∷ [];
    one_name_each = (refl, refl);
    new_pipes = refl;
    verts = refl;
    edges = refl;
    pipes = refl;
  },
)

-- a vertex is a cut vertex where two edges end in vertices of different labels
cut_2 : IsCut (graph rows.first) 2
cut_2 = record {
  one = 0;
  two = 1;
  near_one = record { pair = (2, 0); contained = (1, omega arith, refl); joined = inl (refl, refl); other = eqb-false 0 2 refl };
  near_two = record { pair = (2, 1); contained = (5, omega arith, refl); joined = inl (refl, refl); other = eqb-false 1 2 refl };
  apart = apart_from_test (without_vertex 2 (pairs (graph rows.first))) 0 1 refl;
}

-- and vertex 5 is one as well
cut_5 : IsCut (graph rows.first) 5
cut_5 = record {
  one = 3;
  two = 4;
  near_one = record { pair = (3, 5); contained = (0, omega arith, refl); joined = inr (refl, refl); other = eqb-false 3 5 refl };
  near_two = record { pair = (4, 5); contained = (6, omega arith, refl); joined = inr (refl, refl); other = eqb-false 4 5 refl };
  apart = apart_from_test (without_vertex 5 (pairs (graph rows.first))) 3 4 refl;
}

-- the first instance allows the Join at its pipe
first_allows : Allowed rows.first (Join 0)
first_allows = (rows.first_pipe, refl, record { large = omega arith; cut_a = cut_2; cut_b = cut_5 })

-- and this is a step that the solver may take there
first_driven : IsDriven rows.first (Join 0)
first_driven = (rows.first_pipe, record { live = refl; others = All-from_test _ (is_up_to rows.first_pipe) (is_up_to_tells rows.first_pipe) rows.first.pipes refl }, (refl, omega arith, cut_2, cut_5))

-- the four Small
joined_small : After rows.joined (Small 1) rows.second
joined_small = (rows.pipe_1, refl, record { cell = 0; new_cell = refl; verts = refl; edges = refl; pipes = refl })

-- the Small at pipe 3 makes the third instance of the second
second_small : After rows.second (Small 3) rows.third
second_small = (rows.pipe_3, refl, record { cell = 1; new_cell = refl; verts = refl; edges = refl; pipes = refl })

-- the Small at pipe 2 makes the fourth instance of the third
third_small : After rows.third (Small 2) rows.fourth
third_small = (rows.pipe_2, refl, record { verts = refl; edges = refl; pipes = refl })

-- the Small at pipe 4 makes the last instance of the fourth
fourth_small : After rows.fourth (Small 4) rows.last
fourth_small = (rows.pipe_4, refl, record { verts = refl; edges = refl; pipes = refl })

-- the solver may take Small at a pipe of degree at most 3 that no other pipe comes before
small_driven : (i : Synchronized) (p : Pipe) → pipe_named i p.name ≡ Some p → degree p ≤ 3
    → list_all (is_up_to p) i.pipes ≡ true → IsDriven i (Small p.name)
small_driven i p live le t = (p, record { live = live; others = All-from_test _ (is_up_to p) (is_up_to_tells p) i.pipes t }, (refl, le))

-- it may take Small at pipe 1 after the Join
joined_driven : IsDriven rows.joined (Small 1)
joined_driven = small_driven rows.joined rows.pipe_1 refl (omega arith) refl

-- and at pipe 3 in the second instance
second_driven : IsDriven rows.second (Small 3)
second_driven = small_driven rows.second rows.pipe_3 refl (omega arith) refl

-- and at pipe 2 in the third instance
third_driven : IsDriven rows.third (Small 2)
third_driven = small_driven rows.third rows.pipe_2 refl (omega arith) refl

-- and at pipe 4 in the fourth instance
fourth_driven : IsDriven rows.fourth (Small 4)
fourth_driven = small_driven rows.fourth rows.pipe_4 refl (omega arith) refl

-- the whole run
run : IsLegal rows.last rows.first (Join 0 ∷ Small 1 ∷ Small 3 ∷ Small 2 ∷ Small 4 ∷ [])
run =
    more rows.first rows.joined _ _ first_allows first_joined
    (more rows.joined rows.second _ _ (rows.pipe_1, refl, omega arith) joined_small
    (more rows.second rows.third _ _ (rows.pipe_3, refl, omega arith) second_small
    (more rows.third rows.fourth _ _ (rows.pipe_2, refl, omega arith) third_small
    (more rows.fourth rows.last _ _ (rows.pipe_4, refl, omega arith) fourth_small done))))
