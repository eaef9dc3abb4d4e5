-- The two Small of the worked run whose pipes have three pairs are rewrites of the instances before them.
use Rattle.std.proofs.Common.{◌≡◌, ℕ, [], ◌∷◌, refl, arith}
use Rattle.std.specs.List.{Contains}
use Rattle.std.proofs.lemmas.List.Elements.{All-nil}
use Rattle.cp_board.specs.Names.{has}
use Rattle.cp_board.specs.Instances.{IsSynchronized, pipe_names}
use Rattle.cp_board.specs.Rewrites.{IsRewriteOf, rewritten, verts_with}
use Rattle.cp_board.specs.Rows as rows
use Rattle.cp_board.proofs.ListTests.{All-from_test, Contains-from_has, Distinct-from_test}
use Rattle.cp_store.specs.WorkedSteps.{first_small, second_small}

-- what has no item has none of a name
none_of : (n : ℕ) → ¬ Contains [] n
none_of n c = omega (arith, c.1)

-- Small at pipe 1 makes the second instance
pub first_small-rewritten : rewritten first_small rows.joined ≡ rows.second
first_small-rewritten = refl

-- and Small at pipe 3 the third
pub second_small-rewritten : rewritten second_small rows.second ≡ rows.third
second_small-rewritten = refl

-- Small at pipe 1 fits the joined instance, where its result keeps the rules
pub IsRewriteOf-first_small : IsSynchronized rows.second → IsRewriteOf rows.joined first_small
IsRewriteOf-first_small keeps = record {
  pipes_live = All-from_test (Contains (pipe_names rows.joined)) (has (pipe_names rows.joined))
      (Contains-from_has (pipe_names rows.joined)) first_small.drop_pipes refl;
  pipes_once = Distinct-from_test first_small.drop_pipes refl;
  verts_live = All-nil _;
  verts_once = tt;
  moves = tt;
  kinds_live = All-from_test (λ v. Contains (verts_with first_small rows.joined) v.name
      × ¬ Contains first_small.drop_verts v.name) (λ v. has (verts_with first_small rows.joined) v.name)
      (λ v t. (Contains-from_has (verts_with first_small rows.joined) v.name t, none_of v.name)) first_small.set_kinds
      refl;
  kinds_once = Distinct-from_test (6 ∷ 8 ∷ []) refl;
  rules = keeps;
  new_verts = refl;
  new_edges = refl;
  new_pipes = refl;
  new_cells = refl;
}

-- and Small at pipe 3 the second instance
pub IsRewriteOf-second_small : IsSynchronized rows.third → IsRewriteOf rows.second second_small
IsRewriteOf-second_small keeps = record {
  pipes_live = All-from_test (Contains (pipe_names rows.second)) (has (pipe_names rows.second))
      (Contains-from_has (pipe_names rows.second)) second_small.drop_pipes refl;
  pipes_once = Distinct-from_test second_small.drop_pipes refl;
  verts_live = All-nil _;
  verts_once = tt;
  moves = tt;
  kinds_live = All-from_test (λ v. Contains (verts_with second_small rows.second) v.name
      × ¬ Contains second_small.drop_verts v.name) (λ v. has (verts_with second_small rows.second) v.name)
      (λ v t. (Contains-from_has (verts_with second_small rows.second) v.name t, none_of v.name)) second_small.set_kinds
      refl;
  kinds_once = Distinct-from_test (10 ∷ 12 ∷ []) refl;
  rules = keeps;
  new_verts = refl;
  new_edges = refl;
  new_pipes = refl;
  new_cells = refl;
}
