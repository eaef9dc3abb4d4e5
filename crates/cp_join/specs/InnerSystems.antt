-- The rotation system of the inner vertices after Join, from the pairs of the pipe and a solution after the step.
use Rattle.std.specs.Prelude.{ℕ, ◌+◌, ◌*◌, ◌<◌, ◌^◌, cond, eqb, true, false, Bool, List, [], ◌∷◌, ◌++◌, length, map, replicate, reverse, slice_index_or}
use Rattle.std.specs.List.{All, Contains, flat_map}
use Rattle.std.specs.List.Sorted.{IsStrictlyIncreasing}
use Rattle.cp_conn.specs.NamedGraphs.{rank}
use Rattle.cp_rot.specs.Genus.{HasGenusZero}
use Rattle.cp_rot.specs.Systems.{IsRotation, System}
use Rattle.cp_rot.specs.Tables.{system_of}
use Rattle.cp_rotlaw.specs.SideOrders.{IsSideOf}
use Rattle.cp_board.specs.Joins.{part_of}
use Rattle.cp_board.specs.Solutions.{list_in}
use Rattle.cp_join.specs.declared.parted_ends.Parting.{Parting}

-- the darts of new edges at their first end (0) or at their second (1), by the places of the edges
abbrev pub hat_darts : List ℕ → ℕ → List ℕ → List ℕ
hat_darts hats end list = map (λ e. 2 * rank hats e + end) list

-- the places of the inner vertices at which the darts of the new edges stand: those of the first end come first
abbrev pub inner_at : List (ℕ × ℕ) → Parting → Parting → List ℕ
inner_at pairs s t = flat_map (λ x. part_of s.parts x.0 ∷ (length s.parts + part_of t.parts x.1) ∷ []) pairs

-- the darts of the lists that the inner vertices have
abbrev pub inner_lists : List ℕ → Parting → Parting → (ℕ → List ℕ) → List (List ℕ)
inner_lists hats s t lists =
    map (λ v. hat_darts hats 0 (lists v)) s.inner ++ map (λ v. hat_darts hats 1 (lists v)) t.inner

-- the rotation system of the inner vertices
abbrev pub inner_system : List (ℕ × ℕ) → List ℕ → Parting → Parting → (ℕ → List ℕ) → System
inner_system pairs hats s t lists = system_of (inner_at pairs s t) (inner_lists hats s t lists)

-- the marks of the vertices of the first end
abbrev pub first_marks : Parting → Parting → List Bool
first_marks s t = replicate (length s.inner) true ++ replicate (length t.inner) false

-- a solution after the step has lists of new edges at the inner vertices, which make a rotation system of genus zero,
-- and there are not too many parts for their numbers
pub record HasInnerLists (pairs : List (ℕ × ℕ)) (hats : List ℕ) (s t : Parting) (after : List (ℕ × List ℕ))
    : Type 0 where
  pub few_first : length s.parts < 2 ^ 60
  pub few_second : length t.parts < 2 ^ 60
  pub rising : IsStrictlyIncreasing hats
  pub first_names : All (Contains (map (λ row. row.0) after)) s.inner
  pub second_names : All (Contains (map (λ row. row.0) after)) t.inner
  pub first_edges : All (λ v. All (Contains hats) (list_in after v)) s.inner
  pub second_edges : All (λ v. All (Contains hats) (list_in after v)) t.inner
  pub rotation : IsRotation (inner_system pairs hats s t (list_in after))
  pub flat : HasGenusZero (inner_system pairs hats s t (list_in after))
  pub sides : IsSideOf (inner_system pairs hats s t (list_in after)) (first_marks s t)

-- the order of the first end from an order of the new edges, by their places
abbrev pub first_back : List (ℕ × ℕ) → List ℕ → List ℕ
first_back pairs order = reverse (map (λ k. (slice_index_or pairs k (0, 0)).0) order)

-- the order of the second end from an order of the new edges, by their places
abbrev pub second_back : List (ℕ × ℕ) → List ℕ → List ℕ
second_back pairs order = map (λ k. (slice_index_or pairs k (0, 0)).1) order

-- lists with other ones at two vertices
abbrev pub with_orders : ℕ → ℕ → List ℕ → List ℕ → (ℕ → List ℕ) → ℕ → List ℕ
with_orders u w first second lists v = cond (eqb v u) first (cond (eqb v w) second (lists v))
