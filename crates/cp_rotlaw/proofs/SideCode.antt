-- What the program finds at a side that is merged in part.
use Rattle.std.proofs.Common.{◌≡◌, ◌≢◌, ℕ, ◌+◌, ◌*◌, ◌<◌, ◌≤◌, Bool, true, false, not, List, [], ◌∷◌, ◌++◌, length, map, set, slice_index, slice_index_or, sym, refl, ap, ◌∙◌, subst, ⊎_elim, arith, length-append}
use Rattle.std.proofs.lemmas.Bool.{cases_Bool, false≢true, not-true, not_from_false}
use Rattle.std.proofs.lemmas.List.{map-append}
use Rattle.std.specs.List.{filter}
use Rattle.cp_lists.specs.CyclicLists.{Distinct, Has, Lacks, but}
use Rattle.cp_lists.proofs.DistinctLists.{Distinct-append, Has-append_cases, Has-append_left, Has-append_right, Has-place, Has-split, Lacks-from, but_middle}
use Rattle.cp_lists.proofs.FilteredLists.{Has-filter, filter-Distinct, filter-Has, filter_no, filter_yes}
use Rattle.cp_faces.specs.Twins.{twin}
use Rattle.cp_maps.specs.Maps.{IsMapOf}
use Rattle.cp_maps.proofs.MapLists.{IsMapOf-bare}
use Rattle.cp_rot.specs.Rewrites.{values}
use Rattle.cp_rot.specs.Systems.{IsRotation, System, darts, edges, list_of, next, vertex_of}
use Rattle.cp_rot.specs.Tables.{IsMarked}
use Rattle.cp_rot.proofs.ListEdits.{length-values}
use Rattle.cp_rotlaw.specs.SideOrders.{IsSideOf, in_side}
use Rattle.cp_rotlaw.specs.SideStates.{IsCorner, IsMerging, NoneLeft, is_left, other_rows, vertices_left}
use Rattle.cp_rotlaw.proofs.NamedMaps.{Has-numbers, numbers-Distinct, numbers-below}
use Rattle.cp_rotlaw.proofs.PoleMaps.{IsMapOf-vertices}
use Rattle.cp_rotlaw.proofs.SideMerging.{IsMerging-start, left-Distinct, left-set, left_are, left_have}

-- an item that stands at no place is none
pub no_place : (xs : List ℕ) (d i : ℕ) → Has d xs → length xs ≤ i → ((k : ℕ) → k < i → slice_index xs k ≢ d) → ⊥
no_place xs d i h le none = let p = Has-place d xs h in none p.0 (omega (arith, p.1, le)) p.2

-- where there is no corner, the dart behind one that leads to a merged vertex leads to one
pub closed_without_corner : (r : System) (side merged : List Bool) → ((x : ℕ) → IsCorner r side merged x → ⊥) → (x : ℕ)
    → x < darts r → in_side side (vertex_of r x) ≡ false → IsMarked merged (vertex_of r (twin x))
    → IsMarked merged (vertex_of r (twin (next r x)))
closed_without_corner r side merged none x lt out one = ⊎_elim
    (λ t. t)
    (λ f. absurd (none x (record { within = lt; out = out; first = one; second = f })))
    (cases_Bool (slice_index_or merged (vertex_of r (twin (next r x))) false))

-- no vertex is left where none below their number passes the test
pub NoneLeft-from : (r : System) (side merged : List Bool) → ((x : ℕ) → x < r.vertices → is_left side merged x ≡ false)
    → NoneLeft r side merged
NoneLeft-from r side merged none w h =
    let k = filter-Has (is_left side merged) w (values r.vertices (λ v. v)) h in
    false≢true (sym (none w (numbers-below r.vertices w k.0)) ∙ k.1)

-- no vertex is left where so many were merged
pub NoneLeft-few : (r : System) (side merged : List Bool) → length (vertices_left r side merged) ≡ 0
    → NoneLeft r side merged
NoneLeft-few r side merged few w h =
    let p = Has-place w (vertices_left r side merged) h in omega (arith, p.1, few)

-- a list without an item that it had has one item less
length-but : (w : ℕ) (xs : List ℕ) → Distinct xs → Has w xs → length (but w xs) + 1 ≡ length xs
length-but w xs dis h =
    let s : (us : List ℕ) × (vs : List ℕ) × (xs ≡ us ++ w ∷ vs) × Lacks w us = Has-split w xs h in
    let rest : but w xs ≡ s.0 ++ s.1 = ap (but w) s.2 ∙ but_middle w s.0 s.1 (subst Distinct s.2 dis) in
    omega (arith, ap length rest, ap length s.2, length-append s.0 s.1, length-append s.0 (w ∷ s.1))

-- a system with a side
module _ (r : System) (is : IsRotation r) (side : List Bool) (sides : IsSideOf r side) where
  -- one vertex less is left
  pub left-fewer : (merged : List Bool) (w : ℕ) → length merged ≡ r.vertices → Has w (vertices_left r side merged)
      → length (vertices_left r side (set merged w true)) + 1 ≡ length (vertices_left r side merged)
  left-fewer merged w size h =
      let low : w < length merged = subst (λ n. w < n) (sym size) (left_are r is side sides merged w h).0 in
      ap (λ ws. length ws + 1) (left-set r is side sides merged w low)
      ∙ length-but w (vertices_left r side merged) (left-Distinct r is side sides merged) h

  -- at first no vertex is merged
  pub IsMerging-first : (merged : List Bool) → length merged ≡ r.vertices
      → ((w : ℕ) → slice_index_or merged w false ≡ false) → IsMerging r side merged []
  IsMerging-first merged size none =
      IsMerging-start r is side sides merged size none (next r, IsMapOf-bare n (next r) rows whole, refl)
    where
      n : ℕ
      n = 2 * edges r

      vertices : List ℕ
      vertices = values r.vertices (λ v. v)

      left : List ℕ
      left = vertices_left r side merged

      outside : List ℕ
      outside = filter (λ v. not (in_side side v)) vertices

      rows : List (List ℕ)
      rows = map (list_of r) left ++ other_rows r side

      whole : IsMapOf n (next r) rows
      whole = subst (IsMapOf n (next r)) (map-append (list_of r) left outside)
          (IsMapOf-vertices r is (left ++ outside)
          (Distinct-append left outside (left-Distinct r is side sides merged)
          (filter-Distinct (λ v. not (in_side side v)) vertices (numbers-Distinct r.vertices))
          (λ w h. Lacks-from w outside (λ k.
          let o = filter-Has (λ v. not (in_side side v)) w vertices k in
          false≢true (sym (not-true (in_side side w) o.1) ∙ (left_are r is side sides merged w h).1))))
          (λ w h. ⊎_elim
          (λ k. (left_are r is side sides merged w k).0)
          (λ k. numbers-below r.vertices w (filter-Has (λ v. not (in_side side v)) w vertices k).0)
          (Has-append_cases w left outside h))
          (λ w lt. ⊎_elim
          (λ t. Has-append_left w left outside (left_have r is side sides merged w lt t (none w)))
          (λ f. Has-append_right w left outside (Has-filter (λ v. not (in_side side v)) w vertices
          (Has-numbers r.vertices w lt) (not_from_false (in_side side w) f)))
          (cases_Bool (in_side side w))))

-- what passes a test is not more than all
filter-short : (p : ℕ → Bool) (xs : List ℕ) → length (filter p xs) ≤ length xs
filter-short p [] = omega arith
filter-short p (x ∷ xs) =
    let rest = filter-short p xs in
    ⊎_elim
    (λ t. omega (arith, ap length (filter_yes p x xs t), rest))
    (λ f. omega (arith, ap length (filter_no p x xs f), rest))
    (cases_Bool (p x))

-- there are not more vertices left than vertices
pub left-few : (r : System) (side merged : List Bool) → length (vertices_left r side merged) ≤ r.vertices
left-few r side merged = omega (
  arith,
  filter-short (is_left side merged) (values r.vertices (λ v. v)),
  length-values r.vertices (λ v. v),
)
