-- A new cell is a small number.
use Rattle.std.proofs.Common.{◌≡◌, ℕ, ◌+◌, ◌<◌, ◌≤◌, true, not, eqb, List, [], ◌∷◌, length, slice_index, sym, refl, ap, ◌∙◌, arith, ⊎_elim}
use Rattle.std.specs.Prelude.{Some, find, filter}
use Rattle.std.specs.List.{All, flat_map, range_with_len}
use Rattle.std.specs.Option.{option_map}
use Rattle.std.proofs.lemmas.Bool.{cases_Bool, cond-true, cond-false}
use Rattle.std.proofs.lemmas.List.{length-append}
use Rattle.std.proofs.lemmas.List.Elements.{All-filter, All-take, All-head, All-same}
use Rattle.std.proofs.lemmas.List.FromFn.{get_or-range_with_len, length-range_with_len}
use Rattle.cp_lists.proofs.Counting.{count-le}
use Rattle.cp_lists.proofs.DistinctLists.{Distinct-once}
use Rattle.cp_lists.proofs.ExactLists.{distinct-le}
use Rattle.cp_board.specs.declared.parts.Kind.{Kind}
use Rattle.cp_board.specs.declared.parts.Kind.TheVariants.{P, Q}
use Rattle.cp_board.specs.declared.parts.Vert.{Vert}
use Rattle.cp_board.specs.Names.{has, new_names}
use Rattle.cp_board.specs.Instances.{cell_of, kind_in}
use Rattle.cp_board.proofs.ListTests.{rises}
use Rattle.cp_board.proofs.NumberOfNewNames.{Distinct-from_rises, length-new_names}
use Rattle.cp_poles.proofs.FoundItems.{None-other, Some-same}

-- a list of one item is told by it
one_item : (xs : List ℕ) → length xs ≡ 1 → slice_index xs 0 ∷ [] ≡ xs
one_item [] e = absurd (omega (arith, e))
one_item (x ∷ []) e = refl
one_item (x ∷ y ∷ ys) e = absurd (omega (arith, e))

-- the one new name
pub one_new_name : (live : List ℕ) → slice_index (new_names live 1) 0 ∷ [] ≡ new_names live 1
one_new_name live = one_item (new_names live 1) (length-new_names live 1)

-- numbers from 0 on are below their number
range_below : (n : ℕ) → All (λ x. x < n) (range_with_len 0 n)
range_below n k d lt =
    let within : k < n = omega (arith, lt, length-range_with_len 0 n) in
    omega (arith, within, get_or-range_with_len 0 n k d within)

-- it is at most the number of live names
pub one_new_name-le : (live : List ℕ) → slice_index (new_names live 1) 0 ≤ length live
one_new_name-le live =
    let below = All-take (λ x. x < length live + 1) 1
    (filter (λ k. not (has live k)) (range_with_len 0 (length live + 1)))
    (All-filter (λ k. not (has live k)) (λ x. x < length live + 1) (range_with_len 0 (length live + 1))
    (range_below (length live + 1))) in
    let least : slice_index (new_names live 1) 0 < length live + 1 = All-head (λ x. x < length live + 1)
    (slice_index (new_names live 1) 0) []
    (All-same (λ x. x < length live + 1) (slice_index (new_names live 1) 0 ∷ []) (new_names live 1)
    (one_new_name live) below) in
    omega (arith, least)

-- a rising list of numbers below n has at most n items
pub rising_below : (n : ℕ) (xs : List ℕ) → rises xs ≡ true → All (λ x. x < n) xs → length xs ≤ n
rising_below n xs up all =
    omega (
      arith,
      count-le n (λ x. true),
      distinct-le n (λ x. true) xs (λ i lt. (all i 0 lt, refl))
          (Distinct-once xs (Distinct-from_rises xs up)),
    )

-- a vertex has at most one cell
cell_once : (kind : Kind) → length (cell_of kind) ≤ 1
cell_once P = omega arith
cell_once (Q c psi) = omega arith

-- the cells of some vertices
abbrev cells_in : List Vert → List ℕ
cells_in vs = flat_map (λ v. cell_of v.kind) vs

-- there are at most as many cells as vertices
cells_few : (vs : List Vert) → length (cells_in vs) ≤ length vs
cells_few [] = omega arith
cells_few (v ∷ vs) = omega (arith, cell_once v.kind, cells_few vs, length-append (cell_of v.kind) (cells_in vs))

-- and fewer where one of them is a P-vertex
pub cells_fewer : (vs : List Vert) (n : ℕ) → kind_in vs n ≡ Some P → length (cells_in vs) < length vs
cells_fewer [] n e = absurd (None-other P e)
cells_fewer (v ∷ vs) n e =
    ⊎_elim
    (λ b.
    let free : v.kind ≡ P = Some-same v.kind P
    (sym (ap (option_map (λ x. x.kind)) (cond-true (eqb v.name n) (Some v) (find (λ x. eqb x.name n) vs) b))
    ∙ e) in
    let none : length (cell_of v.kind) ≡ 0 = ap (λ k. length (cell_of k)) free in
    omega (arith, none, cells_few vs, length-append (cell_of v.kind) (cells_in vs)))
    (λ b.
    let later = sym
    (ap (option_map (λ x. x.kind)) (cond-false (eqb v.name n) (Some v) (find (λ x. eqb x.name n) vs) b)) ∙ e in
    omega (arith, cell_once v.kind, cells_fewer vs n later, length-append (cell_of v.kind) (cells_in vs)))
    (cases_Bool (eqb v.name n))
