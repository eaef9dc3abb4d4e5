-- Lists with the names of vertices, made from the first vertex on.
use Rattle.std.proofs.Common.{◌≡◌, ℕ, ◌<◌, eqb, List, [], ◌∷◌, length, map, slice_index, take, refl, ap, ◌∙◌, ⊎_elim, arith}
use Rattle.std.specs.Prelude.{Some, find}
use Rattle.std.specs.List.{All}
use Rattle.std.specs.List.Sorted.{IsStrictlyIncreasing}
use Rattle.std.specs.Option.{option_map_or}
use Rattle.std.proofs.lemmas.Bool.{cases_eq, cond-false, cond-true, eq-eqb, ne_eqb}
use Rattle.std.proofs.lemmas.List.{get_or-take, get_or_default, length-take-le}
use Rattle.std.proofs.lemmas.List.Elements.{All-map}
use Rattle.cp_lists.specs.CyclicLists.{Has}
use Rattle.cp_sync.proofs.Places.{rising_apart}
use Rattle.cp_board.specs.Solutions.{list_in}

-- the names of the first rows are below the next one
pub rows_below : (f : ℕ → List ℕ) (vs : List ℕ) (k : ℕ) → IsStrictlyIncreasing vs → k < length vs
    → All (λ (row : ℕ × List ℕ). row.0 < slice_index vs k) (map (λ v. (v, f v)) (take k vs))
rows_below f vs k up lt = All-map (λ (row : ℕ × List ℕ). row.0 < slice_index vs k) (λ v. (v, f v)) (take k vs)
    (λ j d low.
    let size = length-take-le k vs (omega (arith, lt)) in
    let before : j < k = omega (arith, low, size) in
    let there = get_or-take k vs j d before ∙ get_or_default vs j d 0 (omega (arith, before, lt)) in
    let less = rising_apart vs up j k before lt in
    omega (arith, there, less))

-- the names are those of the vertices
pub rows_named : (f : ℕ → List ℕ) (vs : List ℕ) → map (λ (row : ℕ × List ℕ). row.0) (map (λ v. (v, f v)) vs) ≡ vs
rows_named f [] = refl
rows_named f (v ∷ vs) = ap (λ zs. v ∷ zs) (rows_named f vs)

-- each vertex has its list
pub list_of_row : (f : ℕ → List ℕ) (vs : List ℕ) (v : ℕ) → Has v vs → list_in (map (λ v. (v, f v)) vs) v ≡ f v
list_of_row f [] v h = absurd h
list_of_row f (x ∷ vs) v h = ⊎_elim
    (λ (e : x ≡ v).
    ap (λ o. option_map_or (λ (y : ℕ × List ℕ). y.1) o [])
    (cond-true (eqb x v) (Some (x, f x)) (find (λ (y : ℕ × List ℕ). eqb y.0 v) (map (λ z. (z, f z)) vs)) (eq-eqb x v e))
    ∙ ap f e)
    (λ ne.
    ap (λ o. option_map_or (λ (y : ℕ × List ℕ). y.1) o [])
    (cond-false (eqb x v) (Some (x, f x)) (find (λ (y : ℕ × List ℕ). eqb y.0 v) (map (λ z. (z, f z)) vs))
    (ne_eqb x v ne))
    ∙ list_of_row f vs v (⊎_elim (λ e. absurd (ne e)) (λ k. k) h))
    (cases_eq x v)
