-- The lists of vertices by number: renamed, parted, and with one vertex in front.
use Rattle.std.proofs.Common.{◌≡◌, ℕ, zero, suc, ◌+◌, ◌-◌, ◌<◌, List, [], ◌∷◌, ◌++◌, map, sym, refl, ap, ap₂, ◌∙◌, subst, ⊎_elim, arith}
use Rattle.std.proofs.lemmas.Bool.{cases_eq}
use Rattle.cp_lists.specs.CyclicLists.{Has}
use Rattle.cp_lists.specs.Rows.{flat}
use Rattle.cp_lists.proofs.DistinctLists.{Has-append_left, Has-append_right}
use Rattle.cp_maplaw.specs.Systems.{rows_upto}
use Rattle.cp_rotlaw.specs.GlueTables.{old_vertex}
use Rattle.cp_rotlaw.proofs.GluedNumbers.{old_vertex_low, old_vertex_high}

-- lists that agree below v are the same lists
rows_upto-agree : (lists others : ℕ → List ℕ) (v : ℕ) → ((x : ℕ) → x < v → lists x ≡ others x)
    → rows_upto lists v ≡ rows_upto others v
rows_upto-agree lists others zero same = refl
rows_upto-agree lists others (suc v) same =
    ap₂ (λ ys rows. ys ∷ rows) (same v (omega arith)) (rows_upto-agree lists others v (λ x lt. same x (omega arith)))

-- an item of one of the lists is an item
pub rows_upto-Has : (lists : ℕ → List ℕ) (v x d : ℕ) → x < v → Has d (lists x) → Has d (flat (rows_upto lists v))
rows_upto-Has lists zero x d lt h = absurd (omega arith)
rows_upto-Has lists (suc v) x d lt h = ⊎_elim
    (λ e. Has-append_left d (lists v) (flat (rows_upto lists v)) (subst (λ y. Has d (lists y)) e h))
    (λ ne. Has-append_right d (lists v) (flat (rows_upto lists v)) (rows_upto-Has lists v x d (omega arith) h))
    (cases_eq x v)

-- lists under names, one by one
pub rows_upto-map : (h : ℕ → ℕ) (lists : ℕ → List ℕ) (v : ℕ)
    → map (map h) (rows_upto lists v) ≡ rows_upto (λ x. map h (lists x)) v
rows_upto-map h lists zero = refl
rows_upto-map h lists (suc v) = ap (λ rows. map h (lists v) ∷ rows) (rows_upto-map h lists v)

-- lists that are the same, each under its names, are the same under their names
pub rows_upto-names : (h k : ℕ → ℕ) (lists others : ℕ → List ℕ) (v : ℕ)
    → ((x : ℕ) → x < v → map h (lists x) ≡ map k (others x))
    → map (map h) (rows_upto lists v) ≡ map (map k) (rows_upto others v)
rows_upto-names h k lists others v same =
    rows_upto-map h lists v ∙ rows_upto-agree (λ x. map h (lists x)) (λ x. map k (others x)) v same
    ∙ sym (rows_upto-map k others v)

-- the lists of some vertices more come in front
pub rows_upto-more : (lists : ℕ → List ℕ) (v w : ℕ)
    → rows_upto lists (v + w) ≡ rows_upto (λ x. lists (v + x)) w ++ rows_upto lists v
rows_upto-more lists v zero = let e : v + 0 ≡ v = omega arith in ap (rows_upto lists) e
rows_upto-more lists v (suc w) =
    let e : v + suc w ≡ suc (v + w) = omega arith in
    ap (rows_upto lists) e ∙ ap (λ rows. lists (v + w) ∷ rows) (rows_upto-more lists v w)

-- the list of vertex u stands among the others, which keep their order
pub rows_upto-among : (lists : ℕ → List ℕ) (v u : ℕ) → u < v → (before : List (List ℕ)) × (behind : List (List ℕ))
    × (rows_upto lists v ≡ before ++ lists u ∷ behind)
    × (rows_upto (λ x. lists (old_vertex u x)) (v - 1) ≡ before ++ behind)
rows_upto-among lists zero u lt = absurd (omega arith)
rows_upto-among lists (suc v) u lt = ⊎_elim
    (λ e. (
      [],
      rows_upto lists v,
      ap (λ ys. ys ∷ rows_upto lists v) (ap lists (sym e)),
      ap (rows_upto (λ x. lists (old_vertex u x))) less
          ∙ rows_upto-agree (λ x. lists (old_vertex u x)) lists v
          (λ x ltx. ap lists (old_vertex_low u x (omega arith))),
    ))
    (λ ne.
    let w = rows_upto-among lists v u (omega arith) in
    let one : v ≡ suc (v - 1) = omega arith in
    let last : old_vertex u (v - 1) ≡ v = old_vertex_high u (v - 1) (omega arith) ∙ omega arith in (
      lists v ∷ w.0,
      w.1,
      ap (λ rows. lists v ∷ rows) w.2,
      ap (rows_upto (λ x. lists (old_vertex u x))) (less ∙ one)
          ∙ ap₂ (λ ys rows. ys ∷ rows) (ap lists last) w.3,
    ))
    (cases_eq u v)
  where
    less : suc v - 1 ≡ v
    less = omega arith
