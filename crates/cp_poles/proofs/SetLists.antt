-- Named lists where one is exchanged.
use Rattle.std.proofs.Common.{◌≡◌, ◌≢◌, ℕ, cond, eqb, List, [], ◌∷◌, map, sym, refl, ap, ◌∙◌, ⊎_elim, subst, arith}
use Rattle.std.specs.Prelude.{Some, find}
use Rattle.std.specs.List.{Contains}
use Rattle.std.specs.Option.{option_map_or}
use Rattle.std.proofs.lemmas.Bool.{cases_eq, cond-false, cond-true, eq-eqb, ne_eqb}
use Rattle.cp_orbits.proofs.ClassLabels.{Contains-cons_cases}
use Rattle.cp_board.specs.Solutions.{list_in, with_list}

-- the row of a name, after the exchange
abbrev set_row : ℕ → List ℕ → ℕ × List ℕ → ℕ × List ℕ
set_row v list x = cond (eqb x.0 v) (v, list) x

-- the list of v is exchanged
set_row-yes : (v : ℕ) (list : List ℕ) (x : ℕ × List ℕ) → x.0 ≡ v → set_row v list x ≡ (v, list)
set_row-yes v list x e = cond-true (eqb x.0 v) (v, list) x (eq-eqb x.0 v e)

-- another row stays
set_row-no : (v : ℕ) (list : List ℕ) (x : ℕ × List ℕ) → x.0 ≢ v → set_row v list x ≡ x
set_row-no v list x ne = cond-false (eqb x.0 v) (v, list) x (ne_eqb x.0 v ne)

-- the names stay
pub names-with_list : (v : ℕ) (list : List ℕ) (rows : List (ℕ × List ℕ))
    → map (λ x. x.0) (with_list v list rows) ≡ map (λ x. x.0) rows
names-with_list v list [] = refl
names-with_list v list (x ∷ rows) =
    ap (λ n. n ∷ map (λ y. y.0) (with_list v list rows))
    (⊎_elim (λ e. ap (λ y. y.0) (set_row-yes v list x e) ∙ sym e) (λ ne. ap (λ y. y.0) (set_row-no v list x ne))
    (cases_eq x.0 v))
    ∙ ap (λ ns. x.0 ∷ ns) (names-with_list v list rows)

-- what is found first
list_in-first : (x : ℕ × List ℕ) (rows : List (ℕ × List ℕ)) (w : ℕ) → x.0 ≡ w → list_in (x ∷ rows) w ≡ x.1
list_in-first x rows w e =
    ap (λ o. option_map_or (λ y. y.1) o [])
    (cond-true (eqb x.0 w) (Some x) (find (λ y. eqb y.0 w) rows) (eq-eqb x.0 w e))

-- or later
list_in-later : (x : ℕ × List ℕ) (rows : List (ℕ × List ℕ)) (w : ℕ) → x.0 ≢ w → list_in (x ∷ rows) w ≡ list_in rows w
list_in-later x rows w ne =
    ap (λ o. option_map_or (λ y. y.1) o [])
    (cond-false (eqb x.0 w) (Some x) (find (λ y. eqb y.0 w) rows) (ne_eqb x.0 w ne))

-- the name has the new list
pub list_in-same : (v : ℕ) (list : List ℕ) (rows : List (ℕ × List ℕ)) → Contains (map (λ x. x.0) rows) v
    → list_in (with_list v list rows) v ≡ list
list_in-same v list [] c = absurd (omega (arith, c.1))
list_in-same v list (x ∷ rows) c = ⊎_elim
    (λ e. ap (λ y. list_in (y ∷ with_list v list rows) v) (set_row-yes v list x e)
    ∙ list_in-first (v, list) (with_list v list rows) v refl)
    (λ ne. ap (λ y. list_in (y ∷ with_list v list rows) v) (set_row-no v list x ne)
    ∙ list_in-later x (with_list v list rows) v ne
    ∙ list_in-same v list rows
    (⊎_elim (λ e. absurd (ne e)) (λ k. k) (Contains-cons_cases x.0 v (map (λ y. y.0) rows) c)))
    (cases_eq x.0 v)

-- other names keep theirs
pub list_in-other : (v : ℕ) (list : List ℕ) (rows : List (ℕ × List ℕ)) (w : ℕ) → w ≢ v
    → list_in (with_list v list rows) w ≡ list_in rows w
list_in-other v list [] w ne = refl
list_in-other v list (x ∷ rows) w ne = ⊎_elim
    (λ e. ap (λ y. list_in (y ∷ with_list v list rows) w) (set_row-yes v list x e)
    ∙ list_in-later (v, list) (with_list v list rows) w (λ k. ne (sym k))
    ∙ list_in-other v list rows w ne
    ∙ sym (list_in-later x rows w (λ k. ne (sym k ∙ e))))
    (λ nx. ap (λ y. list_in (y ∷ with_list v list rows) w) (set_row-no v list x nx)
    ∙ ⊎_elim
    (λ e. list_in-first x (with_list v list rows) w e ∙ sym (list_in-first x rows w e))
    (λ nw. list_in-later x (with_list v list rows) w nw ∙ list_in-other v list rows w ne
    ∙ sym (list_in-later x rows w nw))
    (cases_eq x.0 w))
    (cases_eq x.0 v)

-- each name is still one
pub with_list-has : (v : ℕ) (list : List ℕ) (rows : List (ℕ × List ℕ)) (n : ℕ) → Contains (map (λ x. x.0) rows) n
    → Contains (map (λ x. x.0) (with_list v list rows)) n
with_list-has v list rows n c = subst (λ ns. Contains ns n) (sym (names-with_list v list rows)) c
