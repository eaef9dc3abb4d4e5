-- Moves of ends of edges, as exchanges under the names of the edges.
use Rattle.std.proofs.Common.{◌≡◌, ℕ, true, cond, eqb, List, [], ◌∷◌, map, sym, refl, ap, ◌∙◌, subst}
use Rattle.std.specs.Prelude.{Some, None}
use Rattle.std.proofs.lemmas.Bool.{cond-true, cond-false, cond_both}
use Rattle.cp_board.specs.declared.parts.EdgeRow.{EdgeRow}
use Rattle.cp_board.specs.declared.rewrite.EdgeMove.{EdgeMove}
use Rattle.cp_board.specs.Instances.{names_of_edges}
use Rattle.cp_board.specs.Rewrites.{moved_end}
use Rattle.cp_board.proofs.ListTests.{rises}
use Rattle.cp_board.proofs.NamedLists.{under_all-rises, rises_after}
use Rattle.cp_store.specs.Exchanges.{under, exchanged}
use Rattle.cp_store.proofs.ExchangedItems.{Some-same, None-Some, under-named, under-below, exchanged-one}
use Rattle.std.proofs.lemmas.Bool.{eqb-true}

-- the name of an edge
abbrev pub row_name : EdgeRow → ℕ
row_name e = e.name

-- a move keeps the name of an edge
pub moved_end-name : (m : EdgeMove) (e : EdgeRow) → (moved_end m e).name ≡ e.name
moved_end-name m e =
    cond_both (eqb e.name m.edge) (cond (eqb e.a m.from) (record { name = e.name; a = m.to; b = e.b })
    (record { name = e.name; a = e.a; b = m.to })) e (λ (f : EdgeRow). f.name ≡ e.name)
    (λ t. cond_both (eqb e.a m.from) (record { name = e.name; a = m.to; b = e.b })
    (record { name = e.name; a = e.a; b = m.to }) (λ (f : EdgeRow). f.name ≡ e.name) (λ u. refl) (λ u. refl))
    (λ f. refl)

-- where no edge has the name, a move changes nothing, and neither does an exchange
moved-other : (m : EdgeMove) (y : EdgeRow) (es : List EdgeRow) → under row_name m.edge es ≡ None
    → map (λ (z : EdgeRow). cond (eqb z.name m.edge) y z) es ≡ map (moved_end m) es
moved-other m y [] none = refl
moved-other m y (e ∷ es) none =
    cond_both (eqb e.name m.edge) (Some e) (under row_name m.edge es)
    (λ o. o ≡ None → map (λ (z : EdgeRow). cond (eqb z.name m.edge) y z) (e ∷ es) ≡ map (moved_end m) (e ∷ es))
    (λ t h. absurd (None-Some e (sym h)))
    (λ f h. ap (λ z. z ∷ map (λ (z : EdgeRow). cond (eqb z.name m.edge) y z) es)
    (cond-false (eqb e.name m.edge) y e f ∙ sym (cond-false (eqb e.name m.edge) _ e f))
    ∙ ap (λ zs. moved_end m e ∷ zs) (moved-other m y es h)) none

-- a move changes the edge of its name
moved-one : (m : EdgeMove) (es : List EdgeRow) (row : EdgeRow) → rises (names_of_edges es) ≡ true
    → under row_name m.edge es ≡ Some row
    → map (λ (z : EdgeRow). cond (eqb z.name m.edge) (moved_end m row) z) es ≡ map (moved_end m) es
moved-one m [] row up found = absurd (None-Some row found)
moved-one m (e ∷ es) row up found =
    cond_both (eqb e.name m.edge) (Some e) (under row_name m.edge es)
    (λ o. o ≡ Some row → map (λ (z : EdgeRow). cond (eqb z.name m.edge) (moved_end m row) z) (e ∷ es)
    ≡ map (moved_end m) (e ∷ es))
    (λ t h.
    let none : under row_name m.edge es ≡ None =
    subst (λ n. under row_name n es ≡ None) (eqb-true e.name m.edge t)
    (under-below row_name e.name es (under_all-rises row_name e.name es up)) in
    ap (λ z. z ∷ map (λ (z : EdgeRow). cond (eqb z.name m.edge) (moved_end m row) z) es)
    (cond-true (eqb e.name m.edge) (moved_end m row) e t ∙ ap (moved_end m) (sym (Some-same e row h)))
    ∙ ap (λ zs. moved_end m e ∷ zs) (moved-other m (moved_end m row) es none))
    (λ f h. ap (λ z. z ∷ map (λ (z : EdgeRow). cond (eqb z.name m.edge) (moved_end m row) z) es)
    (cond-false (eqb e.name m.edge) (moved_end m row) e f ∙ sym (cond-false (eqb e.name m.edge) _ e f))
    ∙ ap (λ zs. moved_end m e ∷ zs) (moved-one m es row (rises_after row_name e es up) h)) found

-- a move is an exchange under the name of its edge
pub moved-exchanged : (m : EdgeMove) (es : List EdgeRow) (row : EdgeRow) → rises (names_of_edges es) ≡ true
    → under row_name m.edge es ≡ Some row
    → exchanged row_name m.edge (Some (moved_end m row)) es ≡ map (moved_end m) es
moved-exchanged m es row up found =
    exchanged-one row_name m.edge es row (moved_end m row) up found
    (moved_end-name m row ∙ under-named row_name m.edge es row found)
    ∙ moved-one m es row up found
