-- Moves of ends of edges, one after another.
use Rattle.std.proofs.Common.{◌≡◌, ◌≢◌, ℕ, zero, suc, ◌+◌, ◌<◌, cond, eqb, List, [], ◌∷◌, ◌++◌, length, map, take, slice_index, slice_index_or, slice_set, sym, refl, ap, ◌∙◌, subst, arith}
use Rattle.std.specs.List.{All, Contains}
use Rattle.std.specs.List.Sorted.{IsStrictlyIncreasing}
use Rattle.std.proofs.lemmas.Bool.{cond-false, cond_both, ne_eqb}
use Rattle.std.proofs.lemmas.List.{get_or_default, get_or-map, length-map, take_more}
use Rattle.std.proofs.lemmas.List.Elements.{All-nil, All-cons}
use Rattle.cp_board.specs.declared.parts.EdgeRow.{EdgeRow}
use Rattle.cp_board.specs.declared.rewrite.EdgeMove.{EdgeMove}
use Rattle.cp_board.specs.Instances.{names_of_edges}
use Rattle.cp_board.specs.Rewrites.{moved_end, after_moves, AreMoves}
use Rattle.cp_sync.proofs.Places.{rising_apart}
use Rattle.cp_sync.proofs.NamedRows.{rising_rest}

-- a move keeps the name of an edge
moved_end-name : (m : EdgeMove) (e : EdgeRow) → (moved_end m e).name ≡ e.name
moved_end-name m e =
    cond_both (eqb e.name m.edge) (cond (eqb e.a m.from) (record { name = e.name; a = m.to; b = e.b }) (record { name = e.name; a = e.a; b = m.to })) e (λ (f : EdgeRow). f.name ≡ e.name)
    (λ t. cond_both (eqb e.a m.from) (record { name = e.name; a = m.to; b = e.b }) (record { name = e.name; a = e.a; b = m.to }) (λ (f : EdgeRow). f.name ≡ e.name) (λ u. refl) (λ u. refl))
    (λ f. refl)

-- and changes no edge of another name
moved_end-other : (m : EdgeMove) (e : EdgeRow) → e.name ≢ m.edge → moved_end m e ≡ e
moved_end-other m e ne = cond-false (eqb e.name m.edge) _ e (ne_eqb e.name m.edge ne)

-- all names are kept
pub names-moved : (m : EdgeMove) (es : List EdgeRow) → names_of_edges (map (moved_end m) es) ≡ names_of_edges es
names-moved m [] = refl
names-moved m (e ∷ es) = ap (λ n. n ∷ names_of_edges (map (moved_end m) es)) (moved_end-name m e) ∙ ap (λ ns. e.name ∷ ns) (names-moved m es)

-- and all names are kept by several moves
pub names-after_moves : (ms : List EdgeMove) (es : List EdgeRow)
    → names_of_edges (after_moves ms es) ≡ names_of_edges es
names-after_moves [] es = refl
names-after_moves (m ∷ ms) es = names-after_moves ms (map (moved_end m) es) ∙ names-moved m es

-- one move more
after_moves-append : (ms : List EdgeMove) (m : EdgeMove) (es : List EdgeRow)
    → after_moves (ms ++ m ∷ []) es ≡ map (moved_end m) (after_moves ms es)
after_moves-append [] m es = refl
after_moves-append (n ∷ ms) m es = after_moves-append ms m (map (moved_end n) es)

-- the edges after one move more of a list of moves
pub after_moves-more : (ms : List EdgeMove) (k : ℕ) (m : EdgeMove) (es : List EdgeRow) → k < length ms
    → m ≡ slice_index_or ms k m
    → map (moved_end m) (after_moves (take k ms) es) ≡ after_moves (take (k + 1) ms) es
after_moves-more ms k m es lt is =
    sym (after_moves-append (take k ms) m es)
    ∙ ap (λ ns. after_moves ns es) (sym (take_more ms k m lt ∙ ap (λ x. take k ms ++ x ∷ []) (sym is)))

-- a move changes no edges of other names
moved-none : (m : EdgeMove) (es : List EdgeRow) → ((j : ℕ) → j < length es → slice_index (names_of_edges es) j ≢ m.edge)
    → map (moved_end m) es ≡ es
moved-none m [] none = refl
moved-none m (e ∷ es) none =
    ap (λ f. f ∷ map (moved_end m) es) (moved_end-other m e (none 0 (omega arith)))
    ∙ ap (λ fs. e ∷ fs) (moved-none m es (λ j lt. none (suc j) (omega (arith, lt))))

-- a move changes the edge at the place of its name
pub moved-place : (m : EdgeMove) (es : List EdgeRow) (k : ℕ) (d : EdgeRow) → IsStrictlyIncreasing (names_of_edges es)
    → k < length es
    → slice_index (names_of_edges es) k ≡ m.edge
    → slice_set es k (moved_end m (slice_index_or es k d)) ≡ map (moved_end m) es
moved-place m [] k d up lt at = absurd (omega (arith, lt))
moved-place m (e ∷ es) zero d up lt at =
    ap (λ fs. moved_end m e ∷ fs) (sym (moved-none m es (λ j l h.
    let less = rising_apart (names_of_edges (e ∷ es)) up 0 (suc j) (omega arith) (omega (arith, l, length-map es (λ (x : EdgeRow). x.name))) in
    omega (arith, less, at, h))))
moved-place m (e ∷ es) (suc k) d up lt at =
    let less = rising_apart (names_of_edges (e ∷ es)) up 0 (suc k) (omega arith) (omega (arith, lt, length-map es (λ (x : EdgeRow). x.name))) in
    ap (λ f. f ∷ slice_set es k (moved_end m (slice_index_or es k d))) (sym (moved_end-other m e (λ h. omega (arith, less, at, h))))
    ∙ ap (λ fs. moved_end m e ∷ fs) (moved-place m es k d (rising_rest e.name (names_of_edges es) up) (omega (arith, lt)) at)

-- the name of an edge of the list is one of their names
name_live : (es : List EdgeRow) (e : EdgeRow) (n : ℕ) → Contains es e → e.name ≡ n → Contains (names_of_edges es) n
name_live es e n c is =
    let within : c.0 < length (names_of_edges es) = omega (arith, c.1, length-map es (λ (x : EdgeRow). x.name)) in
    (c.0, within, get_or_default (names_of_edges es) c.0 n 0 within ∙ get_or-map (λ (x : EdgeRow). x.name) es c.0 e 0 c.1 ∙ ap (λ (x : EdgeRow). x.name) c.2 ∙ is)

-- each move names a live edge
pub moves_live : (verts : List ℕ) (es : List EdgeRow) (ms : List EdgeMove) → AreMoves verts es ms
    → All (λ m. Contains (names_of_edges es) m.edge) ms
moves_live verts es [] are = All-nil _
moves_live verts es (m ∷ ms) are =
    All-cons (λ (n : EdgeMove). Contains (names_of_edges es) n.edge) m ms (name_live es are.0.edge m.edge are.0.live are.0.named)
    (subst (λ ns. All (λ (n : EdgeMove). Contains ns n.edge) ms) (names-moved m es) (moves_live verts (map (moved_end m) es) ms are.1))
