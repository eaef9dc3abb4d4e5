-- Moves of the edges of a vertex, each to a vertex of its own.
use Rattle.std.proofs.Common.{◌≡◌, ◌≢◌, ℕ, Bool, true, false, ◌||◌, cond, eqb, List, [], ◌∷◌, ◌++◌, map, sym, refl, ap, ◌∙◌, subst, inl, inr, ⊎_elim}
use Rattle.std.specs.List.{All, Contains}
use Rattle.std.proofs.lemmas.Bool.{cases_eq, cond_both, cond-false, eq-eqb, ne_eqb, eqb-true}
use Rattle.std.proofs.lemmas.List.Elements.{All-nil, All-cons, All-head, All-tail}
use Rattle.cp_lists.specs.CyclicLists.{Distinct, Has, Lacks}
use Rattle.cp_conn.proofs.NamedGraphs.{map_has}
use Rattle.cp_board.specs.declared.parts.EdgeRow.{EdgeRow}
use Rattle.cp_board.specs.declared.rewrite.EdgeMove.{EdgeMove}
use Rattle.cp_board.specs.Names.{has}
use Rattle.cp_board.specs.Rewrites.{moved_end, after_moves, IsMove, AreMoves}
use Rattle.cp_board.proofs.EdgesOfVertices.{touch}

-- the move of an edge
abbrev pub move : ℕ → ℕ → ℕ → EdgeMove
move e u v = record { edge = e; from = u; to = v }

-- an edge after some moves
abbrev pub moved_by : List EdgeMove → EdgeRow → EdgeRow
moved_by [] e = e
moved_by (m ∷ ms) e = moved_by ms (moved_end m e)

-- one more move of all rows
map_moved : (ms : List EdgeMove) (m : EdgeMove) (es : List EdgeRow)
    → map (moved_by ms) (map (moved_end m) es) ≡ map (moved_by (m ∷ ms)) es
map_moved ms m [] = refl
map_moved ms m (e ∷ es) = ap (λ zs. moved_by ms (moved_end m e) ∷ zs) (map_moved ms m es)

-- no move leaves all rows
map_same : (es : List EdgeRow) → es ≡ map (moved_by []) es
map_same [] = refl
map_same (e ∷ es) = ap (λ zs. e ∷ zs) (map_same es)

-- each edge moves by itself
pub after_moves-map : (ms : List EdgeMove) (es : List EdgeRow) → after_moves ms es ≡ map (moved_by ms) es
after_moves-map [] es = map_same es
after_moves-map (m ∷ ms) es = after_moves-map ms (map (moved_end m) es) ∙ map_moved ms m es

-- moves one after the other
pub moved_by-append : (ms ns : List EdgeMove) (e : EdgeRow) → moved_by (ms ++ ns) e ≡ moved_by ns (moved_by ms e)
moved_by-append [] ns e = refl
moved_by-append (m ∷ ms) ns e = moved_by-append ms ns (moved_end m e)

-- a move keeps names, and changes no edge of another name
pub moved_end-name : (m : EdgeMove) (e : EdgeRow) → (moved_end m e).name ≡ e.name
moved_end-name m e =
    cond_both (eqb e.name m.edge)
    (cond (eqb e.a m.from) (record { name = e.name; a = m.to; b = e.b }) (record { name = e.name; a = e.a; b = m.to }))
    e (λ (f : EdgeRow). f.name ≡ e.name)
    (λ t. cond_both (eqb e.a m.from) (record { name = e.name; a = m.to; b = e.b })
    (record { name = e.name; a = e.a; b = m.to }) (λ (f : EdgeRow). f.name ≡ e.name) (λ u. refl) (λ u. refl))
    (λ f. refl)

-- the move of another edge leaves a row
pub moved_end-other : (m : EdgeMove) (e : EdgeRow) → e.name ≢ m.edge → moved_end m e ≡ e
moved_end-other m e ne = cond-false (eqb e.name m.edge) _ e (ne_eqb e.name m.edge ne)

-- the moves of some edges of u, each to its vertex
abbrev pub moves_by : (ℕ → ℕ) → ℕ → List ℕ → List EdgeMove
moves_by to u edges = map (λ e. move e u (to e)) edges

-- the moves of edges of other names leave a row
moved_by_none : (to : ℕ → ℕ) (u : ℕ) (edges : List ℕ) (e : EdgeRow) → Lacks e.name edges
    → moved_by (moves_by to u edges) e ≡ e
moved_by_none to u [] e off = refl
moved_by_none to u (x ∷ xs) e off =
    ap (moved_by (moves_by to u xs)) (moved_end-other (move x u (to x)) e (λ same. off.0 (sym same)))
    ∙ moved_by_none to u xs e off.1

-- an edge of different ones moves once
pub moved_once : (to : ℕ → ℕ) (u : ℕ) (edges : List ℕ) (e : EdgeRow) → Distinct edges
    → moved_by (moves_by to u edges) e ≡ cond (has edges e.name) (moved_end (move e.name u (to e.name)) e) e
moved_once to u [] e once = refl
moved_once to u (x ∷ xs) e once =
    ⊎_elim
    (λ (same : e.name ≡ x).
    moved_by_none to u xs (moved_end (move x u (to x)) e)
    (subst (λ n. Lacks n xs) (sym (moved_end-name (move x u (to x)) e ∙ same)) once.0)
    ∙ ap (λ n. moved_end (move n u (to n)) e) (sym same)
    ∙ sym (ap (λ b. cond (b || has xs e.name) (moved_end (move e.name u (to e.name)) e) e) (eq-eqb e.name x same)))
    (λ other.
    ap (moved_by (moves_by to u xs)) (moved_end-other (move x u (to x)) e other)
    ∙ moved_once to u xs e once.1
    ∙ sym (ap (λ b. cond (b || has xs e.name) (moved_end (move e.name u (to e.name)) e) e) (ne_eqb e.name x other)))
    (cases_eq e.name x)

-- what holds of the move of each of some edges holds of all moves
pub All-moves_by : (holds : EdgeMove → Type 0) (to : ℕ → ℕ) (u : ℕ) (edges : List ℕ)
    → ((e : ℕ) → Has e edges → holds (move e u (to e))) → All holds (moves_by to u edges)
All-moves_by holds to u [] each = All-nil holds
All-moves_by holds to u (x ∷ xs) each =
    All-cons holds (move x u (to x)) (moves_by to u xs) (each x (inl refl))
    (All-moves_by holds to u xs (λ e h. each e (inr h)))

-- the edges that move, in their order
pub edges_moved : (to : ℕ → ℕ) (u : ℕ) (edges : List ℕ) → map (λ m. m.edge) (moves_by to u edges) ≡ edges
edges_moved to u [] = refl
edges_moved to u (x ∷ xs) = ap (λ zs. x ∷ zs) (edges_moved to u xs)

-- a move of another edge leaves a move one
IsMove-later : (verts : List ℕ) (es : List EdgeRow) (m n : EdgeMove) → n.edge ≢ m.edge → IsMove verts es n
    → IsMove verts (map (moved_end m) es) n
IsMove-later verts es m n other is = record {
  edge = is.edge;
  live = subst (Contains (map (moved_end m) es)) (moved_end-other m is.edge (λ e. other (sym is.named ∙ e)))
      (map_has (moved_end m) es is.edge is.live);
  named = is.named;
  ends = is.ends;
  vertex = is.vertex;
}

-- moves of different edges are moves one after another
pub AreMoves-apart : (verts : List ℕ) (ms : List EdgeMove) (es : List EdgeRow) → Distinct (map (λ m. m.edge) ms)
    → All (IsMove verts es) ms → AreMoves verts es ms
AreMoves-apart verts [] es once all = tt
AreMoves-apart verts (m ∷ ms) es once all = (
  All-head (IsMove verts es) m ms all,
  AreMoves-apart verts ms (map (moved_end m) es) once.1
      (later ms once.0 (All-tail (IsMove verts es) m ms all)),
)
  where
    later : (ns : List EdgeMove) → Lacks m.edge (map (λ n. n.edge) ns) → All (IsMove verts es) ns
        → All (IsMove verts (map (moved_end m) es)) ns
    later [] lacks h = All-nil (IsMove verts (map (moved_end m) es))
    later (n ∷ ns) lacks h =
        All-cons (IsMove verts (map (moved_end m) es)) n ns
        (IsMove-later verts es m n lacks.0 (All-head (IsMove verts es) n ns h))
        (later ns lacks.1 (All-tail (IsMove verts es) n ns h))

-- moves, and more behind them
pub AreMoves-append : (verts : List ℕ) (ms ns : List EdgeMove) (es : List EdgeRow) → AreMoves verts es ms
    → AreMoves verts (after_moves ms es) ns → AreMoves verts es (ms ++ ns)
AreMoves-append verts [] ns es are behind = behind
AreMoves-append verts (m ∷ ms) ns es are behind =
    (are.0, AreMoves-append verts ms ns (map (moved_end m) es) are.1 behind)

-- the end of an edge, where those at u move to v
abbrev pub end_to : ℕ → ℕ → ℕ → ℕ
end_to u v x = cond (eqb x u) v x

-- the row of an edge, where its ends at u move to v
abbrev pub row_to : ℕ → ℕ → EdgeRow → EdgeRow
row_to u v e = record { name = e.name; a = end_to u v e.a; b = end_to u v e.b }

-- one move of an edge that may end at u
pub moved_row_to : (u v : ℕ) (e : EdgeRow) (b : Bool) → (e.a ≡ u → e.b ≡ u → ⊥) → b ≡ touch u e
    → cond b (moved_end (move e.name u v) e) e ≡ row_to u v e
moved_row_to u v e b one tells =
    by_tests (eqb e.name e.name) (eqb e.a u) (eqb e.b u) b (eq-eqb e.name e.name refl)
    (λ x y. one (eqb-true e.a u x) (eqb-true e.b u y)) tells
  where
    by_tests : (n x y b : Bool) → n ≡ true → (x ≡ true → y ≡ true → ⊥) → b ≡ (x || y)
        → cond b
        (cond n (cond x (record { name = e.name; a = v; b = e.b }) (record { name = e.name; a = e.a; b = v })) e) e
        ≡ record { name = e.name; a = cond x v e.a; b = cond y v e.b }
    by_tests n true true b is both same = absurd (both refl refl)
    by_tests n true false true is both same =
        ap (λ m. cond m (record { name = e.name; a = v; b = e.b }) e) is
    by_tests n true false false is both same = cc
    by_tests n false true true is both same =
        ap (λ m. cond m (record { name = e.name; a = e.a; b = v }) e) is
    by_tests n false true false is both same = cc
    by_tests n false false true is both same = cc
    by_tests n false false false is both same = refl

-- two functions that agree on all items
pub map_agree : (f g : EdgeRow → EdgeRow) (es : List EdgeRow) → All (λ e. f e ≡ g e) es → map f es ≡ map g es
map_agree f g [] all = refl
map_agree f g (e ∷ es) all =
    ap (λ x. x ∷ map f es) (All-head (λ z. f z ≡ g z) e es all)
    ∙ ap (λ xs. g e ∷ xs) (map_agree f g es (All-tail (λ z. f z ≡ g z) e es all))
