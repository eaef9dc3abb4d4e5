-- Moves of the edges of a vertex to the vertices for their parts.
use Rattle.std.proofs.Common.{◌≡◌, ◌≢◌, ℕ, suc, ◌+◌, Bool, true, false, ◌||◌, cond, eqb, List, [], ◌∷◌, ◌++◌, length, map, not, slice_index, sym, refl, ap, ◌∙◌, subst, inl, inr, ⊎_elim, arith}
use Rattle.std.specs.List.{All, Contains}
use Rattle.std.proofs.lemmas.Bool.{cases_eq, cond_both, cond-true, cond-false, eq-eqb, ne_eqb}
use Rattle.std.proofs.lemmas.List.{map-append}
use Rattle.std.proofs.lemmas.List.Elements.{All-nil, All-cons, All-head, All-tail, All-append}
use Rattle.cp_lists.specs.CyclicLists.{Distinct, Has, Lacks}
use Rattle.cp_lists.proofs.DistinctLists.{Distinct-apart, Distinct-append_left, Distinct-append_right, Has-append_left, Has-append_right, has_lacks}
use Rattle.cp_conn.proofs.NamedGraphs.{map_has}
use Rattle.cp_board.specs.declared.parts.EdgeRow.{EdgeRow}
use Rattle.cp_board.specs.declared.rewrite.EdgeMove.{EdgeMove}
use Rattle.cp_board.specs.Names.{has}
use Rattle.cp_board.specs.Joins.{part_of, vertex_for}
use Rattle.cp_board.specs.Rewrites.{moved_end, after_moves, IsMove, AreMoves}
use Rattle.cp_join.specs.Joining.{moves_to, part_moves}
use Rattle.cp_join.proofs.NamedParts.{from_has, has_not}
use Rattle.cp_join.proofs.PartLists.{all_of}

-- the move of an edge
abbrev pub move : ℕ → ℕ → ℕ → EdgeMove
move e u v = record { edge = e; from = u; to = v }

-- an edge after some moves
abbrev pub moved_by : List EdgeMove → EdgeRow → EdgeRow
moved_by [] e = e
moved_by (m ∷ ms) e = moved_by ms (moved_end m e)

-- one more move of all rows
map_moved : (ms : List EdgeMove) (m : EdgeMove) (es : List EdgeRow)
    → map (moved_by ms) (map (moved_end m) es) ≡ map (moved_by (m ∷ ms)) es
map_moved ms m [] = refl
map_moved ms m (e ∷ es) = ap (λ zs. moved_by ms (moved_end m e) ∷ zs) (map_moved ms m es)

-- no move leaves all rows
map_same : (es : List EdgeRow) → es ≡ map (moved_by []) es
map_same [] = refl
map_same (e ∷ es) = ap (λ zs. e ∷ zs) (map_same es)

-- each edge moves by itself
pub after_moves-map : (ms : List EdgeMove) (es : List EdgeRow) → after_moves ms es ≡ map (moved_by ms) es
after_moves-map [] es = map_same es
after_moves-map (m ∷ ms) es = after_moves-map ms (map (moved_end m) es) ∙ map_moved ms m es

-- moves one after the other
pub moved_by-append : (ms ns : List EdgeMove) (e : EdgeRow) → moved_by (ms ++ ns) e ≡ moved_by ns (moved_by ms e)
moved_by-append [] ns e = refl
moved_by-append (m ∷ ms) ns e = moved_by-append ms ns (moved_end m e)

-- a move keeps names, and changes no edge of another name
pub moved_end-name : (m : EdgeMove) (e : EdgeRow) → (moved_end m e).name ≡ e.name
moved_end-name m e =
    cond_both (eqb e.name m.edge)
    (cond (eqb e.a m.from) (record { name = e.name; a = m.to; b = e.b }) (record { name = e.name; a = e.a; b = m.to }))
    e (λ (f : EdgeRow). f.name ≡ e.name)
    (λ t. cond_both (eqb e.a m.from) (record { name = e.name; a = m.to; b = e.b })
    (record { name = e.name; a = e.a; b = m.to }) (λ (f : EdgeRow). f.name ≡ e.name) (λ u. refl) (λ u. refl))
    (λ f. refl)

-- the move of another edge leaves a row
pub moved_end-other : (m : EdgeMove) (e : EdgeRow) → e.name ≢ m.edge → moved_end m e ≡ e
moved_end-other m e ne = cond-false (eqb e.name m.edge) _ e (ne_eqb e.name m.edge ne)

-- so do the moves of a part without it
moved_by_none : (u v : ℕ) (part : List ℕ) (e : EdgeRow) → has part e.name ≡ false → moved_by (moves_to u v part) e ≡ e
moved_by_none u v [] e off = refl
moved_by_none u v (x ∷ xs) e off =
    ap (moved_by (moves_to u v xs)) (moved_end-other (move x u v) e
    (λ same. has_lacks_test (eqb e.name x) (has xs e.name) (eq-eqb e.name x same) off))
    ∙ moved_by_none u v xs e (rest (eqb e.name x) (has xs e.name) off)
  where
    has_lacks_test : (a b : Bool) → a ≡ true → (a || b) ≡ false → ⊥
    has_lacks_test true b t f = cc
    has_lacks_test false b t f = cc

    rest : (a b : Bool) → (a || b) ≡ false → b ≡ false
    rest true b f = cc
    rest false b f = f

-- an edge of one part moves once
pub moved_once : (u v : ℕ) (part : List ℕ) (e : EdgeRow) → Distinct part
    → moved_by (moves_to u v part) e ≡ cond (has part e.name) (moved_end (move e.name u v) e) e
moved_once u v [] e once = refl
moved_once u v (x ∷ xs) e once =
    ⊎_elim
    (λ (same : e.name ≡ x).
    let lacks : has xs (moved_end (move x u v) e).name ≡ false =
    has_not xs (moved_end (move x u v) e).name
    (λ h. has_lacks x xs (subst (λ n. Has n xs) (moved_end-name (move x u v) e ∙ same) h) once.0) in
    moved_by_none u v xs (moved_end (move x u v) e) lacks
    ∙ ap (λ n. moved_end (move n u v) e) (sym same)
    ∙ sym (ap (λ b. cond (b || has xs e.name) (moved_end (move e.name u v) e) e) (eq-eqb e.name x same)))
    (λ other.
    ap (moved_by (moves_to u v xs)) (moved_end-other (move x u v) e other)
    ∙ moved_once u v xs e once.1
    ∙ sym (ap (λ b. cond (b || has xs e.name) (moved_end (move e.name u v) e) e) (ne_eqb e.name x other)))
    (cases_eq e.name x)

-- what holds of no item of two lists
has-append : (n : ℕ) (xs ys : List ℕ) → has (xs ++ ys) n ≡ (has xs n || has ys n)
has-append n [] ys = refl
has-append n (x ∷ xs) ys = ap (λ b. eqb n x || b) (has-append n xs ys) ∙ group (eqb n x) (has xs n) (has ys n)
  where
    group : (a b c : Bool) → (a || (b || c)) ≡ ((a || b) || c)
    group true b c = refl
    group false b c = refl

-- the vertex for an edge of the first part, and of a later one
pub vertex_first : (part : List ℕ) (parts : List (List ℕ)) (v : ℕ) (verts : List ℕ) (n : ℕ) → has part n ≡ true
    → vertex_for (part ∷ parts) (v ∷ verts) n ≡ v
vertex_first part parts v verts n t =
    let first : part_of (part ∷ parts) n ≡ 0 = ap (λ b. cond (not b) (1 + part_of parts n) 0) t in
    ap (slice_index (v ∷ verts)) first

-- the vertex for an edge that is not in the first part
pub vertex_later : (part : List ℕ) (parts : List (List ℕ)) (v : ℕ) (verts : List ℕ) (n : ℕ) → has part n ≡ false
    → vertex_for (part ∷ parts) (v ∷ verts) n ≡ vertex_for parts verts n
vertex_later part parts v verts n f =
    let later : part_of (part ∷ parts) n ≡ 1 + part_of parts n =
    ap (λ b. cond (not b) (1 + part_of parts n) 0) f in
    let next : 1 + part_of parts n ≡ suc (part_of parts n) = omega arith in
    ap (slice_index (v ∷ verts)) (later ∙ next)

-- an edge in one of the parts moves to the vertex for it, and no other moves
pub moved_to_part : (u : ℕ) (verts : List ℕ) (parts : List (List ℕ)) (e : EdgeRow) → length verts ≡ length parts
    → Distinct (all_of parts)
    → moved_by (part_moves u verts parts) e
    ≡ cond (has (all_of parts) e.name) (moved_end (move e.name u (vertex_for parts verts e.name)) e) e
moved_to_part u [] [] e size once = refl
moved_to_part u (v ∷ verts) [] e size once = absurd (omega (arith, size))
moved_to_part u [] (part ∷ parts) e size once = absurd (omega (arith, size))
moved_to_part u (v ∷ verts) (part ∷ parts) e size once =
    moved_by-append (moves_to u v part) (part_moves u verts parts) e
    ∙ ap (moved_by (part_moves u verts parts)) (moved_once u v part e (Distinct-append_left part (all_of parts) once))
    ∙ by_part
    (λ f. moved_to_part u verts parts f (omega (arith, size)) (Distinct-append_right part (all_of parts) once))
    (has part e.name) refl
  where
    by_part : ((f : EdgeRow) → moved_by (part_moves u verts parts) f
        ≡ cond (has (all_of parts) f.name) (moved_end (move f.name u (vertex_for parts verts f.name)) f) f)
        → (b : Bool) → has part e.name ≡ b
        → moved_by (part_moves u verts parts) (cond b (moved_end (move e.name u v) e) e)
        ≡ cond (has (part ++ all_of parts) e.name)
        (moved_end (move e.name u (vertex_for (part ∷ parts) (v ∷ verts) e.name)) e) e
    by_part later true here =
        let f : EdgeRow = moved_end (move e.name u v) e in
        let lacks : has (all_of parts) f.name ≡ false =
        has_not (all_of parts) f.name
        (λ h. has_lacks e.name (all_of parts)
        (subst (λ n. Has n (all_of parts)) (moved_end-name (move e.name u v) e) h)
        (Distinct-apart e.name part (all_of parts) once (from_has part e.name here))) in
        later f
        ∙ cond-false (has (all_of parts) f.name) (moved_end (move f.name u (vertex_for parts verts f.name)) f) f lacks
        ∙ ap (λ w. moved_end (move e.name u w) e) (sym (vertex_first part parts v verts e.name here))
        ∙ sym (cond-true (has (part ++ all_of parts) e.name)
        (moved_end (move e.name u (vertex_for (part ∷ parts) (v ∷ verts) e.name)) e) e
        (has-append e.name part (all_of parts) ∙ ap (λ b. b || has (all_of parts) e.name) here))
    by_part later false off =
        later e
        ∙ ap (λ w. cond (has (all_of parts) e.name) (moved_end (move e.name u w) e) e) (sym (vertex_later part parts v verts e.name off))
        ∙ ap (λ b. cond b (moved_end (move e.name u (vertex_for (part ∷ parts) (v ∷ verts) e.name)) e) e)
        (sym (has-append e.name part (all_of parts) ∙ ap (λ b. b || has (all_of parts) e.name) off))

-- what holds of the move of each item to each vertex holds of all moves
pub All-part_moves : (holds : EdgeMove → Type 0) (u : ℕ) (verts : List ℕ) (parts : List (List ℕ))
    → ((e v : ℕ) → Has e (all_of parts) → Has v verts → holds (move e u v))
    → All holds (part_moves u verts parts)
All-part_moves holds u [] parts each = All-nil holds
All-part_moves holds u (v ∷ verts) [] each = All-nil holds
All-part_moves holds u (v ∷ verts) (part ∷ parts) each =
    All-append holds (moves_to u v part) (part_moves u verts parts)
    (All-moves_to part (λ e h. each e v (Has-append_left e part (all_of parts) h) (inl refl)))
    (All-part_moves holds u verts parts (λ e w h k. each e w (Has-append_right e part (all_of parts) h) (inr k)))
  where
    All-moves_to : (xs : List ℕ) → ((e : ℕ) → Has e xs → holds (move e u v)) → All holds (moves_to u v xs)
    All-moves_to [] one = All-nil holds
    All-moves_to (x ∷ xs) one =
        All-cons holds (move x u v) (moves_to u v xs) (one x (inl refl)) (All-moves_to xs (λ e h. one e (inr h)))

-- the edges that move are the items of the parts, in their order
pub edges_moved : (u : ℕ) (verts : List ℕ) (parts : List (List ℕ)) → length verts ≡ length parts
    → map (λ m. m.edge) (part_moves u verts parts) ≡ all_of parts
edges_moved u [] [] size = refl
edges_moved u (v ∷ verts) [] size = absurd (omega (arith, size))
edges_moved u [] (part ∷ parts) size = absurd (omega (arith, size))
edges_moved u (v ∷ verts) (part ∷ parts) size =
    map-append (λ (m : EdgeMove). m.edge) (moves_to u v part) (part_moves u verts parts)
    ∙ ap (λ zs. zs ++ map (λ (m : EdgeMove). m.edge) (part_moves u verts parts)) (those part)
    ∙ ap (λ zs. part ++ zs) (edges_moved u verts parts (omega (arith, size)))
  where
    those : (xs : List ℕ) → map (λ (m : EdgeMove). m.edge) (moves_to u v xs) ≡ xs
    those [] = refl
    those (x ∷ xs) = ap (λ zs. x ∷ zs) (those xs)

-- a move of another edge leaves a move one
IsMove-later : (verts : List ℕ) (es : List EdgeRow) (m n : EdgeMove) → n.edge ≢ m.edge → IsMove verts es n
    → IsMove verts (map (moved_end m) es) n
IsMove-later verts es m n other is = record {
  edge = is.edge;
  live = subst (Contains (map (moved_end m) es)) (moved_end-other m is.edge (λ e. other (sym is.named ∙ e)))
      (map_has (moved_end m) es is.edge is.live);
  named = is.named;
  ends = is.ends;
  vertex = is.vertex;
}

-- moves of different edges are moves one after another
pub AreMoves-apart : (verts : List ℕ) (ms : List EdgeMove) (es : List EdgeRow) → Distinct (map (λ m. m.edge) ms)
    → All (IsMove verts es) ms → AreMoves verts es ms
AreMoves-apart verts [] es once all = tt
AreMoves-apart verts (m ∷ ms) es once all = (
  All-head (IsMove verts es) m ms all,
  AreMoves-apart verts ms (map (moved_end m) es) once.1
      (later ms once.0 (All-tail (IsMove verts es) m ms all)),
)
  where
    later : (ns : List EdgeMove) → Lacks m.edge (map (λ n. n.edge) ns) → All (IsMove verts es) ns
        → All (IsMove verts (map (moved_end m) es)) ns
    later [] lacks h = All-nil (IsMove verts (map (moved_end m) es))
    later (n ∷ ns) lacks h =
        All-cons (IsMove verts (map (moved_end m) es)) n ns
        (IsMove-later verts es m n lacks.0 (All-head (IsMove verts es) n ns h))
        (later ns lacks.1 (All-tail (IsMove verts es) n ns h))

-- moves, and more behind them
pub AreMoves-append : (verts : List ℕ) (ms ns : List EdgeMove) (es : List EdgeRow) → AreMoves verts es ms
    → AreMoves verts (after_moves ms es) ns → AreMoves verts es (ms ++ ns)
AreMoves-append verts [] ns es are behind = behind
AreMoves-append verts (m ∷ ms) ns es are behind =
    (are.0, AreMoves-append verts ms ns (map (moved_end m) es) are.1 behind)
