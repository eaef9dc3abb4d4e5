-- The first Join of the worked run is a rewrite of its first instance, and lists arrange the edges of a bond.
use Rattle.std.proofs.Common.{◌≡◌, ℕ, zero, suc, Bool, true, not, ◌&&◌, ◌||◌, eqb, List, [], ◌∷◌, map, refl, inl, inr, ⊎_elim, arith}
use Rattle.std.specs.List.{All, Contains, list_any}
use Rattle.std.proofs.lemmas.Bool.{false≢true, and_parts, or_cases, eqb-true, eqb-false, not-true}
use Rattle.std.proofs.lemmas.List.Elements.{All-nil}
use Rattle.cp_board.specs.declared.parts.EdgeRow.{EdgeRow}
use Rattle.cp_board.specs.declared.rewrite.EdgeMove.{EdgeMove}
use Rattle.cp_board.specs.Names.{has}
use Rattle.cp_board.specs.Instances.{IsSynchronized, graph, vert_names, pipe_names, edges_of}
use Rattle.cp_board.specs.Rotations.{ArrangesEdges}
use Rattle.cp_board.specs.Solutions.{list_in}
use Rattle.cp_board.specs.Rewrites.{AreMoves, moved_end, rewritten, IsRewriteOf, verts_with}
use Rattle.cp_board.specs.Rows as rows
use Rattle.cp_board.proofs.ListTests.{All-from_test, Contains-from_has, Distinct-from_test}
use Rattle.cp_board.proofs.NamedLists.{arranged}
use Rattle.cp_sync.specs.WorkedRows.{first_join, bond, bond_lists}

-- the rewrite makes the instance after the Join of the first one
pub first_join-rewritten : rewritten first_join rows.first ≡ rows.joined
first_join-rewritten = refl

-- an edge that passes a test
found_by : (t : EdgeRow → Bool) (es : List EdgeRow) → list_any t es ≡ true
    → (e : EdgeRow) × Contains es e × (t e ≡ true)
found_by t [] h = absurd (false≢true h)
found_by t (x ∷ xs) h =
    ⊎_elim (λ p. (x, (0, omega arith, refl), p))
    (λ p. let r = found_by t xs p in (r.0, (suc r.1.0, omega (arith, r.1.1), r.1.2), r.2)) (or_cases (t x) (list_any t xs) h)

-- the edge is the one that moves, and its other end is not where this one goes
abbrev moves_edge : EdgeMove → EdgeRow → Bool
moves_edge m e = eqb e.name m.edge && ((eqb e.a m.from && not (eqb e.b m.to)) || (eqb e.b m.from && not (eqb e.a m.to)))

-- the test of moves, one after another
abbrev are_moves : List ℕ → List EdgeRow → List EdgeMove → Bool
are_moves verts es [] = true
are_moves verts es (m ∷ ms) = list_any (moves_edge m) es && (has verts m.to && are_moves verts (map (moved_end m) es) ms)

-- what the test tells
AreMoves-from_test : (verts : List ℕ) (es : List EdgeRow) (ms : List EdgeMove) → are_moves verts es ms ≡ true
    → AreMoves verts es ms
AreMoves-from_test verts es [] t = tt
AreMoves-from_test verts es (m ∷ ms) t =
    let p = and_parts (list_any (moves_edge m) es) (has verts m.to && are_moves verts (map (moved_end m) es) ms) t in
    let q = and_parts (has verts m.to) (are_moves verts (map (moved_end m) es) ms) p.1 in
    let f = found_by (moves_edge m) es p.0 in
    let e = f.0 in
    let h = and_parts (eqb e.name m.edge) ((eqb e.a m.from && not (eqb e.b m.to)) || (eqb e.b m.from && not (eqb e.a m.to))) f.2 in (
      record {
        edge = e;
        live = f.1;
        named = eqb-true e.name m.edge h.0;
        ends = ⊎_elim
            (λ a. let k = and_parts (eqb e.a m.from) (not (eqb e.b m.to)) a in inl (eqb-true e.a m.from k.0, eqb-false e.b m.to (not-true (eqb e.b m.to) k.1)))
            (λ b. let k = and_parts (eqb e.b m.from) (not (eqb e.a m.to)) b in inr (eqb-true e.b m.from k.0, eqb-false e.a m.to (not-true (eqb e.a m.to) k.1)))
            (or_cases (eqb e.a m.from && not (eqb e.b m.to)) (eqb e.b m.from && not (eqb e.a m.to)) h.1);
        vertex = Contains-from_has verts m.to q.0;
      },
      AreMoves-from_test verts (map (moved_end m) es) ms q.1,
    )

-- it fits the first instance
pub IsRewriteOf-first_join : IsSynchronized rows.joined → IsRewriteOf rows.first first_join
IsRewriteOf-first_join keeps = record {
  pipes_live = All-from_test (Contains (pipe_names rows.first)) (has (pipe_names rows.first)) (Contains-from_has (pipe_names rows.first)) first_join.drop_pipes refl;
  pipes_once = Distinct-from_test first_join.drop_pipes refl;
  verts_live = All-from_test (Contains (vert_names rows.first)) (has (vert_names rows.first)) (Contains-from_has (vert_names rows.first)) first_join.drop_verts refl;
  verts_once = Distinct-from_test first_join.drop_verts refl;
  moves = AreMoves-from_test (verts_with first_join rows.first) rows.first.edges first_join.moves refl;
  kinds_live = All-nil _;
  kinds_once = tt;
  rules = keeps;
  new_verts = refl;
  new_edges = refl;
  new_pipes = refl;
  new_cells = refl;
}

-- the lists arrange the edges of the bond
pub bond-arranged : All (λ v. ArrangesEdges (graph bond) v (list_in bond_lists v)) (vert_names bond)
bond-arranged zero d lt = arranged (edges_of bond 0) (0 ∷ 1 ∷ 2 ∷ 3 ∷ []) refl
bond-arranged (suc zero) d lt = arranged (edges_of bond 1) (0 ∷ 3 ∷ 2 ∷ 1 ∷ []) refl
bond-arranged (suc (suc k)) d lt = absurd (omega (arith, lt))
