-- After Join's moves each edge of an end of the pipe ends at the outer vertex for its part.
use Rattle.std.proofs.Common.{◌≡◌, ◌≢◌, ℕ, Bool, true, false, ◌||◌, cond, eqb, List, [], ◌∷◌, ◌++◌, map, slice_index_or, sym, refl, ap, ◌∙◌, subst, inl, inr, ⊎_elim}
use Rattle.std.specs.List.{All, Contains}
use Rattle.std.proofs.lemmas.Bool.{cases_eq, cond-true, cond-false, eq-eqb, ne_eqb, eqb-true, or_cases, or_left, or_right}
use Rattle.std.proofs.lemmas.List.Elements.{All-head, All-tail}
use Rattle.cp_lists.specs.CyclicLists.{Distinct, Has}
use Rattle.cp_conn.proofs.NamedGraphs.{edges_at-Contains, map_has}
use Rattle.cp_board.specs.declared.parts.EdgeRow.{EdgeRow}
use Rattle.cp_board.specs.declared.parts.Pipe.{Pipe}
use Rattle.cp_board.specs.declared.rewrite.EdgeMove.{EdgeMove}
use Rattle.cp_board.specs.Names.{has}
use Rattle.cp_board.specs.Changes.{moved_edges}
use Rattle.cp_board.specs.Instances.{Synchronized, graph, vert_names, edges_of}
use Rattle.cp_board.specs.Joins.{vertex_for}
use Rattle.cp_board.specs.Rewrites.{moved_end, after_moves, IsMove, AreMoves}
use Rattle.cp_board.proofs.EdgesOfVertices.{touch, moved_row}
use Rattle.cp_join.specs.declared.parted_ends.Parting.{Parting}
use Rattle.cp_join.specs.Partings.{new_verts}
use Rattle.cp_join.specs.Joining.{part_moves}
use Rattle.cp_join.proofs.LiveRows.{edge_row}
use Rattle.cp_join.proofs.PartLists.{all_of, all_once, all_has, all_from, vertex_has}
use Rattle.cp_join.proofs.PartMoves.{move, moved_by, after_moves-map, moved_by-append, moved_to_part, All-part_moves, edges_moved, AreMoves-apart, AreMoves-append}
use Rattle.cp_join.proofs.JoinNames.{HasPartings, IsLiveRow, rows_live, parts_touch, row_at, apart, old_other, outer_a_new, outer_b_new}

-- the end of an edge, where those at u move to v
abbrev pub end_to : ℕ → ℕ → ℕ → ℕ
end_to u v x = cond (eqb x u) v x

-- the row of an edge, where its ends at u move to v
abbrev pub row_to : ℕ → ℕ → EdgeRow → EdgeRow
row_to u v e = record { name = e.name; a = end_to u v e.a; b = end_to u v e.b }

-- one move of an edge that may end at u
moved_row_to : (u v : ℕ) (e : EdgeRow) (b : Bool) → (e.a ≡ u → e.b ≡ u → ⊥) → b ≡ touch u e
    → cond b (moved_end (move e.name u v) e) e ≡ row_to u v e
moved_row_to u v e b one tells =
    by_tests (eqb e.name e.name) (eqb e.a u) (eqb e.b u) b (eq-eqb e.name e.name refl)
    (λ x y. one (eqb-true e.a u x) (eqb-true e.b u y)) tells
  where
    by_tests : (n x y b : Bool) → n ≡ true → (x ≡ true → y ≡ true → ⊥) → b ≡ (x || y)
        → cond b
        (cond n (cond x (record { name = e.name; a = v; b = e.b }) (record { name = e.name; a = e.a; b = v })) e) e
        ≡ record { name = e.name; a = cond x v e.a; b = cond y v e.b }
    by_tests n true true b is both same = absurd (both refl refl)
    by_tests n true false true is both same =
        ap (λ m. cond m (record { name = e.name; a = v; b = e.b }) e) is
    by_tests n true false false is both same = cc
    by_tests n false true true is both same =
        ap (λ m. cond m (record { name = e.name; a = e.a; b = v }) e) is
    by_tests n false true false is both same = cc
    by_tests n false false true is both same = cc
    by_tests n false false false is both same = refl

-- two functions that agree on all items
pub map_agree : (f g : EdgeRow → EdgeRow) (es : List EdgeRow) → All (λ e. f e ≡ g e) es → map f es ≡ map g es
map_agree f g [] all = refl
map_agree f g (e ∷ es) all =
    ap (λ x. x ∷ map f es) (All-head (λ z. f z ≡ g z) e es all)
    ∙ ap (λ xs. g e ∷ xs) (map_agree f g es (All-tail (λ z. f z ≡ g z) e es all))

module _ (i : Synchronized) (p : Pipe) (s t : Parting) (hats : List ℕ) (h : HasPartings i p s t hats) where
  -- the outer vertices for an edge at both ends
  abbrev pub outer_a : ℕ → ℕ
  outer_a e = vertex_for s.parts s.outer e

  -- and at the second end
  abbrev pub outer_b : ℕ → ℕ
  outer_b e = vertex_for t.parts t.outer e

  -- where the end x of edge e moves
  abbrev pub to : ℕ → ℕ → ℕ
  to e x = cond (eqb x p.a) (outer_a e) (cond (eqb x p.b) (outer_b e) x)

  -- the moves at the first end
  abbrev pub moves_a : List EdgeMove
  moves_a = part_moves p.a s.outer s.parts

  -- and at the second
  abbrev pub moves_b : List EdgeMove
  moves_b = part_moves p.b t.outer t.parts

  -- no edge is in two parts of the first end
  once_a : Distinct (all_of s.parts)
  once_a = all_once (graph i) p.a s.parts h.rules.edges_named.rise h.parts_a

  -- nor of the second
  once_b : Distinct (all_of t.parts)
  once_b = all_once (graph i) p.b t.parts h.rules.edges_named.rise h.parts_b

  -- the outer vertex for an edge of an end
  pub outer_a_has : (e : ℕ) → Contains (edges_of i p.a) e → Has (outer_a e) s.outer
  outer_a_has e c =
      vertex_has s.parts s.outer e h.parted.first_end.outer_each
      (all_has (graph i) p.a s.parts h.rules.edges_named.rise h.parts_a e c)

  -- and at the second end
  pub outer_b_has : (e : ℕ) → Contains (edges_of i p.b) e → Has (outer_b e) t.outer
  outer_b_has e c =
      vertex_has t.parts t.outer e h.parted.second_end.outer_each
      (all_has (graph i) p.b t.parts h.rules.edges_named.rise h.parts_b e c)

  -- after the moves of the first end
  pub moved_a : (e : EdgeRow) → IsLiveRow i e → moved_by moves_a e ≡ row_to p.a (outer_a e.name) e
  moved_a e row =
      moved_to_part p.a s.outer s.parts e h.parted.first_end.outer_each once_a
      ∙ moved_row_to p.a (outer_a e.name) e (has (all_of s.parts) e.name)
      (λ x y. row.differ (x ∙ sym y)) (parts_touch i p.a s.parts e h.rules h.parts_a row)

  -- an end at a is at no other vertex after them than its outer one
  outer_not_b : (e : EdgeRow) → IsLiveRow i e → touch p.a e ≡ true → p.b ≢ outer_a e.name
  outer_not_b e row k =
      old_other i p s t hats h p.b (outer_a e.name) h.live_b
      (outer_a_new i p s t hats h (outer_a e.name) (outer_a_has e.name (row_at i e p.a row k)))

  -- the ends at b stay there
  stays_b : (e : EdgeRow) (x : ℕ) → (x ≡ p.a → p.b ≢ outer_a e.name)
      → eqb (end_to p.a (outer_a e.name) x) p.b ≡ eqb x p.b
  stays_b e x off =
      ⊎_elim
      (λ (at : x ≡ p.a).
      ap (λ y. eqb y p.b) (cond-true (eqb x p.a) (outer_a e.name) x (eq-eqb x p.a at))
      ∙ ne_eqb (outer_a e.name) p.b (λ same. off at (sym same))
      ∙ sym (ne_eqb x p.b (λ same. h.ends.differ (sym at ∙ same))))
      (λ other. ap (λ y. eqb y p.b) (cond-false (eqb x p.a) (outer_a e.name) x (ne_eqb x p.a other)))
      (cases_eq x p.a)

  -- both moves of an end, one after the other
  end_both : (e : EdgeRow) (x : ℕ) → (x ≡ p.a → p.b ≢ outer_a e.name)
      → end_to p.b (outer_b e.name) (end_to p.a (outer_a e.name) x) ≡ to e.name x
  end_both e x off =
      ap (λ b. cond b (outer_b e.name) (end_to p.a (outer_a e.name) x)) (stays_b e x off) ∙ by_tests (eqb x p.a) (eqb x p.b)
      (λ u v. h.ends.differ (sym (eqb-true x p.a u) ∙ eqb-true x p.b v))
    where
      by_tests : (u v : Bool) → (u ≡ true → v ≡ true → ⊥)
          → cond v (outer_b e.name) (cond u (outer_a e.name) x) ≡ cond u (outer_a e.name) (cond v (outer_b e.name) x)
      by_tests true true both = absurd (both refl refl)
      by_tests true false both = refl
      by_tests false true both = refl
      by_tests false false both = refl

  -- after all moves
  pub moved_both : (e : EdgeRow) → IsLiveRow i e → moved_by (moves_a ++ moves_b) e ≡ moved_row to e
  moved_both e row =
      let f : EdgeRow = row_to p.a (outer_a e.name) e in
      let off_a : e.a ≡ p.a → p.b ≢ outer_a e.name =
      λ x. outer_not_b e row (or_left (eqb e.a p.a) (eqb e.b p.a) (eq-eqb e.a p.a x)) in
      let off_b : e.b ≡ p.a → p.b ≢ outer_a e.name =
      λ x. outer_not_b e row (or_right (eqb e.a p.a) (eqb e.b p.a) (eq-eqb e.b p.a x)) in
      let stay_a = stays_b e e.a off_a in
      let stay_b = stays_b e e.b off_b in
      moved_by-append moves_a moves_b e
      ∙ ap (moved_by moves_b) (moved_a e row)
      ∙ moved_to_part p.b t.outer t.parts f h.parted.second_end.outer_each once_b
      ∙ moved_row_to p.b (outer_b e.name) f (has (all_of t.parts) e.name)
      (λ x y. row.differ (there e.a stay_a x ∙ sym (there e.b stay_b y)))
      (parts_touch i p.b t.parts e h.rules h.parts_b row
      ∙ sym (ap (λ b. b || eqb f.b p.b) stay_a ∙ ap (λ b. eqb e.a p.b || b) stay_b))
      ∙ ap (λ x. record { name = e.name; a = x; b = end_to p.b (outer_b e.name) f.b }) (end_both e e.a off_a)
      ∙ ap (λ x. record { name = e.name; a = to e.name e.a; b = x }) (end_both e e.b off_b)
    where
      there : (x : ℕ) → eqb (end_to p.a (outer_a e.name) x) p.b ≡ eqb x p.b → end_to p.a (outer_a e.name) x ≡ p.b
          → x ≡ p.b
      there x stay at = eqb-true x p.b (sym stay ∙ eq-eqb (end_to p.a (outer_a e.name) x) p.b at)

  -- the edges after all moves
  pub moved_all : after_moves (moves_a ++ moves_b) i.edges ≡ moved_edges i to
  moved_all =
      after_moves-map (moves_a ++ moves_b) i.edges
      ∙ map_agree (moved_by (moves_a ++ moves_b)) (moved_row to) i.edges
      (λ k d lt. moved_both (slice_index_or i.edges k d) (rows_live i h.rules k d lt))

  -- the moves of both ends fit, where the new vertices are there
  module _ (verts : List ℕ) (old : (x : ℕ) → Contains (vert_names i) x → Contains verts x)
      (new : (x : ℕ) → Has x (new_verts s t) → Contains verts x) where
    -- each move at the first end fits the rows
    is_move_a : (e v : ℕ) → Has e (all_of s.parts) → Has v s.outer → IsMove verts i.edges (move e p.a v)
    is_move_a e v k out =
        let c = all_from (graph i) p.a s.parts h.rules.edges_named.rise h.parts_a e k in
        let at = edges_at-Contains (graph i) p.a e c in
        let r = edge_row i h.rules e at.0 in
        let row = rows_live i h.rules r.1.0 r.0 r.1.1 in
        let live = subst (IsLiveRow i) r.1.2 row in
        let fresh = outer_a_new i p s t hats h v out in
        record {
          edge = r.0;
          live = r.1;
          named = r.2;
          ends =
              ⊎_elim
              (λ x. inl (eqb-true r.0.a p.a x, old_other i p s t hats h r.0.b v live.live_b fresh))
              (λ x. inr (eqb-true r.0.b p.a x, old_other i p s t hats h r.0.a v live.live_a fresh))
              (or_cases (eqb r.0.a p.a) (eqb r.0.b p.a)
              (sym (ap (λ (x : ℕ × ℕ). eqb x.0 p.a || eqb x.1 p.a) r.3) ∙ at.1));
          vertex = new v fresh;
        }

    -- an end of a row that moved is no vertex of the second end
    other_end : (e : EdgeRow) (x v : ℕ) → Contains (vert_names i) x → Has v t.outer
        → (x ≡ p.a → Has (outer_a e.name) s.outer) → end_to p.a (outer_a e.name) x ≢ v
    other_end e x v live out in_a =
        ⊎_elim
        (λ (at : x ≡ p.a). λ same. (apart i p s t hats h).first_third (outer_a e.name) v (in_a at) out
        (sym (cond-true (eqb x p.a) (outer_a e.name) x (eq-eqb x p.a at)) ∙ same))
        (λ off. λ same. old_other i p s t hats h x v live (outer_b_new i p s t hats h v out)
        (sym (cond-false (eqb x p.a) (outer_a e.name) x (ne_eqb x p.a off)) ∙ same))
        (cases_eq x p.a)

    -- each move at the second fits the rows after those
    is_move_b : (e v : ℕ) → Has e (all_of t.parts) → Has v t.outer
        → IsMove verts (map (moved_by moves_a) i.edges) (move e p.b v)
    is_move_b e v k out =
        let c = all_from (graph i) p.b t.parts h.rules.edges_named.rise h.parts_b e k in
        let at = edges_at-Contains (graph i) p.b e c in
        let r = edge_row i h.rules e at.0 in
        let live = subst (IsLiveRow i) r.1.2 (rows_live i h.rules r.1.0 r.0 r.1.1) in
        let in_a : touch p.a r.0 ≡ true → Has (outer_a r.0.name) s.outer =
        λ x. outer_a_has r.0.name (row_at i r.0 p.a live x) in
        record {
          edge = row_to p.a (outer_a r.0.name) r.0;
          live = subst (Contains (map (moved_by moves_a) i.edges)) (moved_a r.0 live)
              (map_has (moved_by moves_a) i.edges r.0 r.1);
          named = r.2;
          ends =
              ⊎_elim
              (λ x. inl (
                cond-false (eqb r.0.a p.a) (outer_a r.0.name) r.0.a
                    (ne_eqb r.0.a p.a (λ y. h.ends.differ (sym y ∙ eqb-true r.0.a p.b x)))
                    ∙ eqb-true r.0.a p.b x,
                other_end r.0 r.0.b v live.live_b out
                    (λ y. in_a (or_right (eqb r.0.a p.a) (eqb r.0.b p.a) (eq-eqb r.0.b p.a y))),
              ))
              (λ x. inr (
                cond-false (eqb r.0.b p.a) (outer_a r.0.name) r.0.b
                    (ne_eqb r.0.b p.a (λ y. h.ends.differ (sym y ∙ eqb-true r.0.b p.b x)))
                    ∙ eqb-true r.0.b p.b x,
                other_end r.0 r.0.a v live.live_a out
                    (λ y. in_a (or_left (eqb r.0.a p.a) (eqb r.0.b p.a) (eq-eqb r.0.a p.a y))),
              ))
              (or_cases (eqb r.0.a p.b) (eqb r.0.b p.b)
              (sym (ap (λ (x : ℕ × ℕ). eqb x.0 p.b || eqb x.1 p.b) r.3) ∙ at.1));
          vertex = new v (outer_b_new i p s t hats h v out);
        }

    -- so all moves fit, one after the other
    pub moves_fit : AreMoves verts i.edges (moves_a ++ moves_b)
    moves_fit =
        AreMoves-append verts moves_a moves_b i.edges
        (AreMoves-apart verts moves_a i.edges
        (subst Distinct (sym (edges_moved p.a s.outer s.parts h.parted.first_end.outer_each)) once_a)
        (All-part_moves (IsMove verts i.edges) p.a s.outer s.parts is_move_a))
        (subst (λ es. AreMoves verts es moves_b) (sym (after_moves-map moves_a i.edges))
        (AreMoves-apart verts moves_b (map (moved_by moves_a) i.edges)
        (subst Distinct (sym (edges_moved p.b t.outer t.parts h.parted.second_end.outer_each)) once_b)
        (All-part_moves (IsMove verts (map (moved_by moves_a) i.edges)) p.b t.outer t.parts is_move_b)))
