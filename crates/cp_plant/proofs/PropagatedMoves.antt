-- After the moves of Propagate each edge of an end of the pipe ends at the vertex that holds it.
use Rattle.std.proofs.Common.{◌≡◌, ◌≢◌, ℕ, Bool, true, false, ◌||◌, cond, eqb, List, ◌∷◌, ◌++◌, map, slice_index_or, sym, refl, ap, ◌∙◌, subst, inl, inr, ⊎_elim}
use Rattle.std.specs.List.{Contains}
use Rattle.std.proofs.lemmas.List.Kept.{IsStrictlyIncreasing-filter}
use Rattle.std.proofs.lemmas.Bool.{cases_eq, cond-true, cond-false, eq-eqb, ne_eqb, eqb-true, or_cases, or_left, or_right}
use Rattle.cp_base.specs.declared.shape.Shape.{Shape}
use Rattle.cp_base.specs.Shapes.{leaves}
use Rattle.cp_lists.specs.CyclicLists.{Distinct, Has}
use Rattle.cp_lists.proofs.DistinctLists.{Has-Contains, Has-append_left, Has-append_right, Distinct-apart, has_lacks}
use Rattle.cp_conn.specs.NamedGraphs.{ends_at}
use Rattle.cp_conn.proofs.NamedGraphs.{edges_at-Contains, map_has}
use Rattle.cp_board.specs.declared.parts.EdgeRow.{EdgeRow}
use Rattle.cp_board.specs.declared.parts.Pipe.{Pipe}
use Rattle.cp_board.specs.declared.rewrite.EdgeMove.{EdgeMove}
use Rattle.cp_board.specs.Names.{has, rising}
use Rattle.cp_board.specs.Changes.{moved_edges}
use Rattle.cp_board.specs.Instances.{Synchronized, IsSynchronized, edge_names, graph, vert_names, edges_of}
use Rattle.cp_board.specs.Plantings.{holder}
use Rattle.cp_board.specs.Propagations.{IsPropagated}
use Rattle.cp_board.specs.Rewrites.{after_moves, IsMove, AreMoves}
use Rattle.cp_board.specs.Steps.{IsEnd, opposite}
use Rattle.cp_board.proofs.EdgesOfVertices.{touch, moved_row}
use Rattle.cp_board.proofs.NamedLists.{rises_from}
use Rattle.cp_board.proofs.NumberOfNewNames.{Distinct-from_rises}
use Rattle.cp_plantlaw.proofs.FreshNames.{fresh_once, fresh_other}
use Rattle.cp_plantlaw.proofs.PropagatedEnds.{held_u, held_w, holder_in, live_w, u_not_w, verts_u, verts_w}
use Rattle.cp_plant.specs.Rewriting.{end_moves}
use Rattle.cp_plant.proofs.EdgeMoves.{move, moves_by, moved_by, moved_once, after_moves-map, moved_by-append, All-moves_by, edges_moved, AreMoves-apart, AreMoves-append, end_to, row_to, moved_row_to, map_agree}
use Rattle.cp_plant.proofs.LiveRows.{IsLiveRow, edge_row, own_touch, row_at, rows_live}

-- the vertices to which the edges of two live vertices move are new ones, and those of one edge differ
pub record MoveApart (i : Synchronized) (u w : ℕ) (to_u to_w : ℕ → ℕ) : Type 0 where
  pub rules : IsSynchronized i
  pub differ : u ≢ w
  pub live_w : Contains (vert_names i) w
  pub once_u : Distinct (edges_of i u)
  pub once_w : Distinct (edges_of i w)
  pub new_u : (e x : ℕ) → Contains (edges_of i u) e → Contains (vert_names i) x → x ≢ to_u e
  pub new_w : (e x : ℕ) → Contains (edges_of i w) e → Contains (vert_names i) x → x ≢ to_w e
  pub apart : (e : ℕ) → Contains (edges_of i u) e → Contains (edges_of i w) e → to_u e ≢ to_w e

module _ (i : Synchronized) (u w : ℕ) (to_u to_w : ℕ → ℕ) (h : MoveApart i u w to_u to_w) where
  -- where the end x of edge e moves
  abbrev pub to : ℕ → ℕ → ℕ
  to e x = cond (eqb x u) (to_u e) (cond (eqb x w) (to_w e) x)

  -- the moves at the first end
  abbrev pub moves_u : List EdgeMove
  moves_u = moves_by to_u u (edges_of i u)

  -- and at the second
  abbrev pub moves_w : List EdgeMove
  moves_w = moves_by to_w w (edges_of i w)

  -- after the moves of the first end
  moved_u : (e : EdgeRow) → IsLiveRow i e → moved_by moves_u e ≡ row_to u (to_u e.name) e
  moved_u e row =
      moved_once to_u u (edges_of i u) e h.once_u
      ∙ moved_row_to u (to_u e.name) e (has (edges_of i u) e.name)
      (λ x y. row.differ (x ∙ sym y)) (own_touch i u e row)

  -- an end at u is at no other vertex after them than its new one
  new_not_w : (e : EdgeRow) → IsLiveRow i e → touch u e ≡ true → w ≢ to_u e.name
  new_not_w e row k = h.new_u e.name w (row_at i e u row k) h.live_w

  -- the ends at w stay there
  stays_w : (e : EdgeRow) (x : ℕ) → (x ≡ u → w ≢ to_u e.name)
      → eqb (end_to u (to_u e.name) x) w ≡ eqb x w
  stays_w e x off =
      ⊎_elim
      (λ (at : x ≡ u).
      ap (λ y. eqb y w) (cond-true (eqb x u) (to_u e.name) x (eq-eqb x u at))
      ∙ ne_eqb (to_u e.name) w (λ same. off at (sym same))
      ∙ sym (ne_eqb x w (λ same. h.differ (sym at ∙ same))))
      (λ other. ap (λ y. eqb y w) (cond-false (eqb x u) (to_u e.name) x (ne_eqb x u other)))
      (cases_eq x u)

  -- both moves of an end, one after the other
  end_both : (e : EdgeRow) (x : ℕ) → (x ≡ u → w ≢ to_u e.name)
      → end_to w (to_w e.name) (end_to u (to_u e.name) x) ≡ to e.name x
  end_both e x off =
      ap (λ b. cond b (to_w e.name) (end_to u (to_u e.name) x)) (stays_w e x off) ∙ by_tests (eqb x u) (eqb x w)
      (λ s t. h.differ (sym (eqb-true x u s) ∙ eqb-true x w t))
    where
      by_tests : (a b : Bool) → (a ≡ true → b ≡ true → ⊥)
          → cond b (to_w e.name) (cond a (to_u e.name) x) ≡ cond a (to_u e.name) (cond b (to_w e.name) x)
      by_tests true true both = absurd (both refl refl)
      by_tests true false both = refl
      by_tests false true both = refl
      by_tests false false both = refl

  -- after all moves
  moved_both : (e : EdgeRow) → IsLiveRow i e → moved_by (moves_u ++ moves_w) e ≡ moved_row to e
  moved_both e row =
      let f : EdgeRow = row_to u (to_u e.name) e in
      let off_a : e.a ≡ u → w ≢ to_u e.name =
      λ x. new_not_w e row (or_left (eqb e.a u) (eqb e.b u) (eq-eqb e.a u x)) in
      let off_b : e.b ≡ u → w ≢ to_u e.name =
      λ x. new_not_w e row (or_right (eqb e.a u) (eqb e.b u) (eq-eqb e.b u x)) in
      let stay_a = stays_w e e.a off_a in
      let stay_b = stays_w e e.b off_b in
      moved_by-append moves_u moves_w e
      ∙ ap (moved_by moves_w) (moved_u e row)
      ∙ moved_once to_w w (edges_of i w) f h.once_w
      ∙ moved_row_to w (to_w e.name) f (has (edges_of i w) e.name)
      (λ x y. row.differ (there e.a stay_a x ∙ sym (there e.b stay_b y)))
      (own_touch i w e row
      ∙ sym (ap (λ b. b || eqb f.b w) stay_a ∙ ap (λ b. eqb e.a w || b) stay_b))
      ∙ ap (λ x. record { name = e.name; a = x; b = end_to w (to_w e.name) f.b }) (end_both e e.a off_a)
      ∙ ap (λ x. record { name = e.name; a = to e.name e.a; b = x }) (end_both e e.b off_b)
    where
      there : (x : ℕ) → eqb (end_to u (to_u e.name) x) w ≡ eqb x w → end_to u (to_u e.name) x ≡ w → x ≡ w
      there x stay at = eqb-true x w (sym stay ∙ eq-eqb (end_to u (to_u e.name) x) w at)

  -- the edges after all moves
  pub moved_apart : after_moves (moves_u ++ moves_w) i.edges ≡ moved_edges i to
  moved_apart =
      after_moves-map (moves_u ++ moves_w) i.edges
      ∙ map_agree (moved_by (moves_u ++ moves_w)) (moved_row to) i.edges
      (λ k d lt. moved_both (slice_index_or i.edges k d) (rows_live i h.rules k d lt))

  -- the moves of both ends fit, where the new vertices are there
  module _ (verts : List ℕ) (there_u : (e : ℕ) → Contains (edges_of i u) e → Contains verts (to_u e))
      (there_w : (e : ℕ) → Contains (edges_of i w) e → Contains verts (to_w e)) where
    -- each move at the first end fits the rows
    is_move_u : (e : ℕ) → Has e (edges_of i u) → IsMove verts i.edges (move e u (to_u e))
    is_move_u e k =
        let c = (Has-Contains e (edges_of i u)).0 k in
        let at = edges_at-Contains (graph i) u e c in
        let r = edge_row i h.rules e at.0 in
        let row = rows_live i h.rules r.1.0 r.0 r.1.1 in
        let live = subst (IsLiveRow i) r.1.2 row in
        record {
          edge = r.0;
          live = r.1;
          named = r.2;
          ends =
              ⊎_elim
              (λ x. inl (eqb-true r.0.a u x, h.new_u e r.0.b c live.live_b))
              (λ x. inr (eqb-true r.0.b u x, h.new_u e r.0.a c live.live_a))
              (or_cases (eqb r.0.a u) (eqb r.0.b u)
              (sym (ap (λ (x : ℕ × ℕ). eqb x.0 u || eqb x.1 u) r.3) ∙ at.1));
          vertex = there_u e c;
        }

    -- an end of a row that moved is no vertex of the second end
    other_end : (e : EdgeRow) (x : ℕ) → Contains (vert_names i) x → Contains (edges_of i w) e.name
        → (x ≡ u → Contains (edges_of i u) e.name) → end_to u (to_u e.name) x ≢ to_w e.name
    other_end e x live in_w in_u =
        ⊎_elim
        (λ (at : x ≡ u). λ same. h.apart e.name (in_u at) in_w
        (sym (cond-true (eqb x u) (to_u e.name) x (eq-eqb x u at)) ∙ same))
        (λ off. λ same. h.new_w e.name x in_w live
        (sym (cond-false (eqb x u) (to_u e.name) x (ne_eqb x u off)) ∙ same))
        (cases_eq x u)

    -- each move at the second fits the rows after those
    is_move_w : (e : ℕ) → Has e (edges_of i w) → IsMove verts (map (moved_by moves_u) i.edges) (move e w (to_w e))
    is_move_w e k =
        let c = (Has-Contains e (edges_of i w)).0 k in
        let at = edges_at-Contains (graph i) w e c in
        let r = edge_row i h.rules e at.0 in
        let live = subst (IsLiveRow i) r.1.2 (rows_live i h.rules r.1.0 r.0 r.1.1) in
        let named : r.0.name ≡ e = r.2 in
        let in_w : Contains (edges_of i w) r.0.name = subst (Contains (edges_of i w)) (sym named) c in
        let in_u : touch u r.0 ≡ true → Contains (edges_of i u) r.0.name = λ x. row_at i r.0 u live x in
        record {
          edge = row_to u (to_u r.0.name) r.0;
          live = subst (Contains (map (moved_by moves_u) i.edges)) (moved_u r.0 live)
              (map_has (moved_by moves_u) i.edges r.0 r.1);
          named = r.2;
          ends =
              ⊎_elim
              (λ x. inl (
                cond-false (eqb r.0.a u) (to_u r.0.name) r.0.a
                    (ne_eqb r.0.a u (λ y. h.differ (sym y ∙ eqb-true r.0.a w x)))
                    ∙ eqb-true r.0.a w x,
                subst (λ n. end_to u (to_u r.0.name) r.0.b ≢ to_w n) named (other_end r.0 r.0.b live.live_b in_w
                    (λ y. in_u (or_right (eqb r.0.a u) (eqb r.0.b u) (eq-eqb r.0.b u y)))),
              ))
              (λ x. inr (
                cond-false (eqb r.0.b u) (to_u r.0.name) r.0.b
                    (ne_eqb r.0.b u (λ y. h.differ (sym y ∙ eqb-true r.0.b w x)))
                    ∙ eqb-true r.0.b w x,
                subst (λ n. end_to u (to_u r.0.name) r.0.a ≢ to_w n) named (other_end r.0 r.0.a live.live_a in_w
                    (λ y. in_u (or_left (eqb r.0.a u) (eqb r.0.b u) (eq-eqb r.0.a u y)))),
              ))
              (or_cases (eqb r.0.a w) (eqb r.0.b w)
              (sym (ap (λ (x : ℕ × ℕ). eqb x.0 w || eqb x.1 w) r.3) ∙ at.1));
          vertex = there_w e c;
        }

    -- so all moves fit, one after the other
    pub apart_fit : AreMoves verts i.edges (moves_u ++ moves_w)
    apart_fit =
        AreMoves-append verts moves_u moves_w i.edges
        (AreMoves-apart verts moves_u i.edges
        (subst Distinct (sym (edges_moved to_u u (edges_of i u))) h.once_u)
        (All-moves_by (IsMove verts i.edges) to_u u (edges_of i u) is_move_u))
        (subst (λ es. AreMoves verts es moves_w) (sym (after_moves-map moves_u i.edges))
        (AreMoves-apart verts moves_w (map (moved_by moves_u) i.edges)
        (subst Distinct (sym (edges_moved to_w w (edges_of i w))) h.once_w)
        (All-moves_by (IsMove verts (map (moved_by moves_u) i.edges)) to_w w (edges_of i w) is_move_w)))

module _ (i j : Synchronized) (is_i : IsSynchronized i) (p : Pipe) (live : Contains i.pipes p)
    (u : ℕ) (end : IsEnd p u) (shape : Shape)
    (edges_u : rising (shape.root ∷ leaves shape.body) ≡ edges_of i u) (prop : IsPropagated i p u shape j) where
  -- the other end
  abbrev pub w : ℕ
  w = opposite p u

  -- the moves of both ends
  abbrev pub moves : List EdgeMove
  moves = end_moves u prop.rows_u (edges_of i u) ++ end_moves w prop.rows_w (edges_of i w)

  -- the vertex of an edge of u is a new one
  holder_u : (e : ℕ) → Contains (edges_of i u) e → Has (holder prop.rows_u e) prop.at_u
  holder_u e c =
      subst (Has (holder prop.rows_u e)) (verts_u i j is_i p live u end shape edges_u prop)
      (holder_in prop.rows_u e (held_u i j is_i p live u end shape edges_u prop e c))

  -- and that of an edge of w
  holder_w : (e : ℕ) → Contains (edges_of i w) e → Has (holder prop.rows_w e) prop.at_w
  holder_w e c =
      subst (Has (holder prop.rows_w e)) (verts_w i j is_i p live u end shape edges_u prop)
      (holder_in prop.rows_w e (held_w i j is_i p live u end shape edges_u prop e c))

  -- a live vertex is none of the new ones
  not_new : (x n : ℕ) → Contains (vert_names i) x → Has n (prop.at_u ++ prop.at_w) → x ≢ n
  not_new x n c k same =
      fresh_other (vert_names i) (prop.at_u ++ prop.at_w) n x prop.new_verts k
      ((Has-Contains x (vert_names i)).1 c) (sym same)

  -- no edge of a vertex stands twice
  edges_distinct : (v : ℕ) → Distinct (edges_of i v)
  edges_distinct v = Distinct-from_rises (edges_of i v) (rises_from (edges_of i v)
      (IsStrictlyIncreasing-filter (ends_at (graph i) v) (edge_names i) is_i.edges_named.rise))

  -- the ends of edges move apart
  move_apart : MoveApart i u w (holder prop.rows_u) (holder prop.rows_w)
  move_apart = record {
    rules = is_i;
    differ = u_not_w i j is_i p live u end shape edges_u prop;
    live_w = live_w i j is_i p live u end shape edges_u prop;
    once_u = edges_distinct u;
    once_w = edges_distinct w;
    new_u = λ e x c k. not_new x (holder prop.rows_u e) k
        (Has-append_left (holder prop.rows_u e) prop.at_u prop.at_w (holder_u e c));
    new_w = λ e x c k. not_new x (holder prop.rows_w e) k
        (Has-append_right (holder prop.rows_w e) prop.at_u prop.at_w (holder_w e c));
    apart = λ e c k same. has_lacks (holder prop.rows_w e) prop.at_w (holder_w e k)
        (Distinct-apart (holder prop.rows_w e) prop.at_u prop.at_w
        (fresh_once (vert_names i) (prop.at_u ++ prop.at_w) prop.new_verts)
        (subst (λ n. Has n prop.at_u) same (holder_u e c)));
  }

  -- the edges after all moves are those of the definition
  pub moved_all : after_moves moves i.edges ≡ moved_edges i (λ e v.
      cond (eqb v u) (holder prop.rows_u e) (cond (eqb v (opposite p u)) (holder prop.rows_w e) v))
  moved_all = moved_apart i u w (holder prop.rows_u) (holder prop.rows_w) move_apart

  -- the moves fit, where the new vertices are there
  pub moves_fit : (verts : List ℕ) → ((x : ℕ) → Has x (prop.at_u ++ prop.at_w) → Contains verts x)
      → AreMoves verts i.edges moves
  moves_fit verts new =
      apart_fit i u w (holder prop.rows_u) (holder prop.rows_w) move_apart verts
      (λ e c. new (holder prop.rows_u e) (Has-append_left (holder prop.rows_u e) prop.at_u prop.at_w (holder_u e c)))
      (λ e c. new (holder prop.rows_w e) (Has-append_right (holder prop.rows_w e) prop.at_u prop.at_w (holder_w e c)))
