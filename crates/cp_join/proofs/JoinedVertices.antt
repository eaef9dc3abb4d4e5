-- The edges of old, outer and inner vertices after Join.
use Rattle.std.proofs.Common.{◌≡◌, ◌≢◌, ℕ, ◌<◌, Bool, true, false, ◌||◌, cond, eqb, List, [], ◌∷◌, ◌++◌, length, map, slice_index, slice_index_or, sym, refl, ap, ◌∙◌, subst, inl, inr, ⊎_elim, arith, IsPermutation}
use Rattle.std.specs.Prelude.{filter}
use Rattle.std.specs.List.{All, Contains}
use Rattle.std.proofs.lemmas.Bool.{cases_Bool, cases_eq, both_ways, cond-true, cond-false, cond_both, eq-eqb, ne_eqb, eqb-true, or_cases, or_from, or_left, or_right}
use Rattle.std.proofs.lemmas.List.Sorted.{IsPermutation-map, IsPermutation-trans}
use Rattle.cp_lists.specs.CyclicLists.{Distinct, Has, Lacks}
use Rattle.cp_lists.proofs.DistinctLists.{Distinct-append_left, Distinct-append_right, Distinct-once, Has-Contains, Has_at, Lacks-from, has_lacks}
use Rattle.cp_conn.specs.NamedGraphs.{ends_at}
use Rattle.cp_conn.proofs.NamedGraphs.{edges_at-Contains}
use Rattle.cp_board.specs.declared.parts.EdgeRow.{EdgeRow}
use Rattle.cp_board.specs.declared.parts.Pipe.{Pipe}
use Rattle.cp_board.specs.Names.{has}
use Rattle.cp_board.specs.Instances.{Synchronized, graph, vert_names, edge_names, edges_of}
use Rattle.cp_board.specs.Joins.{part_of, vertex_for}
use Rattle.cp_board.specs.Steps.{partner}
use Rattle.cp_board.proofs.EdgesOfVertices.{touch, moved_row}
use Rattle.cp_join.specs.declared.parted_ends.Parting.{Parting}
use Rattle.cp_join.specs.Partings.{new_verts}
use Rattle.cp_lists.proofs.PermutedLists.{IsPermutation-from}
use Rattle.cp_join.proofs.NamedParts.{has_from, from_has, has_not}
use Rattle.cp_join.proofs.RisingLists.{Distinct-rising, Has-flat_map}
use Rattle.cp_join.proofs.PartLists.{all_of, all_once, all_has, all_from, part_has, part_is, vertex_has}
use Rattle.cp_join.proofs.SameLists.{All-from_has, Has-kept, kept-Has}
use Rattle.cp_join.proofs.JoinNames.{HasPartings, IsLiveRow, rows_live, touch_is, row_at, row_from, new_once, apart, old_other, outer_a_new, inner_a_new, outer_b_new, inner_b_new}
use Rattle.cp_join.proofs.JoinedMoves.{to, outer_a, outer_b, outer_a_has, outer_b_has}
use Rattle.cp_join.proofs.JoinedGraph.{joined, row, hat, edges_a, kept_part, or_first, or_second, rise_at, once_at, no_new_edge, no_old_edge, partner_of_a, partner_of_b, partner_back, partner_forth}

-- the vertex for an edge is that at a place exactly where the part at this place has the edge
vertex_eq : (parts : List (List ℕ)) (verts : List ℕ) (k e : ℕ) → Distinct (all_of parts) → length verts ≡ length parts
    → Distinct verts → k < length parts → Has e (all_of parts)
    → eqb (vertex_for parts verts e) (slice_index verts k) ≡ has (slice_index_or parts k []) e
vertex_eq parts verts k e once size apart lt h =
    ⊎_elim
    (λ t. eq-eqb (vertex_for parts verts e) (slice_index verts k)
    (ap (slice_index verts) (part_is parts k e once lt (from_has (slice_index_or parts k []) e t))) ∙ sym t)
    (λ f. ne_eqb (vertex_for parts verts e) (slice_index verts k)
    (λ same. both_ways (has (slice_index_or parts k []) e) f
    (has_from (slice_index_or parts k []) e
    (subst (λ n. Has e (slice_index_or parts n []))
    (Distinct-once verts apart (part_of parts e) k (omega (arith, (part_has parts e h).0, size)) (omega (arith, lt, size)) same)
    (part_has parts e h).1))) ∙ sym f)
    (cases_Bool (has (slice_index_or parts k []) e))

module _ (i : Synchronized) (p : Pipe) (s t : Parting) (hats : List ℕ) (h : HasPartings i p s t hats) where
  -- an edge row after the moves
  abbrev moved : EdgeRow → EdgeRow
  moved e = moved_row (to i p s t hats h) e

  -- where an end of it is then
  abbrev end_of : EdgeRow → ℕ → ℕ
  end_of e x = to i p s t hats h e.name x

  -- the inner vertices for an edge of the first end
  abbrev pub inner_a : ℕ → ℕ
  inner_a x = vertex_for s.parts s.inner x

  -- and at the second end
  abbrev pub inner_b : ℕ → ℕ
  inner_b x = vertex_for t.parts t.inner (partner p p.a x)

  -- an edge of the first end is in a part
  has_a : (e : ℕ) → Has e (edges_of i p.a) → Has e (all_of s.parts)
  has_a e k = all_has (graph i) p.a s.parts h.rules.edges_named.rise h.parts_a e ((Has-Contains e (edges_of i p.a)).0 k)

  -- and one of the second
  has_b : (e : ℕ) → Has e (edges_of i p.b) → Has e (all_of t.parts)
  has_b e k = all_has (graph i) p.b t.parts h.rules.edges_named.rise h.parts_b e ((Has-Contains e (edges_of i p.b)).0 k)

  -- its inner vertex at the first end is one
  pub inner_a_has : (x : ℕ) → Has x (edges_of i p.a) → Has (inner_a x) s.inner
  inner_a_has x k = vertex_has s.parts s.inner x h.parted.first_end.inner_each (has_a x k)

  -- and that at the second
  pub inner_b_has : (x : ℕ) → Has x (edges_of i p.a) → Has (inner_b x) t.inner
  inner_b_has x k =
      vertex_has t.parts t.inner (partner p p.a x) h.parted.second_end.inner_each
      (has_b (partner p p.a x) (partner_of_a i p s t hats h x k))

  -- where an end of a row moves
  pub by_end : (holds : ℕ → Type 0) (e : EdgeRow) (x : ℕ) → IsLiveRow i e → touch x e ≡ true
      → (x ≡ p.a → Has (outer_a i p s t hats h e.name) s.outer → holds (outer_a i p s t hats h e.name))
      → (x ≡ p.b → Has (outer_b i p s t hats h e.name) t.outer → holds (outer_b i p s t hats h e.name))
      → (x ≢ p.a → x ≢ p.b → Contains (vert_names i) x → holds x)
      → holds (end_of e x)
  by_end holds e x live at in_a in_b other =
      ⊎_elim
      (λ (a : x ≡ p.a). subst holds (sym (cond-true (eqb x p.a) (outer_a i p s t hats h e.name) (cond (eqb x p.b) (outer_b i p s t hats h e.name) x) (eq-eqb x p.a a)))
      (in_a a (outer_a_has i p s t hats h e.name (row_at i e p.a live (subst (λ z. touch z e ≡ true) a at)))))
      (λ na. ⊎_elim
      (λ (b : x ≡ p.b). subst holds
      (sym (cond-false (eqb x p.a) (outer_a i p s t hats h e.name) (cond (eqb x p.b) (outer_b i p s t hats h e.name) x) (ne_eqb x p.a na)
      ∙ cond-true (eqb x p.b) (outer_b i p s t hats h e.name) x (eq-eqb x p.b b)))
      (in_b b (outer_b_has i p s t hats h e.name (row_at i e p.b live (subst (λ z. touch z e ≡ true) b at)))))
      (λ nb. subst holds
      (sym (cond-false (eqb x p.a) (outer_a i p s t hats h e.name) (cond (eqb x p.b) (outer_b i p s t hats h e.name) x) (ne_eqb x p.a na)
      ∙ cond-false (eqb x p.b) (outer_b i p s t hats h e.name) x (ne_eqb x p.b nb)))
      (other na nb live_x))
      (cases_eq x p.b))
      (cases_eq x p.a)
    where
      live_x : Contains (vert_names i) x
      live_x =
          ⊎_elim
          (λ l. subst (Contains (vert_names i)) (eqb-true e.a x l) live.live_a)
          (λ r. subst (Contains (vert_names i)) (eqb-true e.b x r) live.live_b)
          (or_cases (eqb e.a x) (eqb e.b x) at)

  -- a row ends at its first end
  pub first_touch : (e : EdgeRow) → touch e.a e ≡ true
  first_touch e = or_left (eqb e.a e.a) (eqb e.b e.a) (eq-eqb e.a e.a refl)

  -- and at its second
  pub second_touch : (e : EdgeRow) → touch e.b e ≡ true
  second_touch e = or_right (eqb e.a e.b) (eqb e.b e.b) (eq-eqb e.b e.b refl)

  -- an old vertex keeps its edges
  pub edges_of_old : (v : ℕ) → Contains (vert_names i) v → v ≢ p.a → v ≢ p.b
      → edges_of (joined i p s t hats h) v ≡ edges_of i v
  edges_of_old v live na nb =
      no_new_edge i p s t hats h v (ends_at (graph i) v) each
      (All-from_has (λ x. touch v (row i p s t hats h x) ≡ false) (edges_a i p s t hats h) none)
    where
      stays : (e : EdgeRow) (x : ℕ) → IsLiveRow i e → touch x e ≡ true → eqb (end_of e x) v ≡ eqb x v
      stays e x row_live at =
          by_end (λ y. eqb y v ≡ eqb x v) e x row_live at
          (λ a out. ne_eqb (outer_a i p s t hats h e.name) v
          (λ same. old_other i p s t hats h v (outer_a i p s t hats h e.name) live (outer_a_new i p s t hats h _ out) (sym same))
          ∙ sym (ne_eqb x v (λ same. na (sym same ∙ a))))
          (λ b out. ne_eqb (outer_b i p s t hats h e.name) v
          (λ same. old_other i p s t hats h v (outer_b i p s t hats h e.name) live (outer_b_new i p s t hats h _ out) (sym same))
          ∙ sym (ne_eqb x v (λ same. nb (sym same ∙ b))))
          (λ ma mb l. refl)

      each : All (λ e. touch v (moved e) ≡ ends_at (graph i) v e.name) i.edges
      each k d lt =
          let e = slice_index_or i.edges k d in
          let row_live = rows_live i h.rules k d lt in
          ap (λ b. b || eqb (end_of e e.b) v) (stays e e.a row_live (first_touch e))
          ∙ ap (λ b. eqb e.a v || b) (stays e e.b row_live (second_touch e))
          ∙ touch_is i e v row_live

      none : (x : ℕ) → Has x (edges_a i p s t hats h) → touch v (row i p s t hats h x) ≡ false
      none x k =
          or_from (eqb (inner_a x) v) (eqb (inner_b x) v)
          (ne_eqb (inner_a x) v (λ same. old_other i p s t hats h v (inner_a x) live
          (inner_a_new i p s t hats h (inner_a x) (inner_a_has x k)) (sym same)))
          (ne_eqb (inner_b x) v (λ same. old_other i p s t hats h v (inner_b x) live
          (inner_b_new i p s t hats h (inner_b x) (inner_b_has x k)) (sym same)))

  -- the rows at an outer vertex of the end u
  outer_touch : (u v : ℕ) (part : List ℕ) (e : EdgeRow) → IsLiveRow i e
      → (has part e.name ≡ true → touch u e ≡ true)
      → (touch u e ≡ true → eqb (end_of e u) v ≡ has part e.name)
      → ((x : ℕ) → touch x e ≡ true → x ≢ u → eqb (end_of e x) v ≡ false)
      → touch v (moved e) ≡ has part e.name
  outer_touch u v part e live among here there =
      ⊎_elim
      (λ (a : e.a ≡ u).
      or_first (eqb (end_of e e.a) v) (eqb (end_of e e.b) v) (there e.b (second_touch e) (λ b. live.differ (a ∙ sym b)))
      ∙ subst (λ x. eqb (end_of e x) v ≡ has part e.name) (sym a)
      (here (subst (λ x. touch x e ≡ true) a (first_touch e))))
      (λ na. or_second (eqb (end_of e e.a) v) (eqb (end_of e e.b) v) (there e.a (first_touch e) na)
      ∙ ⊎_elim
      (λ (b : e.b ≡ u). subst (λ x. eqb (end_of e x) v ≡ has part e.name) (sym b)
      (here (subst (λ x. touch x e ≡ true) b (second_touch e))))
      (λ nb. there e.b (second_touch e) nb ∙ sym (none na nb))
      (cases_eq e.b u))
      (cases_eq e.a u)
    where
      none : e.a ≢ u → e.b ≢ u → has part e.name ≡ false
      none na nb =
          has_not part e.name
          (λ k. both_ways (touch u e) (or_from (eqb e.a u) (eqb e.b u) (ne_eqb e.a u na) (ne_eqb e.b u nb))
          (among (has_from part e.name k)))

  -- no edge is in two parts of the first end
  once_a : Distinct (all_of s.parts)
  once_a = all_once (graph i) p.a s.parts h.rules.edges_named.rise h.parts_a

  -- nor of the second
  once_b : Distinct (all_of t.parts)
  once_b = all_once (graph i) p.b t.parts h.rules.edges_named.rise h.parts_b

  -- no new vertex stands twice
  four : Distinct (s.outer ++ s.inner ++ t.outer ++ t.inner)
  four = new_once i p s t hats h

  -- so no outer vertex of the first end does
  outer_a_once : Distinct s.outer
  outer_a_once = Distinct-append_left s.outer s.inner
      (Distinct-append_left (s.outer ++ s.inner) t.outer (Distinct-append_left (s.outer ++ s.inner ++ t.outer) t.inner four))

  -- nor an inner one
  inner_a_once : Distinct s.inner
  inner_a_once = Distinct-append_right s.outer s.inner
      (Distinct-append_left (s.outer ++ s.inner) t.outer (Distinct-append_left (s.outer ++ s.inner ++ t.outer) t.inner four))

  -- nor an outer vertex of the second end
  outer_b_once : Distinct t.outer
  outer_b_once = Distinct-append_right (s.outer ++ s.inner) t.outer (Distinct-append_left (s.outer ++ s.inner ++ t.outer) t.inner four)

  -- nor an inner one
  inner_b_once : Distinct t.inner
  inner_b_once = Distinct-append_right (s.outer ++ s.inner ++ t.outer) t.inner four

  -- the edges of a part are edges of its vertex
  part_edges_a : (k e : ℕ) → k < length s.parts → Has e (slice_index_or s.parts k []) → Contains (edges_of i p.a) e
  part_edges_a k e lt m =
      all_from (graph i) p.a s.parts h.rules.edges_named.rise h.parts_a e (Has-flat_map e s.parts k lt m)

  -- and those of a part of the second end
  part_edges_b : (k e : ℕ) → k < length t.parts → Has e (slice_index_or t.parts k []) → Contains (edges_of i p.b) e
  part_edges_b k e lt m =
      all_from (graph i) p.b t.parts h.rules.edges_named.rise h.parts_b e (Has-flat_map e t.parts k lt m)

  -- an edge of a vertex is live
  edge_live : (v e : ℕ) → Contains (edges_of i v) e → Has e (edge_names i)
  edge_live v e c = (Has-Contains e (edge_names i)).1 (edges_at-Contains (graph i) v e c).0

  -- no new edge ends at an outer vertex
  none_at : (v : ℕ) → ((m : ℕ) → Has m s.inner → m ≢ v) → ((m : ℕ) → Has m t.inner → m ≢ v)
      → All (λ x. touch v (row i p s t hats h x) ≡ false) (edges_a i p s t hats h)
  none_at v off_a off_b =
      All-from_has (λ x. touch v (row i p s t hats h x) ≡ false) (edges_a i p s t hats h)
      (λ x k. or_from (eqb (inner_a x) v) (eqb (inner_b x) v)
      (ne_eqb (inner_a x) v (off_a (inner_a x) (inner_a_has x k)))
      (ne_eqb (inner_b x) v (off_b (inner_b x) (inner_b_has x k))))

  -- an outer vertex has the edges of its part
  pub edges_of_outer_a : (k : ℕ) → k < length s.parts
      → edges_of (joined i p s t hats h) (slice_index s.outer k) ≡ slice_index_or s.parts k []
  edges_of_outer_a k lt =
      no_new_edge i p s t hats h v (has part)
      (λ j d l. outer_touch p.a v part (slice_index_or i.edges j d) (rows_live i h.rules j d l)
      (λ m. row_from i (slice_index_or i.edges j d) p.a (rows_live i h.rules j d l)
      (part_edges_a k (slice_index_or i.edges j d).name lt (from_has part (slice_index_or i.edges j d).name m)))
      (λ m. here (slice_index_or i.edges j d) (rows_live i h.rules j d l) m)
      (λ x at off. there (slice_index_or i.edges j d) x (rows_live i h.rules j d l) at off))
      (none_at v
      (λ m k' e. (apart i p s t hats h).first_second v m in_outer k' (sym e))
      (λ m k' e. (apart i p s t hats h).first_fourth v m in_outer k' (sym e)))
      ∙ kept_part (edge_names i) part h.rules.edges_named.rise (h.parts_a.rise k [] lt)
      (λ x m. edge_live p.a x (part_edges_a k x lt m))
    where
      v : ℕ
      v = slice_index s.outer k

      part : List ℕ
      part = slice_index_or s.parts k []

      in_outer : Has v s.outer
      in_outer = Has_at s.outer k (omega (arith, lt, h.parted.first_end.outer_each))

      here : (e : EdgeRow) → IsLiveRow i e → touch p.a e ≡ true → eqb (end_of e p.a) v ≡ has part e.name
      here e live at =
          by_end (λ y. eqb y v ≡ has part e.name) e p.a live at
          (λ a out. vertex_eq s.parts s.outer k e.name once_a h.parted.first_end.outer_each outer_a_once lt
          (has_a e.name ((Has-Contains e.name (edges_of i p.a)).1 (row_at i e p.a live at))))
          (λ b out. absurd (h.ends.differ b))
          (λ na nb l. absurd (na refl))

      there : (e : EdgeRow) (x : ℕ) → IsLiveRow i e → touch x e ≡ true → x ≢ p.a → eqb (end_of e x) v ≡ false
      there e x live at off =
          by_end (λ y. eqb y v ≡ false) e x live at
          (λ a out. absurd (off a))
          (λ b out. ne_eqb (outer_b i p s t hats h e.name) v
          (λ same. (apart i p s t hats h).first_third v (outer_b i p s t hats h e.name) in_outer out (sym same)))
          (λ na nb l. ne_eqb x v (old_other i p s t hats h x v l (outer_a_new i p s t hats h v in_outer)))

  -- and so has one of the second end
  pub edges_of_outer_b : (k : ℕ) → k < length t.parts
      → edges_of (joined i p s t hats h) (slice_index t.outer k) ≡ slice_index_or t.parts k []
  edges_of_outer_b k lt =
      no_new_edge i p s t hats h v (has part)
      (λ j d l. outer_touch p.b v part (slice_index_or i.edges j d) (rows_live i h.rules j d l)
      (λ m. row_from i (slice_index_or i.edges j d) p.b (rows_live i h.rules j d l)
      (part_edges_b k (slice_index_or i.edges j d).name lt (from_has part (slice_index_or i.edges j d).name m)))
      (λ m. here (slice_index_or i.edges j d) (rows_live i h.rules j d l) m)
      (λ x at off. there (slice_index_or i.edges j d) x (rows_live i h.rules j d l) at off))
      (none_at v
      (λ m k' e. (apart i p s t hats h).second_third m v k' in_outer e)
      (λ m k' e. (apart i p s t hats h).third_fourth v m in_outer k' (sym e)))
      ∙ kept_part (edge_names i) part h.rules.edges_named.rise (h.parts_b.rise k [] lt)
      (λ x m. edge_live p.b x (part_edges_b k x lt m))
    where
      v : ℕ
      v = slice_index t.outer k

      part : List ℕ
      part = slice_index_or t.parts k []

      in_outer : Has v t.outer
      in_outer = Has_at t.outer k (omega (arith, lt, h.parted.second_end.outer_each))

      here : (e : EdgeRow) → IsLiveRow i e → touch p.b e ≡ true → eqb (end_of e p.b) v ≡ has part e.name
      here e live at =
          by_end (λ y. eqb y v ≡ has part e.name) e p.b live at
          (λ a out. absurd (h.ends.differ (sym a)))
          (λ b out. vertex_eq t.parts t.outer k e.name once_b h.parted.second_end.outer_each outer_b_once lt
          (has_b e.name ((Has-Contains e.name (edges_of i p.b)).1 (row_at i e p.b live at))))
          (λ na nb l. absurd (nb refl))

      there : (e : EdgeRow) (x : ℕ) → IsLiveRow i e → touch x e ≡ true → x ≢ p.b → eqb (end_of e x) v ≡ false
      there e x live at off =
          by_end (λ y. eqb y v ≡ false) e x live at
          (λ a out. ne_eqb (outer_a i p s t hats h e.name) v
          (λ same. (apart i p s t hats h).first_third (outer_a i p s t hats h e.name) v out in_outer same))
          (λ b out. absurd (off b))
          (λ na nb l. ne_eqb x v (old_other i p s t hats h x v l (outer_b_new i p s t hats h v in_outer)))

  -- no old edge ends at an inner vertex
  no_old_at : (v : ℕ) → ((m : ℕ) → Has m s.outer → m ≢ v) → ((m : ℕ) → Has m t.outer → m ≢ v)
      → Has v (new_verts s t) → All (λ e. touch v (moved e) ≡ false) i.edges
  no_old_at v off_a off_b fresh j d l =
      or_from (eqb (end_of e e.a) v) (eqb (end_of e e.b) v) (off e.a (first_touch e)) (off e.b (second_touch e))
    where
      e : EdgeRow
      e = slice_index_or i.edges j d

      off : (x : ℕ) → touch x e ≡ true → eqb (end_of e x) v ≡ false
      off x at =
          by_end (λ y. eqb y v ≡ false) e x (rows_live i h.rules j d l) at
          (λ a out. ne_eqb (outer_a i p s t hats h e.name) v (off_a (outer_a i p s t hats h e.name) out))
          (λ b out. ne_eqb (outer_b i p s t hats h e.name) v (off_b (outer_b i p s t hats h e.name) out))
          (λ na nb live. ne_eqb x v (old_other i p s t hats h x v live fresh))

  -- an inner vertex of the first end has the new edges for those of its part
  pub edges_of_inner_a : (k : ℕ) → k < length s.parts
      → IsPermutation (edges_of (joined i p s t hats h) (slice_index s.inner k))
      (map (hat i p s t hats h) (slice_index_or s.parts k []))
  edges_of_inner_a k lt =
      subst (λ xs. IsPermutation (edges_of (joined i p s t hats h) v) (map (hat i p s t hats h) xs))
      (kept_part (edges_of i p.a) part (rise_at i p s t hats h p.a) (h.parts_a.rise k [] lt)
      (λ x m. (Has-Contains x (edges_of i p.a)).1 (part_edges_a k x lt m)))
      (no_old_edge i p s t hats h v (has part)
      (no_old_at v
      (λ m k' e. (apart i p s t hats h).first_second m v k' in_inner e)
      (λ m k' e. (apart i p s t hats h).second_third v m in_inner k' (sym e))
      (inner_a_new i p s t hats h v in_inner))
      (λ x m. or_first (eqb (inner_a x) v) (eqb (inner_b x) v)
      (ne_eqb (inner_b x) v (λ same. (apart i p s t hats h).second_fourth v (inner_b x) in_inner (inner_b_has x m) (sym same)))
      ∙ vertex_eq s.parts s.inner k x once_a h.parted.first_end.inner_each inner_a_once lt (has_a x m)))
    where
      v : ℕ
      v = slice_index s.inner k

      part : List ℕ
      part = slice_index_or s.parts k []

      in_inner : Has v s.inner
      in_inner = Has_at s.inner k (omega (arith, lt, h.parted.first_end.inner_each))

  -- partners of distinct edges are distinct
  partners_once : (xs : List ℕ) → Distinct xs → ((x : ℕ) → Has x xs → Has x (edges_of i p.b))
      → Distinct (map (partner p p.b) xs)
  partners_once [] once among = tt
  partners_once (x ∷ xs) once among = (
    lacks xs once.0 (λ y m. among y (inr m)),
    partners_once xs once.1 (λ y m. among y (inr m)),
  )
    where
      lacks : (ys : List ℕ) → Lacks x ys → ((y : ℕ) → Has y ys → Has y (edges_of i p.b))
          → Lacks (partner p p.b x) (map (partner p p.b) ys)
      lacks [] off in_b = tt
      lacks (y ∷ ys) off in_b = (
        λ e. off.0
            (sym (partner_forth i p s t hats h y (in_b y (inl refl))) ∙ ap (partner p p.a) e
            ∙ partner_forth i p s t hats h x (among x (inl refl))),
        lacks ys off.1 (λ z m. in_b z (inr m)),
      )

  -- the edges whose partners are in a part of the second end, in the order of these
  partners_of_part : (k : ℕ) → k < length t.parts
      → IsPermutation (filter (λ x. has (slice_index_or t.parts k []) (partner p p.a x)) (edges_of i p.a))
      (map (partner p p.b) (slice_index_or t.parts k []))
  partners_of_part k lt =
      IsPermutation-from kept images
      (Distinct-filtered (edges_of i p.a) (once_at i p s t hats h p.a))
      (partners_once part (part_once k lt) in_b)
      (λ x m. let r = Has-kept q (edges_of i p.a) x m in
      subst (λ z. Has z images) (partner_back i p s t hats h x r.0)
      (Has-image part (partner p p.a x) (from_has part (partner p p.a x) r.1)))
      (λ x m. let w = image-Has part x m in
      let back = partner_forth i p s t hats h w.0 (in_b w.0 w.1) in
      kept-Has q (edges_of i p.a) x
      (subst (λ z. Has z (edges_of i p.a)) w.2 (partner_of_b i p s t hats h w.0 (in_b w.0 w.1)))
      (subst (λ z. has part (partner p p.a z) ≡ true) w.2
      (ap (has part) back ∙ has_from part w.0 w.1)))
    where
      part : List ℕ
      part = slice_index_or t.parts k []

      q : ℕ → Bool
      q x = has part (partner p p.a x)

      kept : List ℕ
      kept = filter q (edges_of i p.a)

      images : List ℕ
      images = map (partner p p.b) part

      in_b : (y : ℕ) → Has y part → Has y (edges_of i p.b)
      in_b y m = (Has-Contains y (edges_of i p.b)).1 (part_edges_b k y lt m)

      part_once : (j : ℕ) → j < length t.parts → Distinct (slice_index_or t.parts j [])
      part_once j l = Distinct-rising (slice_index_or t.parts j []) (h.parts_b.rise j [] l)

      Distinct-filtered : (xs : List ℕ) → Distinct xs → Distinct (filter q xs)
      Distinct-filtered [] once = tt
      Distinct-filtered (x ∷ xs) once =
          cond_both (q x) (x ∷ filter q xs) (filter q xs) Distinct
          (λ _. (Lacks-from x (filter q xs) (λ m. has_lacks x xs (Has-kept q xs x m).0 once.0), Distinct-filtered xs once.1))
          (λ _. Distinct-filtered xs once.1)

      Has-image : (ys : List ℕ) (y : ℕ) → Has y ys → Has (partner p p.b y) (map (partner p p.b) ys)
      Has-image [] y m = elim m [ ]
      Has-image (z ∷ zs) y m = ⊎_elim (λ e. inl (ap (partner p p.b) e)) (λ n. inr (Has-image zs y n)) m

      image-Has : (ys : List ℕ) (x : ℕ) → Has x (map (partner p p.b) ys) → (y : ℕ) × Has y ys × (partner p p.b y ≡ x)
      image-Has [] x m = elim m [ ]
      image-Has (z ∷ zs) x m =
          ⊎_elim (λ e. (z, inl refl, e)) (λ n. let w = image-Has zs x n in (w.0, inr w.1, w.2)) m

  -- an inner vertex of the second end has the new edges for the partners of those of its part
  pub edges_of_inner_b : (k : ℕ) → k < length t.parts
      → IsPermutation (edges_of (joined i p s t hats h) (slice_index t.inner k))
      (map (λ y. hat i p s t hats h (partner p p.b y)) (slice_index_or t.parts k []))
  edges_of_inner_b k lt =
      subst (IsPermutation (edges_of (joined i p s t hats h) v)) (twice part)
      (IsPermutation-trans (edges_of (joined i p s t hats h) v) (map (hat i p s t hats h) (filter q (edges_of i p.a)))
      (map (hat i p s t hats h) (map (partner p p.b) part))
      (no_old_edge i p s t hats h v q
      (no_old_at v
      (λ m k' e. (apart i p s t hats h).first_fourth m v k' in_inner e)
      (λ m k' e. (apart i p s t hats h).third_fourth m v k' in_inner e)
      (inner_b_new i p s t hats h v in_inner))
      (λ x m. or_second (eqb (inner_a x) v) (eqb (inner_b x) v)
      (ne_eqb (inner_a x) v (λ same. (apart i p s t hats h).second_fourth (inner_a x) v (inner_a_has x m) in_inner same))
      ∙ vertex_eq t.parts t.inner k (partner p p.a x) once_b h.parted.second_end.inner_each inner_b_once lt
      (has_b (partner p p.a x) (partner_of_a i p s t hats h x m))))
      (IsPermutation-map (hat i p s t hats h) (filter q (edges_of i p.a)) (map (partner p p.b) part) (partners_of_part k lt)))
    where
      v : ℕ
      v = slice_index t.inner k

      part : List ℕ
      part = slice_index_or t.parts k []

      q : ℕ → Bool
      q x = has part (partner p p.a x)

      in_inner : Has v t.inner
      in_inner = Has_at t.inner k (omega (arith, lt, h.parted.second_end.inner_each))

      twice : (ys : List ℕ)
          → map (hat i p s t hats h) (map (partner p p.b) ys) ≡ map (λ y. hat i p s t hats h (partner p p.b y)) ys
      twice [] = refl
      twice (y ∷ ys) = ap (λ zs. hat i p s t hats h (partner p p.b y) ∷ zs) (twice ys)
