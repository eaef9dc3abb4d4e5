-- The darts at a vertex of some of the edges moved to a new vertex: the functions of the result.
use Rattle.std.proofs.Common.{◌≡◌, ℕ, ◌+◌, ◌*◌, ◌/◌, ◌<◌, Bool, true, false, not, List, sym, refl, ap, ◌∙◌, subst, ⊎_elim, arith, cond, eqb, ◌&&◌}
use Rattle.std.specs.List.{filter}
use Rattle.std.proofs.lemmas.Bool.{cases_Bool, cases_eq, eq-eqb, ne_eqb, not_from_false, false≢true, cond-true, cond-false, false_from_ne_true, not-true}
use Rattle.cp_lists.specs.CyclicLists.{Has, Distinct, follow}
use Rattle.cp_faces.specs.Faces.{stands}
use Rattle.cp_lists.proofs.CyclicLists.{follow-Has}
use Rattle.cp_faces.proofs.Faces.{stands_at, stands_some}
use Rattle.cp_rot.specs.Systems.{System, next, edges, vertex_of, list_of, IsRotation}
use Rattle.cp_rotlaw.specs.Restrictions.{split_vertex, split_list, split_off}
use Rattle.cp_rotlaw.specs.Restrictions.{MeetAt}
use Rattle.cp_rot.proofs.ListSystems.{Listed, turn, Listed-edges, system-edges, IsRotation-system}
use Rattle.cp_lists.proofs.FilteredLists.{Has-filter, filter-Has, filter-Distinct, filter_all, follow_kept}
use Rattle.cp_rot.proofs.Functions.{next-follow}

-- the darts at u of the edges that the test takes moved to a new vertex
module _ (r : System) (is : IsRotation r) (u : ℕ) (lt : u < r.vertices) (takes : ℕ → Bool) where
  -- the edge of the dart is taken
  abbrev pub taken : ℕ → Bool
  taken d = takes (d / 2)

  -- it is not taken
  abbrev pub left : ℕ → Bool
  left d = not (takes (d / 2))

  -- the vertices of the darts of the result
  abbrev pub at_split : ℕ → ℕ
  at_split = split_vertex r u takes

  -- its lists
  abbrev pub lists_split : ℕ → List ℕ
  lists_split = split_list r u takes

  -- the functions of the system
  pub split_before : Listed r.vertices (2 * edges r) (vertex_of r) (list_of r)
  split_before = Listed-edges r (edges r) is refl

  -- a dart at u that is taken moves
  pub split_moved : (d : ℕ) → vertex_of r d ≡ u → takes (d / 2) ≡ true → at_split d ≡ r.vertices
  split_moved d e t = rw (eq-eqb (vertex_of r d) u e, t) refl

  -- a dart that is not taken stays
  pub split_left : (d : ℕ) → takes (d / 2) ≡ false → at_split d ≡ vertex_of r d
  split_left d f = ⊎_elim
      (λ e. rw (eq-eqb (vertex_of r d) u e, f) refl)
      (λ ne. rw (ne_eqb (vertex_of r d) u ne) refl)
      (cases_eq (vertex_of r d) u)

  -- a dart at another vertex stays
  pub split_other : (d : ℕ) → (vertex_of r d ≡ u → ⊥) → at_split d ≡ vertex_of r d
  split_other d ne = rw (ne_eqb (vertex_of r d) u ne) refl

  -- the list of the new vertex
  pub split_list_new : lists_split r.vertices ≡ filter taken (list_of r u)
  split_list_new = rw (eq-eqb r.vertices r.vertices refl) refl

  -- the list of u
  pub split_list_left : lists_split u ≡ filter left (list_of r u)
  split_list_left = rw (ne_eqb u r.vertices (λ e. omega arith), eq-eqb u u refl) refl

  -- the lists of others
  pub split_list_other : (x : ℕ) → (x ≡ r.vertices → ⊥) → (x ≡ u → ⊥) → lists_split x ≡ list_of r x
  split_list_other x nv nu = rw (ne_eqb x r.vertices nv, ne_eqb x u nu) refl

  -- what holds of darts that move, of those left at u and of those elsewhere holds of all
  split_cases : (P : ℕ → Type 0) (d : ℕ) → (vertex_of r d ≡ u → taken d ≡ true → P r.vertices)
      → (vertex_of r d ≡ u → left d ≡ true → P u) → ((vertex_of r d ≡ u → ⊥) → P (vertex_of r d)) → P (at_split d)
  split_cases P d moved stays other = ⊎_elim
      (λ e. ⊎_elim
      (λ t. subst P (sym (split_moved d e t)) (moved e t))
      (λ f. subst P (sym (split_left d f ∙ e)) (stays e (not_from_false (taken d) f)))
      (cases_Bool (taken d)))
      (λ ne. subst P (sym (split_other d ne)) (other ne))
      (cases_eq (vertex_of r d) u)

  -- the functions of the result
  pub Listed-split : Listed (r.vertices + 1) (2 * edges r) at_split lists_split
  Listed-split = record {
    placed = λ d l. split_cases (λ x. x < r.vertices + 1) d (λ e t. omega arith) (λ e t. omega arith) (λ ne. omega (arith, split_before.placed d l));
    distinct = λ x l. ⊎_elim
        (λ e. subst (λ y. Distinct (lists_split y)) (sym e) (subst Distinct (sym split_list_new) (filter-Distinct taken (list_of r u) (split_before.distinct u lt))))
        (λ nv. ⊎_elim
        (λ e. subst (λ y. Distinct (lists_split y)) (sym e) (subst Distinct (sym split_list_left) (filter-Distinct left (list_of r u) (split_before.distinct u lt))))
        (λ nu. subst Distinct (sym (split_list_other x nv nu)) (split_before.distinct x (omega arith)))
        (cases_eq x u))
        (cases_eq x r.vertices);
    own = λ d l. split_cases (λ x. Has d (lists_split x)) d
        (λ e t. subst (Has d) (sym split_list_new) (Has-filter taken d (list_of r u) (subst (λ x. Has d (list_of r x)) e (split_before.own d l)) t))
        (λ e t. subst (Has d) (sym split_list_left) (Has-filter left d (list_of r u) (subst (λ x. Has d (list_of r x)) e (split_before.own d l)) t))
        (λ ne. subst (Has d) (sym (split_list_other (vertex_of r d) (λ e. omega (arith, split_before.placed d l)) ne)) (split_before.own d l));
    item = λ x d l h. ⊎_elim
        (λ e.
        let w = filter-Has taken d (list_of r u) (subst (Has d) split_list_new (subst (λ y. Has d (lists_split y)) e h)) in
        let old = split_before.item u d lt w.0 in
        (old.0, split_moved d old.1 w.1 ∙ sym e))
        (λ nv. ⊎_elim
        (λ e.
        let w = filter-Has left d (list_of r u) (subst (Has d) split_list_left (subst (λ y. Has d (lists_split y)) e h)) in
        let old = split_before.item u d lt w.0 in
        (old.0, split_left d (not-true (taken d) w.1) ∙ old.1 ∙ sym e))
        (λ nu.
        let old = split_before.item x d (omega arith) (subst (Has d) (split_list_other x nv nu) h) in
        (old.0, split_other d (λ e. nu (sym old.1 ∙ e)) ∙ old.1))
        (cases_eq x u))
        (cases_eq x r.vertices);
  }

  -- the result is a rotation system
  pub IsRotation-split : IsRotation (split_off r u takes)
  IsRotation-split = IsRotation-system (r.vertices + 1) (edges r) at_split lists_split Listed-split

  -- it has as many edges
  pub split-edges : edges (split_off r u takes) ≡ edges r
  split-edges = system-edges (r.vertices + 1) (edges r) at_split lists_split

  -- the vertex of a dart that is taken, and else no vertex
  abbrev taken_at : ℕ → ℕ
  taken_at d = cond (takes (d / 2)) (vertex_of r d) r.vertices

  -- x is not u, and a dart that is taken stands at x
  abbrev pub of_taken : ℕ → Bool
  of_taken x = not (eqb x u) && stands taken_at (2 * edges r) x

  -- the vertex of a dart that is taken, elsewhere than at u
  pub of_taken_yes : (d : ℕ) → d < 2 * edges r → takes (d / 2) ≡ true → (vertex_of r d ≡ u → ⊥)
      → of_taken (vertex_of r d) ≡ true
  of_taken_yes d l t ne = rw (ne_eqb (vertex_of r d) u ne) (stands_at taken_at (2 * edges r) d (vertex_of r d) l (cond-true (takes (d / 2)) (vertex_of r d) r.vertices t))

  -- u itself
  pub of_taken_u : of_taken u ≡ false
  of_taken_u = rw (eq-eqb u u refl) refl

  -- where the edges that are taken and the others meet at u alone
  module _ (meet : MeetAt r u takes) where
    -- behind a dart that is left comes the next that is left
    pub split_turn_left : (d : ℕ) → d < 2 * edges r → takes (d / 2) ≡ false
        → turn at_split lists_split d ≡ follow (filter left (list_of r (vertex_of r d))) d
    split_turn_left d l f =
        ap (λ x. follow (lists_split x) d) (split_left d f) ∙ ⊎_elim
        (λ e. ap (λ xs. follow xs d) (ap lists_split e ∙ split_list_left ∙ ap (λ x. filter left (list_of r x)) (sym e)))
        (λ ne. ap (λ xs. follow xs d) (
        split_list_other (vertex_of r d) (λ e. omega (arith, split_before.placed d l)) ne
        ∙ sym (filter_all left (list_of r (vertex_of r d)) (λ f' h.
        let old = split_before.item (vertex_of r d) f' (split_before.placed d l) h in
        not_from_false (taken f') (meet f' d (omega (arith, old.0, is.paired)) (omega (arith, is.paired)) old.1 (λ e. ne (sym old.1 ∙ e)) ∙ f)))))
        (cases_eq (vertex_of r d) u)

    -- behind a dart that is taken comes the next that is taken
    pub split_turn_taken : (d : ℕ) → d < 2 * edges r → takes (d / 2) ≡ true
        → turn at_split lists_split d ≡ follow (filter taken (list_of r (vertex_of r d))) d
    split_turn_taken d l t = ⊎_elim
        (λ e. ap (λ x. follow (lists_split x) d) (split_moved d e t) ∙ ap (λ xs. follow xs d) (split_list_new ∙ ap (λ x. filter taken (list_of r x)) (sym e)))
        (λ ne. ap (λ x. follow (lists_split x) d) (split_other d ne) ∙ ap (λ xs. follow xs d) (
        split_list_other (vertex_of r d) (λ e. omega (arith, split_before.placed d l)) ne
        ∙ sym (filter_all taken (list_of r (vertex_of r d)) (λ f h.
        let old = split_before.item (vertex_of r d) f (split_before.placed d l) h in
        meet f d (omega (arith, old.0, is.paired)) (omega (arith, is.paired)) old.1 (λ e. ne (sym old.1 ∙ e)) ∙ t))))
        (cases_eq (vertex_of r d) u)

    -- the vertex of a dart that is left
    pub of_taken_no : (d : ℕ) → d < 2 * edges r → takes (d / 2) ≡ false → of_taken (vertex_of r d) ≡ false
    of_taken_no d l f = ⊎_elim
        (λ e. ap of_taken e ∙ of_taken_u)
        (λ ne. rw (ne_eqb (vertex_of r d) u ne) (false_from_ne_true (stands taken_at (2 * edges r) (vertex_of r d)) (λ t.
        let s = stands_some taken_at (2 * edges r) (vertex_of r d) t in
        ⊎_elim
        (λ tk.
        let same : vertex_of r s.0 ≡ vertex_of r d = sym (cond-true (takes (s.0 / 2)) (vertex_of r s.0) r.vertices tk) ∙ s.2 in
        false≢true (sym f ∙ sym (meet s.0 d (omega (arith, s.1, is.paired)) (omega (arith, is.paired)) same (λ e. ne (sym same ∙ e))) ∙ tk))
        (λ fk.
        let out : r.vertices ≡ vertex_of r d = sym (cond-false (takes (s.0 / 2)) (vertex_of r s.0) r.vertices fk) ∙ s.2 in
        omega (arith, split_before.placed d l))
        (cases_Bool (takes (s.0 / 2))))))
        (cases_eq (vertex_of r d) u)

    -- the dart behind a dart is taken where it is
    pub split_turn_kind : (d : ℕ) → d < 2 * edges r → takes (turn at_split lists_split d / 2) ≡ takes (d / 2)
    split_turn_kind d l = ⊎_elim
        (λ t. ap taken (split_turn_taken d l t) ∙ (filter-Has taken (follow (filter taken (list_of r (vertex_of r d))) d) (list_of r (vertex_of r d))
        (follow-Has d (filter taken (list_of r (vertex_of r d))) (Has-filter taken d (list_of r (vertex_of r d)) (split_before.own d l) t))).1 ∙ sym t)
        (λ f. ap taken (split_turn_left d l f) ∙ not-true (taken (follow (filter left (list_of r (vertex_of r d))) d)) (filter-Has left (follow (filter left (list_of r (vertex_of r d))) d) (list_of r (vertex_of r d))
        (follow-Has d (filter left (list_of r (vertex_of r d))) (Has-filter left d (list_of r (vertex_of r d)) (split_before.own d l) (not_from_false (taken d) f)))).1 ∙ sym f)
        (cases_Bool (taken d))

    -- where the dart behind a dart is of the same kind, it stays behind it
    pub split_turn_same : (d : ℕ) → d < 2 * edges r → takes (next r d / 2) ≡ takes (d / 2)
        → turn at_split lists_split d ≡ next r d
    split_turn_same d l same =
        let behind : next r d ≡ follow (list_of r (vertex_of r d)) d = next-follow r is d (omega (arith, is.paired)) in
        ⊎_elim
        (λ t. split_turn_taken d l t ∙ follow_kept taken d (list_of r (vertex_of r d)) (split_before.own d l) t (ap taken (sym behind) ∙ same ∙ t) ∙ sym behind)
        (λ f. split_turn_left d l f ∙ follow_kept left d (list_of r (vertex_of r d)) (split_before.own d l) (not_from_false (taken d) f) (ap left (sym behind) ∙ not_from_false (taken (next r d)) (same ∙ f)) ∙ sym behind)
        (cases_Bool (taken d))
