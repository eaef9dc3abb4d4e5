-- The vertices of a side merged into one list, one after the other.
use Rattle.std.proofs.Common.{◌≡◌, ℕ, ◌*◌, ◌<◌, ◌&&◌, Bool, true, false, not, eqb, List, [], ◌∷◌, ◌++◌, length, map, set, slice_index_or, sym, refl, ap, ap₂, ◌∙◌, subst, ⊎_elim}
use Rattle.std.proofs.lemmas.Bool.{and_parts, cases_eq, eq-eqb, false≢true, ne_eqb, not-true}
use Rattle.std.proofs.lemmas.List.{get_or-set_other, get_or-set_same, length-set, map-append}
use Rattle.std.specs.List.{filter}
use Rattle.cp_lists.specs.CyclicLists.{Distinct, Has, Lacks, but}
use Rattle.cp_lists.specs.Turns.{IsTurn}
use Rattle.cp_lists.proofs.DistinctLists.{Has-append_cases, Has-append_left, Has-append_right, Has-split, but_middle}
use Rattle.cp_lists.proofs.FilteredLists.{Has-filter, filter-Distinct, filter-Has, filter_agree, filter_twice}
use Rattle.cp_lists.proofs.TurnedLists.{Has-of_turn, turn-Has}
use Rattle.cp_maps.specs.Genus.{Becomes}
use Rattle.cp_maps.specs.Maps.{IsMapOf}
use Rattle.cp_maps.proofs.Genus.{SameGenus-trans}
use Rattle.cp_mergelaw.specs.Sides.{IsMergeOf}
use Rattle.cp_mergelaw.proofs.MergedLists.{IsMergeOf-before}
use Rattle.cp_rot.specs.Rewrites.{values}
use Rattle.cp_rot.specs.Systems.{IsRotation, System, darts, edges, list_of, next, vertex_of}
use Rattle.cp_rot.specs.Tables.{IsMarked}
use Rattle.cp_rot.proofs.ListSystems.{Listed, Listed-system}
use Rattle.cp_rotlaw.specs.SideOrders.{IsSideOf, in_side}
use Rattle.cp_rotlaw.specs.SideStates.{IsMerging, is_left, other_rows, vertices_left}
use Rattle.cp_rotlaw.proofs.NamedMaps.{Has-numbers, numbers-Distinct, numbers-below}

-- a vertex that is marked now is left where it was left and is another one
is_left-set : (side merged : List Bool) (w x : ℕ) → w < length merged
    → is_left side (set merged w true) x ≡ (is_left side merged x && not (eqb x w))
is_left-set side merged w x lt = ⊎_elim
    (λ e. ap (λ k. in_side side x && not (slice_index_or (set merged w true) k false)) e
    ∙ ap (λ b. in_side side x && not b) (get_or-set_same merged w true false lt)
    ∙ and_false (in_side side x)
    ∙ sym (ap (λ b. is_left side merged x && not b) (eq-eqb x w e) ∙ and_false (is_left side merged x)))
    (λ ne. ap (λ b. in_side side x && not b) (get_or-set_other merged w x true false ne)
    ∙ sym (ap (λ b. is_left side merged x && not b) (ne_eqb x w ne) ∙ and_true (is_left side merged x)))
    (cases_eq x w)
  where
    and_false : (b : Bool) → (b && false) ≡ false
    and_false true = refl
    and_false false = refl

    and_true : (b : Bool) → (b && true) ≡ b
    and_true true = refl
    and_true false = refl

-- a system with a side
module _ (r : System) (is : IsRotation r) (side : List Bool) (sides : IsSideOf r side) where
  -- the lists
  abbrev lists : ℕ → List ℕ
  lists = list_of r

  -- the vertices
  abbrev vertices : List ℕ
  vertices = values r.vertices (λ v. v)

  -- the vertices that are left
  abbrev left : List Bool → List ℕ
  left = vertices_left r side

  -- the lists of the other side
  abbrev others : List (List ℕ)
  others = other_rows r side

  -- the lists of the system have the darts of their vertices
  l : Listed r.vertices (darts r) (vertex_of r) (list_of r)
  l = Listed-system r is

  -- a vertex that is left
  pub left_are : (merged : List Bool) (w : ℕ) → Has w (left merged)
      → (w < r.vertices) × (in_side side w ≡ true) × (slice_index_or merged w false ≡ false)
  left_are merged w h =
      let k = filter-Has (is_left side merged) w vertices h in
      let both = and_parts (in_side side w) (not (slice_index_or merged w false)) k.1 in
      (numbers-below r.vertices w k.0, both.0, not-true (slice_index_or merged w false) both.1)

  -- a vertex of the side that is not merged is left
  pub left_have : (merged : List Bool) (w : ℕ) → w < r.vertices → in_side side w ≡ true
      → slice_index_or merged w false ≡ false → Has w (left merged)
  left_have merged w lt inside out =
      Has-filter (is_left side merged) w vertices (Has-numbers r.vertices w lt)
      (ap₂ (λ a b. a && not b) inside out)

  -- none is left twice
  pub left-Distinct : (merged : List Bool) → Distinct (left merged)
  left-Distinct merged = filter-Distinct (is_left side merged) vertices (numbers-Distinct r.vertices)

  -- a vertex is merged: the others stay
  pub left-set : (merged : List Bool) (w : ℕ) → w < length merged → left (set merged w true) ≡ but w (left merged)
  left-set merged w lt =
      filter_agree (is_left side (set merged w true)) (λ x. is_left side merged x && not (eqb x w)) vertices
      (λ x h. is_left-set side merged w x lt)
      ∙ sym (filter_twice (is_left side merged) (λ x. not (eqb x w))
      (λ x. is_left side merged x && not (eqb x w)) vertices (λ x. refl))

  -- a first merge: no vertex is merged, and the list is empty
  pub IsMerging-start : (merged : List Bool) → length merged ≡ r.vertices
      → ((w : ℕ) → slice_index_or merged w false ≡ false)
      → Becomes (edges r) (next r) ([] ∷ (map lists (left merged) ++ others)) → IsMerging r side merged []
  IsMerging-start merged size none becomes = record {
    size = size;
    within = λ w m. absurd (false≢true (sym (none w) ∙ m));
    items = λ d h. absurd h;
    all = λ d lt m. absurd (false≢true (sym (none (vertex_of r d)) ∙ m));
    becomes = becomes;
    refines = λ whole merge.
        subst (λ ws. IsMergeOf whole (map lists ws)) (all_left merged none)
        (record { restricted = merge.restricted.1; uncrossed = merge.uncrossed.1 });
  }
    where
      and_true : (b : Bool) → (b && true) ≡ b
      and_true true = refl
      and_true false = refl

      all_left : (merged : List Bool) → ((w : ℕ) → slice_index_or merged w false ≡ false)
          → left merged ≡ filter (in_side side) vertices
      all_left merged none = filter_agree (is_left side merged) (in_side side) vertices
          (λ w h. ap (λ b. in_side side w && not b) (none w) ∙ and_true (in_side side w))

  -- one vertex more is merged
  pub IsMerging-more : (merged : List Bool) (first : List ℕ) (m : IsMerging r side merged first) (w : ℕ)
      → Has w (left merged) → (us vs : List ℕ) → IsTurn first us → IsTurn (lists w) vs
      → Becomes (edges r) m.becomes.0 ((us ++ vs) ∷ (map lists (but w (left merged)) ++ others))
      → IsMerging r side (set merged w true) (us ++ vs)
  IsMerging-more merged first m w h us vs one two b = record {
    size = length-set merged w true ∙ m.size;
    within = λ x k. ⊎_elim
        (λ e. subst (λ y. in_side side y ≡ true) (sym e) at_w.1)
        (λ ne. m.within x (sym (get_or-set_other merged w x true false ne) ∙ k))
        (cases_eq x w);
    items = λ d k. ⊎_elim
        (λ in_us. let i = m.items d (Has-of_turn first us d one in_us) in
        (i.0, kept (vertex_of r d) i.1))
        (λ in_vs. let i = l.item w d at_w.0 (Has-of_turn (lists w) vs d two in_vs) in
        (i.0, ap (λ x. slice_index_or (set merged w true) x false) i.1 ∙ get_or-set_same merged w true false low))
        (Has-append_cases d us vs k);
    all = λ d lt k. ⊎_elim
        (λ e. Has-append_right d us vs (turn-Has (lists w) vs d two (subst (λ x. Has d (lists x)) e (l.own d lt))))
        (λ ne. Has-append_left d us vs (turn-Has first us d one
        (m.all d lt (sym (get_or-set_other merged w (vertex_of r d) true false ne) ∙ k))))
        (cases_eq (vertex_of r d) w);
    becomes = (
      b.0,
      subst (λ ws. IsMapOf (2 * edges r) b.0 ((us ++ vs) ∷ (map lists ws ++ others))) (sym (left-set merged w low)) b.1,
      SameGenus-trans (edges r) (next r) m.becomes.0 b.0 m.becomes.2 b.2,
    );
    refines = λ whole merge. m.refines whole
        (subst (λ ws. IsMergeOf whole (first ∷ map lists ws)) (sym s.2)
        (subst (λ rows. IsMergeOf whole (first ∷ rows)) (sym (map-append lists s.0 (w ∷ s.1)))
        (IsMergeOf-before whole first (lists w) us vs (map lists s.0) (map lists s.1) one two b.1.rings.0.distinct
        (subst (λ rows. IsMergeOf whole ((us ++ vs) ∷ rows)) (map-append lists s.0 s.1)
        (subst (λ ws. IsMergeOf whole ((us ++ vs) ∷ map lists ws)) (left-set merged w low ∙ rest) merge)))));
  }
    where
      at_w : (w < r.vertices) × (in_side side w ≡ true) × (slice_index_or merged w false ≡ false)
      at_w = left_are merged w h

      low : w < length merged
      low = subst (λ n. w < n) (sym m.size) at_w.0

      kept : (x : ℕ) → IsMarked merged x → IsMarked (set merged w true) x
      kept x k = ⊎_elim
          (λ e. ap (λ y. slice_index_or (set merged w true) y false) e ∙ get_or-set_same merged w true false low)
          (λ ne. get_or-set_other merged w x true false ne ∙ k)
          (cases_eq x w)

      s : (bs : List ℕ) × (cs : List ℕ) × (left merged ≡ bs ++ w ∷ cs) × Lacks w bs
      s = Has-split w (left merged) h

      rest : but w (left merged) ≡ s.0 ++ s.1
      rest = ap (but w) s.2 ∙ but_middle w s.0 s.1 (subst Distinct s.2 (left-Distinct merged))
