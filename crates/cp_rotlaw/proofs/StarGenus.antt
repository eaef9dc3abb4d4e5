-- A vertex is split one part after the other, so genus zero stays.
use Rattle.std.proofs.Common.{◌≡◌, ◌≢◌, ℕ, zero, suc, ◌+◌, ◌-◌, ◌*◌, ◌/◌, ◌<◌, ◌≤◌, ◌⊎◌, Bool, true, false, cond, not, ◌&&◌, eqb, ltb, List, [], ◌∷◌, slice_index, sym, refl, ap, ap₂, ◌∙◌, subst, inl, inr, ⊎_elim, arith}
use Rattle.std.specs.List.{filter}
use Rattle.std.proofs.lemmas.Bool.{cases_eq, cases_lt, cases_Bool, eq-eqb, ne_eqb, eqb-true, le-ltb, lt-ltb, false≢true}
use Rattle.std.proofs.lemmas.List.{get_or_default}
use Rattle.cp_lists.specs.CyclicLists.{Has}
use Rattle.cp_lists.proofs.Counting.{same_tests}
use Rattle.cp_rot.specs.Systems.{System, darts, edges, vertex_of, list_of, IsRotation}
use Rattle.cp_faces.specs.Twins.{twin}
use Rattle.cp_rot.specs.Genus.{HasGenusZero}
use Rattle.cp_rot.specs.Rewrites.{values, system}
use Rattle.cp_rotlaw.specs.Restrictions.{split_vertex, split_list, split_off}
use Rattle.cp_rotlaw.specs.Restrictions.{MeetAt}
use Rattle.cp_rot.proofs.ListEdits.{length-values}
use Rattle.cp_rot.proofs.ListSystems.{Listed-system, system_at, system_list, system-edges}
use Rattle.cp_lists.proofs.FilteredLists.{filter_agree, filter_all}
use Rattle.cp_rotlaw.proofs.SplitVertices.{IsRotation-split}
use Rattle.cp_rotlaw.proofs.RestrictionLaws.{split_keeps_zero}
use Rattle.cp_rotlaw.specs.Stars.{IsDartOf, star_vertex}
use Rattle.cp_rotlaw.specs.StarParts.{AreEntered, part_of, star_at, star_row}
use Rattle.cp_rotlaw.proofs.StarSystems.{star_lists, star_system, values_of, system_same, star_vertex-apart, star_vertex-old, star_at_part, star_at_other, star_lists_first, star_lists_other, star_lists_new, edge_part, edge_part_far, edge_part_near}

-- a system is given by its functions
pub system_of_functions : (r : System) → IsRotation r → system r.vertices (edges r) (vertex_of r) (list_of r) ≡ r
system_of_functions r is =
    ap (λ xs. let s : System = record { vertices = r.vertices; at = xs; lists = values r.vertices (list_of r) } in s)
    (sym (values_of (2 * edges r) (vertex_of r) r.at is.paired (λ i z lt. get_or_default r.at i z 0 (omega (arith, is.paired)))))
    ∙ ap (λ xs. let s : System = record { vertices = r.vertices; at = r.at; lists = xs } in s)
    (sym (values_of r.vertices (list_of r) r.lists is.listed (λ i z lt. get_or_default {X = List ℕ} r.lists i z [] (omega (arith, is.listed)))))

-- two tests for equal numbers agree
eqb_same : (a b c d : ℕ) → (a ≡ b → c ≡ d) → (c ≡ d → a ≡ b) → eqb a b ≡ eqb c d
eqb_same a b c d there back = same_tests (eqb a b) (eqb c d) (λ t. eq-eqb c d (there (eqb-true a b t))) (λ t. eq-eqb a b (back (eqb-true c d t)))

-- a list of which is kept what passes one test and then another
filter_twice : (p q : ℕ → Bool) (xs : List ℕ) → filter q (filter p xs) ≡ filter (λ d. p d && q d) xs
filter_twice p q [] = refl
filter_twice p q (x ∷ xs) =
    ⊎_elim
    (λ t. rw t (ap (λ (ys : List ℕ). cond (q x) (x ∷ ys) ys) (filter_twice p q xs)))
    (λ f. rw f (filter_twice p q xs))
    (cases_Bool (p x))

-- what stands at u and is taken moves
goes : (w u n : ℕ) (t : Bool) → w ≡ u → t ≡ true → cond (eqb w u && t) n w ≡ n
goes w u n t e f = rw (eq-eqb w u e, f) refl

-- all else stays
stays : (w u n : ℕ) (t : Bool) → (w ≡ u → ⊥) ⊎ (t ≡ false) → cond (eqb w u && t) n w ≡ w
stays w u n t h = ⊎_elim (λ ne. rw (ne_eqb w u ne) refl) (λ f. untaken (eqb w u) t f) h
  where
    untaken : (b c : Bool) → c ≡ false → cond (b && c) n w ≡ w
    untaken true true f = absurd (false≢true (sym f))
    untaken true false f = refl
    untaken false c f = refl

-- the list of the new vertex of a split
new_list : (s : System) (u : ℕ) (t : ℕ → Bool) (x : ℕ) → x ≡ s.vertices
    → split_list s u t x ≡ filter (λ d. t (d / 2)) (list_of s u)
new_list s u t x e = rw (eq-eqb x s.vertices e) refl

-- the list of the vertex that is split
left_list : (s : System) (u : ℕ) (t : ℕ → Bool) (x : ℕ) → (x ≡ s.vertices → ⊥) → x ≡ u
    → split_list s u t x ≡ filter (λ d. not (t (d / 2))) (list_of s u)
left_list s u t x ne e = rw (ne_eqb x s.vertices ne, eq-eqb x u e) refl

-- the other lists
other_list : (s : System) (u : ℕ) (t : ℕ → Bool) (x : ℕ) → (x ≡ s.vertices → ⊥) → (x ≡ u → ⊥)
    → split_list s u t x ≡ list_of s x
other_list s u t x ne nu = rw (ne_eqb x s.vertices ne, ne_eqb x u nu) refl

module _ (r : System) (is : IsRotation r) (u : ℕ) (ltu : u < r.vertices) (parts : ℕ) (entered : List ℕ)
    (a : AreEntered r u parts entered) where
  -- the number of the vertex of dart d, where the parts above k are at u
  abbrev pub limited : ℕ → ℕ → ℕ
  limited k d = cond (ltb k (part_of r entered d)) 0 (part_of r entered d)

  -- a dart of a part up to k has the number of its part
  limited_low : (k d : ℕ) → part_of r entered d ≤ k → limited k d ≡ part_of r entered d
  limited_low k d le = rw (le-ltb k (part_of r entered d) le) refl

  -- and a dart of a part above k has the number 0, of u
  limited_high : (k d : ℕ) → k < part_of r entered d → limited k d ≡ 0
  limited_high k d lt = rw (lt-ltb k (part_of r entered d) lt) refl

  -- only the darts of the next part move
  limited_step : (k d : ℕ) → (part_of r entered d ≡ suc k → ⊥) → limited k d ≡ limited (suc k) d
  limited_step k d ne =
      ⊎_elim
      (λ lt. limited_high k d lt ∙ sym (limited_high (suc k) d (omega arith)))
      (λ le. limited_low k d le ∙ sym (limited_low (suc k) d (omega arith)))
      (cases_lt k (part_of r entered d))

  -- the parts above k are still at u
  abbrev pub stage : ℕ → System
  stage k = star_system r u k (limited k)

  -- the edges of the next part
  abbrev pub takes : ℕ → ℕ → Bool
  takes k e = eqb (edge_part r entered e) (k + 2)

  -- the vertex of a dart at a stage
  stage_at : (k d : ℕ) → d < 2 * edges r → vertex_of (stage k) d ≡ star_at r u (limited k) d
  stage_at k d lt = system_at (r.vertices + k) (edges r) (star_at r u (limited k)) (star_lists r u (limited k)) d lt

  -- the list of a vertex at a stage
  stage_list : (k x : ℕ) → x < r.vertices + k → list_of (stage k) x ≡ star_lists r u (limited k) x
  stage_list k x lt = system_list (r.vertices + k) (edges r) (star_at r u (limited k)) (star_lists r u (limited k)) x lt

  -- and the list of u: its darts of the parts that are still there
  stage_list_u : (k : ℕ) → list_of (stage k) u ≡ star_row (limited k) (list_of r u) 0
  stage_list_u k = stage_list k u (omega arith) ∙ star_lists_first r u (limited k)

  -- each stage has the same darts
  stage-darts : (k : ℕ) → darts (stage k) ≡ 2 * edges r
  stage-darts k = length-values (2 * edges r) (star_at r u (limited k))

  -- a dart of u is of an edge that is taken exactly where it is in the next part
  part_taken : (k d : ℕ) → IsDartOf r u d → part_of r entered d ≡ suc k → takes k (d / 2) ≡ true
  part_taken k d dart e = eq-eqb (edge_part r entered (d / 2)) (k + 2) (omega (arith, edge_part_far r u parts entered a d dart.stands, a.seen d dart))

  -- a dart of u in another part is of an edge that is not taken
  part_left : (k d : ℕ) → IsDartOf r u d → (part_of r entered d ≡ suc k → ⊥) → takes k (d / 2) ≡ false
  part_left k d dart ne = ne_eqb (edge_part r entered (d / 2)) (k + 2) (λ e. ne (omega (arith, edge_part_far r u parts entered a d dart.stands, a.seen d dart)))

  -- the vertices of the darts of the next stage
  next_at : (k d : ℕ) → d < 2 * edges r → split_vertex (stage k) u (takes k) d ≡ star_at r u (limited (suc k)) d
  next_at k d lt =
      ap (λ (w : ℕ). cond (eqb w u && takes k (d / 2)) (r.vertices + k) w) (stage_at k d lt)
      ∙ ⊎_elim
      (λ e.
      let dart : IsDartOf r u d = record { within = omega (arith, is.paired); stands = e } in
      ⊎_elim
      (λ next.
      let at_u : star_at r u (limited k) d ≡ u = star_at_part r u (limited k) d e ∙ ap (star_vertex r u) (limited_high k d (omega arith)) in
      goes (star_at r u (limited k) d) u (r.vertices + k) (takes k (d / 2)) at_u (part_taken k d dart next)
      ∙ sym (star_at_part r u (limited (suc k)) d e ∙ ap (star_vertex r u) (limited_low (suc k) d (omega arith) ∙ next)))
      (λ other.
      stays (star_at r u (limited k) d) u (r.vertices + k) (takes k (d / 2)) (inr (part_left k d dart other))
      ∙ star_at_part r u (limited k) d e ∙ ap (star_vertex r u) (limited_step k d other) ∙ sym (star_at_part r u (limited (suc k)) d e))
      (cases_eq (part_of r entered d) (suc k)))
      (λ ne.
      stays (star_at r u (limited k) d) u (r.vertices + k) (takes k (d / 2)) (inl (λ f. ne (sym (star_at_other r u (limited k) d ne) ∙ f)))
      ∙ star_at_other r u (limited k) d ne ∙ sym (star_at_other r u (limited (suc k)) d ne))
      (cases_eq (vertex_of r d) u)

  -- a dart of the list of u is a dart of u
  listed : (d : ℕ) → Has d (list_of r u) → IsDartOf r u d
  listed d h = let w = (Listed-system r is).item u d ltu h in record { within = w.0; stands = w.1 }

  -- the list of the next vertex
  row_taken : (k : ℕ) → filter (λ d. takes k (d / 2)) (star_row (limited k) (list_of r u) 0)
      ≡ star_row (limited (suc k)) (list_of r u) (suc k)
  row_taken k = filter_twice (λ d. eqb (limited k d) 0) (λ d. takes k (d / 2)) (list_of r u) ∙ filter_agree (λ d. eqb (limited k d) 0 && takes k (d / 2)) (λ d. eqb (limited (suc k) d) (suc k)) (list_of r u) agree
    where
      and_no : (b t : Bool) → t ≡ false → (b && t) ≡ false
      and_no true t f = f
      and_no false t f = refl

      not_next : (j d : ℕ) → (part_of r entered d ≡ suc j → ⊥) → limited (suc j) d ≡ suc j → ⊥
      not_next j d ne e = ⊎_elim (λ lt. omega (arith, limited_high (suc j) d lt)) (λ le. ne (sym (limited_low (suc j) d le) ∙ e)) (cases_lt (suc j) (part_of r entered d))

      agree : (d : ℕ) → Has d (list_of r u) → (eqb (limited k d) 0 && takes k (d / 2)) ≡ eqb (limited (suc k) d) (suc k)
      agree d h = ⊎_elim
          (λ next. rw (part_taken k d (listed d h) next, eq-eqb (limited k d) 0 (limited_high k d (omega arith)), eq-eqb (limited (suc k) d) (suc k) (limited_low (suc k) d (omega arith) ∙ next)) refl)
          (λ other. and_no (eqb (limited k d) 0) (takes k (d / 2)) (part_left k d (listed d h) other) ∙ sym (ne_eqb (limited (suc k) d) (suc k) (not_next k d other)))
          (cases_eq (part_of r entered d) (suc k))

  -- the list of u then
  row_left : (k : ℕ) → filter (λ d. not (takes k (d / 2))) (star_row (limited k) (list_of r u) 0)
      ≡ star_row (limited (suc k)) (list_of r u) 0
  row_left k = filter_twice (λ d. eqb (limited k d) 0) (λ d. not (takes k (d / 2))) (list_of r u) ∙ filter_agree (λ d. eqb (limited k d) 0 && not (takes k (d / 2))) (λ d. eqb (limited (suc k) d) 0) (list_of r u) agree
    where
      and_false : (b : Bool) → (b && not true) ≡ false
      and_false true = refl
      and_false false = refl

      and_true : (b : Bool) → (b && not false) ≡ b
      and_true true = refl
      and_true false = refl

      agree : (d : ℕ) → Has d (list_of r u) → (eqb (limited k d) 0 && not (takes k (d / 2))) ≡ eqb (limited (suc k) d) 0
      agree d h = ⊎_elim
          (λ next. let low : limited (suc k) d ≡ suc k = limited_low (suc k) d (omega arith) ∙ next in rw (part_taken k d (listed d h) next) (and_false (eqb (limited k d) 0) ∙ sym (ne_eqb (limited (suc k) d) 0 (λ e. omega arith))))
          (λ other. rw (part_left k d (listed d h) other) (and_true (eqb (limited k d) 0) ∙ ap (λ (x : ℕ). eqb x 0) (limited_step k d other)))
          (cases_eq (part_of r entered d) (suc k))

  -- the other lists stay
  row_same : (k i : ℕ) → 0 < i → i ≤ k → star_row (limited k) (list_of r u) i ≡ star_row (limited (suc k))
      (list_of r u) i
  row_same k i some low = filter_agree (λ d. eqb (limited k d) i) (λ d. eqb (limited (suc k) d) i) (list_of r u) agree
    where
      agree : (d : ℕ) → Has d (list_of r u) → eqb (limited k d) i ≡ eqb (limited (suc k) d) i
      agree d h = ⊎_elim
          (λ next. ne_eqb (limited k d) i (λ e. omega (arith, limited_high k d (omega arith))) ∙ sym (ne_eqb (limited (suc k) d) i (λ e. omega (arith, limited_low (suc k) d (omega arith)))))
          (λ other. ap (λ (x : ℕ). eqb x i) (limited_step k d other))
          (cases_eq (part_of r entered d) (suc k))

  -- the lists of the vertices of the next stage
  next_list : (k x : ℕ) → x < r.vertices + k + 1 → split_list (stage k) u (takes k) x
      ≡ star_lists r u (limited (suc k)) x
  next_list k x lt =
      ⊎_elim
      (λ new. new_list (stage k) u (takes k) x new ∙ ap (filter (λ d. takes k (d / 2))) (stage_list_u k) ∙ row_taken k
      ∙ (let i : suc k ≡ x + 1 - r.vertices = omega arith in ap (star_row (limited (suc k)) (list_of r u)) i) ∙ sym (star_lists_new r u (limited (suc k)) x ltu (omega arith)))
      (λ old. ⊎_elim
      (λ e. left_list (stage k) u (takes k) x old e ∙ ap (filter (λ d. not (takes k (d / 2)))) (stage_list_u k) ∙ row_left k ∙ sym (star_lists_first r u (limited (suc k))) ∙ ap (star_lists r u (limited (suc k))) (sym e))
      (λ ne. other_list (stage k) u (takes k) x old ne ∙ stage_list k x (omega arith) ∙ ⊎_elim
      (λ below. star_lists_other r u (limited k) x below ne ∙ sym (star_lists_other r u (limited (suc k)) x below ne))
      (λ above. star_lists_new r u (limited k) x ltu above ∙ row_same k (x + 1 - r.vertices) (omega arith) (omega arith) ∙ sym (star_lists_new r u (limited (suc k)) x ltu above))
      (cases_lt x r.vertices))
      (cases_eq x u))
      (cases_eq x (r.vertices + k))

  -- the next stage is the split of the edges of the next part
  pub stage_next : (k : ℕ) → split_off (stage k) u (takes k) ≡ stage (suc k)
  stage_next k =
      ap (λ e. system (r.vertices + k + 1) e (split_vertex (stage k) u (takes k)) (split_list (stage k) u (takes k))) (system-edges (r.vertices + k) (edges r) (star_at r u (limited k)) (star_lists r u (limited k)))
      ∙ system_same (r.vertices + k + 1) (r.vertices + suc k) (edges r) (split_vertex (stage k) u (takes k)) (star_at r u (limited (suc k))) (split_list (stage k) u (takes k)) (star_lists r u (limited (suc k))) (omega arith) (next_at k) (next_list k)

  -- at first all parts are at u
  pub stage_first : stage 0 ≡ r
  stage_first = system_same (r.vertices + 0) r.vertices (edges r) (star_at r u (limited 0)) (vertex_of r) (star_lists r u (limited 0)) (list_of r) (omega arith) at_same lists_same ∙ system_of_functions r is
    where
      none : (d : ℕ) → limited 0 d ≡ 0
      none d = ⊎_elim (λ lt. limited_high 0 d lt) (λ le. limited_low 0 d le ∙ omega arith) (cases_lt 0 (part_of r entered d))

      at_same : (d : ℕ) → d < 2 * edges r → star_at r u (limited 0) d ≡ vertex_of r d
      at_same d lt = ⊎_elim (λ e. star_at_part r u (limited 0) d e ∙ ap (star_vertex r u) (none d) ∙ sym e) (λ ne. star_at_other r u (limited 0) d ne) (cases_eq (vertex_of r d) u)

      lists_same : (x : ℕ) → x < r.vertices + 0 → star_lists r u (limited 0) x ≡ list_of r x
      lists_same x lt = ⊎_elim
          (λ e. ap (star_lists r u (limited 0)) e ∙ star_lists_first r u (limited 0) ∙ filter_all (λ d. eqb (limited 0 d) 0) (list_of r u) (λ d h. eq-eqb (limited 0 d) 0 (none d)) ∙ ap (list_of r) (sym e))
          (λ ne. star_lists_other r u (limited 0) x (omega arith) ne)
          (cases_eq x u)

  -- at last each part has its vertex
  pub stage_last : stage (parts - 1) ≡ star_system r u (parts - 1) (part_of r entered)
  stage_last = system_same (r.vertices + (parts - 1)) (r.vertices + (parts - 1)) (edges r) (star_at r u (limited (parts - 1))) (star_at r u (part_of r entered)) (star_lists r u (limited (parts - 1))) (star_lists r u (part_of r entered)) refl at_same lists_same
    where
      all : (d : ℕ) → limited (parts - 1) d ≡ part_of r entered d
      all d = limited_low (parts - 1) d (omega (arith, a.within (vertex_of r (twin d))))

      row : (i : ℕ) → star_row (limited (parts - 1)) (list_of r u) i ≡ star_row (part_of r entered) (list_of r u) i
      row i = filter_agree (λ d. eqb (limited (parts - 1) d) i) (λ d. eqb (part_of r entered d) i) (list_of r u) (λ d h. ap (λ (x : ℕ). eqb x i) (all d))

      at_same : (d : ℕ) → d < 2 * edges r → star_at r u (limited (parts - 1)) d ≡ star_at r u (part_of r entered) d
      at_same d lt = ap (λ (i : ℕ). cond (eqb (vertex_of r d) u) (star_vertex r u i) (vertex_of r d)) (all d)

      lists_same : (x : ℕ) → x < r.vertices + (parts - 1)
          → star_lists r u (limited (parts - 1)) x ≡ star_lists r u (part_of r entered) x
      lists_same x lt = ap₂ (λ (ys zs : List ℕ). cond (eqb x u) ys (cond (ltb x r.vertices) (list_of r x) zs)) (row 0) (row (x + 1 - r.vertices))

  -- the edges of the next part and the others meet at u alone
  pub stage_meet : (k : ℕ) → MeetAt (stage k) u (takes k)
  stage_meet k d f ltd ltf same ne =
      let d_lt : d < 2 * edges r = omega (arith, stage-darts k) in
      let f_lt : f < 2 * edges r = omega (arith, stage-darts k) in
      let at : star_at r u (limited k) d ≡ star_at r u (limited k) f = sym (stage_at k d d_lt) ∙ same ∙ stage_at k f f_lt in
      let away : star_at r u (limited k) d ≢ u = λ e. ne (stage_at k d d_lt ∙ e) in
      ap (λ (x : ℕ). eqb x (k + 2)) (equal d f (omega (arith, is.paired)) (omega (arith, is.paired)) at away)
    where
      used : (d : ℕ) → vertex_of r d ≡ u → star_at r u (limited k) d ≢ u → limited k d ≡ part_of r entered d
      used d e away = ⊎_elim (λ lt. absurd (away (star_at_part r u (limited k) d e ∙ ap (star_vertex r u) (limited_high k d lt)))) (λ le. limited_low k d le) (cases_lt k (part_of r entered d))

      equal : (d f : ℕ) → d < darts r → f < darts r → star_at r u (limited k) d ≡ star_at r u (limited k) f
          → star_at r u (limited k) d ≢ u → edge_part r entered (d / 2) ≡ edge_part r entered (f / 2)
      equal d f ltd ltf at away =
          ⊎_elim
          (λ d_at. ⊎_elim
          (λ f_at.
          let d_part : limited k d ≡ part_of r entered d = used d d_at away in
          let f_part : limited k f ≡ part_of r entered f = used f f_at (λ e. away (at ∙ e)) in
          let one : limited k d ≡ limited k f = star_vertex-apart r u (limited k d) (limited k f) ltu (sym (star_at_part r u (limited k) d d_at) ∙ at ∙ star_at_part r u (limited k) f f_at) in
          omega (arith, edge_part_far r u parts entered a d d_at, edge_part_far r u parts entered a f f_at, a.seen d (record { within = ltd; stands = d_at }), a.seen f (record { within = ltf; stands = f_at })))
          (λ f_off. absurd (star_vertex-old r u (limited k d) (vertex_of r f) (is.placed f ltf) f_off (sym (star_at_part r u (limited k) d d_at) ∙ at ∙ star_at_other r u (limited k) f f_off)))
          (cases_eq (vertex_of r f) u))
          (λ d_off. ⊎_elim
          (λ f_at. absurd (star_vertex-old r u (limited k f) (vertex_of r d) (is.placed d ltd) d_off (sym (star_at_part r u (limited k) f f_at) ∙ sym at ∙ star_at_other r u (limited k) d d_off)))
          (λ f_off. edge_part_near r u parts entered is a d ltd d_off ∙ ap (slice_index entered) (sym (star_at_other r u (limited k) d d_off) ∙ at ∙ star_at_other r u (limited k) f f_off) ∙ sym (edge_part_near r u parts entered is a f ltf f_off))
          (cases_eq (vertex_of r f) u))
          (cases_eq (vertex_of r d) u)

  -- each stage is a rotation system, and genus zero stays
  stage_good : (k : ℕ) → IsRotation (stage k) × (HasGenusZero r → HasGenusZero (stage k))
  stage_good zero = subst (λ s. IsRotation s × (HasGenusZero r → HasGenusZero s)) (sym stage_first) (is, λ z. z)
  stage_good (suc k) =
      let h = stage_good k in
      subst (λ s. IsRotation s × (HasGenusZero r → HasGenusZero s)) (stage_next k) (IsRotation-split (stage k) h.0 u (omega arith) (takes k), λ z. split_keeps_zero (stage k) u (takes k) h.0 (omega arith) (stage_meet k) (h.1 z))

  -- so is the result
  pub star_good : IsRotation (star_system r u (parts - 1) (part_of r entered)) × (HasGenusZero r
      → HasGenusZero (star_system r u (parts - 1) (part_of r entered)))
  star_good = subst (λ s. IsRotation s × (HasGenusZero r → HasGenusZero s)) stage_last (stage_good (parts - 1))
