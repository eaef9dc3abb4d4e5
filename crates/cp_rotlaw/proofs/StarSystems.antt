-- The system with a vertex split into parts, by functions.
use Rattle.std.proofs.Common.{◌≡◌, ℕ, zero, suc, ◌+◌, ◌-◌, ◌*◌, ◌/◌, ◌%◌, ◌<◌, ◌≤◌, ◌⊎◌, cond, eqb, ltb, max, List, [], ◌∷◌, ◌++◌, length, slice_index, slice_index_or, sym, refl, ap, ap₂, ◌∙◌, inl, inr, ⊎_elim, arith}
use Rattle.std.specs.List.{Contains}
use Rattle.std.proofs.lemmas.Bool.{cases_eq, cases_lt, eq-eqb, ne_eqb, lt-ltb, le-ltb}
use Rattle.std.proofs.lemmas.List.{same_lists}
use Rattle.cp_orbits.specs.Connected.{Connected, here, step}
use Rattle.cp_orbits.proofs.ClassLabels.{Respects-from, Connected-keeps}
use Rattle.cp_conn.specs.CutVertex.{without_vertex, avoids}
use Rattle.cp_conn.proofs.CutVertices.{kept_of, avoids_of}
use Rattle.cp_rot.specs.Systems.{System, darts, edges, vertex_of, list_of, IsRotation}
use Rattle.cp_faces.specs.Twins.{twin}
use Rattle.cp_rot.specs.Genus.{end_pairs, Joined}
use Rattle.cp_rot.specs.Tables.{system_of}
use Rattle.cp_rot.specs.Rewrites.{values, system}
use Rattle.cp_faces.proofs.Twins.{twin_even, twin_odd}
use Rattle.cp_rot.proofs.ListEdits.{length-values, values_at}
use Rattle.cp_rot.proofs.ListSystems.{system_at, system_list}
use Rattle.cp_rot.proofs.RewriteCode.{values_system}
use Rattle.cp_rot.proofs.Searches.{end_pair_at, pair_of_edge}
use Rattle.cp_rotlaw.specs.Stars.{AreParts, star_vertex, IsSplitIntoParts, IsStarSplit}
use Rattle.cp_rotlaw.specs.StarParts.{far_key, AreEntered, part_of, star_at, star_row, AreRows, star_list}
use Rattle.cp_rotlaw.proofs.StarCode.{far_within, part_within}

-- the list of vertex v
abbrev pub star_lists : System → ℕ → (ℕ → ℕ) → ℕ → List ℕ
star_lists r u part v = cond (eqb v u) (star_row part (list_of r u) 0) (cond (ltb v r.vertices) (list_of r v) (star_row part (list_of r u) (v + 1 - r.vertices)))

-- the system with u split into one vertex for part 0, and so many more
abbrev pub star_system : System → ℕ → ℕ → (ℕ → ℕ) → System
star_system r u more part = system (r.vertices + more) (edges r) (star_at r u part) (star_lists r u part)

-- functions that agree have the same values
pub values_same : {A : Type 0} (n : ℕ) (f g : ℕ → A) → ((i : ℕ) → i < n → f i ≡ g i) → values n f ≡ values n g
values_same zero f g h = refl
values_same (suc n) f g h = ap₂ (λ xs x. xs ++ x ∷ []) (values_same n f g (λ i lt. h i (omega arith))) (h n (omega arith))

-- a list is that of its items
pub values_of : {A : Type 0} (n : ℕ) (f : ℕ → A) (xs : List A) → length xs ≡ n
    → ((i : ℕ) (z : A) → i < n → slice_index_or xs i z ≡ f i) → xs ≡ values n f
values_of n f xs size h = same_lists xs (values n f) (size ∙ sym (length-values n f)) (λ k d lt. h k d (omega arith) ∙ sym (values_at n f k d (omega arith)))

-- systems of functions that agree are the same
pub system_same : (v w e : ℕ) (at at' : ℕ → ℕ) (lists lists' : ℕ → List ℕ) → v ≡ w
    → ((d : ℕ) → d < 2 * e → at d ≡ at' d) → ((x : ℕ) → x < v → lists x ≡ lists' x)
    → system v e at lists ≡ system w e at' lists'
system_same v w e at at' lists lists' same h k =
    ap (λ xs. let s : System = record { vertices = v; at = xs; lists = values v lists } in s) (values_same (2 * e) at at' h)
    ∙ ap (λ xs. let s : System = record { vertices = v; at = values (2 * e) at'; lists = xs } in s) (values_same v lists lists' k)
    ∙ ap (λ n. system n e at' lists') same

-- the first part has the number u, and the others come behind all vertices
pub star_vertex_cases : (r : System) (u i : ℕ) → ((i ≡ 0) × (star_vertex r u i ≡ u))
    ⊎ ((0 < i) × (star_vertex r u i + 1 ≡ r.vertices + i))
star_vertex_cases r u zero = inl (refl, refl)
star_vertex_cases r u (suc i) = inr (omega arith, omega arith)

-- two parts have two vertices
pub star_vertex-apart : (r : System) (u i j : ℕ) → u < r.vertices → star_vertex r u i ≡ star_vertex r u j → i ≡ j
star_vertex-apart r u i j lt e =
    ⊎_elim
    (λ h. ⊎_elim (λ k. h.0 ∙ sym k.0) (λ k. absurd (omega (arith, h.1, k.0, k.1))) (star_vertex_cases r u j))
    (λ h. ⊎_elim (λ k. absurd (omega (arith, h.0, h.1, k.1))) (λ k. omega (arith, h.1, k.1)) (star_vertex_cases r u j))
    (star_vertex_cases r u i)

-- a vertex of a part is u or none of the old ones
pub star_vertex-old : (r : System) (u i v : ℕ) → v < r.vertices → (v ≡ u → ⊥) → star_vertex r u i ≡ v → ⊥
star_vertex-old r u i v lt ne e = ⊎_elim (λ h. ne (sym e ∙ h.1)) (λ h. omega (arith, h.0, h.1)) (star_vertex_cases r u i)

-- it is one of the vertices
pub star_vertex-below : (r : System) (u i more : ℕ) → u < r.vertices → i ≤ more → star_vertex r u i < r.vertices + more
star_vertex-below r u i more lt le = ⊎_elim (λ h. omega (arith, h.1)) (λ h. omega (arith, h.0, h.1)) (star_vertex_cases r u i)

-- a dart of u stands at the vertex of its part
pub star_at_part : (r : System) (u : ℕ) (part : ℕ → ℕ) (d : ℕ) → vertex_of r d ≡ u
    → star_at r u part d ≡ star_vertex r u (part d)
star_at_part r u part d e = rw (eq-eqb (vertex_of r d) u e) refl

-- any other stays
pub star_at_other : (r : System) (u : ℕ) (part : ℕ → ℕ) (d : ℕ) → (vertex_of r d ≡ u → ⊥)
    → star_at r u part d ≡ vertex_of r d
star_at_other r u part d ne = rw (ne_eqb (vertex_of r d) u ne) refl

-- the list of u
pub star_lists_first : (r : System) (u : ℕ) (part : ℕ → ℕ) → star_lists r u part u ≡ star_row part (list_of r u) 0
star_lists_first r u part = rw (eq-eqb u u refl) refl

-- the lists of the other old vertices
pub star_lists_other : (r : System) (u : ℕ) (part : ℕ → ℕ) (v : ℕ) → v < r.vertices → (v ≡ u → ⊥)
    → star_lists r u part v ≡ list_of r v
star_lists_other r u part v lt ne = rw (ne_eqb v u ne, lt-ltb v r.vertices lt) refl

-- those of the new ones
pub star_lists_new : (r : System) (u : ℕ) (part : ℕ → ℕ) (v : ℕ) → u < r.vertices → r.vertices ≤ v
    → star_lists r u part v ≡ star_row part (list_of r u) (v + 1 - r.vertices)
star_lists_new r u part v ltu le = rw (ne_eqb v u (λ e. omega arith), le-ltb v r.vertices le) refl

-- the vertex of a part has the darts of the part
pub star_lists_part : (r : System) (u : ℕ) (part : ℕ → ℕ) (i : ℕ) → u < r.vertices
    → star_lists r u part (star_vertex r u i) ≡ star_row part (list_of r u) i
star_lists_part r u part i ltu =
    ⊎_elim
    (λ h. ap (star_lists r u part) h.1 ∙ star_lists_first r u part ∙ ap (star_row part (list_of r u)) (sym h.0))
    (λ h. star_lists_new r u part (star_vertex r u i) ltu (omega (arith, h.0, h.1)) ∙ (let e : star_vertex r u i + 1 - r.vertices ≡ i = omega (arith, h.1) in ap (star_row part (list_of r u)) e))
    (star_vertex_cases r u i)

-- what the program makes is that system
pub made_star : (r : System) (u parts : ℕ) (part : ℕ → ℕ) {at : List ℕ} {lists rows : List (List ℕ)} → IsRotation r
    → u < r.vertices → 0 < parts → AreRows part (list_of r u) parts rows → at ≡ values (darts r) (star_at r u part)
    → lists ≡ values (r.vertices + (length rows - 1)) (star_list r u rows)
    → system_of at lists ≡ star_system r u (parts - 1) part
made_star r u parts part {at} {lists} {rows} is ltu some a e_at e_lists =
    let more : r.vertices + (length rows - 1) ≡ r.vertices + (parts - 1) = omega (arith, a.one_each) in
    ap₂ system_of (e_at ∙ ap (λ n. values n (star_at r u part)) is.paired) (e_lists ∙ ap (λ n. values n (star_list r u rows)) more ∙ values_same (r.vertices + (parts - 1)) (star_list r u rows) (star_lists r u part) lists_same)
    ∙ values_system (r.vertices + (parts - 1)) (edges r) (star_at r u part) (star_lists r u part)
  where
    lists_same : (v : ℕ) → v < r.vertices + (parts - 1) → star_list r u rows v ≡ star_lists r u part v
    lists_same v lt = ⊎_elim
        (λ e. rw (eq-eqb v u e) (a.told 0 some))
        (λ ne. ⊎_elim (λ old. rw (ne_eqb v u ne, lt-ltb v r.vertices old) refl) (λ new. rw (ne_eqb v u ne, le-ltb v r.vertices new) (a.told (v + 1 - r.vertices) (omega arith))) (cases_lt v r.vertices))
        (cases_eq v u)

-- it is split into the parts
pub split_of : (r : System) (u parts : ℕ) (part : ℕ → ℕ) → IsRotation r → u < r.vertices → 0 < parts
    → IsSplitIntoParts r u parts part (star_system r u (parts - 1) part)
split_of r u parts part is ltu some = record {
  vertices = omega arith;
  size = length-values (2 * edges r) (star_at r u part) ∙ sym is.paired;
  stand = λ d lt. system_at (r.vertices + (parts - 1)) (edges r) (star_at r u part) (star_lists r u part) d (omega (arith, is.paired));
  others = λ v lt ne. system_list (r.vertices + (parts - 1)) (edges r) (star_at r u part) (star_lists r u part) v (omega arith) ∙ star_lists_other r u part v lt ne;
  stars = λ i lt. system_list (r.vertices + (parts - 1)) (edges r) (star_at r u part) (star_lists r u part) (star_vertex r u i) (star_vertex-below r u i (parts - 1) ltu (omega arith)) ∙ star_lists_part r u part i ltu;
}

-- the parts are those that the edges enter
pub AreParts-entered : (r : System) (u parts : ℕ) (entered : List ℕ) → IsRotation r → AreEntered r u parts entered
    → AreParts r u parts (part_of r entered)
AreParts-entered r u parts entered is a = record {
  below = part_within r u parts entered a;
  same = λ d f dart_d dart_f. (
    λ e. a.same d f dart_d dart_f (omega (arith, a.seen d dart_d, a.seen f dart_f, e)),
    λ c. ap (λ (k : ℕ). k - 1) (a.kept (vertex_of r (twin d)) (vertex_of r (twin f)) (far_within r is d dart_d.within).1 (far_within r is f dart_f.within).1 c),
  );
  least = λ i lt. let h = a.least i lt in (h.0, h.1, omega (arith, h.2), λ f dart above. let le : h.0 ≤ f = h.3 f dart (omega (arith, a.seen f dart, above)) in omega arith);
}

-- the ends of an edge of which neither end is u are connected without u
pub without_edge_of : (r : System) (u : ℕ) → IsRotation r → (d : ℕ) → d < darts r → (vertex_of r d ≡ u → ⊥)
    → (vertex_of r (twin d) ≡ u → ⊥) → Connected (without_vertex u (end_pairs r.at)) (vertex_of r d)
    (vertex_of r (twin d))
without_edge_of r u is d lt ne nf =
    ⊎_elim
    (λ even.
    let first : d ≡ 2 * (d / 2) = omega arith in
    let second : twin d ≡ 2 * (d / 2) + 1 = twin_even d even ∙ omega arith in
    step here (pair (d / 2)) (contained (d / 2) (omega (arith, is.paired)) (λ e. ne (ap (vertex_of r) first ∙ e)) (λ e. nf (ap (vertex_of r) second ∙ e))) (inl (ap (vertex_of r) (sym first), ap (vertex_of r) (sym second))))
    (λ odd.
    let first : d ≡ 2 * (d / 2) + 1 = omega arith in
    let second : twin d ≡ 2 * (d / 2) = twin_odd d odd ∙ omega arith in
    step here (pair (d / 2)) (contained (d / 2) (omega (arith, is.paired)) (λ e. nf (ap (vertex_of r) second ∙ e)) (λ e. ne (ap (vertex_of r) first ∙ e))) (inr (ap (vertex_of r) (sym second), ap (vertex_of r) (sym first))))
    (cases_eq (d % 2) 0)
  where
    pair : ℕ → ℕ × ℕ
    pair k = (vertex_of r (2 * k), vertex_of r (2 * k + 1))

    contained : (k : ℕ) → 2 * k + 1 < darts r → (vertex_of r (2 * k) ≡ u → ⊥) → (vertex_of r (2 * k + 1) ≡ u → ⊥)
        → Contains (without_vertex u (end_pairs r.at)) (pair k)
    contained k ltk one two =
        let p = pair_of_edge r.at k ltk in
        kept_of (avoids u) (end_pairs r.at) (pair k) (k, p.0, p.1 (pair k)) (avoids_of u (pair k) one two)

-- one more than the number of the part that edge e is in, and 0 where it is in none
abbrev pub edge_part : System → List ℕ → ℕ → ℕ
edge_part r entered e = max (slice_index entered (vertex_of r (2 * e))) (slice_index entered (vertex_of r (2 * e + 1)))

-- it is told by the ends of either dart
edge_part_dart : (r : System) (entered : List ℕ) (d : ℕ)
    → edge_part r entered (d / 2) ≡ max (slice_index entered (vertex_of r d))
    (slice_index entered (vertex_of r (twin d)))
edge_part_dart r entered d =
    ⊎_elim
    (λ even.
    let first : 2 * (d / 2) ≡ d = omega arith in
    let second : 2 * (d / 2) + 1 ≡ twin d = omega (arith, twin_even d even) in
    ap₂ (λ (x y : ℕ). max (slice_index entered (vertex_of r x)) (slice_index entered (vertex_of r y))) first second)
    (λ odd.
    let first : 2 * (d / 2) ≡ twin d = omega (arith, twin_odd d odd) in
    let second : 2 * (d / 2) + 1 ≡ d = omega arith in
    ap₂ (λ (x y : ℕ). max (slice_index entered (vertex_of r x)) (slice_index entered (vertex_of r y))) first second
    ∙ omega arith)
    (cases_eq (d % 2) 0)

-- at u it is told by the other end
pub edge_part_far : (r : System) (u parts : ℕ) (entered : List ℕ) → AreEntered r u parts entered → (d : ℕ)
    → vertex_of r d ≡ u → edge_part r entered (d / 2) ≡ far_key r entered d
edge_part_far r u parts entered a d e = omega (arith, edge_part_dart r entered d, ap (slice_index entered) e, a.away)

-- elsewhere by the vertex
pub edge_part_near : (r : System) (u parts : ℕ) (entered : List ℕ) → IsRotation r → AreEntered r u parts entered
    → (d : ℕ) → d < darts r → (vertex_of r d ≡ u → ⊥) → edge_part r entered (d / 2)
    ≡ slice_index entered (vertex_of r d)
edge_part_near r u parts entered is a d lt ne =
    ⊎_elim
    (λ e. omega (arith, edge_part_dart r entered d, ap (slice_index entered) e, a.away))
    (λ nf. omega (arith, edge_part_dart r entered d, a.kept (vertex_of r d) (vertex_of r (twin d)) (is.placed d lt) (far_within r is d lt).1 (without_edge_of r u is d lt ne nf)))
    (cases_eq (vertex_of r (twin d)) u)

-- marks of the vertices of the result: the number of its part is one less
module _ (r : System) (is : IsRotation r) (u : ℕ) (ltu : u < r.vertices) (parts : ℕ) (entered : List ℕ)
    (a : AreEntered r u parts entered) where
  -- one more than the number of the part that vertex x of the result is in, and 0 where it is in none
  pub mark : ℕ → ℕ
  mark x = cond (eqb x u) 1 (cond (ltb x r.vertices) (slice_index entered x) (x + 2 - r.vertices))

  -- the mark of the vertex of a part
  mark_part : (i : ℕ) → mark (star_vertex r u i) ≡ i + 1
  unfolding mark
  mark_part i =
      ⊎_elim
      (λ h. rw (eq-eqb (star_vertex r u i) u h.1) (omega (arith, h.0)))
      (λ h. rw (ne_eqb (star_vertex r u i) u (λ e. omega (arith, h.0, h.1)), le-ltb (star_vertex r u i) r.vertices (omega (arith, h.0, h.1))) (omega (arith, h.1)))
      (star_vertex_cases r u i)

  -- the mark of an old vertex
  mark_old : (x : ℕ) → x < r.vertices → (x ≡ u → ⊥) → mark x ≡ slice_index entered x
  unfolding mark
  mark_old x lt ne = rw (ne_eqb x u ne, lt-ltb x r.vertices lt) refl

  -- darts of one vertex are of edges of one part
  pub mark_dart : (d : ℕ) → d < darts r → mark (star_at r u (part_of r entered) d) ≡ edge_part r entered (d / 2)
  mark_dart d lt =
      ⊎_elim
      (λ e. ap mark (star_at_part r u (part_of r entered) d e) ∙ mark_part (part_of r entered d) ∙ omega (arith, edge_part_far r u parts entered a d e, a.seen d (record { within = lt; stands = e })))
      (λ ne. ap mark (star_at_other r u (part_of r entered) d ne) ∙ mark_old (vertex_of r d) (is.placed d lt) ne ∙ sym (edge_part_near r u parts entered is a d lt ne))
      (cases_eq (vertex_of r d) u)

  -- darts that stand at one vertex then are of edges of one part
  pub one_part : (c d : ℕ) → c < darts r → d < darts r
      → star_at r u (part_of r entered) c ≡ star_at r u (part_of r entered) d
      → edge_part r entered (c / 2) ≡ edge_part r entered (d / 2)
  one_part c d ltc ltd e = sym (mark_dart c ltc) ∙ ap mark e ∙ mark_dart d ltd

  -- u split into the parts
  abbrev pub split_system : ℕ → System
  split_system more = star_system r u more (part_of r entered)

  -- it has as many darts
  pub split-size : (more : ℕ) → darts (split_system more) ≡ darts r
  split-size more = length-values (2 * edges r) (star_at r u (part_of r entered)) ∙ sym is.paired

  -- at which vertices they stand
  pub split_at : (more d : ℕ) → d < darts r → vertex_of (split_system more) d ≡ star_at r u (part_of r entered) d
  split_at more d lt = system_at (r.vertices + more) (edges r) (star_at r u (part_of r entered)) (star_lists r u (part_of r entered)) d (omega (arith, is.paired))

  -- the ends of an edge have one mark
  mark_pair : (more : ℕ) (e : ℕ × ℕ) → Contains (end_pairs (split_system more).at) e → mark e.0 ≡ mark e.1
  mark_pair more e h =
      let k = end_pair_at (split_system more).at e h.0 h.1 h.2 in
      let first : 2 * h.0 / 2 ≡ h.0 = omega arith in
      let second : (2 * h.0 + 1) / 2 ≡ h.0 = omega arith in
      ap mark (sym k.1 ∙ split_at more (2 * h.0) (omega (arith, k.0, split-size more))) ∙ mark_dart (2 * h.0) (omega (arith, k.0, split-size more)) ∙ ap (edge_part r entered) (first ∙ sym second)
      ∙ sym (mark_dart (2 * h.0 + 1) (omega (arith, k.0, split-size more))) ∙ ap mark (sym (split_at more (2 * h.0 + 1) (omega (arith, k.0, split-size more))) ∙ k.2)

  -- the vertices of two parts lie in different components
  pub parts_apart : (more i j : ℕ) → Joined (split_system more) (star_vertex r u i) (star_vertex r u j) → i ≡ j
  parts_apart more i j c =
      let es = end_pairs (split_system more).at in
      omega (arith, mark_part i, mark_part j, Connected-keeps mark es (star_vertex r u i) (star_vertex r u j) (Respects-from mark es (mark_pair more)) c)

-- u is split by the components that its edges enter
pub star_split_is : (r : System) (u parts : ℕ) (entered : List ℕ) → IsRotation r → u < r.vertices → 0 < parts
    → AreEntered r u parts entered → IsStarSplit r u (star_system r u (parts - 1) (part_of r entered))
star_split_is r u parts entered is ltu some a = record {
  parts = parts;
  part = part_of r entered;
  are_parts = AreParts-entered r u parts entered is a;
  split = split_of r u parts (part_of r entered) is ltu some;
  apart = λ i j lt ltj c. omega (arith, parts_apart r is u ltu parts entered a (parts - 1) i j c);
}
