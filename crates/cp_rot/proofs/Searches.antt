-- The search for a component: what is joined, and how marks and stack go on.
use Rattle.std.proofs.Common.{◌≡◌, ℕ, zero, suc, ◌+◌, ◌*◌, ◌/◌, ◌%◌, ◌<◌, ◌≤◌, ◌⊎◌, ◌↔◌, Bool, true, false, not, List, [], ◌∷◌, length, set, slice_index, slice_index_or, sym, refl, ap, ap₂, ◌∙◌, subst, inl, inr, ⊎_elim, arith}
use Rattle.std.specs.List.{Contains}
use Rattle.std.proofs.lemmas.Bool.{cases_eq}
use Rattle.std.proofs.lemmas.List.{get_or-set_same, get_or-set_other}
use Rattle.cp_orbits.specs.Connected.{Joins, here, step}
use Rattle.cp_lists.proofs.Counting.{count-le}
use Rattle.cp_lists.proofs.ExactLists.{place_of}
use Rattle.cp_orbits.proofs.ClassLabels.{Connected-sym, Connected-trans}
use Rattle.cp_rot.specs.Systems.{System, darts, vertex_of, list_of, IsRotation}
use Rattle.cp_faces.specs.Twins.{twin}
use Rattle.cp_rot.specs.Genus.{end_pairs, Joined}
use Rattle.cp_rot.specs.Tables.{IsMarked, IsUnmarked}
use Rattle.cp_rot.specs.Search.{neighbour_at, unmarked, IsClosed, IsStacked, IsPushed, Searching}
use Rattle.cp_rot.proofs.Rotations.{in_list, item_stands}
use Rattle.cp_faces.proofs.Twins.{twin_even, twin_odd, twin-below}
use Rattle.cp_rot.proofs.Found.{Relates, FoundUpto, marked_class}
use Rattle.cp_rot.proofs.Walks.{stays_marked, was_marked, unmarked_below-set}

-- the pair at place k is made of the items at places 2k and 2k + 1
pub end_pair_at : (at : List ℕ) (e : ℕ × ℕ) (k : ℕ) → k < length (end_pairs at) → slice_index_or (end_pairs at) k e ≡ e
    → (2 * k + 1 < length at) × (slice_index at (2 * k) ≡ e.0) × (slice_index at (2 * k + 1) ≡ e.1)
end_pair_at [] e k lt h = absurd (omega arith)
end_pair_at (s ∷ []) e k lt h = absurd (omega arith)
end_pair_at (s ∷ t ∷ at) e zero lt h = (omega arith, ap (λ (p : ℕ × ℕ). p.0) h, ap (λ (p : ℕ × ℕ). p.1) h)
end_pair_at (s ∷ t ∷ at) e (suc k) lt h =
    let rest = end_pair_at at e k (omega arith) h in
    let first : 2 * suc k ≡ suc (suc (2 * k)) = omega arith in
    let second : 2 * suc k + 1 ≡ suc (suc (2 * k + 1)) = omega arith in
    (omega (arith, rest.0), ap (slice_index (s ∷ t ∷ at)) first ∙ rest.1, ap (slice_index (s ∷ t ∷ at)) second ∙ rest.2)

-- the items at places 2k and 2k + 1 are the pair at place k
pub pair_of_edge : (at : List ℕ) (k : ℕ) → 2 * k + 1 < length at
    → (k < length (end_pairs at)) × ((e : ℕ × ℕ) → slice_index_or (end_pairs at) k e
    ≡ (slice_index at (2 * k), slice_index at (2 * k + 1)))
pair_of_edge [] k lt = absurd (omega arith)
pair_of_edge (s ∷ []) k lt = absurd (omega arith)
pair_of_edge (s ∷ t ∷ at) zero lt = (omega arith, λ e. refl)
pair_of_edge (s ∷ t ∷ at) (suc k) lt =
    let rest = pair_of_edge at k (omega arith) in
    let first : 2 * suc k ≡ suc (suc (2 * k)) = omega arith in
    let second : 2 * suc k + 1 ≡ suc (suc (2 * k + 1)) = omega arith in
    (omega (arith, rest.0), λ e. rest.1 e ∙ sym (ap₂ (λ (x y : ℕ). let p : ℕ × ℕ = (x, y) in p) (ap (slice_index (s ∷ t ∷ at)) first) (ap (slice_index (s ∷ t ∷ at)) second)))

-- what a pair joins are the vertices of a dart and of its twin
pub joined_darts : (r : System) → (e : ℕ × ℕ) (y z : ℕ) → Contains (end_pairs r.at) e → Joins e y z
    → (d : ℕ) × (d < darts r) × (vertex_of r d ≡ y) × (vertex_of r (twin d) ≡ z)
joined_darts r e y z c j =
    let k = end_pair_at r.at e c.0 c.1 c.2 in
    ⊎_elim
    (λ h. (2 * c.0, omega (arith, k.0), k.1 ∙ h.0, ap (vertex_of r) (twin_even (2 * c.0) (omega arith)) ∙ k.2 ∙ h.1))
    (λ h.
    let back : twin (2 * c.0 + 1) ≡ 2 * c.0 = twin_odd (2 * c.0 + 1) (λ f. omega arith) ∙ omega arith in
    (2 * c.0 + 1, k.0, k.2 ∙ h.1, ap (vertex_of r) back ∙ k.1 ∙ h.0))
    j

-- the vertices of a dart and of its twin are joined
pub Joined-twin : (r : System) → IsRotation r → (d : ℕ) → d < darts r → Joined r (vertex_of r d) (vertex_of r (twin d))
Joined-twin r is d lt =
    ⊎_elim
    (λ even.
    let place : d ≡ 2 * (d / 2) = omega arith in
    let after : twin d ≡ 2 * (d / 2) + 1 = twin_even d even ∙ omega arith in
    step here (pair (d / 2)) (contained (d / 2) (omega (arith, is.paired))) (inl (ap (vertex_of r) (sym place), ap (vertex_of r) (sym after))))
    (λ odd.
    let place : d ≡ 2 * (d / 2) + 1 = omega arith in
    let after : twin d ≡ 2 * (d / 2) = twin_odd d odd ∙ omega arith in
    step here (pair (d / 2)) (contained (d / 2) (omega (arith, is.paired))) (inr (ap (vertex_of r) (sym after), ap (vertex_of r) (sym place))))
    (cases_eq (d % 2) 0)
  where
    pair : ℕ → ℕ × ℕ
    pair k = (slice_index r.at (2 * k), slice_index r.at (2 * k + 1))

    contained : (k : ℕ) → 2 * k + 1 < length r.at → Contains (end_pairs r.at) (pair k)
    contained k within = let h = pair_of_edge r.at k within in (k, h.0, h.1 (pair k))

-- to be joined is a relation that goes both ways, and on
pub Joined-Relates : (r : System) → Relates (Joined r) r.vertices
Joined-Relates r = record {
  back = λ x y lt. Connected-sym (end_pairs r.at) x y;
  on = Connected-trans (end_pairs r.at);
}

-- where marks are closed, with a vertex all that it is joined to is marked
pub closed_along : (r : System) (marks : List Bool) → IsClosed r marks → (v w : ℕ) → Joined r v w → IsMarked marks v
    → IsMarked marks w
closed_along r marks closed v w here is_in = is_in
closed_along r marks closed v w (step {y = y} walk e c j) is_in =
    let d = joined_darts r e y w c j in
    subst (IsMarked marks) d.3 (closed d.0 d.1 (subst (IsMarked marks) (sym d.2) (closed_along r marks closed v y walk is_in)))

-- a vertex is joined to its neighbours
pub Joined-neighbour : (r : System) → IsRotation r → (w i : ℕ) → w < r.vertices → i < length (list_of r w)
    → Joined r w (neighbour_at r w i)
Joined-neighbour r is w i lt lti =
    let h = item_stands r is w i lt lti in
    subst (λ v. Joined r v (neighbour_at r w i)) h.1 (Joined-twin r is (slice_index (list_of r w) i) h.0)

-- neighbours are vertices
pub neighbour-below : (r : System) → IsRotation r → (w i : ℕ) → w < r.vertices → i < length (list_of r w)
    → neighbour_at r w i < r.vertices
neighbour-below r is w i lt lti = is.placed (twin (slice_index (list_of r w) i)) (twin-below (darts r) (slice_index (list_of r w) i) is.paired (item_stands r is w i lt lti).0)

-- the vertex at the other end of a dart is a neighbour
pub neighbour_of : (r : System) → IsRotation r → (d : ℕ) → d < darts r
    → (i : ℕ) × (i < length (list_of r (vertex_of r d))) × (neighbour_at r (vertex_of r d) i ≡ vertex_of r (twin d))
neighbour_of r is d lt =
    let h = place_of (list_of r (vertex_of r d)) d (in_list r is d lt) in
    (h.0, h.1, ap (λ c. vertex_of r (twin c)) h.2)

-- an item stays on a stack that grows
pub IsStacked-higher : (before after : List ℕ) (height height_after x : ℕ) → height ≤ height_after
    → ((i : ℕ) → i < height → slice_index after i ≡ slice_index before i) → IsStacked before height x
    → IsStacked after height_after x
IsStacked-higher before after height height_after x le same h = (h.0, omega (arith, h.1), same h.0 h.1 ∙ h.2)

-- at the start no neighbour is pushed
pub IsPushed-none : (r : System) (w : ℕ) (marks : List Bool) (stack : List ℕ) (height : ℕ)
    → IsPushed r w 0 marks stack height marks stack height
IsPushed-none r w marks stack height = record {
  marked = λ i lt. absurd (omega arith);
  kept = λ x is_in. is_in;
  found = λ x is_in. inl is_in;
  room = refl;
  higher = omega arith;
  below = λ i lt. refl;
  above = λ i lt. inl lt;
}

-- the next neighbour was marked
pub IsPushed-old : (r : System) (w i : ℕ) (marks after : List Bool) (stack stack_after : List ℕ) (height top : ℕ)
    → IsPushed r w i marks stack height after stack_after top → IsMarked after (neighbour_at r w i)
    → IsPushed r w (i + 1) marks stack height after stack_after top
IsPushed-old r w i marks after stack stack_after height top p is_in = record {
  marked = λ j lt. ⊎_elim (λ e. subst (λ k. IsMarked after (neighbour_at r w k)) (sym e) is_in) (λ ne. p.marked j (omega arith)) (cases_eq j i);
  kept = p.kept;
  found = p.found;
  room = p.room;
  higher = p.higher;
  below = p.below;
  above = p.above;
}

-- the next neighbour was not marked
pub IsPushed-new : (r : System) (w i x : ℕ) (marks after : List Bool) (stack stack_after : List ℕ) (height top : ℕ)
    → IsPushed r w i marks stack height after stack_after top → x ≡ neighbour_at r w i → i < length (list_of r w)
    → x < r.vertices → x < length after → top < length stack_after → IsUnmarked after x
    → IsPushed r w (i + 1) marks stack height (set after x true) (set stack_after top x) (top + 1)
IsPushed-new r w i x marks after stack stack_after height top p e lti ltx within room is_out = record {
  marked = λ j lt. ⊎_elim
      (λ f. subst (IsMarked (set after x true)) (e ∙ ap (neighbour_at r w) (sym f)) (get_or-set_same after x true false within))
      (λ ne. stays_marked after x (neighbour_at r w j) within (p.marked j (omega arith)))
      (cases_eq j i);
  kept = λ y is_in. stays_marked after x y within (p.kept y is_in);
  found = λ y is_in. ⊎_elim
      (λ old. ⊎_elim inl (λ h. inr (IsStacked-higher stack_after (set stack_after top x) top (top + 1) y (omega arith) lower h)) (p.found y old))
      (λ f. inr (top, omega arith, get_or-set_same stack_after top x 0 room ∙ sym f))
      (was_marked after x y is_in);
  room = omega (arith, p.room, unmarked_below-set r.vertices after x ltx within is_out);
  higher = omega (arith, p.higher);
  below = λ j lt. lower j (omega (arith, p.higher)) ∙ p.below j lt;
  above = λ j lt. ⊎_elim
      (λ f. inr (i, lti, ap (slice_index (set stack_after top x)) f ∙ get_or-set_same stack_after top x 0 room ∙ e))
      (λ ne. ⊎_elim inl (λ h. inr (h.0, h.1, lower j (omega arith) ∙ h.2)) (p.above j (omega arith)))
      (cases_eq j top);
}
  where
    lower : (j : ℕ) → j < top → slice_index (set stack_after top x) j ≡ slice_index stack_after j
    lower j lt = get_or-set_other stack_after top j x 0 (λ f. omega arith)

-- there is a place on the stack for an unmarked vertex
pub IsPushed-room : (r : System) (w i x : ℕ) (marks after : List Bool) (stack stack_after : List ℕ) (height top : ℕ)
    → IsPushed r w i marks stack height after stack_after top → height + unmarked r marks ≤ r.vertices → x < r.vertices
    → x < length after → IsUnmarked after x → top < r.vertices
IsPushed-room r w i x marks after stack stack_after height top p room ltx within is_out = omega (arith, p.room, unmarked_below-set r.vertices after x ltx within is_out)

-- the same, where marks, stack and height go by other names
pub pushed_at : (r : System) (w i : ℕ) (marks : List Bool) (stack : List ℕ) (height : ℕ)
    {after other : List Bool} {stack_after stack_other : List ℕ} {top top_other : ℕ} → other ≡ after
    → stack_other ≡ stack_after → top_other ≡ top → IsPushed r w i marks stack height after stack_after top
    → IsPushed r w i marks stack height other stack_other top_other
pushed_at r w i marks stack height {after} {other} {stack_after} {stack_other} {top} {top_other} e f g p =
    subst (λ m. IsPushed r w i marks stack height m stack_other top_other) (sym e)
    (subst (λ s. IsPushed r w i marks stack height after s top_other) (sym f)
    (subst (IsPushed r w i marks stack height after stack_after) (sym g) p))

-- the search begins with vertex v alone
pub Searching-start : (r : System) (v : ℕ) (before : List Bool) (stack : List ℕ) → v < r.vertices → v < length before
    → 0 < length stack → IsUnmarked before v → IsClosed r before
    → Searching r v before (set before v true) (set stack 0 v) 1
Searching-start r v before stack ltv within some is_out closed = record {
  start = get_or-set_same before v true false within;
  kept = λ x is_in. stays_marked before v x within is_in;
  sound = λ x is_in. ⊎_elim inl (λ e. inr (subst (Joined r v) (sym e) here)) (was_marked before v x is_in);
  stacked = λ i lt.
      let first : slice_index (set stack 0 v) i ≡ v = ap (slice_index (set stack 0 v)) (let z : i ≡ 0 = omega arith in z) ∙ get_or-set_same stack 0 v 0 some in
      (subst (λ x. x < r.vertices) (sym first) ltv, subst (Joined r v) (sym first) here);
  spread = λ d lt is_in. ⊎_elim
      (λ old. inr (stays_marked before v (vertex_of r (twin d)) within (closed d lt old)))
      (λ e. inl (0, omega arith, get_or-set_same stack 0 v 0 some ∙ sym e))
      (was_marked before v (vertex_of r d) is_in);
  room = omega (arith, unmarked_below-set r.vertices before v ltv within is_out, count-le r.vertices (λ x. not (slice_index_or before x false)));
}

-- the last vertex is taken off the stack, and its unmarked neighbours are put on
pub Searching-more : (r : System) → IsRotation r → (v w : ℕ) (before marks after : List Bool)
    (stack stack_after : List ℕ) (height top : ℕ) → Searching r v before marks stack (height + 1)
    → w ≡ slice_index stack height → IsPushed r w (length (list_of r w)) marks stack height after stack_after top
    → Searching r v before after stack_after top
Searching-more r is v w before marks after stack stack_after height top s e p = record {
  start = p.kept v s.start;
  kept = λ x is_in. p.kept x (s.kept x is_in);
  sound = λ x is_in. ⊎_elim (s.sound x) (λ h. inr (subst (Joined r v) h.2 (stacked h.0 h.1).1)) (p.found x is_in);
  stacked = stacked;
  spread = λ d lt is_in. ⊎_elim
      (λ old. ⊎_elim
      (λ h. ⊎_elim
      (λ f. inr (spreads d lt (e ∙ ap (slice_index stack) (sym f) ∙ h.2)))
      (λ ne. inl (IsStacked-higher stack stack_after height top (vertex_of r d) p.higher p.below (h.0, omega (arith, h.1), h.2)))
      (cases_eq h.0 height))
      (λ m. inr (p.kept (vertex_of r (twin d)) m))
      (s.spread d lt old))
      inl
      (p.found (vertex_of r d) is_in);
  room = omega (arith, s.room, p.room);
}
  where
    last : (w < r.vertices) × Joined r v w
    last = subst (λ x. (x < r.vertices) × Joined r v x) (sym e) (s.stacked height (omega arith))

    stacked : (i : ℕ) → i < top → (slice_index stack_after i < r.vertices) × Joined r v (slice_index stack_after i)
    stacked i lt = ⊎_elim
        (λ low. subst (λ x. (x < r.vertices) × Joined r v x) (sym (p.below i low)) (s.stacked i (omega arith)))
        (λ h. subst (λ x. (x < r.vertices) × Joined r v x) (sym h.2) (neighbour-below r is w h.0 last.0 h.1, Connected-trans (end_pairs r.at) v w (neighbour_at r w h.0) last.1 (Joined-neighbour r is w h.0 last.0 h.1)))
        (p.above i lt)

    spreads : (d : ℕ) → d < darts r → w ≡ vertex_of r d → IsMarked after (vertex_of r (twin d))
    spreads d lt f =
        let h = neighbour_of r is d lt in
        subst (IsMarked after) h.2 (subst (λ x. IsMarked after (neighbour_at r x h.0)) f (p.marked h.0 (subst (λ x. h.0 < length (list_of r x)) (sym f) h.1)))

-- with an empty stack the whole component is marked
pub Searching-end : (r : System) (v : ℕ) (before marks : List Bool) (stack : List ℕ)
    → Searching r v before marks stack 0 → (x : ℕ) → IsMarked marks x ↔ (IsMarked before x ⊎ Joined r v x)
Searching-end r v before marks stack s x = (
  s.sound x,
  λ h. ⊎_elim (s.kept x) (λ j. closed_along r marks (λ d lt is_in. ⊎_elim (λ k. absurd (omega (arith, k.1))) (λ m. m) (s.spread d lt is_in)) v x j s.start) h,
)

-- marks of whole components are closed
pub FoundUpto-closed : (r : System) → IsRotation r → (i : ℕ) (marks : List Bool) (least : ℕ)
    → FoundUpto (Joined r) r.vertices i marks least → IsClosed r marks
FoundUpto-closed r is i marks least found d lt is_in =
    marked_class (Joined r) r.vertices i marks least (Joined-Relates r) found (vertex_of r d) (vertex_of r (twin d)) (is.placed d lt) (is.placed (twin d) (twin-below (darts r) d is.paired lt)) (Joined-twin r is d lt) is_in
