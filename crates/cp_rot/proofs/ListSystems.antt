-- Systems given by functions: at which vertex each dart stands, and the list of each vertex.
use Rattle.std.proofs.Common.{◌≡◌, ℕ, suc, ◌+◌, ◌*◌, ◌<◌, ◌≢◌, ◌↔◌, cond, List, [], map, eqb, sym, refl, ap, ap₂, ◌∙◌, subst, subst₂, arith}
use Rattle.std.proofs.lemmas.Bool.{eq-eqb, eqb-true}
use Rattle.cp_lists.specs.Count.{Exactly}
use Rattle.cp_orbits.specs.Orbits.{splice}
use Rattle.cp_lists.specs.CyclicLists.{Has, Distinct, but, follow}
use Rattle.cp_faces.specs.Faces.{Rotates, faces, components, drop_edge}
use Rattle.cp_lists.proofs.DistinctLists.{has_other, Exactly-from, Exactly-Distinct, Exactly-Has, but-Has, but-Lacks, Has-but, but-Distinct}
use Rattle.cp_faces.proofs.ListRotations.{Rotates-lists, follow-splice}
use Rattle.cp_faces.proofs.Faces.{zero-agree}
use Rattle.cp_rot.specs.Systems.{System, darts, edges, vertex_of, list_of, next, IsRotation}
use Rattle.cp_rot.specs.Genus.{HasGenusZero}
use Rattle.cp_rot.specs.Rewrites.{system}
use Rattle.cp_rot.proofs.Functions.{next-follow, zero_counts, HasGenusZero-from}
use Rattle.cp_rot.proofs.ListEdits.{length-values, values_at, Twice, Has-map, map-Has, Distinct-map, follow-map}

-- n darts stand at vertices below v, each of which has a list of exactly its darts
pub record Listed (v n : ℕ) (at : ℕ → ℕ) (lists : ℕ → List ℕ) : Type 0 where
  pub placed : (d : ℕ) → d < n → at d < v
  pub distinct : (x : ℕ) → x < v → Distinct (lists x)
  pub own : (d : ℕ) → d < n → Has d (lists (at d))
  pub item : (x d : ℕ) → x < v → Has d (lists x) → (d < n) × (at d ≡ x)

-- the dart behind a dart in the list of its vertex
abbrev pub turn : (ℕ → ℕ) → (ℕ → List ℕ) → ℕ → ℕ
turn at lists d = follow (lists (at d)) d

-- the lists hold exactly the darts
pub Listed-exact : (v n : ℕ) (at : ℕ → ℕ) (lists : ℕ → List ℕ) → Listed v n at lists → (x : ℕ) → x < v
    → Exactly n (λ d. eqb (at d) x) (lists x)
Listed-exact v n at lists l x lt = Exactly-from n (λ d. eqb (at d) x) (lists x) (l.distinct x lt)
    (λ d h. let w = l.item x d lt h in (w.0, eq-eqb (at d) x w.1))
    (λ d ltd t. subst (λ y. Has d (lists y)) (eqb-true (at d) x t) (l.own d ltd))

-- they make a rotation
pub Listed-Rotates : (v n : ℕ) (at : ℕ → ℕ) (lists : ℕ → List ℕ) → Listed v n at lists → Rotates v n at (turn at lists)
Listed-Rotates v n at lists l = Rotates-lists v n at lists l.placed (Listed-exact v n at lists l)

-- a rotation system is given by its functions
pub Listed-system : (r : System) → IsRotation r → Listed r.vertices (darts r) (vertex_of r) (list_of r)
Listed-system r is = record {
  placed = is.placed;
  distinct = λ x lt. Exactly-Distinct (darts r) (λ d. eqb (vertex_of r d) x) (list_of r x) (is.arranged x lt);
  own = λ d lt. (Exactly-Has (darts r) (λ y. eqb (vertex_of r y) (vertex_of r d)) (list_of r (vertex_of r d)) (is.arranged (vertex_of r d) (is.placed d lt)) d).1 (lt, eq-eqb (vertex_of r d) (vertex_of r d) refl);
  item = λ x d lt h. let w = (Exactly-Has (darts r) (λ y. eqb (vertex_of r y) x) (list_of r x) (is.arranged x lt) d).0 h in (w.0, eqb-true (vertex_of r d) x w.1);
}

-- the same where the darts are counted by edges
pub Listed-edges : (r : System) (e : ℕ) → IsRotation r → edges r ≡ e
    → Listed r.vertices (2 * e) (vertex_of r) (list_of r)
Listed-edges r e is same = subst (λ n. Listed r.vertices n (vertex_of r) (list_of r)) (is.paired ∙ ap (λ (k : ℕ). 2 * k) same) (Listed-system r is)

-- functions that agree give the same systems
pub Listed-agree : (v n : ℕ) (at at' : ℕ → ℕ) (lists lists' : ℕ → List ℕ) → ((d : ℕ) → d < n → at d ≡ at' d)
    → ((x : ℕ) → x < v → lists x ≡ lists' x) → Listed v n at lists → Listed v n at' lists'
Listed-agree v n at at' lists lists' same_at same_list l = record {
  placed = λ d lt. subst (λ y. y < v) (same_at d lt) (l.placed d lt);
  distinct = λ x lt. subst Distinct (same_list x lt) (l.distinct x lt);
  own = λ d lt. subst (λ y. Has d (lists' y)) (same_at d lt) (subst (Has d) (same_list (at d) (l.placed d lt)) (l.own d lt));
  item = λ x d lt h. let w = l.item x d lt (subst (Has d) (sym (same_list x lt)) h) in (w.0, sym (same_at d w.0) ∙ w.1);
}

-- and the same darts behind darts
pub turn-agree : (v n : ℕ) (at at' : ℕ → ℕ) (lists lists' : ℕ → List ℕ) → ((d : ℕ) → d < n → at d ≡ at' d)
    → ((x : ℕ) → x < v → lists x ≡ lists' x) → Listed v n at lists → (d : ℕ) → d < n
    → turn at lists d ≡ turn at' lists' d
turn-agree v n at at' lists lists' same_at same_list l d lt = ap (λ xs. follow xs d) (same_list (at d) (l.placed d lt) ∙ ap lists' (same_at d lt))

-- a system of functions has the vertices of its darts
pub system_at : (v e : ℕ) (at : ℕ → ℕ) (lists : ℕ → List ℕ) (d : ℕ) → d < 2 * e
    → vertex_of (system v e at lists) d ≡ at d
system_at v e at lists d lt = values_at (2 * e) at d 0 lt

-- and the lists of its vertices
pub system_list : (v e : ℕ) (at : ℕ → ℕ) (lists : ℕ → List ℕ) (x : ℕ) → x < v
    → list_of (system v e at lists) x ≡ lists x
system_list v e at lists x lt = values_at v lists x [] lt

-- it has e edges
pub system-edges : (v e : ℕ) (at : ℕ → ℕ) (lists : ℕ → List ℕ) → edges (system v e at lists) ≡ e
system-edges v e at lists = omega (arith, length-values (2 * e) at)

-- it is a rotation system
pub IsRotation-system : (v e : ℕ) (at : ℕ → ℕ) (lists : ℕ → List ℕ) → Listed v (2 * e) at lists
    → IsRotation (system v e at lists)
IsRotation-system v e at lists l = record {
  paired = omega (arith, length-values (2 * e) at);
  placed = λ d lt. l'.placed d (omega (arith, lt, length-values (2 * e) at));
  listed = length-values v lists;
  arranged = λ x lt. subst (λ n. Exactly n (λ d. eqb (vertex_of (system v e at lists) d) x) (list_of (system v e at lists) x)) (sym (length-values (2 * e) at)) (Listed-exact v (2 * e) (vertex_of (system v e at lists)) (list_of (system v e at lists)) l' x lt);
}
  where
    l' : Listed v (2 * e) (vertex_of (system v e at lists)) (list_of (system v e at lists))
    l' = Listed-agree v (2 * e) at (vertex_of (system v e at lists)) lists (list_of (system v e at lists)) (λ d lt. sym (system_at v e at lists d lt)) (λ x lt. sym (system_list v e at lists x lt)) l

-- its dart behind a dart
pub system_next : (v e : ℕ) (at : ℕ → ℕ) (lists : ℕ → List ℕ) → Listed v (2 * e) at lists → (d : ℕ) → d < 2 * e
    → next (system v e at lists) d ≡ turn at lists d
system_next v e at lists l d lt =
    next-follow (system v e at lists) (IsRotation-system v e at lists l) d (omega (arith, length-values (2 * e) at))
    ∙ ap (λ xs. follow xs d) (ap (list_of (system v e at lists)) (system_at v e at lists d lt) ∙ system_list v e at lists (at d) (l.placed d lt))

-- genus zero of a system, by functions that agree with its own
pub HasGenusZero_by : (r : System) (v e : ℕ) (at next' : ℕ → ℕ) → IsRotation r → r.vertices ≡ v → edges r ≡ e
    → ((d : ℕ) → d < 2 * e → vertex_of r d ≡ at d) → ((d : ℕ) → d < 2 * e → next r d ≡ next' d)
    → HasGenusZero r ↔ (v + faces v e at next' ≡ e + 2 * components v e at)
HasGenusZero_by r v e at next' is same_vertices same_edges same_at same_next = (
  λ z. zero-agree v e (vertex_of r) (next r) at next' same_at same_next (subst₂ (λ w k. w + faces w k (vertex_of r) (next r) ≡ k + 2 * components w k (vertex_of r)) same_vertices same_edges (zero_counts r is z)),
  λ z. HasGenusZero-from r is (subst₂ (λ w k. w + faces w k (vertex_of r) (next r) ≡ k + 2 * components w k (vertex_of r)) (sym same_vertices) (sym same_edges) (zero-agree v e at next' (vertex_of r) (next r) (λ d lt. sym (same_at d lt)) (λ d lt. sym (same_next d lt)) z)),
)

-- genus zero of a system of functions
pub system_zero : (v e : ℕ) (at : ℕ → ℕ) (lists : ℕ → List ℕ) (next' : ℕ → ℕ) → Listed v (2 * e) at lists
    → ((d : ℕ) → d < 2 * e → turn at lists d ≡ next' d)
    → HasGenusZero (system v e at lists) ↔ (v + faces v e at next' ≡ e + 2 * components v e at)
system_zero v e at lists next' l same = HasGenusZero_by (system v e at lists) v e at next' (IsRotation-system v e at lists l) refl (system-edges v e at lists) (system_at v e at lists) (λ d lt. system_next v e at lists l d lt ∙ same d lt)

-- darts with new numbers, where t undoes itself
module _ (v n : ℕ) (at : ℕ → ℕ) (lists : ℕ → List ℕ) (l : Listed v n at lists) (t : ℕ → ℕ) (twice : Twice t)
    (below : (d : ℕ) → d < n → t d < n) where
  -- vertices and lists are given
  pub Listed-darts : Listed v n (λ d. at (t d)) (λ x. map t (lists x))
  Listed-darts = record {
    placed = λ d lt. l.placed (t d) (below d lt);
    distinct = λ x lt. Distinct-map t twice (lists x) (l.distinct x lt);
    own = λ d lt. subst (λ y. Has y (map t (lists (at (t d))))) (twice d) (Has-map t (t d) (lists (at (t d))) (l.own (t d) (below d lt)));
    item = λ x d lt h. let w = l.item x (t d) lt (map-Has t twice d (lists x) h) in (subst (λ y. y < n) (twice d) (below (t d) w.0), w.1);
  }

  -- behind a dart comes the new number of what was behind its old one
  pub turn-darts : (d : ℕ) → d < n → turn (λ y. at (t y)) (λ x. map t (lists x)) d ≡ t (turn at lists (t d))
  turn-darts d lt = ap (follow (map t (lists (at (t d))))) (sym (twice d)) ∙ follow-map t twice (t d) (lists (at (t d))) (l.own (t d) (below d lt))

-- vertices with new numbers, where t undoes itself
module _ (v n : ℕ) (at : ℕ → ℕ) (lists : ℕ → List ℕ) (l : Listed v n at lists) (t : ℕ → ℕ) (twice : Twice t)
    (below : (x : ℕ) → x < v → t x < v) where
  -- vertices and lists are given
  pub Listed-vertices : Listed v n (λ d. t (at d)) (λ x. lists (t x))
  Listed-vertices = record {
    placed = λ d lt. below (at d) (l.placed d lt);
    distinct = λ x lt. l.distinct (t x) (below x lt);
    own = λ d lt. subst (λ x. Has d (lists x)) (sym (twice (at d))) (l.own d lt);
    item = λ x d lt h. let w = l.item (t x) d (below x lt) h in (w.0, ap t w.1 ∙ twice x);
  }

  -- the darts behind darts are the same
  pub turn-vertices : (d : ℕ) → turn (λ y. t (at y)) (λ x. lists (t x)) d ≡ turn at lists d
  turn-vertices d = ap (λ x. follow (lists x) d) (twice (at d))

-- without the last dart
module _ (v n : ℕ) (at : ℕ → ℕ) (lists : ℕ → List ℕ) (l : Listed v (suc n) at lists) where
  -- vertices and lists are given
  pub Listed-but : Listed v n at (λ x. but n (lists x))
  Listed-but = record {
    placed = λ d lt. l.placed d (omega arith);
    distinct = λ x lt. but-Distinct n (lists x) (l.distinct x lt);
    own = λ d lt. but-Has n d (lists (at d)) (λ e. omega arith) (l.own d (omega arith));
    item = λ x d lt h.
        let w = l.item x d lt (Has-but n d (lists x) h) in
        let ne : d ≢ n = has_other d n (but n (lists x)) h (but-Lacks n (lists x)) in
        (omega (arith, w.0, ne), w.1);
  }

  -- what came before it goes on to what came behind it
  pub turn-but : (d : ℕ) → d < n → turn at (λ x. but n (lists x)) d ≡ splice (turn at lists) n d
  turn-but d lt = follow-splice (turn at lists) n d (lists (at d)) (l.distinct (at d) (l.placed d (omega arith))) (λ e. omega arith) (l.own d (omega arith)) refl
      (λ h. ap (λ x. follow (lists x) n) (l.item (at d) n (l.placed d (omega arith)) h).1)

-- without the last edge
module _ (v e : ℕ) (at : ℕ → ℕ) (lists : ℕ → List ℕ) (l : Listed v (2 * suc e) at lists) where
  -- with its darts counted one by one
  counted : Listed v (suc (2 * e + 1)) at lists
  counted = let more : 2 * suc e ≡ suc (2 * e + 1) = omega arith in subst (λ n. Listed v n at lists) more l

  -- without its second dart
  first_left : Listed v (suc (2 * e)) at (λ x. but (2 * e + 1) (lists x))
  first_left = let odd : 2 * e + 1 ≡ suc (2 * e) = omega arith in subst (λ n. Listed v n at (λ x. but (2 * e + 1) (lists x))) odd (Listed-but v (2 * e + 1) at lists counted)

  -- vertices and lists are given
  pub Listed-drop_edge : Listed v (2 * e) at (λ x. but (2 * e) (but (2 * e + 1) (lists x)))
  Listed-drop_edge = Listed-but v (2 * e) at (λ x. but (2 * e + 1) (lists x)) first_left

  -- the darts behind darts
  pub turn-drop_edge : (d : ℕ) → d < 2 * e → turn at (λ x. but (2 * e) (but (2 * e + 1) (lists x))) d
      ≡ drop_edge e (turn at lists) d
  turn-drop_edge d lt =
      turn-but v (2 * e) at (λ x. but (2 * e + 1) (lists x)) first_left d lt
      ∙ ap₂ (λ (a b : ℕ). cond (eqb a (2 * e)) b a) (turn-but v (2 * e + 1) at lists counted d (omega arith)) (turn-but v (2 * e + 1) at lists counted (2 * e) (omega arith))
