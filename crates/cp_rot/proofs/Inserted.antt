-- Items put in behind others, and an edge put in.
use Rattle.std.proofs.Common.{◌≡◌, ℕ, suc, ◌+◌, ◌*◌, ◌<◌, ◌⊎◌, ◌≢◌, cond, List, [], ◌∷◌, ◌++◌, eqb, sym, refl, ap, ◌∙◌, subst, inl, inr, ⊎_elim, arith, append_assoc, lt-suc_self}
use Rattle.std.proofs.lemmas.Bool.{cases_eq, cases_lt, eq-eqb, ne_eqb, cond-true, cond-false}
use Rattle.cp_orbits.specs.Orbits.{put}
use Rattle.cp_lists.specs.CyclicLists.{Has, Lacks, Distinct, follow, MergesAt}
use Rattle.cp_faces.specs.Faces.{Turns, faces, components, put_edge}
use Rattle.cp_lists.proofs.DistinctLists.{has_lacks, Lacks-from, Has-append_left, Has-append_right, Has-append_cases, Distinct-turn, Distinct-middle, Has-turn}
use Rattle.cp_lists.proofs.CyclicLists.{follow-insert}
use Rattle.cp_faces.proofs.ListRotations.{Rotates-agree}
use Rattle.cp_faces.proofs.Faces.{zero-agree}
use Rattle.cp_faces.proofs.Insertions.{put_behind, put_new, put_other, put_edge-zero}
use Rattle.cp_rot.specs.Systems.{System, darts, edges, vertex_of, list_of, next, IsRotation}
use Rattle.cp_rot.specs.Genus.{InOneFace, HasGenusZero}
use Rattle.cp_rot.specs.Rewrites.{before, behind, with_behind, vertex_with_edge, with_edge}
use Rattle.cp_rot.proofs.Rotations.{next_stands}
use Rattle.cp_rot.proofs.Functions.{next-follow, Turns-system, zero_counts, face_labels}
use Rattle.cp_rot.proofs.ListEdits.{around_item}
use Rattle.cp_rot.proofs.ListSystems.{Listed, turn, Listed-edges, Listed-agree, IsRotation-system, system_zero}

-- in a list of one item it comes behind itself
pub follow_single : (b : ℕ) → follow (b ∷ []) b ≡ b
follow_single b = rw (eq-eqb b b refl) refl

-- with b directly behind a, where h tells what comes behind the items before
pub put_follow : (h : ℕ → ℕ) (a b : ℕ) (us ws : List ℕ) → Distinct (us ++ a ∷ b ∷ ws)
    → ((z : ℕ) → Has z (us ++ a ∷ ws) → follow (us ++ a ∷ ws) z ≡ h z) → (z : ℕ) → Has z (us ++ a ∷ b ∷ ws)
    → follow (us ++ a ∷ b ∷ ws) z ≡ put h b a z
put_follow h a b us ws dis same z has =
    ⊎_elim
    (λ e. ap (follow (us ++ a ∷ b ∷ ws)) e ∙ law.behind_first ∙ follow_single b ∙ sym (put_behind h b a z e))
    (λ na. ⊎_elim
    (λ e. ap (follow (us ++ a ∷ b ∷ ws)) e ∙ law.behind_second ∙ same a (Has-append_right a us (a ∷ ws) (inl refl)) ∙ sym (put_new h b a z na e))
    (λ nb. let old = was_there nb in law.in_first z old na ∙ same z old ∙ sym (put_other h b a z na nb))
    (cases_eq z b))
    (cases_eq z a)
  where
    law : MergesAt (us ++ a ∷ ws) (b ∷ []) (us ++ a ∷ b ∷ ws) a b
    law = follow-insert a b us ws dis

    was_there : (z ≡ b → ⊥) → Has z (us ++ a ∷ ws)
    was_there nb = ⊎_elim
        (λ k. Has-append_left z us (a ∷ ws) k)
        (λ k. Has-append_right z us (a ∷ ws) (⊎_elim inl (λ m. ⊎_elim (λ e. absurd (nb (sym e))) inr m) k))
        (Has-append_cases z us (a ∷ b ∷ ws) has)

-- nothing is put in where a is no item
pub with_behind_lacks : (a b : ℕ) (xs : List ℕ) → Lacks a xs → with_behind a b xs ≡ xs
with_behind_lacks a b [] l = refl
with_behind_lacks a b (x ∷ xs) l = rw (ne_eqb x a l.0) (ap (λ ys. x ∷ ys) (with_behind_lacks a b xs l.1))

-- behind an item between two parts
pub with_behind_middle : (a b : ℕ) (us ws : List ℕ) → Lacks a us → Lacks a ws
    → with_behind a b (us ++ a ∷ ws) ≡ us ++ a ∷ b ∷ ws
with_behind_middle a b [] ws lu lw = rw (eq-eqb a a refl) (ap (λ ys. a ∷ b ∷ ys) (with_behind_lacks a b ws lw))
with_behind_middle a b (x ∷ us) ws lu lw = rw (ne_eqb x a lu.0) (ap (λ ys. x ∷ ys) (with_behind_middle a b us ws lu.1 lw))

-- an item that is not there is put in, and all items stay distinct
pub Distinct-insert : (a b : ℕ) (us ws : List ℕ) → Distinct (us ++ a ∷ ws) → Lacks b (us ++ a ∷ ws)
    → Distinct (us ++ a ∷ b ∷ ws)
Distinct-insert a b us ws dis l =
    let apart : Distinct ((us ++ a ∷ []) ++ ws) = subst Distinct (sym (append_assoc us (a ∷ []) ws)) dis in
    let lacks : Lacks b (ws ++ (us ++ a ∷ [])) = Lacks-from b (ws ++ (us ++ a ∷ [])) (λ h. has_lacks b (us ++ a ∷ ws) (subst (Has b) (append_assoc us (a ∷ []) ws) (Has-turn b ws (us ++ a ∷ []) h)) l) in
    let more : Distinct ((b ∷ ws) ++ (us ++ a ∷ [])) = (lacks, Distinct-turn (us ++ a ∷ []) ws apart) in
    subst Distinct (append_assoc us (a ∷ []) (b ∷ ws)) (Distinct-turn (b ∷ ws) (us ++ a ∷ []) more)

-- a list that holds a, with b put in behind it
pub with_behind_parts : (a b : ℕ) (xs : List ℕ) → Distinct xs → Has a xs
    → with_behind a b xs ≡ before a xs ++ a ∷ b ∷ behind a xs
with_behind_parts a b xs dis h =
    let out = Distinct-middle a (before a xs) (behind a xs) (subst Distinct (around_item a xs h) dis) in
    ap (with_behind a b) (around_item a xs h) ∙ with_behind_middle a b (before a xs) (behind a xs) out.0 out.1

-- the last dart n put in behind dart d
module _ (v n d : ℕ) (at : ℕ → ℕ) (lists : ℕ → List ℕ) (l : Listed v n at lists) (ltd : d < n) (new : at n ≡ at d) where
  -- n is in no list
  lacks_new : (x : ℕ) → x < v → Lacks n (lists x)
  lacks_new x lt = Lacks-from n (lists x) (λ h. let w = l.item x n lt h in omega (arith, w.0))

  -- the list of another vertex does not hold d
  lacks_old : (x : ℕ) → x < v → (x ≡ at d → ⊥) → Lacks d (lists x)
  lacks_old x lt ne = Lacks-from d (lists x) (λ h. ne (sym (l.item x d lt h).1))

  -- the lists of other vertices stay
  list_other : (x : ℕ) → x < v → (x ≡ at d → ⊥) → with_behind d n (lists x) ≡ lists x
  list_other x lt ne = with_behind_lacks d n (lists x) (lacks_old x lt ne)

  -- the vertex of d
  abbrev u : ℕ
  u = at d

  -- is one
  u_below : u < v
  u_below = l.placed d ltd

  -- its list before
  list_before : lists u ≡ before d (lists u) ++ d ∷ behind d (lists u)
  list_before = around_item d (lists u) (l.own d ltd)

  -- and after
  list_after : with_behind d n (lists u) ≡ before d (lists u) ++ d ∷ n ∷ behind d (lists u)
  list_after = with_behind_parts d n (lists u) (l.distinct u u_below) (l.own d ltd)

  -- its items are distinct
  distinct_after : Distinct (before d (lists u) ++ d ∷ n ∷ behind d (lists u))
  distinct_after = Distinct-insert d n (before d (lists u)) (behind d (lists u)) (subst Distinct list_before (l.distinct u u_below)) (subst (Lacks n) list_before (lacks_new u u_below))

  -- it has the new dart
  has_new : Has n (before d (lists u) ++ d ∷ n ∷ behind d (lists u))
  has_new = Has-append_right n (before d (lists u)) (d ∷ n ∷ behind d (lists u)) (inr (inl refl))

  -- and the old ones
  has_old : (z : ℕ) → Has z (lists u) → Has z (before d (lists u) ++ d ∷ n ∷ behind d (lists u))
  has_old z h = ⊎_elim
      (λ k. Has-append_left z (before d (lists u)) (d ∷ n ∷ behind d (lists u)) k)
      (λ k. Has-append_right z (before d (lists u)) (d ∷ n ∷ behind d (lists u)) (⊎_elim inl (λ m. inr (inr m)) k))
      (Has-append_cases z (before d (lists u)) (d ∷ behind d (lists u)) (subst (Has z) list_before h))

  -- and no others
  has_after : (z : ℕ) → Has z (before d (lists u) ++ d ∷ n ∷ behind d (lists u)) → (z ≡ n) ⊎ Has z (lists u)
  has_after z h = ⊎_elim
      (λ k. inr (subst (Has z) (sym list_before) (Has-append_left z (before d (lists u)) (d ∷ behind d (lists u)) k)))
      (λ k. ⊎_elim
      (λ e. inr (subst (Has z) (sym list_before) (Has-append_right z (before d (lists u)) (d ∷ behind d (lists u)) (inl e))))
      (λ m. ⊎_elim (λ e. inl (sym e)) (λ q. inr (subst (Has z) (sym list_before) (Has-append_right z (before d (lists u)) (d ∷ behind d (lists u)) (inr q)))) m)
      k)
      (Has-append_cases z (before d (lists u)) (d ∷ n ∷ behind d (lists u)) h)

  -- vertices and lists are given
  pub Listed-put : Listed v (suc n) at (λ x. with_behind d n (lists x))
  Listed-put = record {
    placed = λ y lt. ⊎_elim (λ k. l.placed y k) (λ k. let e : y ≡ n = omega arith in subst (λ z. z < v) (sym (ap at e ∙ new)) u_below) (cases_lt y n);
    distinct = λ x lt. ⊎_elim
        (λ e. subst (λ z. Distinct (with_behind d n (lists z))) (sym e) (subst Distinct (sym list_after) distinct_after))
        (λ ne. subst Distinct (sym (list_other x lt ne)) (l.distinct x lt))
        (cases_eq x u);
    own = λ y lt. ⊎_elim
        (λ k. ⊎_elim
        (λ e. subst (λ z. Has y (with_behind d n (lists z))) (sym e) (subst (Has y) (sym list_after) (has_old y (subst (λ z. Has y (lists z)) e (l.own y k)))))
        (λ ne. subst (Has y) (sym (list_other (at y) (l.placed y k) ne)) (l.own y k))
        (cases_eq (at y) u))
        (λ k. let e : n ≡ y = omega arith in subst (λ z. Has z (with_behind d n (lists (at z)))) e (subst (λ z. Has n (with_behind d n (lists z))) (sym new) (subst (Has n) (sym list_after) has_new)))
        (cases_lt y n);
    item = λ x y lt h. ⊎_elim
        (λ e. ⊎_elim
        (λ k. (subst (λ z. z < suc n) (sym k) (lt-suc_self n), ap at k ∙ new ∙ sym e))
        (λ k. let w = l.item u y u_below k in (omega (arith, w.0), w.1 ∙ sym e))
        (has_after y (subst (Has y) list_after (subst (λ z. Has y (with_behind d n (lists z))) e h))))
        (λ ne. let w = l.item x y lt (subst (Has y) (list_other x lt ne) h) in (omega (arith, w.0), w.1))
        (cases_eq x u);
  }

  -- behind d comes n, behind n what was behind d
  pub turn-put : (y : ℕ) → y < suc n → turn at (λ x. with_behind d n (lists x)) y ≡ put (turn at lists) n d y
  turn-put y lt = ⊎_elim
      (λ e. ap (λ x. follow (with_behind d n (lists x)) y) e ∙ ap (λ xs. follow xs y) list_after
      ∙ put_follow (turn at lists) d n (before d (lists u)) (behind d (lists u)) distinct_after same y (subst (Has y) list_after (subst (λ x. Has y (with_behind d n (lists x))) e (Listed-put.own y lt))))
      (λ ne.
      let not_new : y ≢ n = λ k. ne (ap at k ∙ new) in
      let k : y < n = omega arith in
      ap (λ xs. follow xs y) (list_other (at y) (l.placed y k) ne) ∙ sym (put_other (turn at lists) n d y (λ f. ne (ap at f)) not_new))
      (cases_eq (at y) u)
    where
      same : (z : ℕ) → Has z (before d (lists u) ++ d ∷ behind d (lists u))
          → follow (before d (lists u) ++ d ∷ behind d (lists u)) z ≡ turn at lists z
      same z h =
          let old : Has z (lists u) = subst (Has z) (sym list_before) h in
          ap (λ xs. follow xs z) (sym list_before) ∙ ap (λ x. follow (lists x) z) (sym (l.item u z u_below old).1)

-- putting in agrees where the functions do
put-agree : (f g : ℕ → ℕ) (x d y : ℕ) → (y ≢ x → f y ≡ g y) → f d ≡ g d → put f x d y ≡ put g x d y
put-agree f g x d y same_y same_d = ⊎_elim
    (λ e. put_behind f x d y e ∙ sym (put_behind g x d y e))
    (λ nd. ⊎_elim
    (λ e. put_new f x d y nd e ∙ same_d ∙ sym (put_new g x d y nd e))
    (λ nx. put_other f x d y nd nx ∙ same_y nx ∙ sym (put_other g x d y nd nx))
    (cases_eq y x))
    (cases_eq y d)

-- an edge more, behind darts d and f
module _ (r : System) (is : IsRotation r) (d f : ℕ) (ltd : d < darts r) (ltf : f < darts r) where
  -- the first new dart
  abbrev x : ℕ
  x = 2 * edges r

  -- the second
  abbrev y : ℕ
  y = 2 * edges r + 1

  -- the vertices of the darts
  abbrev at : ℕ → ℕ
  at = vertex_with_edge r (vertex_of r d) (vertex_of r f)

  -- the first new dart stands with d
  at_first : at x ≡ vertex_of r d
  at_first = cond-true (eqb x x) (vertex_of r d) (cond (eqb x y) (vertex_of r f) (vertex_of r x)) (eq-eqb x x refl)

  -- the second with f
  at_second : at y ≡ vertex_of r f
  at_second = cond-false (eqb y x) (vertex_of r d) (cond (eqb y y) (vertex_of r f) (vertex_of r y)) (ne_eqb y x (λ e. omega arith)) ∙ cond-true (eqb y y) (vertex_of r f) (vertex_of r y) (eq-eqb y y refl)

  -- the others where they stood
  at_old : (z : ℕ) → z < x → at z ≡ vertex_of r z
  at_old z lt = cond-false (eqb z x) (vertex_of r d) (cond (eqb z y) (vertex_of r f) (vertex_of r z)) (ne_eqb z x (λ e. omega arith)) ∙ cond-false (eqb z y) (vertex_of r f) (vertex_of r z) (ne_eqb z y (λ e. omega arith))

  -- d and f are old darts
  ltd' : d < x
  ltd' = omega (arith, is.paired)

  -- d and f are old darts
  ltf' : f < x
  ltf' = omega (arith, is.paired)

  -- the functions of the system
  whole : Listed r.vertices x at (list_of r)
  whole = Listed-agree r.vertices x (vertex_of r) at (list_of r) (list_of r) (λ z lt. sym (at_old z lt)) (λ v lt. refl) (Listed-edges r (edges r) is refl)

  -- with the first dart
  one_dart : Listed r.vertices (suc x) at (λ v. with_behind d x (list_of r v))
  one_dart = Listed-put r.vertices x d at (list_of r) whole ltd' (at_first ∙ sym (at_old d ltd'))

  -- the same, the darts counted otherwise
  one_dart' : Listed r.vertices y at (λ v. with_behind d x (list_of r v))
  one_dart' = let more : suc x ≡ y = omega arith in subst (λ n. Listed r.vertices n at (λ v. with_behind d x (list_of r v))) more one_dart

  -- behind which dart the second is put in
  abbrev g : ℕ
  g = cond (eqb f d) x f

  -- it is one, and stands with f
  g_stands : (g < y) × (at g ≡ vertex_of r f)
  g_stands = ⊎_elim
      (λ e. let c : g ≡ x = cond-true (eqb f d) x f (eq-eqb f d e) in (omega arith, ap at c ∙ at_first ∙ ap (vertex_of r) (sym e)))
      (λ ne. let c : g ≡ f = cond-false (eqb f d) x f (ne_eqb f d ne) in (omega (arith, ltf'), ap at c ∙ at_old f ltf'))
      (cases_eq f d)

  -- with both darts
  both_darts : Listed r.vertices (suc y) at (λ v. with_behind g y (with_behind d x (list_of r v)))
  both_darts = Listed-put r.vertices y g at (λ v. with_behind d x (list_of r v)) one_dart' g_stands.0 (at_second ∙ sym g_stands.1)

  -- the functions of the result
  pub Listed-with_edge : Listed r.vertices (2 * (edges r + 1)) at (λ v. with_behind g y (with_behind d x (list_of r v)))
  Listed-with_edge = let more : suc y ≡ 2 * (edges r + 1) = omega arith in subst (λ n. Listed r.vertices n at (λ v. with_behind g y (with_behind d x (list_of r v)))) more both_darts

  -- the result is a rotation system
  pub IsRotation-with_edge : IsRotation (with_edge r d f)
  IsRotation-with_edge = IsRotation-system r.vertices (edges r + 1) at (λ v. with_behind g y (with_behind d x (list_of r v))) Listed-with_edge

  -- what is behind its darts
  pub with_edge_turn : (z : ℕ) → z < 2 * (edges r + 1)
      → turn at (λ v. with_behind g y (with_behind d x (list_of r v))) z ≡ put_edge (edges r) d f (next r) z
  with_edge_turn z lt =
      turn-put r.vertices y g at (λ v. with_behind d x (list_of r v)) one_dart' g_stands.0 (at_second ∙ sym g_stands.1) z (omega arith)
      ∙ put-agree (turn at (λ v. with_behind d x (list_of r v))) (put (next r) x d) y g z (λ ne. first_turn z (omega arith)) (first_turn g g_stands.0)
    where
      old_turn : (q : ℕ) → q < x → turn at (list_of r) q ≡ next r q
      old_turn q l = ap (λ v. follow (list_of r v) q) (at_old q l) ∙ sym (next-follow r is q (omega (arith, is.paired)))

      first_turn : (q : ℕ) → q < y → turn at (λ v. with_behind d x (list_of r v)) q ≡ put (next r) x d q
      first_turn q l =
          turn-put r.vertices x d at (list_of r) whole ltd' (at_first ∙ sym (at_old d ltd')) q (omega arith)
          ∙ put-agree (turn at (list_of r)) (next r) x d q (λ ne. old_turn q (omega arith)) (old_turn d ltd')

  -- within a face genus zero stays
  pub with_edge-HasGenusZero : InOneFace r (next r d) (next r f) → HasGenusZero r → HasGenusZero (with_edge r d f)
  with_edge-HasGenusZero one z = (system_zero r.vertices (edges r + 1) at (λ v. with_behind g y (with_behind d x (list_of r v))) (put_edge (edges r) d f (next r)) Listed-with_edge with_edge_turn).1
      (let more : suc (edges r) ≡ edges r + 1 = omega arith in
      subst (λ n. r.vertices + faces r.vertices n at (put_edge (edges r) d f (next r)) ≡ n + 2 * components r.vertices n at) more
      (put_edge-zero r.vertices (edges r) d f at (next r) turns ltd' ltf' (at_first ∙ sym (at_old d ltd')) (at_second ∙ sym (at_old f ltf'))
      (face_labels r is (next r d) (next r f) (next_stands r is d ltd).0 (next_stands r is f ltf).0 one)
      (zero-agree r.vertices (edges r) (vertex_of r) (next r) at (next r) (λ q l. sym (at_old q l)) (λ q l. refl) (zero_counts r is z))))
    where
      turns : Turns r.vertices (edges r) at (next r)
      turns = Rotates-agree r.vertices x (vertex_of r) (next r) at (next r) (λ q l. sym (at_old q l)) (λ q l. refl) (Turns-system r is)
