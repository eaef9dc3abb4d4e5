-- A vertex of a rotation system expanded to an edge.
use Rattle.std.proofs.Common.{◌≡◌, ℕ, suc, ◌+◌, ◌*◌, ◌<◌, ◌⊎◌, ◌≢◌, ◌↔◌, true, false, cond, List, [], ◌∷◌, ◌++◌, eqb, sym, refl, ap, ap₂, ◌∙◌, subst, subst₂, inl, inr, ⊎_elim, arith, append_assoc}
use Rattle.std.specs.List.{list_any}
use Rattle.std.proofs.lemmas.Bool.{cases_eq, cases_lt, eq-eqb, ne_eqb, cond-true, cond-false, or_left, or_right}
use Rattle.cp_orbits.specs.Orbits.{put, exchange}
use Rattle.cp_orbits.specs.Classes.{joined}
use Rattle.cp_lists.specs.CyclicLists.{Has, Lacks, Distinct, follow, MergesAt}
use Rattle.cp_faces.specs.Faces.{Turns, faces, components, put_edge}
use Rattle.cp_lists.proofs.DistinctLists.{has_cases, has_lacks, Lacks-from, Has-append_left, Has-append_right, Has-append_cases, Lacks-append_right, Distinct-turn, Distinct-middle, Distinct-append_left, Distinct-append_right, Distinct-apart_right, Has-turn}
use Rattle.cp_lists.proofs.CyclicLists.{follow-turn, follow-merge}
use Rattle.cp_orbits.proofs.OrbitLaws.{exchange_left, exchange_right, exchange_other}
use Rattle.cp_orbits.proofs.Exchanges.{joined_at, joined_other}
use Rattle.cp_faces.proofs.Insertions.{put_other, faces-expanded, components-expanded}
use Rattle.cp_rot.specs.Systems.{System, darts, edges, vertex_of, list_of, next, IsRotation}
use Rattle.cp_rot.specs.Genus.{HasGenusZero}
use Rattle.cp_rot.specs.Rewrites.{before, behind, others_from, row, row_left, expanded_list, expanded_vertex, expanded}
use Rattle.cp_rot.proofs.Functions.{next-follow, Turns-system, zero_counts, HasGenusZero-from}
use Rattle.cp_rot.proofs.ListEdits.{around_item}
use Rattle.cp_rot.proofs.ListSystems.{Listed, turn, Listed-edges, Listed-Rotates, IsRotation-system, system_zero}
use Rattle.cp_rot.proofs.Inserted.{put_follow, Distinct-insert}

-- some item is z where z is an item
pub any_from : (z : ℕ) (xs : List ℕ) → Has z xs → list_any (λ q. eqb q z) xs ≡ true
any_from z [] h = absurd h
any_from z (q ∷ xs) h = ⊎_elim (λ e. or_left (eqb q z) (list_any (λ p. eqb p z) xs) (eq-eqb q z e)) (λ k. or_right (eqb q z) (list_any (λ p. eqb p z) xs) (any_from z xs k)) h

-- none is z where the list lacks z
pub any_lacks : (z : ℕ) (xs : List ℕ) → Lacks z xs → list_any (λ q. eqb q z) xs ≡ false
any_lacks z [] l = refl
any_lacks z (q ∷ xs) l = rw (ne_eqb q z l.0) (any_lacks z xs l.1)

-- darts d and f at one vertex
module _ (r : System) (is : IsRotation r) (d f : ℕ) (ltd : d < darts r) (ltf : f < darts r)
    (one : vertex_of r f ≡ vertex_of r d) where
  -- the new vertex
  abbrev v : ℕ
  v = r.vertices

  -- the first new dart
  abbrev x : ℕ
  x = 2 * edges r

  -- the second
  abbrev y : ℕ
  y = 2 * edges r + 1

  -- the vertex of d
  abbrev w : ℕ
  w = vertex_of r d

  -- its list
  abbrev whole_list : List ℕ
  whole_list = list_of r w

  -- the others in it, from behind d on
  abbrev rest : List ℕ
  rest = others_from d whole_list

  -- the row that moves
  abbrev moved : List ℕ
  moved = row d f whole_list

  -- what stays
  abbrev left : List ℕ
  left = row_left d f whole_list

  -- the functions of the system
  listed : Listed v x (vertex_of r) (list_of r)
  listed = Listed-edges r (edges r) is refl

  -- w is a vertex
  w_below : w < v
  w_below = is.placed d ltd

  -- d and f are old darts
  ltd' : d < x
  ltd' = omega (arith, is.paired)

  -- d and f are old darts
  ltf' : f < x
  ltf' = omega (arith, is.paired)

  -- d stands in the list
  has_d : Has d whole_list
  has_d = listed.own d ltd'

  -- f stands in the list
  has_f : Has f whole_list
  has_f = subst (λ z. Has f (list_of r z)) one (listed.own f ltf')

  -- the list around d
  parts : whole_list ≡ before d whole_list ++ d ∷ behind d whole_list
  parts = around_item d whole_list has_d

  -- turned it is distinct
  turned_distinct : Distinct (d ∷ rest)
  turned_distinct = Distinct-turn (before d whole_list) (d ∷ behind d whole_list) (subst Distinct parts (listed.distinct w w_below))

  -- and has the same items
  to_turned : (z : ℕ) → Has z whole_list → Has z (d ∷ rest)
  to_turned z h = Has-turn z (before d whole_list) (d ∷ behind d whole_list) (subst (Has z) parts h)

  -- and no others
  from_turned : (z : ℕ) → Has z (d ∷ rest) → Has z whole_list
  from_turned z h = subst (Has z) (sym parts) (Has-turn z (d ∷ behind d whole_list) (before d whole_list) h)

  -- an item of the list is an old dart of w
  pub stands : (z : ℕ) → Has z whole_list → (z < x) × (vertex_of r z ≡ w)
  stands z h = listed.item w z w_below h

  -- behind the items comes the same
  turned_follow : (z : ℕ) → Has z (d ∷ rest) → follow (d ∷ rest) z ≡ next r z
  turned_follow z h =
      let old = from_turned z h in
      let at_w = stands z old in
      follow-turn z (before d whole_list) (d ∷ behind d whole_list) (subst Distinct parts (listed.distinct w w_below)) (subst (Has z) parts old)
      ∙ ap (λ xs. follow xs z) (sym parts) ∙ ap (λ u. follow (list_of r u) z) (sym at_w.1)
      ∙ sym (next-follow r is z (omega (arith, at_w.0, is.paired)))

  -- the turned list lacks a dart that is not old
  lacks_new : (z : ℕ) → x < suc z → Lacks z (d ∷ rest)
  lacks_new z le = Lacks-from z (d ∷ rest) (λ h. let old = (stands z (from_turned z h)).0 in omega arith)

  -- with the first dart
  with_first : Distinct (d ∷ x ∷ rest) × ((z : ℕ) → Has z (d ∷ x ∷ rest) → follow (d ∷ x ∷ rest) z ≡ put (next r) x d z)
  with_first =
      let dis : Distinct (d ∷ x ∷ rest) = Distinct-insert d x [] rest turned_distinct (lacks_new x (omega arith)) in
      (dis, put_follow (next r) d x [] rest dis turned_follow)

  -- the list with the first dart lacks the second
  lacks_second : Lacks y (d ∷ x ∷ rest)
  lacks_second = let l = lacks_new y (omega arith) in (l.0, ((λ e. omega arith), l.1))

  -- f is d: the list with the second dart
  law_same : f ≡ d → Distinct (d ∷ x ∷ y ∷ rest) × ((z : ℕ) → Has z (d ∷ x ∷ y ∷ rest)
      → follow (d ∷ x ∷ y ∷ rest) z ≡ put_edge (edges r) d f (next r) z)
  law_same e =
      let dis : Distinct (d ∷ x ∷ y ∷ rest) = Distinct-insert x y (d ∷ []) rest with_first.0 lacks_second in
      (dis, λ z h. put_follow (put (next r) x d) x y (d ∷ []) rest dis with_first.1 z h ∙ ap (λ g. put (put (next r) x d) y g z) (sym (cond-true (eqb f d) x f (eq-eqb f d e))))

  -- f is another: it stands behind d
  pub has_f_rest : (f ≡ d → ⊥) → Has f rest
  has_f_rest ne = ⊎_elim (λ e. absurd (ne (sym e))) (λ k. k) (to_turned f has_f)

  -- f is another: the rest around f
  rest_parts : (f ≡ d → ⊥) → rest ≡ before f rest ++ f ∷ behind f rest
  rest_parts ne = around_item f rest (has_f_rest ne)

  -- f is another: the list with the second dart
  law_other : (f ≡ d → ⊥) → Distinct (d ∷ x ∷ (before f rest ++ f ∷ y ∷ behind f rest)) × ((z : ℕ)
      → Has z (d ∷ x ∷ (before f rest ++ f ∷ y ∷ behind f rest))
      → follow (d ∷ x ∷ (before f rest ++ f ∷ y ∷ behind f rest)) z ≡ put_edge (edges r) d f (next r) z)
  law_other ne =
      let first = subst (λ m. Distinct (d ∷ x ∷ m) × ((z : ℕ) → Has z (d ∷ x ∷ m) → follow (d ∷ x ∷ m) z ≡ put (next r) x d z)) (rest_parts ne) with_first in
      let lacks = subst (λ m. Lacks y (d ∷ x ∷ m)) (rest_parts ne) lacks_second in
      let dis : Distinct (d ∷ x ∷ (before f rest ++ f ∷ y ∷ behind f rest)) = Distinct-insert f y (d ∷ x ∷ before f rest) (behind f rest) first.0 lacks in
      (dis, λ z h. put_follow (put (next r) x d) f y (d ∷ x ∷ before f rest) (behind f rest) dis first.1 z h ∙ ap (λ g. put (put (next r) x d) y g z) (sym (cond-false (eqb f d) x f (ne_eqb f d ne))))

  -- the list with both darts, by the row and what is left
  abbrev looped : List ℕ
  looped = d ∷ x ∷ (moved ++ y ∷ left)

  -- its items are distinct, and the edge is put in
  looped_law : Distinct looped × ((z : ℕ) → Has z looped → follow looped z ≡ put_edge (edges r) d f (next r) z)
  looped_law = ⊎_elim
      (λ e. subst₂ (λ us ws. Distinct (d ∷ x ∷ (us ++ y ∷ ws)) × ((z : ℕ) → Has z (d ∷ x ∷ (us ++ y ∷ ws)) → follow (d ∷ x ∷ (us ++ y ∷ ws)) z ≡ put_edge (edges r) d f (next r) z))
      (sym (cond-true (eqb f d) [] (before f rest ++ f ∷ []) (eq-eqb f d e))) (sym (cond-true (eqb f d) rest (behind f rest) (eq-eqb f d e))) (law_same e))
      (λ ne. subst₂ (λ us ws. Distinct (d ∷ x ∷ (us ++ y ∷ ws)) × ((z : ℕ) → Has z (d ∷ x ∷ (us ++ y ∷ ws)) → follow (d ∷ x ∷ (us ++ y ∷ ws)) z ≡ put_edge (edges r) d f (next r) z))
      (sym (cond-false (eqb f d) [] (before f rest ++ f ∷ []) (ne_eqb f d ne))) (sym (cond-false (eqb f d) rest (behind f rest) (ne_eqb f d ne)))
      (subst (λ m. Distinct (d ∷ x ∷ m) × ((z : ℕ) → Has z (d ∷ x ∷ m) → follow (d ∷ x ∷ m) z ≡ put_edge (edges r) d f (next r) z)) (sym (append_assoc (before f rest) (f ∷ []) (y ∷ behind f rest))) (law_other ne)))
      (cases_eq f d)

  -- the rest is the row and what is left
  rest_split : rest ≡ moved ++ left
  rest_split = ⊎_elim
      (λ e. sym (ap₂ (λ us ws. us ++ ws) (cond-true (eqb f d) [] (before f rest ++ f ∷ []) (eq-eqb f d e)) (cond-true (eqb f d) rest (behind f rest) (eq-eqb f d e))))
      (λ ne. rest_parts ne ∙ sym (append_assoc (before f rest) (f ∷ []) (behind f rest)) ∙ sym (ap₂ (λ us ws. us ++ ws) (cond-false (eqb f d) [] (before f rest ++ f ∷ []) (ne_eqb f d ne)) (cond-false (eqb f d) rest (behind f rest) (ne_eqb f d ne))))
      (cases_eq f d)

  -- items of the row are items of the list
  pub in_row : (z : ℕ) → Has z moved → Has z whole_list
  in_row z h = from_turned z (inr (subst (Has z) (sym rest_split) (Has-append_left z moved left h)))

  -- so are those that are left
  in_left : (z : ℕ) → Has z left → Has z whole_list
  in_left z h = from_turned z (inr (subst (Has z) (sym rest_split) (Has-append_right z moved left h)))

  -- an item of the list is d, in the row or left
  list_cases : (z : ℕ) → Has z whole_list → (d ≡ z) ⊎ (Has z moved ⊎ Has z left)
  list_cases z h = ⊎_elim inl (λ k. inr (Has-append_cases z moved left (subst (Has z) rest_split k))) (to_turned z h)

  -- those that are left are not in the row
  left_not_moved : (z : ℕ) → Has z left → Lacks z moved
  left_not_moved z h = Distinct-apart_right z moved left (subst Distinct rest_split turned_distinct.1) h

  -- neither is d
  d_not_moved : Lacks d moved
  d_not_moved = Lacks-from d moved (λ h. has_lacks d rest (subst (Has d) (sym rest_split) (Has-append_left d moved left h)) turned_distinct.0)

  -- the list that stays is distinct
  left_distinct : Distinct (d ∷ x ∷ left)
  left_distinct =
      let dis = looped_law.0 in
      ((dis.0.0, (Lacks-append_right d moved (y ∷ left) dis.0.1).1), ((Lacks-append_right x moved (y ∷ left) dis.1.0).1, (Distinct-append_right moved (y ∷ left) dis.1.1).1))

  -- the list that moves is distinct
  moved_distinct : Distinct (y ∷ moved)
  moved_distinct = let dis = looped_law.0 in ((Distinct-middle y moved left dis.1.1).0, Distinct-append_left moved (y ∷ left) dis.1.1)

  -- the two lists are the one with what is behind the new darts exchanged
  split_law : MergesAt (d ∷ x ∷ left) (moved ++ y ∷ []) looped x y
  split_law = follow-merge x y (d ∷ []) left moved looped_law.0

  -- the list that moves, turned
  moved_follow : (z : ℕ) → Has z (y ∷ moved) → follow (y ∷ moved) z ≡ follow (moved ++ y ∷ []) z
  moved_follow z h = follow-turn z moved (y ∷ []) (Distinct-turn (y ∷ []) moved moved_distinct) (Has-turn z (y ∷ []) moved h)

  -- the new vertices of the darts
  abbrev at : ℕ → ℕ
  at = expanded_vertex r d f

  -- the new lists
  abbrev lists : ℕ → List ℕ
  lists = expanded_list r d f

  -- the first new dart stands at w
  pub at_first : at x ≡ w
  at_first = rw (eq-eqb x x refl) refl

  -- the second at v
  pub at_second : at y ≡ v
  at_second = rw (ne_eqb y x (λ e. omega arith), eq-eqb y y refl) refl

  -- a dart of the row at v
  at_row : (z : ℕ) → z < x → Has z moved → at z ≡ v
  at_row z lt h = rw (ne_eqb z x (λ e. omega arith), ne_eqb z y (λ e. omega arith), any_from z moved h) refl

  -- the others where they stood
  at_rest : (z : ℕ) → z < x → Lacks z moved → at z ≡ vertex_of r z
  at_rest z lt l = rw (ne_eqb z x (λ e. omega arith), ne_eqb z y (λ e. omega arith), any_lacks z moved l) refl

  -- the list of v
  pub list_new : lists v ≡ y ∷ moved
  list_new = rw (eq-eqb v v refl) refl

  -- the list of w
  pub list_old : lists w ≡ d ∷ x ∷ left
  list_old = rw (ne_eqb w v (λ e. omega (arith, w_below)), eq-eqb w w refl) refl

  -- the lists of others
  pub list_other : (u : ℕ) → (u ≡ v → ⊥) → (u ≡ w → ⊥) → lists u ≡ list_of r u
  list_other u nv nw = rw (ne_eqb u v nv, ne_eqb u w nw) refl

  -- what holds of the new darts, of the row and of the others holds of all darts
  stand_cases : (P : ℕ → ℕ → Type 0) → P x w → P y v → ((z : ℕ) → z < x → Has z moved → P z v)
      → ((z : ℕ) → z < x → Lacks z moved → P z (vertex_of r z)) → (z : ℕ) → z < 2 * (edges r + 1) → P z (at z)
  stand_cases P first second in_moved others z lt = ⊎_elim
      (λ old. ⊎_elim (λ h. subst (P z) (sym (at_row z old h)) (in_moved z old h)) (λ l. subst (P z) (sym (at_rest z old l)) (others z old l)) (has_cases z moved))
      (λ new. ⊎_elim
      (λ e. subst (λ q. P q (at q)) (sym e) (subst (P x) (sym at_first) first))
      (λ ne. let e : y ≡ z = omega arith in subst (λ q. P q (at q)) e (subst (P y) (sym at_second) second))
      (cases_eq z x))
      (cases_lt z x)

  -- the functions of the result
  pub Listed-expanded : Listed (r.vertices + 1) (2 * (edges r + 1)) at lists
  Listed-expanded = record {
    placed = stand_cases (λ z u. u < v + 1) (omega (arith, w_below)) (omega arith) (λ z lt h. omega arith) (λ z lt l. let old = listed.placed z lt in omega arith);
    distinct = λ u lt. ⊎_elim
        (λ e. subst (λ q. Distinct (lists q)) (sym e) (subst Distinct (sym list_new) moved_distinct))
        (λ nv. ⊎_elim
        (λ e. subst (λ q. Distinct (lists q)) (sym e) (subst Distinct (sym list_old) left_distinct))
        (λ nw. subst Distinct (sym (list_other u nv nw)) (listed.distinct u (omega arith)))
        (cases_eq u w))
        (cases_eq u v);
    own = stand_cases (λ z u. Has z (lists u))
        (subst (Has x) (sym list_old) (inr (inl refl)))
        (subst (Has y) (sym list_new) (inl refl))
        (λ z lt h. subst (Has z) (sym list_new) (inr h))
        (λ z lt l. ⊎_elim
        (λ e. subst (λ q. Has z (lists q)) (sym e) (subst (Has z) (sym list_old) (⊎_elim inl (λ k. ⊎_elim (λ h. absurd (has_lacks z moved h l)) (λ h. inr (inr h)) k) (list_cases z (subst (λ q. Has z (list_of r q)) e (listed.own z lt))))))
        (λ nw. subst (Has z) (sym (list_other (vertex_of r z) (λ e. let old = listed.placed z lt in omega arith) nw)) (listed.own z lt))
        (cases_eq (vertex_of r z) w));
    item = λ u z lt h. ⊎_elim
        (λ e. ⊎_elim
        (λ k. (omega arith, ap at (sym k) ∙ at_second ∙ sym e))
        (λ k. let old = stands z (in_row z k) in (omega (arith, old.0), at_row z old.0 k ∙ sym e))
        (subst (Has z) list_new (subst (λ q. Has z (lists q)) e h)))
        (λ nv. ⊎_elim
        (λ e. ⊎_elim
        (λ k. (omega (arith, ltd'), ap at (sym k) ∙ at_rest d ltd' d_not_moved ∙ sym e))
        (λ m. ⊎_elim
        (λ k. (omega arith, ap at (sym k) ∙ at_first ∙ sym e))
        (λ k. let old = stands z (in_left z k) in (omega (arith, old.0), at_rest z old.0 (left_not_moved z k) ∙ old.1 ∙ sym e))
        m)
        (subst (Has z) list_old (subst (λ q. Has z (lists q)) e h)))
        (λ nw.
        let old = listed.item u z (omega arith) (subst (Has z) (list_other u nv nw) h) in
        (omega (arith, old.0), at_rest z old.0 (Lacks-from z moved (λ k. nw (sym old.1 ∙ (stands z (in_row z k)).1))) ∙ old.1))
        (cases_eq u w))
        (cases_eq u v);
  }

  -- a dart of another vertex has behind it what was behind it
  elsewhere : (z : ℕ) → z < x → (vertex_of r z ≡ w → ⊥) → put_edge (edges r) d f (next r) z ≡ next r z
  elsewhere z lt nw =
      let not_d : z ≢ d = λ e. nw (ap (vertex_of r) e) in
      let not_f : z ≢ f = λ e. nw (ap (vertex_of r) e ∙ one) in
      let not_g : z ≢ cond (eqb f d) x f = λ e. ⊎_elim
      (λ h. let c : cond (eqb f d) x f ≡ x = cond-true (eqb f d) x f (eq-eqb f d h) in omega arith)
      (λ nh. not_f (e ∙ cond-false (eqb f d) x f (ne_eqb f d nh)))
      (cases_eq f d) in
      put_other (put (next r) x d) y (cond (eqb f d) x f) z not_g (λ e. omega arith) ∙ put_other (next r) x d z not_d (λ e. omega arith)

  -- what is behind the darts
  pub expanded_turn : (z : ℕ) → z < 2 * (edges r + 1) → turn at lists z ≡ put_edge (edges r) d f (next r)
      (exchange x y z)
  expanded_turn = stand_cases (λ z u. follow (lists u) z ≡ put_edge (edges r) d f (next r) (exchange x y z))
      (ap (λ m. follow m x) list_old ∙ sym split_law.behind_second ∙ looped_law.1 y second_in ∙ ap (put_edge (edges r) d f (next r)) (sym (exchange_left x y x refl)))
      (ap (λ m. follow m y) list_new ∙ moved_follow y (inl refl) ∙ sym split_law.behind_first ∙ looped_law.1 x (inr (inl refl)) ∙ ap (put_edge (edges r) d f (next r)) (sym (exchange_right x y y refl)))
      (λ z lt h. ap (λ m. follow m z) list_new ∙ moved_follow z (inr h) ∙ sym (split_law.in_second z (Has-append_left z moved (y ∷ []) h) (λ e. omega arith)) ∙ looped_law.1 z (inr (inr (Has-append_left z moved (y ∷ left) h))) ∙ fixed z lt)
      (λ z lt l. ⊎_elim
      (λ e.
      let stays : Has z (d ∷ x ∷ left) = ⊎_elim inl (λ k. ⊎_elim (λ h. absurd (has_lacks z moved h l)) (λ h. inr (inr h)) k) (list_cases z (subst (λ q. Has z (list_of r q)) e (listed.own z lt))) in
      ap (λ q. follow (lists q) z) e ∙ ap (λ m. follow m z) list_old ∙ sym (split_law.in_first z stays (λ h. omega arith)) ∙ looped_law.1 z (stays_in z stays) ∙ fixed z lt)
      (λ nw.
      ap (λ m. follow m z) (list_other (vertex_of r z) (λ e. let old = listed.placed z lt in omega arith) nw)
      ∙ sym (next-follow r is z (omega (arith, is.paired))) ∙ sym (elsewhere z lt nw) ∙ fixed z lt)
      (cases_eq (vertex_of r z) w))
    where
      second_in : Has y looped
      second_in = inr (inr (Has-append_right y moved (y ∷ left) (inl refl)))

      stays_in : (z : ℕ) → Has z (d ∷ x ∷ left) → Has z looped
      stays_in z h = ⊎_elim inl (λ k. inr (⊎_elim inl (λ m. inr (Has-append_right z moved (y ∷ left) (inr m))) k)) h

      fixed : (z : ℕ) → z < x → put_edge (edges r) d f (next r) z ≡ put_edge (edges r) d f (next r) (exchange x y z)
      fixed z lt = ap (put_edge (edges r) d f (next r)) (sym (exchange_other x y z (λ e. omega arith) (λ e. omega arith)))

  -- the result is a rotation system
  pub IsRotation-expanded : IsRotation (expanded r d f)
  IsRotation-expanded = IsRotation-system (r.vertices + 1) (edges r + 1) at lists Listed-expanded

  -- its genus is zero where it was zero before
  pub expanded-HasGenusZero : HasGenusZero (expanded r d f) ↔ HasGenusZero r
  expanded-HasGenusZero = (
    λ z. HasGenusZero-from r is (let h = by_functions.0 z in omega (arith, h, same_faces, same_components)),
    λ z. by_functions.1 (let h = zero_counts r is z in omega (arith, h, same_faces, same_components)),
  )
    where
      more_vertices : r.vertices + 1 ≡ suc r.vertices
      more_vertices = omega arith

      more_edges : edges r + 1 ≡ suc (edges r)
      more_edges = omega arith

      turns : Turns (suc r.vertices) (suc (edges r)) at (turn at lists)
      turns = subst₂ (λ p q. Turns p q at (turn at lists)) more_vertices more_edges (Listed-Rotates (r.vertices + 1) (2 * (edges r + 1)) at lists Listed-expanded)

      stood : (z : ℕ) → z < 2 * edges r → joined w v (at z) ≡ vertex_of r z
      stood z lt = ⊎_elim
          (λ h. ap (joined w v) (at_row z lt h) ∙ joined_at w v v refl ∙ sym (stands z (in_row z h)).1)
          (λ l. ap (joined w v) (at_rest z lt l) ∙ joined_other w v (vertex_of r z) (λ e. let old = listed.placed z lt in omega arith))
          (has_cases z moved)

      by_functions : HasGenusZero (expanded r d f) ↔ (r.vertices + 1 + faces (r.vertices + 1)
          (edges r + 1) at (turn at lists) ≡ edges r + 1 + 2 * components (r.vertices + 1) (edges r + 1) at)
      by_functions = system_zero (r.vertices + 1) (edges r + 1) at lists (turn at lists) Listed-expanded (λ z lt. refl)

      same_faces : faces (r.vertices + 1) (edges r + 1) at (turn at lists) ≡ faces r.vertices (edges r) (vertex_of r)
          (next r)
      same_faces = ap₂ (λ p q. faces p q at (turn at lists)) more_vertices more_edges
          ∙ faces-expanded v (edges r) d f w (vertex_of r) (next r) at (turn at lists) (Turns-system r is) turns ltd' ltf' refl one (λ z lt. expanded_turn z (omega arith)) stood at_first at_second

      same_components : components (r.vertices + 1) (edges r + 1) at ≡ components r.vertices (edges r) (vertex_of r)
      same_components = ap₂ (λ p q. components p q at) more_vertices more_edges
          ∙ components-expanded v (edges r) d f w (vertex_of r) (next r) at (turn at lists) (Turns-system r is) turns ltd' ltf' refl one (λ z lt. expanded_turn z (omega arith)) stood at_first at_second
