-- A vertex at which two sets of edges meet, split into one for each: beside bare vertices the result is, with new
-- numbers, the two systems restricted to the sets, side by side.
use Rattle.std.proofs.Common.{◌≡◌, ℕ, ◌+◌, ◌-◌, ◌*◌, ◌/◌, ◌%◌, ◌<◌, ◌↔◌, Bool, true, false, cond, not, ltb, sym, refl, ap, ap₂, ◌∙◌, subst, ⊎_elim, arith}
use Rattle.std.proofs.lemmas.Bool.{cases_Bool, cases_eq, cases_lt, lt-ltb, le-ltb, cond-true, cond-false, not_from_false, not-true}
use Rattle.cp_orbits.specs.Orbits.{exchange, Renumbers}
use Rattle.cp_lists.specs.CyclicLists.{follow}
use Rattle.cp_faces.specs.Faces.{Turns, Renames, faces, components, on_edges}
use Rattle.cp_orbits.proofs.OrbitLaws.{exchange_right, exchange-exchange, exchange-below}
use Rattle.cp_faces.proofs.Faces.{faces_upto-agree, components-agree, euler_bound}
use Rattle.cp_faces.proofs.Renaming.{Renumbers-on_edges, partner-on_edges, faces-renamed, components-renamed}
use Rattle.cp_faces.proofs.ListRotations.{Rotates-agree}
use Rattle.cp_faces.proofs.Parts.{faces-beside, components-beside}
use Rattle.cp_rot.specs.Systems.{System, IsRotation, edges, vertex_of, next}
use Rattle.cp_rot.specs.Genus.{HasGenusZero}
use Rattle.cp_rotlaw.specs.Restrictions.{split_off}
use Rattle.cp_rotlaw.specs.Restrictions.{IsRestricted, MeetAt}
use Rattle.cp_rot.proofs.Functions.{Turns-system, zero_counts, HasGenusZero-from}
use Rattle.cp_rot.proofs.ListSystems.{turn, Listed-Rotates, system_zero}
use Rattle.cp_rotlaw.proofs.SplitVertices.{at_split, lists_split, split_before, split_moved, split_left, split_other, Listed-split, split_turn_left, split_turn_taken, of_taken, of_taken_u, of_taken_no, of_taken_yes}
use Rattle.cp_rotlaw.proofs.RestrictedSystems.{on_edges_same, kept_list, old_kept, restricted_stand, kept_item, kept_follow, restricted_next}
use Rattle.cp_rotlaw.proofs.BareVertices.{Rotates-more, faces-more_vertices, components-more_vertices}
use Rattle.cp_lists.proofs.Choices.{same_size}

-- a: the edges that are left; b: those that are taken
module _ (r : System) (is : IsRotation r) (u : ℕ) (lt : u < r.vertices) (takes : ℕ → Bool) (meet : MeetAt r u takes)
    (a b : System) (is_a : IsRotation a) (is_b : IsRotation b) (na oa nb ob : ℕ → ℕ)
    (res_a : IsRestricted r a (λ e. not (takes e)) na oa) (res_b : IsRestricted r b takes nb ob) where
  -- how many vertices there are
  abbrev v : ℕ
  v = r.vertices

  -- how many edges are left
  abbrev ea : ℕ
  ea = edges a

  -- how many are taken
  abbrev eb : ℕ
  eb = edges b

  -- the number of an edge, those that are left first
  abbrev p : ℕ → ℕ
  p e = cond (takes e) (ea + nb e) (na e)

  -- the edge of a number
  abbrev q : ℕ → ℕ
  q e = cond (ltb e ea) (oa e) (ob (e - ea))

  -- of an edge that is taken
  p_taken : (e : ℕ) → takes e ≡ true → p e ≡ ea + nb e
  p_taken e t = cond-true (takes e) (ea + nb e) (na e) t

  -- of one that is left
  p_left : (e : ℕ) → takes e ≡ false → p e ≡ na e
  p_left e f = cond-false (takes e) (ea + nb e) (na e) f

  -- of a low number
  q_low : (e : ℕ) → e < ea → q e ≡ oa e
  q_low e l = cond-true (ltb e ea) (oa e) (ob (e - ea)) (lt-ltb e ea l)

  -- of a high number
  q_high : (e : ℕ) → q (ea + e) ≡ ob e
  q_high e =
      let off : ea + e - ea ≡ e = omega arith in
      cond-false (ltb (ea + e) ea) (oa (ea + e)) (ob (ea + e - ea)) (le-ltb (ea + e) ea (omega arith)) ∙ ap ob off

  -- numbers of edges are below their number, and taken back
  there : (e : ℕ) → e < edges r → (p e < ea + eb) × (q (p e) ≡ e)
  there e l = ⊎_elim
      (λ t. let k = res_b.kept e l t in (omega (arith, k.0, p_taken e t), ap q (p_taken e t) ∙ q_high (nb e) ∙ k.1))
      (λ f. let k = res_a.kept e l (not_from_false (takes e) f) in (omega (arith, k.0, p_left e f), ap q (p_left e f) ∙ q_low (na e) k.0 ∙ k.1))
      (cases_Bool (takes e))

  -- and the other way round
  back : (e : ℕ) → e < ea + eb → (q e < edges r) × (p (q e) ≡ e)
  back e l = ⊎_elim
      (λ low.
      let k = res_a.all e low in
      (omega (arith, k.0, q_low e low), ap p (q_low e low) ∙ p_left (oa e) (not-true (takes (oa e)) k.1) ∙ k.2))
      (λ high.
      let k = res_b.all (e - ea) (omega arith) in
      let whole : ea + (e - ea) ≡ e = omega arith in
      let is_old : q e ≡ ob (e - ea) = ap q (sym whole) ∙ q_high (e - ea) in
      (omega (arith, k.0, is_old), ap p is_old ∙ p_taken (ob (e - ea)) k.1 ∙ ap (λ (x : ℕ). ea + x) k.2 ∙ whole))
      (cases_lt e ea)

  -- the edges add up
  edges_add : edges r ≡ ea + eb
  edges_add = same_size (edges r) (ea + eb) p q there back

  -- they are new numbers
  edge_numbers : Renumbers (edges r) p q
  edge_numbers = record {
    there = λ e l. omega (arith, (there e l).0, edges_add);
    back = λ e l. (back e (omega (arith, edges_add))).0;
    there_back = λ e l. (there e l).1;
    back_there = λ e l. (back e (omega (arith, edges_add))).1;
  }

  -- x is not u, and a dart that is taken stands at x
  abbrev goes : ℕ → Bool
  goes x = of_taken r is u lt takes x

  -- u stays
  goes_u : goes u ≡ false
  goes_u = of_taken_u r is u lt takes

  -- the two numbers of a vertex that goes are exchanged
  abbrev swap : ℕ → ℕ
  swap x = cond (ltb x v) (cond (goes x) (v + x) x) (cond (goes (x - v)) (x - v) x)

  -- a low number that goes
  swap_goes : (x : ℕ) → x < v → goes x ≡ true → swap x ≡ v + x
  swap_goes x l t = cond-true (ltb x v) (cond (goes x) (v + x) x) (cond (goes (x - v)) (x - v) x) (lt-ltb x v l) ∙ cond-true (goes x) (v + x) x t

  -- a low number that stays
  swap_stays : (x : ℕ) → x < v → goes x ≡ false → swap x ≡ x
  swap_stays x l f = cond-true (ltb x v) (cond (goes x) (v + x) x) (cond (goes (x - v)) (x - v) x) (lt-ltb x v l) ∙ cond-false (goes x) (v + x) x f

  -- a high number
  swap_high : (x : ℕ) → swap (v + x) ≡ cond (goes x) x (v + x)
  swap_high x =
      let off : v + x - v ≡ x = omega arith in
      cond-false (ltb (v + x) v) (cond (goes (v + x)) (v + (v + x)) (v + x)) (cond (goes (v + x - v)) (v + x - v) (v + x)) (le-ltb (v + x) v (omega arith)) ∙ ap (λ (y : ℕ). cond (goes y) y (v + x)) off

  -- a high number that goes
  swap_high_goes : (x : ℕ) → goes x ≡ true → swap (v + x) ≡ x
  swap_high_goes x t = swap_high x ∙ cond-true (goes x) x (v + x) t

  -- a high number that stays
  swap_high_stays : (x : ℕ) → goes x ≡ false → swap (v + x) ≡ v + x
  swap_high_stays x f = swap_high x ∙ cond-false (goes x) x (v + x) f

  -- what holds of numbers below v and of those above holds of all
  low_high : (P : ℕ → Type 0) → ((x : ℕ) → x < v → P x) → ((x : ℕ) → x < v → P (v + x)) → (x : ℕ) → x < v + v → P x
  low_high P low high x l = ⊎_elim (low x) (λ h. let whole : v + (x - v) ≡ x = omega arith in subst P whole (high (x - v) (omega arith))) (cases_lt x v)

  -- the exchange stays below the bound
  swap_below : (x : ℕ) → x < v + v → swap x < v + v
  swap_below = low_high (λ x. swap x < v + v)
      (λ x l. ⊎_elim (λ t. omega (arith, swap_goes x l t)) (λ f. omega (arith, swap_stays x l f)) (cases_Bool (goes x)))
      (λ x l. ⊎_elim (λ t. omega (arith, swap_high_goes x t)) (λ f. omega (arith, swap_high_stays x f)) (cases_Bool (goes x)))

  -- and undoes itself
  swap_swap : (x : ℕ) → x < v + v → swap (swap x) ≡ x
  swap_swap = low_high (λ x. swap (swap x) ≡ x)
      (λ x l. ⊎_elim (λ t. ap swap (swap_goes x l t) ∙ swap_high_goes x t) (λ f. ap swap (swap_stays x l f) ∙ swap_stays x l f) (cases_Bool (goes x)))
      (λ x l. ⊎_elim (λ t. ap swap (swap_high_goes x t) ∙ swap_goes x l t) (λ f. ap swap (swap_high_stays x f) ∙ swap_high_stays x f) (cases_Bool (goes x)))

  -- high numbers, where u and 0 are exchanged
  abbrev shift : ℕ → ℕ
  shift x = cond (ltb x v) x (v + exchange u 0 (x - v))

  -- a low number stays
  shift_low : (x : ℕ) → x < v → shift x ≡ x
  shift_low x l = cond-true (ltb x v) x (v + exchange u 0 (x - v)) (lt-ltb x v l)

  -- a high number
  shift_high : (x : ℕ) → shift (v + x) ≡ v + exchange u 0 x
  shift_high x =
      let off : v + x - v ≡ x = omega arith in
      cond-false (ltb (v + x) v) (v + x) (v + exchange u 0 (v + x - v)) (le-ltb (v + x) v (omega arith)) ∙ ap (λ (y : ℕ). v + exchange u 0 y) off

  -- the exchange stays below the bound
  shift_below : (x : ℕ) → x < v + v → shift x < v + v
  shift_below = low_high (λ x. shift x < v + v)
      (λ x l. omega (arith, shift_low x l))
      (λ x l. omega (arith, shift_high x, exchange-below v u 0 x lt (omega arith) l))

  -- and undoes itself
  shift_shift : (x : ℕ) → x < v + v → shift (shift x) ≡ x
  shift_shift = low_high (λ x. shift (shift x) ≡ x)
      (λ x l. ap shift (shift_low x l) ∙ shift_low x l)
      (λ x l. ap shift (shift_high x) ∙ shift_high (exchange u 0 x) ∙ ap (λ (y : ℕ). v + y) (exchange-exchange u 0 x))

  -- the new number of a vertex of the result
  abbrev h : ℕ → ℕ
  h x = swap (shift x)

  -- they are new numbers
  vertex_numbers : Renumbers (v + v) h (λ x. shift (swap x))
  vertex_numbers = record {
    there = λ x l. swap_below (shift x) (shift_below x l);
    back = λ x l. shift_below (swap x) (swap_below x l);
    there_back = λ x l. ap shift (swap_swap (shift x) (shift_below x l)) ∙ shift_shift x l;
    back_there = λ x l. ap swap (shift_shift (swap x) (swap_below x l)) ∙ swap_swap x l;
  }

  -- the vertex of a dart that is left keeps its number
  h_left : (d : ℕ) → d < 2 * edges r → takes (d / 2) ≡ false → h (at_split r is u lt takes d) ≡ vertex_of r d
  h_left d l f =
      let low = (split_before r is u lt takes).placed d l in
      ap h (split_left r is u lt takes d f) ∙ ap swap (shift_low (vertex_of r d) low) ∙ swap_stays (vertex_of r d) low (of_taken_no r is u lt takes meet d l f)

  -- that of a dart that is taken gets its second number
  h_taken : (d : ℕ) → d < 2 * edges r → takes (d / 2) ≡ true → h (at_split r is u lt takes d) ≡ v + vertex_of r d
  h_taken d l t = ⊎_elim
      (λ e.
      let none : v + 0 ≡ v = omega arith in
      ap h (split_moved r is u lt takes d e t) ∙ ap swap (ap shift (sym none) ∙ shift_high 0 ∙ ap (λ (y : ℕ). v + y) (exchange_right u 0 0 refl)) ∙ swap_high_stays u goes_u ∙ ap (λ (y : ℕ). v + y) (sym e))
      (λ ne.
      let low = (split_before r is u lt takes).placed d l in
      ap h (split_other r is u lt takes d ne) ∙ ap swap (shift_low (vertex_of r d) low) ∙ swap_goes (vertex_of r d) low (of_taken_yes r is u lt takes d l t ne))
      (cases_eq (vertex_of r d) u)

  -- the vertices of the darts of the result
  abbrev at : ℕ → ℕ
  at = at_split r is u lt takes

  -- the darts behind them
  abbrev behind : ℕ → ℕ
  behind = turn (at_split r is u lt takes) (lists_split r is u lt takes)

  -- the same with new numbers
  abbrev at_new : ℕ → ℕ
  at_new d = h (at (on_edges q d))

  -- the same with new numbers
  abbrev behind_new : ℕ → ℕ
  behind_new d = on_edges p (behind (on_edges q d))

  -- the result is a rotation
  split_turns : Turns (v + 1) (edges r) at behind
  split_turns = Listed-Rotates (v + 1) (2 * edges r) at (lists_split r is u lt takes) (Listed-split r is u lt takes)

  -- also with more vertices
  more_turns : Turns (v + v) (edges r) at behind
  more_turns = Rotates-more (v + 1) (v + v) (2 * edges r) at behind (omega arith) split_turns

  -- the darts have new numbers
  dart_numbers : Renumbers (2 * edges r) (on_edges p) (on_edges q)
  dart_numbers = Renumbers-on_edges (edges r) p q edge_numbers

  -- all that is there has new numbers
  numbers : Renames (v + v) (edges r) h (λ x. shift (swap x)) (on_edges p) (on_edges q) at behind at_new behind_new
  numbers = record {
    vertices = vertex_numbers;
    darts = dart_numbers;
    pairs = λ d l. partner-on_edges (edges r) p edge_numbers.there d l;
    stand = λ d l. ap (λ (y : ℕ). h (at y)) (dart_numbers.there_back d l);
    follow = λ d l. ap (λ (y : ℕ). on_edges p (behind y)) (dart_numbers.there_back d l);
  }

  -- the old number of a low dart
  old_low : (d : ℕ) → d < 2 * ea → on_edges q d ≡ on_edges oa d
  old_low d l = on_edges_same q oa d (q_low (d / 2) (omega arith))

  -- the old number of a high dart
  old_high : (d : ℕ) → d < 2 * eb → on_edges q (2 * ea + d) ≡ on_edges ob d
  old_high d l =
      let half : (2 * ea + d) / 2 ≡ ea + d / 2 = omega arith in
      let bit : (2 * ea + d) % 2 ≡ d % 2 = omega arith in
      ap₂ (λ (x y : ℕ). 2 * q x + y) half bit ∙ ap (λ (x : ℕ). 2 * x + d % 2) (q_high (d / 2))

  -- a low dart stands where it does in a
  stand_low : (d : ℕ) → d < 2 * ea → vertex_of a d ≡ at_new d
  stand_low d l =
      let k = old_kept r a is is_a (λ e. not (takes e)) na oa res_a d l in
      restricted_stand r a is is_a (λ e. not (takes e)) na oa res_a d l
      ∙ sym (h_left (on_edges oa d) k.0 (not-true (takes (on_edges oa d / 2)) k.1))
      ∙ ap (λ (y : ℕ). h (at y)) (sym (old_low d l))

  -- behind it comes what comes in a
  follow_low : (d : ℕ) → d < 2 * ea → next a d ≡ behind_new d
  follow_low d l =
      let k = old_kept r a is is_a (λ e. not (takes e)) na oa res_a d l in
      let x : ℕ = on_edges oa d in
      let f : takes (x / 2) ≡ false = not-true (takes (x / 2)) k.1 in
      let y : ℕ = follow (kept_list r a is is_a (λ e. not (takes e)) na oa res_a x) x in
      let i = kept_item r a is is_a (λ e. not (takes e)) na oa res_a x y k.0 (kept_follow r a is is_a (λ e. not (takes e)) na oa res_a x k.0 k.1) in
      ap (next a) (sym k.2) ∙ restricted_next r a is is_a (λ e. not (takes e)) na oa res_a x k.0 k.1
      ∙ on_edges_same na p y (sym (p_left (y / 2) (not-true (takes (y / 2)) i.2)))
      ∙ ap (on_edges p) (sym (split_turn_left r is u lt takes meet x k.0 f))
      ∙ ap (λ (z : ℕ). on_edges p (behind z)) (sym (old_low d l))

  -- a high dart stands where it does in b
  stand_high : (d : ℕ) → d < 2 * eb → at_new (2 * ea + d) ≡ v + vertex_of b d
  stand_high d l =
      let k = old_kept r b is is_b takes nb ob res_b d l in
      ap (λ (y : ℕ). h (at y)) (old_high d l) ∙ h_taken (on_edges ob d) k.0 k.1 ∙ ap (λ (y : ℕ). v + y) (sym (restricted_stand r b is is_b takes nb ob res_b d l))

  -- behind it comes what comes in b
  follow_high : (d : ℕ) → d < 2 * eb → behind_new (2 * ea + d) ≡ 2 * ea + next b d
  follow_high d l =
      let k = old_kept r b is is_b takes nb ob res_b d l in
      let x : ℕ = on_edges ob d in
      let y : ℕ = follow (kept_list r b is is_b takes nb ob res_b x) x in
      let i = kept_item r b is is_b takes nb ob res_b x y k.0 (kept_follow r b is is_b takes nb ob res_b x k.0 k.1) in
      let high : on_edges p y ≡ 2 * ea + on_edges nb y = omega (arith, p_taken (y / 2) i.2) in
      ap (λ (z : ℕ). on_edges p (behind z)) (old_high d l)
      ∙ ap (on_edges p) (split_turn_taken r is u lt takes meet x k.0 k.1)
      ∙ high
      ∙ ap (λ (z : ℕ). 2 * ea + z) (sym (ap (next b) (sym k.2) ∙ restricted_next r b is is_b takes nb ob res_b x k.0 k.1))

  -- the functions of a
  turns_a : Turns v ea (vertex_of a) (next a)
  turns_a = subst (λ n. Turns n ea (vertex_of a) (next a)) res_a.vertices (Turns-system a is_a)

  -- the functions of b
  turns_b : Turns v eb (vertex_of b) (next b)
  turns_b = subst (λ n. Turns n eb (vertex_of b) (next b)) res_b.vertices (Turns-system b is_b)

  -- the low darts are those of a
  first : Turns v ea at_new behind_new
  first = Rotates-agree v (2 * ea) (vertex_of a) (next a) at_new behind_new stand_low follow_low turns_a

  -- the darts of the result stand below the new vertex and at it
  placed : (d : ℕ) → d < 2 * edges r → at d < v + 1
  placed = split_turns.placed

  -- the faces add up, beside the bare vertices
  split_faces : faces (v + 1) (edges r) at behind + (v - 1) ≡ faces v ea (vertex_of a)
      (next a) + faces v eb (vertex_of b) (next b)
  split_faces =
      let whole : v + 1 + (v - 1) ≡ v + v = omega arith in
      sym (faces-more_vertices (v + 1) (v - 1) (edges r) at behind placed)
      ∙ ap (λ n. faces n (edges r) at behind) whole
      ∙ sym (faces-renamed (v + v) (edges r) h (λ x. shift (swap x)) (on_edges p) (on_edges q) at behind at_new behind_new more_turns numbers)
      ∙ ap (λ n. faces (v + v) n at_new behind_new) edges_add
      ∙ faces-beside v ea v eb at_new behind_new (vertex_of b) (next b) first turns_b stand_high follow_high
      ∙ ap (λ (n : ℕ). n + faces v eb (vertex_of b) (next b)) (sym (faces_upto-agree v (2 * ea) ea (vertex_of a) (next a) at_new behind_new stand_low follow_low (omega arith)))

  -- the components add up, beside the bare vertices
  split_components : components (v + 1)
      (edges r) at + (v - 1) ≡ components v ea (vertex_of a) + components v eb (vertex_of b)
  split_components =
      let whole : v + 1 + (v - 1) ≡ v + v = omega arith in
      sym (components-more_vertices (v + 1) (v - 1) (edges r) at placed)
      ∙ ap (λ n. components n (edges r) at) whole
      ∙ sym (components-renamed (v + v) (edges r) h (λ x. shift (swap x)) (on_edges p) (on_edges q) at behind at_new behind_new more_turns numbers)
      ∙ ap (λ n. components (v + v) n at_new) edges_add
      ∙ components-beside v ea v eb at_new behind_new (vertex_of b) (next b) first turns_b stand_high follow_high
      ∙ ap (λ (n : ℕ). n + components v eb (vertex_of b)) (sym (components-agree v ea (vertex_of a) at_new stand_low))

  -- genus zero of the result, by its functions
  split_zero : HasGenusZero (split_off r u takes) ↔ (v + 1 + faces (v + 1) (edges r) at behind
      ≡ edges r + 2 * components (v + 1) (edges r) at)
  split_zero = system_zero (v + 1) (edges r) at (lists_split r is u lt takes) behind (Listed-split r is u lt takes) (λ d l. refl)

  -- genus zero of a, by its functions
  zero_a : HasGenusZero a ↔ (v + faces v ea (vertex_of a) (next a) ≡ ea + 2 * components v ea (vertex_of a))
  zero_a = subst (λ n. HasGenusZero a ↔ (n + faces n ea (vertex_of a) (next a) ≡ ea + 2 * components n ea (vertex_of a))) res_a.vertices (zero_counts a is_a, HasGenusZero-from a is_a)

  -- genus zero of b, by its functions
  zero_b : HasGenusZero b ↔ (v + faces v eb (vertex_of b) (next b) ≡ eb + 2 * components v eb (vertex_of b))
  zero_b = subst (λ n. HasGenusZero b ↔ (n + faces n eb (vertex_of b) (next b) ≡ eb + 2 * components n eb (vertex_of b))) res_b.vertices (zero_counts b is_b, HasGenusZero-from b is_b)

  -- the vertex split has genus zero where both restrictions have
  pub split_by_parts : HasGenusZero (split_off r u takes) ↔ (HasGenusZero a × HasGenusZero b)
  split_by_parts = (
    λ z.
        let s = split_zero.0 z in
        (zero_a.1 (omega (arith, s, split_faces, split_components, edges_add, euler_bound v ea (vertex_of a) (next a) turns_a, euler_bound v eb (vertex_of b) (next b) turns_b)), zero_b.1 (omega (arith, s, split_faces, split_components, edges_add, euler_bound v ea (vertex_of a) (next a) turns_a, euler_bound v eb (vertex_of b) (next b) turns_b))),
    λ both.
        let za = zero_a.0 both.0 in
        let zb = zero_b.0 both.1 in
        split_zero.1 (omega (arith, za, zb, split_faces, split_components, edges_add)),
  )
