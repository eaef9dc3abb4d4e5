-- Two vertices merged at two darts, and an edge contracted, for rotations as functions on numbers.
use Rattle.std.proofs.Common.{◌≡◌, ℕ, zero, suc, ◌+◌, ◌-◌, ◌*◌, ◌/◌, ◌%◌, ◌<◌, ◌≤◌, ◌⊎◌, ◌≢◌, true, cond, not, List, ◌∷◌, eqb, sym, refl, ap, ap₂, ◌∙◌, inl, inr, ⊎_elim, arith, lt-suc_self}
use Rattle.std.proofs.lemmas.Bool.{cases_eq, cond-true, cond-false, eq-eqb, ne_eqb, not_from_true}
use Rattle.cp_orbits.specs.Classes.{merge, labels, classes, graph, orbits, joined, rename}
use Rattle.cp_orbits.specs.Orbits.{Permutes, exchange}
use Rattle.cp_faces.specs.Faces.{Rotates, Turns, ends_upto, face_upto, stands, bare, faces, components, contracted, partner}
use Rattle.cp_lists.proofs.Counting.{count_agree, count_no, same_tests}
use Rattle.cp_orbits.proofs.ClassLabels.{labels-ends, classes_joined, classes_same}
use Rattle.cp_orbits.proofs.OrbitLaws.{reached_labels, label_step, exchange_left, exchange_right, exchange_other, exchange_case, exchange-below, exchange-exchange, Permutes-exchange, orbits_agree, Permutes-same}
use Rattle.cp_orbits.proofs.Exchanges.{joined-labels, orbits_joined, orbits_split, joined_at, joined_other, joined-below, classes-merged}
use Rattle.cp_faces.proofs.Faces.{face_upto-Permutes, face_upto-past, face-component, orbit-vertex, vertex-orbit, stands_at, stands_some, Turns-drop_edge, faces-drop_edge}

-- numbers that are one after v is named u were one, or were u and v
joined_cases : (u v x y : ℕ) → joined u v x ≡ joined u v y → (x ≡ y) ⊎ (((x ≡ u) × (y ≡ v)) ⊎ ((x ≡ v) × (y ≡ u)))
joined_cases u v x y e =
    ⊎_elim
    (λ h. ⊎_elim (λ k. inl (h ∙ sym k)) (λ nk. inr (inr (h, sym (joined_other u v y nk) ∙ sym e ∙ joined_at u v x h))) (cases_eq y v))
    (λ nh. ⊎_elim (λ k. inr (inl (sym (joined_other u v x nh) ∙ e ∙ joined_at u v y k, k))) (λ nk. inl (sym (joined_other u v x nh) ∙ e ∙ joined_other u v y nk)) (cases_eq y v))
    (cases_eq x v)

-- the last vertex merged with a lower one: what is behind dart a of the one and dart b of the other is exchanged
pub Rotates-joined : (v n a b u : ℕ) (at next : ℕ → ℕ) → Rotates (suc v) n at next → a < n → b < n → at a ≡ u → at b ≡ v
    → u < v → Rotates v n (λ d. joined u v (at d)) (λ d. next (exchange a b d))
Rotates-joined v n a b u at next rot lta ltb ea eb lt = record {
  permutes = perm;
  placed = λ d l. joined-below u v (at d) lt (rot.placed d l);
  kept = λ d l. ap (joined u v) (rot.kept (exchange a b d) (exchange-below n a b d lta ltb l)) ∙ exchange_case (λ y. joined u v (at y) ≡ joined u v (at d)) a b d
      (λ h. sym one ∙ ap (λ (y : ℕ). joined u v (at y)) (sym h))
      (λ na h. one ∙ ap (λ (y : ℕ). joined u v (at y)) (sym h))
      (λ na nb. refl);
  around = λ c d ltc ltd e. reached_labels n (λ x. next (exchange a b x)) perm c d ltc ltd (new c ∙ ⊎_elim
      (λ h. ap (merge (label a) (label b)) (vertex-orbit (suc v) n at next rot c d ltc ltd h))
      (λ w. ⊎_elim
      (λ h. ap top (same c a ltc lta (h.0 ∙ sym ea)) ∙ labels-ends (a, b) (graph next n) ∙ sym (ap top (same d b ltd ltb (h.1 ∙ sym eb))))
      (λ h. ap top (same c b ltc ltb (h.0 ∙ sym eb)) ∙ sym (labels-ends (a, b) (graph next n)) ∙ sym (ap top (same d a ltd lta (h.1 ∙ sym ea))))
      w)
      (joined_cases u v (at c) (at d) e) ∙ sym (new d));
}
  where
    perm : Permutes n (λ x. next (exchange a b x))
    perm = Permutes-exchange n next a b rot.permutes lta ltb

    label : ℕ → ℕ
    label = labels (graph next n)

    top : ℕ → ℕ
    top = merge (label a) (label b)

    one : joined u v (at a) ≡ joined u v (at b)
    one = ap (joined u v) ea ∙ joined_other u v u (λ h. omega arith) ∙ sym (ap (joined u v) eb ∙ joined_at u v v refl)

    apart : label a ≢ label b
    apart h = let w : u ≡ v = sym ea ∙ orbit-vertex (suc v) n at next rot a b h ∙ eb in omega arith

    new : (x : ℕ) → labels (graph (λ y. next (exchange a b y)) n) x ≡ labels ((a, b) ∷ graph next n) x
    new = joined-labels n next a b rot.permutes lta ltb apart

    same : (c d : ℕ) → c < n → d < n → at c ≡ at d → label c ≡ label d
    same c d ltc ltd h = vertex-orbit (suc v) n at next rot c d ltc ltd h

-- two vertices with darts merged leave as many bare vertices
pub bare-joined : (v n a b u : ℕ) (at : ℕ → ℕ) → a < n → b < n → at a ≡ u → at b ≡ v → u < v
    → bare v n (λ d. joined u v (at d)) ≡ bare (suc v) n at
bare-joined v n a b u at lta ltb ea eb lt =
    count_agree v (λ x. not (stands (λ d. joined u v (at d)) n x)) (λ x. not (stands at n x)) (λ x l. ap not (same_tests (stands (λ d. joined u v (at d)) n x) (stands at n x) (down x l) (up x l)))
    ∙ sym (count_no v (λ x. not (stands at n x)) (not_from_true (stands at n v) (stands_at at n b v ltb eb)))
  where
    down : (x : ℕ) → x < v → stands (λ d. joined u v (at d)) n x ≡ true → stands at n x ≡ true
    down x l t =
        let w : (d : ℕ) × (d < n) × (joined u v (at d) ≡ x) = stands_some (λ d. joined u v (at d)) n x t in
        ⊎_elim
        (λ h. stands_at at n a x lta (ea ∙ sym (joined_at u v (at w.0) h) ∙ w.2))
        (λ nh. stands_at at n w.0 x w.1 (sym (joined_other u v (at w.0) nh) ∙ w.2))
        (cases_eq (at w.0) v)

    up : (x : ℕ) → x < v → stands at n x ≡ true → stands (λ d. joined u v (at d)) n x ≡ true
    up x l t =
        let w : (d : ℕ) × (d < n) × (at d ≡ x) = stands_some at n x t in
        stands_at (λ d. joined u v (at d)) n w.0 x w.1 (joined_other u v (at w.0) (λ h. let e : x ≡ v = sym w.2 ∙ h in omega arith) ∙ w.2)

-- the ends of the edges, with v named u
pub ends_upto-joined : (u v i : ℕ) (at : ℕ → ℕ) → ends_upto (λ d. joined u v (at d)) i ≡ rename (joined u v)
    (ends_upto at i)
ends_upto-joined u v zero at = refl
ends_upto-joined u v (suc i) at = ap (λ (es : List (ℕ × ℕ)). (joined u v (at (2 * i)), joined u v (at (2 * i + 1))) ∷ es) (ends_upto-joined u v i at)

-- with v merged into u there are as many components as with a pair of the two
pub components-joined : (u v i : ℕ) (at : ℕ → ℕ) → u < v
    → components v i (λ d. joined u v (at d)) ≡ classes (suc v) ((u, v) ∷ ends_upto at i)
components-joined u v i at lt = ap (classes v) (ends_upto-joined u v i at) ∙ classes-merged u v (ends_upto at i) lt

-- exchanges of two pairs without a common number can be made in either order
pub exchange-exchange_comm : (a b c d x : ℕ) → a ≢ c → a ≢ d → b ≢ c → b ≢ d
    → exchange a b (exchange c d x) ≡ exchange c d (exchange a b x)
exchange-exchange_comm a b c d x ac ad bc bd = exchange_case (λ y. exchange a b y ≡ exchange c d (exchange a b x)) c d x
    (λ e. exchange_other a b d (λ h. ad (sym h)) (λ h. bd (sym h)) ∙ sym (exchange_left c d (exchange a b x) (exchange_other a b x (λ h. ac (sym h ∙ e)) (λ h. bc (sym h ∙ e)) ∙ e)))
    (λ nc e. exchange_other a b c (λ h. ac (sym h)) (λ h. bc (sym h)) ∙ sym (exchange_right c d (exchange a b x) (exchange_other a b x (λ h. ad (sym h ∙ e)) (λ h. bd (sym h ∙ e)) ∙ e)))
    (λ nc nd. exchange_case (λ y. y ≡ exchange c d y) a b x (λ e. sym (exchange_other c d b bc bd)) (λ na e. sym (exchange_other c d a ac ad)) (λ na nb. sym (exchange_other c d x nc nd)))

-- with the exchange behind the first i edges
face_upto-exchange : (i a b : ℕ) (next : ℕ → ℕ) (d : ℕ) → 2 * i ≤ a → 2 * i ≤ b
    → face_upto (λ x. next (exchange a b x)) i d ≡ face_upto next i (exchange a b d)
face_upto-exchange zero a b next d lea leb = refl
face_upto-exchange (suc i) a b next d lea leb =
    face_upto-exchange i a b next (exchange (2 * i) (2 * i + 1) d) (omega arith) (omega arith)
    ∙ ap (face_upto next i) (exchange-exchange_comm a b (2 * i) (2 * i + 1) d (λ e. omega arith) (λ e. omega arith) (λ e. omega arith) (λ e. omega arith))

-- it is a rotation
pub Turns-contracted : (v e u : ℕ) (at next : ℕ → ℕ) → Turns (suc v) (suc e) at next → at (2 * e) ≡ u
    → at (2 * e + 1) ≡ v → u < v → Turns v e (λ d. joined u v (at d)) (contracted e next)
Turns-contracted v e u at next rot eu ev lt = Turns-drop_edge v e (λ d. joined u v (at d)) (λ d. next (exchange (2 * e) (2 * e + 1) d)) (Rotates-joined v (2 * suc e) (2 * e) (2 * e + 1) u at next rot (omega arith) (omega arith) eu ev lt)

-- it has as many faces
pub faces-contracted : (v e u : ℕ) (at next : ℕ → ℕ) → Turns (suc v) (suc e) at next → at (2 * e) ≡ u
    → at (2 * e + 1) ≡ v → u < v → faces v e (λ d. joined u v (at d)) (contracted e next) ≡ faces (suc v)
    (suc e) at next
faces-contracted v e u at next rot eu ev lt =
    sym (faces-drop_edge v e (λ d. joined u v (at d)) (λ d. next (exchange (2 * e) (2 * e + 1) d)) (Rotates-joined v (2 * suc e) (2 * e) (2 * e + 1) u at next rot (omega arith) (omega arith) eu ev lt))
    ∙ ap₂ (λ (f g : ℕ). f + g)
    (orbits_agree (face_upto (λ d. next (exchange (2 * e) (2 * e + 1) d)) e) (face_upto next (suc e)) (2 * suc e) (λ d l. face_upto-exchange e (2 * e) (2 * e + 1) next d (omega arith) (omega arith)))
    (bare-joined v (2 * suc e) (2 * e) (2 * e + 1) u at (omega arith) (omega arith) eu ev lt)

-- it has as many components
pub components-contracted : (v e u : ℕ) (at : ℕ → ℕ) → at (2 * e) ≡ u → at (2 * e + 1) ≡ v → u < v
    → components v e (λ d. joined u v (at d)) ≡ components (suc v) (suc e) at
components-contracted v e u at eu ev lt = components-joined u v e at lt ∙ ap₂ (λ (x y : ℕ). classes (suc v) ((x, y) ∷ ends_upto at e)) (sym eu) (sym ev)

-- the step round the faces is the dart behind the partner
pub face_upto-partner : (i : ℕ) (next : ℕ → ℕ) (d : ℕ) → face_upto next i d ≡ next (partner i d)
face_upto-partner zero next d = refl
face_upto-partner (suc i) next d = face_upto-partner i next (exchange (2 * i) (2 * i + 1) d)

-- the partner's partner is the dart
pub partner-partner : (i d : ℕ) → partner i (partner i d) ≡ d
partner-partner zero d = refl
partner-partner (suc i) d =
    sym (face_upto-exchange i (2 * i) (2 * i + 1) (λ x. x) (partner i (exchange (2 * i) (2 * i + 1) d)) (omega arith) (omega arith))
    ∙ face_upto-partner i (exchange (2 * i) (2 * i + 1)) (partner i (exchange (2 * i) (2 * i + 1) d))
    ∙ ap (exchange (2 * i) (2 * i + 1)) (partner-partner i (exchange (2 * i) (2 * i + 1) d))
    ∙ exchange-exchange (2 * i) (2 * i + 1) d

-- an exchange behind a function that undoes itself is one before it
pub exchange_conjugate : (t : ℕ → ℕ) (a b d : ℕ) → ((x : ℕ) → t (t x) ≡ x)
    → exchange a b (t d) ≡ t (exchange (t a) (t b) d)
exchange_conjugate t a b d twice = exchange_case (λ y. exchange a b (t d) ≡ t y) (t a) (t b) d
    (λ e. exchange_left a b (t d) (ap t e ∙ twice a) ∙ sym (twice b))
    (λ na e. exchange_right a b (t d) (ap t e ∙ twice b) ∙ sym (twice a))
    (λ na nb. exchange_other a b (t d) (λ e. na (sym (twice d) ∙ ap t e)) (λ e. nb (sym (twice d) ∙ ap t e)))

-- merging at a and b exchanges in the step round the faces what is behind their partners
pub face_upto-merged : (i a b : ℕ) (next : ℕ → ℕ) (d : ℕ)
    → face_upto (λ x. next (exchange a b x)) i d ≡ face_upto next i (exchange (partner i a) (partner i b) d)
face_upto-merged i a b next d =
    face_upto-partner i (λ x. next (exchange a b x)) d
    ∙ ap next (exchange_conjugate (partner i) a b d (partner-partner i))
    ∙ sym (face_upto-partner i next (exchange (partner i a) (partner i b) d))

-- the first dart of an edge has the second as partner
pub partner_even : (i k : ℕ) → k < i → partner i (2 * k) ≡ 2 * k + 1
partner_even zero k lt = absurd (omega arith)
partner_even (suc i) k lt =
    ⊎_elim
    (λ e. ap (face_upto (λ x. x) i) (exchange_left (2 * i) (2 * i + 1) (2 * k) (ap (λ (y : ℕ). 2 * y) e)) ∙ face_upto-past i (λ x. x) (2 * i + 1) (omega arith) ∙ ap (λ (y : ℕ). 2 * y + 1) (sym e))
    (λ ne. ap (face_upto (λ x. x) i) (exchange_other (2 * i) (2 * i + 1) (2 * k) (λ h. omega arith) (λ h. omega arith)) ∙ partner_even i k (omega arith))
    (cases_eq k i)

-- the second dart of an edge has the first as partner
pub partner_odd : (i k : ℕ) → k < i → partner i (2 * k + 1) ≡ 2 * k
partner_odd i k lt = ap (partner i) (sym (partner_even i k lt)) ∙ partner-partner i (2 * k)

-- the partner of a dart of the first i edges differs from it in the last bit
pub partner-twin : (i d : ℕ) → d < 2 * i → partner i d ≡ cond (eqb (d % 2) 0) (d + 1) (d - 1)
partner-twin i d lt =
    ⊎_elim
    (λ e.
    let whole : d ≡ 2 * (d / 2) = omega arith in
    ap (partner i) whole ∙ partner_even i (d / 2) (omega arith) ∙ ap (λ (y : ℕ). y + 1) (sym whole) ∙ sym (cond-true (eqb (d % 2) 0) (d + 1) (d - 1) (eq-eqb (d % 2) 0 e)))
    (λ ne.
    let whole : d ≡ 2 * (d / 2) + 1 = omega arith in
    let less : 2 * (d / 2) ≡ d - 1 = omega arith in
    ap (partner i) whole ∙ partner_odd i (d / 2) (omega arith) ∙ less ∙ sym (cond-false (eqb (d % 2) 0) (d + 1) (d - 1) (ne_eqb (d % 2) 0 ne)))
    (cases_eq (d % 2) 0)

-- the step round the faces leads to the dart behind the other dart of the edge
pub face_upto-twin : (i : ℕ) (next : ℕ → ℕ) (d : ℕ) → d < 2 * i
    → face_upto next i d ≡ next (cond (eqb (d % 2) 0) (d + 1) (d - 1))
face_upto-twin i next d lt = face_upto-partner i next d ∙ ap next (partner-twin i d lt)

-- a contracted edge keeps genus zero
pub contracted-zero : (v e u : ℕ) (at next : ℕ → ℕ) → Turns (suc v) (suc e) at next → at (2 * e) ≡ u
    → at (2 * e + 1) ≡ v → u < v → suc v + faces (suc v) (suc e) at next ≡ suc e + 2 * components (suc v) (suc e) at
    → v + faces v e (λ d. joined u v (at d)) (contracted e next) ≡ e + 2 * components v e (λ d. joined u v (at d))
contracted-zero v e u at next rot eu ev lt zero_genus =
    contracted_sum v e (faces (suc v) (suc e) at next) (faces v e (λ d. joined u v (at d)) (contracted e next)) (components (suc v) (suc e) at) (components v e (λ d. joined u v (at d))) zero_genus (faces-contracted v e u at next rot eu ev lt) (components-contracted v e u at eu ev lt)
  where
    contracted_sum : (v e f h c b : ℕ) → suc v + f ≡ suc e + 2 * c → h ≡ f → b ≡ c → v + h ≡ e + 2 * b
    contracted_sum v e f h c b sum one two = omega arith

-- genus zero after a contraction is genus zero before
pub contracted-zero_back : (v e u : ℕ) (at next : ℕ → ℕ) → Turns (suc v) (suc e) at next → at (2 * e) ≡ u
    → at (2 * e + 1) ≡ v → u < v → v + faces v e (λ d. joined u v (at d)) (contracted e next)
    ≡ e + 2 * components v e (λ d. joined u v (at d)) → suc v + faces (suc v) (suc e) at next
    ≡ suc e + 2 * components (suc v) (suc e) at
contracted-zero_back v e u at next rot eu ev lt zero_genus =
    expanded_sum v e (faces (suc v) (suc e) at next) (faces v e (λ d. joined u v (at d)) (contracted e next)) (components (suc v) (suc e) at) (components v e (λ d. joined u v (at d))) zero_genus (faces-contracted v e u at next rot eu ev lt) (components-contracted v e u at eu ev lt)
  where
    expanded_sum : (v e f h c b : ℕ) → v + h ≡ e + 2 * b → h ≡ f → b ≡ c → suc v + f ≡ suc e + 2 * c
    expanded_sum v e f h c b sum one two = omega arith

-- the last vertex v of a rotation of e edges, merged with u, where dart a stands at u and dart b at v
module _ (v e a b u : ℕ) (at next : ℕ → ℕ) (rot : Turns (suc v) e at next) (lta : a < 2 * e) (ltb : b < 2 * e)
    (ea : at a ≡ u) (eb : at b ≡ v) (lt : u < v) where
  -- the step round the faces is a permutation
  round_perm : Permutes (2 * e) (face_upto next e)
  round_perm = face_upto-Permutes (2 * e) e next rot.permutes (omega arith)

  -- partners stay below the number of darts
  partner-below : (d : ℕ) → d < 2 * e → partner e d < 2 * e
  partner-below d l = (face_upto-Permutes (2 * e) e (λ x. x) (Permutes-same (2 * e)) (omega arith)).below d l

  -- the partners of a and b differ
  partners-differ : partner e a ≢ partner e b
  partners-differ h =
      let same : a ≡ b = sym (partner-partner e a) ∙ ap (partner e) h ∙ partner-partner e b in
      let one : u ≡ v = sym ea ∙ ap at same ∙ eb in
      omega arith

  -- a partner lies in the face of the dart behind
  partner_label : (d : ℕ) → d < 2 * e → labels (graph (face_upto next e) (2 * e)) (partner e d)
      ≡ labels (graph (face_upto next e) (2 * e)) (next d)
  partner_label d l = label_step (face_upto next e) (2 * e) (partner e d) (partner-below d l) ∙ ap (labels (graph (face_upto next e) (2 * e))) (face_upto-partner e next (partner e d) ∙ ap next (partner-partner e d))

  -- the step round the faces has its values at the partners exchanged
  merged_orbits : orbits (2 * e) (face_upto (λ x. next (exchange a b x)) e) ≡ orbits (2 * e)
      (λ d. face_upto next e (exchange (partner e a) (partner e b) d))
  merged_orbits = orbits_agree (face_upto (λ x. next (exchange a b x)) e) (λ d. face_upto next e (exchange (partner e a) (partner e b) d)) (2 * e) (λ d l. face_upto-merged e a b next d)

  -- the merged system is a rotation
  pub Turns-merged : Turns v e (λ d. joined u v (at d)) (λ d. next (exchange a b d))
  Turns-merged = Rotates-joined v (2 * e) a b u at next rot lta ltb ea eb lt

  -- merged within a face, the face is split
  pub faces-merged_within : labels (graph (face_upto next e) (2 * e))
      (next a) ≡ labels (graph (face_upto next e) (2 * e)) (next b)
      → faces v e (λ d. joined u v (at d)) (λ d. next (exchange a b d)) ≡ suc (faces (suc v) e at next)
  faces-merged_within one =
      let split = orbits_split (2 * e) (face_upto next e) (partner e a) (partner e b) round_perm (partner-below a lta) (partner-below b ltb) partners-differ (partner_label a lta ∙ one ∙ sym (partner_label b ltb)) in
      omega (arith, merged_orbits, bare-joined v (2 * e) a b u at lta ltb ea eb lt)

  -- merged between two faces, the faces are joined
  pub faces-merged_between : labels (graph (face_upto next e) (2 * e))
      (next a) ≢ labels (graph (face_upto next e) (2 * e)) (next b)
      → faces (suc v) e at next ≡ suc (faces v e (λ d. joined u v (at d)) (λ d. next (exchange a b d)))
  faces-merged_between two =
      let join = orbits_joined (2 * e) (face_upto next e) (partner e a) (partner e b) round_perm (partner-below a lta) (partner-below b ltb) (λ h. two (sym (partner_label a lta) ∙ h ∙ partner_label b ltb)) in
      omega (arith, merged_orbits, bare-joined v (2 * e) a b u at lta ltb ea eb lt)

  -- the darts behind a and b stand in one component where a and b do
  face_component : labels (graph (face_upto next e) (2 * e)) (next a) ≡ labels (graph (face_upto next e) (2 * e))
      (next b) → labels (ends_upto at e) u ≡ labels (ends_upto at e) v
  face_component one =
      ap (labels (ends_upto at e)) (sym (rot.kept a lta ∙ ea)) ∙ face-component (suc v) (2 * e) e at next rot (omega arith) (next a) (next b) one ∙ ap (labels (ends_upto at e)) (rot.kept b ltb ∙ eb)

  -- merged within a component, there are as many components
  pub components-merged_within : labels (ends_upto at e) u ≡ labels (ends_upto at e) v
      → components v e (λ d. joined u v (at d)) ≡ components (suc v) e at
  components-merged_within one = components-joined u v e at lt ∙ classes_same (suc v) (u, v) (ends_upto at e) one

  -- merged between two components, there is one less
  pub components-merged_between : labels (ends_upto at e) u ≢ labels (ends_upto at e) v
      → components (suc v) e at ≡ suc (components v e (λ d. joined u v (at d)))
  components-merged_between two = classes_joined (suc v) (u, v) (ends_upto at e) (omega arith) (lt-suc_self v) two ∙ ap suc (sym (components-joined u v e at lt))

  -- merged within a face, genus zero stays
  pub merged_within-zero : labels (graph (face_upto next e) (2 * e))
      (next a) ≡ labels (graph (face_upto next e) (2 * e)) (next b)
      → suc v + faces (suc v) e at next ≡ e + 2 * components (suc v) e at
      → v + faces v e (λ d. joined u v (at d)) (λ d. next (exchange a b d))
      ≡ e + 2 * components v e (λ d. joined u v (at d))
  merged_within-zero one zero_genus = omega (arith, faces-merged_within one, components-merged_within (face_component one))

  -- merged between two components, genus zero stays
  pub merged_between-zero : labels (ends_upto at e) u ≢ labels (ends_upto at e) v
      → suc v + faces (suc v) e at next ≡ e + 2 * components (suc v) e at
      → v + faces v e (λ d. joined u v (at d)) (λ d. next (exchange a b d))
      ≡ e + 2 * components v e (λ d. joined u v (at d))
  merged_between-zero two zero_genus = omega (arith, faces-merged_between (λ h. two (face_component h)), components-merged_between two)
