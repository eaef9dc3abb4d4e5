-- Faces, components and Euler's inequality for rotations as functions on numbers.
use Rattle.std.proofs.Common.{◌∷◌, ap₂, ◌≡◌, ℕ, zero, suc, ◌+◌, ◌*◌, ◌<◌, ◌≤◌, ◌⊎◌, ◌≢◌, Bool, true, false, cond, not, ◌||◌, List, [], eqb, sym, refl, ap, ◌∙◌, subst, inl, inr, ⊎_elim, arith, lt-suc_self}
use Rattle.std.specs.Fn.{iterate}
use Rattle.std.proofs.lemmas.Bool.{cases_Bool, cases_eq, eq-eqb, ne_eqb, eqb-true, or_left, or_right, or_cases, not_from_true, not_from_false, false≢true, false_from_ne_true, cond-true, cond-false}
use Rattle.cp_lists.specs.Count.{count, without}
use Rattle.cp_orbits.specs.Classes.{labels, classes, graph, orbits, Respects}
use Rattle.cp_orbits.specs.Orbits.{Permutes, Reaches, exchange, splice}
use Rattle.cp_faces.specs.Faces.{Rotates, Turns, ends_upto, face_upto, stands, bare, faces_upto, faces, components, drop_edge}
use Rattle.cp_lists.proofs.Counting.{count_agree, count_all, count_both, count_inject, same_tests, count_without, without_at, without_other}
use Rattle.cp_orbits.proofs.ClassLabels.{labels-le, labels-respects, labels-labels, same_labels, classes_joined, classes_same}
use Rattle.cp_orbits.proofs.OrbitLaws.{label_step, labels_reached, reached_labels, Respects-graph, exchange_other, exchange_case, exchange-below, Permutes-exchange, orbits_agree, graph_agree}
use Rattle.cp_orbits.proofs.Exchanges.{orbits_joined, orbits_split, splice_at, splice_other, Permutes-splice, orbits-splice, orbits-splice_alone, splice-labels}

-- the step round the faces is a permutation
pub face_upto-Permutes : (n i : ℕ) (next : ℕ → ℕ) → Permutes n next → 2 * i ≤ n → Permutes n (face_upto next i)
face_upto-Permutes n zero next perm le = perm
face_upto-Permutes n (suc i) next perm le = Permutes-exchange n (face_upto next i) (2 * i) (2 * i + 1) (face_upto-Permutes n i next perm (omega arith)) (omega arith) (omega arith)

-- a dart that is in none of the first i edges only goes on to the dart behind
pub face_upto-past : (i : ℕ) (next : ℕ → ℕ) (d : ℕ) → 2 * i ≤ d → face_upto next i d ≡ next d
face_upto-past zero next d le = refl
face_upto-past (suc i) next d le = ap (face_upto next i) (exchange_other (2 * i) (2 * i + 1) d (λ e. omega arith) (λ e. omega arith)) ∙ face_upto-past i next d (omega arith)

-- what has one value at the two ends of each edge has one value along a face
pub face_upto-keeps : {A : Type 0} (g : ℕ → A) (v n i : ℕ) (at next : ℕ → ℕ) → Rotates v n at next → 2 * i ≤ n
    → Respects g (ends_upto at i) → (d : ℕ) → d < n → g (at (face_upto next i d)) ≡ g (at d)
face_upto-keeps g v n zero at next rot le r d lt = ap g (rot.kept d lt)
face_upto-keeps g v n (suc i) at next rot le r d lt =
    face_upto-keeps g v n i at next rot (omega arith) r.1 (exchange (2 * i) (2 * i + 1) d) (exchange-below n (2 * i) (2 * i + 1) d (omega arith) (omega arith) lt)
    ∙ exchange_case (λ y. g (at y) ≡ g (at d)) (2 * i) (2 * i + 1) d (λ e. sym r.0 ∙ ap (λ (y : ℕ). g (at y)) (sym e)) (λ na e. r.0 ∙ ap (λ (y : ℕ). g (at y)) (sym e)) (λ na nb. refl)

-- two darts of one face stand in one component
pub face-component : (v n i : ℕ) (at next : ℕ → ℕ) → Rotates v n at next → 2 * i ≤ n → (c d : ℕ)
    → labels (graph (face_upto next i) n) c ≡ labels (graph (face_upto next i) n) d
    → labels (ends_upto at i) (at c) ≡ labels (ends_upto at i) (at d)
face-component v n i at next rot le c d e =
    same_labels (λ y. labels (ends_upto at i) (at y)) (graph (face_upto next i) n) c d
    (Respects-graph (λ y. labels (ends_upto at i) (at y)) (face_upto next i) n (λ y lt. sym (face_upto-keeps (labels (ends_upto at i)) v n i at next rot le (labels-respects (ends_upto at i)) y lt))) e

-- one edge more: it joins two components and two faces, or joins two faces or splits one within a component
pub euler_step : (v n i : ℕ) (at next : ℕ → ℕ) → Rotates v n at next → 2 * suc i ≤ n
    → ((components v i at ≡ suc (components v (suc i) at))
    × (faces_upto v n i at next ≡ suc (faces_upto v n (suc i) at next)))
    ⊎ ((components v (suc i) at ≡ components v i at)
    × ((faces_upto v n i at next ≡ suc (faces_upto v n (suc i) at next))
    ⊎ (faces_upto v n (suc i) at next ≡ suc (faces_upto v n i at next))))
euler_step v n i at next rot le =
    ⊎_elim
    (λ one. inr (
      classes_same v (at (2 * i), at (2 * i + 1)) (ends_upto at i) one,
      ⊎_elim (λ e. inr (let split = orbits_split n (face_upto next i) (2 * i) (2 * i + 1) perm low high differ e in omega arith)) (λ ne. inl (let joined = orbits_joined n (face_upto next i) (2 * i) (2 * i + 1) perm low high ne in omega arith)) (cases_eq (labels (graph (face_upto next i) n) (2 * i)) (labels (graph (face_upto next i) n) (2 * i + 1))),
    ))
    (λ two. inl (
      classes_joined v (at (2 * i), at (2 * i + 1)) (ends_upto at i) (rot.placed (2 * i) low) (rot.placed (2 * i + 1) high) two,
      let joined = orbits_joined n (face_upto next i) (2 * i) (2 * i + 1) perm low high (λ e. two (face-component v n i at next rot (omega arith) (2 * i) (2 * i + 1) e)) in omega arith,
    ))
    (cases_eq (labels (ends_upto at i) (at (2 * i))) (labels (ends_upto at i) (at (2 * i + 1))))
  where
    perm : Permutes n (face_upto next i)
    perm = face_upto-Permutes n i next rot.permutes (omega arith)

    low : 2 * i < n
    low = omega arith

    high : 2 * i + 1 < n
    high = omega arith

    differ : 2 * i ≢ 2 * i + 1
    differ e = omega arith

-- a dart stands at its vertex
pub stands_at : (at : ℕ → ℕ) (n d x : ℕ) → d < n → at d ≡ x → stands at n x ≡ true
stands_at at zero d x lt e = absurd (omega arith)
stands_at at (suc n) d x lt e = ⊎_elim (λ h. or_left (eqb (at n) x) (stands at n x) (eq-eqb (at n) x (ap at (sym h) ∙ e))) (λ nh. or_right (eqb (at n) x) (stands at n x) (stands_at at n d x (omega arith) e)) (cases_eq d n)

-- where darts stand, some dart stands
pub stands_some : (at : ℕ → ℕ) (n x : ℕ) → stands at n x ≡ true → (d : ℕ) × (d < n) × (at d ≡ x)
stands_some at zero x t = absurd (false≢true t)
stands_some at (suc n) x t =
    ⊎_elim
    (λ h. (n, lt-suc_self n, eqb-true (at n) x h))
    (λ h. let w : (d : ℕ) × (d < n) × (at d ≡ x) = stands_some at n x h in (w.0, omega (arith, w.1), w.2))
    (or_cases (eqb (at n) x) (stands at n x) t)

-- where no dart stands, none does
pub stands_none : (at : ℕ → ℕ) (n x : ℕ) → ((d : ℕ) → d < n → at d ≡ x → ⊥) → stands at n x ≡ false
stands_none at n x none = false_from_ne_true (stands at n x) (λ t. let w : (d : ℕ) × (d < n) × (at d ≡ x) = stands_some at n x t in none w.0 w.1 w.2)

-- a dart that stands at x, if there is one
dart_at : (ℕ → ℕ) → ℕ → ℕ → ℕ
dart_at at zero x = 0
dart_at at (suc n) x = cond (eqb (at n) x) n (dart_at at n x)

-- where darts stand, it is one of them
dart_at-stands : (at : ℕ → ℕ) (n x : ℕ) → stands at n x ≡ true → (dart_at at n x < n) × (at (dart_at at n x) ≡ x)
unfolding dart_at
dart_at-stands at zero x t = absurd (false≢true t)
dart_at-stands at (suc n) x t =
    ⊎_elim
    (λ h. let e : dart_at at (suc n) x ≡ n = cond-true (eqb (at n) x) n (dart_at at n x) h in (omega arith, ap at e ∙ eqb-true (at n) x h))
    (λ f.
    let e : dart_at at (suc n) x ≡ dart_at at n x = cond-false (eqb (at n) x) n (dart_at at n x) f in
    let w : (dart_at at n x < n) × (at (dart_at at n x) ≡ x) = dart_at-stands at n x (⊎_elim (λ h. absurd (false≢true (sym f ∙ h))) (λ h. h) (or_cases (eqb (at n) x) (stands at n x) t)) in
    (omega (arith, w.0), ap at e ∙ w.1))
    (cases_Bool (eqb (at n) x))

-- two darts of one orbit of next stand at one vertex
pub orbit-vertex : (v n : ℕ) (at next : ℕ → ℕ) → Rotates v n at next → (c d : ℕ)
    → labels (graph next n) c ≡ labels (graph next n) d → at c ≡ at d
orbit-vertex v n at next rot c d e = same_labels at (graph next n) c d (Respects-graph at next n (λ y lt. sym (rot.kept y lt))) e

-- two darts of one vertex are of one orbit of next
pub vertex-orbit : (v n : ℕ) (at next : ℕ → ℕ) → Rotates v n at next → (c d : ℕ) → c < n → d < n → at c ≡ at d
    → labels (graph next n) c ≡ labels (graph next n) d
vertex-orbit v n at next rot c d ltc ltd e = labels_reached n next rot.permutes c d ltc (rot.around c d ltc ltd e)

-- each vertex is one orbit of next, or bare
pub orbits-bare : (v n : ℕ) (at next : ℕ → ℕ) → Rotates v n at next → orbits n next + bare v n at ≡ v
orbits-bare v n at next rot = omega (arith, count_both v (stands at n), most, least)
  where
    leads : ℕ → Bool
    leads x = eqb (labels (graph next n) x) x

    most : count n leads ≤ count v (stands at n)
    most = count_inject n v leads (stands at n) at
        (λ x lt t. (rot.placed x lt, stands_at at n x (at x) lt refl))
        (λ x y ltx lty tx ty e. sym (eqb-true (labels (graph next n) x) x tx) ∙ vertex-orbit v n at next rot x y ltx lty e ∙ eqb-true (labels (graph next n) y) y ty)

    least : count v (stands at n) ≤ count n leads
    least = count_inject v n (stands at n) leads (λ x. labels (graph next n) (dart_at at n x))
        (λ x lt t. (omega (arith, labels-le (graph next n) (dart_at at n x), (dart_at-stands at n x t).0), eq-eqb (labels (graph next n) (labels (graph next n) (dart_at at n x))) (labels (graph next n) (dart_at at n x)) (labels-labels (graph next n) (dart_at at n x))))
        (λ x y ltx lty tx ty e. sym (dart_at-stands at n x tx).1 ∙ orbit-vertex v n at next rot (dart_at at n x) (dart_at at n y) e ∙ (dart_at-stands at n y ty).1)

-- with no pairs each number is a class
pub classes_none : (n : ℕ) → classes n [] ≡ n
classes_none n = count_all n (λ x. eqb x x) (λ x lt. eq-eqb x x refl)

-- two components and two faces joined: the genus stays
genus_joined : (v i g f h c b : ℕ) → v + f + 2 * g ≡ i + 2 * c → c ≡ suc b → f ≡ suc h → v + h + 2 * g ≡ suc i + 2 * b
genus_joined v i g f h c b e one two = omega arith

-- two faces joined within a component: the genus grows by one
genus_more : (v i g f h c b : ℕ) → v + f + 2 * g ≡ i + 2 * c → b ≡ c → f ≡ suc h → v + h + 2 * suc g ≡ suc i + 2 * b
genus_more v i g f h c b e one two = omega arith

-- a face split within a component: the genus stays
genus_same : (v i g f h c b : ℕ) → v + f + 2 * g ≡ i + 2 * c → b ≡ c → h ≡ suc f → v + h + 2 * g ≡ suc i + 2 * b
genus_same v i g f h c b e one two = omega arith

-- Euler's formula up to an even number: V - E + F + 2g = 2C for some g, which is the genus
pub euler_genus : (v n i : ℕ) (at next : ℕ → ℕ) → Rotates v n at next → 2 * i ≤ n
    → (g : ℕ) × (v + faces_upto v n i at next + 2 * g ≡ i + 2 * components v i at)
euler_genus v n zero at next rot le = (0, omega (arith, orbits-bare v n at next rot, classes_none v))
euler_genus v n (suc i) at next rot le =
    let rest : (g : ℕ) × (v + faces_upto v n i at next + 2 * g ≡ i + 2 * components v i at) = euler_genus v n i at next rot (omega arith) in
    ⊎_elim
    (λ s. (rest.0, genus_joined v i rest.0 (faces_upto v n i at next) (faces_upto v n (suc i) at next) (components v i at) (components v (suc i) at) rest.1 s.0 s.1))
    (λ s. ⊎_elim
    (λ h. (suc rest.0, genus_more v i rest.0 (faces_upto v n i at next) (faces_upto v n (suc i) at next) (components v i at) (components v (suc i) at) rest.1 s.0 h))
    (λ h. (rest.0, genus_same v i rest.0 (faces_upto v n i at next) (faces_upto v n (suc i) at next) (components v i at) (components v (suc i) at) rest.1 s.0 h))
    s.1)
    (euler_step v n i at next rot le)

-- Euler's inequality, V - E + F <= 2C as a sum
pub euler_upto : (v n i : ℕ) (at next : ℕ → ℕ) → Rotates v n at next → 2 * i ≤ n
    → v + faces_upto v n i at next ≤ i + 2 * components v i at
euler_upto v n i at next rot le = let g : (g : ℕ) × (v + faces_upto v n i at next + 2 * g ≡ i + 2 * components v i at) = euler_genus v n i at next rot le in omega (arith, g.1)

-- Euler's inequality for a rotation of e edges
pub euler_bound : (v e : ℕ) (at next : ℕ → ℕ) → Turns v e at next → v + faces v e at next ≤ e + 2 * components v e at
euler_bound v e at next rot = euler_upto v (2 * e) e at next rot (omega arith)

-- without its last dart a rotation is one
pub Rotates-splice : (v n : ℕ) (at next : ℕ → ℕ) → Rotates v (suc n) at next → Rotates v n at (splice next n)
Rotates-splice v n at next rot = record {
  permutes = Permutes-splice n next rot.permutes;
  placed = λ d lt. rot.placed d (omega arith);
  kept = λ d lt.
      ⊎_elim
      (λ e. ap at (splice_at next n d e) ∙ rot.kept n (lt-suc_self n) ∙ ap at (sym e) ∙ rot.kept d (omega arith))
      (λ ne. ap at (splice_other next n d ne) ∙ rot.kept d (omega arith))
      (cases_eq (next d) n);
  around = λ c d ltc ltd e.
      reached_labels n (splice next n) (Permutes-splice n next rot.permutes) c d ltc ltd
      (sym (splice-labels n next rot.permutes c ltc) ∙ vertex-orbit v (suc n) at next rot c d (omega arith) (omega arith) e ∙ splice-labels n next rot.permutes d ltd);
}

-- a last dart that is not alone leaves its vertex not bare
pub bare-same : (v n : ℕ) (at next : ℕ → ℕ) → Rotates v (suc n) at next → next n ≢ n → bare v (suc n) at ≡ bare v n at
bare-same v n at next rot ne = count_agree v (λ x. not (stands at (suc n) x)) (λ x. not (stands at n x)) (λ x lt. ap not (same_tests (stands at (suc n) x) (stands at n x)
    (λ t. ⊎_elim
    (λ h. stands_at at n (next n) x (omega (arith, rot.permutes.below n (lt-suc_self n), ne)) (rot.kept n (lt-suc_self n) ∙ eqb-true (at n) x h))
    (λ h. h)
    (or_cases (eqb (at n) x) (stands at n x) t))
    (λ t. or_right (eqb (at n) x) (stands at n x) t)))

-- a fixed number stays
iterate_fixed : (f : ℕ → ℕ) (k x : ℕ) → f x ≡ x → iterate f k x ≡ x
iterate_fixed f zero x e = refl
iterate_fixed f (suc k) x e = ap (iterate f k) e ∙ iterate_fixed f k x e

-- a last dart that is alone leaves its vertex bare
pub bare-more : (v n : ℕ) (at next : ℕ → ℕ) → Rotates v (suc n) at next → next n ≡ n
    → bare v n at ≡ suc (bare v (suc n) at)
bare-more v n at next rot e =
    count_without v vacant (at n) (rot.placed n (lt-suc_self n)) (not_from_false (stands at n (at n)) alone) ∙ ap suc (count_agree v (without vacant (at n)) (λ x. not (stands at (suc n) x)) (λ x lt.
    ⊎_elim
    (λ h. without_at vacant (at n) x h ∙ sym (not_from_true (stands at (suc n) x) (stands_at at (suc n) n x (lt-suc_self n) (sym h))))
    (λ nh. without_other vacant (at n) x nh ∙ sym (ap (λ (b : Bool). not (b || stands at n x)) (ne_eqb (at n) x (λ h. nh (sym h)))))
    (cases_eq x (at n))))
  where
    vacant : ℕ → Bool
    vacant x = not (stands at n x)

    alone : stands at n (at n) ≡ false
    alone = stands_none at n (at n) (λ d lt h.
        let r : Reaches next n d = rot.around n d (lt-suc_self n) (omega arith) (sym h) in
        let same : n ≡ d = sym (iterate_fixed next r.0 n e) ∙ r.1 in
        omega arith)

-- the step round the faces without the last dart
pub face_upto-splice : (n i : ℕ) (next : ℕ → ℕ) (d : ℕ) → 2 * i ≤ n
    → face_upto (splice next n) i d ≡ splice (face_upto next i) n d
face_upto-splice n zero next d le = refl
face_upto-splice n (suc i) next d le =
    face_upto-splice n i next (exchange (2 * i) (2 * i + 1) d) (omega arith)
    ∙ ap (λ (y : ℕ). cond (eqb (face_upto next i (exchange (2 * i) (2 * i + 1) d)) n) (face_upto next i y) (face_upto next i (exchange (2 * i) (2 * i + 1) d))) (sym (exchange_other (2 * i) (2 * i + 1) n (λ e. omega arith) (λ e. omega arith)))

-- without a last dart that is on no edge there are as many faces
pub faces-splice : (v n i : ℕ) (at next : ℕ → ℕ) → Rotates v (suc n) at next → 2 * i ≤ n
    → faces_upto v (suc n) i at next ≡ faces_upto v n i at (splice next n)
faces-splice v n i at next rot le =
    ⊎_elim
    (λ e. omega (arith, bare-more v n at next rot e, orbits-splice_alone n (face_upto next i) perm (past ∙ e), same))
    (λ ne. omega (arith, bare-same v n at next rot ne, orbits-splice n (face_upto next i) perm (λ e. ne (sym past ∙ e)), same))
    (cases_eq (next n) n)
  where
    perm : Permutes (suc n) (face_upto next i)
    perm = face_upto-Permutes (suc n) i next rot.permutes (omega arith)

    past : face_upto next i n ≡ next n
    past = face_upto-past i next n le

    same : orbits n (face_upto (splice next n) i) ≡ orbits n (splice (face_upto next i) n)
    same = orbits_agree (face_upto (splice next n) i) (splice (face_upto next i) n) n (λ d lt. face_upto-splice n i next d le)

-- without a last dart that is on no edge the others stay in their faces
pub splice-face_labels : (v n i : ℕ) (at next : ℕ → ℕ) → Rotates v (suc n) at next → 2 * i ≤ n → (d : ℕ) → d < n
    → labels (graph (face_upto next i) (suc n)) d ≡ labels (graph (face_upto (splice next n) i) n) d
splice-face_labels v n i at next rot le d lt =
    splice-labels n (face_upto next i) (face_upto-Permutes (suc n) i next rot.permutes (omega arith)) d lt
    ∙ ap (λ (es : List (ℕ × ℕ)). labels es d) (graph_agree (splice (face_upto next i) n) (face_upto (splice next n) i) n (λ y l. sym (face_upto-splice n i next y le)))

-- a rotation of one edge more, with its darts counted one by one
turns_next : (v e : ℕ) (at next : ℕ → ℕ) → Turns v (suc e) at next → Rotates v (suc (2 * e + 1)) at next
turns_next v e at next rot = let more : 2 * suc e ≡ suc (2 * e + 1) = omega arith in subst (λ (n : ℕ). Rotates v n at next) more rot

-- a number of darts written otherwise
odd_darts : (v e : ℕ) (at next : ℕ → ℕ) → Rotates v (2 * e + 1) at next → Rotates v (suc (2 * e)) at next
odd_darts v e at next rot = let more : 2 * e + 1 ≡ suc (2 * e) = omega arith in subst (λ (n : ℕ). Rotates v n at next) more rot

-- without its last edge a rotation is one
pub Turns-drop_edge : (v e : ℕ) (at next : ℕ → ℕ) → Turns v (suc e) at next → Turns v e at (drop_edge e next)
Turns-drop_edge v e at next rot = Rotates-splice v (2 * e) at (splice next (2 * e + 1)) (odd_darts v e at (splice next (2 * e + 1)) (Rotates-splice v (2 * e + 1) at next (turns_next v e at next rot)))

-- without its last edge a rotation has the faces that it has with the two darts on no edge
pub faces-drop_edge : (v e : ℕ) (at next : ℕ → ℕ) → Turns v (suc e) at next
    → faces_upto v (2 * suc e) e at next ≡ faces v e at (drop_edge e next)
faces-drop_edge v e at next rot =
    let more : 2 * suc e ≡ suc (2 * e + 1) = omega arith in
    let odd : 2 * e + 1 ≡ suc (2 * e) = omega arith in
    ap (λ (n : ℕ). faces_upto v n e at next) more
    ∙ faces-splice v (2 * e + 1) e at next (turns_next v e at next rot) (omega arith)
    ∙ ap (λ (n : ℕ). faces_upto v n e at (splice next (2 * e + 1))) odd
    ∙ faces-splice v (2 * e) e at (splice next (2 * e + 1)) (odd_darts v e at (splice next (2 * e + 1)) (Rotates-splice v (2 * e + 1) at next (turns_next v e at next rot))) (omega arith)

-- without its last edge: two components and faces more than were joined, or a face less or more within a component
pub drop_edge_step : (v e : ℕ) (at next : ℕ → ℕ) → Turns v (suc e) at next
    → ((components v e at ≡ suc (components v (suc e) at))
    × (faces v e at (drop_edge e next) ≡ suc (faces v (suc e) at next)))
    ⊎ ((components v (suc e) at ≡ components v e at)
    × ((faces v e at (drop_edge e next) ≡ suc (faces v (suc e) at next))
    ⊎ (faces v (suc e) at next ≡ suc (faces v e at (drop_edge e next)))))
drop_edge_step v e at next rot =
    subst (λ (f : ℕ). ((components v e at ≡ suc (components v (suc e) at)) × (f ≡ suc (faces v (suc e) at next))) ⊎ ((components v (suc e) at ≡ components v e at) × ((f ≡ suc (faces v (suc e) at next)) ⊎ (faces v (suc e) at next ≡ suc f))))
    (faces-drop_edge v e at next rot)
    (euler_step v (2 * suc e) e at next rot (omega arith))

-- genus zero and the bound leave only genus zero
drop_zero : (v e f h c b : ℕ) → v + f ≡ suc e + 2 * c → v + h ≤ e + 2 * b
    → ((b ≡ suc c) × (h ≡ suc f)) ⊎ ((c ≡ b) × ((h ≡ suc f) ⊎ (f ≡ suc h))) → v + h ≡ e + 2 * b
drop_zero v e f h c b zero_genus bound s = omega arith

-- without its last edge a rotation of genus zero has genus zero
pub drop_edge-zero : (v e : ℕ) (at next : ℕ → ℕ) → Turns v (suc e) at next
    → v + faces v (suc e) at next ≡ suc e + 2 * components v (suc e) at
    → v + faces v e at (drop_edge e next) ≡ e + 2 * components v e at
drop_edge-zero v e at next rot zero_genus =
    let bound : v + faces v e at (drop_edge e next) ≤ e + 2 * components v e at = euler_bound v e at (drop_edge e next) (Turns-drop_edge v e at next rot) in
    drop_zero v e (faces v (suc e) at next) (faces v e at (drop_edge e next)) (components v (suc e) at) (components v e at) zero_genus bound (drop_edge_step v e at next rot)

-- without the two darts of the last edge the others stay in one face, with the two on no edge
pub drop_edge-labels : (v e : ℕ) (at next : ℕ → ℕ) → Turns v (suc e) at next → (d : ℕ) → d < 2 * e
    → labels (graph (face_upto next e) (2 * suc e)) d ≡ labels (graph (face_upto (drop_edge e next) e) (2 * e)) d
drop_edge-labels v e at next rot d lt =
    let more : 2 * suc e ≡ suc (2 * e + 1) = omega arith in
    let odd : 2 * e + 1 ≡ suc (2 * e) = omega arith in
    ap (λ (n : ℕ). labels (graph (face_upto next e) n) d) more
    ∙ splice-face_labels v (2 * e + 1) e at next (turns_next v e at next rot) (omega arith) d (omega arith)
    ∙ ap (λ (n : ℕ). labels (graph (face_upto (splice next (2 * e + 1)) e) n) d) odd
    ∙ splice-face_labels v (2 * e) e at (splice next (2 * e + 1)) (odd_darts v e at (splice next (2 * e + 1)) (Rotates-splice v (2 * e + 1) at next (turns_next v e at next rot))) (omega arith) d lt

-- an edge more within a face splits the face, and genus zero stays
pub insert-faces : (v e : ℕ) (at next : ℕ → ℕ) → Turns v (suc e) at next → labels (graph (face_upto next e) (2 * suc e)) (2 * e) ≡ labels (graph (face_upto next e) (2 * suc e)) (2 * e + 1) → (faces v (suc e) at next ≡ suc (faces v e at (drop_edge e next))) × (components v (suc e) at ≡ components v e at)
insert-faces v e at next rot one = (
  let split = orbits_split (2 * suc e) (face_upto next e) (2 * e) (2 * e + 1) (face_upto-Permutes (2 * suc e) e next rot.permutes (omega arith)) (omega arith) (omega arith) (λ h. omega arith) one in
      omega (arith, faces-drop_edge v e at next rot),
  classes_same v (at (2 * e), at (2 * e + 1)) (ends_upto at e) (face-component v (2 * suc e) e at next rot (omega arith) (2 * e) (2 * e + 1) one),
)

-- an edge more between two faces joins the faces
pub insert-joins : (v e : ℕ) (at next : ℕ → ℕ) → Turns v (suc e) at next → labels (graph (face_upto next e) (2 * suc e)) (2 * e) ≢ labels (graph (face_upto next e) (2 * suc e)) (2 * e + 1) → faces v e at (drop_edge e next) ≡ suc (faces v (suc e) at next)
insert-joins v e at next rot two =
    let join = orbits_joined (2 * suc e) (face_upto next e) (2 * e) (2 * e + 1) (face_upto-Permutes (2 * suc e) e next rot.permutes (omega arith)) (omega arith) (omega arith) two in
    omega (arith, faces-drop_edge v e at next rot)

-- an edge more within a face keeps genus zero
pub insert-zero : (v e : ℕ) (at next : ℕ → ℕ) → Turns v (suc e) at next → labels (graph (face_upto next e) (2 * suc e)) (2 * e) ≡ labels (graph (face_upto next e) (2 * suc e)) (2 * e + 1) → v + faces v e at (drop_edge e next) ≡ e + 2 * components v e at → v + faces v (suc e) at next ≡ suc e + 2 * components v (suc e) at
insert-zero v e at next rot one zero_genus = let law = insert-faces v e at next rot one in omega (arith, law.0, law.1)

-- a loop whose second dart stands directly behind its first can be put in or left out: genus zero stays
pub loop-zero : (v e : ℕ) (at next : ℕ → ℕ) → Turns v (suc e) at next → next (2 * e) ≡ 2 * e + 1
    → v + faces v e at (drop_edge e next) ≡ e + 2 * components v e at
    → v + faces v (suc e) at next ≡ suc e + 2 * components v (suc e) at
loop-zero v e at next rot behind zero_genus =
    insert-zero v e at next rot (label_step (face_upto next e) (2 * suc e) (2 * e) (omega arith) ∙ ap (labels (graph (face_upto next e) (2 * suc e))) (face_upto-past e next (2 * e) (omega arith) ∙ behind)) zero_genus

-- the same where the first dart stands directly behind the second
pub loop-zero_back : (v e : ℕ) (at next : ℕ → ℕ) → Turns v (suc e) at next → next (2 * e + 1) ≡ 2 * e
    → v + faces v e at (drop_edge e next) ≡ e + 2 * components v e at
    → v + faces v (suc e) at next ≡ suc e + 2 * components v (suc e) at
loop-zero_back v e at next rot behind zero_genus =
    insert-zero v e at next rot (sym (label_step (face_upto next e) (2 * suc e) (2 * e + 1) (omega arith) ∙ ap (labels (graph (face_upto next e) (2 * suc e))) (face_upto-past e next (2 * e + 1) (omega arith) ∙ behind))) zero_genus

-- functions that agree below n give the same steps round the faces there
pub face_upto-agree : (n i : ℕ) (next other : ℕ → ℕ) → ((d : ℕ) → d < n → next d ≡ other d) → 2 * i ≤ n → (d : ℕ)
    → d < n → face_upto next i d ≡ face_upto other i d
face_upto-agree n zero next other same le d lt = same d lt
face_upto-agree n (suc i) next other same le d lt = face_upto-agree n i next other same (omega arith) (exchange (2 * i) (2 * i + 1) d) (exchange-below n (2 * i) (2 * i + 1) d (omega arith) (omega arith) lt)

-- darts that stand at the same vertices leave the same vertices bare
pub stands-agree : (n : ℕ) (at other : ℕ → ℕ) (x : ℕ) → ((d : ℕ) → d < n → at d ≡ other d)
    → stands at n x ≡ stands other n x
stands-agree zero at other x same = refl
stands-agree (suc n) at other x same = ap₂ (λ (y : ℕ) (b : Bool). eqb y x || b) (same n (lt-suc_self n)) (stands-agree n at other x (λ d lt. same d (omega arith)))

-- functions that agree on all darts give as many faces
pub faces_upto-agree : (v n i : ℕ) (at next at' next' : ℕ → ℕ) → ((d : ℕ) → d < n → at d ≡ at' d)
    → ((d : ℕ) → d < n → next d ≡ next' d) → 2 * i ≤ n → faces_upto v n i at next ≡ faces_upto v n i at' next'
faces_upto-agree v n i at next at' next' same_at same_next le = ap₂ (λ (f g : ℕ). f + g)
    (orbits_agree (face_upto next i) (face_upto next' i) n (face_upto-agree n i next next' same_next le))
    (count_agree v (λ x. not (stands at n x)) (λ x. not (stands at' n x)) (λ x lt. ap not (stands-agree n at at' x same_at)))

-- darts that stand at the same vertices have the same ends of edges
pub ends_upto-agree : (i : ℕ) (at other : ℕ → ℕ) → ((d : ℕ) → d < 2 * i → at d ≡ other d)
    → ends_upto at i ≡ ends_upto other i
ends_upto-agree zero at other same = refl
ends_upto-agree (suc i) at other same =
    ap₂ (λ (x y : ℕ). (x, y) ∷ ends_upto at i) (same (2 * i) (omega arith)) (same (2 * i + 1) (omega arith))
    ∙ ap (λ (es : List (ℕ × ℕ)). (other (2 * i), other (2 * i + 1)) ∷ es) (ends_upto-agree i at other (λ d lt. same d (omega arith)))

-- darts that stand at the same vertices make as many components
pub components-agree : (v e : ℕ) (at other : ℕ → ℕ) → ((d : ℕ) → d < 2 * e → at d ≡ other d)
    → components v e at ≡ components v e other
components-agree v e at other same = ap (classes v) (ends_upto-agree e at other same)

-- functions that agree on all darts have genus zero together
pub zero-agree : (v e : ℕ) (at next at' next' : ℕ → ℕ) → ((d : ℕ) → d < 2 * e → at d ≡ at' d)
    → ((d : ℕ) → d < 2 * e → next d ≡ next' d) → v + faces v e at next ≡ e + 2 * components v e at
    → v + faces v e at' next' ≡ e + 2 * components v e at'
zero-agree v e at next at' next' same_at same_next zero_genus = omega (arith, faces_upto-agree v (2 * e) e at next at' next' same_at same_next (omega arith), components-agree v e at at' same_at)
