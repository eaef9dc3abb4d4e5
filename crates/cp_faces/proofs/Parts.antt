-- Two systems of numbers side by side: the counts add up.
use Rattle.std.proofs.Common.{◌≡◌, ℕ, zero, suc, ◌+◌, ◌-◌, ◌*◌, ◌<◌, ◌≤◌, Bool, true, not, ltb, List, eqb, sym, ap, ap₂, ◌∙◌, subst, ⊎_elim, arith}
use Rattle.std.proofs.lemmas.Bool.{cases_lt, cond-true, cond-false, lt-ltb, le-ltb, eq-eqb, eqb-true}
use Rattle.cp_lists.specs.Count.{count}
use Rattle.cp_orbits.specs.Classes.{beside, labels, classes, graph, orbits, Respects}
use Rattle.cp_orbits.specs.Orbits.{Reaches}
use Rattle.cp_faces.specs.Faces.{Turns, ends_upto, face_upto, stands, bare, faces, components, partner}
use Rattle.cp_lists.proofs.Counting.{count_agree, same_tests}
use Rattle.cp_orbits.proofs.ClassLabels.{labels-le, labels-respects, labels-keeps}
use Rattle.cp_orbits.proofs.OrbitLaws.{orbits_agree, label_step, Respects-graph}
use Rattle.cp_orbits.proofs.Exchanges.{Reaches-renumbered}
use Rattle.cp_faces.proofs.Faces.{face_upto-Permutes, stands_at, stands_some, euler_bound}
use Rattle.cp_faces.proofs.Merges.{face_upto-partner, partner_even, partner_odd}
use Rattle.cp_faces.proofs.Renaming.{Respects-ends, ends-respects, partner-within, each_dart}

-- counting below n and then m numbers more
pub count_add : (n m : ℕ) (p : ℕ → Bool) → count (n + m) p ≡ count n p + count m (λ x. p (n + x))
count_add n zero p = let e : n + 0 ≡ n = omega arith in ap (λ (k : ℕ). count k p) e ∙ omega arith
count_add n (suc m) p =
    let e : n + suc m ≡ suc (n + m) = omega arith in
    ap (λ (k : ℕ). count k p) e ∙ omega (arith, count_add n m p)

-- labels are what does not raise, is respected, and stays within its class
pub labels_are : (es : List (ℕ × ℕ)) (g : ℕ → ℕ) → ((x : ℕ) → g x ≤ x) → Respects g es
    → ((x : ℕ) → labels es (g x) ≡ labels es x) → (x : ℕ) → labels es x ≡ g x
labels_are es g low r same x = omega (arith, labels-keeps g es r x, low (labels es x), same x, labels-le es (g x))

-- below v
pub beside_low : (v : ℕ) (es fs : List (ℕ × ℕ)) (x : ℕ) → x < v → beside v es fs x ≡ labels es x
beside_low v es fs x lt = cond-true (ltb x v) (labels es x) (v + labels fs (x - v)) (lt-ltb x v lt)

-- from v on
pub beside_high : (v : ℕ) (es fs : List (ℕ × ℕ)) (x : ℕ) → beside v es fs (v + x) ≡ v + labels fs x
beside_high v es fs x =
    let off : v + x - v ≡ x = omega arith in
    cond-false (ltb (v + x) v) (labels es (v + x)) (v + labels fs (v + x - v)) (le-ltb (v + x) v (omega arith)) ∙ ap (λ (y : ℕ). v + labels fs y) off

-- pairs gs that are es below v and fs, v higher, from v on: the labels are those of the parts
pub labels_beside : (v : ℕ) (es fs gs : List (ℕ × ℕ)) → Respects (beside v es fs) gs → Respects (labels gs) es
    → Respects (λ x. labels gs (v + x)) fs → (x : ℕ) → labels gs x ≡ beside v es fs x
labels_beside v es fs gs r low high = labels_are gs (beside v es fs)
    (λ x. split x (λ y. beside v es fs y ≤ y) (λ y l. omega (arith, beside_low v es fs y l, labels-le es y)) (λ y. omega (arith, beside_high v es fs y, labels-le fs y)))
    r
    (λ x. split x (λ y. labels gs (beside v es fs y) ≡ labels gs y)
    (λ y l. ap (labels gs) (beside_low v es fs y l) ∙ labels-keeps (labels gs) es low y)
    (λ y. ap (labels gs) (beside_high v es fs y) ∙ labels-keeps (λ z. labels gs (v + z)) fs high y))
  where
    split : (x : ℕ) (P : ℕ → Type 0) → ((y : ℕ) → y < v → P y) → ((y : ℕ) → P (v + y)) → P x
    split x P below above = ⊎_elim (below x) (λ g. let whole : v + (x - v) ≡ x = omega arith in subst P whole (above (x - v))) (cases_lt x v)

-- pairs gs that are es below v and fs, v higher, from v on: the numbers of classes add up
pub classes_beside : (v w : ℕ) (es fs gs : List (ℕ × ℕ)) → Respects (beside v es fs) gs → Respects (labels gs) es
    → Respects (λ x. labels gs (v + x)) fs → classes (v + w) gs ≡ classes v es + classes w fs
classes_beside v w es fs gs r low high =
    count_add v w (λ x. eqb (labels gs x) x)
    ∙ ap₂ (λ (a b : ℕ). a + b)
    (count_agree v (λ x. eqb (labels gs x) x) (λ x. eqb (labels es x) x) (λ x l. ap (λ (y : ℕ). eqb y x) (labels_beside v es fs gs r low high x ∙ beside_low v es fs x l)))
    (count_agree w (λ x. eqb (labels gs (v + x)) (v + x)) (λ x. eqb (labels fs x) x) (λ x l. same_tests (eqb (labels gs (v + x)) (v + x)) (eqb (labels fs x) x)
    (λ t. let e : labels gs (v + x) ≡ v + x = eqb-true (labels gs (v + x)) (v + x) t in eq-eqb (labels fs x) x (omega (arith, labels_beside v es fs gs r low high (v + x), beside_high v es fs x)))
    (λ t. let e : labels fs x ≡ x = eqb-true (labels fs x) x t in eq-eqb (labels gs (v + x)) (v + x) (omega (arith, labels_beside v es fs gs r low high (v + x), beside_high v es fs x)))))

-- a function that is f below n and g, n higher, from n on has the orbits of both
pub orbits_beside : (n m : ℕ) (f g : ℕ → ℕ) → ((x : ℕ) → x < n → f x < n) → ((x : ℕ) → x < m → f (n + x) ≡ n + g x)
    → orbits (n + m) f ≡ orbits n f + orbits m g
orbits_beside n m f g below above = classes_beside n m (graph f n) (graph g m) (graph f (n + m))
    (Respects-graph parts f (n + m) (λ x lt. ⊎_elim
    (λ l. beside_low n (graph f n) (graph g m) x l ∙ label_step f n x l ∙ sym (beside_low n (graph f n) (graph g m) (f x) (below x l)))
    (λ h. let whole : n + (x - n) ≡ x = omega arith in subst (λ (y : ℕ). parts y ≡ parts (f y)) whole (high (x - n) (omega arith)))
    (cases_lt x n)))
    (Respects-graph (labels (graph f (n + m))) f n (λ x l. label_step f (n + m) x (omega arith)))
    (Respects-graph (λ x. labels (graph f (n + m)) (n + x)) g m (λ x l. label_step f (n + m) (n + x) (omega arith) ∙ ap (labels (graph f (n + m))) (above x l)))
  where
    parts : ℕ → ℕ
    parts = beside n (graph f n) (graph g m)

    high : (x : ℕ) → x < m → parts (n + x) ≡ parts (f (n + x))
    high x l = beside_high n (graph f n) (graph g m) x ∙ ap (λ (y : ℕ). n + y) (label_step g m x l) ∙ sym (ap parts (above x l) ∙ beside_high n (graph f n) (graph g m) (g x))

-- the partner of a dart of the first e edges is the same with more edges
pub partner_more : (e k d : ℕ) → d < 2 * e → partner (e + k) d ≡ partner e d
partner_more e k = each_dart (λ d. partner (e + k) d ≡ partner e d) e
    (λ i l. partner_even (e + k) i (omega arith) ∙ sym (partner_even e i l))
    (λ i l. partner_odd (e + k) i (omega arith) ∙ sym (partner_odd e i l))

-- the partner of a dart behind the first e edges is as far behind
pub partner_shift : (e k d : ℕ) → d < 2 * k → partner (e + k) (2 * e + d) ≡ 2 * e + partner k d
partner_shift e k = each_dart (λ d. partner (e + k) (2 * e + d) ≡ 2 * e + partner k d) k
    (λ i l.
    let at : 2 * e + 2 * i ≡ 2 * (e + i) = omega arith in
    ap (partner (e + k)) at ∙ partner_even (e + k) (e + i) (omega arith) ∙ omega (arith, partner_even k i l))
    (λ i l.
    let at : 2 * e + (2 * i + 1) ≡ 2 * (e + i) + 1 = omega arith in
    ap (partner (e + k)) at ∙ partner_odd (e + k) (e + i) (omega arith) ∙ omega (arith, partner_odd k i l))

-- two rotations side by side: v and e vertices and edges of the first, w and k of the second, whose numbers come behind
module _ (v e w k : ℕ) (at next at₂ next₂ : ℕ → ℕ) (first : Turns v e at next) (second : Turns w k at₂ next₂)
    (stand : (d : ℕ) → d < 2 * k → at (2 * e + d) ≡ v + at₂ d)
    (follow : (d : ℕ) → d < 2 * k → next (2 * e + d) ≡ 2 * e + next₂ d) where
  -- a dart of the two is one of the first or one of the second
  either : (P : ℕ → Type 0) → ((d : ℕ) → d < 2 * e → P d) → ((d : ℕ) → d < 2 * k → P (2 * e + d)) → (d : ℕ)
      → d < 2 * (e + k) → P d
  either P low high d lt = ⊎_elim (low d) (λ g. let whole : 2 * e + (d - 2 * e) ≡ d = omega arith in subst P whole (high (d - 2 * e) (omega arith))) (cases_lt d (2 * e))

  -- the two side by side are a rotation
  pub Turns-beside : Turns (v + w) (e + k) at next
  Turns-beside = record {
    permutes = record {
      below = either (λ d. next d < 2 * (e + k)) (λ d l. omega (arith, first.permutes.below d l)) (λ d l. omega (arith, follow d l, second.permutes.below d l));
      apart = λ c d ltc ltd. either (λ x. next x ≡ next d → x ≡ d)
          (λ x l. either (λ y. next x ≡ next y → x ≡ y)
          (λ y m h. first.permutes.apart x y l m h)
          (λ y m h. absurd (omega (arith, h, follow y m, first.permutes.below x l)))
          d ltd)
          (λ x l. either (λ y. next (2 * e + x) ≡ next y → 2 * e + x ≡ y)
          (λ y m h. absurd (omega (arith, h, follow x l, first.permutes.below y m)))
          (λ y m h. let inner : next₂ x ≡ next₂ y = omega (arith, h, follow x l, follow y m) in ap (λ (z : ℕ). 2 * e + z) (second.permutes.apart x y l m inner))
          d ltd)
          c ltc;
    };
    placed = either (λ d. at d < v + w) (λ d l. omega (arith, first.placed d l)) (λ d l. omega (arith, stand d l, second.placed d l));
    kept = either (λ d. at (next d) ≡ at d)
        (λ d l. first.kept d l)
        (λ d l. ap at (follow d l) ∙ stand (next₂ d) (second.permutes.below d l) ∙ ap (λ (z : ℕ). v + z) (second.kept d l) ∙ sym (stand d l));
    around = λ c d ltc ltd. either (λ x. at x ≡ at d → Reaches next x d)
        (λ x l. either (λ y. at x ≡ at y → Reaches next x y)
        (λ y m h. first.around x y l m h)
        (λ y m h. absurd (omega (arith, h, stand y m, first.placed x l)))
        d ltd)
        (λ x l. either (λ y. at (2 * e + x) ≡ at y → Reaches next (2 * e + x) y)
        (λ y m h. absurd (omega (arith, h, stand x l, first.placed y m)))
        (λ y m h. let inner : at₂ x ≡ at₂ y = omega (arith, h, stand x l, stand y m) in Reaches-renumbered (2 * k) (λ z. 2 * e + z) next₂ next second.permutes follow x y l (second.around x y l m inner))
        d ltd)
        c ltc;
  }

  -- the numbers of components add up
  pub components-beside : components (v + w) (e + k) at ≡ components v e at + components w k at₂
  components-beside = classes_beside v w (ends_upto at e) (ends_upto at₂ k) (ends_upto at (e + k))
      (Respects-ends parts at (e + k) (λ i l. ⊎_elim (λ m. low i m) (λ g. let whole : e + (i - e) ≡ i = omega arith in subst (λ (j : ℕ). parts (at (2 * j)) ≡ parts (at (2 * j + 1))) whole (high (i - e) (omega arith))) (cases_lt i e)))
      (Respects-ends all at e (λ i l. ends-respects all at (e + k) i (labels-respects (ends_upto at (e + k))) (omega arith)))
      (Respects-ends (λ x. all (v + x)) at₂ k (λ i l. ap all (sym (even i l)) ∙ ends-respects all at (e + k) (e + i) (labels-respects (ends_upto at (e + k))) (omega arith) ∙ ap all (odd i l)))
    where
      parts : ℕ → ℕ
      parts = beside v (ends_upto at e) (ends_upto at₂ k)

      all : ℕ → ℕ
      all = labels (ends_upto at (e + k))

      even : (i : ℕ) → i < k → at (2 * (e + i)) ≡ v + at₂ (2 * i)
      even i l = let place : 2 * (e + i) ≡ 2 * e + 2 * i = omega arith in ap at place ∙ stand (2 * i) (omega arith)

      odd : (i : ℕ) → i < k → at (2 * (e + i) + 1) ≡ v + at₂ (2 * i + 1)
      odd i l = let place : 2 * (e + i) + 1 ≡ 2 * e + (2 * i + 1) = omega arith in ap at place ∙ stand (2 * i + 1) (omega arith)

      low : (i : ℕ) → i < e → parts (at (2 * i)) ≡ parts (at (2 * i + 1))
      low i l =
          beside_low v (ends_upto at e) (ends_upto at₂ k) (at (2 * i)) (first.placed (2 * i) (omega arith))
          ∙ ends-respects (labels (ends_upto at e)) at e i (labels-respects (ends_upto at e)) l
          ∙ sym (beside_low v (ends_upto at e) (ends_upto at₂ k) (at (2 * i + 1)) (first.placed (2 * i + 1) (omega arith)))

      high : (i : ℕ) → i < k → parts (at (2 * (e + i))) ≡ parts (at (2 * (e + i) + 1))
      high i l =
          ap parts (even i l) ∙ beside_high v (ends_upto at e) (ends_upto at₂ k) (at₂ (2 * i))
          ∙ ap (λ (z : ℕ). v + z) (ends-respects (labels (ends_upto at₂ k)) at₂ k i (labels-respects (ends_upto at₂ k)) l)
          ∙ sym (ap parts (odd i l) ∙ beside_high v (ends_upto at e) (ends_upto at₂ k) (at₂ (2 * i + 1)))

  -- below the darts of the second the step round the faces is that of the first
  face-low : (d : ℕ) → d < 2 * e → face_upto next (e + k) d ≡ face_upto next e d
  face-low d l = face_upto-partner (e + k) next d ∙ ap next (partner_more e k d l) ∙ sym (face_upto-partner e next d)

  -- on the darts of the second it is that of the second
  face-high : (d : ℕ) → d < 2 * k → face_upto next (e + k) (2 * e + d) ≡ 2 * e + face_upto next₂ k d
  face-high d l = face_upto-partner (e + k) next (2 * e + d) ∙ ap next (partner_shift e k d l) ∙ follow (partner k d) (partner-within k d l) ∙ ap (λ (z : ℕ). 2 * e + z) (sym (face_upto-partner k next₂ d))

  -- the bare vertices add up
  pub bare-beside : bare (v + w) (2 * (e + k)) at ≡ bare v (2 * e) at + bare w (2 * k) at₂
  bare-beside = count_add v w (λ x. not (stands at (2 * (e + k)) x)) ∙ ap₂ (λ (a b : ℕ). a + b)
      (count_agree v (λ x. not (stands at (2 * (e + k)) x)) (λ x. not (stands at (2 * e) x)) (λ x l. ap not (same_tests (stands at (2 * (e + k)) x) (stands at (2 * e) x)
      (λ t. let s = stands_some at (2 * (e + k)) x t in either (λ d. at d ≡ x → stands at (2 * e) x ≡ true) (λ d m h. stands_at at (2 * e) d x m h) (λ d m h. absurd (omega (arith, h, stand d m))) s.0 s.1 s.2)
      (λ t. let s = stands_some at (2 * e) x t in stands_at at (2 * (e + k)) s.0 x (omega (arith, s.1)) s.2))))
      (count_agree w (λ x. not (stands at (2 * (e + k)) (v + x))) (λ x. not (stands at₂ (2 * k) x)) (λ x l. ap not (same_tests (stands at (2 * (e + k)) (v + x)) (stands at₂ (2 * k) x)
      (λ t. let s = stands_some at (2 * (e + k)) (v + x) t in either (λ d. at d ≡ v + x → stands at₂ (2 * k) x ≡ true) (λ d m h. absurd (omega (arith, h, first.placed d m))) (λ d m h. stands_at at₂ (2 * k) d x m (omega (arith, h, stand d m))) s.0 s.1 s.2)
      (λ t. let s = stands_some at₂ (2 * k) x t in stands_at at (2 * (e + k)) (2 * e + s.0) (v + x) (omega (arith, s.1)) (stand s.0 s.1 ∙ ap (λ (z : ℕ). v + z) s.2)))))

  -- the numbers of faces add up
  pub faces-beside : faces (v + w) (e + k) at next ≡ faces v e at next + faces w k at₂ next₂
  faces-beside =
      let many : 2 * (e + k) ≡ 2 * e + 2 * k = omega arith in
      omega (
        arith,
        bare-beside,
        ap (λ (n : ℕ). orbits n (face_upto next (e + k))) many,
        orbits_beside (2 * e) (2 * k) (face_upto next (e + k)) (face_upto next₂ k)
            (λ d l. subst (λ y. y < 2 * e) (sym (face-low d l)) ((face_upto-Permutes (2 * e) e next first.permutes (omega arith)).below d l)) face-high,
        orbits_agree (face_upto next (e + k)) (face_upto next e) (2 * e) face-low,
      )

  -- two rotations of genus zero side by side have genus zero
  pub beside-zero : v + faces v e at next ≡ e + 2 * components v e at
      → w + faces w k at₂ next₂ ≡ k + 2 * components w k at₂
      → v + w + faces (v + w) (e + k) at next ≡ e + k + 2 * components (v + w) (e + k) at
  beside-zero one two = omega (arith, faces-beside, components-beside)

  -- if two rotations side by side have genus zero, each has
  pub parts-zero : v + w + faces (v + w) (e + k) at next ≡ e + k + 2 * components (v + w) (e + k) at
      → (v + faces v e at next ≡ e + 2 * components v e at) × (w + faces w k at₂ next₂ ≡ k + 2 * components w k at₂)
  parts-zero both = (omega (arith, faces-beside, components-beside, euler_bound v e at next first, euler_bound w k at₂ next₂ second), omega (arith, faces-beside, components-beside, euler_bound v e at next first, euler_bound w k at₂ next₂ second))
