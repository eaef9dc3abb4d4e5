-- Classes of numbers that pairs join: their labels, how many they are, and that they are the components.
use Rattle.std.proofs.Common.{true, ◌≡◌, ℕ, zero, suc, ◌<◌, ◌≤◌, min, max, ◌⊎◌, ◌↔◌, ◌≢◌, Bool, List, [], ◌∷◌, length, get_or, eqb, sym, refl, ap, ◌∙◌, subst, inl, inr, ⊎_elim, arith}
use Rattle.std.specs.List.{Contains}
use Rattle.std.proofs.lemmas.Bool.{cases_eq, cases_lt, eq-eqb, ne_eqb, eqb-true}
use Rattle.cp_lists.specs.Count.{without, IsCount}
use Rattle.cp_orbits.specs.Classes.{merge, labels, classes, Respects}
use Rattle.cp_orbits.specs.Connected.{Joins, Connected, here, step, IsLeastConnected}
use Rattle.cp_lists.proofs.Counting.{count_inject, count_agree, count_weaker, count_without, without_at, without_other}

-- merging takes the higher of the two to the lower
pub merge_at : (a b y : ℕ) → y ≡ max a b → merge a b y ≡ min a b
merge_at a b y e = rw (eq-eqb y (max a b) e) refl

-- merging leaves all others
pub merge_other : (a b y : ℕ) → (y ≡ max a b → ⊥) → merge a b y ≡ y
merge_other a b y ne = rw (ne_eqb y (max a b) ne) refl

-- merging does not raise
pub merge-le : (a b y : ℕ) → merge a b y ≤ y
merge-le a b y = ⊎_elim (λ e. omega (arith, merge_at a b y e)) (λ ne. omega (arith, merge_other a b y ne)) (cases_eq y (max a b))

-- the two numbers are merged
pub merge_left : (a b : ℕ) → merge a b a ≡ min a b
merge_left a b = ⊎_elim (λ e. merge_at a b a e) (λ ne. merge_other a b a ne ∙ omega arith) (cases_eq a (max a b))

-- the two numbers are merged
pub merge_right : (a b : ℕ) → merge a b b ≡ min a b
merge_right a b = ⊎_elim (λ e. merge_at a b b e) (λ ne. merge_other a b b ne ∙ omega arith) (cases_eq b (max a b))

-- merging a number with itself changes nothing
pub merge_same : (a b y : ℕ) → a ≡ b → merge a b y ≡ y
merge_same a b y e = ⊎_elim (λ f. merge_at a b y f ∙ omega arith) (λ ne. merge_other a b y ne) (cases_eq y (max a b))

-- merging does not change a value that the two numbers share
pub merge-keeps : {A : Type 0} (g : ℕ → A) (a b y : ℕ) → g a ≡ g b → g (merge a b y) ≡ g y
merge-keeps g a b y e =
    ⊎_elim
    (λ f. ap g (merge_at a b y f) ∙ ⊎_elim
    (λ l. let low : min a b ≡ a = omega arith in let high : b ≡ y = omega arith in ap g low ∙ e ∙ ap g high)
    (λ m. let low : min a b ≡ b = omega arith in let high : a ≡ y = omega arith in ap g low ∙ sym e ∙ ap g high)
    (cases_lt a b))
    (λ ne. ap g (merge_other a b y ne))
    (cases_eq y (max a b))

-- a label is at most its number
pub labels-le : (es : List (ℕ × ℕ)) (x : ℕ) → labels es x ≤ x
labels-le [] x = omega arith
labels-le (e ∷ es) x = omega (arith, merge-le (labels es e.0) (labels es e.1) (labels es x), labels-le es x)

-- what is respected is respected after a function more
pub Respects-map : {A B : Type 0} (h : A → B) (g : ℕ → A) (es : List (ℕ × ℕ)) → Respects g es
    → Respects (λ x. h (g x)) es
Respects-map h g [] r = tt
Respects-map h g (e ∷ es) r = (ap h r.0, Respects-map h g es r.1)

-- a function that equals one that respects the pairs respects them
pub Respects-same : {A : Type 0} (g h : ℕ → A) (es : List (ℕ × ℕ)) → ((x : ℕ) → g x ≡ h x) → Respects g es
    → Respects h es
Respects-same g h [] same r = tt
Respects-same g h (e ∷ es) same r = (sym (same e.0) ∙ r.0 ∙ same e.1, Respects-same g h es same r.1)

-- the first pair is contained
pub Contains-head : {X : Type 0} (e : X) (es : List X) → Contains (e ∷ es) e
Contains-head e es = (0, omega arith, refl)

-- what the rest contains is contained
pub Contains-tail : {X : Type 0} (e f : X) (es : List X) → Contains es f → Contains (e ∷ es) f
Contains-tail e f es c = (suc c.0, omega (arith, c.1), c.2)

-- what is respected has one value at the two ends of the pair at a place
respects_place : {A : Type 0} (g : ℕ → A) (e : ℕ × ℕ) (es : List (ℕ × ℕ)) → Respects g es → (k : ℕ) → k < length es
    → get_or es k e ≡ e → g e.0 ≡ g e.1
respects_place g e [] r k lt f = absurd (omega arith)
respects_place g e (d ∷ es) r zero lt f = ap (λ (y : ℕ × ℕ). g y.0) (sym f) ∙ r.0 ∙ ap (λ (y : ℕ × ℕ). g y.1) f
respects_place g e (d ∷ es) r (suc k) lt f = respects_place g e es r.1 k (omega arith) f

-- what is respected has one value at the two ends of each pair
pub Respects_at : {A : Type 0} (g : ℕ → A) (es : List (ℕ × ℕ)) (e : ℕ × ℕ) → Respects g es → Contains es e
    → g e.0 ≡ g e.1
Respects_at g es e r c = respects_place g e es r c.0 c.1 c.2

-- a function is respected if it has one value at the two ends of each pair
pub Respects-from : {A : Type 0} (g : ℕ → A) (es : List (ℕ × ℕ)) → ((e : ℕ × ℕ) → Contains es e → g e.0 ≡ g e.1)
    → Respects g es
Respects-from g [] same = tt
Respects-from g (e ∷ es) same = (same e (Contains-head e es), Respects-from g es (λ f c. same f (Contains-tail e f es c)))

-- the labels have one value at the two ends of each pair
pub labels-respects : (es : List (ℕ × ℕ)) → Respects (labels es) es
labels-respects [] = tt
labels-respects (e ∷ es) = (merge_left (labels es e.0) (labels es e.1) ∙ sym (merge_right (labels es e.0) (labels es e.1)), Respects-map (merge (labels es e.0) (labels es e.1)) (labels es) es (labels-respects es))

-- what has one value at the ends of each pair has one value on each class
pub labels-keeps : {A : Type 0} (g : ℕ → A) (es : List (ℕ × ℕ)) → Respects g es → (x : ℕ) → g (labels es x) ≡ g x
labels-keeps g [] r x = refl
labels-keeps g (e ∷ es) r x = merge-keeps g (labels es e.0) (labels es e.1) (labels es x) (labels-keeps g es r.1 e.0 ∙ r.0 ∙ sym (labels-keeps g es r.1 e.1)) ∙ labels-keeps g es r.1 x

-- a label is its own label
pub labels-labels : (es : List (ℕ × ℕ)) (x : ℕ) → labels es (labels es x) ≡ labels es x
labels-labels es x = labels-keeps (labels es) es (labels-respects es) x

-- what is respected is the same where the labels are
pub same_labels : {A : Type 0} (g : ℕ → A) (es : List (ℕ × ℕ)) (x y : ℕ) → Respects g es → labels es x ≡ labels es y
    → g x ≡ g y
same_labels g es x y r e = sym (labels-keeps g es r x) ∙ ap g e ∙ labels-keeps g es r y

-- the two ends of the first pair have one label
pub labels-ends : (e : ℕ × ℕ) (es : List (ℕ × ℕ)) → labels (e ∷ es) e.0 ≡ labels (e ∷ es) e.1
labels-ends e es = (labels-respects (e ∷ es)).0

-- coarser classes are not more
pub classes_coarser : (n : ℕ) (es fs : List (ℕ × ℕ)) → Respects (labels fs) es → classes n fs ≤ classes n es
classes_coarser n es fs r = count_weaker n (λ x. eqb (labels fs x) x) (λ x. eqb (labels es x) x)
    (λ x lt t. let e : labels fs x ≡ x = eqb-true (labels fs x) x t in eq-eqb (labels es x) x (omega (arith, labels-keeps (labels fs) es r x, labels-le fs (labels es x), labels-le es x)))

-- pairs that respect each other's labels have as many classes
pub classes_equal : (n : ℕ) (es fs : List (ℕ × ℕ)) → Respects (labels fs) es → Respects (labels es) fs
    → classes n es ≡ classes n fs
classes_equal n es fs r s = omega (arith, classes_coarser n es fs r, classes_coarser n fs es s)

-- pairs that respect each other's labels have the same labels
pub equal_labels : (es fs : List (ℕ × ℕ)) → Respects (labels fs) es → Respects (labels es) fs → (x : ℕ)
    → labels es x ≡ labels fs x
equal_labels es fs r s x = omega (arith, labels-keeps (labels fs) es r x, labels-keeps (labels es) fs s x, labels-le fs (labels es x), labels-le es (labels fs x))

-- a pair within a class changes no label
pub labels_same : (e : ℕ × ℕ) (es : List (ℕ × ℕ)) (x : ℕ) → labels es e.0 ≡ labels es e.1
    → labels (e ∷ es) x ≡ labels es x
labels_same e es x f = merge_same (labels es e.0) (labels es e.1) (labels es x) f

-- a pair within a class changes no count
pub classes_same : (n : ℕ) (e : ℕ × ℕ) (es : List (ℕ × ℕ)) → labels es e.0 ≡ labels es e.1
    → classes n (e ∷ es) ≡ classes n es
classes_same n e es f = count_agree n (λ x. eqb (labels (e ∷ es) x) x) (λ x. eqb (labels es x) x) (λ x lt. ap (λ y. eqb y x) (labels_same e es x f))

-- a pair between two classes makes them one
pub classes_joined : (n : ℕ) (e : ℕ × ℕ) (es : List (ℕ × ℕ)) → e.0 < n → e.1 < n → labels es e.0 ≢ labels es e.1
    → classes n es ≡ suc (classes n (e ∷ es))
classes_joined n e es lt0 lt1 ne =
    count_without n leads top (omega (arith, labels-le es e.0, labels-le es e.1)) (eq-eqb (labels es top) top leader) ∙ ap suc (count_agree n (without leads top) (λ x. eqb (labels (e ∷ es) x) x) same)
  where
    top : ℕ
    top = max (labels es e.0) (labels es e.1)

    leads : ℕ → Bool
    leads x = eqb (labels es x) x

    leader : labels es top ≡ top
    leader =
        ⊎_elim
        (λ l. let high : top ≡ labels es e.1 = omega arith in ap (labels es) high ∙ labels-labels es e.1 ∙ sym high)
        (λ m. let high : top ≡ labels es e.0 = omega arith in ap (labels es) high ∙ labels-labels es e.0 ∙ sym high)
        (cases_lt (labels es e.0) (labels es e.1))

    same : (x : ℕ) → x < n → without leads top x ≡ eqb (labels (e ∷ es) x) x
    same x lt =
        ⊎_elim
        (λ f. without_at leads top x f ∙ sym (ne_eqb (labels (e ∷ es) x) x (λ g.
        let own : labels es x ≡ top = ap (labels es) f ∙ leader in
        let low : labels (e ∷ es) x ≡ min (labels es e.0) (labels es e.1) = merge_at (labels es e.0) (labels es e.1) (labels es x) own in
        omega arith)))
        (λ nf. without_other leads top x nf ∙ ⊎_elim
        (λ g.
        let low : labels (e ∷ es) x ≡ min (labels es e.0) (labels es e.1) = merge_at (labels es e.0) (labels es e.1) (labels es x) g in
        ne_eqb (labels es x) x (λ h. omega arith) ∙ sym (ne_eqb (labels (e ∷ es) x) x (λ h. omega (arith, labels-le es x))))
        (λ ng. ap (λ y. eqb y x) (sym (merge_other (labels es e.0) (labels es e.1) (labels es x) ng)))
        (cases_eq (labels es x) top))
        (cases_eq x top)

-- an equivalence that relates the two numbers relates a number and what it is merged to
merge_related : (R : ℕ → ℕ → Type 0) → ((x : ℕ) → R x x) → ((x y : ℕ) → R x y → R y x) → (a b y : ℕ) → R a b
    → R y (merge a b y)
merge_related R same back a b y r =
    ⊎_elim
    (λ f. ⊎_elim
    (λ l. let low : a ≡ merge a b y = omega (arith, merge_at a b y f) in let high : b ≡ y = omega arith in subst (λ z. R y z) low (subst (λ z. R z a) high (back a b r)))
    (λ m. let low : b ≡ merge a b y = omega (arith, merge_at a b y f) in let high : a ≡ y = omega arith in subst (λ z. R y z) low (subst (λ z. R z b) high r))
    (cases_lt a b))
    (λ ne. subst (λ z. R y z) (sym (merge_other a b y ne)) (same y))
    (cases_eq y (max a b))

-- an equivalence that relates the ends of each pair relates a number and its label
pub labels-related : (R : ℕ → ℕ → Type 0) → ((x : ℕ) → R x x) → ((x y : ℕ) → R x y → R y x)
    → ((x y z : ℕ) → R x y → R y z → R x z) → (es : List (ℕ × ℕ)) → ((e : ℕ × ℕ) → Contains es e → R e.0 e.1) → (x : ℕ)
    → R x (labels es x)
labels-related R same back chain [] ends x = same x
labels-related R same back chain (e ∷ es) ends x =
    let rest = labels-related R same back chain es (λ f c. ends f (Contains-tail e f es c)) in
    let joined : R (labels es e.0) (labels es e.1) = chain (labels es e.0) e.1 (labels es e.1) (chain (labels es e.0) e.0 e.1 (back e.0 (labels es e.0) (rest e.0)) (ends e (Contains-head e es))) (rest e.1) in
    chain x (labels es x) (labels (e ∷ es) x) (rest x) (merge_related R same back (labels es e.0) (labels es e.1) (labels es x) joined)

-- connection goes on
pub Connected-trans : (es : List (ℕ × ℕ)) (x y z : ℕ) → Connected es x y → Connected es y z → Connected es x z
Connected-trans es x y z p here = p
Connected-trans es x y z p (step {y = w} q e c j) = step (Connected-trans es x y w p q) e c j

-- a pair connects its ends
pub Connected-pair : (es : List (ℕ × ℕ)) (e : ℕ × ℕ) → Contains es e → Connected es e.0 e.1
Connected-pair es e c = step here e c (inl (refl, refl))

-- connection goes back
pub Connected-sym : (es : List (ℕ × ℕ)) (x y : ℕ) → Connected es x y → Connected es y x
Connected-sym es x y here = here
Connected-sym es x y (step {y = w} q e c j) = Connected-trans es y w x (step here e c (⊎_elim (λ h. inr h) (λ h. inl h) j)) (Connected-sym es x w q)

-- what has one value at the ends of each pair has one value on each component
pub Connected-keeps : {A : Type 0} (g : ℕ → A) (es : List (ℕ × ℕ)) (x y : ℕ) → Respects g es → Connected es x y
    → g x ≡ g y
Connected-keeps g es x y r here = refl
Connected-keeps g es x y r (step {y = w} q e c j) = Connected-keeps g es x w r q ∙ ⊎_elim (λ h. ap g (sym h.0) ∙ Respects_at g es e r c ∙ ap g h.1) (λ h. ap g (sym h.1) ∙ sym (Respects_at g es e r c) ∙ ap g h.0) j

-- connection within some of the pairs is connection within all
pub Connected-more : (es fs : List (ℕ × ℕ)) (x y : ℕ) → ((e : ℕ × ℕ) → Contains es e → Contains fs e) → Connected es x y
    → Connected fs x y
Connected-more es fs x y more here = here
Connected-more es fs x y more (step {y = w} q e c j) = step (Connected-more es fs x w more q) e (more e c) j

-- a number is connected to its label
pub connected_label : (es : List (ℕ × ℕ)) (x : ℕ) → Connected es x (labels es x)
connected_label es x = labels-related (Connected es) (λ y. here) (Connected-sym es) (Connected-trans es) es (Connected-pair es) x

-- connected numbers have one label
pub labels_connected : (es : List (ℕ × ℕ)) (x y : ℕ) → Connected es x y → labels es x ≡ labels es y
labels_connected es x y c = Connected-keeps (labels es) es x y (labels-respects es) c

-- numbers of one label are connected
pub connected_labels : (es : List (ℕ × ℕ)) (x y : ℕ) → labels es x ≡ labels es y → Connected es x y
connected_labels es x y e = Connected-trans es x (labels es x) y (connected_label es x) (Connected-sym es y (labels es x) (subst (Connected es y) (sym e) (connected_label es y)))

-- connection is to have one label
pub Connected-labels : (es : List (ℕ × ℕ)) (x y : ℕ) → Connected es x y ↔ (labels es x ≡ labels es y)
Connected-labels es x y = (labels_connected es x y, connected_labels es x y)

-- two numbers are connected or not
pub connected_cases : (es : List (ℕ × ℕ)) (x y : ℕ) → Connected es x y ⊎ (Connected es x y → ⊥)
connected_cases es x y = ⊎_elim (λ e. inl (connected_labels es x y e)) (λ ne. inr (λ c. ne (labels_connected es x y c))) (cases_eq (labels es x) (labels es y))

-- the least number of a component is its own label
pub leads_component : (es : List (ℕ × ℕ)) (x : ℕ) → (labels es x ≡ x) ↔ IsLeastConnected es x
leads_component es x = (
  λ e y c. omega (arith, labels_connected es x y c, labels-le es y),
  λ least. omega (arith, labels-le es x, least (labels es x) (connected_label es x)),
)

-- the classes are as many as the components
pub IsCount-classes : (n : ℕ) (es : List (ℕ × ℕ)) → IsCount (IsLeastConnected es) n (classes n es)
IsCount-classes n es = record {
  test = λ x. eqb (labels es x) x;
  decides = λ x lt. (λ t. (leads_component es x).0 (eqb-true (labels es x) x t), λ least. eq-eqb (labels es x) x ((leads_component es x).1 least));
  counted = refl;
}

-- classes that are mapped to different classes are not more
pub classes_transport-le : (n m : ℕ) (es fs : List (ℕ × ℕ)) (h g : ℕ → ℕ) → ((x : ℕ) → x < n → h x < m)
    → Respects (λ y. labels es (g y)) fs → ((x : ℕ) → x < n → labels es (g (h x)) ≡ labels es x)
    → classes n es ≤ classes m fs
classes_transport-le n m es fs h g into r back = count_inject n m (λ x. eqb (labels es x) x) (λ y. eqb (labels fs y) y) (λ x. labels fs (h x))
    (λ x lt t. (omega (arith, labels-le fs (h x), into x lt), eq-eqb (labels fs (labels fs (h x))) (labels fs (h x)) (labels-labels fs (h x))))
    (λ x y ltx lty tx ty e. sym (eqb-true (labels es x) x tx) ∙ sym (back x ltx) ∙ same_labels (λ z. labels es (g z)) fs (h x) (h y) r e ∙ back y lty ∙ eqb-true (labels es y) y ty)

-- a set of numbers that each pair lies in or out of has with a number all that is connected to it
pub Connected-closed : (p : ℕ → Bool) (es : List (ℕ × ℕ)) (x y : ℕ) → ((e : ℕ × ℕ) → Contains es e → p e.0 ≡ p e.1)
    → p x ≡ true → Connected es x y → p y ≡ true
Connected-closed p es x y closed px c = sym (Connected-keeps p es x y (Respects-from p es closed) c) ∙ px

-- the item at a place is the first, or the rest contains it
contains_place : {X : Type 0} (e f : X) (es : List X) (k : ℕ) → k < length (e ∷ es) → get_or (e ∷ es) k f ≡ f
    → (e ≡ f) ⊎ Contains es f
contains_place e f es zero lt h = inl h
contains_place e f es (suc k) lt h = inr (k, omega arith, h)

-- what a list with one item more contains is that item, or the rest contains it
pub Contains-cons_cases : {X : Type 0} (e f : X) (es : List X) → Contains (e ∷ es) f → (e ≡ f) ⊎ Contains es f
Contains-cons_cases e f es c = contains_place e f es c.0 c.1 c.2

-- a pair more: connected without it, or over it in one or the other direction
Over : ℕ × ℕ → List (ℕ × ℕ) → ℕ → ℕ → Type 0
Over e es x y = Connected es x y ⊎ ((Connected es x e.0 × Connected es e.1 y) ⊎ (Connected es x e.1 × Connected es e.0 y))

-- a walk over the pair goes on along an old pair
over_old : (e f : ℕ × ℕ) (es : List (ℕ × ℕ)) (x y z : ℕ) → Over e es x y → Contains es f → Joins f y z → Over e es x z
unfolding Over
over_old e f es x y z o c j = ⊎_elim (λ p. inl (step p f c j)) (λ q. inr (⊎_elim (λ p. inl (p.0, step p.1 f c j)) (λ p. inr (p.0, step p.1 f c j)) q)) o

-- a walk over the pair goes on along the new pair
over_new : (e : ℕ × ℕ) (es : List (ℕ × ℕ)) (x y z : ℕ) → Over e es x y → Joins e y z → Over e es x z
unfolding Over
over_new e es x y z o j =
    ⊎_elim
    (λ h.
    let last : Connected es e.1 z = subst (Connected es e.1) h.1 here in
    ⊎_elim
    (λ p. inr (inl (subst (Connected es x) (sym h.0) p, last)))
    (λ q. ⊎_elim (λ p. inr (inl (p.0, last))) (λ p. inl (subst (Connected es x) h.1 p.0)) q)
    o)
    (λ h.
    let last : Connected es e.0 z = subst (Connected es e.0) h.0 here in
    ⊎_elim
    (λ p. inr (inr (subst (Connected es x) (sym h.1) p, last)))
    (λ q. ⊎_elim (λ p. inl (subst (Connected es x) h.0 p.0)) (λ p. inr (inr (p.0, last))) q)
    o)
    j

-- each walk is one without the new pair, or over it once
over_walk : (e : ℕ × ℕ) (es : List (ℕ × ℕ)) (x y : ℕ) → Connected (e ∷ es) x y → Over e es x y
unfolding Over
over_walk e es x y here = inl here
over_walk e es x y (step {y = w} q f c j) =
    ⊎_elim
    (λ same. over_new e es x w y (over_walk e es x w q) (subst (λ (g : ℕ × ℕ). Joins g w y) (sym same) j))
    (λ old. over_old e f es x w y (over_walk e es x w q) old j)
    (Contains-cons_cases e f es c)

-- with one pair more, numbers are connected that were, or over that pair
pub Connected-cons : (e : ℕ × ℕ) (es : List (ℕ × ℕ)) (x y : ℕ) → Connected (e ∷ es) x y
    → Connected es x y ⊎ ((Connected es x e.0 × Connected es e.1 y) ⊎ (Connected es x e.1 × Connected es e.0 y))
unfolding Over
Connected-cons e es x y c = over_walk e es x y c
