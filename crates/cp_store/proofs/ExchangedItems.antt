-- Items in the order of their names: what an exchange under a name gives, and that it is taken back by the next one.
use Rattle.std.proofs.Common.{◌≡◌, ℕ, ◌<◌, Bool, true, false, not, cond, eqb, ltb, List, [], ◌∷◌, map, sym, refl, ap, ◌∙◌, subst, arith}
use Rattle.std.specs.Prelude.{filter, Option, Some, None}
use Rattle.std.proofs.lemmas.Bool.{false≢true, and_parts, cond-true, cond-false, cond_both, eq-eqb, ne_eqb, eqb-true, ltb-true}
use Rattle.cp_board.specs.Names.{put}
use Rattle.cp_board.proofs.ListTests.{rises}
use Rattle.cp_board.proofs.NamedLists.{under_all, under_all-rises, rises_after}
use Rattle.cp_store.specs.Exchanges.{under, exchanged}

-- what is some item is no other
pub Some-same : {A : Type 0} (x y : A) → Some x ≡ Some y → x ≡ y
Some-same x y e = ap (λ o. item_or o x) e
  where
    item_or : {B : Type 0} → Option B → B → B
    item_or None d = d
    item_or (Some z) d = z

-- no item is not some item
pub None-Some : {A : Type 0} (x : A) → None ≡ Some x → ⊥
None-Some x e = false≢true (ap is_one e)
  where
    is_one : {B : Type 0} → Option B → Bool
    is_one None = false
    is_one (Some z) = true

-- the items of other names
abbrev others : {A : Type 0} → (A → ℕ) → ℕ → List A → List A
others name n xs = filter (λ x. not (eqb (name x) n)) xs

-- an item that stands under a name has it
pub under-named : {A : Type 0} (name : A → ℕ) (n : ℕ) (xs : List A) (x : A) → under name n xs ≡ Some x → name x ≡ n
under-named name n [] x e = absurd (None-Some x e)
under-named {A} name n (y ∷ ys) x e =
    cond_both (eqb (name y) n) (Some y) (under name n ys) (λ o. o ≡ Some x → name x ≡ n)
    (λ t e. ap name (sym (Some-same y x e)) ∙ eqb-true (name y) n t)
    (λ f e. under-named name n ys x e) e

-- and is above what all items are above
under-above : {A : Type 0} (name : A → ℕ) (m n : ℕ) (xs : List A) (x : A) → under_all name m xs ≡ true
    → under name n xs ≡ Some x → m < name x
under-above name m n [] x u e = absurd (None-Some x e)
under-above name m n (y ∷ ys) x u e =
    let h = and_parts (ltb m (name y)) (under_all name m ys) u in
    cond_both (eqb (name y) n) (Some y) (under name n ys) (λ o. o ≡ Some x → m < name x)
    (λ t e. subst (λ z. m < name z) (Some-same y x e) (ltb-true m (name y) h.0))
    (λ f e. under-above name m n ys x h.1 e) e

-- below all items none stands
pub under-below : {A : Type 0} (name : A → ℕ) (n : ℕ) (xs : List A) → under_all name n xs ≡ true → under name n xs ≡ None
under-below name n [] u = refl
under-below name n (y ∷ ys) u =
    let h = and_parts (ltb n (name y)) (under_all name n ys) u in
    let lt = ltb-true n (name y) h.0 in
    cond-false (eqb (name y) n) (Some y) (under name n ys) (ne_eqb (name y) n (λ e. omega (arith, e, lt)))
    ∙ under-below name n ys h.1

-- where no item has the name, the items of other names are all
pub others-all : {A : Type 0} (name : A → ℕ) (n : ℕ) (xs : List A) → under name n xs ≡ None → others name n xs ≡ xs
others-all name n [] e = refl
others-all name n (y ∷ ys) e =
    cond_both (eqb (name y) n) (Some y) (under name n ys) (λ o. o ≡ None → others name n (y ∷ ys) ≡ y ∷ ys)
    (λ t e. absurd (None-Some y (sym e)))
    (λ f e. cond-true (not (eqb (name y) n)) (y ∷ others name n ys) (others name n ys) (ap not f) ∙ ap (λ zs. y ∷ zs) (others-all name n ys e)) e

-- an item below all others is put in front
pub put-front : {A : Type 0} (name : A → ℕ) (x : A) (ys : List A) → under_all name (name x) ys ≡ true → put name x ys ≡ x ∷ ys
put-front name x [] u = refl
put-front name x (y ∷ ys) u = cond-true (ltb (name x) (name y)) (x ∷ y ∷ ys) (y ∷ put name x ys) (and_parts (ltb (name x) (name y)) (under_all name (name x) ys) u).0

-- one above the first is put behind it
pub put-behind : {A : Type 0} (name : A → ℕ) (x y : A) (ys : List A) → name y < name x → put name x (y ∷ ys) ≡ y ∷ put name x ys
put-behind name x y ys lt = cond-false (ltb (name x) (name y)) (x ∷ y ∷ ys) (y ∷ put name x ys) (not_less (ltb (name x) (name y)) refl)
  where
    not_less : (b : Bool) → ltb (name x) (name y) ≡ b → ltb (name x) (name y) ≡ false
    not_less false e = e
    not_less true e = absurd (omega (arith, lt, ltb-true (name x) (name y) e))

-- the items of other names of those that passed already
others-twice : {A : Type 0} (name : A → ℕ) (n : ℕ) (xs : List A) → others name n (others name n xs) ≡ others name n xs
others-twice name n [] = refl
others-twice name n (y ∷ ys) =
    cond_both (not (eqb (name y) n)) (y ∷ others name n ys) (others name n ys) (λ zs. others name n zs ≡ zs)
    (λ t. cond-true (not (eqb (name y) n)) (y ∷ others name n (others name n ys)) (others name n (others name n ys)) t ∙ ap (λ zs. y ∷ zs) (others-twice name n ys))
    (λ f. others-twice name n ys)

-- an item of the name that was put in does not pass
others-put : {A : Type 0} (name : A → ℕ) (n : ℕ) (x : A) (ys : List A) → name x ≡ n → others name n (put name x ys) ≡ others name n ys
others-put name n x [] e = cond-false (not (eqb (name x) n)) (x ∷ []) [] (ap not (eq-eqb (name x) n e))
others-put name n x (y ∷ ys) e =
    cond_both (ltb (name x) (name y)) (x ∷ y ∷ ys) (y ∷ put name x ys) (λ zs. others name n zs ≡ others name n (y ∷ ys))
    (λ t. cond-false (not (eqb (name x) n)) (x ∷ others name n (y ∷ ys)) (others name n (y ∷ ys)) (ap not (eq-eqb (name x) n e)))
    (λ f. ap (λ zs. cond (not (eqb (name y) n)) (y ∷ zs) zs) (others-put name n x ys e))

-- after an exchange the items of other names are the same
others-exchanged : {A : Type 0} (name : A → ℕ) (n : ℕ) (o : Option A) (xs : List A) → ((x : A) → o ≡ Some x → name x ≡ n)
    → others name n (exchanged name n o xs) ≡ others name n xs
others-exchanged name n None xs named = others-twice name n xs
others-exchanged name n (Some x) xs named = others-put name n x (others name n xs) (named x refl) ∙ others-twice name n xs

-- an item that is taken out and put in again stands where it stood
put-again : {A : Type 0} (name : A → ℕ) (n : ℕ) (xs : List A) (x : A) → rises (map name xs) ≡ true → under name n xs ≡ Some x
    → put name x (others name n xs) ≡ xs
put-again name n [] x up e = absurd (None-Some x e)
put-again {A} name n (y ∷ ys) x up e =
    cond_both (eqb (name y) n) (Some y) (under name n ys) (λ o. o ≡ Some x → put name x (others name n (y ∷ ys)) ≡ y ∷ ys)
    (λ t e.
    let is : y ≡ x = Some-same y x e in
    let same : name y ≡ n = eqb-true (name y) n t in
    let above : under_all name (name y) ys ≡ true = under_all-rises name (name y) ys up in
    let above_n : under_all name n ys ≡ true = subst (λ m. under_all name m ys ≡ true) same above in
    ap (put name x) (cond-false (not (eqb (name y) n)) (y ∷ others name n ys) (others name n ys) (ap not t) ∙ others-all name n ys (under-below name n ys above_n))
    ∙ ap (λ z. put name z ys) (sym is)
    ∙ put-front name y ys above)
    (λ f e.
    let above : under_all name (name y) ys ≡ true = under_all-rises name (name y) ys up in
    ap (put name x) (cond-true (not (eqb (name y) n)) (y ∷ others name n ys) (others name n ys) (ap not f))
    ∙ put-behind name x y (others name n ys) (under-above name (name y) n ys x above e)
    ∙ ap (λ zs. y ∷ zs) (put-again name n ys x (rises_after name y ys up) e)) e

-- an exchange is taken back by the one with what stood there
pub exchanged-back : {A : Type 0} (name : A → ℕ) (n : ℕ) (o : Option A) (xs : List A) → rises (map name xs) ≡ true
    → ((x : A) → o ≡ Some x → name x ≡ n)
    → exchanged name n (under name n xs) (exchanged name n o xs) ≡ xs
exchanged-back {A} name n o xs up named = by_found (under name n xs) refl
  where
    by_found : (found : Option A) → under name n xs ≡ found → exchanged name n found (exchanged name n o xs) ≡ xs
    by_found None e = others-exchanged name n o xs named ∙ others-all name n xs e
    by_found (Some x) e = ap (put name x) (others-exchanged name n o xs named) ∙ put-again name n xs x up e

-- where an item of the name stands, an exchange for another one changes it alone
pub exchanged-one : {A : Type 0} (name : A → ℕ) (n : ℕ) (xs : List A) (x y : A) → rises (map name xs) ≡ true
    → under name n xs ≡ Some x
    → name y ≡ n
    → exchanged name n (Some y) xs ≡ map (λ z. cond (eqb (name z) n) y z) xs
exchanged-one name n [] x y up e same = absurd (None-Some x e)
exchanged-one {A} name n (z ∷ zs) x y up e same =
    cond_both (eqb (name z) n) (Some z) (under name n zs) (λ o. o ≡ Some x → put name y (others name n (z ∷ zs)) ≡ map change (z ∷ zs))
    (λ t e.
    let is : name z ≡ n = eqb-true (name z) n t in
    let above : under_all name (name y) zs ≡ true = subst (λ m. under_all name m zs ≡ true) (is ∙ sym same) (under_all-rises name (name z) zs up) in
    let none : under name n zs ≡ None = under-below name n zs (subst (λ m. under_all name m zs ≡ true) same above) in
    ap (put name y) (cond-false (not (eqb (name z) n)) (z ∷ others name n zs) (others name n zs) (ap not t) ∙ others-all name n zs none)
    ∙ put-front name y zs above
    ∙ ap (λ us. y ∷ us) (sym (change-none zs none))
    ∙ ap (λ u. u ∷ map change zs) (sym (cond-true (eqb (name z) n) y z t)))
    (λ f e.
    let above : under_all name (name z) zs ≡ true = under_all-rises name (name z) zs up in
    let lt : name z < name y = omega (arith, under-above name (name z) n zs x above e, under-named name n zs x e, same) in
    ap (put name y) (cond-true (not (eqb (name z) n)) (z ∷ others name n zs) (others name n zs) (ap not f))
    ∙ put-behind name y z (others name n zs) lt
    ∙ ap (λ us. z ∷ us) (exchanged-one name n zs x y (rises_after name z zs up) e same)
    ∙ ap (λ u. u ∷ map change zs) (sym (cond-false (eqb (name z) n) y z f))) e
  where
    change : A → A
    change z = cond (eqb (name z) n) y z

    change-none : (us : List A) → under name n us ≡ None → map change us ≡ us
    change-none [] e = refl
    change-none (u ∷ us) e =
        cond_both (eqb (name u) n) (Some u) (under name n us) (λ o. o ≡ None → map change (u ∷ us) ≡ u ∷ us)
        (λ t e. absurd (None-Some u (sym e)))
        (λ f e. ap (λ v. v ∷ map change us) (cond-false (eqb (name u) n) y u f) ∙ ap (λ vs. u ∷ vs) (change-none us e)) e
