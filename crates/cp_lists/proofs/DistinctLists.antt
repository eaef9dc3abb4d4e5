-- Lists of distinct items by recursion, and the same by places.
use Rattle.std.proofs.Common.{◌≡◌, ℕ, zero, suc, ◌<◌, ◌⊎◌, ◌↔◌, ◌≢◌, Bool, true, List, [], ◌∷◌, ◌++◌, length, slice_index, sym, refl, ap, ap₂, ◌∙◌, subst, inl, inr, ⊎_elim, arith, append_assoc}
use Rattle.std.specs.List.{Contains}
use Rattle.std.proofs.lemmas.Bool.{cases_eq, eq-eqb, ne_eqb}
use Rattle.cp_lists.specs.Count.{Exactly}
use Rattle.cp_lists.specs.CyclicLists.{Has, Lacks, Distinct, but}
use Rattle.cp_lists.proofs.ExactLists.{EachOnce, contains_at, place_of, Exactly-contains}

-- an item is in the list or not
pub has_cases : (d : ℕ) (xs : List ℕ) → Has d xs ⊎ Lacks d xs
has_cases d [] = inr tt
has_cases d (x ∷ xs) = ⊎_elim (λ e. inl (inl e)) (λ ne. ⊎_elim (λ h. inl (inr h)) (λ l. inr (ne, l)) (has_cases d xs)) (cases_eq x d)

-- what a list has it does not lack
pub has_lacks : (d : ℕ) (xs : List ℕ) → Has d xs → Lacks d xs → ⊥
has_lacks d [] h l = h
has_lacks d (x ∷ xs) h l = ⊎_elim l.0 (λ k. has_lacks d xs k l.1) h

-- what a list has not it lacks
pub Lacks-from : (d : ℕ) (xs : List ℕ) → (Has d xs → ⊥) → Lacks d xs
Lacks-from d xs none = ⊎_elim (λ h. absurd (none h)) (λ l. l) (has_cases d xs)

-- an item differs from one that the list lacks
pub has_other : (d e : ℕ) (xs : List ℕ) → Has d xs → Lacks e xs → d ≢ e
has_other d e xs h l same = has_lacks e xs (subst (λ y. Has y xs) same h) l

-- an item of the first part is one of the whole
pub Has-append_left : (d : ℕ) (xs ys : List ℕ) → Has d xs → Has d (xs ++ ys)
Has-append_left d [] ys h = absurd h
Has-append_left d (x ∷ xs) ys h = ⊎_elim inl (λ k. inr (Has-append_left d xs ys k)) h

-- an item of the second part is one of the whole
pub Has-append_right : (d : ℕ) (xs ys : List ℕ) → Has d ys → Has d (xs ++ ys)
Has-append_right d [] ys h = h
Has-append_right d (x ∷ xs) ys h = inr (Has-append_right d xs ys h)

-- an item of the whole is one of a part
pub Has-append_cases : (d : ℕ) (xs ys : List ℕ) → Has d (xs ++ ys) → Has d xs ⊎ Has d ys
Has-append_cases d [] ys h = inr h
Has-append_cases d (x ∷ xs) ys h = ⊎_elim (λ e. inl (inl e)) (λ k. ⊎_elim (λ l. inl (inr l)) inr (Has-append_cases d xs ys k)) h

-- what both parts lack the whole lacks
pub Lacks-append : (d : ℕ) (xs ys : List ℕ) → Lacks d xs → Lacks d ys → Lacks d (xs ++ ys)
Lacks-append d [] ys k l = l
Lacks-append d (x ∷ xs) ys k l = (k.0, Lacks-append d xs ys k.1 l)

-- what the whole lacks its first part lacks
pub Lacks-append_left : (d : ℕ) (xs ys : List ℕ) → Lacks d (xs ++ ys) → Lacks d xs
Lacks-append_left d [] ys l = tt
Lacks-append_left d (x ∷ xs) ys l = (l.0, Lacks-append_left d xs ys l.1)

-- what the whole lacks its second part lacks
pub Lacks-append_right : (d : ℕ) (xs ys : List ℕ) → Lacks d (xs ++ ys) → Lacks d ys
Lacks-append_right d [] ys l = l
Lacks-append_right d (x ∷ xs) ys l = Lacks-append_right d xs ys l.1

-- the first part of distinct items is distinct
pub Distinct-append_left : (xs ys : List ℕ) → Distinct (xs ++ ys) → Distinct xs
Distinct-append_left [] ys d = tt
Distinct-append_left (x ∷ xs) ys d = (Lacks-append_left x xs ys d.0, Distinct-append_left xs ys d.1)

-- the second part of distinct items is distinct
pub Distinct-append_right : (xs ys : List ℕ) → Distinct (xs ++ ys) → Distinct ys
Distinct-append_right [] ys d = d
Distinct-append_right (x ∷ xs) ys d = Distinct-append_right xs ys d.1

-- an item of the first part is not in the second
pub Distinct-apart : (d : ℕ) (xs ys : List ℕ) → Distinct (xs ++ ys) → Has d xs → Lacks d ys
Distinct-apart d [] ys dis h = absurd h
Distinct-apart d (x ∷ xs) ys dis h = ⊎_elim (λ e. subst (λ y. Lacks y ys) e (Lacks-append_right x xs ys dis.0)) (λ k. Distinct-apart d xs ys dis.1 k) h

-- an item of the second part is not in the first
pub Distinct-apart_right : (d : ℕ) (xs ys : List ℕ) → Distinct (xs ++ ys) → Has d ys → Lacks d xs
Distinct-apart_right d xs ys dis h = Lacks-from d xs (λ k. has_lacks d ys h (Distinct-apart d xs ys dis k))

-- distinct parts without a common item are distinct together
pub Distinct-append : (xs ys : List ℕ) → Distinct xs → Distinct ys → ((d : ℕ) → Has d xs → Lacks d ys)
    → Distinct (xs ++ ys)
Distinct-append [] ys dx dy apart = dy
Distinct-append (x ∷ xs) ys dx dy apart = (Lacks-append x xs ys dx.0 (apart x (inl refl)), Distinct-append xs ys dx.1 dy (λ d h. apart d (inr h)))

-- a turn of distinct items is distinct
pub Distinct-turn : (xs ys : List ℕ) → Distinct (xs ++ ys) → Distinct (ys ++ xs)
Distinct-turn xs ys d = Distinct-append ys xs (Distinct-append_right xs ys d) (Distinct-append_left xs ys d) (λ e h. Distinct-apart_right e xs ys d h)

-- a turn has the same items
pub Has-turn : (d : ℕ) (xs ys : List ℕ) → Has d (xs ++ ys) → Has d (ys ++ xs)
Has-turn d xs ys h = ⊎_elim (Has-append_right d ys xs) (Has-append_left d ys xs) (Has-append_cases d xs ys h)

-- distinct items stay distinct without one of them
pub Distinct-less : (xs : List ℕ) (z : ℕ) (ys : List ℕ) → Distinct (xs ++ z ∷ ys) → Distinct (xs ++ ys)
Distinct-less xs z ys dis =
    Distinct-append xs ys (Distinct-append_left xs (z ∷ ys) dis) (Distinct-append_right xs (z ∷ ys) dis).1
    (λ d h. (Distinct-apart d xs (z ∷ ys) dis h).1)

-- distinct items stay distinct with their first two parts in the other order
pub Distinct-swapped : (xs ys zs : List ℕ) → Distinct (xs ++ (ys ++ zs)) → Distinct (ys ++ (xs ++ zs))
Distinct-swapped xs ys zs dis =
    let d : Distinct ((xs ++ ys) ++ zs) = subst Distinct (sym (append_assoc xs ys zs)) dis in
    subst Distinct (append_assoc ys xs zs)
    (Distinct-append (ys ++ xs) zs (Distinct-turn xs ys (Distinct-append_left (xs ++ ys) zs d)) (Distinct-append_right (xs ++ ys) zs d)
    (λ x h. Distinct-apart x (xs ++ ys) zs d (Has-turn x ys xs h)))

-- the items stay the same with their first two parts in the other order
pub Has-swapped : (d : ℕ) (xs ys zs : List ℕ) → Has d (xs ++ (ys ++ zs)) → Has d (ys ++ (xs ++ zs))
Has-swapped d xs ys zs h =
    ⊎_elim
    (λ k. Has-append_right d ys (xs ++ zs) (Has-append_left d xs zs k))
    (λ k. ⊎_elim
    (λ l. Has-append_left d ys (xs ++ zs) l)
    (λ l. Has-append_right d ys (xs ++ zs) (Has-append_right d xs zs l))
    (Has-append_cases d ys zs k))
    (Has-append_cases d xs (ys ++ zs) h)

-- an item, with what stands before and behind it
pub Has-split : (d : ℕ) (xs : List ℕ) → Has d xs → (ys : List ℕ) × (zs : List ℕ) × (xs ≡ ys ++ d ∷ zs) × Lacks d ys
Has-split d [] h = absurd h
Has-split d (x ∷ xs) h =
    ⊎_elim
    (λ e. ([], xs, ap (λ (y : ℕ). y ∷ xs) e, tt))
    (λ ne. let s : (ys : List ℕ) × (zs : List ℕ) × (xs ≡ ys ++ d ∷ zs) × Lacks d ys = Has-split d xs (⊎_elim (λ e. absurd (ne e)) (λ k. k) h) in (x ∷ s.0, s.1, ap (λ (w : List ℕ). x ∷ w) s.2, (ne, s.3)))
    (cases_eq x d)

-- the item between two parts is in neither
pub Distinct-middle : (d : ℕ) (ys zs : List ℕ) → Distinct (ys ++ d ∷ zs) → Lacks d ys × Lacks d zs
Distinct-middle d ys zs dis = (Distinct-apart_right d ys (d ∷ zs) dis (inl refl), (Distinct-append_right ys (d ∷ zs) dis).0)

-- leaving out what is left out of both parts
pub but-append : (z : ℕ) (xs ys : List ℕ) → but z (xs ++ ys) ≡ but z xs ++ but z ys
but-append z [] ys = refl
but-append z (x ∷ xs) ys =
    ⊎_elim
    (λ e. rw (eq-eqb x z e) (but-append z xs ys))
    (λ ne. rw (ne_eqb x z ne) (ap (λ (w : List ℕ). x ∷ w) (but-append z xs ys)))
    (cases_eq x z)

-- leaving out what is not there changes nothing
pub but_lacks : (z : ℕ) (xs : List ℕ) → Lacks z xs → but z xs ≡ xs
but_lacks z [] l = refl
but_lacks z (x ∷ xs) l = rw (ne_eqb x z l.0) (ap (λ (w : List ℕ). x ∷ w) (but_lacks z xs l.1))

-- the first item is left out
pub but_head : (z : ℕ) (xs : List ℕ) → but z (z ∷ xs) ≡ but z xs
but_head z xs = rw (eq-eqb z z refl) refl

-- of distinct items the one between two parts is left out
pub but_middle : (z : ℕ) (ys zs : List ℕ) → Distinct (ys ++ z ∷ zs) → but z (ys ++ z ∷ zs) ≡ ys ++ zs
but_middle z ys zs dis =
    let out : Lacks z ys × Lacks z zs = Distinct-middle z ys zs dis in
    but-append z ys (z ∷ zs) ∙ ap₂ (λ (u w : List ℕ). u ++ w) (but_lacks z ys out.0) (but_head z zs ∙ but_lacks z zs out.1)

-- the list lacks what is left out
pub but-Lacks : (z : ℕ) (xs : List ℕ) → Lacks z (but z xs)
but-Lacks z [] = tt
but-Lacks z (x ∷ xs) =
    ⊎_elim
    (λ e. rw (eq-eqb x z e) (but-Lacks z xs))
    (λ ne. rw (ne_eqb x z ne) (ne, but-Lacks z xs))
    (cases_eq x z)

-- all other items stay
pub but-Has : (z d : ℕ) (xs : List ℕ) → d ≢ z → Has d xs → Has d (but z xs)
but-Has z d [] ne h = absurd h
but-Has z d (x ∷ xs) ne h =
    ⊎_elim
    (λ e. rw (eq-eqb x z e) (but-Has z d xs ne (⊎_elim (λ f. absurd (ne (sym f ∙ e))) (λ k. k) h)))
    (λ nx. rw (ne_eqb x z nx) (⊎_elim inl (λ k. inr (but-Has z d xs ne k)) h))
    (cases_eq x z)

-- no item is new
pub Has-but : (z d : ℕ) (xs : List ℕ) → Has d (but z xs) → Has d xs
Has-but z d [] h = h
Has-but z d (x ∷ xs) h =
    ⊎_elim
    (λ e. inr (Has-but z d xs (rw (eq-eqb x z e) at h)))
    (λ ne. ⊎_elim inl (λ k. inr (Has-but z d xs k)) (rw (ne_eqb x z ne) at h))
    (cases_eq x z)

-- what the list lacks it lacks with an item left out
pub but-Lacks_other : (z d : ℕ) (xs : List ℕ) → Lacks d xs → Lacks d (but z xs)
but-Lacks_other z d xs l = Lacks-from d (but z xs) (λ h. has_lacks d xs (Has-but z d xs h) l)

-- distinct items stay distinct with one left out
pub but-Distinct : (z : ℕ) (xs : List ℕ) → Distinct xs → Distinct (but z xs)
but-Distinct z [] d = tt
but-Distinct z (x ∷ xs) d =
    ⊎_elim
    (λ e. rw (eq-eqb x z e) (but-Distinct z xs d.1))
    (λ ne. rw (ne_eqb x z ne) (but-Lacks_other z x xs d.0, but-Distinct z xs d.1))
    (cases_eq x z)

-- an item that stands at a place is in the list
pub Has_at : (xs : List ℕ) (i : ℕ) → i < length xs → Has (slice_index xs i) xs
Has_at [] i lt = absurd (omega arith)
Has_at (x ∷ xs) zero lt = inl refl
Has_at (x ∷ xs) (suc i) lt = inr (Has_at xs i (omega arith))

-- an item of the list stands at a place
pub Has-place : (d : ℕ) (xs : List ℕ) → Has d xs → (i : ℕ) × (i < length xs) × (slice_index xs i ≡ d)
Has-place d [] h = absurd h
Has-place d (x ∷ xs) h =
    ⊎_elim
    (λ e. (0, omega arith, e))
    (λ k. let w : (i : ℕ) × (i < length xs) × (slice_index xs i ≡ d) = Has-place d xs k in (suc w.0, omega (arith, w.1), w.2))
    h

-- to be contained is to be an item
pub Has-Contains : (d : ℕ) (xs : List ℕ) → Has d xs ↔ Contains xs d
Has-Contains d xs = (
  λ h. let w : (i : ℕ) × (i < length xs) × (slice_index xs i ≡ d) = Has-place d xs h in contains_at xs w.0 d w.1 w.2,
  λ c. let w : (i : ℕ) × (i < length xs) × (slice_index xs i ≡ d) = place_of xs d c in subst (λ y. Has y xs) w.2 (Has_at xs w.0 w.1),
)

-- items that stand once each are distinct
pub Distinct-from : (xs : List ℕ) → EachOnce xs → Distinct xs
Distinct-from [] once = tt
Distinct-from (x ∷ xs) once = (
  Lacks-from x xs (λ h. let w : (i : ℕ) × (i < length xs) × (slice_index xs i ≡ x) = Has-place x xs h in let same : suc w.0 ≡ 0 = once (suc w.0) 0 (omega (arith, w.1)) (omega arith) w.2 in omega arith),
  Distinct-from xs (λ i j li lj e. let same : suc i ≡ suc j = once (suc i) (suc j) (omega arith) (omega arith) e in omega arith),
)

-- distinct items stand once each
pub Distinct-once : (xs : List ℕ) → Distinct xs → EachOnce xs
Distinct-once [] d i j li lj e = absurd (omega arith)
Distinct-once (x ∷ xs) d zero zero li lj e = refl
Distinct-once (x ∷ xs) d zero (suc j) li lj e = absurd (has_lacks x xs (subst (λ y. Has y xs) (sym e) (Has_at xs j (omega arith))) d.0)
Distinct-once (x ∷ xs) d (suc i) zero li lj e = absurd (has_lacks x xs (subst (λ y. Has y xs) e (Has_at xs i (omega arith))) d.0)
Distinct-once (x ∷ xs) d (suc i) (suc j) li lj e = ap suc (Distinct-once xs d.1 i j (omega arith) (omega arith) e)

-- distinct items that are the numbers that pass make an exact list
pub Exactly-from : (n : ℕ) (p : ℕ → Bool) (xs : List ℕ) → Distinct xs → ((x : ℕ) → Has x xs → (x < n) × (p x ≡ true))
    → ((x : ℕ) → x < n → p x ≡ true → Has x xs) → Exactly n p xs
Exactly-from n p xs d passes all = record {
  each_passes = λ i lt. passes (slice_index xs i) (Has_at xs i lt);
  each_once = Distinct-once xs d;
  all = λ x lt px. (Has-Contains x xs).0 (all x lt px);
}

-- the items of an exact list are distinct
pub Exactly-Distinct : (n : ℕ) (p : ℕ → Bool) (xs : List ℕ) → Exactly n p xs → Distinct xs
Exactly-Distinct n p xs ex = Distinct-from xs ex.each_once

-- the items of an exact list are the numbers that pass
pub Exactly-Has : (n : ℕ) (p : ℕ → Bool) (xs : List ℕ) → Exactly n p xs → (x : ℕ) → Has x xs ↔ ((x < n) × (p x ≡ true))
Exactly-Has n p xs ex x = (λ h. Exactly-contains n p xs x ex ((Has-Contains x xs).0 h), λ h. (Has-Contains x xs).1 (ex.all x h.0 h.1))
