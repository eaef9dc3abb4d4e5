-- The item behind another in a cyclic list, and what edits of the list do to it.
use Rattle.std.proofs.Common.{◌≡◌, ℕ, ◌+◌, ◌-◌, ◌<◌, ◌⊎◌, ◌≢◌, cond, List, [], ◌∷◌, ◌++◌, length, slice_index, eqb, sym, refl, ap, ap₂, ◌∙◌, subst, inl, inr, ⊎_elim, arith, append-nil, length-append}
use Rattle.std.specs.List.{position_or_len}
use Rattle.std.proofs.lemmas.Bool.{cases_eq, eq-eqb, ne_eqb, cond-true, cond-false}
use Rattle.std.proofs.lemmas.List.{get_or-append_right, get_or_append_left, get_or_at}
use Rattle.std.proofs.lemmas.List.Sums.{position_or_len_is}
use Rattle.cp_lists.specs.CyclicLists.{Has, Lacks, Distinct, but, head_or, next_from, follow, MergesAt}
use Rattle.cp_lists.proofs.ExactLists.{place, place_at}
use Rattle.cp_lists.proofs.DistinctLists.{has_cases, has_lacks, has_other, Has-append_cases, Has-append_left, Has-append_right, Has-split, Has_at, Has-Contains, Distinct-apart, Distinct-apart_right, Distinct-append_right, Distinct-middle, Distinct-once, but_middle, but_lacks}

-- behind d comes the head of what follows
pub next_from_at : (first d x : ℕ) (xs : List ℕ) → x ≡ d → next_from first (x ∷ xs) d ≡ head_or first xs
next_from_at first d x xs e = rw (eq-eqb x d e) refl

-- an item other than d is passed over
pub next_from_other : (first d x : ℕ) (xs : List ℕ) → (x ≡ d → ⊥) → next_from first (x ∷ xs) d ≡ next_from first xs d
next_from_other first d x xs ne = rw (ne_eqb x d ne) refl

-- the head of a whole is that of its first part, or else that of the second
pub head_or-append : (d : ℕ) (xs ys : List ℕ) → head_or d (xs ++ ys) ≡ head_or (head_or d ys) xs
head_or-append d [] ys = refl
head_or-append d (x ∷ xs) ys = refl

-- for an item of the first part the second begins where the first ends
pub next_from-append_left : (first d : ℕ) (xs ys : List ℕ) → Has d xs
    → next_from first (xs ++ ys) d ≡ next_from (head_or first ys) xs d
next_from-append_left first d [] ys h = absurd h
next_from-append_left first d (x ∷ xs) ys h =
    ⊎_elim
    (λ e. next_from_at first d x (xs ++ ys) e ∙ head_or-append first xs ys ∙ sym (next_from_at (head_or first ys) d x xs e))
    (λ ne. next_from_other first d x (xs ++ ys) ne ∙ next_from-append_left first d xs ys (⊎_elim (λ e. absurd (ne e)) (λ k. k) h) ∙ sym (next_from_other (head_or first ys) d x xs ne))
    (cases_eq x d)

-- a first part without d is passed over
pub next_from-append_right : (first d : ℕ) (xs ys : List ℕ) → Lacks d xs
    → next_from first (xs ++ ys) d ≡ next_from first ys d
next_from-append_right first d [] ys l = refl
next_from-append_right first d (x ∷ xs) ys l = next_from_other first d x (xs ++ ys) l.0 ∙ next_from-append_right first d xs ys l.1

-- behind an item between two parts comes the head of the second
pub next_from_middle : (first d : ℕ) (xs ys : List ℕ) → Lacks d xs → next_from first (xs ++ d ∷ ys) d ≡ head_or first ys
next_from_middle first d xs ys l = next_from-append_right first d xs (d ∷ ys) l ∙ next_from_at first d d ys refl

-- a head is an item, or what stands for it in an empty list
head_cases : (first : ℕ) (xs : List ℕ) → Has (head_or first xs) xs ⊎ (head_or first xs ≡ first)
head_cases first [] = inr refl
head_cases first (x ∷ xs) = inl (inl refl)

-- what comes behind an item is an item, or what was to be first
pub next_from_cases : (first d : ℕ) (xs : List ℕ) → Has (next_from first xs d) xs ⊎ (next_from first xs d ≡ first)
next_from_cases first d [] = inr refl
next_from_cases first d (x ∷ xs) =
    ⊎_elim
    (λ e. ⊎_elim (λ h. inl (inr (subst (λ y. Has y xs) (sym (next_from_at first d x xs e)) h))) (λ f. inr (next_from_at first d x xs e ∙ f)) (head_cases first xs))
    (λ ne. ⊎_elim (λ h. inl (inr (subst (λ y. Has y xs) (sym (next_from_other first d x xs ne)) h))) (λ f. inr (next_from_other first d x xs ne ∙ f)) (next_from_cases first d xs))
    (cases_eq x d)

-- with another stand-in only the head of an empty list changes
head_first : (first z : ℕ) (xs : List ℕ) → Lacks z xs → head_or first xs
    ≡ cond (eqb (head_or z xs) z) first (head_or z xs)
head_first first z [] l = sym (cond-true (eqb z z) first z (eq-eqb z z refl))
head_first first z (x ∷ xs) l = sym (cond-false (eqb x z) first x (ne_eqb x z l.0))

-- with another first item only what comes behind the last changes
pub next_from_first : (first z d : ℕ) (xs : List ℕ) → Has d xs → Lacks z xs
    → next_from first xs d ≡ cond (eqb (next_from z xs d) z) first (next_from z xs d)
next_from_first first z d [] h l = absurd h
next_from_first first z d (x ∷ xs) h l =
    ⊎_elim
    (λ e. next_from_at first d x xs e ∙ head_first first z xs l.1 ∙ ap (λ (y : ℕ). cond (eqb y z) first y) (sym (next_from_at z d x xs e)))
    (λ ne. next_from_other first d x xs ne ∙ next_from_first first z d xs (⊎_elim (λ e. absurd (ne e)) (λ k. k) h) l.1 ∙ ap (λ (y : ℕ). cond (eqb y z) first y) (sym (next_from_other z d x xs ne)))
    (cases_eq x d)

-- the head of a turned list, where one part is not empty
turn_half : (d : ℕ) (ps qs : List ℕ) → Has d ps → Lacks d qs → follow (qs ++ ps) d ≡ follow (ps ++ qs) d
turn_half d ps qs h l =
    next_from-append_right (head_or 0 (qs ++ ps)) d qs ps l ∙ ap (λ (f : ℕ). next_from f ps d) (same_head qs) ∙ sym (next_from-append_left (head_or 0 (ps ++ qs)) d ps qs h)
  where
    same_head : (rs : List ℕ) → head_or 0 (rs ++ ps) ≡ head_or (head_or 0 (ps ++ rs)) rs
    same_head [] = ap (head_or 0) (sym (append-nil ps))
    same_head (r ∷ rs) = refl

-- a turn of a list changes nothing
pub follow-turn : (d : ℕ) (ps qs : List ℕ) → Distinct (ps ++ qs) → Has d (ps ++ qs)
    → follow (qs ++ ps) d ≡ follow (ps ++ qs) d
follow-turn d ps qs dis h =
    ⊎_elim
    (λ k. turn_half d ps qs k (Distinct-apart d ps qs dis k))
    (λ k. sym (turn_half d qs ps k (Distinct-apart_right d ps qs dis k)))
    (Has-append_cases d ps qs h)

-- behind an item comes an item
pub follow-Has : (d : ℕ) (xs : List ℕ) → Has d xs → Has (follow xs d) xs
follow-Has d [] h = absurd h
follow-Has d (x ∷ xs) h = ⊎_elim (λ k. k) (λ e. inl (sym e)) (next_from_cases x d (x ∷ xs))

-- a list that is not empty has one head, whatever stands for it otherwise
head_has : (a b d : ℕ) (xs : List ℕ) → Has d xs → head_or a xs ≡ head_or b xs
head_has a b d [] h = absurd h
head_has a b d (x ∷ xs) h = refl

-- the head of a whole is that of its first part, if that is not empty
head_whole : (d : ℕ) (xs ys zs : List ℕ) → Has d xs → head_or 0 (xs ++ ys) ≡ head_or 0 (xs ++ zs)
head_whole d xs ys zs h = head_or-append 0 xs ys ∙ head_has (head_or 0 ys) (head_or 0 zs) d xs h ∙ sym (head_or-append 0 xs zs)

-- what a list with an item more has behind z and behind an item of the second part
but_second : (z d : ℕ) (ps qs : List ℕ) → Lacks z ps → Lacks z qs → Lacks d ps → d ≢ z → Has d qs
    → next_from (head_or 0 (ps ++ qs)) qs d ≡ cond (eqb (next_from (head_or 0 (ps ++ z ∷ qs)) qs d) z)
    (head_or (head_or 0 (ps ++ z ∷ qs)) qs) (next_from (head_or 0 (ps ++ z ∷ qs)) qs d)
but_second z d [] qs lp lq ld ne h = next_from_first (head_or 0 qs) z d qs h lq ∙ ap (λ (f : ℕ). cond (eqb (next_from z qs d) z) f (next_from z qs d)) (head_has 0 z d qs h)
but_second z d (p ∷ ps) qs lp lq ld ne h =
    sym (cond-false (eqb (next_from p qs d) z) (head_or p qs) (next_from p qs d) (ne_eqb (next_from p qs d) z (⊎_elim (λ k. has_other (next_from p qs d) z qs k lq) (λ e f. lp.0 (sym e ∙ f)) (next_from_cases p d qs))))

-- where z stands between two parts
follow_but_middle : (z d : ℕ) (ps qs : List ℕ) → Distinct (ps ++ z ∷ qs) → d ≢ z → Has d (ps ++ z ∷ qs)
    → follow (but z (ps ++ z ∷ qs)) d ≡ cond (eqb (follow (ps ++ z ∷ qs) d) z) (follow (ps ++ z ∷ qs) z)
    (follow (ps ++ z ∷ qs) d)
follow_but_middle z d ps qs dis ne h =
    ap (λ (ws : List ℕ). follow ws d) (but_middle z ps qs dis) ∙ ⊎_elim
    (λ k. in_first k)
    (λ k. ⊎_elim (λ e. absurd (ne (sym e))) in_second k)
    (Has-append_cases d ps (z ∷ qs) h)
  where
    out : Lacks z ps × Lacks z qs
    out = Distinct-middle z ps qs dis

    in_first : Has d ps → follow (ps ++ qs) d ≡ cond (eqb (follow (ps ++ z ∷ qs) d) z) (follow (ps ++ z ∷ qs) z) (follow (ps ++ z ∷ qs) d)
    in_first k =
        next_from-append_left (head_or 0 (ps ++ qs)) d ps qs k
        ∙ next_from_first (head_or (head_or 0 (ps ++ qs)) qs) z d ps k out.0
        ∙ ap₂ (λ (f g : ℕ). cond (eqb g z) f g)
        (ap (λ (f : ℕ). head_or f qs) (head_whole d ps qs (z ∷ qs) k) ∙ sym (next_from_middle (head_or 0 (ps ++ z ∷ qs)) z ps qs out.0))
        (sym (next_from-append_left (head_or 0 (ps ++ z ∷ qs)) d ps (z ∷ qs) k))

    in_second : Has d qs → follow (ps ++ qs) d ≡ cond (eqb (follow (ps ++ z ∷ qs) d) z) (follow (ps ++ z ∷ qs) z) (follow (ps ++ z ∷ qs) d)
    in_second k =
        let before : Lacks d ps = Distinct-apart_right d ps (z ∷ qs) dis (inr k) in
        next_from-append_right (head_or 0 (ps ++ qs)) d ps qs before
        ∙ but_second z d ps qs out.0 out.1 before ne k
        ∙ ap₂ (λ (f g : ℕ). cond (eqb g z) f g)
        (sym (next_from_middle (head_or 0 (ps ++ z ∷ qs)) z ps qs out.0))
        (sym (next_from-append_right (head_or 0 (ps ++ z ∷ qs)) d ps (z ∷ qs) before ∙ next_from_other (head_or 0 (ps ++ z ∷ qs)) d z qs (λ e. ne (sym e))))

-- with z left out, what came before z goes on to what comes behind z
pub follow-but : (z d : ℕ) (xs : List ℕ) → Distinct xs → d ≢ z → Has d xs
    → follow (but z xs) d ≡ cond (eqb (follow xs d) z) (follow xs z) (follow xs d)
follow-but z d xs dis ne h =
    ⊎_elim
    (λ k.
    let s : (ys : List ℕ) × (zs : List ℕ) × (xs ≡ ys ++ z ∷ zs) × Lacks z ys = Has-split z xs k in
    subst (λ (ws : List ℕ). follow (but z ws) d ≡ cond (eqb (follow ws d) z) (follow ws z) (follow ws d)) (sym s.2)
    (follow_but_middle z d s.0 s.1 (subst Distinct s.2 dis) ne (subst (Has d) s.2 h)))
    (λ l.
    ap (λ (ws : List ℕ). follow ws d) (but_lacks z xs l) ∙ sym (cond-false (eqb (follow xs d) z) (follow xs z) (follow xs d) (ne_eqb (follow xs d) z (has_other (follow xs d) z xs (follow-Has d xs h) l))))
    (has_cases z xs)

-- a list put into another at a and b exchanges what comes behind them
pub follow-merge : (a b : ℕ) (ys zs us : List ℕ) → Distinct (ys ++ a ∷ (us ++ b ∷ zs))
    → MergesAt (ys ++ a ∷ zs) (us ++ b ∷ []) (ys ++ a ∷ (us ++ b ∷ zs)) a b
follow-merge a b ys zs us dis = record {
  behind_first = next_from_middle whole a ys (us ++ b ∷ zs) mid.0 ∙ head_or-append whole us (b ∷ zs) ∙ sym (next_from_middle other b us [] mid_b.0 ∙ head_or-append 0 us (b ∷ []));
  behind_second = past_a b lacks_b ne_ab ∙ next_from_middle whole b us zs mid_b.0 ∙ ap (λ (f : ℕ). head_or f zs) same_head ∙ sym (next_from_middle old a ys zs mid.0);
  in_first = λ d h ne.
      ⊎_elim
      (λ k. next_from-append_left whole d ys (a ∷ (us ++ b ∷ zs)) k ∙ sym (next_from-append_left old d ys (a ∷ zs) k))
      (λ k. ⊎_elim (λ e. absurd (ne (sym e))) (λ l. behind d ne l) k)
      (Has-append_cases d ys (a ∷ zs) h);
  in_second = λ d h ne.
      ⊎_elim
      (λ k.
      past_a d (Distinct-apart_right d ys (a ∷ (us ++ b ∷ zs)) dis (inr (Has-append_left d us (b ∷ zs) k))) (λ e. has_other d a (us ++ b ∷ zs) (Has-append_left d us (b ∷ zs) k) mid.1 (sym e))
      ∙ next_from-append_left whole d us (b ∷ zs) k ∙ sym (next_from-append_left other d us (b ∷ []) k))
      (λ k. absurd (⊎_elim (λ e. ne (sym e)) (λ l. l) k))
      (Has-append_cases d us (b ∷ []) h);
}
  where
    whole : ℕ
    whole = head_or 0 (ys ++ a ∷ (us ++ b ∷ zs))

    old : ℕ
    old = head_or 0 (ys ++ a ∷ zs)

    other : ℕ
    other = head_or 0 (us ++ b ∷ [])

    same_head : whole ≡ old
    same_head = head_or-append 0 ys (a ∷ (us ++ b ∷ zs)) ∙ sym (head_or-append 0 ys (a ∷ zs))

    mid : Lacks a ys × Lacks a (us ++ b ∷ zs)
    mid = Distinct-middle a ys (us ++ b ∷ zs) dis

    rest : Distinct (us ++ b ∷ zs)
    rest = (Distinct-append_right ys (a ∷ (us ++ b ∷ zs)) dis).1

    mid_b : Lacks b us × Lacks b zs
    mid_b = Distinct-middle b us zs rest

    lacks_b : Lacks b ys
    lacks_b = Distinct-apart_right b ys (a ∷ (us ++ b ∷ zs)) dis (inr (Has-append_right b us (b ∷ zs) (inl refl)))

    ne_ab : a ≢ b
    ne_ab e = has_lacks a (us ++ b ∷ zs) (Has-append_right a us (b ∷ zs) (inl (sym e))) mid.1

    past_a : (d : ℕ) → Lacks d ys → a ≢ d → next_from whole (ys ++ a ∷ (us ++ b ∷ zs)) d
        ≡ next_from whole (us ++ b ∷ zs) d
    past_a d l ne = next_from-append_right whole d ys (a ∷ (us ++ b ∷ zs)) l ∙ next_from_other whole d a (us ++ b ∷ zs) ne

    behind : (d : ℕ) → d ≢ a → Has d zs → follow (ys ++ a ∷ (us ++ b ∷ zs)) d ≡ follow (ys ++ a ∷ zs) d
    behind d ne k =
        let before : Lacks d ys = Distinct-apart_right d ys (a ∷ (us ++ b ∷ zs)) dis (inr (Has-append_right d us (b ∷ zs) (inr k))) in
        past_a d before (λ e. ne (sym e))
        ∙ next_from-append_right whole d us (b ∷ zs) (Distinct-apart_right d us (b ∷ zs) rest (inr k))
        ∙ next_from_other whole d b zs (λ e. has_other d b zs k mid_b.1 (sym e))
        ∙ ap (λ (f : ℕ). next_from f zs d) same_head
        ∙ sym (next_from-append_right old d ys (a ∷ zs) before ∙ next_from_other old d a zs (λ e. ne (sym e)))

-- an item put in directly behind another
pub follow-insert : (a b : ℕ) (ys zs : List ℕ) → Distinct (ys ++ a ∷ b ∷ zs)
    → MergesAt (ys ++ a ∷ zs) (b ∷ []) (ys ++ a ∷ b ∷ zs) a b
follow-insert a b ys zs dis = follow-merge a b ys zs [] dis

-- the first place of d is behind a part that lacks it
pub place_middle : (d : ℕ) (ys zs : List ℕ) → Lacks d ys → place (ys ++ d ∷ zs) d ≡ length ys
place_middle d ys zs l = position_or_len_is (λ y. eqb y d) (ys ++ d ∷ zs) (length ys) 0 (omega (arith, length-append ys (d ∷ zs)))
    (λ k lt. ne_eqb (slice_index (ys ++ d ∷ zs) k) d (λ e. has_lacks d ys (subst (λ y. Has y ys) (sym (get_or_append_left ys (d ∷ zs) 0 k lt) ∙ e) (Has_at ys k lt)) l))
    (λ lt. eq-eqb (slice_index (ys ++ d ∷ zs) (length ys)) d (get_or_at ys d zs 0 (length ys) refl))

-- the head stands at place 0
head_place : (xs : List ℕ) → head_or 0 xs ≡ slice_index xs 0
head_place [] = refl
head_place (x ∷ xs) = refl

-- behind an item between two parts stands what the place behind it holds
behind_place : (d : ℕ) (ys zs : List ℕ) → head_or (head_or 0 (ys ++ d ∷ zs)) zs ≡ slice_index (ys ++ d ∷ zs)
    (cond (eqb (length ys + 1) (length (ys ++ d ∷ zs))) 0 (length ys + 1))
behind_place d ys [] =
    let last : length ys + 1 ≡ length (ys ++ d ∷ []) = omega (arith, length-append ys (d ∷ [])) in
    head_place (ys ++ d ∷ []) ∙ ap (slice_index (ys ++ d ∷ [])) (sym (cond-true (eqb (length ys + 1) (length (ys ++ d ∷ []))) 0 (length ys + 1) (eq-eqb (length ys + 1) (length (ys ++ d ∷ [])) last)))
behind_place d ys (z ∷ zs) =
    let one : length ys + 1 - length ys ≡ 1 = omega arith in
    sym (
    ap (slice_index (ys ++ d ∷ z ∷ zs)) (cond-false (eqb (length ys + 1) (length (ys ++ d ∷ z ∷ zs))) 0 (length ys + 1) (ne_eqb (length ys + 1) (length (ys ++ d ∷ z ∷ zs)) (λ e. omega (arith, length-append ys (d ∷ z ∷ zs)))))
    ∙ get_or-append_right ys (d ∷ z ∷ zs) (length ys) (length ys + 1) 0 refl (omega arith)
    ∙ ap (slice_index (d ∷ z ∷ zs)) one
    )

-- the item behind d stands at the next place, or at the first if d is the last
pub follow-places : (d : ℕ) (xs : List ℕ) → Has d xs
    → follow xs d
    ≡ slice_index xs (cond (eqb (position_or_len (λ x. eqb x d) xs + 1) (length xs)) 0
    (position_or_len (λ x. eqb x d) xs + 1))
follow-places d xs h =
    let s : (ys : List ℕ) × (zs : List ℕ) × (xs ≡ ys ++ d ∷ zs) × Lacks d ys = Has-split d xs h in
    subst (λ (ws : List ℕ). follow ws d ≡ slice_index ws (cond (eqb (place ws d + 1) (length ws)) 0 (place ws d + 1))) (sym s.2)
    (next_from_middle (head_or 0 (s.0 ++ d ∷ s.1)) d s.0 s.1 s.3 ∙ behind_place d s.0 s.1 ∙ ap (λ (i : ℕ). slice_index (s.0 ++ d ∷ s.1) (cond (eqb (i + 1) (length (s.0 ++ d ∷ s.1))) 0 (i + 1))) (sym (place_middle d s.0 s.1 s.3)))

-- the place behind place i in a cyclic list of n items
after : ℕ → ℕ → ℕ
after n i = cond (eqb (i + 1) n) 0 (i + 1)

-- behind the last place comes the first
after_last : (n i : ℕ) → i + 1 ≡ n → after n i ≡ 0
unfolding after
after_last n i e = cond-true (eqb (i + 1) n) 0 (i + 1) (eq-eqb (i + 1) n e)

-- behind each other place comes the next
after_other : (n i : ℕ) → (i + 1 ≡ n → ⊥) → after n i ≡ i + 1
unfolding after
after_other n i ne = cond-false (eqb (i + 1) n) 0 (i + 1) (ne_eqb (i + 1) n ne)

-- the place behind a place lies within the list
after-below : (n i : ℕ) → i < n → after n i < n
after-below n i lt = ⊎_elim (λ e. omega (arith, after_last n i e)) (λ ne. omega (arith, after_other n i ne)) (cases_eq (i + 1) n)

-- two places with one place behind them are equal
after-apart : (n i j : ℕ) → i < n → j < n → after n i ≡ after n j → i ≡ j
after-apart n i j li lj e =
    ⊎_elim
    (λ h. ⊎_elim (λ k. omega arith) (λ nk. absurd (omega (arith, after_last n i h, after_other n j nk))) (cases_eq (j + 1) n))
    (λ nh. ⊎_elim (λ k. absurd (omega (arith, after_last n j k, after_other n i nh))) (λ nk. omega (arith, after_other n i nh, after_other n j nk)) (cases_eq (j + 1) n))
    (cases_eq (i + 1) n)

-- different items have different items behind them
pub follow-apart : (d e : ℕ) (xs : List ℕ) → Distinct xs → Has d xs → Has e xs → follow xs d ≡ follow xs e → d ≡ e
unfolding after
follow-apart d e xs dis hd he same =
    let at_d : (place xs d < length xs) × (slice_index xs (place xs d) ≡ d) = place_at xs d ((Has-Contains d xs).0 hd) in
    let at_e : (place xs e < length xs) × (slice_index xs (place xs e) ≡ e) = place_at xs e ((Has-Contains e xs).0 he) in
    let places : after (length xs) (place xs d) ≡ after (length xs) (place xs e) =
    Distinct-once xs dis (after (length xs) (place xs d)) (after (length xs) (place xs e)) (after-below (length xs) (place xs d) at_d.0) (after-below (length xs) (place xs e) at_e.0) (sym (follow-places d xs hd) ∙ same ∙ follow-places e xs he) in
    sym at_d.1 ∙ ap (slice_index xs) (after-apart (length xs) (place xs d) (place xs e) at_d.0 at_e.0 places) ∙ at_e.1
