-- Numbers that are put into parts by a key, one after the other.
use Rattle.std.proofs.Common.{◌≡◌, ℕ, ◌+◌, ◌<◌, ◌≤◌, Bool, true, false, List, [], ◌∷◌, ◌++◌, ◌-◌, length, get_or, set, sym, refl, ap, ◌∙◌, subst, inr, ⊎_elim, arith}
use Rattle.std.specs.List.{Contains}
use Rattle.std.proofs.lemmas.Bool.{cases_eq, false≢true}
use Rattle.std.proofs.lemmas.List.{get_or_push, length_push, get_or_append_left, get_or-set_same, get_or-set_other, length-set, get_or_read}
use Rattle.cp_conn.specs.Grouping.{IsPart, AreGrouped, IsPlaced, IsPut}

-- a part stays one at a higher bound
IsPart-higher : (p : ℕ → Bool) (key : ℕ → ℕ) (bound : ℕ) (part : List ℕ) → IsPart p key bound part
    → IsPart p key (bound + 1) part
IsPart-higher p key bound part is = record {
  member = λ k lt. let h = is.member k lt in (omega (arith, h.0), h.1, h.2);
  rising = is.rising;
  filled = is.filled;
}

-- one number that passes is a part
IsPart-one : (p : ℕ → Bool) (key : ℕ → ℕ) (bound : ℕ) → p bound ≡ true → IsPart p key (bound + 1) (bound ∷ [])
IsPart-one p key bound t = record {
  member = λ k lt. let e : k ≡ 0 = omega arith in
      subst (λ (j : ℕ). (get_or (bound ∷ []) j 0 < bound + 1) × (p (get_or (bound ∷ []) j 0) ≡ true) × (key
      (get_or (bound ∷ []) j 0) ≡ key bound)) (sym e) (omega arith, t, refl);
  rising = λ k l lt ltl. absurd (omega arith);
  filled = omega arith;
}

-- the first item stays the first where one is put at the end
first_stays : (part : List ℕ) (e : ℕ) → 0 < length part → get_or (part ++ e ∷ []) 0 0 ≡ get_or part 0 0
first_stays part e lt = get_or_append_left part (e ∷ []) 0 0 lt

-- a part with one item more, of its key, is a part
IsPart-more : (p : ℕ → Bool) (key : ℕ → ℕ) (bound : ℕ) (part : List ℕ) → IsPart p key bound part → p bound ≡ true
    → key bound ≡ key (get_or part 0 0) → IsPart p key (bound + 1) (part ++ bound ∷ [])
IsPart-more p key bound part is t same = record {
  member = λ k lt. ⊎_elim
      (λ e. subst (Good) (sym (get_or_push part bound 0 k (sym e)))
      (omega arith, t, same ∙ ap key (sym (first_stays part bound is.filled))))
      (λ ne. subst (Good) (sym (old k (omega (arith, length_push part bound))))
      (let h = is.member k (omega (arith, length_push part bound)) in
      (omega (arith, h.0), h.1, h.2 ∙ ap key (sym (first_stays part bound is.filled)))))
      (cases_eq k (length part));
  rising = λ k l lt ltl. ⊎_elim
      (λ e. subst (λ (x : ℕ). get_or (part ++ bound ∷ []) k 0 < x) (sym (get_or_push part bound 0 l (sym e)))
      (subst (λ (x : ℕ). x < bound) (sym (old k (omega arith))) (is.member k (omega arith)).0))
      (λ ne. subst (λ (x : ℕ). get_or (part ++ bound ∷ []) k 0 < x)
      (sym (old l (omega (arith, length_push part bound))))
      (subst (λ (x : ℕ). x < get_or part l 0) (sym (old k (omega (arith, length_push part bound))))
      (is.rising k l lt (omega (arith, length_push part bound)))))
      (cases_eq l (length part));
  filled = omega (arith, length_push part bound);
}
  where
    -- the number is below the new bound, passes, and has the key of the longer part
    Good : ℕ → Type 0
    Good x = (x < bound + 1) × (p x ≡ true) × (key x ≡ key (get_or (part ++ bound ∷ []) 0 0))

    -- the items of the part stay where they are
    old : (k : ℕ) → k < length part → get_or (part ++ bound ∷ []) k 0 ≡ get_or part k 0
    old k lt = get_or_append_left part (bound ∷ []) 0 k lt

-- at the start there is no part
pub AreGrouped-none : (p : ℕ → Bool) (key : ℕ → ℕ) → AreGrouped p key 0 []
AreGrouped-none p key = record {
  each = λ i lt. absurd (omega arith);
  all = λ e lt t. absurd (omega arith);
  apart = λ i j lti ltj e. absurd (omega arith);
  by_least = λ i j lt ltj. absurd (omega arith);
}

-- a number that fails is left out
pub AreGrouped-skip : (p : ℕ → Bool) (key : ℕ → ℕ) (bound : ℕ) (parts : List (List ℕ)) → AreGrouped p key bound parts
    → p bound ≡ false → AreGrouped p key (bound + 1) parts
AreGrouped-skip p key bound parts g fails = record {
  each = λ i lt. IsPart-higher p key bound (get_or parts i []) (g.each i lt);
  all = λ e lt t. ⊎_elim (λ f. absurd (false≢true (sym fails ∙ ap p (sym f) ∙ t))) (λ ne. g.all e (omega arith) t)
      (cases_eq e bound);
  apart = g.apart;
  by_least = g.by_least;
}

-- a number of a new key makes a part
AreGrouped-new : (p : ℕ → Bool) (key : ℕ → ℕ) (bound : ℕ) (parts : List (List ℕ)) → AreGrouped p key bound parts
    → p bound ≡ true → ((i : ℕ) → i < length parts → key (get_or (get_or parts i []) 0 0) ≡ key bound → ⊥)
    → AreGrouped p key (bound + 1) (parts ++ (bound ∷ []) ∷ [])
AreGrouped-new p key bound parts g t new = record {
  each = λ i lt. ⊎_elim
      (λ e. subst (IsPart p key (bound + 1)) (sym (last i e)) (IsPart-one p key bound t))
      (λ ne. subst (IsPart p key (bound + 1)) (sym (old i (omega (arith, size))))
      (IsPart-higher p key bound (get_or parts i []) (g.each i (omega (arith, size)))))
      (cases_eq i (length parts));
  all = λ e lt te. ⊎_elim
      (λ f. (
        length parts,
        omega (arith, size),
        subst (λ (part : List ℕ). Contains part e)
            (sym (last (length parts) refl)) (0, omega arith, sym f),
      ))
      (λ ne. let h = g.all e (omega arith) te in
      (h.0, omega (arith, size, h.1), subst (λ (part : List ℕ). Contains part e) (sym (old h.0 h.1)) h.2))
      (cases_eq e bound);
  apart = λ i j lti ltj e. ⊎_elim
      (λ f. ⊎_elim
      (λ h. f ∙ sym h)
      (λ nh. absurd (new j (omega (arith, size))
      (ap key (sym (old_first j (omega (arith, size)))) ∙ sym e ∙ ap key (last_first i f))))
      (cases_eq j (length parts)))
      (λ nf. ⊎_elim
      (λ h. absurd (new i (omega (arith, size))
      (ap key (sym (old_first i (omega (arith, size)))) ∙ e ∙ ap key (last_first j h))))
      (λ nh. g.apart i j (omega (arith, size)) (omega (arith, size))
      (ap key (sym (old_first i (omega (arith, size)))) ∙ e ∙ ap key (old_first j (omega (arith, size)))))
      (cases_eq j (length parts)))
      (cases_eq i (length parts));
  by_least = λ i j lt ltj. ⊎_elim
      (λ h. omega (
        arith,
        size,
        old_first i (omega (arith, size)),
        last_first j h,
        ((g.each i (omega (arith, size))).member 0 (g.each i (omega (arith, size))).filled).0,
      ))
      (λ nh. omega (
        arith,
        old_first i (omega (arith, size)),
        old_first j (omega (arith, size)),
        g.by_least i j lt
            (omega (arith, size)),
      ))
      (cases_eq j (length parts));
}
  where
    -- there is one part more
    size : length (parts ++ (bound ∷ []) ∷ []) ≡ length parts + 1
    size = length_push parts (bound ∷ [])

    -- the parts before stay as they are
    old : (i : ℕ) → i < length parts → get_or (parts ++ (bound ∷ []) ∷ []) i [] ≡ get_or parts i []
    old i lt = get_or_append_left parts ((bound ∷ []) ∷ []) [] i lt

    -- the last part has the new number alone
    last : (i : ℕ) → i ≡ length parts → get_or (parts ++ (bound ∷ []) ∷ []) i [] ≡ bound ∷ []
    last i e = get_or_push parts (bound ∷ []) [] i (sym e)

    -- the first items of the parts before stay
    old_first : (i : ℕ) → i < length parts
        → get_or (get_or (parts ++ (bound ∷ []) ∷ []) i []) 0 0 ≡ get_or (get_or parts i []) 0 0
    old_first i lt = ap (λ (part : List ℕ). get_or part 0 0) (old i lt)

    -- the first item of the last part is the new number
    last_first : (i : ℕ) → i ≡ length parts → get_or (get_or (parts ++ (bound ∷ []) ∷ []) i []) 0 0 ≡ bound
    last_first i e = ap (λ (part : List ℕ). get_or part 0 0) (last i e)

-- the first items stay where an item is put at the end of a part
firsts_stay : (parts : List (List ℕ)) (k e i : ℕ) → k < length parts → 0 < length (get_or parts k [])
    → get_or (get_or (set parts k (get_or parts k [] ++ e ∷ [])) i []) 0 0 ≡ get_or (get_or parts i []) 0 0
firsts_stay parts k e i lt some =
    ⊎_elim
    (λ f. ap (λ (j : ℕ). get_or (get_or (set parts k (get_or parts k [] ++ e ∷ [])) j []) 0 0) f
    ∙ ap (λ (part : List ℕ). get_or part 0 0) (get_or-set_same parts k (get_or parts k [] ++ e ∷ []) [] lt)
    ∙ first_stays (get_or parts k []) e some ∙ ap (λ (j : ℕ). get_or (get_or parts j []) 0 0) (sym f))
    (λ nf. ap (λ (part : List ℕ). get_or part 0 0) (get_or-set_other parts k i (get_or parts k [] ++ e ∷ []) [] nf))
    (cases_eq i k)

-- a number of an old key is put at the end of its part
AreGrouped-more : (p : ℕ → Bool) (key : ℕ → ℕ) (bound k : ℕ) (parts : List (List ℕ)) → AreGrouped p key bound parts
    → p bound ≡ true → k < length parts → key (get_or (get_or parts k []) 0 0) ≡ key bound
    → AreGrouped p key (bound + 1) (set parts k (get_or parts k [] ++ bound ∷ []))
AreGrouped-more p key bound k parts g t lt same = record {
  each = λ i lti. ⊎_elim
      (λ e. subst (IsPart p key (bound + 1)) (sym (at i e))
      (IsPart-more p key bound (get_or parts k []) (g.each k lt) t (sym same)))
      (λ ne. subst (IsPart p key (bound + 1)) (sym (get_or-set_other parts k i part [] ne))
      (IsPart-higher p key bound (get_or parts i []) (g.each i (omega (arith, size)))))
      (cases_eq i k);
  all = λ e lte te. ⊎_elim
      (λ f. (
        k,
        omega (arith, size),
        subst (λ (xs : List ℕ). Contains xs e) (sym (at k refl)) (
          length (get_or parts k []),
          omega (arith, length_push (get_or parts k []) bound),
          get_or_push
              (get_or parts k []) bound e (length (get_or parts k [])) refl ∙ sym f,
        ),
      ))
      (λ ne. let h = g.all e (omega arith) te in (
        h.0,
        omega (arith, size, h.1),
        ⊎_elim
            (λ f. subst (λ (xs : List ℕ). Contains xs e) (sym (at h.0 f)) (
              h.2.0,
              omega (
                arith,
                h.2.1,
                length_push (get_or parts k []) bound,
                ap
                    (λ (j : ℕ). length (get_or parts j [])) f,
              ),
              get_or_append_left (get_or parts k []) (bound ∷ []) e h.2.0
                  (omega (arith, h.2.1, ap (λ (j : ℕ). length (get_or parts j [])) f))
                  ∙ ap (λ (j : ℕ). get_or (get_or parts j []) h.2.0 e) (sym f) ∙ h.2.2,
            ))
            (λ nf. subst (λ (xs : List ℕ). Contains xs e) (sym (get_or-set_other parts k h.0 part [] nf)) h.2)
            (cases_eq h.0 k),
      ))
      (cases_eq e bound);
  apart = λ i j lti ltj e. g.apart i j (omega (arith, size)) (omega (arith, size))
      (ap key (sym (firsts i)) ∙ e ∙ ap key (firsts j));
  by_least = λ i j l ltj. omega (arith, firsts i, firsts j, g.by_least i j l (omega (arith, size)));
}
  where
    -- the part with the new number at its end
    part : List ℕ
    part = get_or parts k [] ++ bound ∷ []

    -- there are as many parts as before
    size : length (set parts k part) ≡ length parts
    size = length-set parts k part

    -- the changed part stands at place k
    at : (i : ℕ) → i ≡ k → get_or (set parts k part) i [] ≡ part
    at i e = ap (λ (j : ℕ). get_or (set parts k part) j []) e ∙ get_or-set_same parts k part [] lt

    -- the first items of all parts stay
    firsts : (i : ℕ) → get_or (get_or (set parts k part) i []) 0 0 ≡ get_or (get_or parts i []) 0 0
    firsts i = firsts_stay parts k bound i lt (g.each k lt).filled

-- a number that is put into its part
pub AreGrouped-put : (p : ℕ → Bool) (key : ℕ → ℕ) (n bound : ℕ) (parts : List (List ℕ)) (places : List ℕ)
    (more : List (List ℕ)) (moved : List ℕ) → AreGrouped p key bound parts → IsPlaced key n parts places
    → p bound ≡ true → key bound < n → IsPut bound (key bound) parts places more moved
    → AreGrouped p key (bound + 1) more
AreGrouped-put p key n bound parts places more moved g pl t lt put =
    ⊎_elim
    (λ h. subst (AreGrouped p key (bound + 1)) (sym h.1)
    (AreGrouped-new p key bound parts g t (pl.none (key bound) lt h.0)))
    (λ h. let s = pl.some (key bound) h.0 lt h.1 in
    subst (AreGrouped p key (bound + 1)) (sym h.2) (AreGrouped-more p key bound h.0 parts g t s.0 s.1))
    put

-- the places after a number was put into its part
pub IsPlaced-put : (p : ℕ → Bool) (key : ℕ → ℕ) (n bound : ℕ) (parts : List (List ℕ)) (places : List ℕ)
    (more : List (List ℕ)) (moved : List ℕ) → AreGrouped p key bound parts → IsPlaced key n parts places → key bound < n
    → IsPut bound (key bound) parts places more moved → IsPlaced key n more moved
IsPlaced-put p key n bound parts places more moved g pl lt put =
    ⊎_elim
    (λ h. subst (λ (ps : List (List ℕ)). IsPlaced key n ps moved) (sym h.1)
    (subst (IsPlaced key n (parts ++ (bound ∷ []) ∷ [])) (sym h.2) fresh))
    (λ h. let s = pl.some (key bound) h.0 lt h.1 in
    subst (λ (ps : List (List ℕ)). IsPlaced key n ps moved) (sym h.2)
    (subst (IsPlaced key n (set parts h.0 (get_or parts h.0 [] ++ bound ∷ []))) (sym h.3) (kept h.0 s.0)))
    put
  where
    -- there is one part more
    size : length (parts ++ (bound ∷ []) ∷ []) ≡ length parts + 1
    size = length_push parts (bound ∷ [])

    -- the first items of the parts before stay
    old_first : (i : ℕ) → i < length parts
        → get_or (get_or (parts ++ (bound ∷ []) ∷ []) i []) 0 0 ≡ get_or (get_or parts i []) 0 0
    old_first i l = ap (λ (part : List ℕ). get_or part 0 0) (get_or_append_left parts ((bound ∷ []) ∷ []) [] i l)

    -- the first item of the last part is the new number
    last_first : (i : ℕ) → i ≡ length parts → get_or (get_or (parts ++ (bound ∷ []) ∷ []) i []) 0 0 ≡ bound
    last_first i e = ap (λ (part : List ℕ). get_or part 0 0) (get_or_push parts (bound ∷ []) [] i (sym e))

    -- the place of the new key is that of the last part
    place_at : (l : ℕ) → l ≡ key bound → get_or (set places (key bound) (length parts + 1)) l 0 ≡ length parts + 1
    place_at l e = ap (λ (k : ℕ). get_or (set places (key bound) (length parts + 1)) k 0) e
        ∙ get_or-set_same places (key bound) (length parts + 1) 0 (omega (arith, pl.size))

    -- the places of other keys stay
    place_other : (l : ℕ) → (l ≡ key bound → ⊥)
        → get_or (set places (key bound) (length parts + 1)) l 0 ≡ get_or places l 0
    place_other l ne = get_or-set_other places (key bound) l (length parts + 1) 0 ne

    -- the places are right where a part of a new key was added
    fresh : IsPlaced key n (parts ++ (bound ∷ []) ∷ []) (set places (key bound) (length parts + 1))
    fresh = record {
      size = length-set places (key bound) (length parts + 1) ∙ pl.size;
      none = λ l ltl z i lti e. ⊎_elim
          (λ f. omega (arith, place_at l f))
          (λ nf. ⊎_elim
          (λ h. nf (sym e ∙ ap key (last_first i h)))
          (λ nh. pl.none l ltl (sym (place_other l nf) ∙ z) i (omega (arith, size))
          (ap key (sym (old_first i (omega (arith, size)))) ∙ e))
          (cases_eq i (length parts)))
          (cases_eq l (key bound));
      some = λ l k ltl z. ⊎_elim
          (λ f. let at : k ≡ length parts = omega (arith, place_at l f) in
          (omega (arith, size), ap key (last_first k at) ∙ sym f))
          (λ nf. let h = pl.some l k ltl (sym (place_other l nf) ∙ z) in
          (omega (arith, h.0, size), ap key (old_first k h.0) ∙ h.1))
          (cases_eq l (key bound));
    }

    -- the places stay right where a number was put at the end of a part
    kept : (k : ℕ) → k < length parts → IsPlaced key n (set parts k (get_or parts k [] ++ bound ∷ [])) places
    kept k ltk = record {
      size = pl.size;
      none = λ l ltl z i lti e. pl.none l ltl z i (omega (arith, length-set parts k (get_or parts k [] ++ bound ∷ [])))
          (ap key (sym (firsts_stay parts k bound i ltk (g.each k ltk).filled)) ∙ e);
      some = λ l m ltl z. let h = pl.some l m ltl z in (
        omega (arith, h.0, length-set parts k (get_or parts k [] ++ bound ∷ [])),
        ap key
            (firsts_stay parts k bound m ltk (g.each k ltk).filled) ∙ h.1,
      );
    }

-- a place is at most the number of parts
pub place-le : (key : ℕ → ℕ) (n l : ℕ) (parts : List (List ℕ)) (places : List ℕ) → IsPlaced key n parts places → l < n
    → get_or places l 0 ≤ length parts
place-le key n l parts places pl lt =
    ⊎_elim (λ e. omega arith) (λ ne. omega (arith, (pl.some l (get_or places l 0 - 1) lt (omega arith)).0))
    (cases_eq (get_or places l 0) 0)

-- a number put at the end of a part, as a program does it
pub put_old : (e l place : ℕ) (parts : List (List ℕ)) (places old longer : List ℕ) → l < length places
    → place ≡ get_or places l place → (place ≡ 0 → ⊥) → get_or places l 0 ≤ length parts
    → old ≡ get_or parts (place - 1) old → longer ≡ old ++ e ∷ []
    → IsPut e l parts places (set parts (place - 1) longer) places
put_old e l place parts places old longer lt place_is some within old_is longer_is =
    let read : place ≡ get_or places l 0 = get_or_read places l place lt place_is 0 in
    let part : old ≡ get_or parts (place - 1) [] = get_or_read parts (place - 1) old (omega arith) old_is [] in
    inr (place - 1, omega arith, ap (set parts (place - 1)) (longer_is ∙ ap (λ (xs : List ℕ). xs ++ e ∷ []) part), refl)
