-- Exact lists of four, and exact lists whose items are renamed.
use Rattle.std.proofs.Common.{◌≡◌, ◌≢◌, ℕ, ◌<◌, ◌⊎◌, Bool, true, List, [], ◌∷◌, length, map, slice_index, sym, ap, ◌∙◌, subst, inl, inr, ⊎_elim, arith}
use Rattle.std.specs.List.{All, AllPairs, Contains}
use Rattle.std.proofs.lemmas.Bool.{cases_order}
use Rattle.std.proofs.lemmas.List.{get_or-map, length-map}
use Rattle.std.proofs.lemmas.List.Elements.{All-nil, All-cons}
use Rattle.std.proofs.lemmas.List.Kept.{AllPairs-cons}
use Rattle.cp_lists.specs.Count.{Exactly}
use Rattle.cp_lists.proofs.ExactLists.{EachOnce}

-- items that all differ stand apart
EachOnce-apart : (xs : List ℕ) → AllPairs (λ x y. x ≢ y) xs → EachOnce xs
EachOnce-apart xs apart i j lti ltj e =
    ⊎_elim (λ same. same)
    (⊎_elim (λ lt. absurd (apart i j 0 lt ltj e)) (λ gt. absurd (apart j i 0 gt lti (sym e))))
    (cases_order i j)

-- four different numbers that pass, and no other passes
pub record IsFour (n : ℕ) (p : ℕ → Bool) (a b c d : ℕ) : Type 0 where
  pub first : (a < n) × (p a ≡ true)
  pub second : (b < n) × (p b ≡ true)
  pub third : (c < n) × (p c ≡ true)
  pub fourth : (d < n) × (p d ≡ true)
  pub first_second : a ≢ b
  pub first_third : a ≢ c
  pub first_fourth : a ≢ d
  pub second_third : b ≢ c
  pub second_fourth : b ≢ d
  pub third_fourth : c ≢ d
  pub no_other : (x : ℕ) → x < n → p x ≡ true → (x ≡ a) ⊎ ((x ≡ b) ⊎ ((x ≡ c) ⊎ (x ≡ d)))

-- four numbers that alone pass, and are distinct, are exactly what passes
pub Exactly-four : (n : ℕ) (p : ℕ → Bool) (a b c d : ℕ) → IsFour n p a b c d → Exactly n p (a ∷ b ∷ c ∷ d ∷ [])
Exactly-four n p a b c d four = record {
  each_passes = λ i lt. passing i 0 lt;
  each_once = EachOnce-apart (a ∷ b ∷ c ∷ d ∷ []) apart;
  all = λ x lt px.
      ⊎_elim (λ e. (0, omega arith, sym e))
      (⊎_elim (λ e. (1, omega arith, sym e))
      (⊎_elim (λ e. (2, omega arith, sym e)) (λ e. (3, omega arith, sym e))))
      (four.no_other x lt px);
}
  where
    -- the four items pass the test
    passing : All (λ x. (x < n) × (p x ≡ true)) (a ∷ b ∷ c ∷ d ∷ [])
    passing =
        All-cons (λ x. (x < n) × (p x ≡ true)) a (b ∷ c ∷ d ∷ []) four.first
        (All-cons (λ x. (x < n) × (p x ≡ true)) b (c ∷ d ∷ []) four.second
        (All-cons (λ x. (x < n) × (p x ≡ true)) c (d ∷ []) four.third
        (All-cons (λ x. (x < n) × (p x ≡ true)) d [] four.fourth (All-nil (λ x. (x < n) × (p x ≡ true))))))

    -- no two of the four items are one
    apart : AllPairs (λ x y. x ≢ y) (a ∷ b ∷ c ∷ d ∷ [])
    apart =
        AllPairs-cons (λ x y. x ≢ y) a (b ∷ c ∷ d ∷ [])
        (All-cons (λ y. a ≢ y) b (c ∷ d ∷ []) four.first_second (All-cons (λ y. a ≢ y) c (d ∷ []) four.first_third
        (All-cons (λ y. a ≢ y) d [] four.first_fourth (All-nil (λ y. a ≢ y)))))
        (AllPairs-cons (λ x y. x ≢ y) b (c ∷ d ∷ [])
        (All-cons (λ y. b ≢ y) c (d ∷ []) four.second_third (All-cons (λ y. b ≢ y) d [] four.second_fourth
        (All-nil (λ y. b ≢ y))))
        (AllPairs-cons (λ x y. x ≢ y) c (d ∷ [])
        (All-cons (λ y. c ≢ y) d [] four.third_fourth (All-nil (λ y. c ≢ y)))
        (AllPairs-cons (λ x y. x ≢ y) d [] (All-nil (λ y. d ≢ y)) (λ i j e lt within. absurd (omega arith)))))

-- the same four, where the second and the fourth change places
pub IsFour-turned : (n : ℕ) (p : ℕ → Bool) (a b c d : ℕ) → IsFour n p a b c d → IsFour n p a d c b
IsFour-turned n p a b c d four = record {
  first = four.first;
  second = four.fourth;
  third = four.third;
  fourth = four.second;
  first_second = four.first_fourth;
  first_third = four.first_third;
  first_fourth = four.first_second;
  second_third = λ e. four.third_fourth (sym e);
  second_fourth = λ e. four.second_fourth (sym e);
  third_fourth = λ e. four.second_third (sym e);
  no_other = λ x lt px.
      ⊎_elim inl
      (⊎_elim (λ e. inr (inr (inr e)))
      (⊎_elim (λ e. inr (inr (inl e))) (λ e. inr (inl e))))
      (four.no_other x lt px);
}

-- what a renamed list contains
pub Contains-map : (f : ℕ → ℕ) (xs : List ℕ) (x : ℕ) → Contains xs x → Contains (map f xs) (f x)
Contains-map f xs x c = (c.0, omega (arith, length-map xs f, c.1), get_or-map f xs c.0 x (f x) c.1 ∙ ap f c.2)

-- an exact list, renamed by what carries the numbers that pass one test to those that pass another
pub Exactly-map : (m n : ℕ) (p q : ℕ → Bool) (f : ℕ → ℕ) (xs : List ℕ) → Exactly m p xs →
    ((d : ℕ) → d < m → p d ≡ true → (f d < n) × (q (f d) ≡ true)) → ((d e : ℕ) → d < m → e < m → f d ≡ f e → d ≡ e) →
    ((x : ℕ) → x < n → q x ≡ true → (d : ℕ) × (d < m) × (p d ≡ true) × (f d ≡ x)) → Exactly n q (map f xs)
Exactly-map m n p q f xs ex into apart onto = record {
  each_passes = λ i lt.
      let l : i < length xs = omega (arith, length-map xs f) in
      let h = ex.each_passes i l in
      subst (λ y. (y < n) × (q y ≡ true)) (sym (get_or-map f xs i 0 0 l)) (into (slice_index xs i) h.0 h.1);
  each_once = λ i j lti ltj e.
      let li : i < length xs = omega (arith, length-map xs f) in
      let lj : j < length xs = omega (arith, length-map xs f) in
      ex.each_once i j li lj (apart (slice_index xs i) (slice_index xs j) (ex.each_passes i li).0
      (ex.each_passes j lj).0 (sym (get_or-map f xs i 0 0 li) ∙ e ∙ get_or-map f xs j 0 0 lj));
  all = λ x lt qx.
      let h = onto x lt qx in
      subst (Contains (map f xs)) h.3 (Contains-map f xs h.0 (ex.all h.0 h.1 h.2));
}
