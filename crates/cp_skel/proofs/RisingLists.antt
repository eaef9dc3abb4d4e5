-- Lists of rising numbers: the same items make the same list.
use Rattle.std.proofs.Common.{◌≡◌, ℕ, zero, suc, ◌+◌, ◌<◌, Bool, List, [], ◌∷◌, ◌++◌, map, length, sym, refl, ap₂, subst, inl, inr, ⊎_elim, arith}
use Rattle.std.specs.Prelude.{slice_index_or}
use Rattle.std.specs.List.{filter, range_with_len}
use Rattle.std.proofs.lemmas.Bool.{cases_Bool}
use Rattle.cp_lists.specs.CyclicLists.{Has}
use Rattle.cp_lists.proofs.DistinctLists.{Has-append_cases, Has_at}
use Rattle.cp_lists.proofs.FilteredLists.{filter-Has, filter_no, filter_yes}
use Rattle.cp_lists.proofs.MappedLists.{map_on-Has}
use Rattle.cp_skel.proofs.Ranges.{range-Has}

-- each item is below those behind it
abbrev pub Rising : List ℕ → Type 0
Rising [] = Unit {0}
Rising (x ∷ xs) = ((y : ℕ) → Has y xs → x < y) × Rising xs

-- rising lists of the same items are equal
pub rising_same : (xs ys : List ℕ) → Rising xs → Rising ys → ((d : ℕ) → Has d xs → Has d ys)
    → ((d : ℕ) → Has d ys → Has d xs) → xs ≡ ys
rising_same [] [] up other to from = refl
rising_same [] (y ∷ ys) up other to from = absurd (from y (inl refl))
rising_same (x ∷ xs) [] up other to from = absurd (to x (inl refl))
rising_same (x ∷ xs) (y ∷ ys) up other to from =
    let same : x ≡ y = ⊎_elim
    (λ e. sym e)
    (λ k. ⊎_elim
    (λ e. e)
    (λ m. let one = other.0 x k in let two = up.0 y m in absurd (omega (arith, one, two)))
    (from y (inl refl)))
    (to x (inl refl)) in
    ap₂ (λ (z : ℕ) (zs : List ℕ). z ∷ zs) same
    (rising_same xs ys up.1 other.1
    (λ d h. ⊎_elim
    (λ e. let less = up.0 d h in absurd (omega (arith, less, same, e)))
    (λ k. k)
    (to d (inr h)))
    (λ d h. ⊎_elim
    (λ e. let less = other.0 d h in absurd (omega (arith, less, same, e)))
    (λ k. k)
    (from d (inr h))))

-- a range rises
pub Rising-range : (a n : ℕ) → Rising (range_with_len a n)
Rising-range a zero = tt
Rising-range a (suc n) = (λ y h. let r = range-Has y (a + 1) n h in omega (arith, r.0), Rising-range (a + 1) n)

-- what a test keeps of a rising list rises
pub Rising-filter : (p : ℕ → Bool) (xs : List ℕ) → Rising xs → Rising (filter p xs)
Rising-filter p [] up = tt
Rising-filter p (x ∷ xs) up = ⊎_elim
    (λ t. subst Rising (sym (filter_yes p x xs t))
    (λ y h. up.0 y (filter-Has p y xs h).0, Rising-filter p xs up.1))
    (λ f. subst Rising (sym (filter_no p x xs f)) (Rising-filter p xs up.1))
    (cases_Bool (p x))

-- rising lists one behind the other
pub Rising-append : (xs ys : List ℕ) → Rising xs → Rising ys → ((x y : ℕ) → Has x xs → Has y ys → x < y)
    → Rising (xs ++ ys)
Rising-append [] ys up other less = other
Rising-append (x ∷ xs) ys up other less = (
  λ y h. ⊎_elim (λ k. up.0 y k) (λ k. less x y (inl refl) k) (Has-append_cases y xs ys h),
  Rising-append xs ys up.1 other (λ z y h k. less z y (inr h) k),
)

-- images that rise with the items
pub Rising-map : (f : ℕ → ℕ) (xs : List ℕ) → Rising xs
    → ((x y : ℕ) → Has x xs → Has y xs → x < y → f x < f y) → Rising (map f xs)
Rising-map f [] up grows = tt
Rising-map f (x ∷ xs) up grows = (
  λ y h. let m = map_on-Has f y xs h in
      subst (λ z. f x < z) m.2 (grows x m.0 (inl refl) (inr m.1) (up.0 m.0 m.1)),
  Rising-map f xs up.1 (λ z y h k less. grows z y (inr h) (inr k) less),
)

-- items at rising places rise
pub rising_at : (xs : List ℕ) (i j : ℕ) → Rising xs → i < j → j < length xs
    → slice_index_or xs i 0 < slice_index_or xs j 0
rising_at [] i j up less lt = absurd (omega arith)
rising_at (x ∷ xs) i zero up less lt = absurd (omega arith)
rising_at (x ∷ xs) zero (suc j) up less lt = up.0 (slice_index_or xs j 0) (Has_at xs j (omega arith))
rising_at (x ∷ xs) (suc i) (suc j) up less lt = rising_at xs i j up.1 (omega arith) (omega arith)
