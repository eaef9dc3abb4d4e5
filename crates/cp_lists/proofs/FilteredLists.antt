-- Lists of which only the items that pass a test are kept.
use Rattle.std.proofs.Common.{◌≡◌, ℕ, Bool, true, false, ◌&&◌, List, [], ◌∷◌, map, sym, refl, ap, ap₂, ◌∙◌, subst, inl, inr, ⊎_elim}
use Rattle.std.specs.List.{filter}
use Rattle.std.proofs.lemmas.Bool.{cases_Bool, cases_eq, false≢true}
use Rattle.cp_lists.specs.CyclicLists.{Has, Distinct, head_or, next_from, follow}
use Rattle.cp_lists.proofs.DistinctLists.{has_lacks, Lacks-from}
use Rattle.cp_lists.proofs.CyclicLists.{next_from_at, next_from_other}

-- an item that passes is kept
pub filter_yes : (p : ℕ → Bool) (x : ℕ) (xs : List ℕ) → p x ≡ true → filter p (x ∷ xs) ≡ x ∷ filter p xs
filter_yes p x xs t = rw t refl

-- an item that fails is left out
pub filter_no : (p : ℕ → Bool) (x : ℕ) (xs : List ℕ) → p x ≡ false → filter p (x ∷ xs) ≡ filter p xs
filter_no p x xs f = rw f refl

-- what passes is an item still
pub Has-filter : (p : ℕ → Bool) (d : ℕ) (xs : List ℕ) → Has d xs → p d ≡ true → Has d (filter p xs)
Has-filter p d [] h t = absurd h
Has-filter p d (x ∷ xs) h t =
    ⊎_elim
    (λ px. subst (Has d) (sym (filter_yes p x xs px)) (⊎_elim inl (λ k. inr (Has-filter p d xs k t)) h))
    (λ fx. subst (Has d) (sym (filter_no p x xs fx)) (⊎_elim (λ e. absurd (false≢true (sym fx ∙ ap p e ∙ t))) (λ k. Has-filter p d xs k t) h))
    (cases_Bool (p x))

-- an item that is kept is an item that passes
pub filter-Has : (p : ℕ → Bool) (d : ℕ) (xs : List ℕ) → Has d (filter p xs) → Has d xs × (p d ≡ true)
filter-Has p d [] h = absurd h
filter-Has p d (x ∷ xs) h =
    ⊎_elim
    (λ px. ⊎_elim
    (λ e. (inl e, ap p (sym e) ∙ px))
    (λ k. let w = filter-Has p d xs k in (inr w.0, w.1))
    (subst (Has d) (filter_yes p x xs px) h))
    (λ fx. let w = filter-Has p d xs (subst (Has d) (filter_no p x xs fx) h) in (inr w.0, w.1))
    (cases_Bool (p x))

-- distinct items stay distinct
pub filter-Distinct : (p : ℕ → Bool) (xs : List ℕ) → Distinct xs → Distinct (filter p xs)
filter-Distinct p [] dis = tt
filter-Distinct p (x ∷ xs) dis =
    ⊎_elim
    (λ px. subst Distinct (sym (filter_yes p x xs px)) (Lacks-from x (filter p xs) (λ h. has_lacks x xs (filter-Has p x xs h).0 dis.0), filter-Distinct p xs dis.1))
    (λ fx. subst Distinct (sym (filter_no p x xs fx)) (filter-Distinct p xs dis.1))
    (cases_Bool (p x))

-- where all items pass, nothing changes
pub filter_all : (p : ℕ → Bool) (xs : List ℕ) → ((d : ℕ) → Has d xs → p d ≡ true) → filter p xs ≡ xs
filter_all p [] all = refl
filter_all p (x ∷ xs) all = filter_yes p x xs (all x (inl refl)) ∙ ap (λ ys. x ∷ ys) (filter_all p xs (λ d h. all d (inr h)))

-- tests that agree on the items keep the same
pub filter_agree : (p q : ℕ → Bool) (xs : List ℕ) → ((d : ℕ) → Has d xs → p d ≡ q d) → filter p xs ≡ filter q xs
filter_agree p q [] same = refl
filter_agree p q (x ∷ xs) same =
    let rest : filter p xs ≡ filter q xs = filter_agree p q xs (λ d h. same d (inr h)) in
    ⊎_elim
    (λ px. filter_yes p x xs px ∙ ap (λ ys. x ∷ ys) rest ∙ sym (filter_yes q x xs (sym (same x (inl refl)) ∙ px)))
    (λ fx. filter_no p x xs fx ∙ rest ∙ sym (filter_no q x xs (sym (same x (inl refl)) ∙ fx)))
    (cases_Bool (p x))

-- two tests one after the other are one test
pub filter_twice : (p q r : ℕ → Bool) (xs : List ℕ) → ((x : ℕ) → r x ≡ (p x && q x)) →
    filter q (filter p xs) ≡ filter r xs
filter_twice p q r [] both = refl
filter_twice p q r (x ∷ xs) both =
    ⊎_elim
    (λ t. ap (filter q) (filter_yes p x xs t) ∙ ⊎_elim
    (λ u. filter_yes q x (filter p xs) u ∙ ap (λ ys. x ∷ ys) (filter_twice p q r xs both) ∙ sym (filter_yes r x xs (both x ∙ ap₂ (λ a b. a && b) t u)))
    (λ u. filter_no q x (filter p xs) u ∙ filter_twice p q r xs both ∙ sym (filter_no r x xs (both x ∙ ap₂ (λ a b. a && b) t u)))
    (cases_Bool (q x)))
    (λ u. ap (filter q) (filter_no p x xs u) ∙ filter_twice p q r xs both ∙ sym (filter_no r x xs (both x ∙ ap (λ a. a && q x) u)))
    (cases_Bool (p x))

-- new numbers for what passes one test, and then for what passes another
pub map_filtered : (s t g : ℕ → ℕ) (p q k : ℕ → Bool) (xs : List ℕ) → ((d : ℕ) → g d ≡ t (s d)) →
    ((d : ℕ) → k d ≡ (p d && q (s d))) → map t (filter q (map s (filter p xs))) ≡ map g (filter k xs)
map_filtered s t g p q k [] one both = refl
map_filtered s t g p q k (x ∷ xs) one both =
    let rest : map t (filter q (map s (filter p xs))) ≡ map g (filter k xs) = map_filtered s t g p q k xs one both in
    ⊎_elim
    (λ px. ap (λ ys. map t (filter q (map s ys))) (filter_yes p x xs px) ∙ ⊎_elim
    (λ qx. ap (map t) (filter_yes q (s x) (map s (filter p xs)) qx) ∙ ap₂ (λ (y : ℕ) (ys : List ℕ). y ∷ ys) (sym (one x)) rest ∙ sym (ap (map g) (filter_yes k x xs (both x ∙ ap₂ (λ a b. a && b) px qx))))
    (λ fx. ap (map t) (filter_no q (s x) (map s (filter p xs)) fx) ∙ rest ∙ sym (ap (map g) (filter_no k x xs (both x ∙ ap₂ (λ a b. a && b) px fx))))
    (cases_Bool (q (s x))))
    (λ fx. ap (λ ys. map t (filter q (map s ys))) (filter_no p x xs fx) ∙ rest ∙ sym (ap (map g) (filter_no k x xs (both x ∙ ap (λ a. a && q (s x)) fx))))
    (cases_Bool (p x))

-- the head of what is kept, where the head passes
head_kept : (p : ℕ → Bool) (first other : ℕ) (xs : List ℕ) → (p first ≡ true → other ≡ first) →
    p (head_or first xs) ≡ true → head_or other (filter p xs) ≡ head_or first xs
head_kept p first other [] same t = same t
head_kept p first other (x ∷ xs) same t = ap (head_or other) (filter_yes p x xs t)

-- behind an item that is kept comes what came behind it, if that is kept too
next_kept : (p : ℕ → Bool) (first other d : ℕ) (xs : List ℕ) → (p first ≡ true → other ≡ first) → Has d xs →
    p d ≡ true → p (next_from first xs d) ≡ true → next_from other (filter p xs) d ≡ next_from first xs d
next_kept p first other d [] same h t k = absurd h
next_kept p first other d (x ∷ xs) same h t k =
    ⊎_elim
    (λ e.
    let here : next_from first (x ∷ xs) d ≡ head_or first xs = next_from_at first d x xs e in
    ap (λ ys. next_from other ys d) (filter_yes p x xs (ap p e ∙ t)) ∙ next_from_at other d x (filter p xs) e ∙ head_kept p first other xs same (ap p (sym here) ∙ k) ∙ sym here)
    (λ ne.
    let past : next_from first (x ∷ xs) d ≡ next_from first xs d = next_from_other first d x xs ne in
    let rest : next_from other (filter p xs) d ≡ next_from first xs d = next_kept p first other d xs same (⊎_elim (λ e. absurd (ne e)) (λ m. m) h) t (ap p (sym past) ∙ k) in
    ⊎_elim
    (λ px. ap (λ ys. next_from other ys d) (filter_yes p x xs px) ∙ next_from_other other d x (filter p xs) ne ∙ rest ∙ sym past)
    (λ fx. ap (λ ys. next_from other ys d) (filter_no p x xs fx) ∙ rest ∙ sym past)
    (cases_Bool (p x)))
    (cases_eq x d)

-- behind an item that is kept comes what came behind it, if that is kept too, in a cyclic list
pub follow_kept : (p : ℕ → Bool) (d : ℕ) (xs : List ℕ) → Has d xs → p d ≡ true → p (follow xs d) ≡ true →
    follow (filter p xs) d ≡ follow xs d
follow_kept p d [] h t k = absurd h
follow_kept p d (x ∷ xs) h t k = next_kept p x (head_or 0 (filter p (x ∷ xs))) d (x ∷ xs) (λ px. ap (head_or 0) (filter_yes p x xs px)) h t k
