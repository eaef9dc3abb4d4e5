-- Lists with other names for their items.
use Rattle.std.proofs.Common.{◌≡◌, ℕ, List, [], ◌∷◌, map, sym, refl, ap, ap₂, ◌∙◌, subst, inl, inr, ⊎_elim}
use Rattle.std.proofs.lemmas.Bool.{cases_eq}
use Rattle.cp_lists.specs.CyclicLists.{Has, Distinct, head_or, next_from, follow}
use Rattle.cp_lists.proofs.DistinctLists.{has_lacks, Lacks-from}
use Rattle.cp_lists.proofs.CyclicLists.{next_from_at, next_from_other}

-- a named item is one of the named items
pub Has-map_on : (h : ℕ → ℕ) (d : ℕ) (xs : List ℕ) → Has d xs → Has (h d) (map h xs)
Has-map_on h d [] has = absurd has
Has-map_on h d (x ∷ xs) has = ⊎_elim (λ e. inl (ap h e)) (λ k. inr (Has-map_on h d xs k)) has

-- one of the named items is a named item
pub map_on-Has : (h : ℕ → ℕ) (e : ℕ) (xs : List ℕ) → Has e (map h xs) → (d : ℕ) × Has d xs × (h d ≡ e)
map_on-Has h e [] has = absurd has
map_on-Has h e (x ∷ xs) has = ⊎_elim (λ same. (x, inl refl, same)) (λ k. let w = map_on-Has h e xs k in (w.0, inr w.1, w.2)) has

-- the head of the named items
head_or-map_on : (h : ℕ → ℕ) (z : ℕ) (xs : List ℕ) → head_or (h z) (map h xs) ≡ h (head_or z xs)
head_or-map_on h z [] = refl
head_or-map_on h z (x ∷ xs) = refl

-- behind a named item comes the name of what is behind it
next_from-map_on : (h : ℕ → ℕ) (first d : ℕ) (xs : List ℕ) → ((x : ℕ) → Has x xs → h x ≡ h d → x ≡ d) →
    next_from (h first) (map h xs) (h d) ≡ h (next_from first xs d)
next_from-map_on h first d [] apart = refl
next_from-map_on h first d (x ∷ xs) apart =
    ⊎_elim
    (λ e. next_from_at (h first) (h d) (h x) (map h xs) (ap h e) ∙ head_or-map_on h first xs ∙ ap h (sym (next_from_at first d x xs e)))
    (λ ne. next_from_other (h first) (h d) (h x) (map h xs) (λ e. ne (apart x (inl refl) e)) ∙ next_from-map_on h first d xs (λ y k. apart y (inr k)) ∙ ap h (sym (next_from_other first d x xs ne)))
    (cases_eq x d)

-- the same in a cyclic list
pub follow-map_on : (h : ℕ → ℕ) (d : ℕ) (xs : List ℕ) → ((x : ℕ) → Has x xs → h x ≡ h d → x ≡ d) → Has d xs →
    follow (map h xs) (h d) ≡ h (follow xs d)
follow-map_on h d [] apart has = absurd has
follow-map_on h d (x ∷ xs) apart has = next_from-map_on h x d (x ∷ xs) apart

-- distinct items have distinct names
pub Distinct-map_on : (h : ℕ → ℕ) (xs : List ℕ) → ((x y : ℕ) → Has x xs → Has y xs → h x ≡ h y → x ≡ y) → Distinct xs →
    Distinct (map h xs)
Distinct-map_on h [] apart dis = tt
Distinct-map_on h (x ∷ xs) apart dis = (
  Lacks-from (h x) (map h xs) (λ has. let w = map_on-Has h (h x) xs has in has_lacks x xs (subst (λ y. Has y xs) (apart w.0 x (inr w.1) (inl refl) w.2) w.1) dis.0),
  Distinct-map_on h xs (λ y z ky kz. apart y z (inr ky) (inr kz)) dis.1,
)

-- names that agree on the items give the same list
pub map_agree_on : (h k : ℕ → ℕ) (xs : List ℕ) → ((x : ℕ) → Has x xs → h x ≡ k x) → map h xs ≡ map k xs
map_agree_on h k [] same = refl
map_agree_on h k (x ∷ xs) same = ap₂ (λ y ys. y ∷ ys) (same x (inl refl)) (map_agree_on h k xs (λ y l. same y (inr l)))

-- where the names are distinct, different items have different names
pub Distinct-map_on_apart : (h : ℕ → ℕ) (xs : List ℕ) (x y : ℕ) → Distinct (map h xs) → Has x xs → Has y xs →
    h x ≡ h y → x ≡ y
Distinct-map_on_apart h [] x y dis hx hy e = absurd hx
Distinct-map_on_apart h (z ∷ xs) x y dis hx hy e =
    ⊎_elim
    (λ a. ⊎_elim
    (λ b. sym a ∙ b)
    (λ b. absurd (has_lacks (h z) (map h xs) (subst (λ w. Has w (map h xs)) (sym (ap h a ∙ e)) (Has-map_on h y xs b)) dis.0))
    hy)
    (λ a. ⊎_elim
    (λ b. absurd (has_lacks (h z) (map h xs) (subst (λ w. Has w (map h xs)) (e ∙ sym (ap h b)) (Has-map_on h x xs a)) dis.0))
    (λ b. Distinct-map_on_apart h xs x y dis.1 a b e)
    hy)
    hx

-- new names and then the old names again change nothing
pub map_undone : (h k : ℕ → ℕ) (xs : List ℕ) → ((x : ℕ) → Has x xs → k (h x) ≡ x) → map k (map h xs) ≡ xs
map_undone h k [] undone = refl
map_undone h k (x ∷ xs) undone = ap₂ (λ y ys. y ∷ ys) (undone x (inl refl)) (map_undone h k xs (λ y has. undone y (inr has)))
