-- Items that stand in a list in an order.
use Rattle.std.proofs.Common.{◌≡◌, ℕ, Bool, List, [], ◌∷◌, ◌++◌, map, reverse, append-nil, sym, refl, ap, ap₂, ◌∙◌, subst, inl, inr, ⊎_elim}
use Rattle.std.specs.List.{filter}
use Rattle.std.proofs.lemmas.Bool.{cases_Bool}
use Rattle.cp_lists.specs.CyclicLists.{Has}
use Rattle.cp_lists.specs.Crossings.{InOrder}
use Rattle.cp_lists.proofs.FilteredLists.{filter_yes, filter_no}
use Rattle.cp_lists.proofs.ReversedLists.{reverse-cons}

-- with more items in front
pub order_right : (ws xs ys : List ℕ) → InOrder ws ys → InOrder ws (xs ++ ys)
order_right [] xs ys h = tt
order_right (w ∷ ws) [] ys h = h
order_right (w ∷ ws) (x ∷ xs) ys h = inr (order_right (w ∷ ws) xs ys h)

-- in two parts
pub order_append : (us vs xs ys : List ℕ) → InOrder us xs → InOrder vs ys → InOrder (us ++ vs) (xs ++ ys)
order_append [] vs xs ys one two = order_right vs xs ys two
order_append (u ∷ us) vs [] ys one two = absurd one
order_append (u ∷ us) vs (x ∷ xs) ys one two =
    ⊎_elim (λ h. inl (h.0, order_append us vs xs ys h.1 two)) (λ h. inr (order_append (u ∷ us) vs xs ys h two)) one

-- with more items behind
pub order_left : (ws xs ys : List ℕ) → InOrder ws xs → InOrder ws (xs ++ ys)
order_left ws xs ys h = subst (λ us. InOrder us (xs ++ ys)) (append-nil ws) (order_append ws [] xs ys h tt)

-- one item
pub order_one : (d : ℕ) (xs : List ℕ) → Has d xs → InOrder (d ∷ []) xs
order_one d [] h = absurd h
order_one d (x ∷ xs) h = ⊎_elim (λ e. inl (e, tt)) (λ k. inr (order_one d xs k)) h

-- what stands in a list in an order is in it
pub order_Has : (d : ℕ) (ws xs : List ℕ) → InOrder ws xs → Has d ws → Has d xs
order_Has d [] xs h has = absurd has
order_Has d (w ∷ ws) [] h has = absurd h
order_Has d (w ∷ ws) (x ∷ xs) h has =
    ⊎_elim
    (λ k. ⊎_elim (λ e. inl (k.0 ∙ e)) (λ m. inr (order_Has d ws xs k.1 m)) has)
    (λ k. inr (order_Has d (w ∷ ws) xs k has))
    h

-- an order in a whole is one in its first part and one in its second
pub order_split : (ws xs ys : List ℕ) → InOrder ws (xs ++ ys) →
    (us : List ℕ) × (vs : List ℕ) × (ws ≡ us ++ vs) × InOrder us xs × InOrder vs ys
order_split [] xs ys h = ([], [], refl, tt, tt)
order_split (w ∷ ws) [] ys h = ([], w ∷ ws, refl, tt, h)
order_split (w ∷ ws) (x ∷ xs) ys h =
    ⊎_elim
    (λ k. let r = order_split ws xs ys k.1 in (w ∷ r.0, r.1, ap (λ us. w ∷ us) r.2, inl (k.0, r.3), r.4))
    (λ k. let r = order_split (w ∷ ws) xs ys k in (r.0, r.1, r.2, front r.0 r.3, r.4))
    h
  where
    front : (us : List ℕ) → InOrder us xs → InOrder us (x ∷ xs)
    front [] k = tt
    front (u ∷ us) k = inr k

-- behind its first item the list has the others in order
pub order_cut : (w : ℕ) (ws xs : List ℕ) → InOrder (w ∷ ws) xs →
    (us : List ℕ) × (vs : List ℕ) × (xs ≡ us ++ w ∷ vs) × InOrder ws vs
order_cut w ws [] h = absurd h
order_cut w ws (x ∷ xs) h =
    ⊎_elim
    (λ k. ([], xs, ap (λ y. y ∷ xs) k.0, k.1))
    (λ k. let r = order_cut w ws xs k in (x ∷ r.0, r.1, ap (λ us. x ∷ us) r.2, r.3))
    h

-- in reverse they stand in the reverse order
pub order_reverse : (ws xs : List ℕ) → InOrder ws xs → InOrder (reverse ws) (reverse xs)
order_reverse [] xs h = tt
order_reverse (w ∷ ws) [] h = absurd h
order_reverse (w ∷ ws) (x ∷ xs) h =
    subst (InOrder (reverse (w ∷ ws))) (sym (reverse-cons x xs))
    (⊎_elim
    (λ k. subst (λ us. InOrder us (reverse xs ++ x ∷ [])) (sym (reverse-cons w ws))
    (order_append (reverse ws) (w ∷ []) (reverse xs) (x ∷ []) (order_reverse ws xs k.1) (inl (k.0, tt))))
    (λ k. order_left (reverse (w ∷ ws)) (reverse xs) (x ∷ []) (order_reverse (w ∷ ws) xs k))
    h)

-- the images stand in the same order
pub order_map : (f : ℕ → ℕ) (ws xs : List ℕ) → InOrder ws xs → InOrder (map f ws) (map f xs)
order_map f [] xs h = tt
order_map f (w ∷ ws) [] h = absurd h
order_map f (w ∷ ws) (x ∷ xs) h =
    ⊎_elim (λ k. inl (ap f k.0, order_map f ws xs k.1)) (λ k. inr (order_map f (w ∷ ws) xs k)) h

-- what stands in an order among the images are images in that order
pub map_order : (f : ℕ → ℕ) (ws xs : List ℕ) → InOrder ws (map f xs) → (us : List ℕ) × InOrder us xs × (map f us ≡ ws)
map_order f [] xs h = ([], tt, refl)
map_order f (w ∷ ws) [] h = absurd h
map_order f (w ∷ ws) (x ∷ xs) h =
    ⊎_elim
    (λ k. let r = map_order f ws xs k.1 in (x ∷ r.0, inl (refl, r.1), ap₂ (λ y ys. y ∷ ys) k.0 r.2))
    (λ k. let r = map_order f (w ∷ ws) xs k in (r.0, front r.0 r.1, r.2))
    h
  where
    front : (us : List ℕ) → InOrder us xs → InOrder us (x ∷ xs)
    front [] k = tt
    front (u ∷ us) k = inr k

-- what stands in an order among the items that a test keeps stands so in the list
pub filter_order : (p : ℕ → Bool) (ws xs : List ℕ) → InOrder ws (filter p xs) → InOrder ws xs
filter_order p [] xs h = tt
filter_order p (w ∷ ws) [] h = absurd h
filter_order p (w ∷ ws) (x ∷ xs) h =
    ⊎_elim
    (λ t. ⊎_elim
    (λ k. inl (k.0, filter_order p ws xs k.1))
    (λ k. inr (filter_order p (w ∷ ws) xs k))
    (subst (InOrder (w ∷ ws)) (filter_yes p x xs t) h))
    (λ f. inr (filter_order p (w ∷ ws) xs (subst (InOrder (w ∷ ws)) (filter_no p x xs f) h)))
    (cases_Bool (p x))
