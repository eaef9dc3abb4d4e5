-- Turns of lists of at most three items.
use Rattle.std.proofs.Common.{◌≡◌, ◌≢◌, ℕ, ◌<◌, ◌≤◌, ◌⊎◌, ◌↔◌, List, [], ◌∷◌, length, sym, refl, ap, ◌∙◌, subst, inl, inr, ⊎_elim, arith}
use Rattle.cp_lists.specs.CyclicLists.{Has, Distinct, head_or}
use Rattle.cp_lists.specs.Turns.{IsTurn}
use Rattle.cp_lists.proofs.DistinctLists.{has_lacks}
use Rattle.cp_lists.proofs.TurnedLists.{turn-refl, turn-sym, turn-trans, turn_parts, turn_same, turn-Distinct, turn-Has, Has-of_turn, turn_to_item}

-- a list without items is empty
nothing : (ys : List ℕ) → ((d : ℕ) → Has d ys → ⊥) → ys ≡ []
nothing [] none = refl
nothing (y ∷ ys) none = absurd (none y (inl refl))

-- a distinct list of one item
single : (x : ℕ) (ys : List ℕ) → Distinct ys → Has x ys → ((d : ℕ) → Has d ys → d ≡ x) → ys ≡ x ∷ []
single x [] dis has all = absurd has
single x (y ∷ ys) dis has all =
    let same : y ≡ x = all y (inl refl) in
    ap (λ z. z ∷ ys) same
    ∙ ap (λ zs. x ∷ zs) (nothing ys (λ d h. has_lacks y ys (subst (λ z. Has z ys) (all d (inr h) ∙ sym same) h) dis.0))

-- the item of a list of one that is not the head
behind : (x : ℕ) (xs : List ℕ) (d : ℕ) → d ≢ x → Has d (x ∷ xs) → Has d xs
behind x xs d ne has = ⊎_elim (λ e. absurd (ne (sym e))) (λ h. h) has

-- two distinct lists of the same one or two items are turns of each other
pub turn_of_two : (x y : ℕ) (ys : List ℕ) → Distinct ys → x ≢ y → ((d : ℕ) → Has d ys ↔ Has d (x ∷ y ∷ [])) →
    IsTurn (x ∷ y ∷ []) ys
turn_of_two x y ys dis ne same =
    let w = turn_to_item x ys ((same x).1 (inl refl)) in
    let apart : Distinct (x ∷ w.0) = turn-Distinct ys (x ∷ w.0) w.1 dis in
    let rest : w.0 ≡ y ∷ [] = single y w.0 apart.1
    (behind x w.0 y (λ e. ne (sym e)) (turn-Has ys (x ∷ w.0) y w.1 ((same y).1 (inr (inl refl)))))
    (λ d h. ⊎_elim
    (λ e. absurd (has_lacks x w.0 (subst (λ z. Has z w.0) (sym e) h) apart.0))
    (λ k. ⊎_elim (λ e. sym e) (λ n. absurd n) k)
    ((same d).0 (Has-of_turn ys (x ∷ w.0) d w.1 (inr h))))
    in
    turn-sym ys (x ∷ y ∷ []) (subst (λ zs. IsTurn ys (x ∷ zs)) rest w.1)

-- two distinct lists of the same items, at most two, are turns of each other
pub turn_of_at_most_two : (xs ys : List ℕ) → Distinct xs → Distinct ys → ((d : ℕ) → Has d ys ↔ Has d xs) →
    length xs ≤ 2 → IsTurn xs ys
turn_of_at_most_two [] ys dx dy same le = subst (IsTurn []) (sym (nothing ys (λ d h. (same d).0 h))) (turn-refl [])
turn_of_at_most_two (x ∷ []) ys dx dy same le =
    subst (IsTurn (x ∷ [])) (sym (single x ys dy ((same x).1 (inl refl)) (λ d h. ⊎_elim (λ e. sym e) (λ n. absurd n) ((same d).0 h))))
    (turn-refl (x ∷ []))
turn_of_at_most_two (x ∷ y ∷ []) ys dx dy same le = turn_of_two x y ys dy (λ e. dx.0.0 (sym e)) same
turn_of_at_most_two (x ∷ y ∷ z ∷ xs) ys dx dy same le = absurd (omega arith)

-- distinct lists of two items: the one order or the other
two_orders : (y z : ℕ) (ys : List ℕ) → Distinct ys → y ≢ z → ((d : ℕ) → Has d ys ↔ Has d (y ∷ z ∷ [])) →
    (ys ≡ y ∷ z ∷ []) ⊎ (ys ≡ z ∷ y ∷ [])
two_orders y z [] dis ne same = absurd ((same y).1 (inl refl))
two_orders y z (u ∷ us) dis ne same =
    ⊎_elim
    (λ e. inl (ap (λ w. w ∷ us) (sym e) ∙ ap (λ ws. y ∷ ws) (single z us dis.1
    (behind u us z (λ k. ne (e ∙ sym k)) ((same z).1 (inr (inl refl))))
    (λ d h. ⊎_elim (λ k. absurd (has_lacks u us (subst (λ w. Has w us) (sym k ∙ e) h) dis.0)) (λ k. ⊎_elim (λ q. sym q) (λ n. absurd n) k) ((same d).0 (inr h))))))
    (λ k. ⊎_elim
    (λ e. inr (ap (λ w. w ∷ us) (sym e) ∙ ap (λ ws. z ∷ ws) (single y us dis.1
    (behind u us y (λ q. ne (q ∙ sym e)) ((same y).1 (inl refl)))
    (λ d h. ⊎_elim (λ q. sym q) (λ q. ⊎_elim (λ r. absurd (has_lacks u us (subst (λ w. Has w us) (sym r ∙ e) h) dis.0)) (λ n. absurd n) q) ((same d).0 (inr h))))))
    (λ n. absurd n)
    k)
    ((same u).0 (inl refl))

-- a distinct list of three items is a turn of the one order or of the other
pub turn_of_three : (x y z : ℕ) (ws : List ℕ) → Distinct (x ∷ y ∷ z ∷ []) → Distinct ws →
    ((d : ℕ) → Has d ws ↔ Has d (x ∷ y ∷ z ∷ [])) →
    IsTurn (x ∷ y ∷ z ∷ []) ws ⊎ IsTurn (z ∷ y ∷ x ∷ []) ws
turn_of_three x y z ws dis dw same =
    let w = turn_to_item x ws ((same x).1 (inl refl)) in
    let apart : Distinct (x ∷ w.0) = turn-Distinct ws (x ∷ w.0) w.1 dw in
    let rest : (d : ℕ) → Has d w.0 ↔ Has d (y ∷ z ∷ []) = λ d. (
      λ h. ⊎_elim
          (λ e. absurd (has_lacks x w.0 (subst (λ u. Has u w.0) (sym e) h) apart.0))
          (λ k. k)
          ((same d).0 (Has-of_turn ws (x ∷ w.0) d w.1 (inr h))),
      λ h. behind x w.0 d
          (λ e. has_lacks x (y ∷ z ∷ []) (subst (λ u. Has u (y ∷ z ∷ [])) e h) dis.0)
          (turn-Has ws (x ∷ w.0) d w.1 ((same d).1 (inr h))),
    ) in
    ⊎_elim
    (λ e. inl (turn-sym ws (x ∷ y ∷ z ∷ []) (subst (λ us. IsTurn ws (x ∷ us)) e w.1)))
    (λ e. inr (turn-trans (z ∷ y ∷ x ∷ []) (x ∷ z ∷ y ∷ []) ws (turn_parts (z ∷ y ∷ []) (x ∷ []))
    (turn-sym ws (x ∷ z ∷ y ∷ []) (subst (λ us. IsTurn ws (x ∷ us)) e w.1))))
    (two_orders y z w.0 apart.1 (λ e. dis.1.0.0 (sym e)) rest)

-- and not of both
pub turn_of_three-not_both : (x y z : ℕ) (ws : List ℕ) → Distinct (x ∷ y ∷ z ∷ []) → IsTurn (x ∷ y ∷ z ∷ []) ws →
    IsTurn (z ∷ y ∷ x ∷ []) ws → ⊥
turn_of_three-not_both x y z ws dis one two =
    let both : IsTurn (x ∷ y ∷ z ∷ []) (x ∷ z ∷ y ∷ []) =
    turn-trans (x ∷ y ∷ z ∷ []) ws (x ∷ z ∷ y ∷ []) one
    (turn-trans ws (z ∷ y ∷ x ∷ []) (x ∷ z ∷ y ∷ []) (turn-sym (z ∷ y ∷ x ∷ []) ws two) (turn_parts (z ∷ y ∷ []) (x ∷ [])))
    in
    dis.1.0.0 (sym (ap (head_or 0) (turn_same x (y ∷ z ∷ []) (z ∷ y ∷ []) dis.0 both)))

-- numbers that rise are distinct
pub Distinct-rising_three : (x y z : ℕ) → x < y → y < z → Distinct (x ∷ y ∷ z ∷ [])
Distinct-rising_three x y z one two = (((λ e. omega arith), ((λ e. omega arith), tt)), (((λ e. omega arith), tt), (tt, tt)))
