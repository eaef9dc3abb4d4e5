-- Lists that are turns of each other.
use Rattle.std.proofs.Common.{◌≡◌, ℕ, ◌↔◌, ◌⊎◌, Bool, List, [], ◌∷◌, ◌++◌, length, take, drop, map, reverse, sym, refl, ap, ap₂, ◌∙◌, subst, inl, inr, ⊎_elim, arith, append-nil, append_assoc, take-append-drop, length-append, take_at, drop_at}
use Rattle.std.specs.List.{filter}
use Rattle.std.proofs.lemmas.List.{map-append, reverse-append, reverse-reverse}
use Rattle.std.proofs.lemmas.List.Elements.{filter-append}
use Rattle.cp_lists.specs.CyclicLists.{Has, Lacks, Distinct, head_or, follow}
use Rattle.cp_lists.specs.Turns.{IsTurn}
use Rattle.cp_lists.proofs.DistinctLists.{has_lacks, Has-append_right, Has-split, Has-turn, Distinct-turn}
use Rattle.cp_lists.proofs.MappedLists.{map_undone}
use Rattle.cp_lists.proofs.ReversedLists.{map-reverse}
use Rattle.cp_lists.proofs.CyclicLists.{follow-turn}
use Rattle.cp_lists.proofs.FollowedLists.{turn_from_follow}

-- a turn has the same items behind its items
pub turn-follow : (xs ys : List ℕ) (d : ℕ) → Distinct xs → IsTurn xs ys → Has d xs → follow ys d ≡ follow xs d
turn-follow xs ys d dis turn h =
    let parts : take turn.0 xs ++ drop turn.0 xs ≡ xs = take-append-drop turn.0 xs in
    ap (λ zs. follow zs d) turn.2 ∙ follow-turn d (take turn.0 xs) (drop turn.0 xs) (subst Distinct (sym parts) dis) (subst (Has d) (sym parts) h) ∙ ap (λ zs. follow zs d) parts

-- a turn has the same items
pub turn-Has : (xs ys : List ℕ) (d : ℕ) → IsTurn xs ys → Has d xs → Has d ys
turn-Has xs ys d turn h =
    subst (Has d) (sym turn.2) (Has-turn d (take turn.0 xs) (drop turn.0 xs) (subst (Has d) (sym (take-append-drop turn.0 xs)) h))

-- and no others
pub Has-of_turn : (xs ys : List ℕ) (d : ℕ) → IsTurn xs ys → Has d ys → Has d xs
Has-of_turn xs ys d turn h = subst (Has d) (take-append-drop turn.0 xs) (Has-turn d (drop turn.0 xs) (take turn.0 xs) (subst (Has d) turn.2 h))

-- distinct items are distinct in a turn
pub turn-Distinct : (xs ys : List ℕ) → IsTurn xs ys → Distinct xs → Distinct ys
turn-Distinct xs ys turn dis = subst Distinct (sym turn.2) (Distinct-turn (take turn.0 xs) (drop turn.0 xs) (subst Distinct (sym (take-append-drop turn.0 xs)) dis))

-- two lists with the same items behind the same items are turns
pub turn_from : (xs ys : List ℕ) → Distinct xs → Distinct ys → ((d : ℕ) → Has d xs ↔ Has d ys) →
    ((d : ℕ) → Has d xs → follow xs d ≡ follow ys d) → IsTurn xs ys
turn_from xs ys dx dy same behind =
    let w = turn_from_follow xs ys dx dy same behind in (
      length w.0,
      omega (arith, ap (λ zs. length zs) w.2, length-append w.0 w.1),
      w.3 ∙ sym (ap (λ zs. drop (length w.0) zs ++ take (length w.0) zs) w.2 ∙ ap₂ (λ us vs. us ++ vs) (drop_at w.0 w.1 (length w.0) refl) (take_at w.0 w.1 (length w.0) refl)),
    )

-- the two parts of a list in the other order are a turn of it
pub turn_parts : (ps qs : List ℕ) → IsTurn (ps ++ qs) (qs ++ ps)
turn_parts ps qs = (
  length ps,
  omega (arith, length-append ps qs),
  sym (ap₂ (λ us vs. us ++ vs) (drop_at ps qs (length ps) refl) (take_at ps qs (length ps) refl)),
)

-- a turn has the parts of the list in the other order
pub parts_of_turn : (xs ys : List ℕ) → IsTurn xs ys → (ps : List ℕ) × (qs : List ℕ) × (xs ≡ ps ++ qs) × (ys ≡ qs ++ ps)
parts_of_turn xs ys turn = (take turn.0 xs, drop turn.0 xs, sym (take-append-drop turn.0 xs), turn.2)

-- lists with the same parts in the other order are turns
pub turn_from_parts : (xs ys ps qs : List ℕ) → xs ≡ ps ++ qs → ys ≡ qs ++ ps → IsTurn xs ys
turn_from_parts xs ys ps qs whole turned =
    subst (λ us. IsTurn us ys) (sym whole) (subst (IsTurn (ps ++ qs)) (sym turned) (turn_parts ps qs))

-- a list is a turn of itself
pub turn-refl : (xs : List ℕ) → IsTurn xs xs
turn-refl xs = turn_from_parts xs xs [] xs refl (sym (append-nil xs))

-- a turn turned back
pub turn-sym : (xs ys : List ℕ) → IsTurn xs ys → IsTurn ys xs
turn-sym xs ys turn = let w = parts_of_turn xs ys turn in turn_from_parts ys xs w.1 w.0 w.3 w.2

-- of two ways to cut a list in two one cuts no later than the other
pub cut_twice : (us vs ws zs : List ℕ) → us ++ vs ≡ ws ++ zs →
    ((es : List ℕ) × (us ≡ ws ++ es) × (zs ≡ es ++ vs)) ⊎ ((es : List ℕ) × (ws ≡ us ++ es) × (vs ≡ es ++ zs))
cut_twice [] vs ws zs same = inr (ws, refl, same)
cut_twice (u ∷ us) vs [] zs same = inl (u ∷ us, refl, sym same)
cut_twice (u ∷ us) vs (w ∷ ws) zs same =
    let head : u ≡ w = ap (head_or u) same in
    ⊎_elim
    (λ t. inl (t.0, ap₂ (λ x xs. x ∷ xs) head t.1, t.2))
    (λ t. inr (t.0, ap₂ (λ x xs. x ∷ xs) (sym head) t.1, t.2))
    (cut_twice us vs ws zs (ap (drop 1) same))

-- a turn of a turn
pub turn-trans : (xs ys zs : List ℕ) → IsTurn xs ys → IsTurn ys zs → IsTurn xs zs
turn-trans xs ys zs one two =
    let v = parts_of_turn xs ys one in
    let w = parts_of_turn ys zs two in
    ⊎_elim
    (λ e. turn_from_parts xs zs (v.0 ++ w.0) e.0
    (v.2 ∙ ap (λ us. v.0 ++ us) e.1 ∙ sym (append_assoc v.0 w.0 e.0))
    (w.3 ∙ ap (λ us. us ++ w.0) e.2 ∙ append_assoc e.0 v.0 w.0))
    (λ e. turn_from_parts xs zs e.0 (w.1 ++ v.1)
    (v.2 ∙ ap (λ us. us ++ v.1) e.2 ∙ append_assoc e.0 w.1 v.1)
    (w.3 ∙ ap (λ us. w.1 ++ us) e.1 ∙ sym (append_assoc w.1 v.1 e.0)))
    (cut_twice v.1 v.0 w.0 w.1 (sym v.3 ∙ w.2))

-- a turn is as long as the list
pub turn-length : (xs ys : List ℕ) → IsTurn xs ys → length ys ≡ length xs
turn-length xs ys turn =
    let w = parts_of_turn xs ys turn in
    ap length w.3 ∙ length-append w.1 w.0 ∙ omega (arith, ap length w.2, length-append w.0 w.1)

-- the images of a turn are a turn of the images
pub turn-map : (f : ℕ → ℕ) (xs ys : List ℕ) → IsTurn xs ys → IsTurn (map f xs) (map f ys)
turn-map f xs ys turn =
    let w = parts_of_turn xs ys turn in
    turn_from_parts (map f xs) (map f ys) (map f w.0) (map f w.1)
    (ap (map f) w.2 ∙ map-append f w.0 w.1)
    (ap (map f) w.3 ∙ map-append f w.1 w.0)

-- a turn in reverse is a turn of the list in reverse
pub turn-reverse : (xs ys : List ℕ) → IsTurn xs ys → IsTurn (reverse xs) (reverse ys)
turn-reverse xs ys turn =
    let w = parts_of_turn xs ys turn in
    turn_from_parts (reverse xs) (reverse ys) (reverse w.1) (reverse w.0)
    (ap reverse w.2 ∙ reverse-append w.0 w.1)
    (ap reverse w.3 ∙ reverse-append w.1 w.0)

-- what a turn keeps by a test is a turn of what the list keeps by it
pub turn-filter : (p : ℕ → Bool) (xs ys : List ℕ) → IsTurn xs ys → IsTurn (filter p xs) (filter p ys)
turn-filter p xs ys turn =
    let w = parts_of_turn xs ys turn in
    turn_from_parts (filter p xs) (filter p ys) (filter p w.0) (filter p w.1)
    (ap (filter p) w.2 ∙ filter-append p w.0 w.1)
    (ap (filter p) w.3 ∙ filter-append p w.1 w.0)

-- each item begins a turn
pub turn_to_item : (x : ℕ) (xs : List ℕ) → Has x xs → (ys : List ℕ) × IsTurn xs (x ∷ ys)
turn_to_item x xs has =
    let s = Has-split x xs has in
    (s.1 ++ s.0, turn_from_parts xs (x ∷ (s.1 ++ s.0)) s.0 (x ∷ s.1) s.2 refl)

-- a list whose first item stands but once, read from that item: what comes in front of it is empty
same_rest : (x : ℕ) (xs ys ps qs : List ℕ) → Lacks x xs → x ∷ xs ≡ ps ++ qs → x ∷ ys ≡ qs ++ ps → xs ≡ ys
same_rest x xs ys [] qs lacks whole turned = ap (drop 1) (whole ∙ sym (append-nil qs) ∙ sym turned)
same_rest x xs ys (p ∷ ps) [] lacks whole turned = ap (drop 1) (whole ∙ append-nil (p ∷ ps) ∙ sym turned)
same_rest x xs ys (p ∷ ps) (q ∷ qs) lacks whole turned =
    let rest : xs ≡ ps ++ q ∷ qs = ap (drop 1) whole in
    absurd (has_lacks x xs (subst (Has x) (sym rest) (Has-append_right x ps (q ∷ qs) (inl (sym (ap (head_or x) turned))))) lacks)

-- two turns that begin with an item that stands but once are equal
pub turn_same : (x : ℕ) (xs ys : List ℕ) → Lacks x xs → IsTurn (x ∷ xs) (x ∷ ys) → xs ≡ ys
turn_same x xs ys lacks turn =
    let w = parts_of_turn (x ∷ xs) (x ∷ ys) turn in same_rest x xs ys w.0 w.1 lacks w.2 w.3

-- an item of a distinct list begins one turn of it alone
pub turn_to_item-unique : (x : ℕ) (xs ys zs : List ℕ) → Distinct xs → IsTurn xs (x ∷ ys) → IsTurn xs (x ∷ zs) → ys ≡ zs
turn_to_item-unique x xs ys zs dis one two =
    turn_same x ys zs (turn-Distinct xs (x ∷ ys) one dis).0
    (turn-trans (x ∷ ys) xs (x ∷ zs) (turn-sym xs (x ∷ ys) one) two)

-- in reverse the first item can stay first
pub turn_reverse_head : (x : ℕ) (xs : List ℕ) → IsTurn (reverse (x ∷ xs)) (x ∷ reverse xs)
turn_reverse_head x xs =
    turn_from_parts (reverse (x ∷ xs)) (x ∷ reverse xs) (reverse xs) (x ∷ []) (reverse-append (x ∷ []) xs) refl

-- a list that is, up to a turn, the reverse of the images of another, seen from the other: g undoes f
pub turn_mirrored : (f g : ℕ → ℕ) (xs ys : List ℕ) → ((y : ℕ) → Has y ys → g (f y) ≡ y) →
    IsTurn xs (reverse (map f ys)) → IsTurn ys (reverse (map g xs))
turn_mirrored f g xs ys undone turn =
    let back : reverse (map g (reverse (map f ys))) ≡ ys =
    sym (map-reverse g (reverse (map f ys))) ∙ ap (map g) (reverse-reverse (map f ys)) ∙ map_undone f g ys undone
    in
    turn-sym (reverse (map g xs)) ys
    (subst (IsTurn (reverse (map g xs))) back
    (turn-reverse (map g xs) (map g (reverse (map f ys))) (turn-map g xs (reverse (map f ys)) turn)))
