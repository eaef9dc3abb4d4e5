-- What keeps items from standing crosswise in a cyclic list.
use Rattle.std.proofs.Common.{◌≡◌, ◌≢◌, ℕ, Bool, true, eqb, List, [], ◌∷◌, ◌++◌, drop, take, map, reverse, append_assoc, sym, refl, ap, ap₂, ◌∙◌, subst, inl, inr, ⊎_elim}
use Rattle.std.specs.List.{filter}
use Rattle.std.proofs.lemmas.Bool.{cases_Bool, cases_eq, eq-eqb, eqb-true}
use Rattle.std.proofs.lemmas.List.{map-append, reverse-reverse}
use Rattle.std.proofs.lemmas.List.Elements.{filter-append}
use Rattle.cp_lists.specs.CyclicLists.{Has, head_or}
use Rattle.cp_lists.specs.Turns.{IsTurn}
use Rattle.cp_lists.specs.Crossings.{InOrder, Crosses, NoCross}
use Rattle.cp_lists.proofs.FilteredLists.{filter_yes, filter_no}
use Rattle.cp_lists.proofs.TurnedLists.{parts_of_turn, turn_from_parts, turn-refl, turn-sym, turn-trans, turn-map, turn-reverse, Has-of_turn}
use Rattle.cp_lists.proofs.Orders.{order_right, order_append, order_Has, order_split, order_cut, order_reverse, order_map, map_order, filter_order}

-- items that stand crosswise in one list stand so in another of which a turn has them in that order
crossed : (p q : ℕ → Bool) (xs ys zs : List ℕ) → (cross : Crosses p q xs) → IsTurn ys zs →
    InOrder (cross.first ∷ cross.second ∷ cross.third ∷ cross.fourth ∷ []) zs → Crosses p q ys
crossed p q xs ys zs cross turn order = record {
  first = cross.first;
  second = cross.second;
  third = cross.third;
  fourth = cross.fourth;
  turned = zs;
  turn = turn;
  order = order;
  first_passes = cross.first_passes;
  second_passes = cross.second_passes;
  third_passes = cross.third_passes;
  fourth_passes = cross.fourth_passes;
}

-- they stand so in each turn
pub Crosses-turn : (p q : ℕ → Bool) (xs ys : List ℕ) → IsTurn xs ys → Crosses p q xs → Crosses p q ys
Crosses-turn p q xs ys turn cross =
    crossed p q xs ys cross.turned cross (turn-trans ys xs cross.turned (turn-sym xs ys turn) cross.turn) cross.order

-- it is the same which of the two tests comes first
pub Crosses-swap : (p q : ℕ → Bool) (xs : List ℕ) → Crosses p q xs → Crosses q p xs
Crosses-swap p q xs cross =
    let c = order_cut cross.first (cross.second ∷ cross.third ∷ cross.fourth ∷ []) cross.turned cross.order in
    let whole : cross.turned ≡ (c.0 ++ cross.first ∷ []) ++ c.1 = c.2 ∙ sym (append_assoc c.0 (cross.first ∷ []) c.1) in
    record {
      first = cross.second;
      second = cross.third;
      third = cross.fourth;
      fourth = cross.first;
      turned = c.1 ++ (c.0 ++ cross.first ∷ []);
      turn = turn-trans xs cross.turned (c.1 ++ (c.0 ++ cross.first ∷ [])) cross.turn
          (turn_from_parts cross.turned (c.1 ++ (c.0 ++ cross.first ∷ [])) (c.0 ++ cross.first ∷ []) c.1 whole refl);
      order = order_append (cross.second ∷ cross.third ∷ cross.fourth ∷ []) (cross.first ∷ []) c.1 (c.0 ++ cross.first ∷ []) c.3
          (order_append [] (cross.first ∷ []) c.0 (cross.first ∷ []) tt (inl (refl, tt)));
      first_passes = cross.second_passes;
      second_passes = cross.third_passes;
      third_passes = cross.fourth_passes;
      fourth_passes = cross.first_passes;
    }

-- they stand so in reverse
pub Crosses-reverse : (p q : ℕ → Bool) (xs : List ℕ) → Crosses p q xs → Crosses p q (reverse xs)
Crosses-reverse p q xs cross = Crosses-swap q p (reverse xs) (record {
  first = cross.fourth;
  second = cross.third;
  third = cross.second;
  fourth = cross.first;
  turned = reverse cross.turned;
  turn = turn-reverse xs cross.turned cross.turn;
  order = order_reverse (cross.first ∷ cross.second ∷ cross.third ∷ cross.fourth ∷ []) cross.turned cross.order;
  first_passes = cross.fourth_passes;
  second_passes = cross.third_passes;
  third_passes = cross.second_passes;
  fourth_passes = cross.first_passes;
})

-- and in reverse only if they do so forwards
pub reverse-Crosses : (p q : ℕ → Bool) (xs : List ℕ) → Crosses p q (reverse xs) → Crosses p q xs
reverse-Crosses p q xs cross = subst (Crosses p q) (reverse-reverse xs) (Crosses-reverse p q (reverse xs) cross)

-- weaker tests are crossed too
pub Crosses-weaker : (p q r s : ℕ → Bool) (xs : List ℕ) → ((x : ℕ) → Has x xs → p x ≡ true → r x ≡ true) →
    ((x : ℕ) → Has x xs → q x ≡ true → s x ≡ true) → Crosses p q xs → Crosses r s xs
Crosses-weaker p q r s xs one two cross = record {
  first = cross.first;
  second = cross.second;
  third = cross.third;
  fourth = cross.fourth;
  turned = cross.turned;
  turn = cross.turn;
  order = cross.order;
  first_passes = one cross.first (item cross.first (inl refl)) cross.first_passes;
  second_passes = two cross.second (item cross.second (inr (inl refl))) cross.second_passes;
  third_passes = one cross.third (item cross.third (inr (inr (inl refl)))) cross.third_passes;
  fourth_passes = two cross.fourth (item cross.fourth (inr (inr (inr (inl refl))))) cross.fourth_passes;
}
  where
    item : (x : ℕ) → Has x (cross.first ∷ cross.second ∷ cross.third ∷ cross.fourth ∷ []) → Has x xs
    item x has = Has-of_turn xs cross.turned x cross.turn
        (order_Has x (cross.first ∷ cross.second ∷ cross.third ∷ cross.fourth ∷ []) cross.turned cross.order has)

-- images stand crosswise where the items do
pub Crosses-map : (f : ℕ → ℕ) (p q : ℕ → Bool) (xs : List ℕ) → Crosses (λ x. p (f x)) (λ x. q (f x)) xs →
    Crosses p q (map f xs)
Crosses-map f p q xs cross = record {
  first = f cross.first;
  second = f cross.second;
  third = f cross.third;
  fourth = f cross.fourth;
  turned = map f cross.turned;
  turn = turn-map f xs cross.turned cross.turn;
  order = order_map f (cross.first ∷ cross.second ∷ cross.third ∷ cross.fourth ∷ []) cross.turned cross.order;
  first_passes = cross.first_passes;
  second_passes = cross.second_passes;
  third_passes = cross.third_passes;
  fourth_passes = cross.fourth_passes;
}

-- a cut of the images is a cut of the items
map_cut : (f : ℕ → ℕ) (xs us vs : List ℕ) → map f xs ≡ us ++ vs →
    (ps : List ℕ) × (qs : List ℕ) × (xs ≡ ps ++ qs) × (map f ps ≡ us) × (map f qs ≡ vs)
map_cut f xs [] vs e = ([], xs, refl, refl, e)
map_cut f [] (u ∷ us) vs e = absurd cc
map_cut f (x ∷ xs) (u ∷ us) vs e =
    let r = map_cut f xs us vs (ap (drop 1) e) in
    (x ∷ r.0, r.1, ap (λ ys. x ∷ ys) r.2, ap₂ (λ y ys. y ∷ ys) (ap (head_or u) e) r.3, r.4)

-- a turn of the images are the images of a turn
map_turn : (f : ℕ → ℕ) (xs ys : List ℕ) → IsTurn (map f xs) ys → (zs : List ℕ) × IsTurn xs zs × (map f zs ≡ ys)
map_turn f xs ys turn =
    let w = parts_of_turn (map f xs) ys turn in
    let r = map_cut f xs w.0 w.1 w.2 in (
      r.1 ++ r.0,
      turn_from_parts xs (r.1 ++ r.0) r.0 r.1 r.2 refl,
      map-append f r.1 r.0 ∙ ap₂ (λ us vs. us ++ vs) r.4 r.3 ∙ sym w.3,
    )

-- a cut of what a test keeps is a cut of the list
filter_cut : (r : ℕ → Bool) (xs us vs : List ℕ) → filter r xs ≡ us ++ vs →
    (ps : List ℕ) × (qs : List ℕ) × (xs ≡ ps ++ qs) × (filter r ps ≡ us) × (filter r qs ≡ vs)
filter_cut r xs [] vs e = ([], xs, refl, refl, e)
filter_cut r [] (u ∷ us) vs e = absurd cc
filter_cut r (x ∷ xs) (u ∷ us) vs e =
    ⊎_elim
    (λ t.
    let now : x ∷ filter r xs ≡ u ∷ (us ++ vs) = sym (filter_yes r x xs t) ∙ e in
    let w = filter_cut r xs us vs (ap (drop 1) now) in
    (x ∷ w.0, w.1, ap (λ ys. x ∷ ys) w.2, filter_yes r x w.0 t ∙ ap₂ (λ y ys. y ∷ ys) (ap (head_or u) now) w.3, w.4))
    (λ f.
    let w = filter_cut r xs (u ∷ us) vs (sym (filter_no r x xs f) ∙ e) in
    (x ∷ w.0, w.1, ap (λ ys. x ∷ ys) w.2, filter_no r x w.0 f ∙ w.3, w.4))
    (cases_Bool (r x))

-- a turn of what a test keeps is what it keeps of a turn
filter_turn : (r : ℕ → Bool) (xs ys : List ℕ) → IsTurn (filter r xs) ys →
    (zs : List ℕ) × IsTurn xs zs × (filter r zs ≡ ys)
filter_turn r xs ys turn =
    let w = parts_of_turn (filter r xs) ys turn in
    let c = filter_cut r xs w.0 w.1 w.2 in (
      c.1 ++ c.0,
      turn_from_parts xs (c.1 ++ c.0) c.0 c.1 c.2 refl,
      filter-append r c.1 c.0 ∙ ap₂ (λ us vs. us ++ vs) c.4 c.3 ∙ sym w.3,
    )

-- what a test keeps stands crosswise only where the list does
pub filter-Crosses : (r p q : ℕ → Bool) (xs : List ℕ) → Crosses p q (filter r xs) → Crosses p q xs
filter-Crosses r p q xs cross =
    let w = filter_turn r xs cross.turned cross.turn in
    let items : List ℕ = cross.first ∷ cross.second ∷ cross.third ∷ cross.fourth ∷ [] in
    crossed p q (filter r xs) xs w.0 cross w.1 (filter_order r items w.0 (subst (InOrder items) (sym w.2) cross.order))

-- images stand crosswise only where the items do
pub map-Crosses : (f : ℕ → ℕ) (p q : ℕ → Bool) (xs : List ℕ) → Crosses p q (map f xs) →
    Crosses (λ x. p (f x)) (λ x. q (f x)) xs
map-Crosses f p q xs cross =
    let w = map_turn f xs cross.turned cross.turn in
    let items : List ℕ = cross.first ∷ cross.second ∷ cross.third ∷ cross.fourth ∷ [] in
    let v = map_order f items w.0 (subst (InOrder items) (sym w.2) cross.order) in
    four v.0 w.0 v.1 v.2 w.1
  where
    four : (us : List ℕ) → (zs : List ℕ) → InOrder us zs →
        map f us ≡ cross.first ∷ cross.second ∷ cross.third ∷ cross.fourth ∷ [] → IsTurn xs zs →
        Crosses (λ x. p (f x)) (λ x. q (f x)) xs
    four [] zs order e turn = absurd cc
    four (a ∷ []) zs order e turn = absurd cc
    four (a ∷ b ∷ []) zs order e turn = absurd cc
    four (a ∷ b ∷ c ∷ []) zs order e turn = absurd cc
    four (a ∷ b ∷ c ∷ d ∷ x ∷ us) zs order e turn = absurd cc
    four (a ∷ b ∷ c ∷ d ∷ []) zs order e turn = record {
      first = a;
      second = b;
      third = c;
      fourth = d;
      turned = zs;
      turn = turn;
      order = order;
      first_passes = ap p (ap (head_or 0) e) ∙ cross.first_passes;
      second_passes = ap q (ap (λ ys. head_or 0 (drop 1 ys)) e) ∙ cross.second_passes;
      third_passes = ap p (ap (λ ys. head_or 0 (drop 2 ys)) e) ∙ cross.third_passes;
      fourth_passes = ap q (ap (λ ys. head_or 0 (drop 3 ys)) e) ∙ cross.fourth_passes;
    }

-- classes of which no two different ones cross do not stand crosswise
pub NoCross-from : (class : ℕ → ℕ) (xs : List ℕ) →
    ((k m : ℕ) → k ≢ m → ¬ Crosses (λ x. eqb (class x) k) (λ x. eqb (class x) m) xs) → NoCross class xs
NoCross-from class xs none w x y z order one two =
    ⊎_elim
    (λ e. e)
    (λ ne. absurd (none (class w) (class x) ne (record {
      first = w;
      second = x;
      third = y;
      fourth = z;
      turned = xs;
      turn = turn-refl xs;
      order = order;
      first_passes = eq-eqb (class w) (class w) refl;
      second_passes = eq-eqb (class x) (class x) refl;
      third_passes = eq-eqb (class y) (class w) (sym one);
      fourth_passes = eq-eqb (class z) (class x) (sym two);
    })))
    (cases_eq (class w) (class x))

-- a turn that begins with the first item, with what stands between the four
pub parts_of_Crosses : (p q : ℕ → Bool) (xs : List ℕ) → (cross : Crosses p q xs) →
    (us : List ℕ) × (vs : List ℕ) × (ws : List ℕ) × (zs : List ℕ)
    × IsTurn xs (cross.first ∷ (us ++ cross.second ∷ (vs ++ cross.third ∷ (ws ++ cross.fourth ∷ zs))))
parts_of_Crosses p q xs cross =
    let a = order_cut cross.first (cross.second ∷ cross.third ∷ cross.fourth ∷ []) cross.turned cross.order in
    let b = order_cut cross.second (cross.third ∷ cross.fourth ∷ []) a.1 a.3 in
    let c = order_cut cross.third (cross.fourth ∷ []) b.1 b.3 in
    let d = order_cut cross.fourth [] c.1 c.3 in
    let third : c.1 ++ a.0 ≡ d.0 ++ cross.fourth ∷ (d.1 ++ a.0) = ap (λ l. l ++ a.0) d.2 ∙ append_assoc d.0 (cross.fourth ∷ d.1) a.0 in
    let second : b.1 ++ a.0 ≡ c.0 ++ cross.third ∷ (d.0 ++ cross.fourth ∷ (d.1 ++ a.0)) =
    ap (λ l. l ++ a.0) c.2 ∙ append_assoc c.0 (cross.third ∷ c.1) a.0 ∙ ap (λ l. c.0 ++ cross.third ∷ l) third
    in
    let first : a.1 ++ a.0 ≡ b.0 ++ cross.second ∷ (c.0 ++ cross.third ∷ (d.0 ++ cross.fourth ∷ (d.1 ++ a.0))) =
    ap (λ l. l ++ a.0) b.2 ∙ append_assoc b.0 (cross.second ∷ b.1) a.0 ∙ ap (λ l. b.0 ++ cross.second ∷ l) second
    in
    let around : IsTurn cross.turned (cross.first ∷ (a.1 ++ a.0)) =
    turn_from_parts cross.turned (cross.first ∷ (a.1 ++ a.0)) a.0 (cross.first ∷ a.1) a.2 refl
    in (
      b.0,
      c.0,
      d.0,
      d.1 ++ a.0,
      subst (λ l. IsTurn xs (cross.first ∷ l)) first (turn-trans xs cross.turned (cross.first ∷ (a.1 ++ a.0)) cross.turn around),
    )

-- a list of which a turn has the four so stands crosswise
pub Crosses-from_parts : (p q : ℕ → Bool) (xs : List ℕ) (a b c d : ℕ) (us vs ws zs : List ℕ) →
    IsTurn xs (a ∷ (us ++ b ∷ (vs ++ c ∷ (ws ++ d ∷ zs)))) → p a ≡ true → q b ≡ true → p c ≡ true → q d ≡ true → Crosses p q xs
Crosses-from_parts p q xs a b c d us vs ws zs turn pa qb pc qd = record {
  first = a;
  second = b;
  third = c;
  fourth = d;
  turned = a ∷ (us ++ b ∷ (vs ++ c ∷ (ws ++ d ∷ zs)));
  turn = turn;
  order = inl (
    refl,
    order_right (b ∷ c ∷ d ∷ []) us (b ∷ (vs ++ c ∷ (ws ++ d ∷ zs)))
        (inl (
          refl,
          order_right (c ∷ d ∷ []) vs (c ∷ (ws ++ d ∷ zs))
              (inl (refl, order_right (d ∷ []) ws (d ∷ zs) (inl (refl, tt)))),
        )),
  );
  first_passes = pa;
  second_passes = qb;
  third_passes = pc;
  fourth_passes = qd;
}

-- classes that do not stand crosswise do not so in a turn
pub NoCross-turn : (class : ℕ → ℕ) (xs ys : List ℕ) → IsTurn xs ys → NoCross class xs → NoCross class ys
NoCross-turn class xs ys turn apart w x y z order one two =
    let t = parts_of_turn xs ys turn in
    let s = order_split (w ∷ x ∷ y ∷ z ∷ []) t.1 t.0 (subst (InOrder (w ∷ x ∷ y ∷ z ∷ [])) t.3 order) in
    by s.0 s.1 s.2 (subst (InOrder (s.1 ++ s.0)) (sym t.2) (order_append s.1 s.0 t.0 t.1 s.4 s.3))
  where
    by : (us vs : List ℕ) → w ∷ x ∷ y ∷ z ∷ [] ≡ us ++ vs → InOrder (vs ++ us) xs → class w ≡ class x
    by [] vs e h =
        apart w x y z (subst (λ l. InOrder l xs) (sym (ap (λ l. drop 0 l ++ take 0 l) e)) h) one two
    by (a ∷ []) vs e h =
        one ∙ sym (apart x y z w (subst (λ l. InOrder l xs) (sym (ap (λ l. drop 1 l ++ take 1 l) e)) h) two (sym one))
    by (a ∷ b ∷ []) vs e h =
        one ∙ apart y z w x (subst (λ l. InOrder l xs) (sym (ap (λ l. drop 2 l ++ take 2 l) e)) h) (sym one) (sym two) ∙ sym two
    by (a ∷ b ∷ c ∷ []) vs e h =
        sym (apart z w x y (subst (λ l. InOrder l xs) (sym (ap (λ l. drop 3 l ++ take 3 l) e)) h) (sym two) one) ∙ sym two
    by (a ∷ b ∷ c ∷ d ∷ []) vs e h =
        apart w x y z (subst (λ l. InOrder l xs) (sym (ap (λ l. drop 4 l ++ take 4 l) e)) h) one two
    by (a ∷ b ∷ c ∷ d ∷ f ∷ us) vs e h = absurd cc

-- of classes that do not stand crosswise no two different ones cross
pub NoCross-uncrossed : (class : ℕ → ℕ) (xs : List ℕ) (k m : ℕ) → NoCross class xs → k ≢ m →
    Crosses (λ x. eqb (class x) k) (λ x. eqb (class x) m) xs → ⊥
NoCross-uncrossed class xs k m apart ne cross =
    let one : class cross.first ≡ k = eqb-true (class cross.first) k cross.first_passes in
    let two : class cross.second ≡ m = eqb-true (class cross.second) m cross.second_passes in
    let three : class cross.third ≡ k = eqb-true (class cross.third) k cross.third_passes in
    let four : class cross.fourth ≡ m = eqb-true (class cross.fourth) m cross.fourth_passes in
    ne (sym one ∙ NoCross-turn class xs cross.turned cross.turn apart cross.first cross.second cross.third cross.fourth cross.order
    (one ∙ sym three) (two ∙ sym four) ∙ two)
