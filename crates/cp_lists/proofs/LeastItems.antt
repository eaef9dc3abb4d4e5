-- The least items of a list, and lists that are turned to the first of them.
use Rattle.std.proofs.Common.{◌≡◌, ℕ, zero, suc, ◌-◌, ◌<◌, ◌≤◌, Bool, true, false, leb, List, [], ◌∷◌, ◌++◌, length, take, drop, slice_index, sym, refl, ap, ◌∙◌, subst, inl, inr, ⊎_elim, arith}
use Rattle.std.specs.List.{list_all}
use Rattle.std.proofs.lemmas.Bool.{cases_lt, le-leb, lt-leb, and_from, and_left, and_right}
use Rattle.std.proofs.lemmas.List.{nil_from_length}
use Rattle.std.proofs.lemmas.List.Sums.{position_or_len_is}
use Rattle.cp_lists.specs.CyclicLists.{Has, Distinct}
use Rattle.cp_lists.specs.Turns.{IsTurn, least_place, turned_to_least}
use Rattle.cp_lists.proofs.DistinctLists.{Has_at, Has-place}
use Rattle.cp_lists.proofs.TurnedLists.{turn-length, turn-sym, turn-trans, turn-Distinct, Has-of_turn, turn_to_item-unique}

-- a test that each item passes is passed by all
pub list_all-from : (p : ℕ → Bool) (xs : List ℕ) → ((x : ℕ) → Has x xs → p x ≡ true) → list_all p xs ≡ true
list_all-from p [] passes = refl
list_all-from p (x ∷ xs) passes =
    and_from (p x) (list_all p xs) (passes x (inl refl)) (list_all-from p xs (λ y has. passes y (inr has)))

-- a test that an item fails is not passed by all
pub list_all-fails : (p : ℕ → Bool) (x : ℕ) (xs : List ℕ) → Has x xs → p x ≡ false → list_all p xs ≡ false
list_all-fails p x [] has fails = absurd has
list_all-fails p x (y ∷ xs) has fails =
    ⊎_elim
    (λ e. and_left (p y) (list_all p xs) (ap p e ∙ fails))
    (λ h. and_right (p y) (list_all p xs) (list_all-fails p x xs h fails))
    has

-- among the first i items the first of the least stands at this place
pub record LeastSoFar (xs : List ℕ) (place i : ℕ) : Type 0 where
  pub within : place ≤ i - 1
  pub before : (k : ℕ) → k < place → slice_index xs place < slice_index xs k
  pub least : (k : ℕ) → k < i → slice_index xs place ≤ slice_index xs k

-- at the start the first item is the least
pub LeastSoFar-none : (xs : List ℕ) → LeastSoFar xs 0 0
LeastSoFar-none xs = record { within = omega arith; before = λ k lt. absurd (omega arith); least = λ k lt. absurd (omega arith) }

-- a lesser item is the least
pub LeastSoFar-less : (xs : List ℕ) (place i : ℕ) → LeastSoFar xs place i → slice_index xs i < slice_index xs place →
    LeastSoFar xs i (suc i)
LeastSoFar-less xs place i so less = record {
  within = omega arith;
  before = λ k lt. omega (arith, so.least k lt);
  least = λ k lt. ⊎_elim (λ (l : k < i). omega (arith, so.least k l)) (λ (g : i ≤ k). let here : k ≡ i = omega arith in rw here (omega arith)) (cases_lt k i);
}

-- an item that is no less changes nothing
pub LeastSoFar-more : (xs : List ℕ) (place i : ℕ) → LeastSoFar xs place i → slice_index xs place ≤ slice_index xs i →
    LeastSoFar xs place (suc i)
LeastSoFar-more xs place i so more = record {
  within = omega (arith, so.within);
  before = so.before;
  least = λ k lt. ⊎_elim (λ (l : k < i). so.least k l) (λ (g : i ≤ k). let here : k ≡ i = omega arith in rw here more) (cases_lt k i);
}

-- at the end it is the place of the first of the least items
pub LeastSoFar-all : (xs : List ℕ) (place : ℕ) → LeastSoFar xs place (length xs) → place ≡ least_place xs
LeastSoFar-all xs place so = sym (position_or_len_is (λ x. list_all (λ y. leb x y) xs) xs place 0
    (omega (arith, so.within))
    (λ k lt. list_all-fails (λ y. leb (slice_index xs k) y) (slice_index xs place) xs (Has_at xs place (omega (arith, so.within)))
    (lt-leb (slice_index xs k) (slice_index xs place) (so.before k lt)))
    (λ lt. list_all-from (λ y. leb (slice_index xs place) y) xs (λ y has.
    let w = Has-place y xs has in
    le-leb (slice_index xs place) y (subst (λ z. slice_index xs place ≤ z) w.2 (so.least w.0 w.1)))))

-- each list is one in which a least item was found
pub least_found : (xs : List ℕ) (i : ℕ) → i ≤ length xs → (place : ℕ) × LeastSoFar xs place i
least_found xs zero le = (0, LeastSoFar-none xs)
least_found xs (suc i) le =
    let w = least_found xs i (omega arith) in
    ⊎_elim
    (λ (less : slice_index xs i < slice_index xs w.0). (i, LeastSoFar-less xs w.0 i w.1 less))
    (λ (more : slice_index xs w.0 ≤ slice_index xs i). (w.0, LeastSoFar-more xs w.0 i w.1 more))
    (cases_lt (slice_index xs i) (slice_index xs w.0))

-- the place of the first of the least items is one
pub least_place-LeastSoFar : (xs : List ℕ) → LeastSoFar xs (least_place xs) (length xs)
least_place-LeastSoFar xs =
    let w = least_found xs (length xs) (omega arith) in
    subst (λ place. LeastSoFar xs place (length xs)) (LeastSoFar-all xs w.0 w.1) w.1

-- the list turned to its least item is a turn of it
pub turned_to_least-IsTurn : (xs : List ℕ) → IsTurn xs (turned_to_least xs)
turned_to_least-IsTurn xs = (least_place xs, omega (arith, (least_place-LeastSoFar xs).within), refl)

-- the item at a place begins the list turned by that place
turned_head : (xs : List ℕ) (i : ℕ) → i < length xs → (ys : List ℕ) × (drop i xs ++ take i xs ≡ slice_index xs i ∷ ys)
turned_head xs i lt = (drop (suc i) xs ++ take i xs, ap (λ ys. ys ++ take i xs) (front xs i lt))
  where
    front : (xs : List ℕ) (i : ℕ) → i < length xs → drop i xs ≡ slice_index xs i ∷ drop (suc i) xs
    front [] i lt = absurd (omega arith)
    front (x ∷ xs) zero lt = refl
    front (x ∷ xs) (suc i) lt = front xs i (omega arith)

-- it begins with an item that is no greater than any
pub turned_to_least-head : (x : ℕ) (xs : List ℕ) → Has x xs →
    (least : ℕ) × (ys : List ℕ) × (turned_to_least xs ≡ least ∷ ys) × ((y : ℕ) → Has y xs → least ≤ y)
turned_to_least-head x xs has =
    let so = least_place-LeastSoFar xs in
    let some = Has-place x xs has in
    let w = turned_head xs (least_place xs) (omega (arith, so.within, some.1)) in (
      slice_index xs (least_place xs),
      w.0,
      w.1,
      λ y h. let v = Has-place y xs h in subst (λ z. slice_index xs (least_place xs) ≤ z) v.2 (so.least v.0 v.1),
    )

-- a turn of a distinct list that begins with the least item is the list turned to it
pub turned_to_least-unique : (xs ys : List ℕ) (x : ℕ) → Distinct xs → IsTurn xs (x ∷ ys) →
    ((y : ℕ) → Has y xs → x ≤ y) → turned_to_least xs ≡ x ∷ ys
turned_to_least-unique xs ys x dis turn least =
    let has : Has x xs = Has-of_turn xs (x ∷ ys) x turn (inl refl) in
    let w = turned_to_least-head x xs has in
    let other : Has w.0 xs = Has-of_turn xs (turned_to_least xs) w.0 (turned_to_least-IsTurn xs) (subst (Has w.0) (sym w.2) (inl refl)) in
    let same : w.0 ≡ x = omega (arith, w.3 x has, least w.0 other) in
    let found : turned_to_least xs ≡ x ∷ w.1 = w.2 ∙ ap (λ y. y ∷ w.1) same in
    found ∙ ap (λ zs. x ∷ zs) (turn_to_item-unique x xs w.1 ys dis (subst (IsTurn xs) found (turned_to_least-IsTurn xs)) turn)

-- turns of a distinct list are one list once they are turned to the least item
pub turned_to_least-turn : (xs ys : List ℕ) → Distinct xs → IsTurn xs ys → turned_to_least ys ≡ turned_to_least xs
turned_to_least-turn [] ys dis turn = ap turned_to_least (nil_from_length ys (turn-length [] ys turn))
turned_to_least-turn (x ∷ xs) ys dis turn =
    let w = turned_to_least-head x (x ∷ xs) (inl refl) in
    turned_to_least-unique ys w.1 w.0 (turn-Distinct (x ∷ xs) ys turn dis)
    (turn-trans ys (x ∷ xs) (w.0 ∷ w.1) (turn-sym (x ∷ xs) ys turn) (subst (IsTurn (x ∷ xs)) w.2 (turned_to_least-IsTurn (x ∷ xs))))
    (λ y has. w.3 y (Has-of_turn (x ∷ xs) ys y turn has))
    ∙ sym w.2
