-- Items in the order of their names, by those before one of them, it, and those behind it.
use Rattle.std.proofs.Common.{◌≡◌, ℕ, ◌<◌, Bool, true, false, not, cond, eqb, ltb, List, [], ◌∷◌, ◌++◌, map, sym, refl, ap, ◌∙◌, subst, arith}
use Rattle.std.specs.Prelude.{filter, Option, Some, None}
use Rattle.std.specs.List.{list_all}
use Rattle.std.proofs.lemmas.Bool.{and_parts, and_from, cond-true, cond-false, eq-eqb, ne_eqb, ltb-true, lt-ltb}
use Rattle.std.proofs.lemmas.List.Elements.{filter-append}
use Rattle.cp_board.specs.Names.{put}
use Rattle.cp_board.proofs.ListTests.{rises}
use Rattle.cp_board.proofs.NamedLists.{under_all, under_all-rises, under_all-lower, rises_after, rises-under}
use Rattle.cp_store.specs.Exchanges.{exchanged}
use Rattle.cp_store.proofs.ExchangedItems.{under-below, others-all, put-front, put-behind}

-- all items are below a number
abbrev pub below : {A : Type 0} → (A → ℕ) → ℕ → List A → Bool
below name n xs = list_all (λ x. ltb (name x) n) xs

module _ {A : Type 0} (name : A → ℕ) where
  -- what is above all of some items, and of more behind them
  above-parts : (n : ℕ) (xs ys : List A) → under_all name n (xs ++ ys) ≡ true
      → (under_all name n xs ≡ true) × (under_all name n ys ≡ true)
  above-parts n [] ys u = (refl, u)
  above-parts n (x ∷ xs) ys u =
      let h = and_parts (ltb n (name x)) (under_all name n (xs ++ ys)) u in
      let r = above-parts n xs ys h.1 in
      (and_from (ltb n (name x)) (under_all name n xs) h.0 r.0, r.1)

  -- what rises, by the items before one of them, it and those behind it
  pub record HasSides (xs : List A) (y : A) (zs : List A) : Type 0 where
    pub first : rises (map name xs) ≡ true
    pub last : rises (map name zs) ≡ true
    pub below_item : below name (name y) xs ≡ true
    pub above_item : under_all name (name y) zs ≡ true

  -- where all names rise, those of the items before one item rise below its name, and those behind it above it
  pub HasSides-rises : (xs : List A) (y : A) (zs : List A) → rises (map name (xs ++ y ∷ zs)) ≡ true → HasSides xs y zs
  HasSides-rises [] y zs up = record {
    first = refl;
    last = rises_after name y zs up;
    below_item = refl;
    above_item = under_all-rises name (name y) zs up;
  }
  HasSides-rises (x ∷ xs) y zs up =
      let rest = HasSides-rises xs y zs (rises_after name x (xs ++ y ∷ zs) up) in
      let above = above-parts (name x) xs (y ∷ zs) (under_all-rises name (name x) (xs ++ y ∷ zs) up) in
      let lt = (and_parts (ltb (name x) (name y)) (under_all name (name x) zs) above.1).0 in
      record {
        first = rises-under name (name x) xs above.0 rest.first;
        last = rest.last;
        below_item = and_from (ltb (name x) (name y)) (below name (name y) xs) lt rest.below_item;
        above_item = rest.above_item;
      }

  -- items that are below what is no more than a number are below the number
  below-more : (m n : ℕ) (xs : List A) → m < n → below name m xs ≡ true → below name n xs ≡ true
  below-more m n [] lt b = refl
  below-more m n (x ∷ xs) lt b =
      let h = and_parts (ltb (name x) m) (below name m xs) b in
      let l = ltb-true (name x) m h.0 in
      and_from (ltb (name x) n) (below name n xs) (lt-ltb (name x) n (omega (arith, l, lt))) (below-more m n xs lt h.1)

  -- the items of other names are all that are below a name
  others-below : (n : ℕ) (xs : List A) → below name n xs ≡ true → filter (λ x. not (eqb (name x) n)) xs ≡ xs
  others-below n [] b = refl
  others-below n (x ∷ xs) b =
      let h = and_parts (ltb (name x) n) (below name n xs) b in
      let l = ltb-true (name x) n h.0 in
      cond-true (not (eqb (name x) n)) _ _ (ap not (ne_eqb (name x) n (λ e. omega (arith, e, l))))
      ∙ ap (λ ys. x ∷ ys) (others-below n xs h.1)

  -- an item is put in behind all that are below it
  put-past : (x : A) (xs ys : List A) → below name (name x) xs ≡ true → put name x (xs ++ ys) ≡ xs ++ put name x ys
  put-past x [] ys b = refl
  put-past x (y ∷ xs) ys b =
      let h = and_parts (ltb (name y) (name x)) (below name (name x) xs) b in
      put-behind name x y (xs ++ ys) (ltb-true (name y) (name x) h.0) ∙ ap (λ zs. y ∷ zs) (put-past x xs ys h.1)

  -- an item is put in before one that is above it
  put-before : (x y : A) (xs ys : List A) → name x < name y → put name x (xs ++ y ∷ ys) ≡ put name x xs ++ y ∷ ys
  put-before x y [] ys lt = cond-true (ltb (name x) (name y)) _ _ (lt-ltb (name x) (name y) lt)
  put-before x y (z ∷ xs) ys lt =
      ap (λ zs. cond (ltb (name x) (name z)) (x ∷ z ∷ xs ++ y ∷ ys) (z ∷ zs)) (put-before x y xs ys lt)
      ∙ either (ltb (name x) (name z))
    where
      either : (b : Bool) → cond b (x ∷ z ∷ (xs ++ y ∷ ys)) (z ∷ (put name x xs ++ y ∷ ys))
          ≡ cond b (x ∷ z ∷ xs) (z ∷ put name x xs) ++ y ∷ ys
      either true = refl
      either false = refl

  -- items before one of them, it and those behind it, and a name
  module _ (xs : List A) (y : A) (zs : List A) (s : HasSides xs y zs) (n : ℕ) where
    -- the items of other names than a lesser one, of which only those before y can have it
    others-first : n < name y → filter (λ x. not (eqb (name x) n)) (xs ++ y ∷ zs)
        ≡ filter (λ x. not (eqb (name x) n)) xs ++ y ∷ zs
    others-first lt =
        filter-append (λ x. not (eqb (name x) n)) xs (y ∷ zs)
        ∙ ap (λ ws. filter (λ x. not (eqb (name x) n)) xs ++ ws)
        (cond-true (not (eqb (name y) n)) _ _ (ap not (ne_eqb (name y) n (λ e. omega (arith, e, lt))))
        ∙ ap (λ ws. y ∷ ws) (others-all name n zs
        (under-below name n zs (under_all-lower name n (name y) lt zs s.above_item))))

    -- the items of other names than a greater one, of which only those behind y can have it
    others-last : name y < n → filter (λ x. not (eqb (name x) n)) (xs ++ y ∷ zs) ≡ xs ++ y
        ∷ filter (λ x. not (eqb (name x) n)) zs
    others-last lt =
        filter-append (λ x. not (eqb (name x) n)) xs (y ∷ zs)
        ∙ ap (λ ws. ws ++ filter (λ x. not (eqb (name x) n)) (y ∷ zs))
        (others-below n xs (below-more (name y) n xs lt s.below_item))
        ∙ ap (λ ws. xs ++ ws) (cond-true (not (eqb (name y) n)) _ _
        (ap not (ne_eqb (name y) n (λ e. omega (arith, e, lt)))))

    -- the items of other names than that of y are those on both sides
    pub others-here : name y ≡ n → filter (λ x. not (eqb (name x) n)) (xs ++ y ∷ zs) ≡ xs ++ zs
    others-here e =
        filter-append (λ x. not (eqb (name x) n)) xs (y ∷ zs)
        ∙ ap (λ ws. ws ++ filter (λ x. not (eqb (name x) n)) (y ∷ zs))
        (others-below n xs (subst (λ m. below name m xs ≡ true) e s.below_item))
        ∙ ap (λ ws. xs ++ ws) (cond-false (not (eqb (name y) n)) _ _ (ap not (eq-eqb (name y) n e))
        ∙ others-all name n zs (under-below name n zs (subst (λ m. under_all name m zs ≡ true) e s.above_item)))

    -- an exchange under a lesser name is one before y
    pub exchanged-first : (o : Option A) → ((x : A) → o ≡ Some x → name x ≡ n) → n < name y
        → exchanged name n o (xs ++ y ∷ zs) ≡ exchanged name n o xs ++ y ∷ zs
    exchanged-first None its lt = others-first lt
    exchanged-first (Some x) its lt =
        ap (put name x) (others-first lt)
        ∙ put-before x y (filter (λ w. not (eqb (name w) n)) xs) zs (subst (λ m. m < name y) (sym (its x refl)) lt)

    -- an exchange under a greater name is one behind y
    pub exchanged-last : (o : Option A) → ((x : A) → o ≡ Some x → name x ≡ n) → name y < n
        → exchanged name n o (xs ++ y ∷ zs) ≡ xs ++ y ∷ exchanged name n o zs
    exchanged-last None its lt = others-last lt
    exchanged-last (Some x) its lt =
        let same = its x refl in
        let low : below name (name x) xs ≡ true =
        subst (λ m. below name m xs ≡ true) (sym same) (below-more (name y) n xs lt s.below_item) in
        ap (put name x) (others-last lt)
        ∙ put-past x xs (y ∷ filter (λ w. not (eqb (name w) n)) zs) low
        ∙ ap (λ ws. xs ++ ws) (put-behind name x y (filter (λ w. not (eqb (name w) n)) zs)
        (subst (λ m. name y < m) (sym same) lt))

    -- another item under the name of y stands in its place
    pub exchanged-here : (x : A) → name x ≡ n → name y ≡ n → exchanged name n (Some x) (xs ++ y ∷ zs) ≡ xs ++ x ∷ zs
    exchanged-here x same e =
        let at : name y ≡ name x = e ∙ sym same in
        ap (put name x) (others-here e)
        ∙ put-past x xs zs (subst (λ m. below name m xs ≡ true) at s.below_item)
        ∙ ap (λ ws. xs ++ ws) (put-front name x zs (subst (λ m. under_all name m zs ≡ true) at s.above_item))
