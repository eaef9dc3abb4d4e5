-- While a side has two vertices, two of them can be made one.
use Rattle.std.proofs.Common.{◌≡◌, ℕ, ◌*◌, Bool, true, false, ◌||◌, List, [], ◌∷◌, ◌++◌, ◌⊎◌, append_assoc, sym, refl, ap, ap₂, ◌∙◌, subst, inl, inr, ⊎_elim}
use Rattle.std.proofs.lemmas.Bool.{cases_Bool, false≢true}
use Rattle.cp_lists.specs.CyclicLists.{Has}
use Rattle.cp_lists.specs.Rows.{flat}
use Rattle.cp_lists.proofs.DistinctLists.{Distinct-apart, Has-append_cases, Has-append_left, Has-append_right, Lacks-from, has_lacks}
use Rattle.cp_lists.proofs.FlatLists.{flat-append}
use Rattle.cp_faces.specs.Twins.{twin}
use Rattle.cp_faces.proofs.Twins.{twin-twin}
use Rattle.cp_maps.specs.Genus.{Evenly, OnePart}
use Rattle.cp_maps.specs.Maps.{IsMapOf, has}
use Rattle.cp_maps.proofs.Growth.{Evenly-append, Evenly-same}
use Rattle.cp_maps.proofs.ListFacts.{has_no, has_true, has_yes}
use Rattle.cp_maps.proofs.MapLists.{IsMapOf-front, IsMapOf-swap}
use Rattle.cp_maps.proofs.Parts.{Evenly-two_parts}
use Rattle.cp_mergelaw.specs.Merges.{Among, CanMerge, Changes, NextMerge}
use Rattle.cp_mergelaw.specs.Sides.{AreSides, leads_to}
use Rattle.cp_mergelaw.proofs.SideMerges.{CanMerge-swap, corner-CanMerge, two_parts-CanMerge}

-- the test changes in a list with an item more in front
Changes-cons : (p : ℕ → Bool) (x : ℕ) (xs : List ℕ) → Changes p xs → Changes p (x ∷ xs)
Changes-cons p x xs c = record {
  front = x ∷ c.front;
  x = c.x;
  y = c.y;
  behind = c.behind;
  whole = ap (λ us. x ∷ us) c.whole;
  differ = c.differ;
}

-- an item more with the value of the next one
one_value-cons : (p : ℕ → Bool) (x y : ℕ) (xs : List ℕ) → p x ≡ p y
    → ((c d : ℕ) → Has c (y ∷ xs) → Has d (y ∷ xs) → p c ≡ p d)
    → (c d : ℕ) → Has c (x ∷ y ∷ xs) → Has d (x ∷ y ∷ xs) → p c ≡ p d
one_value-cons p x y xs same even c d hc hd = value c hc ∙ sym (value d hd)
  where
    value : (z : ℕ) → Has z (x ∷ y ∷ xs) → p z ≡ p y
    value z h = ⊎_elim (λ k. ap p (sym k) ∙ same) (λ k. even z y k (inl refl)) h

-- the same with an item more in front
changes_or_one_value-cons : (p : ℕ → Bool) (x y : ℕ) (xs : List ℕ)
    → Changes p (y ∷ xs) ⊎ ((c d : ℕ) → Has c (y ∷ xs) → Has d (y ∷ xs) → p c ≡ p d)
    → Changes p (x ∷ y ∷ xs) ⊎ ((c d : ℕ) → Has c (x ∷ y ∷ xs) → Has d (x ∷ y ∷ xs) → p c ≡ p d)
changes_or_one_value-cons p x y xs rest = ⊎_elim
    (λ tx. ⊎_elim (λ ty. same (tx ∙ sym ty)) (λ fy. here (inl (tx, fy))) (cases_Bool (p y)))
    (λ fx. ⊎_elim (λ ty. here (inr (fx, ty))) (λ fy. same (fx ∙ sym fy)) (cases_Bool (p y)))
    (cases_Bool (p x))
  where
    same : p x ≡ p y
        → Changes p (x ∷ y ∷ xs) ⊎ ((c d : ℕ) → Has c (x ∷ y ∷ xs) → Has d (x ∷ y ∷ xs) → p c ≡ p d)
    same e = ⊎_elim (λ c. inl (Changes-cons p x (y ∷ xs) c)) (λ even. inr (one_value-cons p x y xs e even)) rest

    here : ((p x ≡ true) × (p y ≡ false)) ⊎ ((p x ≡ false) × (p y ≡ true))
        → Changes p (x ∷ y ∷ xs) ⊎ ((c d : ℕ) → Has c (x ∷ y ∷ xs) → Has d (x ∷ y ∷ xs) → p c ≡ p d)
    here differ =
        inl (record { front = []; x = x; y = y; behind = xs; whole = refl; differ = differ })

-- a test changes in a list, or has one value on it
changes_or_one_value : (p : ℕ → Bool) (xs : List ℕ)
    → Changes p xs ⊎ ((c d : ℕ) → Has c xs → Has d xs → p c ≡ p d)
changes_or_one_value p [] = inr (λ c d h k. absurd h)
changes_or_one_value p (x ∷ []) = inr (λ c d h k. ⊎_elim
    (λ i. ⊎_elim (λ j. ap p (sym i ∙ j)) (λ j. absurd j) k)
    (λ i. absurd i) h)
changes_or_one_value p (x ∷ y ∷ xs) =
    changes_or_one_value-cons p x y xs (changes_or_one_value p (y ∷ xs))

-- one of the lists behind the first
Among-cons : (xs : List ℕ) (rows : List (List ℕ)) (good : List ℕ → Type 0) → Among rows good → Among (xs ∷ rows) good
Among-cons xs rows good a = record {
  before = xs ∷ a.before;
  row = a.row;
  behind = a.behind;
  whole = ap (λ r. xs ∷ r) a.whole;
  fine = a.fine;
}

-- a test changes in one of the lists, or has one value on each
changes_or_Evenly : (p : ℕ → Bool) (rows : List (List ℕ)) → Among rows (Changes p) ⊎ Evenly p rows
changes_or_Evenly p [] = inr tt
changes_or_Evenly p (xs ∷ rows) = ⊎_elim
    (λ c. inl (record { before = []; row = xs; behind = rows; whole = refl; fine = c }))
    (λ one. ⊎_elim (λ a. inl (Among-cons xs rows (Changes p) a)) (λ even. inr (one, even)) (changes_or_Evenly p rows))
    (changes_or_one_value p xs)

-- the list of a dart
pub list_of_dart : (d : ℕ) (rows : List (List ℕ)) → Has d (flat rows) → Among rows (Has d)
list_of_dart d [] h = absurd h
list_of_dart d (xs ∷ rows) h = ⊎_elim
    (λ k. record { before = []; row = xs; behind = rows; whole = refl; fine = k })
    (λ k. Among-cons xs rows (Has d) (list_of_dart d rows k))
    (Has-append_cases d xs (flat rows) h)

-- two tests with the same values on the items
Evenly-agree : (p q : ℕ → Bool) (rows : List (List ℕ)) → ((d : ℕ) → Has d (flat rows) → q d ≡ p d) → Evenly p rows
    → Evenly q rows
Evenly-agree p q [] same even = tt
Evenly-agree p q (xs ∷ rows) same even = (
  λ c d hc hd. same c (Has-append_left c xs (flat rows) hc) ∙ even.0 c d hc hd
      ∙ sym (same d (Has-append_left d xs (flat rows) hd)),
  Evenly-agree p q rows (λ d h. same d (Has-append_right d xs (flat rows) h)) even.1,
)

-- it is the same which of two tests comes first
or_swap : (a b : Bool) → (a || b) ≡ (b || a)
or_swap true true = refl
or_swap true false = refl
or_swap false true = refl
or_swap false false = refl

-- two sides, of which the first has two lists
module _ (e : ℕ) (f : ℕ → ℕ) (r b : ℕ) (rs bs : List ℕ) (more others : List (List ℕ))
    (is : IsMapOf (2 * e) f ((r ∷ rs) ∷ (((b ∷ bs) ∷ more) ++ others)))
    (sides : AreSides ((r ∷ rs) ∷ (b ∷ bs) ∷ more) others) where
  -- the first list
  abbrev first : List ℕ
  first = r ∷ rs

  -- the lists of the side behind it
  abbrev side : List (List ℕ)
  side = (b ∷ bs) ∷ more

  -- a dart that does not lead to the first list leads to another of the side
  other_list : (d : ℕ) → Has d (flat others) → leads_to first d ≡ false → Among side (Has (twin d))
  other_list d h out = ⊎_elim
      (λ k. absurd (false≢true (sym out ∙ has_yes (twin d) first k)))
      (λ k. list_of_dart (twin d) side k)
      (Has-append_cases (twin d) first (flat side) (sides.back d h))

  -- the map with a list of the side behind the first
  second_list : (before behind : List (List ℕ)) (row : List ℕ) → side ≡ before ++ row ∷ behind
      → IsMapOf (2 * e) f (first ∷ row ∷ ((before ++ behind) ++ others))
  second_list before behind row whole =
      subst (λ rows. IsMapOf (2 * e) f (first ∷ row ∷ rows)) (sym (append_assoc before behind others))
      (IsMapOf-swap (2 * e) f row first (before ++ (behind ++ others))
      (IsMapOf-front (2 * e) f row (first ∷ before) (behind ++ others)
      (subst (λ rows. IsMapOf (2 * e) f (first ∷ rows))
      (ap (λ rows. rows ++ others) whole ∙ append_assoc before (row ∷ behind) others) is)))

  -- where two darts that follow each other lead to two lists of the side, these can be merged
  changes-NextMerge : Among others (Changes (leads_to first)) → NextMerge e f first side others
  changes-NextMerge a = ⊎_elim left right c.differ
    where
      c : Changes (leads_to first) a.row
      c = a.fine

      o : List ℕ
      o = c.front ++ c.x ∷ c.y ∷ c.behind

      eq : others ≡ a.before ++ o ∷ a.behind
      eq = a.whole ∙ ap (λ ws. a.before ++ ws ∷ a.behind) c.whole

      item : (d : ℕ) → Has d (c.x ∷ c.y ∷ c.behind) → Has d (flat others)
      item d h = subst (λ rows. Has d (flat rows)) (sym eq)
          (subst (Has d) (sym (flat-append a.before (o ∷ a.behind)))
          (Has-append_right d (flat a.before) (flat (o ∷ a.behind))
          (Has-append_left d o (flat a.behind) (Has-append_right d c.front (c.x ∷ c.y ∷ c.behind) h))))

      left : (leads_to first c.x ≡ true) × (leads_to first c.y ≡ false) → NextMerge e f first side others
      left v =
          let s : Among side (Has (twin c.y)) = other_list c.y (item c.y (inr (inl refl))) v.1 in
          let rest : List (List ℕ) = s.before ++ s.behind in
          record {
            before = s.before;
            row = s.row;
            behind = s.behind;
            whole = s.whole;
            merge =
                subst (λ rows. CanMerge e f first s.row (rest ++ rows)) (sym eq)
                (corner-CanMerge e f first s.row c.x c.y c.front c.behind rest a.before a.behind
                (has_true (twin c.x) first v.0) s.fine
                (subst (λ rows. IsMapOf (2 * e) f (first ∷ s.row ∷ (rest ++ rows))) eq
                (second_list s.before s.behind s.row s.whole)));
          }

      right : (leads_to first c.x ≡ false) × (leads_to first c.y ≡ true) → NextMerge e f first side others
      right v =
          let s : Among side (Has (twin c.x)) = other_list c.x (item c.x (inl refl)) v.0 in
          let rest : List (List ℕ) = s.before ++ s.behind in
          record {
            before = s.before;
            row = s.row;
            behind = s.behind;
            whole = s.whole;
            merge =
                subst (λ rows. CanMerge e f first s.row (rest ++ rows)) (sym eq)
                (CanMerge-swap e f s.row first (rest ++ (a.before ++ o ∷ a.behind))
                (corner-CanMerge e f s.row first c.x c.y c.front c.behind rest a.before a.behind s.fine
                (has_true (twin c.y) first v.1)
                (IsMapOf-swap (2 * e) f first s.row (rest ++ (a.before ++ o ∷ a.behind))
                (subst (λ rows. IsMapOf (2 * e) f (first ∷ s.row ∷ (rest ++ rows))) eq
                (second_list s.before s.behind s.row s.whole)))));
          }

  -- a dart of another list is none of the first
  not_first : (d : ℕ) → Has d (flat (side ++ others)) → has d first ≡ false
  not_first d h = has_no d first (Lacks-from d first
      (λ k. has_lacks d (flat (side ++ others)) h (Distinct-apart d first (flat (side ++ others)) is.once k)))

  -- a dart of the other side is one of the lists behind the first
  in_others : (d : ℕ) → Has d (flat others) → Has d (flat (side ++ others))
  in_others d h = subst (Has d) (sym (flat-append side others)) (Has-append_right d (flat side) (flat others) h)

  -- and so is one of the side
  in_side : (d : ℕ) → Has d (flat side) → Has d (flat (side ++ others))
  in_side d h = subst (Has d) (sym (flat-append side others)) (Has-append_left d (flat side) (flat others) h)

  -- where each vertex of the other side leads to the first alone or not to it, the first two are of two components
  pub even-two_parts : Evenly (leads_to first) others → OnePart e f r b → ⊥
  even-two_parts even =
      Evenly-two_parts e f (first ∷ (side ++ others)) p r b is (
        (λ c d hc hd. on_first c hc ∙ sym (on_first d hd)),
        Evenly-append p side others (Evenly-same p false side on_side)
            (Evenly-agree (leads_to first) p others
            (λ d h. ap (λ u. u || has (twin d) first) (not_first d (in_others d h))) even),
      )
      (λ d lt. or_swap (has d first) (has (twin d) first)
      ∙ ap (λ y. has (twin d) first || has y first) (sym (twin-twin d)))
      (λ same. false≢true (sym (on_side b (inl refl)) ∙ sym same ∙ on_first r (inl refl)))
    where
      p : ℕ → Bool
      p d = has d first || has (twin d) first

      on_side : (d : ℕ) → Has d (flat side) → p d ≡ false
      on_side d h = ap₂ (λ u v. u || v) (not_first d (in_side d h))
          (not_first (twin d) (in_others (twin d) (sides.across d (Has-append_right d first (flat side) h))))

      on_first : (d : ℕ) → Has d first → p d ≡ true
      on_first d h = ap (λ u. u || has (twin d) first) (has_yes d first h)

  -- and then they can be merged
  even-NextMerge : Evenly (leads_to first) others → NextMerge e f first side others
  even-NextMerge even = record {
    before = [];
    row = b ∷ bs;
    behind = more;
    whole = refl;
    merge = two_parts-CanMerge e f r b rs bs (more ++ others) is (even-two_parts even);
  }

  -- while a side has two lists, one can be merged with the first
  pub next-NextMerge : NextMerge e f first side others
  next-NextMerge = ⊎_elim changes-NextMerge even-NextMerge (changes_or_Evenly (leads_to first) others)
