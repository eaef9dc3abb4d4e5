-- The order of names does not depend on the order in which items of different names come.
use Rattle.std.proofs.Common.{◌≡◌, ◌≢◌, ℕ, ◌<◌, ◌≤◌, true, ltb, List, [], ◌∷◌, ◌++◌, map, sym, refl, ap, ◌∙◌, ⊎_elim, arith, IsPermutation}
use Rattle.std.proofs.lemmas.Bool.{cases_lt, cases_order, cond-false, cond-true, le-ltb, lt-ltb}
use Rattle.std.proofs.lemmas.List.Sorted.{IsPermutation-sym, IsPermutation-to_front}
use Rattle.cp_lists.specs.CyclicLists.{Distinct, Lacks}
use Rattle.cp_lists.proofs.PermutedLists.{along_permutation}
use Rattle.cp_board.specs.Names.{by_name, put}
use Rattle.cp_board.proofs.ListTests.{rises}
use Rattle.cp_board.proofs.NamedLists.{by_name_same}
use Rattle.cp_board.proofs.NumberOfNewNames.{Distinct-from_rises}

module _ {A : Type 0} (name : A → ℕ) where
  -- an item is put in front of a first one of a greater name
  put_before : (x z : A) (zs : List A) → name x < name z → put name x (z ∷ zs) ≡ x ∷ z ∷ zs
  put_before x z zs lt =
      cond-true (ltb (name x) (name z)) (x ∷ z ∷ zs) (z ∷ put name x zs) (lt-ltb (name x) (name z) lt)

  -- and behind a first one of another name
  put_behind : (x z : A) (zs : List A) → name z ≤ name x → put name x (z ∷ zs) ≡ z ∷ put name x zs
  put_behind x z zs le =
      cond-false (ltb (name x) (name z)) (x ∷ z ∷ zs) (z ∷ put name x zs) (le-ltb (name x) (name z) le)

  -- an item is put in front of one of a greater name that was put in front of the list or into it
  put_less_before : (x y z : A) (zs : List A) → name x < name y → name x < name z
      → put name x (put name y (z ∷ zs)) ≡ x ∷ put name y (z ∷ zs)
  put_less_before x y z zs xy xz =
      ⊎_elim
      (λ yz. ap (put name x) (put_before y z zs yz) ∙ put_before x y (z ∷ zs) xy
      ∙ ap (λ ws. x ∷ ws) (sym (put_before y z zs yz)))
      (λ zy. ap (put name x) (put_behind y z zs zy) ∙ put_before x z (put name y zs) xz
      ∙ ap (λ ws. x ∷ ws) (sym (put_behind y z zs zy)))
      (cases_lt (name y) (name z))

  -- of two items the one of the lower name may be put in first or last
  put_less : (x y : A) (zs : List A) → name x < name y → put name x (put name y zs) ≡ put name y (put name x zs)
  put_less x y [] xy = put_before x y [] xy ∙ sym (put_behind y x [] (omega (arith, xy)))
  put_less x y (z ∷ zs) xy =
      ⊎_elim
      (λ xz. put_less_before x y z zs xy xz ∙ sym (put_behind y x (z ∷ zs) (omega (arith, xy)))
      ∙ ap (put name y) (sym (put_before x z zs xz)))
      (λ zx. ap (put name x) (put_behind y z zs (omega (arith, xy, zx)))
      ∙ put_behind x z (put name y zs) zx ∙ ap (λ ws. z ∷ ws) (put_less x y zs xy)
      ∙ sym (put_behind y z (put name x zs) (omega (arith, xy, zx))) ∙ ap (put name y) (sym (put_behind x z zs zx)))
      (cases_lt (name x) (name z))

  -- two items of different names may be put in in either order
  put_either : (x y : A) (zs : List A) → name x ≢ name y → put name x (put name y zs) ≡ put name y (put name x zs)
  put_either x y zs ne =
      ⊎_elim (λ e. absurd (ne e)) (λ h. ⊎_elim (put_less x y zs) (λ lt. sym (put_less y x zs lt)) h)
      (cases_order (name x) (name y))

  -- what the names of one list lack those of the other lack, and where the ones are distinct, the others are, and both
  -- lists have one order of names
  abbrev HaveOneOrder : List A → List A → Type 0
  HaveOneOrder xs ys =
      ((n : ℕ) → Lacks n (map name xs) → Lacks n (map name ys))
      × (Distinct (map name xs) → Distinct (map name ys) × (by_name name xs ≡ by_name name ys))

  -- a permutation of items of different names has the same order of names
  pub by_name-permuted : (xs ys : List A) → IsPermutation xs ys → Distinct (map name xs)
      → by_name name xs ≡ by_name name ys
  by_name-permuted xs ys moved once = ((along_permutation HaveOneOrder
      (λ zs. ((λ n l. l), (λ d. (d, refl))))
      (λ z us vs f. (
        (λ n l. (l.0, f.0 n l.1)),
        (λ d.
            let rest = f.1 d.1 in ((f.0 (name z) d.0, rest.0), ap (put name z) rest.1)),
      ))
      (λ y z zs. (
        (λ n l. (l.1.0, (l.0, l.1.1))),
        (λ d. (
          ((λ e. d.0.0 (sym e), d.1.0), (d.0.1, d.1.1)),
          put_either y z (by_name name zs) (λ e. d.0.0 (sym e)),
        )),
      ))
      (λ us vs ws f g. (
        (λ n l. g.0 n (f.0 n l)),
        (λ d.
            let one = f.1 d in let two = g.1 one.0 in (two.0, one.1 ∙ two.1)),
      )) xs ys moved).1 once).1

  -- items whose names rise are the order of names of each permutation of them
  pub by_name-rising : (xs ys : List A) → IsPermutation xs ys → rises (map name ys) ≡ true → by_name name xs ≡ ys
  by_name-rising xs ys moved up =
      sym (by_name-permuted ys xs (IsPermutation-sym xs ys moved) (Distinct-from_rises (map name ys) up))
      ∙ by_name_same name ys up

  -- it does not matter whether an item of another name comes last or first
  pub by_name-last : (x : A) (xs : List A) → Distinct (map name (x ∷ xs))
      → by_name name (xs ++ x ∷ []) ≡ by_name name (x ∷ xs)
  by_name-last x xs once =
      sym (by_name-permuted (x ∷ xs) (xs ++ x ∷ [])
      (IsPermutation-sym (xs ++ x ∷ []) (x ∷ xs) (IsPermutation-to_front xs x)) once)
