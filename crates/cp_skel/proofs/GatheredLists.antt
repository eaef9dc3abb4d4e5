-- Numbers gathered by their values, and ranges with one number more.
use Rattle.std.proofs.Common.{◌≡◌, ℕ, zero, suc, ◌+◌, ◌<◌, List, [], ◌∷◌, ◌++◌, length, map, add-one, sym, ap, ◌∙◌, subst, ⊎_elim, arith}
use Rattle.std.specs.Prelude.{Bool, cond, eqb, false, true, slice_index_or, slice_set}
use Rattle.std.specs.List.{filter, flat_map, range_with_len}
use Rattle.std.proofs.lemmas.Bool.{cases_eq, cond-false, cond-true, eq-eqb, ne_eqb}
use Rattle.std.proofs.lemmas.List.{append-nil, get_or-set_other, get_or-set_same, length-set, map-append}
use Rattle.std.proofs.lemmas.List.Concat.{flat_map-append}
use Rattle.std.proofs.lemmas.List.Elements.{filter-append}
use Rattle.cp_skel.specs.Skeletons.{below}
use Rattle.cp_skel.specs.SkeletonTables.{AreEmpty, AreGathered}

-- a range ends with its last number
range_last : (a n : ℕ) → range_with_len a (suc n) ≡ range_with_len a n ++ (a + n) ∷ []
range_last a zero = ap (λ (m : ℕ). m ∷ []) (let h : a ≡ a + 0 = omega arith in h)
range_last a (suc n) =
    ap (λ (xs : List ℕ). a ∷ xs) (range_last (a + 1) n
    ∙ ap (λ (m : ℕ). range_with_len (a + 1) n ++ m ∷ []) (let h : a + 1 + n ≡ a + suc n = omega arith in h))

-- a range with one number more
pub range_more : (a n : ℕ) → range_with_len a (n + 1) ≡ range_with_len a n ++ (a + n) ∷ []
range_more a n = ap (range_with_len a) (add-one n) ∙ range_last a n

-- the numbers below n + 1
pub below_one_more : (n : ℕ) → below (n + 1) ≡ below n ++ n ∷ []
below_one_more n = range_more 0 n ∙ ap (λ (m : ℕ). below n ++ m ∷ []) (let h : 0 + n ≡ n = omega arith in h)

-- what is made of them by a map
pub map_more : {A : Type 0} (f : ℕ → A) (n : ℕ) → map f (below (n + 1)) ≡ map f (below n) ++ f n ∷ []
map_more f n = ap (map f) (below_one_more n) ∙ map-append f (below n) (n ∷ [])

-- what is made of them by pieces
pub pieces_more : {A : Type 0} (F : ℕ → List A) (n : ℕ) → flat_map F (below (n + 1)) ≡ flat_map F (below n) ++ F n
pieces_more {A = A} F n =
    ap (flat_map F) (below_one_more n) ∙ flat_map-append F (below n) (n ∷ [])
    ∙ ap (λ (xs : List A). flat_map F (below n) ++ xs) (append-nil (F n))

-- what a test keeps of them
pub kept_more : (p : ℕ → Bool) (n : ℕ) → filter p (below (n + 1)) ≡ filter p (below n) ++ cond (p n) (n ∷ []) []
kept_more p n = ap (filter p) (below_one_more n) ∙ filter-append p (below n) (n ∷ [])

-- no numbers are gathered in empty lists
pub AreGathered-none : (f : ℕ → ℕ) (m : ℕ) (lists : List (List ℕ)) → AreEmpty m lists → AreGathered f m [] lists
AreGathered-none f m lists empty = record { size = empty.size; each = empty.each }

-- one number more is gathered
pub AreGathered-more : (f : ℕ → ℕ) (m : ℕ) (xs : List ℕ) (x : ℕ) (lists new : List (List ℕ)) → AreGathered f m xs lists
    → f x < m → new ≡ slice_set lists (f x) (slice_index_or lists (f x) [] ++ x ∷ [])
    → AreGathered f m (xs ++ x ∷ []) new
AreGathered-more f m xs x lists new are lt is =
    let list : List ℕ = slice_index_or lists (f x) [] ++ x ∷ [] in
    let value : ℕ = f x in
    record {
      size = ap length is ∙ length-set lists (f x) list ∙ are.size;
      each = λ k within.
          ap (λ (ls : List (List ℕ)). slice_index_or ls k []) is
          ∙ ⊎_elim
          (λ same.
          ap (λ (j : ℕ). slice_index_or (slice_set lists (f x) list) j []) (sym same)
          ∙ get_or-set_same lists (f x) list [] (omega (arith, lt, are.size))
          ∙ ap (λ (ys : List ℕ). ys ++ x ∷ [])
          (are.each (f x) lt ∙ ap (λ (j : ℕ). filter (λ y. eqb (f y) j) xs) same)
          ∙ ap (λ (ys : List ℕ). filter (λ y. eqb (f y) k) xs ++ ys)
          (sym (cond-true (eqb (f x) k) (x ∷ []) [] (eq-eqb (f x) k same))))
          (λ ne.
          get_or-set_other lists (f x) k list [] (λ e. ne (sym e))
          ∙ are.each k within
          ∙ sym (append-nil (filter (λ y. eqb (f y) k) xs))
          ∙ ap (λ (ys : List ℕ). filter (λ y. eqb (f y) k) xs ++ ys)
          (sym (cond-false (eqb (f x) k) (x ∷ []) [] (ne_eqb (f x) k ne))))
          (cases_eq (f x) k)
          ∙ sym (filter-append (λ y. eqb (f y) k) xs (x ∷ []));
    }

-- a number that a test keeps is gathered
pub AreGathered-kept : (f : ℕ → ℕ) (m : ℕ) (p : ℕ → Bool) (n : ℕ) (lists new : List (List ℕ)) → p n ≡ true
    → AreGathered f m (filter p (below n)) lists → f n < m
    → new ≡ slice_set lists (f n) (slice_index_or lists (f n) [] ++ n ∷ [])
    → AreGathered f m (filter p (below (n + 1))) new
AreGathered-kept f m p n lists new t are lt is =
    subst (λ (xs : List ℕ). AreGathered f m xs new)
    (ap (λ (xs : List ℕ). filter p (below n) ++ xs) (sym (cond-true (p n) (n ∷ []) [] t)) ∙ sym (kept_more p n))
    (AreGathered-more f m (filter p (below n)) n lists new are lt is)

-- and one that it leaves out is not
pub AreGathered-left_out : (f : ℕ → ℕ) (m : ℕ) (p : ℕ → Bool) (n : ℕ) (lists : List (List ℕ)) → p n ≡ false
    → AreGathered f m (filter p (below n)) lists → AreGathered f m (filter p (below (n + 1))) lists
AreGathered-left_out f m p n lists t are =
    subst (λ (xs : List ℕ). AreGathered f m xs lists)
    (sym (append-nil (filter p (below n)))
    ∙ ap (λ (xs : List ℕ). filter p (below n) ++ xs) (sym (cond-false (p n) (n ∷ []) [] t)) ∙ sym (kept_more p n)) are
