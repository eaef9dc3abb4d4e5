-- Rows of names and lists that stand in two lists beside each other.
use Rattle.std.proofs.Common.{◌≡◌, ◌≢◌, ℕ, zero, suc, ◌+◌, ◌<◌, eqb, List, [], ◌∷◌, ◌++◌, length, map, find, Some, slice_index, slice_index_or, slice_set, sym, refl, ap, ◌∙◌, subst, arith}
use Rattle.std.specs.Option.{option_map_or}
use Rattle.std.specs.List.{All, Contains, zip}
use Rattle.std.specs.List.Sorted.{IsStrictlyIncreasing}
use Rattle.std.proofs.lemmas.Bool.{cond-true, cond-false, eq-eqb, ne_eqb}
use Rattle.cp_board.specs.Solutions.{list_in, with_list}
use Rattle.std.proofs.lemmas.List.{get_or-map, length-map}
use Rattle.cp_sync.specs.Places.{IsLowerPlace}
use Rattle.cp_sync.proofs.Places.{rising_apart, live_place}

-- the names of the rows
pub map-zip-names : (ns : List ℕ) (ls : List (List ℕ)) → length ns ≡ length ls → map (λ x. x.0) (zip ns ls) ≡ ns
map-zip-names [] ls e = refl
map-zip-names (n ∷ ns) [] e = absurd (omega (arith, e))
map-zip-names (n ∷ ns) (l ∷ ls) e = ap (λ xs. n ∷ xs) (map-zip-names ns ls (omega (arith, e)))

-- a row more
pub zip-more : (ns : List ℕ) (ls : List (List ℕ)) (n : ℕ) (l : List ℕ) → length ns ≡ length ls
    → zip (ns ++ n ∷ []) (ls ++ l ∷ []) ≡ zip ns ls ++ (n, l) ∷ []
zip-more [] [] n l e = refl
zip-more [] (k ∷ ls) n l e = absurd (omega (arith, e))
zip-more (m ∷ ns) [] n l e = absurd (omega (arith, e))
zip-more (m ∷ ns) (k ∷ ls) n l e = ap (λ xs. (m, k) ∷ xs) (zip-more ns ls n l (omega (arith, e)))

-- the rest of rising names rises
pub rising_rest : (n : ℕ) (ns : List ℕ) → IsStrictlyIncreasing (n ∷ ns) → IsStrictlyIncreasing ns
rising_rest n ns up k lt =
    subst (λ j. slice_index ns k < slice_index (n ∷ ns) j) (let e : suc k + 1 ≡ suc (k + 1) = omega arith in e)
    (up (suc k) (omega (arith, lt)))

-- the list at the place of a name is that under the name
pub list_in-place : (ns : List ℕ) (ls : List (List ℕ)) (k n : ℕ) → length ns ≡ length ls → IsStrictlyIncreasing ns
    → k < length ns → slice_index ns k ≡ n
    → slice_index_or ls k [] ≡ list_in (zip ns ls) n
list_in-place [] ls k n e up lt at = absurd (omega (arith, lt))
list_in-place (m ∷ ns) [] k n e up lt at = absurd (omega (arith, e))
list_in-place (m ∷ ns) (l ∷ ls) zero n e up lt at =
    ap (λ o. option_map_or (λ (x : ℕ × List ℕ). x.1) o []) (sym (cond-true (eqb m n) (Some (m, l)) (find (λ x. eqb x.0 n) (zip ns ls)) (eq-eqb m n at)))
list_in-place (m ∷ ns) (l ∷ ls) (suc k) n e up lt at =
    let less : m < n = omega (arith, rising_apart (m ∷ ns) up 0 (suc k) (omega arith) lt, at) in
    list_in-place ns ls k n (omega (arith, e)) (rising_rest m ns up) (omega (arith, lt)) at
    ∙ ap (λ o. option_map_or (λ (x : ℕ × List ℕ). x.1) o []) (sym (cond-false (eqb m n) (Some (m, l)) (find (λ x. eqb x.0 n) (zip ns ls)) (ne_eqb m n (λ h. omega (arith, less, h)))))

-- no row of greater names has the list exchanged
pub with_list-none : (ns : List ℕ) (ls : List (List ℕ)) (n : ℕ) (l : List ℕ)
    → ((j : ℕ) → j < length ns → slice_index ns j ≢ n)
    → with_list n l (zip ns ls) ≡ zip ns ls
with_list-none [] ls n l none = refl
with_list-none (m ∷ ns) [] n l none = refl
with_list-none (m ∷ ns) (k ∷ ls) n l none =
    ap (λ x. x ∷ with_list n l (zip ns ls)) (cond-false (eqb m n) (n, l) (m, k) (ne_eqb m n (none 0 (omega arith))))
    ∙ ap (λ xs. (m, k) ∷ xs) (with_list-none ns ls n l (λ j lt. none (suc j) (omega (arith, lt))))

-- the list at the place of a name is exchanged
pub with_list-place : (ns : List ℕ) (ls : List (List ℕ)) (k n : ℕ) (l : List ℕ) → length ns ≡ length ls
    → IsStrictlyIncreasing ns
    → k < length ns → slice_index ns k ≡ n
    → zip ns (slice_set ls k l) ≡ with_list n l (zip ns ls)
with_list-place [] ls k n l e up lt at = absurd (omega (arith, lt))
with_list-place (m ∷ ns) [] k n l e up lt at = absurd (omega (arith, e))
with_list-place (m ∷ ns) (h ∷ ls) zero n l e up lt at =
    ap (λ x. (x, l) ∷ zip ns ls) at
    ∙ ap (λ xs. (n, l) ∷ xs) (sym (with_list-none ns ls n l (λ j lj e2. omega (arith, rising_apart (m ∷ ns) up 0 (suc j) (omega arith) (omega (arith, lj)), at, e2))))
    ∙ ap (λ x. x ∷ with_list n l (zip ns ls)) (sym (cond-true (eqb m n) (n, l) (m, h) (eq-eqb m n at)))
with_list-place (m ∷ ns) (h ∷ ls) (suc k) n l e up lt at =
    let less : m < n = omega (arith, rising_apart (m ∷ ns) up 0 (suc k) (omega arith) lt, at) in
    ap (λ xs. (m, h) ∷ xs) (with_list-place ns ls k n l (omega (arith, e)) (rising_rest m ns up) (omega (arith, lt)) at)
    ∙ ap (λ x. x ∷ with_list n l (zip ns ls)) (sym (cond-false (eqb m n) (n, l) (m, h) (ne_eqb m n (λ h. omega (arith, less, h)))))

-- names that rise still rise with a greater one
pub rising_more : (ns : List ℕ) (n : ℕ) → IsStrictlyIncreasing ns → ((j : ℕ) → j < length ns → slice_index ns j < n)
    → IsStrictlyIncreasing (ns ++ n ∷ [])
rising_more [] n up less k lt = absurd (omega (arith, lt))
rising_more (m ∷ []) n up less zero lt = less 0 (omega arith)
rising_more (m ∷ []) n up less (suc k) lt = absurd (omega (arith, lt))
rising_more (m ∷ o ∷ ns) n up less zero lt = up 0 (omega arith)
rising_more (m ∷ o ∷ ns) n up less (suc k) lt =
    subst (λ j. slice_index ((o ∷ ns) ++ n ∷ []) k < slice_index ((m ∷ o ∷ ns) ++ n ∷ []) j)
    (let e : suc (k + 1) ≡ suc k + 1 = omega arith in e)
    (rising_more (o ∷ ns) n (rising_rest m (o ∷ ns) up) (λ j lj. less (suc j) (omega (arith, lj))) k (omega (arith, lt)))

-- numbers are their own names
pub map-same : (xs : List ℕ) → map (λ x. x) xs ≡ xs
map-same [] = refl
map-same (x ∷ xs) = ap (λ ys. x ∷ ys) (map-same xs)

-- the first place of a row whose name is not less than a live name: it has the name
pub live_row : (rows : List (ℕ × List ℕ)) (ns : List ℕ) (ls : List (List ℕ)) (n k : ℕ) → zip ns ls ≡ rows
    → length ns ≡ length ls
    → IsStrictlyIncreasing ns
    → Contains (map (λ x. x.0) rows) n
    → IsLowerPlace (map (λ x. x) ns) n k
    → (k < length ns) × (slice_index ns k ≡ n)
live_row rows ns ls n k view e up c low =
    live_place ns n k up
    (subst (λ xs. Contains xs n) (map-zip-names ns ls e) (subst (λ xs. Contains (map (λ x. x.0) xs) n) (sym view) c))
    (subst (λ xs. IsLowerPlace xs n k) (map-same ns) low)

-- names that are less than n in the rows are less in the list of names
pub names_less : (rows : List (ℕ × List ℕ)) (ns : List ℕ) (ls : List (List ℕ)) (n : ℕ) → zip ns ls ≡ rows
    → length ns ≡ length ls
    → All (λ x. x.0 < n) rows
    → (j : ℕ) → j < length ns → slice_index ns j < n
names_less rows ns ls n view e all j lt =
    let names : map (λ x. x.0) rows ≡ ns = ap (map (λ x. x.0)) (sym view) ∙ map-zip-names ns ls e in
    let in_rows : j < length rows = omega (arith, lt, ap length names, length-map rows (λ (x : ℕ × List ℕ). x.0)) in
    subst (λ x. x < n) (sym (get_or-map (λ (x : ℕ × List ℕ). x.0) rows j (0, []) 0 in_rows) ∙ ap (λ xs. slice_index xs j) names) (all j (0, []) in_rows)
