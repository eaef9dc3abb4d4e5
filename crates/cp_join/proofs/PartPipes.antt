-- The pipes of the parts of a vertex: their names, ends and pairs.
use Rattle.std.proofs.Common.{◌≡◌, ◌≢◌, ℕ, zero, suc, ◌<◌, Bool, false, not, ◌||◌, ltb, eqb, List, [], ◌∷◌, ◌++◌, length, map, slice_index, slice_index_or, sym, refl, ap, ◌∙◌, subst, ⊎_elim, arith, append_assoc, IsPermutation}
use Rattle.std.specs.Prelude.{Some, find, filter}
use Rattle.std.specs.List.{All, Contains, flat_map}
use Rattle.std.specs.Option.{option_map_or}
use Rattle.std.proofs.lemmas.Bool.{cases_Bool, cond-true, cond-false, cond_both}
use Rattle.std.proofs.lemmas.List.Elements.{All-nil, All-cons, All-head, All-tail, All-filter}
use Rattle.std.proofs.lemmas.List.Sorted.{IsPermutation-append_left, IsPermutation-append_right, IsPermutation-append_comm, IsPermutation-cons, IsPermutation-middle, IsPermutation-refl, IsPermutation-trans}
use Rattle.cp_lists.specs.CyclicLists.{Distinct, Lacks}
use Rattle.cp_board.specs.declared.parts.Pipe.{Pipe}
use Rattle.cp_board.specs.Names.{has, put, by_name}
use Rattle.cp_board.specs.Joins.{part_pipes}
use Rattle.cp_join.proofs.LiveVerts.{none_some}

-- the two ends of a pipe, and those of some pipes
abbrev pub ends : Pipe → List ℕ
ends p = p.a ∷ p.b ∷ []

-- and of all pipes
abbrev pub ends_of_all : List Pipe → List ℕ
ends_of_all ps = flat_map ends ps

-- lists exchanged before a third
exchanged : {A : Type 0} (xs ys zs : List A) → IsPermutation (xs ++ (ys ++ zs)) (ys ++ (xs ++ zs))
exchanged xs ys zs =
    subst (IsPermutation (xs ++ (ys ++ zs))) (append_assoc ys xs zs)
    (subst (λ ws. IsPermutation ws ((ys ++ xs) ++ zs)) (append_assoc xs ys zs)
    (IsPermutation-append_left zs (xs ++ ys) (ys ++ xs) (IsPermutation-append_comm xs ys)))

-- values of items, one of which is put in order
flat_put : {A B : Type 0} (f : A → List B) (name : A → ℕ) (x : A) (ys : List A)
    → IsPermutation (f x ++ flat_map f ys) (flat_map f (put name x ys))
flat_put f name x [] = IsPermutation-refl (f x ++ [])
flat_put f name x (y ∷ ys) =
    cond_both (ltb (name x) (name y)) (x ∷ y ∷ ys) (y ∷ put name x ys)
    (λ zs. IsPermutation (f x ++ (f y ++ flat_map f ys)) (flat_map f zs))
    (λ t. IsPermutation-refl (f x ++ (f y ++ flat_map f ys)))
    (λ u. IsPermutation-trans (f x ++ (f y ++ flat_map f ys)) (f y ++ (f x ++ flat_map f ys)) (f y ++ flat_map f (put name x ys))
    (exchanged (f x) (f y) (flat_map f ys))
    (IsPermutation-append_right (f y) (f x ++ flat_map f ys) (flat_map f (put name x ys)) (flat_put f name x ys)))

-- the values of items in the order of names are the same values
pub flat_by_name : {A B : Type 0} (f : A → List B) (name : A → ℕ) (xs : List A)
    → IsPermutation (flat_map f xs) (flat_map f (by_name name xs))
flat_by_name f name [] = IsPermutation-refl []
flat_by_name f name (x ∷ xs) =
    IsPermutation-trans (f x ++ flat_map f xs) (f x ++ flat_map f (by_name name xs)) (flat_map f (put name x (by_name name xs)))
    (IsPermutation-append_right (f x) (flat_map f xs) (flat_map f (by_name name xs)) (flat_by_name f name xs))
    (flat_put f name x (by_name name xs))

-- the firsts and the seconds of the pairs of a part
pub firsts_of_pipe : (hat : ℕ → ℕ) (part : List ℕ) → map (λ (x : ℕ × ℕ). x.0) (map (λ e. (e, hat e)) part) ≡ part
firsts_of_pipe hat [] = refl
firsts_of_pipe hat (e ∷ es) = ap (λ zs. e ∷ zs) (firsts_of_pipe hat es)

-- and the seconds
pub seconds_of_pipe : (hat : ℕ → ℕ) (part : List ℕ)
    → map (λ (x : ℕ × ℕ). x.1) (map (λ e. (e, hat e)) part) ≡ map hat part
seconds_of_pipe hat [] = refl
seconds_of_pipe hat (e ∷ es) = ap (λ zs. hat e ∷ zs) (seconds_of_pipe hat es)

-- one name, one outer and one inner vertex for each part
pub names_of_pipes : (hat : ℕ → ℕ) (names outer inner : List ℕ) (parts : List (List ℕ)) → length names ≡ length parts
    → length outer ≡ length parts → length inner ≡ length parts
    → map (λ p. p.name) (part_pipes hat names outer inner parts) ≡ names
names_of_pipes hat [] outer inner parts n o m = refl
names_of_pipes hat (x ∷ xs) outer inner [] n o m = absurd (omega (arith, n))
names_of_pipes hat (x ∷ xs) [] inner (p ∷ ps) n o m = absurd (omega (arith, o))
names_of_pipes hat (x ∷ xs) (y ∷ ys) [] (p ∷ ps) n o m = absurd (omega (arith, m))
names_of_pipes hat (x ∷ xs) (y ∷ ys) (z ∷ zs) (p ∷ ps) n o m =
    ap (λ ns. x ∷ ns) (names_of_pipes hat xs ys zs ps (omega (arith, n)) (omega (arith, o)) (omega (arith, m)))

-- their ends are all outer and inner vertices
pub ends_of_pipes : (hat : ℕ → ℕ) (names outer inner : List ℕ) (parts : List (List ℕ)) → length names ≡ length parts
    → length outer ≡ length parts → length inner ≡ length parts
    → IsPermutation (outer ++ inner) (ends_of_all (part_pipes hat names outer inner parts))
ends_of_pipes hat [] [] [] parts n o m = IsPermutation-refl []
ends_of_pipes hat [] (y ∷ ys) inner parts n o m = absurd (omega (arith, n, o))
ends_of_pipes hat [] [] (z ∷ zs) parts n o m = absurd (omega (arith, n, m))
ends_of_pipes hat (x ∷ xs) outer inner [] n o m = absurd (omega (arith, n))
ends_of_pipes hat (x ∷ xs) [] inner (p ∷ ps) n o m = absurd (omega (arith, o))
ends_of_pipes hat (x ∷ xs) (y ∷ ys) [] (p ∷ ps) n o m = absurd (omega (arith, m))
ends_of_pipes hat (x ∷ xs) (y ∷ ys) (z ∷ zs) (p ∷ ps) n o m =
    IsPermutation-cons y (ys ++ z ∷ zs) (z ∷ ends_of_all (part_pipes hat xs ys zs ps))
    (IsPermutation-trans (ys ++ z ∷ zs) (z ∷ (ys ++ zs)) (z ∷ ends_of_all (part_pipes hat xs ys zs ps))
    (IsPermutation-middle ys z zs)
    (IsPermutation-cons z (ys ++ zs) (ends_of_all (part_pipes hat xs ys zs ps))
    (ends_of_pipes hat xs ys zs ps (omega (arith, n)) (omega (arith, o)) (omega (arith, m)))))

-- what holds of the pipe of each part holds of all
pub All-part_pipes : (hat : ℕ → ℕ) (names outer inner : List ℕ) (parts : List (List ℕ)) → length names ≡ length parts
    → length outer ≡ length parts → length inner ≡ length parts → (holds : Pipe → Type 0)
    → ((k : ℕ) → k < length parts → holds record {
      name = slice_index names k;
      a = slice_index outer k;
      b = slice_index inner k;
      pairs = map (λ e. (e, hat e)) (slice_index_or parts k []);
    })
    → All holds (part_pipes hat names outer inner parts)
All-part_pipes hat [] outer inner parts n o m holds each = All-nil holds
All-part_pipes hat (x ∷ xs) outer inner [] n o m holds each = absurd (omega (arith, n))
All-part_pipes hat (x ∷ xs) [] inner (p ∷ ps) n o m holds each = absurd (omega (arith, o))
All-part_pipes hat (x ∷ xs) (y ∷ ys) [] (p ∷ ps) n o m holds each = absurd (omega (arith, m))
All-part_pipes hat (x ∷ xs) (y ∷ ys) (z ∷ zs) (p ∷ ps) n o m holds each =
    All-cons holds record { name = x; a = y; b = z; pairs = map (λ e. (e, hat e)) p } (part_pipes hat xs ys zs ps)
    (each 0 (omega arith))
    (All-part_pipes hat xs ys zs ps (omega (arith, n)) (omega (arith, o)) (omega (arith, m)) holds
    (λ k lt. each (suc k) (omega (arith, lt))))

-- the pipe of each part is there
pub part_pipes-Contains : (hat : ℕ → ℕ) (names outer inner : List ℕ) (parts : List (List ℕ))
    → length names ≡ length parts → length outer ≡ length parts → length inner ≡ length parts
    → (k : ℕ) → k < length parts → Contains (part_pipes hat names outer inner parts) record {
      name = slice_index names k;
      a = slice_index outer k;
      b = slice_index inner k;
      pairs = map (λ e. (e, hat e)) (slice_index_or parts k []);
    }
part_pipes-Contains hat [] outer inner parts n o m k lt = absurd (omega (arith, n, lt))
part_pipes-Contains hat (x ∷ xs) outer inner [] n o m k lt = absurd (omega (arith, n))
part_pipes-Contains hat (x ∷ xs) [] inner (p ∷ ps) n o m k lt = absurd (omega (arith, o))
part_pipes-Contains hat (x ∷ xs) (y ∷ ys) [] (p ∷ ps) n o m k lt = absurd (omega (arith, m))
part_pipes-Contains hat (x ∷ xs) (y ∷ ys) (z ∷ zs) (p ∷ ps) n o m zero lt = (0, omega arith, refl)
part_pipes-Contains hat (x ∷ xs) (y ∷ ys) (z ∷ zs) (p ∷ ps) n o m (suc k) lt =
    let c = part_pipes-Contains hat xs ys zs ps (omega (arith, n)) (omega (arith, o)) (omega (arith, m)) k
    (omega (arith, lt)) in
    let low = c.1 in (suc c.0, omega (arith, low), c.2)

-- no end of q is one of p
abbrev Apart : Pipe → Pipe → Type 0
Apart p q = (q.a ≢ p.a) × (q.a ≢ p.b) × (q.b ≢ p.a) × (q.b ≢ p.b)

-- the test for pipes of other names
abbrev other : ℕ → Pipe → Bool
other n q = not (has (n ∷ []) q.name)

-- a pipe is apart from pipes that lack its ends
apart_from : (p : Pipe) (qs : List Pipe) → Lacks p.a (ends_of_all qs) → Lacks p.b (ends_of_all qs)
    → All (λ q. Apart p q) qs
apart_from p [] la lb = All-nil (λ q. Apart p q)
apart_from p (q ∷ qs) la lb =
    All-cons (λ z. Apart p z) q qs (la.0, lb.0, la.1.0, lb.1.0) (apart_from p qs la.1.1 lb.1.1)

-- the other way round
apart_sym : (p q : Pipe) → Apart p q → Apart q p
apart_sym p q h = ((λ e. h.0 (sym e)), (λ e. h.2 (sym e)), (λ e. h.1 (sym e)), (λ e. h.3 (sym e)))

-- the ends of the pipe of a name are apart from those of all others
pub others_apart : (n : ℕ) (p : Pipe) (ps : List Pipe) → Distinct (ends_of_all ps)
    → find (λ x. eqb x.name n) ps ≡ Some p
    → All (λ q. (q.a ≢ p.a) × (q.a ≢ p.b) × (q.b ≢ p.a) × (q.b ≢ p.b)) (filter (λ q. not (has (n ∷ []) q.name)) ps)
others_apart n p [] once found = All-nil (λ q. Apart p q)
others_apart n p (x ∷ xs) once found =
    ⊎_elim
    (λ b.
    let same : x ≡ p = Some-same x p
    (sym (cond-true (eqb x.name n) (Some x) (find (λ z. eqb z.name n) xs) b) ∙ found) in
    let rest = All-filter (other n) (λ q. Apart x q) xs (apart_from x xs once.0.1 once.1.0) in
    subst (λ z. All (λ q. Apart z q) (filter (other n) (x ∷ xs))) same
    (subst (All (λ q. Apart x q))
    (sym (cond-false (other n x) (x ∷ filter (other n) xs) (filter (other n) xs)
    (ap (λ c. not (c || false)) b))) rest))
    (λ b.
    let later = sym (cond-false (eqb x.name n) (Some x) (find (λ z. eqb z.name n) xs) b) ∙ found in
    let near = found_in xs (apart_from x xs once.0.1 once.1.0) later in
    subst (All (λ q. Apart p q))
    (sym (cond-true (other n x) (x ∷ filter (other n) xs) (filter (other n) xs) (ap (λ c. not (c || false)) b)))
    (All-cons (λ q. Apart p q) x (filter (other n) xs) (apart_sym x p near) (others_apart n p xs once.1.1 later)))
    (cases_Bool (eqb x.name n))
  where
    Some-same : (q r : Pipe) → Some q ≡ Some r → q ≡ r
    Some-same q r e = ap (λ o. option_map_or (λ z. z) o q) e

    found_in : (qs : List Pipe) → All (λ q. Apart x q) qs → find (λ z. eqb z.name n) qs ≡ Some p → Apart x p
    found_in [] all e = absurd (none_some p e)
    found_in (q ∷ qs) all e =
        ⊎_elim
        (λ b. subst (λ z. Apart x z) (Some-same q p (sym (cond-true (eqb q.name n) (Some q) (find (λ z. eqb z.name n) qs) b) ∙ e))
        (All-head (λ z. Apart x z) q qs all))
        (λ b. found_in qs (All-tail (λ z. Apart x z) q qs all)
        (sym (cond-false (eqb q.name n) (Some q) (find (λ z. eqb z.name n) qs) b) ∙ e))
        (cases_Bool (eqb q.name n))
