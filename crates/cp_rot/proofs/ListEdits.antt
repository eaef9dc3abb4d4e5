-- Lists with new numbers for their items, with items left out, and with parts put together.
use Rattle.std.proofs.Common.{◌≡◌, ℕ, zero, suc, ◌+◌, ◌*◌, ◌/◌, ◌<◌, List, [], ◌∷◌, ◌++◌, length, map, drop, eqb, slice_index_or, sym, refl, ap, ap₂, ◌∙◌, subst, inl, inr, ⊎_elim, arith, append_assoc, length-append, take_at, drop_at}
use Rattle.std.specs.List.{position_or_len}
use Rattle.std.proofs.lemmas.Bool.{cases_eq, eq-eqb, ne_eqb}
use Rattle.std.proofs.lemmas.List.{get_or_append_left, get_or_at}
use Rattle.cp_lists.specs.CyclicLists.{Has, Lacks, Distinct, but, head_or, next_from, follow}
use Rattle.cp_lists.proofs.DistinctLists.{has_lacks, Lacks-from, Has-split}
use Rattle.cp_lists.proofs.CyclicLists.{next_from_at, next_from_other, place_middle}
use Rattle.cp_rot.specs.Rewrites.{values, without_edge, before, behind}

-- the numbers below n give n values
pub length-values : {A : Type 0} (n : ℕ) (f : ℕ → A) → length (values n f) ≡ n
length-values zero f = refl
length-values (suc n) f = length-append (values n f) (f n ∷ []) ∙ omega (arith, length-values n f)

-- value i is that of i
pub values_at : {A : Type 0} (n : ℕ) (f : ℕ → A) (i : ℕ) (z : A) → i < n → slice_index_or (values n f) i z ≡ f i
values_at zero f i z lt = absurd (omega arith)
values_at (suc n) f i z lt =
    ⊎_elim
    (λ e. get_or_at (values n f) (f n) [] z i (length-values n f ∙ sym e) ∙ ap f (sym e))
    (λ ne. get_or_append_left (values n f) (f n ∷ []) z i (omega (arith, length-values n f)) ∙ values_at n f i z (omega arith))
    (cases_eq i n)

-- a loop's step: one value more
pub values_more : {A : Type 0} (n : ℕ) (f : ℕ → A) {xs ys : List A} {x : A} → xs ≡ values n f → x ≡ f n
    → ys ≡ xs ++ x ∷ [] → ys ≡ values (n + 1) f
values_more n f {xs} {ys} {x} e g h =
    let more : suc n ≡ n + 1 = omega arith in
    h ∙ ap₂ (λ us y. us ++ y ∷ []) e g ∙ ap (λ m. values m f) more

-- t undoes itself
abbrev pub Twice : (ℕ → ℕ) → Type 0
Twice t = (x : ℕ) → t (t x) ≡ x

-- then no two numbers have one image
pub Twice-apart : (t : ℕ → ℕ) → Twice t → (x y : ℕ) → t x ≡ t y → x ≡ y
Twice-apart t twice x y e = sym (twice x) ∙ ap t e ∙ twice y

-- the image of an item is an item of the images
pub Has-map : (t : ℕ → ℕ) (d : ℕ) (xs : List ℕ) → Has d xs → Has (t d) (map t xs)
Has-map t d [] h = absurd h
Has-map t d (x ∷ xs) h = ⊎_elim (λ e. inl (ap t e)) (λ k. inr (Has-map t d xs k)) h

-- an item of the images is the image of an item
pub map-Has : (t : ℕ → ℕ) → Twice t → (d : ℕ) (xs : List ℕ) → Has d (map t xs) → Has (t d) xs
map-Has t twice d [] h = absurd h
map-Has t twice d (x ∷ xs) h = ⊎_elim (λ e. inl (sym (twice x) ∙ ap t e)) (λ k. inr (map-Has t twice d xs k)) h

-- distinct items have distinct images
pub Distinct-map : (t : ℕ → ℕ) → Twice t → (xs : List ℕ) → Distinct xs → Distinct (map t xs)
Distinct-map t twice [] dis = tt
Distinct-map t twice (x ∷ xs) dis = (
  Lacks-from (t x) (map t xs) (λ h. has_lacks x xs (subst (λ y. Has y xs) (twice x) (map-Has t twice (t x) xs h)) dis.0),
  Distinct-map t twice xs dis.1,
)

-- the head of the images
head_or-map : (t : ℕ → ℕ) (z : ℕ) (xs : List ℕ) → head_or (t z) (map t xs) ≡ t (head_or z xs)
head_or-map t z [] = refl
head_or-map t z (x ∷ xs) = refl

-- behind an image comes the image of what is behind
next_from-map : (t : ℕ → ℕ) → Twice t → (first d : ℕ) (xs : List ℕ)
    → next_from (t first) (map t xs) (t d) ≡ t (next_from first xs d)
next_from-map t twice first d [] = refl
next_from-map t twice first d (x ∷ xs) =
    ⊎_elim
    (λ e. next_from_at (t first) (t d) (t x) (map t xs) (ap t e) ∙ head_or-map t first xs ∙ ap t (sym (next_from_at first d x xs e)))
    (λ ne. next_from_other (t first) (t d) (t x) (map t xs) (λ e. ne (Twice-apart t twice x d e)) ∙ next_from-map t twice first d xs ∙ ap t (sym (next_from_other first d x xs ne)))
    (cases_eq x d)

-- behind an image comes the image of what is behind, in a cyclic list
pub follow-map : (t : ℕ → ℕ) → Twice t → (d : ℕ) (xs : List ℕ) → Has d xs → follow (map t xs) (t d) ≡ t (follow xs d)
follow-map t twice d [] h = absurd h
follow-map t twice d (x ∷ xs) h = next_from-map t twice x d (x ∷ xs)

-- an item and its image are left out together
pub but-map : (t : ℕ → ℕ) → Twice t → (z : ℕ) (xs : List ℕ) → map t (but z xs) ≡ but (t z) (map t xs)
but-map t twice z [] = refl
but-map t twice z (x ∷ xs) =
    ⊎_elim
    (λ e. rw (eq-eqb x z e, eq-eqb (t x) (t z) (ap t e)) (but-map t twice z xs))
    (λ ne. rw (ne_eqb x z ne, ne_eqb (t x) (t z) (λ e. ne (Twice-apart t twice x z e))) (ap (λ ys. t x ∷ ys) (but-map t twice z xs)))
    (cases_eq x z)

-- leaving out the first item
but_at : (z x : ℕ) (xs : List ℕ) → x ≡ z → but z (x ∷ xs) ≡ but z xs
but_at z x xs e = rw (eq-eqb x z e) refl

-- keeping the first item
but_other : (z x : ℕ) (xs : List ℕ) → (x ≡ z → ⊥) → but z (x ∷ xs) ≡ x ∷ but z xs
but_other z x xs ne = rw (ne_eqb x z ne) refl

-- an edge is left out with its two darts
pub without_edge-but : (e : ℕ) (xs : List ℕ) → without_edge e xs ≡ but (2 * e) (but (2 * e + 1) xs)
without_edge-but e [] = refl
without_edge-but e (x ∷ xs) =
    ⊎_elim
    (λ odd. rw (eq-eqb (x / 2) e (omega arith), eq-eqb x (2 * e + 1) odd) (without_edge-but e xs))
    (λ not_odd. ⊎_elim
    (λ even. rw (eq-eqb (x / 2) e (omega arith)) (without_edge-but e xs) ∙ sym (ap (but (2 * e)) (but_other (2 * e + 1) x xs not_odd) ∙ but_at (2 * e) x (but (2 * e + 1) xs) even))
    (λ not_even. rw (ne_eqb (x / 2) e (λ h. omega arith)) (ap (λ ys. x ∷ ys) (without_edge-but e xs)) ∙ sym (ap (but (2 * e)) (but_other (2 * e + 1) x xs not_odd) ∙ but_other (2 * e) x (but (2 * e + 1) xs) not_even))
    (cases_eq x (2 * e)))
    (cases_eq x (2 * e + 1))

-- what stands in front of an item between two parts
pub before_middle : (d : ℕ) (ys zs : List ℕ) → Lacks d ys → before d (ys ++ d ∷ zs) ≡ ys
before_middle d ys zs l = take_at ys (d ∷ zs) (position_or_len (λ x. eqb x d) (ys ++ d ∷ zs)) (sym (place_middle d ys zs l))

-- what stands behind it
pub behind_middle : (d : ℕ) (ys zs : List ℕ) → Lacks d ys → behind d (ys ++ d ∷ zs) ≡ zs
behind_middle d ys zs l =
    ap (drop (position_or_len (λ x. eqb x d) (ys ++ d ∷ zs) + 1)) (sym (append_assoc ys (d ∷ []) zs))
    ∙ drop_at (ys ++ d ∷ []) zs (position_or_len (λ x. eqb x d) (ys ++ d ∷ zs) + 1) (length-append ys (d ∷ []) ∙ omega (arith, place_middle d ys zs l))

-- a list is what stands in front of an item, the item, and what stands behind
pub around_item : (d : ℕ) (xs : List ℕ) → Has d xs → xs ≡ before d xs ++ d ∷ behind d xs
around_item d xs h =
    let s = Has-split d xs h in
    s.2 ∙ ap₂ (λ us ws. us ++ d ∷ ws) (sym (ap (before d) s.2 ∙ before_middle d s.0 s.1 s.3)) (sym (ap (behind d) s.2 ∙ behind_middle d s.0 s.1 s.3))
