-- Items that are found under a name, and facts on all items of a list.
use Rattle.std.proofs.Common.{◌≡◌, ℕ, Bool, true, false, not, ◌||◌, eqb, List, [], ◌∷◌, ◌++◌, map, slice_index_or, sym, refl, ap, ◌∙◌, subst, arith, ⊎_elim}
use Rattle.std.specs.Prelude.{Option, Some, None, find, filter}
use Rattle.std.specs.List.{All}
use Rattle.std.specs.Option.{option_map, option_map_or}
use Rattle.std.proofs.lemmas.Bool.{cases_Bool, cases_eq, cond-true, cond-false, both_ways, ne_eqb, or_parts, false≢true}
use Rattle.std.proofs.lemmas.List.{length-map, get_or-map}
use Rattle.std.proofs.lemmas.List.Elements.{All-nil, All-cons, All-head, All-tail}
use Rattle.cp_board.specs.declared.parts.Pipe.{Pipe}
use Rattle.cp_board.specs.Names.{has}
use Rattle.cp_board.proofs.ListTests.{rises}
use Rattle.cp_board.proofs.NamedLists.{found_at}

-- what is found is one thing
pub Some-same : {A : Type 0} (x y : A) → Some x ≡ Some y → x ≡ y
Some-same x y e = ap (λ o. option_map_or (λ z. z) o x) e

-- nothing is not something
pub None-other : {A : Type 0} (x : A) → None ≡ Some x → ⊥
None-other x e = false≢true (ap (λ o. option_map_or (λ z. true) o false) e)

-- a value comes from something
pub option_map-Some : {A B : Type 0} (f : A → B) (o : Option A) (b : B) → option_map f o ≡ Some b
    → (x : A) × (o ≡ Some x)
option_map-Some f None b e = absurd (None-other b e)
option_map-Some f (Some x) b e = (x, refl)

-- what is found passes, and what holds of all holds of it
pub All-found : {A : Type 0} (t : A → Bool) (holds : A → Type 0) (xs : List A) (x : A) → All holds xs
    → find t xs ≡ Some x → holds x × (t x ≡ true)
All-found t holds [] x all e = absurd (None-other x e)
All-found t holds (y ∷ ys) x all e =
    ⊎_elim
    (λ b. let same = Some-same y x (sym (cond-true (t y) (Some y) (find t ys) b) ∙ e) in
    (subst holds same (All-head holds y ys all), subst (λ z. t z ≡ true) same b))
    (λ b. All-found t holds ys x (All-tail holds y ys all) (sym (cond-false (t y) (Some y) (find t ys) b) ∙ e))
    (cases_Bool (t y))

-- what holds of the values holds of the items
pub All-unmapped : {A B : Type 0} (holds : B → Type 0) (f : A → B) (xs : List A) → All holds (map f xs)
    → All (λ x. holds (f x)) xs
All-unmapped holds f xs all k d lt =
    subst holds (get_or-map f xs k d (f d) lt) (all k (f d) (omega (arith, length-map xs f)))

-- what holds of all that pass
pub All-unfiltered : {A : Type 0} (t : A → Bool) (holds : A → Type 0) (xs : List A) → All holds (filter t xs)
    → All (λ x. t x ≡ true → holds x) xs
All-unfiltered t holds [] all = All-nil (λ x. t x ≡ true → holds x)
All-unfiltered t holds (x ∷ xs) all =
    ⊎_elim
    (λ b. let here = subst (All holds) (cond-true (t x) (x ∷ filter t xs) (filter t xs) b) all in
    All-cons (λ y. t y ≡ true → holds y) x xs (λ e. All-head holds x (filter t xs) here)
    (All-unfiltered t holds xs (All-tail holds x (filter t xs) here)))
    (λ b. All-cons (λ y. t y ≡ true → holds y) x xs (λ e. absurd (both_ways (t x) b e))
    (All-unfiltered t holds xs (subst (All holds) (cond-false (t x) (x ∷ filter t xs) (filter t xs) b) all)))
    (cases_Bool (t x))

-- what holds of the pipe of a name and of all others holds of all pipes
pub All-with_pipe : (holds : Pipe → Type 0) (ps : List Pipe) (n : ℕ) (p : Pipe) → rises (map (λ x. x.name) ps) ≡ true
    → find (λ x. eqb x.name n) ps ≡ Some p
    → holds p
    → All holds (filter (λ q. not (has (n ∷ []) q.name)) ps)
    → All holds ps
All-with_pipe holds ps n p up found hp others k d lt =
    let q = slice_index_or ps k d in
    ⊎_elim
    (λ (same : q.name ≡ n). subst holds
    (Some-same p q (sym found ∙ ap (λ m. find (λ x. eqb x.name m) ps) (sym same) ∙ found_at (λ x. x.name) ps k d up lt))
    hp)
    (λ other. All-unfiltered (λ x. not (has (n ∷ []) x.name)) holds ps others k d lt
    (ap (λ b. not (b || false)) (ne_eqb q.name n other)))
    (cases_eq q.name n)

-- a name that a row of two lists lacks, both lack
pub has-append_false : (n : ℕ) (xs ys : List ℕ) → has (xs ++ ys) n ≡ false → (has xs n ≡ false) × (has ys n ≡ false)
has-append_false n [] ys e = (refl, e)
has-append_false n (x ∷ xs) ys e =
    let h = or_parts (eqb n x) (has (xs ++ ys) n) e in
    let rest = has-append_false n xs ys h.1 in
    (ap (λ b. b || has xs n) h.0 ∙ rest.0, rest.1)
