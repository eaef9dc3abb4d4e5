-- Pipes, vertices and their kinds by name.
use Rattle.std.proofs.Common.{◌≡◌, ℕ, eqb, List, [], ◌∷◌, map, sym, ap, ◌∙◌, subst, ⊎_elim, arith}
use Rattle.std.specs.Prelude.{Some, find}
use Rattle.std.specs.List.{Contains, flat_map}
use Rattle.std.proofs.lemmas.List.Elements.{All-contains}
use Rattle.cp_lists.specs.CyclicLists.{Distinct, Has}
use Rattle.cp_lists.proofs.DistinctLists.{Distinct-apart, Distinct-append_right, Has-append_left, Has-append_right, has_lacks}
use Rattle.cp_orbits.proofs.ClassLabels.{Contains-cons_cases}
use Rattle.cp_plantlaw.proofs.EndPartners.{found_own}

-- an item of the list of an item is one of all
pub owned : {A : Type 0} (f : A → List ℕ) (ys : List A) (y : A) (v : ℕ) → Contains ys y → Has v (f y)
    → Has v (flat_map f ys)
owned f [] y v c h = absurd (omega (arith, c.1))
owned f (z ∷ ys) y v c h = ⊎_elim
    (λ (e : z ≡ y). Has-append_left v (f z) (flat_map f ys) (subst (λ a. Has v (f a)) (sym e) h))
    (λ k. Has-append_right v (f z) (flat_map f ys) (owned f ys y v k h))
    (Contains-cons_cases z y ys c)

-- items whose lists share no item, which have an item in common, are one
pub one_owner : {A : Type 0} (f : A → List ℕ) (xs : List A) (x y : A) (v : ℕ) → Distinct (flat_map f xs) → Contains xs x
    → Contains xs y → Has v (f x) → Has v (f y) → x ≡ y
one_owner f [] x y v once cx cy hx hy = absurd (omega (arith, cx.1))
one_owner f (z ∷ xs) x y v once cx cy hx hy = ⊎_elim
    (λ (ex : z ≡ x). ⊎_elim
    (λ (ey : z ≡ y). sym ex ∙ ey)
    (λ ty. absurd (has_lacks v (flat_map f xs) (owned f xs y v ty hy)
    (Distinct-apart v (f z) (flat_map f xs) once (subst (λ a. Has v (f a)) (sym ex) hx))))
    (Contains-cons_cases z y xs cy))
    (λ tx. ⊎_elim
    (λ (ey : z ≡ y). absurd (has_lacks v (flat_map f xs) (owned f xs x v tx hx)
    (Distinct-apart v (f z) (flat_map f xs) once (subst (λ a. Has v (f a)) (sym ey) hy))))
    (λ ty. one_owner f xs x y v (Distinct-append_right (f z) (flat_map f xs) once) tx ty hx hy)
    (Contains-cons_cases z y xs cy))
    (Contains-cons_cases z x xs cx)

-- items of one name are one
pub one_name : {A : Type 0} (name : A → ℕ) (xs : List A) (x y : A) → Distinct (map name xs) → Contains xs x
    → Contains xs y
    → name x ≡ name y → x ≡ y
one_name {A} name xs x y once cx cy e =
    let fx = All-contains (λ z. find (λ w. eqb (name w) (name z)) xs ≡ Some z) xs x (found_own name xs once) cx in
    let fy = All-contains (λ z. find (λ w. eqb (name w) (name z)) xs ≡ Some z) xs y (found_own name xs once) cy in
    let same : Some x ≡ Some y = sym fx ∙ ap (λ n. find (λ w. eqb (name w) n) xs) e ∙ fy in
    cc
