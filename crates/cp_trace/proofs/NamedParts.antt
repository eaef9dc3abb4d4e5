-- Items under their names: all of them are found there.
use Rattle.std.proofs.Common.{◌≡◌, ℕ, suc, Bool, true, eqb, List, [], ◌∷◌, map, find, get_or, refl, ap, ◌∙◌, subst, ⊎_elim, inl, inr, arith}
use Rattle.std.specs.Prelude.{Option, Some, None}
use Rattle.std.specs.List.{All, Contains}
use Rattle.std.specs.List.Sorted.{IsStrictlyIncreasing}
use Rattle.std.specs.Option.{option_map}
use Rattle.std.proofs.lemmas.Bool.{cond_both, eqb-true}
use Rattle.std.proofs.lemmas.List.{get_or_default}
use Rattle.cp_lists.specs.CyclicLists.{Has}
use Rattle.cp_orbits.proofs.ClassLabels.{Contains-cons_cases}
use Rattle.cp_board.specs.declared.parts.Kind.{Kind}
use Rattle.cp_board.specs.declared.parts.Vert.{Vert}
use Rattle.cp_board.specs.Instances.{kind_in, names_of_verts}
use Rattle.cp_board.proofs.NamedLists.{rises_from, found_at}

-- an item behind the first
later_in : {A : Type 0} (x z : A) (xs : List A) → Contains xs z → Contains (x ∷ xs) z
later_in x z xs c = (suc c.0, omega (arith, c.1), c.2)

-- what is found is in the list and passes the test
pub found_in : {A : Type 0} (t : A → Bool) (xs : List A) (x : A) → find t xs ≡ Some x → Contains xs x × (t x ≡ true)
found_in t [] x = λ e. absurd cc
found_in t (y ∷ ys) x =
    cond_both (t y) (Some y) (find t ys) (λ o. o ≡ Some x → Contains (y ∷ ys) x × (t x ≡ true))
    (λ yes e. let same : y ≡ x = cc in ((0, omega arith, same), subst (λ z. t z ≡ true) same yes))
    (λ no e. let r = found_in t ys x e in (later_in y x ys r.0, r.1))

-- an item is found under its name
pub named_found : {A : Type 0} (name : A → ℕ) (xs : List A) (x : A) → IsStrictlyIncreasing (map name xs) → Contains xs x
    → find (λ y. eqb (name y) (name x)) xs ≡ Some x
named_found name xs x up c =
    subst (λ z. find (λ y. eqb (name y) (name z)) xs ≡ Some z) c.2
    (found_at name xs c.0 x (rises_from (map name xs) up) c.1)

-- its name is one of the names
pub name_in : {A : Type 0} (name : A → ℕ) (xs : List A) (x : A) → Contains xs x → Has (name x) (map name xs)
name_in name [] x c = absurd (omega (arith, c.1))
name_in name (y ∷ ys) x c =
    ⊎_elim (λ (e : y ≡ x). inl (ap name e)) (λ h. inr (name_in name ys x h)) (Contains-cons_cases y x ys c)

-- each name is that of an item
pub in_names : {A : Type 0} (name : A → ℕ) (n : ℕ) (xs : List A) → Has n (map name xs)
    → (x : A) × Contains xs x × (name x ≡ n)
in_names name n [] h = absurd h
in_names name n (y ∷ ys) h =
    ⊎_elim (λ (e : name y ≡ n). (y, (0, omega arith, refl), e))
    (λ r. let q = in_names name n ys r in (q.0, later_in y q.0 ys q.1, q.2)) h

-- what is read under each name is all there is
pub map_read : {A : Type 0} (name : A → ℕ) (read : ℕ → A) (xs : List A) → ((x : A) → Contains xs x → read (name x) ≡ x)
    → map read (map name xs) ≡ xs
map_read name read [] all = refl
map_read name read (x ∷ xs) all =
    ap (λ y. y ∷ map read (map name xs)) (all x (0, omega arith, refl))
    ∙ ap (λ ys. x ∷ ys) (map_read name read xs (λ y c. all y (later_in x y xs c)))

-- all items of a list are its items
pub all_contained : (xs : List ℕ) → All (Contains xs) xs
all_contained xs k d lt = (k, lt, get_or_default xs k (get_or xs k d) d lt)

-- a vertex of which a kind is known is named
pub kind_named : (vs : List Vert) (v : ℕ) (k : Kind) → kind_in vs v ≡ Some k → Has v (names_of_verts vs)
kind_named vs v k = of_found (find (λ x. eqb x.name v) vs) refl
  where
    of_found : (o : Option Vert) → find (λ x. eqb x.name v) vs ≡ o → option_map (λ (x : Vert). x.kind) o ≡ Some k
        → Has v (names_of_verts vs)
    of_found None e h = absurd cc
    of_found (Some x) e h =
        let r = found_in (λ (y : Vert). eqb y.name v) vs x e in
        subst (λ n. Has n (names_of_verts vs)) (eqb-true x.name v r.1) (name_in (λ (y : Vert). y.name) vs x r.0)
