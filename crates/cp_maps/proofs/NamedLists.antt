-- Lists under names of vertices, and how to take one in front.
use Rattle.std.proofs.Common.{◌≡◌, ℕ, ◌≢◌, List, [], ◌∷◌, ◌++◌, sym, ap, ◌∙◌, subst, ⊎_elim, map}
use Rattle.std.proofs.lemmas.List.{map-append}
use Rattle.cp_lists.specs.CyclicLists.{Distinct, Has, Lacks, but}
use Rattle.cp_lists.specs.Rows.{flat}
use Rattle.cp_lists.proofs.DistinctLists.{Has-append_left, Has-append_right, Has-split, but-Distinct, but-Has, but_middle}
use Rattle.cp_maps.specs.Maps.{IsMapOf}
use Rattle.cp_maps.proofs.MapLists.{IsMapOf-among, IsMapOf-front}

-- the lists of names, with that of u in front
pub named_front : (n : ℕ) (f : ℕ → ℕ) (lists : ℕ → List ℕ) (u : ℕ) (names : List ℕ) → Distinct names → Has u names
    → IsMapOf n f (map lists names) → IsMapOf n f (lists u ∷ map lists (but u names))
named_front n f lists u names dis h is =
    let s : (us : List ℕ) × (vs : List ℕ) × (names ≡ us ++ u ∷ vs) × Lacks u us = Has-split u names h in
    let rest : but u names ≡ s.0 ++ s.1 = ap (but u) s.2 ∙ but_middle u s.0 s.1 (subst Distinct s.2 dis) in
    subst (λ ns. IsMapOf n f (lists u ∷ map lists ns)) (sym rest)
    (subst (λ rows. IsMapOf n f (lists u ∷ rows)) (sym (map-append lists s.0 s.1))
    (IsMapOf-front n f (lists u) (map lists s.0) (map lists s.1)
    (subst (IsMapOf n f) (ap (map lists) s.2 ∙ map-append lists s.0 (u ∷ s.1)) is)))

-- the list of a name put back among those of the others
pub named_back : (n : ℕ) (f : ℕ → ℕ) (lists : ℕ → List ℕ) (u : ℕ) (names : List ℕ) → Distinct names → Has u names
    → IsMapOf n f (lists u ∷ map lists (but u names)) → IsMapOf n f (map lists names)
named_back n f lists u names dis h is =
    let s : (us : List ℕ) × (vs : List ℕ) × (names ≡ us ++ u ∷ vs) × Lacks u us = Has-split u names h in
    let rest : but u names ≡ s.0 ++ s.1 = ap (but u) s.2 ∙ but_middle u s.0 s.1 (subst Distinct s.2 dis) in
    subst (IsMapOf n f) (sym (ap (map lists) s.2 ∙ map-append lists s.0 (u ∷ s.1)))
    (IsMapOf-among n f (lists u) (map lists s.0) (map lists s.1)
    (subst (λ rows. IsMapOf n f (lists u ∷ rows)) (map-append lists s.0 s.1)
    (subst (λ ns. IsMapOf n f (lists u ∷ map lists ns)) rest is)))

-- the lists of names behind another, with that of u in front
pub second_named_front : (n : ℕ) (f : ℕ → ℕ) (lists : ℕ → List ℕ) (u : ℕ) (ys : List ℕ) (names : List ℕ)
    → Distinct names → Has u names → IsMapOf n f (ys ∷ map lists names)
    → IsMapOf n f (lists u ∷ ys ∷ map lists (but u names))
second_named_front n f lists u ys names dis h is =
    let s : (us : List ℕ) × (vs : List ℕ) × (names ≡ us ++ u ∷ vs) × Lacks u us = Has-split u names h in
    let rest : but u names ≡ s.0 ++ s.1 = ap (but u) s.2 ∙ but_middle u s.0 s.1 (subst Distinct s.2 dis) in
    subst (λ ns. IsMapOf n f (lists u ∷ ys ∷ map lists ns)) (sym rest)
    (subst (λ rows. IsMapOf n f (lists u ∷ ys ∷ rows)) (sym (map-append lists s.0 s.1))
    (IsMapOf-front n f (lists u) (ys ∷ map lists s.0) (map lists s.1)
    (subst (λ rows. IsMapOf n f (ys ∷ rows)) (ap (map lists) s.2 ∙ map-append lists s.0 (u ∷ s.1)) is)))

-- the lists of two names in front of those of the others
pub two_named_front : (n : ℕ) (f : ℕ → ℕ) (lists : ℕ → List ℕ) (u v : ℕ) (names : List ℕ) → Distinct names
    → Has u names → Has v names → u ≢ v → IsMapOf n f (map lists names)
    → IsMapOf n f (lists u ∷ lists v ∷ map lists (but u (but v names)))
two_named_front n f lists u v names dis hu hv differ is =
    second_named_front n f lists u (lists v) (but v names) (but-Distinct v names dis) (but-Has v u names differ hu)
    (named_front n f lists v names dis hv is)

-- an item of the list of a name is an item of the lists
pub named_item : (lists : ℕ → List ℕ) (names : List ℕ) (u d : ℕ) → Has u names → Has d (lists u)
    → Has d (flat (map lists names))
named_item lists [] u d h k = absurd h
named_item lists (w ∷ names) u d h k = ⊎_elim
    (λ s. Has-append_left d (lists w) (flat (map lists names)) (subst (λ y. Has d (lists y)) (sym s) k))
    (λ q. Has-append_right d (lists w) (flat (map lists names)) (named_item lists names u d q k))
    h
