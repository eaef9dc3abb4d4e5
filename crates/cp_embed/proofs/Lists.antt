-- Facts of lists that the steps need: mirrors, and tests that all items fail.
use Rattle.std.proofs.Common.{◌≡◌, ℕ, Bool, false, List, [], ◌∷◌, ◌++◌, map, reverse, refl, sym, ap, subst, ◌∙◌, inl, inr}
use Rattle.std.specs.List.{filter}
use Rattle.std.proofs.lemmas.List.{reverse-append, map-append}
use Rattle.cp_lists.specs.CyclicLists.{Has}
use Rattle.cp_lists.proofs.FilteredLists.{filter_no}
use Rattle.cp_lists.proofs.MappedLists.{Has-map_on, map_on-Has}
use Rattle.cp_lists.proofs.ReversedLists.{Has-reverse, reverse-Has}
use Rattle.cp_faces.specs.Twins.{twin}
use Rattle.cp_faces.proofs.Twins.{twin-twin}
use Rattle.cp_maps.specs.Mirrors.{mirror}

-- a mirrored list, in two parts
pub mirror-append : (xs ys : List ℕ) → mirror (xs ++ ys) ≡ mirror ys ++ mirror xs
mirror-append xs ys = ap reverse (map-append twin xs ys) ∙ reverse-append (map twin xs) (map twin ys)

-- a mirrored list has the twins of the items
pub Has-mirror : (d : ℕ) (xs : List ℕ) → Has d xs → Has (twin d) (mirror xs)
Has-mirror d xs h = Has-reverse (twin d) (map twin xs) (Has-map_on twin d xs h)

-- and no others
pub mirror-Has : (d : ℕ) (xs : List ℕ) → Has d (mirror xs) → Has (twin d) xs
mirror-Has d xs h =
    let s : (c : ℕ) × Has c xs × (twin c ≡ d) = map_on-Has twin d xs (reverse-Has d (map twin xs) h) in
    subst (λ y. Has y xs) (sym (twin-twin s.0) ∙ ap twin s.2) s.1

-- where all items fail, nothing is left
pub filter_none : (p : ℕ → Bool) (xs : List ℕ) → ((d : ℕ) → Has d xs → p d ≡ false) → filter p xs ≡ []
filter_none p [] none = refl
filter_none p (x ∷ xs) none = filter_no p x xs (none x (inl refl)) ∙ filter_none p xs (λ d h. none d (inr h))
