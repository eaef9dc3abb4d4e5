-- Twins farther on, and lists of twins.
use Rattle.std.proofs.Common.{◌≡◌, ℕ, List, [], ◌∷◌, ◌++◌, ⊎_elim, ◌+◌, ◌*◌, arith, map, ◌-◌, ◌%◌}
use Rattle.std.proofs.lemmas.Bool.{cases_eq}
use Rattle.std.proofs.lemmas.List.{reverse-append}
use Rattle.cp_faces.specs.Twins.{twin}
use Rattle.cp_faces.proofs.Twins.{twin_even, twin_odd}
use Rattle.cp_maps.specs.Mirrors.{mirror}

-- the twin of a dart farther on by whole edges is the twin, farther on
pub twin-farther : (e d : ℕ) → twin (2 * e + d) ≡ 2 * e + twin d
twin-farther e d = ⊎_elim
    (λ h. let a : twin (2 * e + d) ≡ 2 * e + d + 1 = twin_even (2 * e + d) (omega arith) in
    let b : twin d ≡ d + 1 = twin_even d h in omega arith)
    (λ nh. let a : twin (2 * e + d) ≡ 2 * e + d - 1 = twin_odd (2 * e + d) (λ z. omega arith) in
    let b : twin d ≡ d - 1 = twin_odd d nh in omega arith)
    (cases_eq (d % 2) 0)

-- the mirror of a list with a dart more in front has its twin at the end
pub mirror-cons : (y : ℕ) (xs : List ℕ) → mirror (y ∷ xs) ≡ mirror xs ++ twin y ∷ []
mirror-cons y xs = reverse-append (twin y ∷ []) (map twin xs)
