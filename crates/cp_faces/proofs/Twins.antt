-- The two darts of an edge: facts of twins, and of the partner that a rotation counts faces by.
use Rattle.std.proofs.Common.{◌≡◌, ℕ, ◌+◌, ◌*◌, ◌<◌, sym, ◌∙◌, arith}
use Rattle.cp_orbits.specs.Twins.{twin}
pub use Rattle.cp_orbits.proofs.Twins.{twin_even, twin_odd, twin-twin, twin-below, twin-apart, twin-other, half_twin, same_half}
use Rattle.cp_faces.specs.Faces.{partner}
use Rattle.cp_faces.proofs.Merges.{partner_even, partner_odd}
use Rattle.cp_faces.proofs.Renaming.{each_dart}

-- the partner of a dart of the first e edges is its twin
pub partner_twin : (e d : ℕ) → d < 2 * e → partner e d ≡ twin d
partner_twin e = each_dart (λ d. partner e d ≡ twin d) e
    (λ i lt. partner_even e i lt ∙ sym (twin_even (2 * i) (omega arith) ∙ omega arith))
    (λ i lt. partner_odd e i lt ∙ sym (twin_odd (2 * i + 1) (λ f. omega arith) ∙ omega arith))
