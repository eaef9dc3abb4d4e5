-- What is read of no edges.
use Rattle.std.proofs.Common.{◌≡◌, ℕ, zero, suc, List, [], refl}
use Rattle.cp_plant.specs.TreeWords.{read}

-- nothing is read of no edges
pub read_nil : (nodes : List (ℕ × ℕ)) (t : ℕ → List ℕ) (n : ℕ) → read nodes t n [] ≡ []
read_nil nodes t zero = refl
read_nil nodes t (suc n) = refl
