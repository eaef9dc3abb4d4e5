-- A list of one word.
use Rattle.std.proofs.Common.{◌≡◌, ◌<◌, ◌≤◌, List, [], ◌∷◌, length, get_or, map, sym, ap, ◌∙◌, arith, Bool, true, false, IsTrue}

-- a list of one item, seen through f
pub map-only : {X Y : Type 0} (f : X → Y) → (xs : List X) (x : X) → 1 ≤ length xs → length xs < 2 → x ≡ get_or xs 0 x
    → map f xs ≡ f x ∷ []
map-only f [] x low high e = absurd (omega (arith, low))
map-only f (y ∷ []) x low high e = ap (λ z. f z ∷ []) (sym e)
map-only f (y ∷ z ∷ zs) x low high e = absurd (omega (arith, high))

-- two lists of one item are equal only where the items are
pub only-same : {X : Type 0} (x y : X) → x ∷ [] ≡ y ∷ [] → x ≡ y
only-same x y e = ap (λ xs. get_or xs 0 x) e

-- a test that fails refutes what it decides
pub refuted : (b : Bool) (P : Type 0) → (IsTrue b → P) × (P → IsTrue b) → b ≡ false → ¬ P
refuted b P decides fails holds = let impossible : false ≡ true = sym fails ∙ decides.1 holds in cc
