-- Grouped rows read from either end.
use Rattle.std.proofs.Common.{◌≡◌, ℕ, List, [], ◌∷◌, reverse, refl}
use Rattle.cp_pq.specs.declared.node.Node.{Node}
use Rattle.cp_pq.specs.Words.{group_of}

-- a grouped row has one node at most
pub group_back : (o : ℕ) (f : List Node) → reverse (group_of o f) ≡ group_of o f
group_back o [] = refl
group_back o (k ∷ []) = refl
group_back o (k ∷ j ∷ ks) = refl
