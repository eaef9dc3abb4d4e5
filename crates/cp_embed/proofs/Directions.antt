-- Lists that are kept in a direction, and the edges of mirrored lists.
use Rattle.std.proofs.Common.{◌≡◌, ℕ, Bool, true, false, Option, Some, None, List, [], ◌∷◌, map, reverse, refl, ap, ap₂, ◌∙◌}
use Rattle.cp_lists.specs.CyclicLists.{Distinct}
use Rattle.cp_lists.specs.Turns.{IsTurn}
use Rattle.cp_lists.proofs.ReversedLists.{map-reverse, Distinct-reverse}
use Rattle.cp_lists.proofs.TurnedLists.{turn-trans}
use Rattle.cp_faces.specs.Twins.{twin}
use Rattle.cp_faces.proofs.Twins.{half_twin}
use Rattle.cp_maps.specs.Mirrors.{mirror}
use Rattle.cp_embed.specs.Arrangements.{IsArrangementOf}
use Rattle.cp_embed.specs.Directions.{directed, KeepsDirection, edge_of}
use Rattle.cp_embed.proofs.Arrangements.{IsArrangementOf-reverse}

-- a list that is kept is kept by each turn
pub KeepsDirection-turn : (list : Option (List ℕ)) (bit : Bool) (us vs : List ℕ) → IsTurn us vs
    → KeepsDirection list bit us
    → KeepsDirection list bit vs
KeepsDirection-turn None bit us vs turn kept = tt
KeepsDirection-turn (Some list) bit us vs turn kept = turn-trans (directed bit list) us vs kept turn

-- the edges of the twins are those of the darts
pub map_twin : (xs : List ℕ) → map edge_of (map twin xs) ≡ map edge_of xs
map_twin [] = refl
map_twin (x ∷ xs) = ap₂ (λ y ys. y ∷ ys) (half_twin x) (map_twin xs)

-- the edges of a mirrored list are those of the list, in reverse
pub mirror-edges : (xs : List ℕ) → map edge_of (mirror xs) ≡ reverse (map edge_of xs)
mirror-edges xs = map-reverse edge_of (map twin xs) ∙ ap reverse (map_twin xs)

-- a reversed list in a direction
pub directed-reverse : (bit : Bool) (xs : List ℕ) → directed bit (reverse xs) ≡ reverse (directed bit xs)
directed-reverse false xs = refl
directed-reverse true xs = refl

-- distinct items are distinct in each direction
pub Distinct-directed : (bit : Bool) (xs : List ℕ) → Distinct xs → Distinct (directed bit xs)
Distinct-directed false xs dis = dis
Distinct-directed true xs dis = Distinct-reverse xs dis

-- an arrangement in a direction
pub IsArrangementOf-directed : (bit : Bool) (xs ys : List ℕ) → IsArrangementOf xs ys
    → IsArrangementOf (directed bit xs) ys
IsArrangementOf-directed false xs ys a = a
IsArrangementOf-directed true xs ys a = IsArrangementOf-reverse xs ys a
