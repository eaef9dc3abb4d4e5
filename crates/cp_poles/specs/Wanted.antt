-- The order that one end of a pipe must have for the list of the other.
use Rattle.std.specs.Prelude.{ℕ, Bool, cond, eqb, List, map, reverse}
use Rattle.std.specs.List.{find}
use Rattle.std.specs.Option.{option_map_or}
use Rattle.cp_board.specs.declared.parts.Pipe.{Pipe}
use Rattle.cp_board.specs.Steps.{opposite, partner}

-- the reverse of the partners of the list at the other end of the pipe
abbrev pub wanted : Pipe → ℕ → (ℕ → List ℕ) → List ℕ
wanted p u s = reverse (map (λ x. partner p (opposite p u) x) (s (opposite p u)))

-- of two ends the one that is not u
abbrev pub other_of : ℕ × ℕ → ℕ → ℕ
other_of ends u = cond (eqb ends.0 u) ends.1 ends.0

-- the partner of an edge, by the pairs: of a first edge the second, or of a second edge the first
abbrev pub partner_in : List (ℕ × ℕ) → Bool → ℕ → ℕ
partner_in pairs first x = cond first
    (option_map_or (λ y. y.1) (find (λ y. eqb y.0 x) pairs) 0)
    (option_map_or (λ y. y.0) (find (λ y. eqb y.1 x) pairs) 0)

-- the order that is wanted at u, by the ends and the pairs
abbrev pub wanted_by : ℕ × ℕ → List (ℕ × ℕ) → ℕ → (ℕ → List ℕ) → List ℕ
wanted_by ends pairs u s =
    reverse (map (partner_in pairs (eqb ends.0 (other_of ends u))) (s (other_of ends u)))
