-- What nodes are against a set, and rows of them.
use Rattle.std.specs.Prelude.{◌≡◌, ℕ, Bool, true, false, cond, not, List, [], ◌∷◌, ◌++◌, filter, map, reverse}
use Rattle.std.specs.List.{list_all, flat_map, AllZip}
use Rattle.cp_pq.specs.declared.node.Node.{Node}
use Rattle.cp_pq.specs.declared.found.Found.{Found}
use Rattle.cp_pq.specs.Words.{sorted, has_all, is_clear, is_mixed, Licensed, IsLike, IsNever}
use Rattle.cp_pq.specs.Keeping.{any_bound, Keeps}

-- what is said of a node that was compared with a set: it is outside or inside, or has leaves of both kinds and, read with
-- the leaves of the set at the end, is a line or has no such reading
abbrev pub IsGiven : (ℕ → Bool) → (ℕ → Bool) → Node → Found → Type 0
IsGiven q p n (Found.Out m) = (has_all q n ≡ true) × (has_all p n ≡ false) × (m ≡ n)
IsGiven q p n (Found.In m) = (has_all q n ≡ false) × (has_all p n ≡ true) × (m ≡ n)
IsGiven q p n (Found.Line front back ties) = (has_all q n ≡ false) × (has_all p n ≡ false)
    × IsLike (sorted q p) (λ may. Licensed false may ties) (n ∷ []) (reverse front ++ back)
    × Keeps any_bound (n ∷ []) (reverse front ++ back)
IsGiven q p n Found.Torn = (has_all q n ≡ false) × (has_all p n ≡ false) × IsNever (sorted q p) (n ∷ [])

-- whether a node was found to be outside
abbrev pub is_out : Found → Bool
is_out (Found.Out m) = true
is_out (Found.In m) = false
is_out (Found.Line front back ties) = false
is_out Found.Torn = false

-- whether a node was found to be inside
abbrev pub is_in : Found → Bool
is_in (Found.Out m) = false
is_in (Found.In m) = true
is_in (Found.Line front back ties) = false
is_in Found.Torn = false

-- whether a node was found to have no reading with the leaves of the set at the end
abbrev pub is_torn : Found → Bool
is_torn (Found.Out m) = false
is_torn (Found.In m) = false
is_torn (Found.Line front back ties) = false
is_torn Found.Torn = true

-- outside, then one of any kind, then inside
abbrev pub found_sorted : List Found → Bool
found_sorted [] = true
found_sorted (f ∷ fs) = cond (is_out f) (found_sorted fs) (list_all is_in fs)

-- inside, then one of any kind, then outside
abbrev pub found_leaving : List Found → Bool
found_leaving [] = true
found_leaving (f ∷ fs) = cond (is_in f) (found_leaving fs) (list_all is_out fs)

-- outside, then one of any kind, then inside, then one of any kind, then outside
abbrev pub found_run : List Found → Bool
found_run [] = true
found_run (f ∷ fs) = cond (is_out f) (found_run fs) (found_leaving fs)

-- the row that a node becomes
abbrev pub line_of : Found → List Node
line_of (Found.Out m) = m ∷ []
line_of (Found.In m) = m ∷ []
line_of (Found.Line front back ties) = reverse front ++ back
line_of Found.Torn = []

-- the ties of a line; what is no line has none
abbrev pub ties_of : Found → List (ℕ × Bool)
ties_of (Found.Out m) = []
ties_of (Found.In m) = []
ties_of (Found.Line front back ties) = ties
ties_of Found.Torn = []

-- the rows that the nodes of a row become, one behind the other
abbrev pub flat_line : List Found → List Node
flat_line fs = flat_map line_of fs

-- the ties of a row, one behind the other
abbrev pub flat_ties : List Found → List (ℕ × Bool)
flat_ties fs = flat_map ties_of fs

-- each tie turned
abbrev pub turn_ties : List (ℕ × Bool) → List (ℕ × Bool)
turn_ties ts = map (λ t. (t.0, not t.1)) ts

-- the same against the other leaves
abbrev pub turn_found : Found → Found
turn_found (Found.Out m) = Found.In m
turn_found (Found.In m) = Found.Out m
turn_found (Found.Line front back ties) = Found.Line back front (turn_ties ties)
turn_found Found.Torn = Found.Torn

-- the row with all turned behind the first that is not outside
abbrev pub turn_behind : List Found → List Found
turn_behind [] = []
turn_behind (f ∷ fs) = f ∷ cond (is_out f) (turn_behind fs) (map turn_found fs)

-- the nodes outside of a row
abbrev pub out_node : Found → List Node
out_node (Found.Out m) = m ∷ []
out_node (Found.In m) = []
out_node (Found.Line front back ties) = []
out_node Found.Torn = []

-- the nodes inside of a row
abbrev pub in_node : Found → List Node
in_node (Found.Out m) = []
in_node (Found.In m) = m ∷ []
in_node (Found.Line front back ties) = []
in_node Found.Torn = []

-- the others
abbrev pub mixed_found : Found → List Found
mixed_found (Found.Out m) = []
mixed_found (Found.In m) = []
mixed_found (Found.Line front back ties) = Found.Line front back ties ∷ []
mixed_found Found.Torn = Found.Torn ∷ []

-- the kids of a P-node by their kinds: those outside, those inside, and the others as they were compared
pub record Sorts (q p : ℕ → Bool) (ks outs ins : List Node) (mixed : List Found) : Type 0 where
  pub clear : list_all (is_clear q p) ks ≡ true
  pub outs_are : outs ≡ filter (has_all q) ks
  pub ins_are : ins ≡ filter (has_all p) ks
  pub mixed_are : AllZip (IsGiven q p) (filter (is_mixed q p) ks) mixed
