-- Where in a tree a set of leaves stands: the node that holds the whole set and no kid of which does, and its frames.
use Rattle.std.specs.Prelude.{◌≡◌, ℕ, ◌<◌, ◌≤◌, Bool, true, false, nat_lt, List, [], ◌∷◌, ◌++◌, length, filter}
use Rattle.std.specs.List.{list_all, AllZip}
use Rattle.cp_pq.specs.declared.node.Node.{Node}
use Rattle.cp_pq.specs.declared.step.Top.{Top}
use Rattle.cp_pq.specs.declared.step.Place.{Place}
use Rattle.cp_pq.specs.declared.step.Step.{Step}
use Rattle.cp_pq.specs.declared.step.Row.{Row}
use Rattle.cp_pq.specs.Nodes.{leaves, all_leaves}
use Rattle.cp_pq.specs.Words.{has_all, is_met}
use Rattle.cp_pq.specs.Founds.{IsGiven}
use Rattle.cp_pq.specs.Frames.{node_of, fill, AreOutside}

-- how many leaves of a node are inside
unfoldable pub count_in : (ℕ → Bool) → Node → ℕ
count_in p n = length (filter p (leaves n))

-- how many leaves of a row are inside
unfoldable pub count_all : (ℕ → Bool) → List Node → ℕ
count_all p ks = length (filter p (all_leaves ks))

-- the node at the place: inside as a whole, or an inner node at least two kids of which meet the set
abbrev pub IsTop : (ℕ → Bool) → (ℕ → Bool) → Node → Top → Type 0
IsTop q p k (Top.Whole m) = (has_all p k ≡ true) × (m ≡ k)
IsTop q p k (Top.Met label founds) = (ks : List Node) × (k ≡ node_of label ks) × AllZip (IsGiven q p) ks founds
    × (has_all p k ≡ false) × (2 ≤ length (filter (is_met q) ks))

-- a node with a place: the frames round the place, with all nodes in them outside, and what stands there
abbrev pub IsPlace : (ℕ → Bool) → (ℕ → Bool) → Node → Place → Type 0
IsPlace q p n place = (k : Node) × (n ∷ [] ≡ fill place.frames (k ∷ [])) × AreOutside q place.frames × IsTop q p k place.top

-- a node that holds less than the whole set, or has its place
abbrev pub IsStep : (ℕ → Bool) → (ℕ → Bool) → ℕ → Node → Step → Type 0
IsStep q p total n (Step.Open found count) = IsGiven q p n found × (count ≡ count_in p n) × (count < total)
IsStep q p total n (Step.Root place) = (count_in p n ≡ total) × IsPlace q p n place

-- a row of nodes each of which holds less than the whole set, or one of which has its place
abbrev pub IsGathered : (ℕ → Bool) → (ℕ → Bool) → ℕ → List Node → Row → Type 0
IsGathered q p total ks (Row.Open founds count) = AllZip (IsGiven q p) ks founds × (count ≡ count_all p ks)
    × (list_all (λ k. nat_lt (count_in p k) total) ks ≡ true)
IsGathered q p total ks (Row.Root before place after) = (bs cs : List Node) × (k : Node) × (ks ≡ bs ++ k ∷ cs)
    × AllZip (IsGiven q p) bs before × AllZip (IsGiven q p) cs after × (count_in p k ≡ total) × IsPlace q p k place
