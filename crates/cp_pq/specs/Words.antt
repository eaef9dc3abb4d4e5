-- Words of leaves and rows of nodes against a set of leaves, which is given by a test p and its opposite q.
use Rattle.std.specs.Prelude.{◌≡◌, ℕ, Bool, true, cond, not, ◌&&◌, List, [], ◌∷◌, ◌↔◌}
use Rattle.std.specs.List.{list_all}
use Rattle.cp_pq.specs.declared.node.Node.{Node}
use Rattle.cp_pq.specs.declared.node.Node.TheVariants.{P}
use Rattle.cp_pq.specs.Nodes.{leaves}
use Rattle.cp_pq.specs.Bits.{differ}
use Rattle.cp_pq.specs.Readings.{ReadsAll}

-- the one test is the other turned
abbrev pub Opposite : (ℕ → Bool) → (ℕ → Bool) → Type 0
Opposite q p = (x : ℕ) → q x ≡ not (p x)

-- whether a word has items of q, then items of p
abbrev pub sorted : (ℕ → Bool) → (ℕ → Bool) → List ℕ → Bool
sorted q p [] = true
sorted q p (x ∷ xs) = cond (q x) (sorted q p xs) (list_all p xs)

-- whether a word has items of q, then items of p, then items of q
abbrev pub together : (ℕ → Bool) → (ℕ → Bool) → List ℕ → Bool
together q p [] = true
together q p (x ∷ xs) = cond (q x) (together q p xs) (sorted p q xs)

-- whether all leaves of a node pass the test
unfoldable pub has_all : (ℕ → Bool) → Node → Bool
has_all p n = list_all p (leaves n)

-- whether a row has nodes of q, then one of any kind, then nodes of p
abbrev pub row_sorted : (ℕ → Bool) → (ℕ → Bool) → List Node → Bool
row_sorted q p [] = true
row_sorted q p (k ∷ ks) = cond (has_all q k) (row_sorted q p ks) (list_all (has_all p) ks)

-- the ties are licensed, each turned where d is true
abbrev pub Licensed : Bool → (ℕ → Bool → Bool) → List (ℕ × Bool) → Type 0
Licensed d may [] = Unit {0}
Licensed d may (t ∷ ts) = (may t.0 (differ d t.1) ≡ true) × Licensed d may ts

-- the readings of a row that pass a test are the readings of a line, where a condition on the licence holds
abbrev pub IsLike : (List ℕ → Bool) → ((ℕ → Bool → Bool) → Type 0) → List Node → List Node → Type 0
IsLike test L row line = (may : ℕ → Bool → Bool) (xs : List ℕ)
    → (ReadsAll may row xs × (test xs ≡ true)) ↔ (L may × ReadsAll may line xs)

-- no reading of a row passes the test
abbrev pub IsNever : (List ℕ → Bool) → List Node → Type 0
IsNever test row = (may : ℕ → Bool → Bool) (xs : List ℕ) → ReadsAll may row xs → test xs ≡ true → ⊥

-- the licence with each bit turned
abbrev pub turned : (ℕ → Bool → Bool) → ℕ → Bool → Bool
turned may v b = may v (not b)

-- no node, the one node, or a P-node of several
abbrev pub group_of : ℕ → List Node → List Node
group_of o [] = []
group_of o (k ∷ []) = k ∷ []
group_of o (k ∷ j ∷ ks) = P o (k ∷ j ∷ ks) ∷ []

-- whether a node is not outside and inside at once, as a node without leaves is
abbrev pub is_clear : (ℕ → Bool) → (ℕ → Bool) → Node → Bool
is_clear q p k = not (has_all q k && has_all p k)

-- whether a node has leaves outside and inside
abbrev pub is_mixed : (ℕ → Bool) → (ℕ → Bool) → Node → Bool
is_mixed q p k = not (has_all q k) && not (has_all p k)

-- whether a node has a leaf that is not outside
abbrev pub is_met : (ℕ → Bool) → Node → Bool
is_met q k = not (has_all q k)
