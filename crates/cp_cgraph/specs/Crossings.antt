-- Which clusters contain a node, which edges leave a cluster, and the borders along an edge.
use Rattle.std.specs.Prelude.{ℕ, zero, suc, ◌-◌, ◌<◌, ◌==◌, ◌||◌, Bool, not, cond, List, [], ◌∷◌, ◌++◌, length, reverse, filter, slice_index}
use Rattle.std.specs.List.{list_any}
use Rattle.cp_cgraph.specs.Clustered.{Clustered, source, target, parent, home}

-- cluster c and the clusters round it, from c outward, without the root; at most n of them
abbrev pub outward : List ℕ → ℕ → ℕ → List ℕ
outward parents zero c = []
outward parents (suc n) c = cond (c == 0) [] (c ∷ outward parents n (slice_index parents (c - 1)))

-- the clusters but the root that contain node v, from its home outward
abbrev pub around : Clustered → ℕ → List ℕ
around g v = outward g.parents (home g v) (home g v)

-- cluster c contains node v: it is the root, the node's home, or a cluster round that
abbrev pub contains : Clustered → ℕ → ℕ → Bool
contains g c v = (c == 0) || list_any (λ x. x == c) (around g v)

-- edge e leaves cluster c: the cluster contains exactly one of its two nodes
abbrev pub leaves : Clustered → ℕ → ℕ → Bool
leaves g c e = cond (contains g c (source g e)) (not (contains g c (target g e))) (contains g c (target g e))

-- the clusters that edge e leaves, in the order in which it crosses their borders from its source on
abbrev pub crossings : Clustered → ℕ → List ℕ
crossings g e = filter (λ c. not (contains g c (target g e))) (around g (source g e)) ++ reverse
    (filter (λ c. not (contains g c (source g e))) (around g (target g e)))

-- the number of clusters that edge e leaves, so of borders that it crosses
abbrev pub crossed : Clustered → ℕ → ℕ
crossed g e = length (crossings g e)

-- cluster c is the cluster b or lies round it
pub data IsWithin (g : Clustered) (c : ℕ) : ℕ → Type 0 where
  here : IsWithin g c c
  inner : {b : ℕ} → 0 < b → IsWithin g c (parent g b) → IsWithin g c b
