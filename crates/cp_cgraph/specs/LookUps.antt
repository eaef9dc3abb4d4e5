-- Tables that tell at once how the clusters of a clustered graph are nested and what its edges cross.
use Rattle.std.specs.Prelude.{◌≡◌, ℕ, ◌-◌, ◌<◌, ◌≤◌, List, length, slice_index}
use Rattle.cp_cgraph.specs.Clustered.{Clustered, edges, clusters, parent}
use Rattle.cp_cgraph.specs.Crossings.{crossed, outward, IsWithin}

-- when a cluster was opened, its parent was the one opened before it, or lay round that
abbrev pub IsNested : Clustered → Type 0
IsNested g = (c : ℕ) → 0 < c → c < clusters g → IsWithin g (parent g c) (c - 1)

-- the clusters within cluster c, with itself, are those from number c to number m
pub record AreFromTo (g : Clustered) (c m : ℕ) : Type 0 where
  pub inside : (b : ℕ) → c ≤ b → b ≤ m → IsWithin g c b
  pub from : (b : ℕ) → b < clusters g → IsWithin g c b → c ≤ b
  pub to : (b : ℕ) → b < clusters g → IsWithin g c b → b ≤ m

-- the greatest number of a cluster within each cluster
pub record AreLasts (g : Clustered) (lasts : List ℕ) : Type 0 where
  pub size : length lasts ≡ clusters g
  pub last : (c : ℕ) → c < clusters g → AreFromTo g c (slice_index lasts c)

-- the number of clusters round cluster c, with itself and without the root
abbrev pub depth : Clustered → ℕ → ℕ
depth g c = length (outward g.parents c c)

-- the first n values of a function
pub record IsTable (n : ℕ) (xs : List ℕ) (f : ℕ → ℕ) : Type 0 where
  pub size : length xs ≡ n
  pub value : (k : ℕ) → k < n → slice_index xs k ≡ f k

-- the tables of a graph that are made of those which are read
pub record AreLookUps (g : Clustered) (lasts depths counts : List ℕ) : Type 0 where
  pub greatest : AreLasts g lasts
  pub deep : IsTable (clusters g) depths (depth g)
  pub counted : IsTable (edges g) counts (crossed g)
