-- Permutations that are stored as lists.
use Rattle.std.specs.Prelude.{◌≡◌, ℕ, ◌<◌, ◌≤◌, ◌⊎◌, List, length, slice_index}
use Rattle.cp_orbits.specs.Orbits.{Permutes}
use Rattle.cp_base.specs.declared.perm.PermFault.{PermFault}
use Rattle.cp_base.specs.declared.perm.PermFault.TheVariants.{NotAPermutation, Memory}

-- item i of the list is the value of i, and the values are the numbers below its length, each once
abbrev pub IsPerm : List ℕ → Type 0
IsPerm to = Permutes (length to) (slice_index to)

-- the value at place i is out of range, or stands at an earlier place too
abbrev pub IsWrongAt : List ℕ → ℕ → Type 0
IsWrongAt to i = (length to ≤ slice_index to i) ⊎ ((j : ℕ) × (j < i) × (slice_index to j ≡ slice_index to i))

-- the fault names the first place whose value is wrong; want of memory says nothing of the list
abbrev pub IsPermFaultOf : List ℕ → PermFault → Type 0
IsPermFaultOf to (NotAPermutation place) = (place < length to) × IsWrongAt to place × ((i : ℕ) → i < place → ¬ IsWrongAt to i)
IsPermFaultOf to Memory = Unit {0}
