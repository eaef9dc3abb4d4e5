-- Links from keys to names, in the order of their keys and names.
use Rattle.std.specs.Prelude.{◌≡◌, ℕ, ◌-◌, ◌<◌, ◌≤◌, Bool, not, ◌&&◌, ◌||◌, eqb, List, length, map}
use Rattle.std.specs.List.{All, filter}
use Rattle.std.specs.List.Sorted.{IsStrictlyIncreasing}
use Rattle.cp_store.specs.declared.links.Link.{Link}
use Rattle.cp_board.specs.Names.{has}
use Rattle.cp_store.specs.Ranks.{rank}
use Rattle.cp_store.specs.Forests.{items_at}

-- the number by which a link is ordered
abbrev pub link_number : Link → ℕ
link_number x = rank (x.key, x.name)

-- the links are those from a key to a name that the test takes
pub record AreLinks (test : ℕ → ℕ → Bool) (xs : List Link) : Type 0 where
  pub rise : IsStrictlyIncreasing (map link_number xs)
  pub fit : All (λ x. x.name < 18446744073709551616) xs
  pub each : (key name : ℕ) → name < 18446744073709551616 → has (map link_number xs) (rank (key, name)) ≡ test key name

-- the test that takes one link more
abbrev pub with_link : (ℕ → ℕ → Bool) → ℕ → ℕ → ℕ → ℕ → Bool
with_link test key name k n = (eqb k key && eqb n name) || test k n

-- the test that takes a link no longer
abbrev pub without_link : (ℕ → ℕ → Bool) → ℕ → ℕ → ℕ → ℕ → Bool
without_link test key name k n = not (eqb k key && eqb n name) && test k n

-- the tree with this root has the links that the test takes
pub record HasLinks (ls : List (List Link)) (root : ℕ) (test : ℕ → ℕ → Bool) : Type 0 where
  pub within : root ≤ length ls
  pub links : AreLinks test (items_at ls root)

-- the tree with this root has links, rising, whose names fit in 64 bits
pub record IsLinkTree (ls : List (List Link)) (root : ℕ) : Type 0 where
  pub within : root ≤ length ls
  pub rise : IsStrictlyIncreasing (map link_number (items_at ls root))
  pub fit : All (λ x. x.name < 18446744073709551616) (items_at ls root)

-- the test by names that are counted down from the greatest number of 64 bits: of links of one key the last one has
-- the least name
abbrev pub down : (ℕ → ℕ → Bool) → ℕ → ℕ → Bool
down test key n = test key (18446744073709551615 - n)

-- the names that have a key
abbrev pub names_under : ℕ → List Link → List ℕ
names_under key xs = map (λ x. x.name) (filter (λ x. eqb x.key key) xs)
