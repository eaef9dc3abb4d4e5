-- Blocks: classes of edges that lie on common simple cycles (Whitney 1932; Hopcroft, Tarjan 1973).
use Rattle.std.specs.Prelude.{◌≡◌, ℕ, ◌+◌, ◌-◌, ◌*◌, ◌/◌, ◌<◌, ◌≤◌, ◌⊎◌, ◌↔◌, List, length, slice_index, slice_index_or, []}
use Rattle.std.specs.List.{Contains}
use Rattle.cp_conn.specs.Darts.{start, finish}

-- no edge is a loop
abbrev pub HaveNoLoop : List (ℕ × ℕ) → Type 0
HaveNoLoop es = (e : ℕ) → e < length es → (slice_index_or es e (0, 0)).0 ≡ (slice_index_or es e (0, 0)).1 → ⊥

-- the darts make a simple cycle: each ends where the next starts, and the last where the first starts;
-- no two start at one vertex, and no two are of one edge
pub record IsSimpleCycle (es : List (ℕ × ℕ)) (darts : List ℕ) : Type 0 where
  pub at_least_two : 2 ≤ length darts
  pub within : (i : ℕ) → i < length darts → slice_index darts i < 2 * length es
  pub linked : (i : ℕ) → i + 1 < length darts → finish es (slice_index darts i) ≡ start es (slice_index darts (i + 1))
  pub closed : finish es (slice_index darts (length darts - 1)) ≡ start es (slice_index darts 0)
  pub vertices_differ : (i j : ℕ) → i < length darts → j < length darts
      → start es (slice_index darts i) ≡ start es (slice_index darts j) → i ≡ j
  pub edges_differ : (i j : ℕ) → i < length darts → j < length darts → slice_index darts i / 2 ≡ slice_index darts j / 2
      → i ≡ j

-- one of the darts is of edge e
abbrev pub HasEdge : List ℕ → ℕ → Type 0
HasEdge darts e = (i : ℕ) × (i < length darts) × (slice_index darts i / 2 ≡ e)

-- two edges are in one block: they are equal, or some simple cycle has both
abbrev pub AreInOneBlock : List (ℕ × ℕ) → ℕ → ℕ → Type 0
AreInOneBlock es e f = (e ≡ f) ⊎ ((darts : List ℕ) × IsSimpleCycle es darts × HasEdge darts e × HasEdge darts f)

-- one end of edge e is v
abbrev pub Touches : List (ℕ × ℕ) → ℕ → ℕ → Type 0
Touches es v e = ((slice_index_or es e (0, 0)).0 ≡ v) ⊎ ((slice_index_or es e (0, 0)).1 ≡ v)

-- item k of part i
abbrev pub item : List (List ℕ) → ℕ → ℕ → ℕ
item parts i k = slice_index (slice_index_or parts i []) k

-- the items of the parts are the edges at v, those of one part and no others are in one block;
-- each part rises and is not empty, and the parts stand by their first items
pub record AreBlocksAt (es : List (ℕ × ℕ)) (v : ℕ) (parts : List (List ℕ)) : Type 0 where
  pub touching : (i k : ℕ) → i < length parts → k < length (slice_index_or parts i [])
      → (item parts i k < length es) × Touches es v (item parts i k)
  pub all : (e : ℕ) → e < length es → Touches es v e
      → (i : ℕ) × (i < length parts) × Contains (slice_index_or parts i []) e
  pub by_block : (i j k l : ℕ) → i < length parts → j < length parts → k < length (slice_index_or parts i [])
      → l < length (slice_index_or parts j []) → AreInOneBlock es (item parts i k) (item parts j l) ↔ (i ≡ j)
  pub rising : (i k l : ℕ) → i < length parts → k < l → l < length (slice_index_or parts i [])
      → item parts i k < item parts i l
  pub filled : (i : ℕ) → i < length parts → 0 < length (slice_index_or parts i [])
  pub by_least : (i j : ℕ) → i < j → j < length parts → item parts i 0 < item parts j 0
