-- Marks of nodes: what they are against a set of leaves, before any of them is taken apart.
use Rattle.std.specs.Prelude.{◌≡◌, ℕ, ◌<◌, ◌≤◌, ◌^◌, Bool, true, not, List, [], ◌∷◌, ◌++◌, reverse, suc, ◌+◌, map}
use Rattle.std.specs.List.{list_all}
use Rattle.std.specs.List.Sorted.{IsStrictlyIncreasing}
use Rattle.cp_pq.specs.declared.node.Node.{Node}
use Rattle.cp_pq.specs.declared.node.Node.TheOpen.{Node-F}
use Rattle.cp_pq.specs.declared.node.Node.TheFolds.{fold-Node}
use Rattle.cp_pq.specs.declared.node.Node.TheVariants.{Leaf}
use Rattle.cp_pq.specs.declared.frame.Label.{Label}
use Rattle.cp_pq.specs.declared.look.Mark.{Mark}
use Rattle.cp_pq.specs.Nodes.{is_branching}
use Rattle.cp_pq.specs.Orders.{inside, outside}
use Rattle.cp_pq.specs.Words.{has_all}
use Rattle.cp_pq.specs.Frames.{node_of}
use Rattle.cp_pq.specs.Steps.{count_all}

-- the mark tells whether all nodes of a row are outside, whether all are inside, and how many leaves are inside
pub record IsMark (q p : ℕ → Bool) (ks : List Node) (m : Mark) : Type 0 where
  pub outs : m.outs ≡ list_all (has_all q) ks
  pub ins : m.ins ≡ list_all (has_all p) ks
  pub count : m.count ≡ count_all p ks

-- a stack of marks belongs to nodes, its last mark to the first of them: a leaf has none, a node that is outside or inside
-- as a whole has its own, and any other has its own behind those of its kids
pub data AreMarks (q p : ℕ → Bool) : List Node → List Mark → Type 0 where
  none : AreMarks q p [] []
  leaf : (x : ℕ) (ks : List Node) (ms : List Mark) → AreMarks q p ks ms → AreMarks q p (Leaf x ∷ ks) ms
  whole : (label : Label) (js ks : List Node) (ms : List Mark) (m : Mark) → IsMark q p js m → m.outs ≡ not m.ins
      → AreMarks q p ks ms → AreMarks q p (node_of label js ∷ ks) (ms ++ m ∷ [])
  parted : (label : Label) (js ks : List Node) (ms : List Mark) (m : Mark) → IsMark q p js m → m.outs ≡ m.ins
      → AreMarks q p (reverse js ++ ks) ms → AreMarks q p (node_of label js ∷ ks) (ms ++ m ∷ [])

-- a row was looked through: its mark is found, and the marks of its nodes stand on the stack, the last node's on top
pub record IsLooked (set : List ℕ) (ks : List Node) (old new : List Mark) (m : Mark) : Type 0 where
  pub mark : IsStrictlyIncreasing set → count_all (inside set) ks < 2 ^ 64 → IsMark (outside set) (inside set) ks m
  pub marks : IsStrictlyIncreasing set → count_all (inside set) ks < 2 ^ 64 → (rest : List Node)
      → AreMarks (outside set) (inside set) rest old → AreMarks (outside set) (inside set) (reverse ks ++ rest) new
  pub behind : (more : List Mark) × (new ≡ old ++ more)

-- a row of nodes that branch and hold no more than the set, of which there is some
pub record IsLow (set : List ℕ) (total : ℕ) (ks : List Node) : Type 0 where
  pub rising : IsStrictlyIncreasing set
  pub branching : list_all is_branching ks ≡ true
  pub some : 0 < total
  pub low : count_all (inside set) ks ≤ total

-- the numbers added up
abbrev pub added : List ℕ → ℕ
added [] = 0
added (x ∷ xs) = x + added xs

-- the number of nodes in a node, from those in its kids
abbrev pub nodes_step : Node-F ℕ → ℕ
nodes_step (Node-F.Leaf x) = 1
nodes_step (Node-F.P owner counts) = suc (added counts)
nodes_step (Node-F.Q var counts) = suc (added counts)

-- the number of nodes in a node, itself among them
unfoldable pub node_count : Node → ℕ
node_count = fold-Node ℕ nodes_step

-- the number of nodes in a row
unfoldable pub row_count : List Node → ℕ
row_count ks = added (map node_count ks)
