-- Blocks whose vertices may have a given cyclic list of their edges.
use Rattle.std.specs.Prelude.{◌≡◌, ℕ, ◌<◌, Bool, ◌||◌, eqb, cond, Option, Some, None, List, [], length, slice_index_or}
use Rattle.std.specs.List.{filter, range_with_len}
use Rattle.cp_base.specs.Graphs.{PlainGraph, AreWithin}
use Rattle.cp_conn.specs.Blocks.{HaveNoLoop}
use Rattle.cp_ears.specs.Bipolar.{IsOneBlock, HaveEdges}
use Rattle.cp_embed.specs.Arrangements.{IsArrangementOf}

-- a graph, and for each of its vertices a cyclic list of its edges or none
pub record ListedGraph : Type 0 where
  pub graph : PlainGraph
  pub lists : List (Option (List ℕ))

-- the list that is given for a vertex
abbrev pub list_given : List (Option (List ℕ)) → ℕ → Option (List ℕ)
list_given lists v = slice_index_or lists v None

-- whether v is an end of edge k
abbrev pub touches : List (ℕ × ℕ) → ℕ → ℕ → Bool
touches ends v k = eqb (slice_index_or ends k (0, 0)).0 v || eqb (slice_index_or ends k (0, 0)).1 v

-- the edges of a vertex among the first so many, rising
abbrev pub edges_among : List (ℕ × ℕ) → ℕ → ℕ → List ℕ
edges_among ends bound v = filter (touches ends v) (range_with_len 0 bound)

-- the edges of a vertex, rising
abbrev pub edges_at : List (ℕ × ℕ) → ℕ → List ℕ
edges_at ends v = edges_among ends (length ends) v

-- the end of edge k that is not v
abbrev pub other_end : List (ℕ × ℕ) → ℕ → ℕ → ℕ
other_end ends v k =
    cond (eqb (slice_index_or ends k (0, 0)).0 v) (slice_index_or ends k (0, 0)).1 (slice_index_or ends k (0, 0)).0

-- a list that is given arranges the edges of its vertex
abbrev pub MayBeGiven : List (ℕ × ℕ) → ℕ → Option (List ℕ) → Type 0
MayBeGiven ends v None = Unit {0}
MayBeGiven ends v (Some list) = IsArrangementOf list (edges_at ends v)

-- the graph is one block without loops in which each vertex has an edge, and each given list arranges the edges of its
-- vertex
pub record IsListedBlock (block : ListedGraph) : Type 0 where
  pub within : AreWithin block.graph.vertices block.graph.ends
  pub no_loop : HaveNoLoop block.graph.ends
  pub one_block : IsOneBlock block.graph.ends
  pub each_has_edge : HaveEdges block.graph.vertices block.graph.ends
  pub list_each : length block.lists ≡ block.graph.vertices
  pub arranged : (v : ℕ) → v < block.graph.vertices → MayBeGiven block.graph.ends v (list_given block.lists v)

-- each vertex has a row of its edges among the first bound ones
pub record AreRowsOfEdges (vertices : ℕ) (ends : List (ℕ × ℕ)) (bound : ℕ) (rows : List (List ℕ)) : Type 0 where
  pub row_each : length rows ≡ vertices
  pub row_of : (v : ℕ) → v < vertices → slice_index_or rows v [] ≡ edges_among ends bound v
