-- What is printed of a graph, and which graphs have it.
use Rattle.std.specs.Prelude.{◌≡◌, ℕ, ◌<◌, ◌↔◌, Bool, true, false, List, [], ◌∷◌, length, slice_index_or}
use Rattle.cp_base.specs.Graphs.{PlainGraph}
use Rattle.cp_orbits.specs.Connected.{Connected}
use Rattle.cp_conn.specs.Blocks.{HaveNoLoop, AreInOneBlock, Touches}
use Rattle.cp_conn.specs.Numbering.{AreNumbered}
use Rattle.cp_ears.specs.Bipolar.{IsOneBlock, HaveEdges, IsBipolar}
use Rattle.graph_parts.specs.declared.ask.Asked.{Asked}
use Rattle.graph_parts.specs.declared.ask.Asked.TheVariants.{Edges, Components, Blocks, Bipolar}

-- the graph has edges, of one block and without loops, with one at each vertex
pub record IsBlock (g : PlainGraph) : Type 0 where
  pub some : 0 < length g.ends
  pub no_loop : HaveNoLoop g.ends
  pub one_block : IsOneBlock g.ends
  pub each_has_edge : HaveEdges g.vertices g.ends

-- the graph has what is asked for
abbrev pub IsFittingRequest : Asked → PlainGraph → Type 0
IsFittingRequest Edges g = Unit {0}
IsFittingRequest Components g = Unit {0}
IsFittingRequest Blocks g = HaveNoLoop g.ends
IsFittingRequest Bipolar g = IsBlock g

-- the numbers are what is asked for
abbrev pub AreAsked : Asked → PlainGraph → List ℕ → Type 0
AreAsked Edges g numbers = numbers ≡ g.vertices ∷ length g.ends ∷ []
AreAsked Components g numbers = AreNumbered (Connected g.ends) g.vertices numbers
AreAsked Blocks g numbers = AreNumbered (AreInOneBlock g.ends) (length g.ends) numbers
AreAsked Bipolar g numbers = IsBipolar g (slice_index_or g.ends 0 (0, 0)).0 (slice_index_or g.ends 0 (0, 0)).1 numbers

-- the table tells which of n vertices the first edges touch
pub record AreTouched (n : ℕ) (es : List (ℕ × ℕ)) (edges : ℕ) (touched : List Bool) : Type 0 where
  pub size : length touched ≡ n
  pub each : (v : ℕ) → v < n → (slice_index_or touched v false ≡ true) ↔ ((e : ℕ) × (e < edges) × Touches es v e)
