-- How the order tree of a vertex was built, step by step, with what was kept of each.
use Rattle.std.specs.Prelude.{◌≡◌, ℕ, suc, List, [], ◌∷◌, length, slice_index, reverse}
use Rattle.cp_pq.specs.Trees.{PQTree}
use Rattle.cp_embed.specs.declared.taking.Frame.{Frame}
use Rattle.cp_embed.specs.ListedBlocks.{ListedGraph, IsListedBlock, list_given}
use Rattle.cp_embed.specs.OwnedTrees.{HaveOwner, HasFreeOwners}
use Rattle.cp_embed.specs.TreeSteps.{IsStageTree, IsTreeStep}
use Rattle.cp_embed.specs.VertexOrders.{IsTakingOrder, edges_in, edges_out, taken_at, last_of, dart_at}

-- the frame is of a vertex x whose step leads from the old tree to the new one
pub record IsFrameOf (block : ListedGraph) (later : List ℕ) (x : ℕ) (frame : Frame) (old new : PQTree) : Type 0 where
  pub vertex : frame.vertex ≡ x
  pub outs : frame.outs.items ≡ edges_out block.graph.ends later x
  pub step : IsTreeStep (list_given block.lists x) x (edges_in block.graph.ends later x)
      (edges_out block.graph.ends later x) old new frame.part

-- the tree is that of the stage behind the frames, the last of which comes first: each is of the vertex at its place in
-- the order, and the tree before the first has the first vertex as its only owner, and none where this has a given list
abbrev pub IsBuilt : ListedGraph → List ℕ → List ℕ → ℕ → List Frame → PQTree → Type 0
IsBuilt block order later root [] tree =
    IsStageTree block (dart_at block.graph.ends (last_of order) root) (taken_at order 1) tree
    × HaveOwner (slice_index order 0) tree × HasFreeOwners block tree
IsBuilt block order later root (frame ∷ frames) tree =
    (old : PQTree) × IsBuilt block order later root frames old
    × IsFrameOf block later (slice_index order (suc (length frames))) frame old tree
    × IsStageTree block (dart_at block.graph.ends (last_of order) root)
    (taken_at order (suc (suc (length frames)))) tree

-- the tree of vertex t of the block, with the first vertex that was taken and the frames of the others but t
pub record IsUnwindable (block : ListedGraph) (t first : ℕ) (frames : List Frame) (tree : PQTree) : Type 0 where
  pub well : IsListedBlock block
  pub order : List ℕ
  pub later : List ℕ
  pub root : ℕ
  pub order_is : IsTakingOrder block.graph order later root
  pub last : last_of order ≡ t
  pub first_is : slice_index order 0 ≡ first
  pub frame_each : suc (suc (length frames)) ≡ length order
  pub built : IsBuilt block order later root (reverse frames) tree
