-- Faults of the parts are the first reasons, and come only where the instance has no solution.
use Rattle.std.proofs.Common.{◌≡◌, ℕ, List, [], length, sym, ap, ◌∙◌, subst}
use Rattle.std.proofs.lemmas.List.{length-map}
use Rattle.cp_base.specs.Graphs.{PlainGraph}
use Rattle.cp_conn.specs.Blocks.{AreInOneBlock}
use Rattle.cp_conn.specs.Numbering.{AreNumbered}
use Rattle.cp_sync.specs.Numbering.{numbered, numbered_ends}
use Rattle.cp_parity.specs.declared.fault.ParityFault.{ParityFault}
use Rattle.cp_parity.specs.declared.fault.ParityFault.TheVariants as parity
use Rattle.cp_board.specs.Blocks.{HaveCrossing}
use Rattle.cp_board.specs.Instances.{IsSynchronized, Synchronized, edge_names, graph}
use Rattle.cp_board.specs.Reasons.{HasNoCrossing, IsEmbeddable}
use Rattle.cp_board.specs.Solutions.{IsSolvable}
use Rattle.cp_flip.specs.declared.block_trees.BlockTree.{BlockTree}
use Rattle.cp_flip.specs.declared.fault.BlockFault.{BlockFault}
use Rattle.cp_flip.specs.declared.fault.BlockFault.TheVariants as block
use Rattle.cp_flip.specs.declared.fault.FreeFault.{FreeFault}
use Rattle.cp_flip.specs.BlockTrees.{AreAllBlocks, AreBlocksNumbered, AreEmbeddedBlocks, IsFirstUnembeddable}
use Rattle.cp_flip.specs.CellEquations.{HasNoSolution}
use Rattle.cp_flip.specs.Faults.{of_block, of_parity}
use Rattle.cp_flip.specs.FreeFaults.{HasNoFreeSolution, IsFreeReason}
use Rattle.cp_flip.proofs.EmbeddedBlocks.{numbered-own}
use Rattle.cp_flip.proofs.SolvedBlocks.{solved-HasNoCrossing, solved-IsEmbeddable}

-- numbers of the blocks of some names are those of the blocks of the instance
pub AreBlocksNumbered-own : (i : Synchronized) (names numbers : List ℕ) → AreBlocksNumbered i names numbers
    → AreBlocksNumbered i (edge_names i) numbers
AreBlocksNumbered-own i names numbers n = subst (λ es. AreBlocksNumbered i es numbers) n.edges_are n

-- the numbers of the blocks of the numbered graph, in terms of a program
pub told-AreBlocksNumbered : (i : Synchronized) (h : PlainGraph) (names items numbers own : List ℕ) → IsSynchronized i
    → h ≡ numbered (graph i) → names ≡ edge_names i → items ≡ names → own ≡ numbers
    → AreNumbered (AreInOneBlock h.ends) (length h.ends) numbers
    → AreBlocksNumbered i items own
told-AreBlocksNumbered i h names items numbers own is graph_is names_are items_are own_are are = record {
  rules = is;
  edges_are = items_are ∙ names_are;
  by_least = subst (AreNumbered (AreInOneBlock ends) (length items)) (sym own_are)
      (subst (λ n. AreNumbered (AreInOneBlock ends) n numbers)
      (length-map (edge_names i) (numbered_ends (graph i)) ∙ sym (ap length (items_are ∙ names_are)))
      (subst (λ (g : PlainGraph). AreNumbered (AreInOneBlock g.ends) (length g.ends) numbers) graph_is are));
}
  where
    -- the ends of the edges by the numbers of the vertices
    ends : List (ℕ × ℕ)
    ends = (numbered (graph i)).ends

-- embedded blocks are all blocks, in terms of a program
pub told-AreAllBlocks : {T : Type 0} (i : Synchronized) (names numbers : List ℕ) (found blocks : List (BlockTree T))
    → AreBlocksNumbered i names numbers → AreEmbeddedBlocks i numbers found → blocks ≡ found
    → AreAllBlocks i blocks
told-AreAllBlocks i names numbers found blocks n h same = record {
  numbers = numbers;
  numbered = AreBlocksNumbered-own i names numbers n;
  embedded = subst (AreEmbeddedBlocks i numbers) (sym same) h;
}

-- that no directions of the cells serve is the last reason
pub parity-IsFreeReason : (i : Synchronized) (fault : ParityFault) (free : FreeFault) → free ≡ of_parity fault
    → i.pipes ≡ [] → IsEmbeddable i → HasNoCrossing i → HasNoSolution i fault
    → IsFreeReason i free
parity-IsFreeReason i fault free same no_pipe embeddable none h = subst (IsFreeReason i) (sym same) (by_fault fault h)
  where
    -- by the two faults
    by_fault : (f : ParityFault) → HasNoSolution i f → IsFreeReason i (of_parity f)
    by_fault (parity.Conflict cycle) k =
        record { no_pipe = no_pipe; embeddable = embeddable; no_crossing = none; unsolvable = k }
    by_fault parity.Memory k = tt

module _ (i : Synchronized) (names numbers : List ℕ) (n : AreBlocksNumbered i names numbers) where
  -- there is no solution where a block has no rotation
  pub block-HasNoFreeSolution : (fault : BlockFault) (free : FreeFault) → free ≡ of_block fault
      → IsFirstUnembeddable i fault
      → HasNoFreeSolution i free
  block-HasNoFreeSolution fault free same u = subst (HasNoFreeSolution i) (sym same) (by_fault fault u)
    where
      -- by the two faults
      by_fault : (f : BlockFault) → IsFirstUnembeddable i f → HasNoFreeSolution i (of_block f)
      by_fault (block.NotPlanar edge) h = λ (s, solves).
          solved-IsEmbeddable i n.rules numbers (numbered-own i n.rules names numbers n) s solves edge h.0
      by_fault block.Memory h = tt

  -- nor where two blocks cross
  pub crossing-unsolvable : (q : ℕ) → HaveCrossing i q → IsSolvable i → ⊥
  crossing-unsolvable q h (s, solves) =
      solved-HasNoCrossing i n.rules numbers (numbered-own i n.rules names numbers n) s solves q h
