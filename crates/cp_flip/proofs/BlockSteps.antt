-- One block after the other: its bits among all bits, and its lists behind those of the blocks before it.
use Rattle.std.proofs.Common.{◌≡◌, ℕ, ◌+◌, ◌-◌, ◌<◌, ◌≤◌, Bool, List, [], ◌∷◌, ◌++◌, length, drop, get_or, replicate, take, sym, ap, ◌∙◌, subst, arith}
use Rattle.std.specs.List.{AllByRecursion}
use Rattle.std.proofs.lemmas.List.{take_all, take_more}
use Rattle.cp_base.specs.Bits.{IsMet}
use Rattle.cp_board.specs.Instances.{Synchronized, vert_names}
use Rattle.cp_board.specs.Solutions.{IsSolution}
use Rattle.cp_flip.specs.declared.block_trees.BlockTree.{BlockTree}
use Rattle.cp_flip.specs.BlockTrees.{AreAllBlocks, IsEmbeddedBlock}
use Rattle.cp_flip.specs.CellEquations.{AreBitsOf, AreCells, HasDirections, HasOwnVars, block_equations, equations_from, vars_behind, vars_of}
use Rattle.cp_flip.specs.FreeFaults.{IsFree}
use Rattle.cp_flip.specs.GluedLists.{AreAppended, AreBlockLists, AreGlued, AreListsWithin, MeetsTree, back_by, final_lists}
use Rattle.cp_flip.proofs.AppendedLists.{AreGlued-more, AreGlued-none}
use Rattle.cp_flip.proofs.BlockParts.{directions-MeetsTree, lists-AreListsWithin, lists-IsPart}
use Rattle.cp_flip.proofs.CellEquations.{equations-at, met-HasDirections, room-at, vars_behind-le, vars_behind-push}
use Rattle.cp_flip.proofs.FinalLists.{final-IsSolution}
use Rattle.cp_flip.proofs.MetEquations.{all_by}

-- empty rows are those of no block
pub empty-AreGlued : {T : Type 0} (i : Synchronized) (numbers : List ℕ) (back : ℕ → Bool) (verts : List ℕ)
    (rows : List (List ℕ)) → verts ≡ vert_names i → rows ≡ replicate (length verts) []
    → AreGlued {T = T} i numbers back [] rows
empty-AreGlued {T = T} i numbers back verts rows named empty =
    subst (AreGlued {T = T} i numbers back []) (sym (empty ∙ ap (λ (vs : List ℕ). replicate (length vs) []) named))
    (AreGlued-none i numbers back)

-- lists fit, in terms of a program
pub own-AreListsWithin : (all verts edges all' verts' edges' : List ℕ) (lists lists' : List (List ℕ)) → all' ≡ all
    → verts' ≡ verts → edges' ≡ edges → lists' ≡ lists → AreListsWithin all verts edges lists
    → AreListsWithin all' verts' edges' lists'
own-AreListsWithin all verts edges all' verts' edges' lists lists' a v e l h =
    subst (λ xs. AreListsWithin xs verts' edges' lists') (sym a)
    (subst (λ xs. AreListsWithin all xs edges' lists') (sym v)
    (subst (λ xs. AreListsWithin all verts xs lists') (sym e)
    (subst (AreListsWithin all verts edges) (sym l) h)))

-- and so are appended lists
own-AreAppended : (all verts edges all' verts' edges' : List ℕ) (lists lists' old new : List (List ℕ)) → all' ≡ all
    → verts' ≡ verts → edges' ≡ edges → lists' ≡ lists → AreAppended all' verts' edges' lists' (length verts') old new
    → AreAppended all verts edges lists (length verts) old new
own-AreAppended all verts edges all' verts' edges' lists lists' old new a v e l h =
    subst (λ xs. AreAppended all verts edges xs (length verts) old new) l
    (subst (λ xs. AreAppended all verts xs lists' (length verts) old new) e
    (subst (λ xs. AreAppended all xs edges' lists' (length xs) old new) v
    (subst (λ xs. AreAppended xs verts' edges' lists' (length verts') old new) a h)))

module _ {T : Type 0} (i : Synchronized) (cells : List ℕ) (are_cells : AreCells i cells) (ts : List (BlockTree T))
    (found : AreAllBlocks i ts) (bits : List Bool) (of : AreBitsOf i cells ts bits) where
  -- there are bits for all cells
  pub bits-cells : length cells ≤ length bits
  bits-cells = let h = vars_behind-le (length cells) ts in omega (arith, h, of.size)

  -- the block at a place, whose vars stand behind those of the blocks before it
  module _ (j : ℕ) (t : BlockTree T) (lt : j < length ts) (t_is : t ≡ get_or ts j t) (own : HasOwnVars t.directed)
      (first : ℕ) (first_is : first ≡ vars_behind (length cells) (take j ts)) (n : ℕ) (n_is : n ≡ vars_of t.directed) where
    -- is embedded
    pub step-IsEmbeddedBlock : IsEmbeddedBlock i t.verts t.edges t.directed
    step-IsEmbeddedBlock =
        subst (λ (u : BlockTree T). IsEmbeddedBlock i u.verts u.edges u.directed) (sym t_is) (found.embedded.each j t lt)

    -- has bits
    pub step-room : first + n ≤ length bits
    step-room =
        let h = subst (λ (u : BlockTree T). vars_behind (length cells) (take j ts) + vars_of u.directed
        ≤ vars_behind (length cells) ts) (sym t_is) (room-at (length cells) j ts t lt) in
        omega (arith, h, first_is, n_is, of.size)

    -- its bits
    abbrev pub own_bits : List Bool
    own_bits = take (first + n - first) (drop first bits)

    -- are its directions
    pub step-HasDirections : HasDirections i (back_by i cells bits) t.verts own_bits t.directed
    step-HasDirections =
        let size : vars_of t.directed ≡ first + n - first = omega (arith, n_is) in
        let met = equations-at i cells (IsMet bits) (length cells) j ts t lt
        (all_by (IsMet bits) (equations_from i cells (length cells) ts) of.met) in
        let here = subst (λ (u : BlockTree T). AllByRecursion (IsMet bits)
        (block_equations i cells (vars_behind (length cells) (take j ts)) u.verts u.directed)) (sym t_is) met in
        subst (λ k. HasDirections i (back_by i cells bits) t.verts (take k (drop first bits)) t.directed) size
        (met-HasDirections i cells are_cells first bits t.verts t.edges t.directed step-IsEmbeddedBlock own
        (let h = step-room in omega (arith, h, n_is))
        (subst (λ k. AllByRecursion (IsMet bits) (block_equations i cells k t.verts t.directed)) (sym first_is) here))

    -- so they meet its tree
    pub step-MeetsTree : MeetsTree own_bits t.directed
    step-MeetsTree = directions-MeetsTree i (back_by i cells bits) t.verts own_bits t.directed step-HasDirections

    -- the next vars stand behind its own
    pub step-behind : first + n ≡ vars_behind (length cells) (take (j + 1) ts)
    step-behind =
        let more : take (j + 1) ts ≡ take j ts ++ t ∷ [] =
        take_more ts j t lt ∙ ap (λ u. take j ts ++ u ∷ []) (sym t_is) in
        let h = ap (vars_behind (length cells)) more ∙ vars_behind-push (length cells) (take j ts) t in
        omega (arith, h, first_is, n_is)

    module _ (lists : List (List ℕ)) (are : AreBlockLists (length t.verts) t.directed own_bits lists) where
      -- its lists fit its vertices
      pub step-AreListsWithin : AreListsWithin (vert_names i) t.verts t.edges lists
      step-AreListsWithin =
          lists-AreListsWithin i are_cells.rules t.verts t.edges own_bits lists t.directed step-IsEmbeddedBlock are

      -- and are put together with those before it
      pub step-AreGlued : (all' verts' edges' : List ℕ) (lists' rows new : List (List ℕ)) → all' ≡ vert_names i
          → verts' ≡ t.verts → edges' ≡ t.edges → lists' ≡ lists
          → AreGlued i found.numbers (back_by i cells bits) (take j ts) rows
          → AreAppended all' verts' edges' lists' (length verts') rows new
          → AreGlued i found.numbers (back_by i cells bits) (take (j + 1) ts) new
      step-AreGlued all' verts' edges' lists' rows new a v e l glued app =
          let more : take (j + 1) ts ≡ take j ts ++ t ∷ [] =
          take_more ts j t lt ∙ ap (λ u. take j ts ++ u ∷ []) (sym t_is) in
          subst (λ us. AreGlued i found.numbers (back_by i cells bits) us new) (sym more)
          (AreGlued-more i found.numbers (back_by i cells bits) (take j ts) t rows new lists glued
          (lists-IsPart i are_cells.rules found.numbers found.numbered.by_least (back_by i cells bits) t.verts t.edges
          t.directed own_bits lists step-IsEmbeddedBlock step-HasDirections are)
          (own-AreAppended (vert_names i) t.verts t.edges all' verts' edges' lists lists' rows new a v e l app))

  -- all lists together are a solution
  pub all-IsSolution : (k : ℕ) (rows : List (List ℕ)) → length ts ≤ k
      → AreGlued i found.numbers (back_by i cells bits) (take k ts) rows → IsFree i
      → IsSolution i (final_lists i cells bits rows)
  all-IsSolution k rows le glued free =
      final-IsSolution i are_cells.rules cells bits ts found rows
      (subst (λ us. AreGlued i found.numbers (back_by i cells bits) us rows) (take_all k ts le) glued) free
