-- The shape of the wheel: its leaves, and the orders that it admits.
use Rattle.std.proofs.Common.{◌≡◌, true, [], ◌∷◌, refl, arith}
use Rattle.cp_base.specs.declared.shape.Branch.TheVariants.{Leaf}
use Rattle.cp_board.specs.Names.{rising}
use Rattle.cp_base.specs.Shapes.{leaves, branches, Reads, ReadsAll, Admits}
use Rattle.cp_board.specs.Instances.{edges_of}
use Rattle.cp_board.proofs.Wheel.{wheel, row}
use Rattle.cp_board.proofs.ShapeEquations.{leaves_Leaf, leaves_Q, branches_Leaf, branches_Q}

-- the leaves of the row with its root are the spokes
row_leaves : rising (row.root ∷ leaves row.body) ≡ edges_of wheel 0
row_leaves = rw (leaves_Q (Leaf 1 ∷ Leaf 2 ∷ Leaf 3 ∷ []), leaves_Leaf 1, leaves_Leaf 2, leaves_Leaf 3) refl

-- each inner node of the row has at least two kids
row_branches : branches row.body ≡ true
row_branches = rw (branches_Q (Leaf 1 ∷ Leaf 2 ∷ Leaf 3 ∷ []), branches_Leaf 1, branches_Leaf 2, branches_Leaf 3) refl

-- the row admits the order of the spokes, and its reverse
row_admits : Admits row (0 ∷ 1 ∷ 2 ∷ 3 ∷ [])
row_admits = record {
  word = 1 ∷ 2 ∷ 3 ∷ [];
  reads = Reads.forward _ _ (ReadsAll.more _ _ (1 ∷ []) _ (Reads.leaf 1) (ReadsAll.more _ _ (2 ∷ []) _ (Reads.leaf 2) (ReadsAll.more _ _ (3 ∷ []) _ (Reads.leaf 3) ReadsAll.none)));
  turn = (0, omega arith, refl);
}
