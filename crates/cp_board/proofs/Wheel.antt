-- A wheel with four spokes, whose centre is an end of a pipe: Propagate makes two Q-vertices of it.
use Rattle.std.proofs.Common.{ℕ, true, [], ◌∷◌, refl}
use Rattle.cp_base.specs.declared.shape.Branch.TheVariants.{Leaf, Q}
use Rattle.cp_base.specs.declared.shape.Shape.{Shape}
use Rattle.cp_board.specs.declared.steps.Step.TheVariants.{Propagate}
use Rattle.cp_board.specs.declared.parts.Pipe.{Pipe}
use Rattle.cp_board.specs.Instances.{Synchronized, IsSynchronized}
use Rattle.cp_board.specs.Steps.{partner}
use Rattle.cp_board.specs.Plantings.{Plants, PlantsAll, Planted}
use Rattle.cp_board.specs.Effects.{After}
use Rattle.cp_board.specs.Rows.{vert, edge, pipe, fixed}
use Rattle.cp_board.specs.Plantings as plantings
use Rattle.cp_board.proofs.RuleTests.{IsSynchronized-from_tests}

-- the pipe of the wheel, with a pair for each spoke
abbrev pub wheel_pipe : Pipe
wheel_pipe = pipe 0 0 5 ((0, 8) ∷ (1, 9) ∷ (2, 10) ∷ (3, 11) ∷ [])

-- vertex 0 is the centre, 1 to 4 the rim, 5 the other end of the pipe
abbrev pub wheel : Synchronized
wheel = record {
  verts = vert 0 ∷ vert 1 ∷ vert 2 ∷ vert 3 ∷ vert 4 ∷ vert 5 ∷ vert 6 ∷ [];
  edges = edge 0 0 1 ∷ edge 1 0 2 ∷ edge 2 0 3 ∷ edge 3 0 4 ∷ edge 4 1 2 ∷ edge 5 2 3 ∷ edge 6 3 4 ∷ edge 7 4 1 ∷ edge 8 5 6 ∷ edge 9 5 6 ∷ edge 10 5 6 ∷ edge 11 5 6 ∷ [];
  pipes = wheel_pipe ∷ [];
}

-- the order tree of the spokes: spoke 0 as its root, and the others as the kids of one Q-node
abbrev pub row : Shape
row = record { root = 0; body = Q (Leaf 1 ∷ Leaf 2 ∷ Leaf 3 ∷ []) }

-- the wheel after Propagate: two Q-vertices of one cell in place of the ends of the pipe
abbrev propagated : Synchronized
propagated = record {
  verts = vert 1 ∷ vert 2 ∷ vert 3 ∷ vert 4 ∷ vert 6 ∷ fixed 7 0 (0 ∷ 1 ∷ 2 ∷ 3 ∷ []) ∷ fixed 8 0 (8 ∷ 11 ∷ 10 ∷ 9 ∷ []) ∷ [];
  edges = edge 0 7 1 ∷ edge 1 7 2 ∷ edge 2 7 3 ∷ edge 3 7 4 ∷ edge 4 1 2 ∷ edge 5 2 3 ∷ edge 6 3 4 ∷ edge 7 4 1 ∷ edge 8 8 6 ∷ edge 9 8 6 ∷ edge 10 8 6 ∷ edge 11 8 6 ∷ [];
  pipes = [];
}

-- three leaves below one Q-node
plants_row : (f : ℕ → ℕ) (top v : ℕ) → Plants f row.body top (v ∷ []) (top ∷ [])
    (record { vertex = v; fixed = true; edges = top ∷ f 1 ∷ f 2 ∷ f 3 ∷ [] } ∷ [])
plants_row f top v =
    plantings.Plants.fixed _ top v (f 1 ∷ f 2 ∷ f 3 ∷ []) [] [] []
    (PlantsAll.more (Leaf 1) _ (f 1) _ [] [] [] [] [] [] (Plants.leaf 1)
    (PlantsAll.more (Leaf 2) _ (f 2) _ [] [] [] [] [] [] (Plants.leaf 2)
    (PlantsAll.more (Leaf 3) _ (f 3) _ [] [] [] [] [] [] (Plants.leaf 3) PlantsAll.none)))

-- the wheel keeps the rules
wheel_keeps : IsSynchronized wheel
wheel_keeps = IsSynchronized-from_tests wheel refl

-- and so does the instance after Propagate
propagated_keeps : IsSynchronized propagated
propagated_keeps = IsSynchronized-from_tests propagated refl

-- Propagate at the centre makes this instance of the wheel
wheel_after : After wheel (Propagate 0 0 row) propagated
wheel_after = (
  wheel_pipe,
  refl,
  record {
    at_u = 7 ∷ [];
    at_w = 8 ∷ [];
    new_verts = refl;
    edges_u = [];
    edges_w = [];
    new_edges = refl;
    rows_u = record { vertex = 7; fixed = true; edges = 0 ∷ 1 ∷ 2 ∷ 3 ∷ [] } ∷ [];
    rows_w = record { vertex = 8; fixed = true; edges = 8 ∷ 9 ∷ 10 ∷ 11 ∷ [] } ∷ [];
    planted_u = plants_row (λ x. x) 0 7;
    planted_w = plants_row (partner wheel_pipe 0) 8 8;
    new_cells = 0 ∷ [];
    one_cell_each = refl;
    are_cells = refl;
    names = [];
    one_name_each = refl;
    new_pipes = refl;
    verts = refl;
    edges = refl;
    pipes = refl;
  },
)
