-- Two blocks that cross at a Q-vertex.
use Rattle.std.proofs.Common.{[], ◌∷◌, refl, inl, arith}
use Rattle.std.proofs.lemmas.Bool.{eqb-false}
use Rattle.cp_orbits.specs.Classes.{labels}
use Rattle.cp_conn.specs.CutVertex.{without_vertex}
use Rattle.cp_conn.proofs.OneBlock.{one_block_at}
use Rattle.cp_conn.specs.NamedGraphs.{pairs}
use Rattle.cp_board.specs.Instances.{Synchronized, graph, IsSynchronized}
use Rattle.cp_board.specs.Blocks.{HaveCrossing}
use Rattle.cp_board.specs.Rows.{vert, edge, fixed}
use Rattle.cp_board.proofs.RuleTests.{IsSynchronized-from_tests}

-- a Q-vertex with two blocks of two edges each that alternate in its psi
abbrev crossing : Synchronized
crossing = record { verts = fixed 0 0 (0 ∷ 1 ∷ 2 ∷ 3 ∷ []) ∷ vert 1 ∷ vert 2 ∷ []; edges = edge 0 0 1 ∷ edge 1 0 2 ∷ edge 2 0 1 ∷ edge 3 0 2 ∷ []; pipes = [] }

-- this instance keeps the rules
crossing_keeps : IsSynchronized crossing
crossing_keeps = IsSynchronized-from_tests crossing refl

-- two blocks cross at its Q-vertex
blocks_cross : HaveCrossing crossing 0
blocks_cross = record {
  cell = 0;
  psi = 0 ∷ 1 ∷ 2 ∷ 3 ∷ [];
  kind = refl;
  first = 0;
  second = 1;
  third = 2;
  fourth = 3;
  in_order = (omega arith, omega arith, omega arith, omega arith);
  one = (one_block_at (pairs (graph crossing)) 0 0 2 1 1 (omega arith) (omega arith) (inl (refl, refl)) (inl (refl, refl)) (eqb-false 1 0 refl) (eqb-false 1 0 refl)).1 refl;
  other = (one_block_at (pairs (graph crossing)) 0 1 3 2 2 (omega arith) (omega arith) (inl (refl, refl)) (inl (refl, refl)) (eqb-false 2 0 refl) (eqb-false 2 0 refl)).1 refl;
  apart = λ b. eqb-false (labels (without_vertex 0 (pairs (graph crossing))) 1) (labels (without_vertex 0 (pairs (graph crossing))) 2) refl ((one_block_at (pairs (graph crossing)) 0 0 1 1 2 (omega arith) (omega arith) (inl (refl, refl)) (inl (refl, refl)) (eqb-false 1 0 refl) (eqb-false 2 0 refl)).0 b);
}
