-- Named graphs that are worked out by hand: three branches between two poles, and two blocks at a cut vertex.
use Rattle.std.proofs.Common.{◌≡◌, ℕ, cond, eqb, List, [], ◌∷◌, map, refl}
use Rattle.cp_conn.specs.NamedGraphs.{NamedGraph, pairs, edges_at, far, only, rank}
use Rattle.cp_conn.proofs.BlockLabels.{block_of}
use Rattle.cp_conn.proofs.Bonds.{onward}
use Rattle.cp_conn.proofs.NamedGraphs.{block_test}

-- the ends of edges, of which a list tells the names
abbrev told : List (ℕ × ℕ × ℕ) → ℕ → ℕ × ℕ
told [] e = (0, 0)
told (t ∷ ts) e = cond (eqb t.0 e) (t.1, t.2) (told ts e)

-- 2 and 5 are joined by edge 1, by a path over 6 and 8 with one edge more from 6 to 5, and by a path over 9
abbrev three_branches : NamedGraph
three_branches = record {
  verts = 2 ∷ 5 ∷ 6 ∷ 8 ∷ 9 ∷ [];
  edges = 1 ∷ 3 ∷ 4 ∷ 7 ∷ 8 ∷ 9 ∷ 10 ∷ [];
  ends = told ((1, 2, 5) ∷ (3, 6, 2) ∷ (4, 6, 8) ∷ (7, 8, 5) ∷ (8, 2, 9) ∷ (9, 9, 5) ∷ (10, 6, 5) ∷ []);
}

-- the edges of the two, where those of 2 end, and the place of an edge
ends_of_branches : (edges_at three_branches 2 ≡ 1 ∷ 3 ∷ 8 ∷ []) × (edges_at three_branches 5 ≡ 1 ∷ 7 ∷ 9 ∷ 10 ∷ [])
    × (map (far three_branches 2) (1 ∷ 3 ∷ 8 ∷ []) ≡ 5 ∷ 6 ∷ 9 ∷ []) × (rank three_branches.edges 7 ≡ 3)
ends_of_branches = (refl, refl, refl, refl)

-- what the edges of 2 lead to at 5: each edge of 5 once
onward_there : (onward three_branches 2 5 1 ≡ 1 ∷ []) × (onward three_branches 2 5 3 ≡ 7 ∷ 10 ∷ [])
    × (onward three_branches 2 5 8 ≡ 9 ∷ [])
onward_there = (refl, refl, refl)

-- the other way round two edges lead to one
onward_back : (onward three_branches 5 2 7 ≡ 3 ∷ []) × (onward three_branches 5 2 10 ≡ 3 ∷ [])
onward_back = (refl, refl)

-- a triangle, and an edge at its vertex 4
abbrev two_blocks : NamedGraph
two_blocks = record {
  verts = 1 ∷ 2 ∷ 4 ∷ 7 ∷ [];
  edges = 2 ∷ 3 ∷ 5 ∷ 6 ∷ [];
  ends = told ((2, 4, 7) ∷ (3, 1, 2) ∷ (5, 2, 4) ∷ (6, 4, 1) ∷ []);
}

-- the numbers of their blocks, and the block of an edge
numbers_of_blocks : (map (block_of (pairs two_blocks)) (0 ∷ 1 ∷ 2 ∷ 3 ∷ []) ≡ 0 ∷ 1 ∷ 1 ∷ 1 ∷ [])
    × ((only (block_test two_blocks 5) two_blocks).edges ≡ 3 ∷ 5 ∷ 6 ∷ [])
unfolding block_of
numbers_of_blocks = (refl, refl)
