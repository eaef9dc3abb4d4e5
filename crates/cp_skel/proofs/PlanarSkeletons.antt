-- A clustered graph is c-planar exactly where its skeletons can be solved (Bläsius, Rutter 2016). The order of the
-- edges
-- at each node is kept both ways.
use Rattle.std.proofs.Common.{◌≡◌, ◌↔◌, ℕ, ◌<◌, List, map, ap, ◌∙◌, subst}
use Rattle.std.specs.List.{filter}
use Rattle.cp_lists.proofs.MappedLists.{map_undone}
use Rattle.cp_board.specs.Rotations.{IsRotationOf}
use Rattle.cp_board.specs.Solutions.{IsSolvable, Solves}
use Rattle.cp_cgraph.specs.Clustered.{Clustered, IsClustered, nodes}
use Rattle.cp_cgraph.specs.declared.layout.Layout.{Layout}
use Rattle.cp_border.specs.Borders.{end_dart}
use Rattle.cp_border.specs.Good.{IsCPlanar}
use Rattle.cp_skel.specs.declared.vertex.Vertex.TheVariants.{Node}
use Rattle.cp_skel.specs.Skeletons.{segment_name, skeletons, vertex_name}
use Rattle.cp_skel.specs.SolutionLayouts.{solution_layout}
use Rattle.cp_skel.specs.VertexLists.{keeps, kept_list, layout_list}
use Rattle.cp_skel.proofs.LayoutSolutions.{good-Solves, layout_list-at}
use Rattle.cp_skel.proofs.NumberedSystems.{AreEdgeLists, arranged-AreEdgeLists}
use Rattle.cp_skel.proofs.SkeletonGraph.{graph-skeletons}
use Rattle.cp_skel.proofs.SkeletonVertices.{node-IsVertex}
use Rattle.cp_skel.proofs.SolutionArranged.{node_list-solved}
use Rattle.cp_skel.proofs.SolutionGood.{Solves-good, ends-are, kept_node-is, stock-is}
use Rattle.cp_skel.proofs.SolutionLists.{dart_at, named_dart}
use Rattle.cp_skel.proofs.StockDarts.{edge_count, ends, skeleton_graph, vertex_count}

-- a clustered graph is c-planar exactly where its skeletons can be solved
pub planar_exactly : (g : Clustered) → IsClustered g → IsCPlanar g ↔ IsSolvable (skeletons g)
planar_exactly g is = (
  λ planar. (layout_list g planar.0, good-Solves g planar.0 is planar.1),
  λ solvable. (solution_layout g solvable.0, Solves-good g solvable.0 is solvable.1),
)

-- the solution that a layout gives has at each node the list of the layout without loops, each dart replaced by its
-- segment
pub layout_list-node : (g : Clustered) (l : Layout) → IsClustered g → (v : ℕ) → v < nodes g
    → layout_list g l (vertex_name g (Node v)) ≡ map (segment_name g) (kept_list g l (Node v))
layout_list-node g l is v lt = layout_list-at g l (Node v) (node-IsVertex g is v lt)

-- and the layout that a solution gives has at each node the list of the solution
pub solution_layout-node : (g : Clustered) (s : ℕ → List ℕ) → IsClustered g → Solves (skeletons g) s → (v : ℕ)
    → v < nodes g
    → map (segment_name g) (kept_list g (solution_layout g s) (Node v)) ≡ s (vertex_name g (Node v))
solution_layout-node g s is solves v lt =
    let rot : IsRotationOf (skeleton_graph g) s = subst (λ i. IsRotationOf i s) (graph-skeletons g) solves.rotation in
    let are : AreEdgeLists (vertex_count g) (edge_count g) (ends g) s =
    arranged-AreEdgeLists (vertex_count g) (edge_count g) (ends g) s rot.arranged in
    let names : List ℕ = s (vertex_name g (Node v)) in
    ap (λ xs. map (segment_name g) (filter (keeps g) (map (end_dart g) xs))) (node_list-solved g is s are v lt)
    ∙ ap (map (segment_name g)) (kept_node-is g is s are v lt ∙ ends-are g is s are v lt ∙ stock-is g is s are (Node v))
    ∙ map_undone (dart_at g is s are (Node v)) (segment_name g) names
    (λ n h. (named_dart g is s are (Node v) n (node-IsVertex g is v lt) h).2)
