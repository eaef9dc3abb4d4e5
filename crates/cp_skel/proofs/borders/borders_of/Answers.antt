use Rattle.std.proofs.Common.{◌≡◌, ℕ, ◌<◌, List, map, sym, ap, ap₂, subst, ◌∙◌}
use Rattle.cp_lists.specs.Turns.{IsTurn, turned_to_least}
use Rattle.cp_board.specs.Solutions.{list_in}
use Rattle.cp_cgraph.specs.Clustered.{nodes}
use Rattle.cp_cgraph.specs.declared.layout.Layout.{Layout}
use Rattle.cp_border.specs.Good.{IsGood}
use Rattle.cp_skel.specs.SkeletonLists.{inner_clusters}
use Rattle.cp_skel.specs.Skeletons.{below, segment_name, vertex_name}
use Rattle.cp_skel.specs.SkeletonTables.{Told}
use Rattle.cp_skel.specs.SolutionLayouts.{from_least, solution_layout, solved_cluster, solved_node}
use Rattle.cp_skel.specs.VertexLists.{kept_list}
use Rattle.cp_skel.specs.declared.vertex.Vertex.TheVariants.{Node}
use Rattle.cp_skel.proofs.SolvedLists.{from_least-IsGood, from_least-node, solution-names, solution-segments}
use Rattle.cp_skel.proofs.TabledLists.{map_twice}
use Rattle.cp_skel.proofs.borders.borders_of.Goals as goal

pub invariant_of-solved : goal.invariant_of-solved
invariant_of-solved c = record {
  clustered = c.loops_by_node.ensures.clustered;
  few = c.in_ok-loops.ensures.few;
  nodes_told = ap (λ (t : Told). t.nodes) c.requires.skeletons;
  children_told = ap (λ (t : Told). t.children) c.requires.skeletons;
  edges_told = ap (λ (t : Told). t.edges) c.requires.skeletons;
  named = solution-names c.args.g.now c.loops_by_node.ensures.clustered c.args.s.now c.requires.solution;
  segments = solution-segments c.args.g.now c.loops_by_node.ensures.clustered c.args.s.now c.requires.solution;
}

pub returns-clause-lists : goal.returns-clause-lists
returns-clause-lists c =
    let s : ℕ → List ℕ = list_in c.args.s.now in
    ap₂ (λ (ns : List (List ℕ)) (cs : List (List ℕ)). let l : Layout = record { nodes = ns; clusters = cs } in l)
    (c.in_ok-nodes.ensures ∙ sym (map_twice (solved_node c.args.g.now s) turned_to_least (below (nodes c.args.g.now))))
    (c.in_ok-clusters.ensures
    ∙ sym (map_twice (solved_cluster c.args.g.now s) turned_to_least (inner_clusters c.args.g.now)))

pub returns-clause-good : goal.returns-clause-good
returns-clause-good c =
    let s : ℕ → List ℕ = list_in c.args.s.now in
    let made : Layout = record { nodes = c.in_ok-nodes.nodes; clusters = c.in_ok-clusters.clusters } in
    let same : made ≡ from_least (solution_layout c.args.g.now (list_in c.args.s.now)) =
    ap₂ (λ (ns : List (List ℕ)) (cs : List (List ℕ)). let l : Layout = record { nodes = ns; clusters = cs } in l)
    (c.in_ok-nodes.ensures ∙ sym (map_twice (solved_node c.args.g.now s) turned_to_least (below (nodes c.args.g.now))))
    (c.in_ok-clusters.ensures
    ∙ sym (map_twice (solved_cluster c.args.g.now s) turned_to_least (inner_clusters c.args.g.now))) in
    subst (IsGood c.args.g.now) (sym same)
    (from_least-IsGood c.args.g.now c.loops_by_node.ensures.clustered c.args.s.now c.requires.solution)

pub returns-clause-nodes : goal.returns-clause-nodes
returns-clause-nodes c =
    let s : ℕ → List ℕ = list_in c.args.s.now in
    let made : Layout = record { nodes = c.in_ok-nodes.nodes; clusters = c.in_ok-clusters.clusters } in
    let same : made ≡ from_least (solution_layout c.args.g.now (list_in c.args.s.now)) =
    ap₂ (λ (ns : List (List ℕ)) (cs : List (List ℕ)). let l : Layout = record { nodes = ns; clusters = cs } in l)
    (c.in_ok-nodes.ensures ∙ sym (map_twice (solved_node c.args.g.now s) turned_to_least (below (nodes c.args.g.now))))
    (c.in_ok-clusters.ensures
    ∙ sym (map_twice (solved_cluster c.args.g.now s) turned_to_least (inner_clusters c.args.g.now))) in
    subst (λ (l : Layout). (v : ℕ) → v < nodes c.args.g.now
    → IsTurn (map (segment_name c.args.g.now) (kept_list c.args.g.now l (Node v)))
    (list_in c.args.s.now (vertex_name c.args.g.now (Node v)))) (sym same)
    (from_least-node c.args.g.now c.loops_by_node.ensures.clustered c.args.s.now c.requires.solution)
