-- What the passes over a list find makes up its parts.
use Rattle.std.proofs.Common.{◌≡◌, ℕ, ℤ, List, [], ◌++◌, map, ap, ◌∙◌, append_assoc}
use Rattle.std.specs.Prelude.{codes}
use Rattle.std.specs.List.{flat_map}
use Rattle.cp_gml.specs.declared.tree.Entry.{Entry}
use Rattle.cp_cgraph.specs.Entries.{keyed}
use Rattle.cp_cgraph.specs.Nested.{parents, names, wrong_entries}
use Rattle.cp_cgraph.specs.GraphFaults.{Fault, known_ids, edge_entries, node_entries, root_tree, roots, root_faults, graph_faults, graph_list, nodes_faults, names_faults, edge_faults, ids_of_node}
use Rattle.cp_cgraph.specs.GraphOf.{ends_of_edge, home_by, graph_of}
use Rattle.cp_cgraph.specs.Passes.{read}
use Rattle.cp_cgraph.specs.Parts.{AreReadFrom}
use Rattle.cp_cgraph.specs.declared.clusters.Clusters.{Clusters}
use Rattle.cp_cgraph.specs.declared.clusters.Name.{Name}
use Rattle.cp_cgraph.proofs.ReadParts.{read-all}

-- six lists of faults in one order of brackets
regroup : (a b c d e f : List Fault) → ((((a ++ b) ++ c) ++ d) ++ e) ++ f ≡ a ++ (b ++ (c ++ (d ++ (e ++ f))))
regroup a b c d e f = simp append_assoc

-- the parts that are read are those of the list
pub gathered : (end : ℕ) (es gl : List Entry) (new_ids ids : List ℤ) (ends : List (ℕ
    × ℕ)) (known k1 k2 k3 : List Fault) (out : Clusters) (ms : List Name) (named : List ℤ) (fs : List Fault)
    → known ≡ [] → gl ≡ graph_list es → k1 ≡ known ++ graph_faults end (keyed (codes "graph") es)
    → new_ids ≡ [] → ids ≡ new_ids ++ flat_map ids_of_node (keyed (codes "node") gl)
    → k2 ≡ k1 ++ nodes_faults new_ids (keyed (codes "node") gl)
    → ends ≡ flat_map (ends_of_edge ids) (keyed (codes "edge") gl)
    → k3 ≡ k2 ++ flat_map (edge_faults ids) (keyed (codes "edge") gl)
    → out ≡ read 0 (root_tree es) record { parents = []; names = []; faults = k3 ++ root_faults (roots es) }
    → ms ≡ out.names → named ≡ map (λ (m : Name). m.id) ms → fs ≡ out.faults ++ names_faults ids [] ms
    → AreReadFrom end es record {
      ids = ids;
      ends = ends;
      parents = out.parents;
      names = out.names;
      named = named;
      faults =
          fs;
    }
gathered end es gl new_ids ids ends known k1 k2 k3 out ms named fs e_known e_gl e_k1 e_new e_ids e_k2 e_ends e_k3 e_out
    e_ms e_named e_fs =
    let t = root_tree es in
    let g = graph_faults end (keyed (codes "graph") es) in
    let n = nodes_faults [] (node_entries es) in
    let e = flat_map (edge_faults (known_ids es)) (edge_entries es) in
    let ids_are : ids ≡ known_ids es = e_ids ∙ (λ i. e_new i ++ flat_map ids_of_node (keyed (codes "node") (e_gl i))) in
    let k1_is : k1 ≡ g = e_k1 ∙ (λ i. e_known i ++ g) in
    let k2_is : k2 ≡ g ++ n = e_k2 ∙ (λ i. k1_is i ++ nodes_faults (e_new i) (keyed (codes "node") (e_gl i))) in
    let k3_is : k3 ≡ (g ++ n) ++ e = e_k3
    ∙ (λ i. k2_is i ++ flat_map (edge_faults (ids_are i)) (keyed (codes "edge") (e_gl i))) in
    let out_is : out ≡ record {
      parents = parents 0 1 t;
      names = names 0 1 t;
      faults =
          (((g ++ n) ++ e) ++ root_faults (roots es)) ++ wrong_entries t;
    }
    = e_out ∙ read-all t 0 record { parents = []; names = []; faults = k3 ++ root_faults (roots es) }
    ∙ (λ i. record {
      parents = parents 0 1 t;
      names = names 0 1 t;
      faults =
          (k3_is i ++ root_faults (roots es)) ++ wrong_entries t;
    }) in
    record {
      ids = ids_are;
      ends = e_ends ∙ (λ i. flat_map (ends_of_edge (ids_are i)) (keyed (codes "edge") (e_gl i)));
      parents = ap (λ (o : Clusters). o.parents) out_is;
      names = ap (λ (o : Clusters). o.names) out_is;
      named = e_named ∙ ap (map (λ (m : Name). m.id)) e_ms;
      faults =
          e_fs
          ∙ ap (λ (xs : List Name). out.faults ++ names_faults ids [] xs) e_ms
          ∙ (λ i. (out_is i).faults ++ names_faults (ids_are i) [] (out_is i).names)
          ∙ regroup g n e (root_faults (roots es)) (wrong_entries t) (names_faults (known_ids es) [] (names 0 1 t));
    }

-- the tables of the parts are those of the graph
pub clustered : (es : List Entry) (ids qs : List ℤ) (ends : List (ℕ × ℕ)) (ps homes : List ℕ) (ms : List Name)
    → ids ≡ known_ids es → qs ≡ known_ids es → ends ≡ flat_map (ends_of_edge (known_ids es)) (edge_entries es)
    → ps ≡ parents 0 1 (root_tree es)
    → ms ≡ names 0 1 (root_tree es) → homes ≡ map (home_by ms) qs
    → record { ids = ids; ends = ends; parents = ps; homes = homes } ≡ graph_of es
clustered es ids qs ends ps homes ms ids_are qs_are ends_are ps_are ms_are homes_are =
    let same : homes ≡ map (home_by (names 0 1 (root_tree es))) (known_ids es) = homes_are
    ∙ (λ i. map (home_by (ms_are i)) (qs_are i)) in
    λ i. record { ids = ids_are i; ends = ends_are i; parents = ps_are i; homes = same i }
