use Rattle.std.proofs.Common.{◌≡◌, List, [], ◌++◌, take, drop, Option, None, ap, ◌∙◌}
use Rattle.std.specs.Option.{option_copied}
use Rattle.std.proofs.lemmas.Result.{IfOk-weaker}
use Rattle.std.proofs.lemmas.List.{take_rest}
use Rattle.cp_gml.specs.Trees.{tree}
use Rattle.cp_gml.specs.declared.tree.Entry.{Entry}
use Rattle.cp_cgraph.specs.Entries.{keyed}
use Rattle.cp_cgraph.specs.GraphFaults.{graph_list, roots, root_faults, root_tree}
use Rattle.cp_cgraph.specs.Passes.{read, first_of, later_of, list_in, unlisted_of}
use Rattle.cp_cgraph.proofs.RootParts.{root_key, roots-parts, root_found, roots_noted, list_in-first}
use Rattle.cp_cgraph.proofs.roots.read_roots.Goals as goal

pub returns : goal.returns
returns c =
    let es = c.args.entries.now in
    let n = c.until-place.result in
    let a = keyed root_key (take n es) in
    let g = keyed root_key (graph_list es) in
    let b = keyed root_key (drop 1 (drop n es)) in
    let o1 = option_copied c.in_ok-before.before in
    let o2 = option_copied c.in_ok-inside.inside in
    let o3 = option_copied c.in_ok-root.root in
    let parts = roots-parts es n c.until-place.ensures.value in
    let after : c.behind_first.result.now ≡ drop 1 (drop n es) = c.behind_first.ensures
    ∙ ap (drop 1) (take_rest es n) in
    let e1 : o1 ≡ first_of None a = c.in_ok-before.ensures.root in
    let e2 : o2 ≡ first_of o1 g = c.in_ok-inside.ensures.root
    ∙ ap (λ (xs : List Entry). first_of o1 (keyed root_key xs)) c.requires in
    let e3 : o3 ≡ first_of o2 b = c.in_ok-root.ensures.root
    ∙ ap (λ (xs : List Entry). first_of o2 (keyed root_key xs)) after in
    let found : o3 ≡ first_of None (roots es) = root_found es a g b o1 o2 o3 parts e1 e2 e3 in
    let n1 : c.first_root.new.faults ≡ c.args.known ++ later_of None a = c.in_ok-before.ensures.faults in
    let n2 : c.first_root-2.new.faults ≡ c.first_root.new.faults ++ later_of o1 g = c.in_ok-inside.ensures.faults
    ∙ ap (λ (xs : List Entry). c.first_root.new.faults ++ later_of o1 (keyed root_key xs)) c.requires in
    let n3 : c.first_root-3.new.faults ≡ c.first_root-2.new.faults ++ later_of o2 b = c.in_ok-root.ensures.faults
    ∙ ap (λ (xs : List Entry). c.first_root-2.new.faults ++ later_of o2 (keyed root_key xs)) after in
    let told = roots_noted es a g b o1 o2 o3 c.args.known c.first_root.new.faults c.first_root-2.new.faults
    c.first_root-3.new.faults parts e1 e2 found n1 n2 n3 in
    let list_is : tree (list_in o3) ≡ root_tree es = ap (λ (o : Option Entry). tree (list_in o)) found
    ∙ ap tree (list_in-first (roots es)) in
    IfOk-weaker c.read_root.result
    (λ out. out ≡ read 0 (tree (list_in o3)) record {
      parents = [];
      names = [];
      faults = c.first_root-3.new.faults
          ++ unlisted_of o3;
    })
    (λ out. out ≡ read 0 (root_tree es) record {
      parents = [];
      names = [];
      faults = c.args.known ++ root_faults
          (roots es);
    })
    (λ out is. is ∙ (λ i. read 0 (list_is i) record { parents = []; names = []; faults = told i }))
    c.read_root.ensures
