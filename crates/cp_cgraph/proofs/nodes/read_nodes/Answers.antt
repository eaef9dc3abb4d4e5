use Rattle.std.proofs.Common.{◌≡◌, ◌+◌, List, ◌∷◌, ◌++◌, drop, sym, ap, ◌∙◌}
use Rattle.std.specs.Prelude.{codes}
use Rattle.std.specs.List.{flat_map}
use Rattle.cp_gml.specs.declared.tree.Entry.{Entry}
use Rattle.cp_cgraph.specs.Entries.{keyed}
use Rattle.cp_cgraph.specs.GraphFaults.{ids_of_node, nodes_faults}
use Rattle.cp_cgraph.proofs.NodeSteps.{keyed_here, keyed_later, ids_next, nodes_faults_next}
use Rattle.cp_cgraph.proofs.nodes.read_nodes.Goals as goal
use Rattle.cp_cgraph.proofs.nodes.read_nodes.Goals.{then-has_key+in_ok-ids, else-has_key}

pub nodes-preserved : goal.nodes-preserved
nodes-preserved c =
    let es = c.args.entries.now in
    let i = c.nodes.entry-index in
    let e = c.entry-item.result in
    let rest = keyed (codes "node") (drop (i + 1) es) in
    let from = keyed (codes "node") (drop i es) in
    let ids = c.nodes.ids in
    let faults = c.nodes.faults in
    elim c.if-has_key.branch [
      | then-has_key+in_ok-ids w ↦
          let here : from ≡ e ∷ rest =
          keyed_here (codes "node") es i e c.nodes-test.true c.entry-item.is
          (sym c.has_key.ensures ∙ w.if-has_key.true) in
          let ids_are = w.ids-is ∙ w.in_ok-ids.ensures.ids in
          record {
            ids_are = ids_next ids c.if-has_key.ids faults c.if-has_key.faults e rest from here ids_are
                ∙ c.nodes.invariant.ids_are;
            faults_are = nodes_faults_next ids c.if-has_key.ids faults c.if-has_key.faults e rest from here ids_are
                (w.faults-is ∙ w.in_ok-ids.ensures.faults) ∙ c.nodes.invariant.faults_are;
          }
      | else-has_key w ↦
          let later : from ≡ rest =
          keyed_later (codes "node") es i e c.nodes-test.true c.entry-item.is
          (sym c.has_key.ensures ∙ w.if-has_key.false) in
          rw (w.ids-is, w.faults-is)
          (record {
            ids_are = sym (ap (λ (xs : List Entry). ids ++ flat_map ids_of_node xs) later) ∙ c.nodes.invariant.ids_are;
            faults_are = sym (ap (λ (xs : List Entry). faults ++ nodes_faults ids xs) later)
                ∙ c.nodes.invariant.faults_are;
          })
    ]
