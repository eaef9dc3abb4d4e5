use Rattle.std.proofs.Common.{◌+◌, drop, sym, ap, ◌∙◌}
use Rattle.cp_gml.specs.Trees.{tree}
use Rattle.cp_cgraph.specs.Passes.{read}
use Rattle.cp_cgraph.specs.declared.clusters.Clusters.{Clusters}
use Rattle.cp_cgraph.proofs.Walk.{read_next, read_cluster, read_vertex, read_other}
use Rattle.cp_cgraph.proofs.clusters.+walk.Goals as goal

pub read_entry-returns-in_ok-read_list : goal.read_entry-returns-in_ok-read_list
read_entry-returns-in_ok-read_list t c =
    let e = c.args.entry.now in
    c.in_ok-read_list.ensures
    ∙ read_cluster c.args.cluster e.key e.key_at (sym c.if-has_key.ensures) e.value c.in-List.list e.value_at
    c.args.out.now c.push.new.self c.len.result c.in-List.is c.in_ok-push.ensures.ok c.len.ensures

pub read_entry-returns-in_ok-read_name : goal.read_entry-returns-in_ok-read_name
read_entry-returns-in_ok-read_name t c =
    let e = c.args.entry.now in
    c.in_ok-read_name.ensures
    ∙ read_vertex c.args.cluster e.key e.key_at (sym c.if-has_key.ensures) (sym c.if-has_key-2.ensures) e.value
    e.value_at c.args.out.now

pub read_entry-returns-else-has_key-2 : goal.read_entry-returns-else-has_key-2
read_entry-returns-else-has_key-2 t c =
    let e = c.args.entry.now in
    read_other c.args.cluster e.key e.key_at (sym c.if-has_key.ensures) (sym c.if-has_key-2.ensures) e.value e.value_at
    c.args.out.now

pub read_list-entries-preserved : goal.read_list-entries-preserved
read_list-entries-preserved t c =
    let es = c.items-entry-items.result.now in
    let i = c.entries.entry-index in
    ap (λ (s : Clusters). read c.args.cluster (tree (drop (i + 1) es)) s) c.in_ok-read_entry.ensures
    ∙ sym (read_next c.args.cluster es i c.entry-item.result c.entries.out c.entries-test.true c.entry-item.is)
    ∙ c.entries.invariant
