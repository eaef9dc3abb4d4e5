use Rattle.std.proofs.Common.{◌-◌, length, List, ◌++◌, take, drop, sym, ap, ◌∙◌, append_assoc}
use Rattle.std.specs.Prelude.{codes}
use Rattle.cp_cgraph.specs.declared.kind.GraphKind.TheVariants.{SecondGraph}
use Rattle.cp_gml.specs.declared.tree.Entry.{Entry}
use Rattle.cp_cgraph.specs.Entries.{keyed}
use Rattle.cp_cgraph.specs.GraphFaults.{Fault, graph_faults, list_of_first, later, unlisted}
use Rattle.cp_cgraph.proofs.Reading.{keyed_none, keyed_some}
use Rattle.cp_cgraph.proofs.roots.graph_list.Goals as goal

pub returns-in_ok-push-in-empty-clause-list : goal.returns-in_ok-push-in-empty-clause-list
returns-in_ok-push-in-empty-clause-list c =
    sym (ap list_of_first (keyed_none (codes "graph") c.args.entries.now c.from_first.result.now c.from_first.ensures
    c.in-empty.len_below))

pub returns-in_ok-push-in-empty-clause-faults : goal.returns-in_ok-push-in-empty-clause-faults
returns-in_ok-push-in-empty-clause-faults c =
    c.in_ok-push-in-empty.ensures.ok
    ∙ sym (ap (λ (es : List Entry). c.args.faults.now ++ graph_faults c.args.end es)
    (keyed_none (codes "graph") c.args.entries.now c.from_first.result.now c.from_first.ensures
    c.in-empty.len_below))

pub returns-in_ok-note_later-in-len1-up-clause-list : goal.returns-in_ok-note_later-in-len1-up-clause-list
returns-in_ok-note_later-in-len1-up-clause-list c =
    c.in_ok-list-in-len1-up.ensures.list
    ∙ sym (ap list_of_first (keyed_some (codes "graph") c.args.entries.now c.from_first.result.now c.first-item.result
    c.from_first.ensures c.in-len1-up.len_at_least c.first-item.is))

pub returns-in_ok-note_later-in-len1-up-clause-faults : goal.returns-in_ok-note_later-in-len1-up-clause-faults
returns-in_ok-note_later-in-len1-up-clause-faults c =
    let first = c.first-item.result in
    let found = c.from_first.result.now in
    let rest = keyed (codes "graph") (take (length found - 1) (drop 1 found)) in
    c.in_ok-note_later-in-len1-up.ensures
    ∙ ap (λ (fs : List Fault). fs ++ later SecondGraph rest) c.in_ok-list-in-len1-up.ensures.faults
    ∙ append_assoc c.args.faults.now (unlisted first) (later SecondGraph rest)
    ∙ sym (ap (λ (es : List Entry). c.args.faults.now ++ graph_faults c.args.end es)
    (keyed_some (codes "graph") c.args.entries.now found first c.from_first.ensures c.in-len1-up.len_at_least
    c.first-item.is))
