use Rattle.std.proofs.Common.{◌++◌, List, ◌∷◌, ◌-◌, length, take, drop, sym, ap, ◌∙◌, append_assoc}
use Rattle.cp_cgraph.specs.declared.kind.GraphKind.TheVariants.{RepeatedKey}
use Rattle.cp_gml.specs.declared.tree.Entry.{Entry}
use Rattle.cp_cgraph.specs.Entries.{keyed, first_id}
use Rattle.cp_cgraph.specs.GraphFaults.{Fault, id_faults, bad_id, later}
use Rattle.cp_cgraph.proofs.Reading.{keyed_none, keyed_some}
use Rattle.cp_cgraph.proofs.nodes.read_id.Goals as goal

pub returns-in_ok-push-in-empty-clause-id : goal.returns-in_ok-push-in-empty-clause-id
returns-in_ok-push-in-empty-clause-id c =
    sym (ap first_id (keyed_none c.args.key.now c.args.entries.now c.from_first.result.now c.from_first.ensures
    c.in-empty.len_below))

pub returns-in_ok-push-in-empty-clause-faults : goal.returns-in_ok-push-in-empty-clause-faults
returns-in_ok-push-in-empty-clause-faults c =
    c.in_ok-push-in-empty.ensures.ok
    ∙ sym (ap (λ (es : List Entry). c.args.faults.now ++ id_faults c.args.missing es)
    (keyed_none c.args.key.now c.args.entries.now c.from_first.result.now c.from_first.ensures
    c.in-empty.len_below))

pub returns-in_ok-note_later-in-len1-up-clause-id : goal.returns-in_ok-note_later-in-len1-up-clause-id
returns-in_ok-note_later-in-len1-up-clause-id c =
    c.in_ok-id-in-len1-up.ensures.id
    ∙ sym (ap first_id (keyed_some c.args.key.now c.args.entries.now c.from_first.result.now c.first-item.result
    c.from_first.ensures c.in-len1-up.len_at_least c.first-item.is))

pub returns-in_ok-note_later-in-len1-up-clause-faults : goal.returns-in_ok-note_later-in-len1-up-clause-faults
returns-in_ok-note_later-in-len1-up-clause-faults c =
    let first = c.first-item.result in
    let found = c.from_first.result.now in
    let rest = keyed c.args.key.now (take (length found - 1) (drop 1 found)) in
    c.in_ok-note_later-in-len1-up.ensures
    ∙ ap (λ (fs : List Fault). fs ++ later RepeatedKey rest) c.in_ok-id-in-len1-up.ensures.faults
    ∙ append_assoc c.args.faults.now (bad_id (first_id (first ∷ rest)) first.value_at) (later RepeatedKey rest)
    ∙ sym (ap (λ (es : List Entry). c.args.faults.now ++ id_faults c.args.missing es)
    (keyed_some c.args.key.now c.args.entries.now c.from_first.result.now first c.from_first.ensures
    c.in-len1-up.len_at_least c.first-item.is))
