use Rattle.std.proofs.Common.{List, ◌++◌, Option, None, sym, ap, ◌∙◌, append-nil}
use Rattle.cp_gml.specs.declared.tree.Entry.{Entry}
use Rattle.cp_cgraph.specs.Entries.{keyed}
use Rattle.cp_cgraph.specs.GraphFaults.{Fault}
use Rattle.cp_cgraph.specs.Passes.{first_of, later_of}
use Rattle.cp_cgraph.proofs.Reading.{keyed_none, keyed_some}
use Rattle.cp_cgraph.proofs.RootParts.{unfound, root_key}
use Rattle.cp_cgraph.proofs.roots.first_root.Goals as goal

pub returns-in-empty-clause-root : goal.returns-in-empty-clause-root
returns-in-empty-clause-root c =
    sym (ap (λ (o : Option Entry). first_of o (keyed root_key c.args.entries.now))
    (unfound c.args.found (sym c.if-is_some.ensures))
    ∙ ap (first_of None) (keyed_none root_key c.args.entries.now c.from_first.result.now c.from_first.ensures
    c.in-empty.len_below))

pub returns-in-empty-clause-faults : goal.returns-in-empty-clause-faults
returns-in-empty-clause-faults c =
    sym (append-nil c.args.faults.now)
    ∙ sym (ap (λ (fs : List Fault). c.args.faults.now ++ fs)
    (ap (λ (o : Option Entry). later_of o (keyed root_key c.args.entries.now))
    (unfound c.args.found (sym c.if-is_some.ensures))
    ∙ ap (later_of None) (keyed_none root_key c.args.entries.now c.from_first.result.now c.from_first.ensures
    c.in-empty.len_below)))

pub returns-in_ok-note_later-in-len1-up-clause-root : goal.returns-in_ok-note_later-in-len1-up-clause-root
returns-in_ok-note_later-in-len1-up-clause-root c =
    sym (ap (λ (o : Option Entry). first_of o (keyed root_key c.args.entries.now))
    (unfound c.args.found (sym c.if-is_some.ensures))
    ∙ ap (first_of None) (keyed_some root_key c.args.entries.now c.from_first.result.now c.first-item.result
    c.from_first.ensures c.in-len1-up.len_at_least c.first-item.is))

pub returns-in_ok-note_later-in-len1-up-clause-faults : goal.returns-in_ok-note_later-in-len1-up-clause-faults
returns-in_ok-note_later-in-len1-up-clause-faults c =
    c.in_ok-note_later-in-len1-up.ensures
    ∙ sym (ap (λ (fs : List Fault). c.args.faults.now ++ fs)
    (ap (λ (o : Option Entry). later_of o (keyed root_key c.args.entries.now))
    (unfound c.args.found (sym c.if-is_some.ensures))
    ∙ ap (later_of None) (keyed_some root_key c.args.entries.now c.from_first.result.now c.first-item.result
    c.from_first.ensures c.in-len1-up.len_at_least c.first-item.is)))
