use Rattle.std.proofs.Common.{ℕ, ◌+◌, List, true, false, refl, ap, ◌∙◌}
use Rattle.std.proofs.lemmas.Result.{err_from_is_err_and}
use Rattle.std.proofs.lemmas.List.{take_rest}
use Rattle.cp_gml.specs.Scans.{leaf_over}
use Rattle.cp_gml.specs.Trees.{leaf}
use Rattle.cp_gml.specs.Machine.{state, StopsHere, Faults}
use Rattle.cp_gml.specs.Moves.{IsKey, IsLeaf, OpensList}
use Rattle.cp_gml.proofs.Fronts.{Faults_here}
use Rattle.cp_gml.proofs.Reading.{IfFault-weaker, Faults_in_entries, Faults_in_value, Faults_in_list, AreEntries_more, leaf_IsEntry, list_IsEntry}
use Rattle.cp_gml.proofs.reader.+reader.Goals as goal

pub entries_from-returns-in_err-end-clause-fault : goal.entries_from-returns-in_err-end-clause-fault
entries_from-returns-in_err-end-clause-fault t c =
    let text = c.args.text.now in
    let s = state c.args.level false in
    let p = err_from_is_err_and c.from_residual.result c.from_residual.ensures.1 in
    rw (p.1, p.2) (IfFault-weaker _ (StopsHere text c.reading.at s) (Faults text c.args.from s)
    (λ kind at stops. Faults_in_entries text c.args.level c.reading.entries c.args.from c.reading.at kind at
    c.reading.invariant stops) c.in_err-end.ensures.fault)

pub entries_from-returns-in_err-read-in-Key-clause-fault : goal.entries_from-returns-in_err-read-in-Key-clause-fault
entries_from-returns-in_err-read-in-Key-clause-fault t c =
    let text = c.args.text.now in
    let level = c.args.level in
    let key : IsKey text c.reading.at c.in-Key.key_at c.in-Key.behind = rw c.in-Key.is at c.in_ok-end.ensures.fits in
    let p = err_from_is_err_and c.from_residual-in_err-read-in-Key.result
    c.from_residual-in_err-read-in-Key.ensures.1 in
    rw (p.1, p.2) (IfFault-weaker _ (Faults text c.in-Key.behind (state level true))
    (Faults text c.args.from (state level false))
    (λ kind at f. Faults_in_value text level c.reading.entries c.args.from c.reading.at c.in-Key.key_at c.in-Key.behind
    kind at c.reading.invariant key f) c.in_err-read-in-Key.ensures.fault)

pub entries_from-reading-preserved : goal.entries_from-reading-preserved
entries_from-reading-preserved t c =
    let text = c.args.text.now in
    let key : IsKey text c.reading.at c.in-Key.key_at c.in-Key.behind = rw c.in-Key.is at c.in_ok-end.ensures.fits in
    rw c.in_ok-push-in-Key.ensures.ok (AreEntries_more text c.args.level c.reading.entries
    c.in_ok-read-in-Key.read.entry c.args.from c.reading.at c.in-Key.key_at c.in-Key.behind
    c.in_ok-read-in-Key.read.behind
    c.reading.invariant key c.in_ok-read-in-Key.ensures.entry)

pub entry_at-returns-in_err-at-clause-fault : goal.entry_at-returns-in_err-at-clause-fault
entry_at-returns-in_err-at-clause-fault t c =
    let text = c.args.text.now in
    let s = state c.args.level true in
    let p = err_from_is_err_and c.from_residual-in_err-at.result c.from_residual-in_err-at.ensures.1 in
    rw (p.1, p.2) (IfFault-weaker _ (StopsHere text c.args.from s) (Faults text c.args.from s)
    (λ kind at stops. Faults_here text c.args.from s kind at stops) c.in_err-at.ensures.fault)

pub entry_at-returns-in_err-list-in-Opens-clause-fault : goal.entry_at-returns-in_err-list-in-Opens-clause-fault
entry_at-returns-in_err-list-in-Opens-clause-fault t c =
    let text = c.args.text.now in
    let level = c.args.level in
    let opens : OpensList text c.args.from level c.in-Opens.at = rw c.in-Opens.is at c.in_ok-at.ensures.fits in
    let p = err_from_is_err_and c.from_residual-in_err-list-in-Opens.result
    c.from_residual-in_err-list-in-Opens.ensures.1 in
    rw (p.1, p.2) (IfFault-weaker _ (Faults text (c.in-Opens.at + 1) (state (level + 1) false))
    (Faults text c.args.from (state level true))
    (λ kind at f. Faults_in_list text level c.args.from c.in-Opens.at kind at opens f)
    c.in_err-list-in-Opens.ensures.fault)

pub entry_at-returns-in_ok-value-in-Leaf-clause-entry : goal.entry_at-returns-in_ok-value-in-Leaf-clause-entry
entry_at-returns-in_ok-value-in-Leaf-clause-entry t c =
    let found : IsLeaf c.args.text.now c.args.from c.in-Leaf.at c.in-Leaf.behind c.in-Leaf.plain =
    rw c.in-Leaf.is at c.in_ok-at.ensures.fits in
    leaf_IsEntry c.args.text.now c.args.level _ c.args.key_at c.args.from c.in-Leaf.at c.in-Leaf.behind c.in-Leaf.plain
    c.in_ok-key.ensures refl refl
    (λ key key_at at rest. c.in_ok-value-in-Leaf.ensures key key_at at rest
    ∙ ap (λ (bs : List ℕ). leaf key key_at (leaf_over c.in-Leaf.plain bs) at rest)
    (take_rest c.args.text.now c.in-Leaf.at)) c.requires.shallow found

pub entry_at-returns-in_ok-list-in-Opens-clause-entry : goal.entry_at-returns-in_ok-list-in-Opens-clause-entry
entry_at-returns-in_ok-list-in-Opens-clause-entry t c =
    let opens : OpensList c.args.text.now c.args.from c.args.level c.in-Opens.at =
    rw c.in-Opens.is at c.in_ok-at.ensures.fits in
    list_IsEntry c.args.text.now c.args.level _ c.in_ok-list-in-Opens.list c.args.key_at c.args.from c.in-Opens.at
    c.in_ok-key.ensures refl refl refl opens c.in_ok-list-in-Opens.ensures.list
