-- All cycles have the length of the first one.
use Rattle.std.proofs.Common.{rules, ◌<◌, ◌∙◌, ap, length, slice_index, subst, sym}
use Rattle.cp_poles.specs.Kept.{IsKeptBy}
use Rattle.cp_poles.specs.Layers.{layers}
use Rattle.cp_poles.proofs.CycleOrders.{HaveLength-first, rows-IsKeptBy}
use Rattle.cp_poles.proofs.rows.rows_of_cycles.Goals as goal

pub least_places-requires-clause-one_length : goal.least_places-requires-clause-one_length
least_places-requires-clause-one_length c =
    let some : 0 < length c.args.to.now = search rules in
    HaveLength-first c.args.to.now c.in_ok-perm.perm c.in_ok-perm.ensures some c.requires.one_length
    c.cycle_length-size.result c.cycle_length-size.ensures

pub rows_from-requires-clause-one_length : goal.rows_from-requires-clause-one_length
rows_from-requires-clause-one_length c =
    let some : 0 < length c.args.to.now = search rules in
    HaveLength-first c.args.to.now c.in_ok-perm.perm c.in_ok-perm.ensures some c.requires.one_length
    c.cycle_length-size.result c.cycle_length-size.ensures

pub returns : goal.returns
returns c =
    let to = c.args.to.now in
    let size = c.cycle_length-size.result in
    let some : 0 < length c.args.to.now = search rules in
    subst (IsKeptBy to)
    (sym (c.in_ok-rows.ensures ∙ ap (layers (slice_index to) size) c.in_ok-least.ensures))
    (rows-IsKeptBy to c.requires.permutes size
    (HaveLength-first to c.in_ok-perm.perm c.in_ok-perm.ensures some c.requires.one_length size
    c.cycle_length-size.ensures))
