use Rattle.std.proofs.Common.{rules, ◌≡◌, ◌+◌, length, take, ap, subst, ◌∙◌}
use Rattle.std.specs.Prelude.{IfOk}
use Rattle.std.specs.List.{filter, range_with_len}
use Rattle.cp_sync.specs.FreeNames.{is_free}
use Rattle.cp_sync.proofs.FreeNames.{new_names-table}
use Rattle.cp_sync.proofs.free.least_free.Goals as goal

pub returns : goal.returns
returns c =
    let size : c.in-Some.size ≡ length c.args.live.now + c.args.n = search rules in
    subst (λ xs. IfOk c.first_free.result (λ names. names.items ≡ xs))
    (ap (λ table. take c.args.n (filter (is_free table) (range_with_len 0 (length table)))) c.as_slice.ensures.value
    ∙ new_names-table c.args.live.now c.args.n c.in-Some.size c.in_ok-table.table.items size c.in_ok-table.ensures)
    c.first_free.ensures
