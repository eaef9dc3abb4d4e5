use Rattle.std.proofs.Common.{◌≡◌, ◌++◌, [], length, slice_index_or, ◌<◌, sym, ap, ◌∙◌, subst}
use Rattle.cp_store.specs.Exchanges.{with_item}
use Rattle.cp_store.proofs.ReadItems.{items-more}
use Rattle.cp_store.proofs.reading.copied_table.Goals as goal

pub loop-entry-preserved : goal.loop-entry-preserved
loop-entry-preserved g c =
    let es = c.args.table.now.entries.items in
    let k = c.loop-entry.entry-index in
    let e = c.entry-item.result in
    let lt = subst (λ xs. k < length xs) c.as_slice-entry-items.ensures.value c.loop-entry-test.true in
    let is = subst (λ xs. e ≡ slice_index_or xs k e) c.as_slice-entry-items.ensures.value c.entry-item.is in
    c.in_ok-append_copy.ensures ∙ ap (λ xs. xs ++ with_item e.item []) c.loop-entry.invariant ∙ sym (items-more es k e lt is)
