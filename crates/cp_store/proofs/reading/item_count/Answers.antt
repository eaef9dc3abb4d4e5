use Rattle.std.proofs.Common.{◌≡◌, [], length, take, slice_index_or, ◌<◌, ap, subst, arith}
use Rattle.std.proofs.lemmas.List.{length-append}
use Rattle.cp_store.specs.Exchanges.{with_item, items_of}
use Rattle.cp_store.proofs.ReadItems.{items-more}
use Rattle.cp_store.proofs.reading.item_count.Goals as goal

pub loop-entry-preserved : goal.loop-entry-preserved
loop-entry-preserved g c =
    let es = c.args.table.now.entries.items in
    let k = c.loop-entry.entry-index in
    let e = c.entry-item.result in
    let lt = subst (λ xs. k < length xs) c.as_slice-entry-items.ensures.value c.loop-entry-test.true in
    let is = subst (λ xs. e ≡ slice_index_or xs k e) c.as_slice-entry-items.ensures.value c.entry-item.is in
    let more = ap length (items-more es k e lt is) in
    let sum = length-append (items_of (take k es)) (with_item e.item []) in
    (omega (arith, more, sum, c.count_of-count.ensures.value, c.loop-entry.invariant.0), omega (arith, c.count_of-count.ensures.small, c.loop-entry.invariant.1))
